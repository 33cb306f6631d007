use Rattle.std.proofs.Common.{◌∙◌}
use Rattle.std.specs.Prelude.{codes, decimal}
use Rattle.program_jobs.proofs.Texts.{six_appended_ok}
use Rattle.program_jobs.proofs.hint.write_newer.Goals as goal

pub returns : goal.returns
returns g c = six_appended_ok c.append_three-2.result c.args.out.now.items (codes "the tables have ")
    c.args.bound.now.interface.now (codes " up to version ") c.as_bytes-most.result.now
    (codes ", and it is bound at ") c.as_bytes-named.result.now c.append_three.new.out.items
    c.append_three-2.new.out.items (decimal c.args.known)
    (decimal c.args.bound.now.version) c.in_ok-append_three.ensures c.append_three-2.ensures (c.as_bytes-most.ensures.value ∙ c.format.ensures.text)
    (c.as_bytes-named.ensures.value ∙ c.format-2.ensures.text)
