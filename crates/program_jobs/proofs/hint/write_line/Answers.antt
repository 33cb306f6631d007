use Rattle.program_jobs.proofs.Texts.{three_appended_ok}
use Rattle.program_jobs.proofs.hint.write_line.Goals as goal

pub returns : goal.returns
returns g c = three_appended_ok c.extend_from_slice-2.result c.args.out.now.items _ _ _ _ _ _
    c.in_ok-extend_from_slice.ensures.items c.in_ok-write_lack.ensures c.extend_from_slice-2.ensures.items
