use Rattle.std.proofs.Common.{◌∙◌, ap}
use Rattle.std.specs.Prelude.{map, string_bytes}
use Rattle.std.proofs.lemmas.Result.{IfOk-weaker}
use Rattle.clap.specs.Words.{found_of}
use Rattle.clap.proofs.WalkLemmas.{raw_values-rows}
use Rattle.program_arguments.specs.Asking.{or_none}
use Rattle.program_arguments.proofs.job.words_of.Goals as goal

pub returns-in-Some : goal.returns-in-Some
returns-in-Some c =
    let got = c.get_strs.ensures ∙ raw_values-rows (found_of c.args.matches.now) c.args.name.now in
    let some = ap or_none (rw c.in-Some.is at got) in
    IfOk-weaker c.texts.result _ _ (λ r same. same ∙ some) c.texts.ensures

pub returns-in-None : goal.returns-in-None
returns-in-None c =
    let got = c.get_strs.ensures ∙ raw_values-rows (found_of c.args.matches.now) c.args.name.now in
    ap (map string_bytes) c.new.ensures.items ∙ ap or_none (rw c.in-None.is at got)
