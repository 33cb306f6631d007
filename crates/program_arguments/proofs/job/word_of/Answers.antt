use Rattle.std.proofs.Common.{◌∙◌}
use Rattle.clap.specs.Words.{found_of}
use Rattle.clap.proofs.WalkLemmas.{first_value-rows}
use Rattle.program_arguments.proofs.job.word_of.Goals as goal

pub returns-in_ok-from_str-in-Some : goal.returns-in_ok-from_str-in-Some
returns-in_ok-from_str-in-Some c =
    let got = c.get_str.ensures ∙ first_value-rows (found_of c.args.matches.now) c.args.name.now in
    let some = rw c.in-Some.is at got in
    let text = c.in_ok-from_str-in-Some.ensures.ok in
    rw text (some)

pub returns-in-None : goal.returns-in-None
returns-in-None c =
    let got = c.get_str.ensures ∙ first_value-rows (found_of c.args.matches.now) c.args.name.now in
    rw c.in-None.is at got
