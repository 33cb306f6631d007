use Rattle.std.proofs.Common.{◌≡◌, ◌∙◌, true, List, [], Option, refl, ap, sym, subst}
use Rattle.clap.specs.Words.{App, Row, Text, fault_of, is_simple, is_simple_and_free, subcommand_of, subcommand_rows_of}
use Rattle.clap.proofs.OnLiterals.{clap_on_literals}
use Rattle.program_arguments.specs.Asking.{NamesJob, command_line, texts_of}
use Rattle.program_arguments.proofs.job.parsed.Goals as goal

-- the command line is of the kind that the parser's contracts cover completely
whole : is_simple_and_free command_line ≡ true
unfolding clap_on_literals
whole = refl

simple : is_simple command_line ≡ true
unfolding clap_on_literals
simple = refl

pub returns-clause-asked : goal.returns-clause-asked
returns-clause-asked c =
    let line = c.in_ok-command.ensures in
    let found : subcommand_rows_of c.in_ok-matches.matches ≡ subcommand_of command_line (texts_of c.args.words.now) =
    (c.in_ok-matches.ensures.matches (ap is_simple line ∙ simple)).1
    ∙ ap (λ (a : App). subcommand_of a (texts_of c.args.words.now)) line in
    let faultless : fault_of command_line (texts_of c.args.words.now) ≡ [] =
    ap (λ (a : App). fault_of a (texts_of c.args.words.now)) (sym line)
    ∙ c.in_ok-matches.ensures.kinds (ap is_simple_and_free line ∙ whole) in (
      faultless,
      subst (λ (o : Option (Text × List Row)). NamesJob o c.in_ok-chosen.field-0) found
          c.in_ok-chosen.ensures,
    )
