use Rattle.std.proofs.Common.{◌∷◌, codes}
use Rattle.clap.specs.declared.error.kind.ErrorKind.TheVariants.{DisplayHelp}
use Rattle.program_arguments.proofs.Help.{alone, long_help, short_help}
use Rattle.program_arguments.proofs.laws.help_has_its_words.Goals as goal

pub returns : goal.returns
returns c = record {
  long = λ name rest. alone (name ∷ codes "--help" ∷ rest) DisplayHelp tt (long_help name rest);
  short = λ name rest. alone (name ∷ codes "-h" ∷ rest) DisplayHelp tt (short_help name rest);
}
