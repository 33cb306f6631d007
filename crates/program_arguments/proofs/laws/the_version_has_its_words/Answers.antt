use Rattle.std.proofs.Common.{◌∷◌, codes}
use Rattle.clap.specs.declared.error.kind.ErrorKind.TheVariants.{DisplayVersion}
use Rattle.program_arguments.proofs.Help.{alone, long_version, short_version}
use Rattle.program_arguments.proofs.laws.the_version_has_its_words.Goals as goal

pub returns : goal.returns
returns c = record {
  long = λ name rest. alone (name ∷ codes "--version" ∷ rest) DisplayVersion tt (long_version name rest);
  short = λ name rest. alone (name ∷ codes "-V" ∷ rest) DisplayVersion tt (short_version name rest);
}
