-- Words that ask only for help or the version.
use Rattle.std.proofs.Common.{◌≡◌, List, [], ◌∷◌, codes, refl, sym, subst, inl, inr}
use Rattle.clap.specs.Words.{IsAmong, Text, fault_of}
use Rattle.clap.proofs.OnLiterals.{clap_on_literals}
use Rattle.clap.specs.declared.error.kind.ErrorKind.{ErrorKind}
use Rattle.clap.specs.declared.error.kind.ErrorKind.TheVariants.{DisplayHelp, DisplayVersion}
use Rattle.program_arguments.specs.Asking.{AsksHelp, HasFault, IsHelp, command_line}

-- words whose only fault is a request for help
pub alone : (words : List Text) (kind : ErrorKind) → IsHelp kind → fault_of command_line words ≡ kind ∷ []
    → AsksHelp words × (HasFault words → ⊥)
alone words kind is e = (
  (kind, subst (IsAmong kind) (sym e) (inl refl), is),
  λ fault. elim (subst (IsAmong fault.0) e fault.1) [
    | inl same ↦ fault.2 (subst (λ (k : ErrorKind). IsHelp k) (sym same) is)
    | inr none ↦ none
  ],
)

pub long_help : (name : Text) (rest : List Text) → fault_of command_line (name ∷ codes "--help" ∷ rest)
    ≡ DisplayHelp ∷ []
unfolding clap_on_literals
long_help name rest = refl

pub short_help : (name : Text) (rest : List Text) → fault_of command_line (name ∷ codes "-h" ∷ rest) ≡ DisplayHelp ∷ []
unfolding clap_on_literals
short_help name rest = refl

pub long_version : (name : Text) (rest : List Text)
    → fault_of command_line (name ∷ codes "--version" ∷ rest) ≡ DisplayVersion ∷ []
unfolding clap_on_literals
long_version name rest = refl

pub short_version : (name : Text) (rest : List Text)
    → fault_of command_line (name ∷ codes "-V" ∷ rest) ≡ DisplayVersion ∷ []
unfolding clap_on_literals
short_version name rest = refl
