-- A text has exactly one list of pieces, or exactly one first bad line.
use Rattle.std.proofs.Common.{◌≡◌, ℕ, List, ap, ◌∙◌, inl, inr, ◌⊎◌, subst}
use Rattle.std.specs.Prelude.{Result, Ok, Err, IfOk, IfErr, MatchResult}
use Rattle.wl_recording.specs.declared.recording.RecordingError.{RecordingError}
use Rattle.wl_recording.specs.declared.recording.RecordingError.TheVariants.{BadLine, Memory}
use Rattle.wl_recording.specs.Piece.{Piece}
use Rattle.wl_recording.specs.Text.{TextRecords, IsFirstBad}
use Rattle.wl_recording.proofs.TextLemmas.{IsRefused, told_not_bad, tell_once, one_first_bad}

abbrev pub TellsSo : {X : Type 0} → List ℕ → (List Piece → X → Type 0) → X → Type 0
TellsSo text P x = (pieces : List Piece) × TextRecords text pieces × P pieces x

pub only_so : {X : Type 0} (text : List ℕ) (r : Result X RecordingError) (P : List Piece → X → Type 0)
    → IfOk r (TellsSo text P) → IfErr r (IsRefused text)
    → (pieces : List Piece) → TextRecords text pieces → MatchResult r (P pieces) (λ e. e ≡ Memory)
only_so text (Ok x) P ok err pieces told = subst (λ (ps : List Piece). P ps x) (tell_once ok.1 told) ok.2
only_so text (Err e) P ok err pieces told = elim err [
  | inl memory ↦ memory
  | inr bad ↦ absurd (told_not_bad text pieces bad.0 told bad.2)
]

pub first_so : {X : Type 0} (text : List ℕ) (r : Result X RecordingError) (P : List Piece → X → Type 0)
    → IfOk r (TellsSo text P) → IfErr r (IsRefused text)
    → (n : ℕ) → IsFirstBad text n → (r ≡ Err (BadLine n)) ⊎ (r ≡ Err Memory)
first_so text (Ok x) P ok err n bad = absurd (told_not_bad text ok.0 n ok.1 bad)
first_so text (Err e) P ok err n bad = elim err [
  | inl memory ↦ inr (ap Err memory)
  | inr found ↦ inl (ap Err (found.1 ∙ ap BadLine (one_first_bad text found.0 n found.2 bad)))
]

pub if_ok_so : {X E : Type 0} (r : Result X E) (P Q : X → Type 0) (R : E → Type 0) → ((x : X) → P x → Q x)
    → MatchResult r P R → IfOk r Q
if_ok_so (Ok x) P Q R f h = f x h
if_ok_so (Err e) P Q R f h = tt
