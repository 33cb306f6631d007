-- The line that an error names is the first bad line of the text.
use Rattle.std.proofs.Common.{◌≡◌, ℕ, List, ap, ◌∙◌, sym, inl, inr, ◌⊎◌, subst}
use Rattle.wl_recording.specs.declared.recording.RecordingError.{RecordingError}
use Rattle.wl_recording.specs.declared.recording.RecordingError.TheVariants.{BadLine, Memory}
use Rattle.wl_recording.specs.Text.{IsFirstBad}

-- the line that an error names; 0 if it names none
abbrev line_in : RecordingError → ℕ
line_in (BadLine n) = n
line_in Memory = 0

pub first_bad_of : (text : List ℕ) (e : RecordingError) (n : ℕ) → e ≡ BadLine n
    → (e ≡ Memory) ⊎ ((m : ℕ) × (e ≡ BadLine m) × IsFirstBad text m) → IsFirstBad text n
first_bad_of text e n is refused = elim refused [
  | inl memory ↦ absurd (let no : BadLine n ≡ Memory = sym is ∙ memory in cc no)
  | inr found ↦ subst (λ (m : ℕ). IsFirstBad text m) (ap line_in (sym found.1 ∙ is)) found.2
]
