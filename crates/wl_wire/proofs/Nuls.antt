-- A search for a byte 0 finds whether there is one.
use Rattle.std.proofs.Common.{◌≡◌, ℕ, ◌<◌, ◌-◌, ◌^◌, ◌↔◌, List, Option, Some, None, Bool, true}
use Rattle.std.proofs.Common.{false, is_some, length, not, refl, sym, ap, ◌∙◌, arith}
use Rattle.std.proofs.lemmas.Bool.{false_from_ne_true, false≢true, true≢false, ne_eqb}
use Rattle.std.proofs.lemmas.Grind.{get_or_default_zero}
use Rattle.std.proofs.lemmas.List.Folds.{list_any_none, list_any_at}
use Rattle.std.specs.Prelude.{IsTrue}
use Rattle.memchr.specs.Find.{IsFirstByte, is_byte}
use Rattle.wl_wire.specs.Spelling.{IsText, has_nul}
use Rattle.wl_wire.proofs.Answered.{no_zero}

pub nul_searched : (text : List ℕ) (found : Option ℕ) → IsFirstByte (is_byte 0) text found
    → is_some found ≡ has_nul text
nul_searched text None nowhere =
    sym (list_any_none (is_byte 0) text (λ k d q. false_from_ne_true _
    (λ t. nowhere k (omega arith) q (sym (ap (is_byte 0) (get_or_default_zero text k d q)) ∙ t))))
nul_searched text (Some k) found = sym (list_any_at (is_byte 0) text k 0 found.0.high found.1)

pub text_is : (text : List ℕ) (found : Bool) → found ≡ has_nul text → length text < 2 ^ 32 - 1
    → IsTrue (not found) ↔ IsText text
text_is text true e short = (
  λ no. absurd (false≢true no),
  λ is. absurd
      (true≢false (e ∙ list_any_none (is_byte 0) text (λ k d q. ne_eqb _ 0 (is.no_nul k d q)))),
)
text_is text false e short = (λ _. record { no_nul = no_zero text (sym e); len = omega arith }, λ _. refl)
