-- A bind can spell the name of every interface of the tables.
use Rattle.std.proofs.Common.{◌≢◌, ℕ, List, arith, inl, inr}
use Rattle.std.proofs.lemmas.List.Elements.{All-weaker}
use Rattle.wl_wire.specs.Spelling.{IsText}
use Rattle.wl_sigs.specs.Valid.{IsTableName, IsNameByte}
use Rattle.wl_client.specs.Binding.{FitsBind}

not_zero : (b : ℕ) → IsNameByte b → b ≢ 0
not_zero b (inl h) e = omega arith
not_zero b (inr (inl h)) e = omega arith
not_zero b (inr (inr h)) e = omega arith

text : (name : List ℕ) → IsTableName name → IsText name
text name h = record { no_nul = All-weaker IsNameByte (λ b. b ≢ 0) not_zero name h.bytes; len = omega (arith, h.few) }

pub name_fits : (name : List ℕ) → IsTableName name → FitsBind name
name_fits name h = record {
  fits = λ n version id. (tt, (text name h, tt));
  len = λ n version id. omega (arith, h.few);
}
