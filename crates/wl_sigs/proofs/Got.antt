-- What `get` on a slice returns.
use Rattle.std.proofs.Common.{◌≡◌, ℕ, List, length, ltb, sym, get_or, slice_get, Option, Some, None, refl}
use Rattle.std.specs.Prelude.{is_some, option_copied, IfSome}
use Rattle.std.proofs.lemmas.Bool.{ltb-true, ltb-false}
use Rattle.std.proofs.lemmas.Option.{slice_get_past, slice_get_read}
use denote.Ref.{Bor}

pub got : {X : Type 0} (r : Option (Bor X)) (xs : List X) (i : ℕ) → is_some r ≡ ltb i (length xs)
    → IfSome r (λ x. x.now ≡ get_or xs i x.now) → option_copied r ≡ slice_get xs i
got None xs i some is = sym (slice_get_past xs i (ltb-false i (length xs) (sym some)))
got (Some x) xs i some is = sym (slice_get_read xs (length xs) i x.now refl (ltb-true i (length xs) (sym some)) is)
