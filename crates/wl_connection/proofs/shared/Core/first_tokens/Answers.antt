use Rattle.std.proofs.Common.{◌≡◌, ℕ, ◌+◌, ◌<◌, zero, suc, List, [], ◌∷◌, length, get_or, slice_set}
use Rattle.std.proofs.Common.{slice_get, unwrap_or, refl, ap, ◌∙◌, arith}
use Rattle.std.proofs.lemmas.List.{length-set, get_or-set_same, get_or-set_other}
use Rattle.std.proofs.lemmas.Bool.{cases_eq}
use Rattle.std.proofs.lemmas.Grind.{common_steps}
use Rattle.wl_connection.proofs.shared.Core.first_tokens.Goals as goal

got : (ys : List ℕ) (n : ℕ) → unwrap_or (slice_get ys n) 0 ≡ get_or ys n 0
got [] n = refl
got (y ∷ ys) zero = refl
got (y ∷ ys) (suc n) = got ys n

set-next : (xs ys : List ℕ) (n x : ℕ) → n < length xs → ((k : ℕ) → k < n → get_or xs k 0 ≡ get_or ys k 0)
    → x ≡ unwrap_or (slice_get ys n) 0
    → (k : ℕ) → k < n + 1 → get_or (slice_set xs n x) k 0 ≡ get_or ys k 0
set-next xs ys n x l h e k b = let f = h k in let t = got ys n
    in grind (arith, common_steps, get_or-set_same, get_or-set_other, cases_eq k n, f, t, e, l, b)

pub places-preserved : goal.places-preserved
places-preserved g c =
    let here : c.places.place < length c.places.tokens = omega (arith, c.places.invariant.len, c.places-test.true) in
    record {
      len = length-set c.places.tokens c.places.place c.unwrap_or.result ∙ c.places.invariant.len;
      same = set-next c.places.tokens c.self.inside.inbox.tokens c.places.place c.unwrap_or.result here
          c.places.invariant.same
          (c.unwrap_or.ensures ∙ ap (λ o. unwrap_or o 0) c.token.ensures);
    }
