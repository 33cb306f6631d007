-- Loops over lists of moves.
use Rattle.std.proofs.Common.{◌≡◌, ℕ, ◌+◌, ◌<◌, ◌≤◌, List, [], ◌∷◌, ◌++◌, length, map, take, get_or}
use Rattle.std.proofs.Common.{refl, sym, ap, subst, ◌∙◌, arith}
use Rattle.std.specs.List.{All}
use Rattle.std.proofs.lemmas.List.{take_more, map-append}
use Rattle.std.proofs.lemmas.List.Elements.{All-push}
use Rattle.theory_connection.specs.World.{Each}
use Rattle.theory_connection.specs.Pair.{PairState, Does}
use Rattle.theory_connection.specs.Pair as world
use Rattle.theory_connection.specs.Runs.{DoesAll, IsMove}

pub one_more : {X : Type 0} (xs : List X) (i : ℕ) (x : X) → i < length xs → x ≡ get_or xs i x
    → take (i + 1) xs ≡ take i xs ++ x ∷ []
one_more xs i x h e = take_more xs i x h ∙ ap (λ y. take i xs ++ y ∷ []) (sym e)

-- the greatest so far
pub most_more : {X : Type 0} (f : X → ℕ) (xs : List X) (i most next : ℕ) (x : X) → i < length xs → x ≡ get_or xs i x
    → All (λ y. f y ≤ most) (take i xs) → most ≤ next → f x ≤ next
    → All (λ y. f y ≤ next) (take (i + 1) xs)
most_more {X = X} f xs i most next x h e a l k =
    subst (All (λ y. f y ≤ next)) (sym (one_more xs i x h e))
    (All-push (λ y. f y ≤ next) (take i xs) x (λ n d m. let b = a n d m in omega (arith, b, l)) k)

pub at_index : {X : Type 0} (P : X → Type 0) (xs : List X) (i : ℕ) (x : X) → i < length xs → x ≡ get_or xs i x
    → All P xs → P x
at_index P xs i x h e a = subst P (sym e) (a i x h)

does_more : (p last next : PairState) (moves : List world.Move) (replies : List world.Reply) (move : world.Move)
    (reply : world.Reply) → DoesAll p moves replies last → Does last move reply next
    → DoesAll p (moves ++ move ∷ []) (replies ++ reply ∷ []) next
does_more p last next [] [] move reply d e = (next, subst (λ (q : PairState). Does q move reply next) (sym d) e, refl)
does_more p last next [] (r ∷ replies) move reply d e = absurd d
does_more p last next (m ∷ moves) [] move reply d e = absurd d
does_more p last next (m ∷ moves) (r ∷ replies) move reply d e =
    (d.0, d.1, does_more d.0 last next moves replies move reply d.2 e)

each_more : {X : Type 0} (P : X → Type 0) (xs : List X) (x : X) → Each P xs → P x → Each P (xs ++ x ∷ [])
each_more P [] x e p = (p, tt)
each_more P (y ∷ xs) x e p = (e.0, each_more P xs x e.1 p)

-- the moves that were done so far, and the next one
pub done_more : {X Y : Type 0} (f : X → world.Move) (g : Y → world.Reply) (p last next : PairState) (xs : List X)
    (i : ℕ) (x : X) (ys now : List Y) (y : Y) → i < length xs → x ≡ get_or xs i x → now ≡ ys ++ y ∷ []
    → DoesAll p (map f (take i xs)) (map g ys) last → Does last (f x) (g y) next
    → DoesAll p (map f (take (i + 1) xs)) (map g now) next
done_more f g p last next xs i x ys now y h e n d s =
    let moves : map f (take (i + 1) xs) ≡ map f (take i xs) ++ f x ∷ [] =
    ap (map f) (one_more xs i x h e) ∙ map-append f (take i xs) (x ∷ []) in
    let replies : map g now ≡ map g ys ++ g y ∷ [] = ap (map g) n ∙ map-append g ys (y ∷ []) in
    subst (λ (ms : List world.Move). DoesAll p ms (map g now) next) (sym moves)
    (subst (λ (rs : List world.Reply). DoesAll p (map f (take i xs) ++ f x ∷ []) rs next) (sym replies)
    (does_more p last next (map f (take i xs)) (map g ys) (f x) (g y) d s))

pub each_next : {X : Type 0} (f : X → world.Move) (xs : List X) (i : ℕ) (x : X) → i < length xs → x ≡ get_or xs i x
    → Each IsMove (map f (take i xs)) → IsMove (f x) → Each IsMove (map f (take (i + 1) xs))
each_next f xs i x h e a m =
    let moves : map f (take (i + 1) xs) ≡ map f (take i xs) ++ f x ∷ [] =
    ap (map f) (one_more xs i x h e) ∙ map-append f (take i xs) (x ∷ []) in
    subst (Each IsMove) (sym moves) (each_more IsMove (map f (take i xs)) (f x) a m)
