-- Lists that grow at the end, and the part behind the old end.
use Rattle.std.proofs.Common.{◌≡◌, List, [], ◌++◌, length, take, drop, map, refl, sym, ap, ◌∙◌, arith}
use Rattle.std.proofs.lemmas.List.{append_assoc, map-append, take-append-drop, take_all, drop_all, take_at, drop_at}

pub kept_same : {X : Type 0} (xs : List X) → take (length xs) xs ≡ xs
kept_same xs = take_all (length xs) xs (omega arith)

pub none_behind : {X R : Type 0} (f : X → R) (xs : List X) → map f (drop (length xs) xs) ≡ []
none_behind f xs = ap (map f) (drop_all (length xs) xs (omega arith))

pub kept_is : {X : Type 0} (xs ys : List X) → take (length xs) ys ≡ xs → ys ≡ xs ++ drop (length xs) ys
kept_is xs ys h = sym (take-append-drop (length xs) ys) ∙ ap (λ l. l ++ drop (length xs) ys) h

pub kept_more : {X : Type 0} (xs ys : List X) → take (length xs) (xs ++ ys) ≡ xs
kept_more xs ys = take_at xs ys (length xs) refl

pub more_behind : {X R : Type 0} (f : X → R) (xs ys : List X) → map f (drop (length xs) (xs ++ ys)) ≡ map f ys
more_behind f xs ys = ap (map f) (drop_at xs ys (length xs) refl)

pub kept_again : {X : Type 0} (xs ys zs : List X) → take (length xs) ys ≡ xs → take (length ys) zs ≡ ys
    → take (length xs) zs ≡ xs
kept_again xs ys zs h g =
    let a = drop (length xs) ys in
    let b = drop (length ys) zs in
    let y = kept_is xs ys h in
    let z : zs ≡ xs ++ (a ++ b) = kept_is ys zs g ∙ ap (λ l. l ++ b) y ∙ append_assoc xs a b in
    ap (take (length xs)) z ∙ kept_more xs (a ++ b)

pub behind_again : {X R : Type 0} (f : X → R) (xs ys zs : List X) → take (length xs) ys ≡ xs → take (length ys) zs ≡ ys
    → map f (drop (length xs) zs) ≡ map f (drop (length xs) ys) ++ map f (drop (length ys) zs)
behind_again f xs ys zs h g =
    let a = drop (length xs) ys in
    let b = drop (length ys) zs in
    let y = kept_is xs ys h in
    let z : zs ≡ xs ++ (a ++ b) = kept_is ys zs g ∙ ap (λ l. l ++ b) y ∙ append_assoc xs a b in
    ap (λ l. map f (drop (length xs) l)) z ∙ more_behind f xs (a ++ b) ∙ map-append f a b
