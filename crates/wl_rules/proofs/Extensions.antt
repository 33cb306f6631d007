-- What a text's extensions add up to, one after another.
use Rattle.std.proofs.Common.{◌≡◌, ℕ, zero, suc, ◌+◌, ◌≤◌, true, false, cond, List, [], ◌∷◌, ◌++◌, length}
use Rattle.std.proofs.Common.{get_or, refl, sym, ap, ◌∙◌, Some, None, Option, Bool}
use Rattle.std.proofs.Common.{not, nat_lt, arith}
use Rattle.std.specs.List.{insert, remove, position_or_len}
use Rattle.std.proofs.lemmas.Bool.{ltb-true, ltb-false, lt-ltb}
use Rattle.std.specs.Prelude.{option_map, position, bytes_eq}
use Rattle.std.proofs.lemmas.List.Folds.{find-append}
use Rattle.std.specs.Option.{option_or}
use Rattle.wl_text.specs.Text.{WrittenInterface}
use Rattle.wl_rules.specs.Broken.{earlier}
use Rattle.wl_rules.specs.Extended.{Gathered, one_more, gathered_from}
use Rattle.wl_rules.specs.Extended.{with_extension, extend_first, first_named}
use Rattle.wl_rules.specs.Extending.{extension_broken, extensions_broken}
use Rattle.wl_rules.proofs.FirstBrokenLine.{earlier_nothing, earlier_assoc}

-- one more declaration or extension
pub gathered_push : (g : Gathered) (xs : List WrittenInterface) (x : WrittenInterface)
    → gathered_from g (xs ++ x ∷ []) ≡ one_more (gathered_from g xs) x
gathered_push g [] x = refl
gathered_push g (y ∷ xs) x = gathered_push (one_more g y) xs x

pub extensions_push : (g : Gathered) (xs : List WrittenInterface) (x : WrittenInterface)
    → extensions_broken g (xs ++ x ∷ [])
    ≡ earlier (extensions_broken g xs) (extension_broken (gathered_from g xs) x)
extensions_push g [] x = earlier_nothing (extension_broken g x)
extensions_push g (y ∷ xs) x =
    ap (earlier (extension_broken g y)) (extensions_push (one_more g y) xs x)
    ∙ sym (earlier_assoc (extension_broken g y) (extensions_broken (one_more g y) xs)
    (extension_broken (gathered_from (one_more g y) xs) x))

-- names
pub named_in_front : (name : List ℕ) (a b : List WrittenInterface) (i : WrittenInterface)
    → first_named name a ≡ Some i → first_named name (a ++ b) ≡ Some i
named_in_front name a b i at =
    find-append (λ (x : WrittenInterface). bytes_eq x.name name) a b
    ∙ ap (λ (o : Option WrittenInterface). option_or o (first_named name b)) at

pub named_behind : (name : List ℕ) (a b : List WrittenInterface)
    → first_named name a ≡ None → first_named name (a ++ b) ≡ first_named name b
named_behind name a b at =
    find-append (λ (x : WrittenInterface). bytes_eq x.name name) a b
    ∙ ap (λ (o : Option WrittenInterface). option_or o (first_named name b)) at

pub not_lt : (a b : ℕ) → b ≤ a → nat_lt a b ≡ false
not_lt a b le = fails (nat_lt a b) (λ t. let lt = ltb-true a b t in omega (arith, lt, le))
  where
    fails : (t : Bool) → ¬ (t ≡ true) → t ≡ false
    fails true never = absurd (never refl)
    fails false never = refl

-- the place of the first element that passes
position_cons : {X : Type 0} (test : X → Bool) (x : X) (xs : List X)
    → position test (x ∷ xs) ≡ cond (test x) (Some 0) (option_map suc (position test xs))
position_cons test x xs = by_test (test x) (position_or_len test xs) (length xs)
  where
    shift : (n len : ℕ) (b : Bool) → nat_lt n len ≡ b
        → cond (nat_lt (suc n) (suc len)) (Some (suc n)) None ≡ option_map suc (cond b (Some n) None)
    shift n len true is =
        let lt = ltb-true n len is in
        let more : nat_lt (suc n) (suc len) ≡ true = lt-ltb (suc n) (suc len) (omega (arith, lt)) in
        rw more refl
    shift n len false is =
        let le = ltb-false n len is in
        let less : nat_lt (suc n) (suc len) ≡ false = not_lt (suc n) (suc len) (omega (arith, le)) in
        rw less refl

    by_test : (t : Bool) (n len : ℕ)
        → cond (nat_lt (cond (not t) (1 + n) 0) (suc len)) (Some (cond (not t) (1 + n) 0)) None
        ≡ cond t (Some 0) (option_map suc (cond (nat_lt n len) (Some n) None))
    by_test true n len =
        let lt : nat_lt 0 (suc len) ≡ true = lt-ltb 0 (suc len) (omega arith) in
        rw lt refl
    by_test false n len = let on : 1 + n ≡ suc n = omega arith in rw on (shift n len (nat_lt n len) refl)

-- the first interface of a name is extended, if there is one
pub extend_none : (more : WrittenInterface) (xs : List WrittenInterface)
    → position (λ i. bytes_eq i.name more.name) xs ≡ None → extend_first more xs ≡ xs
extend_none more [] none = refl
extend_none more (x ∷ xs) none =
    by_test (bytes_eq x.name more.name) (sym (position_cons (λ (i : WrittenInterface). bytes_eq i.name more.name) x xs)
    ∙ none) (extend_none more xs)
  where
    rest_none : (o : Option ℕ) → option_map suc o ≡ None → o ≡ None
    rest_none None e = refl
    rest_none (Some p) e = cc e

    by_test : (t : Bool) → cond t (Some 0) (option_map suc (position (λ i. bytes_eq i.name more.name) xs)) ≡ None
        → (position (λ i. bytes_eq i.name more.name) xs ≡ None → extend_first more xs ≡ xs)
        → cond t (with_extension x more ∷ xs) (x ∷ extend_first more xs) ≡ x ∷ xs
    by_test true e rest = cc e
    by_test false e rest = ap (λ (l : List WrittenInterface). x ∷ l) (rest (rest_none _ e))

pub extend_some : (more : WrittenInterface) (xs : List WrittenInterface) (p : ℕ) (i : WrittenInterface)
    → position (λ i. bytes_eq i.name more.name) xs ≡ Some p → i ≡ get_or xs p i
    → extend_first more xs ≡ insert (remove xs p) p (with_extension i more)
extend_some more [] p i at is = cc at
extend_some more (x ∷ xs) p i at is =
    by_test (bytes_eq x.name more.name) p
    (sym (position_cons (λ (i : WrittenInterface). bytes_eq i.name more.name) x xs) ∙ at) is
    (λ k at is. extend_some more xs k i at is)
  where
    by_test : (t : Bool) (p : ℕ)
        → cond t (Some 0) (option_map suc (position (λ i. bytes_eq i.name more.name) xs)) ≡ Some p
        → i ≡ get_or (x ∷ xs) p i
        → ((k : ℕ) → position (λ i. bytes_eq i.name more.name) xs ≡ Some k → i ≡ get_or xs k i
        → extend_first more xs ≡ insert (remove xs k) k (with_extension i more))
        → cond t (with_extension x more ∷ xs) (x ∷ extend_first more xs)
        ≡ insert (remove (x ∷ xs) p) p (with_extension i more)
    by_test true zero e is rest = ap (λ (y : WrittenInterface). with_extension y more ∷ xs) (sym is)
    by_test true (suc p) e is rest = cc e
    by_test false zero e is rest = absurd (no_zero (position (λ i. bytes_eq i.name more.name) xs) e)
      where
        no_zero : (o : Option ℕ) → option_map suc o ≡ Some 0 → ⊥
        no_zero None e = cc e
        no_zero (Some k) e = let same : suc k ≡ 0 = cc e in omega (arith, same)
    by_test false (suc p) e is rest =
        ap (λ (l : List WrittenInterface). x ∷ l) (rest p (one_less (position (λ i. bytes_eq i.name more.name) xs) e) is)
      where
        one_less : (o : Option ℕ) → option_map suc o ≡ Some (suc p) → o ≡ Some p
        one_less None e = cc e
        one_less (Some k) e =
            let same : suc k ≡ suc p = cc e in
            let one : k ≡ p = omega (arith, same) in
            ap Some one
