-- Maps from names to their first places.
use Rattle.std.proofs.Common.{◌≡◌, ℕ, ◌+◌, ◌<◌, ◌≤◌, ◌==◌, true, false, cond, List, [], ◌∷◌, ◌++◌}
use Rattle.std.proofs.Common.{length, get_or, take, refl, sym, ap, ◌∙◌, subst, Some, None, Option}
use Rattle.std.proofs.Common.{Bool, bytes_eq, arith}
use Rattle.std.specs.Prelude.{nat_lt, map, option_map, ◌||◌}
use Rattle.std.specs.List.{position_or_len, list_any}
use Rattle.std.specs.Option.{option_map_or}
use Rattle.std.proofs.lemmas.List.{take_more, length-append, length-take-le}
use Rattle.std.proofs.lemmas.List.Folds.{position_or_len_push}
use Rattle.std.proofs.lemmas.List.Sums.{prefix_len-le-length}
use Rattle.std.proofs.lemmas.Bool.Decides.{nat_tests}
use Rattle.std.proofs.lemmas.Bool.{lt-ltb}
use Rattle.std.proofs.lemmas.List.Quantifiers.{position-Some}
use Rattle.std.proofs.lemmas.Option.{slice_get_within, slice_get-get_or, slice_get-map}
use Rattle.std.specs.Prelude.{not, slice_get, is_some}
use Rattle.std.proofs.Common.{zero, suc}
use Rattle.std.proofs.lemmas.Slice.Eq.{bytes_eq-Decides}
use Rattle.std.specs.Prelude.{◌&&◌}
use Rattle.std.specs.BTreeMap.{BTreeMap, Updates, get, get_by}
use Rattle.std.specs.Cmp.{tied_then}
use Rattle.std.specs.Cmp.Lexicographic.{slice_cmp}
use Rattle.std.specs.Ordering.{is_eq, nat_cmp, ordering_then}
use Rattle.std.proofs.lemmas.Cmp.{nat_cmp_total, tied_itself}
use Rattle.std.proofs.lemmas.Map.Text.{is_eq-slice_cmp}
use denote.Ref.{Bor}
use Rattle.wl_rules.specs.Joined.{first_place}
use Rattle.wl_rules.specs.Broken.{is_first}
use Rattle.wl_rules.specs.NameHash.{name_hash}
use Rattle.wl_rules.specs.Places.{mapped_place}

-- the place of a name after one more name is appended
abbrev pub with_name : Option ℕ → Bool → ℕ → Option ℕ
with_name (Some place) same next = Some place
with_name None same next = cond same (Some next) None

after_one : (n len : ℕ) (same : Bool) → n ≤ len
    → cond (nat_lt (cond (n == len) (len + cond same 0 1) n) (len + 1))
    (Some (cond (n == len) (len + cond same 0 1) n)) None ≡ with_name (cond (nat_lt n len) (Some n) None) same len
after_one n len true le = grind (arith, nat_tests)
after_one n len false le = grind (arith, nat_tests)

pub first_place-push : (names : List (List ℕ)) (name q : List ℕ)
    → first_place (names ++ name ∷ []) q ≡ with_name (first_place names q) (bytes_eq name q) (length names)
first_place-push names name q =
    let p : List ℕ → Bool = λ other. bytes_eq other q in
    rw (position_or_len_push p names name, length-append)
    (after_one (position_or_len p names) (length names) (bytes_eq name q)
    (prefix_len-le-length (λ other. not (p other)) names))

-- the places of names after a name that had none gets the next place
pub inserted : (places : List ℕ → Option ℕ) (name q : List ℕ) (next : ℕ) → is_some (places name) ≡ false
    → cond (bytes_eq name q) (Some next) (places q) ≡ with_name (places q) (bytes_eq name q) next
inserted places name q next none = by_test (bytes_eq name q) refl
  where
    had_none : (o : Option ℕ) → is_some o ≡ false → Some next ≡ with_name o true next
    had_none None e = refl
    had_none (Some place) e = cc e

    stays : (o : Option ℕ) → o ≡ with_name o false next
    stays None = refl
    stays (Some place) = refl

    by_test : (t : Bool) → bytes_eq name q ≡ t → cond t (Some next) (places q) ≡ with_name (places q) t next
    by_test true is =
        let same : name ≡ q = (bytes_eq-Decides name q).0 is in
        had_none (places q) (subst (λ n. is_some (places n) ≡ false) same none)
    by_test false is = stays (places q)

-- the same for a name that had a place: that place is written back
pub written_back : (places : List ℕ → Option ℕ) (name q : List ℕ) (next earlier : ℕ) → places name ≡ Some earlier
    → cond (bytes_eq name q) (Some earlier) (cond (bytes_eq name q) (Some next) (places q))
    ≡ with_name (places q) (bytes_eq name q) next
written_back places name q next earlier had = by_test (bytes_eq name q) refl
  where
    stays : (o : Option ℕ) → o ≡ with_name o false next
    stays None = refl
    stays (Some place) = refl

    by_test : (t : Bool) → bytes_eq name q ≡ t
        → cond t (Some earlier) (cond t (Some next) (places q)) ≡ with_name (places q) t next
    by_test true is =
        let same : name ≡ q = (bytes_eq-Decides name q).0 is in
        let has : places q ≡ Some earlier = subst (λ n. places n ≡ Some earlier) same had in
        sym (ap (λ o. with_name o true next) has)
    by_test false is = stays (places q)

-- a name compares as equal to the key of another if and only if the two names are the same
same_keys : (hash : List ℕ → ℕ) (a b : List ℕ)
    → is_eq (ordering_then (nat_cmp (hash a) (hash b)) (slice_cmp nat_cmp a b)) ≡ bytes_eq a b
same_keys hash a b =
    sym (tied_then (nat_cmp (hash a) (hash b)) (slice_cmp nat_cmp a b))
    ∙ ap (λ t. is_eq (nat_cmp (hash a) (hash b)) && t) (is_eq-slice_cmp a b)
    ∙ second (is_eq (nat_cmp (hash a) (hash b))) (bytes_eq a b) (λ is.
    let same : a ≡ b = (bytes_eq-Decides a b).0 is in
    subst (λ n. is_eq (nat_cmp (hash a) (hash n)) ≡ true) same (ap is_eq (tied_itself nat_cmp_total (hash a))))
  where
    second : (x t : Bool) → (t ≡ true → x ≡ true) → (x && t) ≡ t
    second true t both = refl
    second false true both = both refl
    second false false both = refl

-- the places of names after the place of one name is changed
pub mapped_place-updates : (m n : BTreeMap (ℕ × Bor (List ℕ)) ℕ) (hash : ℕ) (name : Bor (List ℕ)) (w : Option ℕ)
    → hash ≡ name_hash name.now
    → Updates (λ x y. ordering_then (nat_cmp x.0 y.0) (slice_cmp nat_cmp x.1.now y.1.now)) m n (hash, name) w
    → (q : List ℕ) → mapped_place n q ≡ cond (bytes_eq name.now q) w (mapped_place m q)
mapped_place-updates m n hash name w is updates q =
    updates.0 (name_hash q, record { ref_ptr = (0, 0); now = q })
    ∙ ap (λ h. cond (is_eq (ordering_then (nat_cmp h (name_hash q)) (slice_cmp nat_cmp name.now q))) w
    (mapped_place m q)) is
    ∙ ap (λ t. cond t w (mapped_place m q)) (same_keys name_hash name.now q)

-- the place of a name, by its hash
pub mapped_place-get : (m : BTreeMap (ℕ × Bor (List ℕ)) ℕ) (hash : ℕ) (name : Bor (List ℕ))
    → hash ≡ name_hash name.now
    → get (λ x y. ordering_then (nat_cmp x.0 y.0) (slice_cmp nat_cmp x.1.now y.1.now)) m (hash, name)
    ≡ mapped_place m name.now
mapped_place-get m hash name is =
    ap (λ h. get_by (λ y. ordering_then (nat_cmp h y.0) (slice_cmp nat_cmp name.now y.1.now)) m) is

-- the step of a loop over names
pub places-next : (names : List (List ℕ)) (k : ℕ) (name : List ℕ) (old new : List ℕ → Option ℕ)
    → k < length names → name ≡ get_or names k name
    → ((q : List ℕ) → old q ≡ first_place (take k names) q)
    → ((q : List ℕ) → new q ≡ with_name (old q) (bytes_eq name q) k)
    → (q : List ℕ) → new q ≡ first_place (take (k + 1) names) q
places-next names k name old new within is before after q =
    let len : length (take k names) ≡ k = length-take-le k names (omega (arith, within)) in
    let more : take (k + 1) names ≡ take k names ++ name ∷ [] =
    take_more names k name within ∙ ap (λ (n : List ℕ). take k names ++ n ∷ []) (sym is) in
    after q
    ∙ ap (λ (o : Option ℕ). with_name o (bytes_eq name q) k) (before q)
    ∙ ap (with_name (first_place (take k names) q) (bytes_eq name q)) (sym len)
    ∙ sym (first_place-push (take k names) name q)
    ∙ sym (ap (λ (l : List (List ℕ)). first_place l q) more)

-- no place before the first place of a name has that name
stops_here : (passes : Bool) (n : ℕ) → passes ≡ true → cond (not passes) (1 + n) 0 ≤ 0
stops_here true n e = omega arith
stops_here false n e = cc e

stops_le : (passes : Bool) (m n : ℕ) → m ≤ n → cond (not passes) (1 + m) 0 ≤ suc n
stops_le true m n le = omega arith
stops_le false m n le = omega arith

first_before : {X : Type 0} (p : X → Bool) (xs : List X) (k : ℕ) (x : X) → slice_get xs k ≡ Some x → p x ≡ true
    → position_or_len p xs ≤ k
first_before p [] k x at passes = cc at
first_before p (y ∷ ys) zero x at passes = let same : y ≡ x = cc
    in stops_here (p y) (position_or_len p ys) (let e = ap p same in cc)
first_before p (y ∷ ys) (suc k) x at passes = stops_le (p y) (position_or_len p ys) k (first_before p ys k x at passes)

found_some : (t : Bool) (a b : ℕ) → cond t (Some a) None ≡ Some b → a ≡ b
found_some true a b e = cc e
found_some false a b e = cc e

pub first_place-le : (names : List (List ℕ)) (name : List ℕ) (p q : ℕ) → first_place names name ≡ Some p
    → slice_get names q ≡ Some name → p ≤ q
first_place-le names name p q first at =
    let is = found_some (nat_lt (position_or_len (λ other. bytes_eq other name) names) (length names)) _ p first in
    let le = first_before (λ other. bytes_eq other name) names q name at ((bytes_eq-Decides name name).1 refl) in
    omega (arith, is, le)

found_within : (a n b : ℕ) → cond (nat_lt a n) (Some a) None ≡ Some b → b < n
found_within a n b e = grind (arith, nat_tests)

pub first_place-within : (names : List (List ℕ)) (name : List ℕ) (p : ℕ) → first_place names name ≡ Some p
    → p < length names
first_place-within names name p first = found_within (position_or_len (λ other. bytes_eq other name) names)
    (length names) p first

-- a name in the list has a first place, and the list has the name there
pub first_place-of : (names : List (List ℕ)) (name : List ℕ) (q : ℕ) → slice_get names q ≡ Some name
    → (p : ℕ) × (first_place names name ≡ Some p) × (slice_get names p ≡ Some name)
first_place-of (first ∷ more) name q at =
    let names : List (List ℕ) = first ∷ more in
    let same : List ℕ → Bool = λ other. bytes_eq other name in
    let le = first_before same names q name at ((bytes_eq-Decides name name).1 refl) in
    let within = slice_get_within names q name at in
    let found : first_place names name ≡ Some (position_or_len same names) =
    ap (λ b. cond b (Some (position_or_len same names)) None)
    (lt-ltb (position_or_len same names) (length names) (omega (arith, le, within))) in
    let p = position-Some same names (position_or_len same names) first found in
    let is : get_or names (position_or_len same names) first ≡ name =
    (bytes_eq-Decides (get_or names (position_or_len same names) first) name).0 p.1 in
    (position_or_len same names, found, slice_get-get_or names (position_or_len same names) first p.0 ∙ ap Some is)
first_place-of [] name q at = cc at

-- a place that has the name is its first place if and only if no place before it has the name
first_at : {X : Type 0} (f : X → List ℕ) (xs : List X) (name : List ℕ) (k : ℕ)
    → option_map f (slice_get xs k) ≡ Some name
    → (position_or_len (λ other. bytes_eq other name) (map f xs) == k)
    ≡ not (list_any (λ x. bytes_eq (f x) name) (take k xs))
first_at f [] name k at = cc at
first_at f (x ∷ xs) name zero at =
    let same : f x ≡ name = cc in
    by_test (bytes_eq (f x) name) ((bytes_eq-Decides (f x) name).1 same)
  where
    by_test : (same : Bool) → same ≡ true
        → (cond (not same) (1 + position_or_len (λ other. bytes_eq other name) (map f xs)) 0 == 0) ≡ true
    by_test true e = refl
    by_test false e = cc e
first_at f (x ∷ xs) name (suc k) at =
    by_test (bytes_eq (f x) name) (position_or_len (λ other. bytes_eq other name) (map f xs)) _
    (first_at f xs name k at)
  where
    by_test : (same : Bool) (n : ℕ) (is_before : Bool) → (n == k) ≡ not is_before
        → (cond (not same) (1 + n) 0 == suc k) ≡ not (same || is_before)
    by_test true n is_before rest = grind (arith, nat_tests)
    by_test false n is_before rest = grind (arith, nat_tests)

pub is_first-new : {X : Type 0} (f : X → List ℕ) (xs : List X) (name : List ℕ) (k : ℕ)
    → option_map f (slice_get xs k) ≡ Some name
    → is_first (first_place (map f xs)) name k ≡ not (list_any (λ x. bytes_eq (f x) name) (take k xs))
is_first-new f xs name k at =
    let same : List ℕ → Bool = λ other. bytes_eq other name in
    let stands : slice_get (map f xs) k ≡ Some name = slice_get-map f xs k ∙ at in
    let le = first_before same (map f xs) k name stands ((bytes_eq-Decides name name).1 refl) in
    let within = slice_get_within (map f xs) k name stands in
    let found : first_place (map f xs) name ≡ Some (position_or_len same (map f xs)) =
    ap (λ b. cond b (Some (position_or_len same (map f xs))) None)
    (lt-ltb (position_or_len same (map f xs)) (length (map f xs)) (omega (arith, le, within))) in
    ap (λ place. option_map_or (λ first. first == k) place false) found ∙ first_at f xs name k at
