-- What each step of the loops over a text with extensions does.
use Rattle.std.proofs.Common.{◌≡◌, ℕ, suc, ◌+◌, ◌<◌, ◌≤◌, true, false, List, [], ◌∷◌, ◌++◌, length}
use Rattle.std.proofs.Common.{get_or, take, map, refl, sym, ap, ◌∙◌, Some, None, Option, Bool}
use Rattle.std.proofs.Common.{slice_get, add-zero, ◌||◌, arith}
use Rattle.std.proofs.Math.Path.{ap₂}
use Rattle.std.specs.List.{list_any}
use Rattle.std.specs.Option.{option_map_or}
use Rattle.std.proofs.lemmas.List.{take_more, length-take-le, map-append}
use Rattle.wl_text.specs.Text.{WrittenMessage, WrittenInterface}
use Rattle.wl_sigs.specs.Tables.{MessageSignature, Interface, has_destroying_event}
use Rattle.wl_sigs.specs.Tables.{destroys_target}
use Rattle.wl_sigs.specs.Joined.{all_names, first_place, interface_placed}
use Rattle.wl_sigs.specs.Valid.{Valid}
use Rattle.wl_sigs.specs.Broken.{messages_broken, earlier, broken_at}
use Rattle.wl_sigs.specs.Broken.{interfaces_broken, ended_of}
use Rattle.wl_sigs.specs.Extended.{Gathered, interface_grown, grown_by}
use Rattle.wl_sigs.specs.Extended.{all_grown, grown, whole_of}
use Rattle.wl_sigs.specs.Extending.{added_broken, messages_or_declared_broken}
use Rattle.wl_sigs.specs.BrokenLines.{added_here}
use Rattle.wl_rules.proofs.FirstBrokenLine.{earlier_nothing, earlier_assoc, messages_broken-push}
use Rattle.wl_sigs.proofs.JoinedLookup.{placing_message, length_joined}
use Rattle.wl_sigs.proofs.JoinedValid.{destroying}
use Rattle.wl_sigs.proofs.Grown.{names_grown, length_grown}

-- one more added message
pub messages_broken-from : (rule : ℕ → WrittenMessage → Option ℕ) (n : ℕ) (ms : List WrittenMessage) (k : ℕ)
    (m : WrittenMessage) → k < length ms → m ≡ get_or ms k m
    → messages_broken rule n (take (k + 1) ms) ≡ earlier (messages_broken rule n (take k ms))
    (broken_at m.line (rule (n + k) m))
messages_broken-from rule n ms k m within is =
    let len : n + length (take k ms) ≡ n + k = omega (arith, length-take-le k ms (omega (arith, within))) in
    let pushed = messages_broken-push rule n (take k ms) m in
    rw (take_more ms k m within, ← is) (rw len at pushed)

-- one more interface to which messages are added
added_push : (tables : List Interface) (place : List ℕ → Option ℕ) (ended : List Bool) (n : ℕ) (xs : List Interface)
    (x : Interface) (added : List WrittenInterface)
    → added_broken tables place ended n (xs ++ x ∷ []) added
    ≡ earlier (added_broken tables place ended n xs added)
    (added_here tables place ended (n + length xs) x (slice_get added (length xs)))
added_push tables place ended n [] x [] = refl
added_push tables place ended n [] x (w ∷ added) = rw add-zero (earlier_nothing _)
added_push tables place ended n (y ∷ xs) x [] = refl
added_push tables place ended n (y ∷ xs) x (w ∷ added) =
    let next : n + 1 + length xs ≡ n + suc (length xs) = omega arith in
    let rest = added_push tables place ended (n + 1) xs x added in
    let first = added_here tables place ended n y (Some w) in
    let last = slice_get added (length xs) in
    ap (earlier first) rest
    ∙ ap (λ (k : ℕ). earlier first (earlier (added_broken tables place ended (n + 1) xs added)
    (added_here tables place ended k x last))) next
    ∙ sym (earlier_assoc first (added_broken tables place ended (n + 1) xs added)
    (added_here tables place ended (n + suc (length xs)) x last))

pub added_broken-next : (tables : List Interface) (place : List ℕ → Option ℕ) (ended : List Bool) (xs : List Interface)
    (k : ℕ) (x : Interface) (added : List WrittenInterface) → k < length xs → x ≡ get_or xs k x
    → added_broken tables place ended 0 (take (k + 1) xs) added
    ≡ earlier (added_broken tables place ended 0 (take k xs) added)
    (added_here tables place ended k x (slice_get added k))
added_broken-next tables place ended xs k x added within is =
    let len : length (take k xs) ≡ k = length-take-le k xs (omega (arith, within)) in
    let zero_on : 0 + length (take k xs) ≡ k = omega (arith, len) in
    ap (λ (l : List Interface). added_broken tables place ended 0 l added)
    (take_more xs k x within ∙ ap (λ (y : Interface). take k xs ++ y ∷ []) (sym is))
    ∙ added_push tables place ended 0 (take k xs) x added
    ∙ ap₂ (λ (i j : ℕ). earlier (added_broken tables place ended 0 (take k xs) added)
    (added_here tables place ended i x (slice_get added j))) zero_on len

-- one more interface with what is added to it
grown_push : (place : List ℕ → Option ℕ) (past : ℕ) (xs : List Interface) (x : Interface)
    (added : List WrittenInterface)
    → all_grown place past (xs ++ x ∷ []) added
    ≡ all_grown place past xs added ++ grown_by place past x (slice_get added (length xs)) ∷ []
grown_push place past [] x [] = refl
grown_push place past [] x (w ∷ added) = refl
grown_push place past (y ∷ xs) x [] = refl
grown_push place past (y ∷ xs) x (w ∷ added) =
    ap (λ (rest : List Interface). interface_grown place past y w ∷ rest) (grown_push place past xs x added)

pub grown-next : (place : List ℕ → Option ℕ) (past : ℕ) (xs : List Interface) (k : ℕ) (x : Interface)
    (added : List WrittenInterface) → k < length xs → x ≡ get_or xs k x
    → all_grown place past (take (k + 1) xs) added
    ≡ all_grown place past (take k xs) added ++ grown_by place past x (slice_get added k) ∷ []
grown-next place past xs k x added within is =
    let len : length (take k xs) ≡ k = length-take-le k xs (omega (arith, within)) in
    ap (λ (l : List Interface). all_grown place past l added)
    (take_more xs k x within ∙ ap (λ (y : Interface). take k xs ++ y ∷ []) (sym is))
    ∙ grown_push place past (take k xs) x added
    ∙ ap (λ (j : ℕ). all_grown place past (take k xs) added ++ grown_by place past x (slice_get added j) ∷ []) len

-- which of these interfaces have an event that may end their objects
any_append : {X : Type 0} (test : X → Bool) (xs ys : List X)
    → list_any test (xs ++ ys) ≡ list_any test xs || list_any test ys
any_append test [] ys = refl
any_append test (x ∷ xs) ys = by_test (test x) (any_append test xs ys)
  where
    by_test : (t : Bool) → list_any test (xs ++ ys) ≡ list_any test xs || list_any test ys
        → t || list_any test (xs ++ ys) ≡ (t || list_any test xs) || list_any test ys
    by_test true rest = refl
    by_test false rest = rest

or_false : (b : Bool) → b || false ≡ b
or_false true = refl
or_false false = refl

pub ended_with : (tables : List Interface) (written : List WrittenInterface) (i : Interface)
    (more : Option WrittenInterface)
    → has_destroying_event (grown_by (first_place (all_names tables written)) (length (all_names tables written)) i more)
    ≡ has_destroying_event i || option_map_or (λ w. list_any (λ m. m.destroys) w.events) more false
ended_with tables written i None = sym (or_false (has_destroying_event i))
ended_with tables written i (Some more) =
    any_append (λ (m : MessageSignature). destroys_target m.destroys) i.events
    (map (placing_message tables written) more.events)
    ∙ ap (λ (b : Bool). has_destroying_event i || b) (destroying tables written more.events)

pub ended-next : (tables : List Interface) (written added : List WrittenInterface) (k : ℕ) (x : Interface)
    → k < length tables → x ≡ get_or tables k x
    → map has_destroying_event (all_grown (first_place (all_names tables written)) (length (all_names tables written))
    (take (k + 1) tables) added)
    ≡ map has_destroying_event (all_grown (first_place (all_names tables written)) (length (all_names tables written))
    (take k tables) added)
    ++ (has_destroying_event x
    || option_map_or (λ w. list_any (λ m. m.destroys) w.events) (slice_get added k) false) ∷ []
ended-next tables written added k x within is =
    let place = first_place (all_names tables written) in
    let past = length (all_names tables written) in
    let before = all_grown place past (take k tables) added in
    ap (map has_destroying_event) (grown-next place past tables k x added within is)
    ∙ map-append has_destroying_event before (grown_by place past x (slice_get added k) ∷ [])
    ∙ ap (λ (b : Bool). map has_destroying_event before ++ b ∷ []) (ended_with tables written x (slice_get added k))

-- the broken line that reading finds, with places that are looked up
pub others_by : (tables : List Interface) (g : Gathered) (entries : List Interface) (added declared : List WrittenInterface)
    (place : List ℕ → Option ℕ) (ended : List Bool) (from : ℕ) → entries ≡ tables → added ≡ g.added
    → declared ≡ g.declared → place ≡ first_place (all_names tables g.declared)
    → ended ≡ ended_of (grown tables g) g.declared → from ≡ length tables
    → earlier (added_broken entries place ended 0 entries added) (interfaces_broken place ended from declared)
    ≡ messages_or_declared_broken tables g
others_by tables g entries added declared place ended from entries_are added_are declared_are places ended_are from_is =
    let names = all_names tables g.declared in
    let all = grown tables g in
    let place_is : place ≡ first_place (all_names all g.declared) = places ∙ sym (ap first_place (names_grown tables g)) in
    let len : from ≡ length all = from_is
    ∙ sym (length_grown (first_place names) (length names) tables g.added) in
    rw (entries_are, added_are, declared_are, place_is, ended_are, len) refl

pub whole_by : (tables : List Interface) (g : Gathered) (entries : List Interface) (added declared : List WrittenInterface)
    (place : List ℕ → Option ℕ) (past : ℕ) → entries ≡ tables → added ≡ g.added → declared ≡ g.declared
    → place ≡ first_place (all_names tables g.declared) → past ≡ length (all_names tables g.declared)
    → all_grown place past entries added ++ map (interface_placed place past) declared ≡ whole_of tables g
whole_by tables g entries added declared place past entries_are added_are declared_are places past_is =
    let all = all_names (grown tables g) g.declared in
    let front : all_grown place past entries added ≡ grown tables g =
    rw (entries_are, added_are, places, past_is) refl in
    let back : map (interface_placed place past) declared
    ≡ map (interface_placed (first_place all) (length all)) g.declared =
    rw (declared_are, places, past_is, names_grown tables g) refl in
    ap₂ (λ (xs ys : List Interface). xs ++ ys) front back

pub few_whole : (tables : List Interface) (g : Gathered) → Valid (whole_of tables g)
    → length tables + length g.declared ≤ 1024
few_whole tables g valid =
    let names = all_names tables g.declared in
    let most = valid.small.interfaces in
    omega (
      arith,
      most,
      length_joined (grown tables g) g.declared,
      length_grown (first_place names) (length names) tables g.added,
    )
