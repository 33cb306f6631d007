-- The first line that breaks a rule.
use Rattle.std.proofs.Common.{◌≡◌, ℕ, zero, suc, ◌+◌, ◌<◌, true, false, cond, List, [], ◌∷◌, ◌++◌}
use Rattle.std.proofs.Common.{length, get_or, take, refl, sym, subst, Some, None, Option, Bool}
use Rattle.std.proofs.Common.{slice_get, add-zero, not, ◌&&◌, nat_le, arith}
use Rattle.std.specs.List.{list_all, count_by}
use Rattle.std.proofs.lemmas.List.{take_more, length-take-le}
use Rattle.std.proofs.lemmas.Bool.Decides.{nat_tests}
use Rattle.wl_text.specs.Text.{WrittenMessage, WrittenInterface}
use Rattle.wl_rules.specs.declared.side.Side.{Side}
use Rattle.wl_rules.specs.Broken.{Broken, comes_first, earlier, broken_at, messages_broken, interface_broken}
use Rattle.wl_rules.specs.Broken.{interfaces_broken}
use Rattle.wl_rules.specs.Broken.{names_objects, is_race_free, names_missing, makes_server_object, most_by_server}
use Rattle.wl_rules.specs.Broken.{makes_forbidden, later_rule}

pub earlier_none : (a b : Option Broken) → earlier a b ≡ None → (a ≡ None) × (b ≡ None)
earlier_none None b none = (refl, none)
earlier_none (Some a) None none = cc none
earlier_none (Some a) (Some b) none = some_not (comes_first b a) none where
  some_not : (t : Bool) → cond t (Some b) (Some a) ≡ None → (Some a ≡ None) × (Some b ≡ None)
  some_not true e = cc e
  some_not false e = cc e

pub earlier_nothing : (a : Option Broken) → earlier a None ≡ a
earlier_nothing None = refl
earlier_nothing (Some a) = refl

-- the first of three broken lines does not depend on how they are grouped
pub earlier_assoc : (a b d : Option Broken) → earlier (earlier a b) d ≡ earlier a (earlier b d)
earlier_assoc None b d = refl
earlier_assoc (Some a) None d = refl
earlier_assoc (Some a) (Some b) None = earlier_nothing (earlier (Some a) (Some b))
earlier_assoc (Some a) (Some b) (Some d) = grind (arith, nat_tests)

-- one more message
pub messages_broken-push : (rule : ℕ → WrittenMessage → Option ℕ) (n : ℕ) (ms : List WrittenMessage)
    (m : WrittenMessage)
    → messages_broken rule n (ms ++ m ∷ []) ≡ earlier (messages_broken rule n ms)
    (broken_at m.line (rule (n + length ms) m))
messages_broken-push rule n [] m = rw add-zero (earlier_nothing _)
messages_broken-push rule n (x ∷ ms) m =
    let next : n + 1 + length ms ≡ n + suc (length ms) = omega arith in
    let rest = messages_broken-push rule (n + 1) ms m in
    rw (rest, next) (sym (earlier_assoc (broken_at x.line (rule n x)) (messages_broken rule (n + 1) ms)
    (broken_at m.line (rule (n + suc (length ms)) m))))

-- one more interface
pub interfaces_broken-push : (place : List ℕ → Option ℕ) (ended : List Bool) (n : ℕ) (is : List WrittenInterface)
    (i : WrittenInterface)
    → interfaces_broken place ended n (is ++ i ∷ [])
    ≡ earlier (interfaces_broken place ended n is) (interface_broken place ended (n + length is) i)
interfaces_broken-push place ended n [] i = rw add-zero (earlier_nothing _)
interfaces_broken-push place ended n (x ∷ is) i =
    let next : n + 1 + length is ≡ n + suc (length is) = omega arith in
    let rest = interfaces_broken-push place ended (n + 1) is i in
    rw (rest, next) (sym (earlier_assoc (interface_broken place ended n x) (interfaces_broken place ended (n + 1) is)
    (interface_broken place ended (n + suc (length is)) i)))

-- if no broken line is found, none of the messages breaks a rule
pub each_message_keeps : (rule : ℕ → WrittenMessage → Option ℕ) (n : ℕ) (ms : List WrittenMessage)
    → messages_broken rule n ms ≡ None
    → (k : ℕ) (m : WrittenMessage) → slice_get ms k ≡ Some m → rule (n + k) m ≡ None
each_message_keeps rule n [] none k m at = cc at
each_message_keeps rule n (x ∷ ms) none zero m at =
    let both = earlier_none (broken_at x.line (rule n x)) (messages_broken rule (n + 1) ms) none in
    let same : x ≡ m = cc in
    let here : rule n x ≡ None = unbroken x.line (rule n x) both.0 in
    rw add-zero (subst (λ y. rule n y ≡ None) same here)
  where
    unbroken : (line : ℕ) (o : Option ℕ) → broken_at line o ≡ None → o ≡ None
    unbroken line None e = refl
    unbroken line (Some r) e = cc e
each_message_keeps rule n (x ∷ ms) none (suc k) m at =
    let both = earlier_none (broken_at x.line (rule n x)) (messages_broken rule (n + 1) ms) none in
    let next : n + 1 + k ≡ n + suc k = omega arith in
    rw next at (each_message_keeps rule (n + 1) ms both.1 k m at)

-- the same for interfaces
pub each_interface_keeps : (place : List ℕ → Option ℕ) (ended : List Bool) (n : ℕ) (is : List WrittenInterface)
    → interfaces_broken place ended n is ≡ None
    → (k : ℕ) (i : WrittenInterface) → slice_get is k ≡ Some i → interface_broken place ended (n + k) i ≡ None
each_interface_keeps place ended n [] none k i at = cc at
each_interface_keeps place ended n (x ∷ is) none zero i at =
    let both = earlier_none (interface_broken place ended n x) (interfaces_broken place ended (n + 1) is) none in
    let same : x ≡ i = cc in
    rw add-zero (subst (λ y. interface_broken place ended n y ≡ None) same both.0)
each_interface_keeps place ended n (x ∷ is) none (suc k) i at =
    let both = earlier_none (interface_broken place ended n x) (interfaces_broken place ended (n + 1) is) none in
    let next : n + 1 + k ≡ n + suc k = omega arith in
    rw next at (each_interface_keeps place ended (n + 1) is both.1 k i at)

-- the step of a loop over messages
pub messages_broken-next : (rule : ℕ → WrittenMessage → Option ℕ) (ms : List WrittenMessage) (k : ℕ)
    (m : WrittenMessage) → k < length ms → m ≡ get_or ms k m
    → messages_broken rule 0 (take (k + 1) ms) ≡ earlier (messages_broken rule 0 (take k ms))
    (broken_at m.line (rule k m))
messages_broken-next rule ms k m within is =
    let len : 0 + length (take k ms) ≡ k = omega (arith, length-take-le k ms (omega (arith, within))) in
    let pushed = messages_broken-push rule 0 (take k ms) m in
    rw (take_more ms k m within, ← is) (rw len at pushed)

-- the step of a loop over interfaces
pub interfaces_broken-next : (place : List ℕ → Option ℕ) (ended : List Bool) (n : ℕ) (is : List WrittenInterface)
    (k : ℕ) (i : WrittenInterface) → k < length is → i ≡ get_or is k i
    → interfaces_broken place ended n (take (k + 1) is)
    ≡ earlier (interfaces_broken place ended n (take k is)) (interface_broken place ended (n + k) i)
interfaces_broken-next place ended n is k i within same =
    let len : n + length (take k is) ≡ n + k = omega (arith, length-take-le k is (omega (arith, within))) in
    let pushed = interfaces_broken-push place ended n (take k is) i in
    rw (take_more is k i within, ← same) (rw len at pushed)

-- the rule that the tests of a message from V6 on find
module _ (place : List ℕ → Option ℕ) (ended : List Bool) (i : WrittenInterface) (side : Side) (m : WrittenMessage) where
  pub later_six : names_objects side m ≡ false → later_rule place ended i side m ≡ Some 6
  later_six objects = rw objects refl

  pub later_seven : names_objects side m ≡ true → is_race_free place ended i side m ≡ false
      → later_rule place ended i side m ≡ Some 7
  later_seven objects free = rw (objects, free) refl

  pub later_eight : names_objects side m ≡ true → is_race_free place ended i side m ≡ true
      → nat_le 1 m.since && nat_le m.since i.version ≡ false → later_rule place ended i side m ≡ Some 8
  later_eight objects free since = rw (objects, free, since) refl

  pub later_nine : names_objects side m ≡ true → is_race_free place ended i side m ≡ true
      → nat_le 1 m.since && nat_le m.since i.version ≡ true
      → list_all (λ k. not (names_missing place k)) m.kinds ≡ false → later_rule place ended i side m ≡ Some 9
  later_nine objects free since there = rw (objects, free, since, there) refl

  pub later_eleven : names_objects side m ≡ true → is_race_free place ended i side m ≡ true
      → nat_le 1 m.since && nat_le m.since i.version ≡ true
      → list_all (λ k. not (names_missing place k)) m.kinds ≡ true
      → nat_le (count_by makes_server_object m.kinds) (most_by_server side)
      && list_all (λ k. not (makes_forbidden place ended k)) m.kinds ≡ false → later_rule place ended i side m ≡ Some 11
  later_eleven objects free since there right = rw (objects, free, since, there, right) refl

  pub later_none : names_objects side m ≡ true → is_race_free place ended i side m ≡ true
      → nat_le 1 m.since && nat_le m.since i.version ≡ true
      → list_all (λ k. not (names_missing place k)) m.kinds ≡ true
      → nat_le (count_by makes_server_object m.kinds) (most_by_server side)
      && list_all (λ k. not (makes_forbidden place ended k)) m.kinds ≡ true → later_rule place ended i side m ≡ None
  later_none objects free since there right = rw (objects, free, since, there, right) refl
