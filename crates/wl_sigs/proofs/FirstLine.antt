-- The broken line that is found is the first one, and its rule is the lowest that it breaks.
use Rattle.std.proofs.Common.{◌≡◌, ℕ, zero, suc, ◌+◌, ◌≤◌, ◌⊎◌, inl, inr, true, false, cond, List}
use Rattle.std.proofs.Common.{[], ◌∷◌, length, map, refl, sym, ap, ◌∙◌, subst, Some, None, Option}
use Rattle.std.proofs.Common.{Bool, slice_get, not, nat_le, nat_lt, ◌<◌, ◌==◌, ◌&&◌, ◌||◌, arith}
use Rattle.std.proofs.Math.Arith.{lt_of_le-ne}
use Rattle.std.proofs.lemmas.Bool.{ltb-true, ltb-false, eqb-true, eqb-false}
use Rattle.wl_sigs.specs.Side.{Side}
use Rattle.wl_sigs.specs.Side.TheVariants.{Request, Event}
use Rattle.std.specs.List.{list_all, count_by}
use Rattle.wl_sigs.specs.Rules.{is_name}
use Rattle.wl_sigs.specs.Tables.{Interface}
use Rattle.wl_text.specs.Text.{WrittenMessage, WrittenInterface}
use Rattle.wl_sigs.specs.Joined.{all_names, first_place}
use Rattle.wl_sigs.specs.Broken.{Broken, is_first, makes_object, makes_unnamed, names_missing}
use Rattle.wl_sigs.specs.Broken.{names_objects, is_race_free, most_new, comes_first, earlier, broken_at}
use Rattle.wl_sigs.specs.Broken.{makes_server_object, most_by_server, makes_forbidden}
use Rattle.wl_sigs.specs.Broken.{interface_rule, message_rule, messages_broken, interface_broken}
use Rattle.wl_sigs.specs.Broken.{interfaces_broken, ended_of, first_broken}
use Rattle.wl_sigs.specs.FirstBroken.{written_of}

-- a rule, and whether it is kept
pub record Tested : Type 0 where
  pub rule : ℕ
  pub kept : Bool

abbrev pub tested : ℕ → Bool → Tested
tested rule kept = record { rule = rule; kept = kept }

-- the tests of an interface at a place
abbrev pub interface_tests : (List ℕ → Option ℕ) → ℕ → WrittenInterface → List Tested
interface_tests place here i =
    tested 1 (is_name i.name && is_first place i.name here)
    ∷ tested 3 (nat_lt here 1024)
    ∷ tested 8 (nat_le 1 i.version)
    ∷ []

-- the tests of a message of the interface
abbrev pub message_tests : (List ℕ → Option ℕ) → List Bool → WrittenInterface → Side → (List ℕ → Option ℕ) → ℕ
    → WrittenMessage → List Tested
message_tests place ended i side first opcode m =
    tested 1 (is_name m.name && is_first first m.name opcode)
    ∷ tested 3 (nat_lt opcode 256 && nat_le (length m.kinds) 20)
    ∷ tested 4 (nat_le (count_by makes_object m.kinds) (most_new side))
    ∷ tested 5 (list_all (λ k. not (makes_unnamed k)) m.kinds)
    ∷ tested 6 (names_objects side m)
    ∷ tested 7 (is_race_free place ended i side m)
    ∷ tested 8 (nat_le 1 m.since && nat_le m.since i.version)
    ∷ tested 9 (list_all (λ k. not (names_missing place k)) m.kinds)
    ∷ tested 11 (nat_le (count_by makes_server_object m.kinds) (most_by_server side)
    && list_all (λ k. not (makes_forbidden place ended k)) m.kinds)
    ∷ []

-- what a text declares at a line, with the tests for it
pub data Declares (tables : List Interface) (written : List WrittenInterface) (line : ℕ)
    (tests : List Tested) : Type 0 where
  an_interface : (k : ℕ) (i : WrittenInterface)
      → slice_get written k ≡ Some i → line ≡ i.line
      → tests ≡ interface_tests (first_place (all_names tables written)) (length tables + k) i
      → Declares tables written line tests
  a_message : (k : ℕ) (i : WrittenInterface) (side : Side) (o : ℕ) (m : WrittenMessage)
      → slice_get written k ≡ Some i → slice_get (written_of side i) o ≡ Some m → line ≡ m.line
      → tests ≡ message_tests (first_place (all_names tables written)) (ended_of tables written) i side
      (first_place (map (λ n. n.name) (written_of side i))) o m
      → Declares tables written line tests

-- one of the tests is for this rule and fails
pub record Breaks (tests : List Tested) (rule : ℕ) : Type 0 where
  pub place : ℕ
  pub at : slice_get tests place ≡ Some (tested rule false)

-- the rule of the first test that fails
abbrev pub failing : List Tested → Option ℕ
failing [] = None
failing (t ∷ more) = cond (not t.kept) (Some t.rule) (failing more)

-- the rules ascend, and the first is at least n
abbrev pub Ascends : ℕ → List Tested → Type 0
Ascends n [] = Unit {0}
Ascends n (t ∷ more) = (n ≤ t.rule) × Ascends t.rule more

ascending : (n : ℕ) (tests : List Tested) → Ascends n tests → (k : ℕ) (t : Tested) → slice_get tests k ≡ Some t
    → n ≤ t.rule
ascending n [] up k t at = cc at
ascending n (x ∷ more) up zero t at = let same : x ≡ t = cc at in subst (λ (y : Tested). n ≤ y.rule) same up.0
ascending n (x ∷ more) up (suc k) t at = let rest = ascending x.rule more up.1 k t at in let here = up.0
    in omega (arith, rest, here)

-- the rule of a test that fails, and no test of a lower rule fails
pub record FailsFirst (tests : List Tested) (rule : ℕ) : Type 0 where
  pub breaks : Breaks tests rule
  pub least : (other : ℕ) → Breaks tests other → rule ≤ other

behind_kept : (t : Tested) (more : List Tested) (rule : ℕ) → t.kept ≡ true
    → ((other : ℕ) → Breaks more other → rule ≤ other)
    → (other k : ℕ) → slice_get (t ∷ more) k ≡ Some (tested other false) → rule ≤ other
behind_kept t more rule kept least other zero at =
    let same : t ≡ tested other false = cc at in
    let no : true ≡ false = sym kept ∙ ap (λ (y : Tested). y.kept) same in cc no
behind_kept t more rule kept least other (suc k) at = least other (record { place = k; at = at })

pub fails_first : (n : ℕ) (tests : List Tested) → Ascends n tests → (rule : ℕ) → failing tests ≡ Some rule
    → FailsFirst tests rule
fails_first n [] up rule fails = cc fails
fails_first n (t ∷ more) up rule fails = by_test t.kept refl fails (λ e. fails_first t.rule more up.1 rule e)
  where
    by_test : (b : Bool) → t.kept ≡ b → cond (not b) (Some t.rule) (failing more) ≡ Some rule
        → (failing more ≡ Some rule → FailsFirst more rule) → FailsFirst (t ∷ more) rule
    by_test false kept e rest =
        let same : t.rule ≡ rule = cc e in
        record {
          breaks = record {
            place = 0;
            at = ap (λ (b : Bool). Some (tested t.rule b)) kept
                ∙ ap (λ (r : ℕ). Some (tested r false)) same;
          };
          least = λ other b. subst (λ (r : ℕ). r ≤ other) same
              (ascending t.rule (t ∷ more) (omega arith, up.1) b.place (tested other false) b.at);
        }
    by_test true kept e rest =
        let answer = rest e in
        record {
          breaks = record { place = suc answer.breaks.place; at = answer.breaks.at };
          least = λ other b. behind_kept t more rule kept answer.least other b.place b.at;
        }

-- if a test fails, there is a first test that fails
pub some_fails : (tests : List Tested) (rule k : ℕ) → slice_get tests k ≡ Some (tested rule false)
    → (first : ℕ) × (failing tests ≡ Some first)
some_fails [] rule k at = cc at
some_fails (t ∷ more) rule zero at =
    let same : t ≡ tested rule false = cc at in
    let kept : t.kept ≡ false = ap (λ (y : Tested). y.kept) same in
    (t.rule, rw kept refl)
some_fails (t ∷ more) rule (suc k) at = by_test t.kept (some_fails more rule k at)
  where
    by_test : (b : Bool) → (first : ℕ) × (failing more ≡ Some first)
        → (first : ℕ) × (cond (not b) (Some t.rule) (failing more) ≡ Some first)
    by_test false rest = (t.rule, refl)
    by_test true rest = rest

-- the line comes later than the answer, or is the same line with the same or a higher rule
abbrev pub NotBefore : Broken → ℕ → ℕ → Type 0
NotBefore answer line rule = (answer.line < line) ⊎ ((answer.line ≡ line) × (answer.rule ≤ rule))

-- the answer is the first line, with its lowest rule, that satisfies P; without an answer, no line
-- satisfies P
pub record IsLeast (P : ℕ → ℕ → Type 0) (o : Option Broken) : Type 0 where
  pub found : (answer : Broken) → o ≡ Some answer → P answer.line answer.rule
  pub below : (answer : Broken) → o ≡ Some answer → (line rule : ℕ) → P line rule → NotBefore answer line rule
  pub none : o ≡ None → (line rule : ℕ) → P line rule → ⊥

pub like : (P Q : ℕ → ℕ → Type 0) → ((line rule : ℕ) → P line rule → Q line rule)
    → ((line rule : ℕ) → Q line rule → P line rule) → (o : Option Broken) → IsLeast P o → IsLeast Q o
like P Q to from o least = record {
  found = λ answer e. to answer.line answer.rule (least.found answer e);
  below = λ answer e line rule q. least.below answer e line rule (from line rule q);
  none = λ e line rule q. least.none e line rule (from line rule q);
}

abbrev pub Either : (ℕ → ℕ → Type 0) → (ℕ → ℕ → Type 0) → ℕ → ℕ → Type 0
Either P Q line rule = P line rule ⊎ Q line rule

before_or_not : (t lt eq less : Bool) (a b : Broken) → nat_lt a.line b.line ≡ lt → (a.line == b.line) ≡ eq
    → nat_lt a.rule b.rule ≡ less → lt || (eq && less) ≡ t
    → cond t (NotBefore a b.line b.rule) (NotBefore b a.line a.rule)
before_or_not true true eq less a b lt_is eq_is less_is is = inl (ltb-true a.line b.line lt_is)
before_or_not true false true true a b lt_is eq_is less_is is =
    let lt = ltb-true a.rule b.rule less_is in inr (eqb-true a.line b.line eq_is, omega (arith, lt))
before_or_not true false true false a b lt_is eq_is less_is is = cc is
before_or_not true false false less a b lt_is eq_is less_is is = cc is
before_or_not false true eq less a b lt_is eq_is less_is is = cc is
before_or_not false false true true a b lt_is eq_is less_is is = cc is
before_or_not false false true false a b lt_is eq_is less_is is =
    let le = ltb-false a.rule b.rule less_is in inr (sym (eqb-true a.line b.line eq_is), le)
before_or_not false false false less a b lt_is eq_is less_is is =
    let le = ltb-false a.line b.line lt_is in
    let differ = eqb-false a.line b.line eq_is in
    inl (lt_of_le-ne le (λ same. differ (sym same)))

-- which of two comes first
which_first : (t : Bool) (a b : Broken) → comes_first a b ≡ t
    → cond t (NotBefore a b.line b.rule) (NotBefore b a.line a.rule)
which_first t a b is =
    before_or_not t (nat_lt a.line b.line) (a.line == b.line) (nat_lt a.rule b.rule) a b refl refl refl is

not_before_trans : (x y : Broken) (line rule : ℕ) → NotBefore x y.line y.rule → NotBefore y line rule
    → NotBefore x line rule
not_before_trans x y line rule (inl a) (inl b) = inl (omega (arith, a, b))
not_before_trans x y line rule (inl a) (inr b) = inl (let same = b.0 in omega (arith, a, same))
not_before_trans x y line rule (inr a) (inl b) = inl (let same = a.0 in omega (arith, b, same))
not_before_trans x y line rule (inr a) (inr b) =
    inr (a.0 ∙ b.0, let le = a.1 in let le' = b.1 in omega (arith, le, le'))

pub of_either : (P Q : ℕ → ℕ → Type 0) (a b : Option Broken) → IsLeast P a → IsLeast Q b
    → IsLeast (Either P Q) (earlier a b)
of_either P Q None b p q = record {
  found = λ answer e. inr (q.found answer e);
  below = λ answer e line rule some. elim some [
    | inl this ↦ absurd
        (p.none refl line rule this)
    | inr that ↦ q.below answer e line rule that
  ];
  none = λ e line rule some. elim some [ inl this ↦ p.none refl line rule this | inr that ↦ q.none e line rule that ];
}
of_either P Q (Some x) None p q = record {
  found = λ answer e. inl (p.found answer e);
  below = λ answer e line rule some. elim some [
    | inl this ↦ p.below answer e line rule this
    | inr that ↦ absurd
        (q.none refl line rule that)
  ];
  none = λ e line rule some. cc e;
}
of_either P Q (Some x) (Some y) p q = by_test (comes_first y x) (which_first (comes_first y x) y x refl)
  where
    of_x : (line rule : ℕ) → NotBefore x y.line y.rule → Either P Q line rule → NotBefore x line rule
    of_x line rule before some = elim some [
      | inl this ↦ p.below x refl line rule this
      | inr that ↦ not_before_trans x y line rule before (q.below y refl line rule that)
    ]

    of_y : (line rule : ℕ) → NotBefore y x.line x.rule → Either P Q line rule → NotBefore y line rule
    of_y line rule before some = elim some [
      | inl this ↦ not_before_trans y x line rule before (p.below x refl line rule this)
      | inr that ↦ q.below y refl line rule that
    ]

    by_test : (t : Bool) → cond t (NotBefore y x.line x.rule) (NotBefore x y.line y.rule)
        → IsLeast (Either P Q) (cond t (Some y) (Some x))
    by_test true before = record {
      found = λ answer e. inr (q.found answer e);
      below = λ answer e line rule some. let same : y ≡ answer = cc e in
          subst (λ (z : Broken). NotBefore z line rule) same (of_y line rule before some);
      none = λ e line rule some. cc e;
    }
    by_test false before = record {
      found = λ answer e. inl (p.found answer e);
      below = λ answer e line rule some. let same : x ≡ answer = cc e in
          subst (λ (z : Broken). NotBefore z line rule) same (of_x line rule before some);
      none = λ e line rule some. cc e;
    }

-- one line
abbrev pub AtLine : ℕ → Option ℕ → ℕ → ℕ → Type 0
AtLine here o line rule = (line ≡ here) × (o ≡ Some rule)

pub one_line : (here : ℕ) (o : Option ℕ) → IsLeast (AtLine here o) (broken_at here o)
one_line here None = record {
  found = λ answer e. cc e;
  below = λ answer e line rule some. cc e;
  none = λ e line rule some. let no = some.1 in cc no;
}
one_line here (Some r) = record {
  found = λ answer e. let same : record { line = here; rule = r } ≡ answer = cc e
      in (sym (ap (λ (z : Broken). z.line) same), ap (λ (z : Broken). Some z.rule) same);
  below = λ answer e line rule some.
      let same : record { line = here; rule = r } ≡ answer = cc e in
      let at_rule : r ≡ rule = (let is = some.1 in cc is) in
      let is = ap (λ (z : Broken). z.rule) same in
      inr (sym (ap (λ (z : Broken). z.line) same) ∙ sym some.0, omega (arith, is, at_rule));
  none = λ e line rule some. cc e;
}

-- the messages of a side
pub record InMessages (rule_of : ℕ → WrittenMessage → Option ℕ) (n : ℕ) (ms : List WrittenMessage)
    (line rule : ℕ) : Type 0 where
  pub place : ℕ
  pub message : WrittenMessage
  pub at : slice_get ms place ≡ Some message
  pub line_is : line ≡ message.line
  pub breaks : rule_of (n + place) message ≡ Some rule

pub messages_least : (rule_of : ℕ → WrittenMessage → Option ℕ) (n : ℕ) (ms : List WrittenMessage)
    → IsLeast (InMessages rule_of n ms) (messages_broken rule_of n ms)
messages_least rule_of n [] = record {
  found = λ answer e. cc e;
  below = λ answer e line rule some. cc e;
  none = λ e line rule some. let no = some.at in cc no;
}
messages_least rule_of n (m ∷ ms) =
    like (Either (AtLine m.line (rule_of n m)) (InMessages rule_of (n + 1) ms)) (InMessages rule_of n (m ∷ ms)) to
    (λ line rule some. from line rule some.place some.message some.at some.line_is some.breaks)
    (messages_broken rule_of n (m ∷ ms))
    (of_either (AtLine m.line (rule_of n m)) (InMessages rule_of (n + 1) ms) (broken_at m.line (rule_of n m))
    (messages_broken rule_of (n + 1) ms) (one_line m.line (rule_of n m)) (messages_least rule_of (n + 1) ms))
  where
    to : (line rule : ℕ) → Either (AtLine m.line (rule_of n m)) (InMessages rule_of (n + 1) ms) line rule
        → InMessages rule_of n (m ∷ ms) line rule
    to line rule some = elim some [
      | inl here ↦ record {
        place = 0;
        message = m;
        at = refl;
        line_is = here.0;
        breaks = let on : n + 0 ≡ n = omega arith in rw on here.1;
      }
      | inr rest ↦ record {
        place = suc rest.place;
        message = rest.message;
        at = rest.at;
        line_is = rest.line_is;
        breaks = let on : n + suc rest.place ≡ n + 1 + rest.place = omega arith in rw on rest.breaks;
      }
    ]

    from : (line rule place : ℕ) (x : WrittenMessage) → slice_get (m ∷ ms) place ≡ Some x → line ≡ x.line
        → rule_of (n + place) x ≡ Some rule
        → Either (AtLine m.line (rule_of n m)) (InMessages rule_of (n + 1) ms) line rule
    from line rule zero x at is breaks =
        let same : m ≡ x = cc at in
        let on : n + 0 ≡ n = omega arith in
        inl (
          is ∙ ap (λ (z : WrittenMessage). z.line) (sym same),
          subst
              (λ (z : WrittenMessage). rule_of n z ≡ Some rule) (sym same) (rw on at breaks),
        )
    from line rule (suc place) x at is breaks =
        let on : n + suc place ≡ n + 1 + place = omega arith in
        inr (record { place = place; message = x; at = at; line_is = is; breaks = rw on at breaks })

-- one interface with its messages
abbrev pub side_rule : (List ℕ → Option ℕ) → List Bool → WrittenInterface → Side → ℕ → WrittenMessage → Option ℕ
side_rule place ended i side = message_rule place ended i side (first_place (map (λ m. m.name) (written_of side i)))

abbrev pub InInterface : (List ℕ → Option ℕ) → List Bool → ℕ → WrittenInterface → ℕ → ℕ → Type 0
InInterface place ended here i =
    Either (AtLine i.line (interface_rule place here i))
    (Either (InMessages (side_rule place ended i Request) 0 i.requests)
    (InMessages (side_rule place ended i Event) 0 i.events))

interface_least : (place : List ℕ → Option ℕ) (ended : List Bool) (here : ℕ) (i : WrittenInterface)
    → IsLeast (InInterface place ended here i) (interface_broken place ended here i)
interface_least place ended here i =
    let requests = messages_least (side_rule place ended i Request) 0 i.requests in
    let events = messages_least (side_rule place ended i Event) 0 i.events in
    of_either _ _ (broken_at i.line (interface_rule place here i)) _ (one_line i.line (interface_rule place here i))
    (of_either _ _ _ _ requests events)

-- all interfaces
pub record InInterfaces (place : List ℕ → Option ℕ) (ended : List Bool) (n : ℕ) (is : List WrittenInterface)
    (line rule : ℕ) : Type 0 where
  pub index : ℕ
  pub interface : WrittenInterface
  pub at : slice_get is index ≡ Some interface
  pub breaks : InInterface place ended (n + index) interface line rule

interfaces_least : (place : List ℕ → Option ℕ) (ended : List Bool) (n : ℕ) (is : List WrittenInterface)
    → IsLeast (InInterfaces place ended n is) (interfaces_broken place ended n is)
interfaces_least place ended n [] = record {
  found = λ answer e. cc e;
  below = λ answer e line rule some. cc e;
  none = λ e line rule some. let no = some.at in cc no;
}
interfaces_least place ended n (i ∷ is) =
    like (Either (InInterface place ended n i) (InInterfaces place ended (n + 1) is))
    (InInterfaces place ended n (i ∷ is)) to (λ line rule some. from line rule some.index some.interface some.at
    some.breaks)
    (interfaces_broken place ended n (i ∷ is))
    (of_either (InInterface place ended n i) (InInterfaces place ended (n + 1) is) (interface_broken place ended n i)
    (interfaces_broken place ended (n + 1) is) (interface_least place ended n i)
    (interfaces_least place ended (n + 1) is))
  where
    to : (line rule : ℕ) → Either (InInterface place ended n i) (InInterfaces place ended (n + 1) is) line rule
        → InInterfaces place ended n (i ∷ is) line rule
    to line rule some = elim some [
      | inl here ↦ record {
        index = 0;
        interface = i;
        at = refl;
        breaks = let on : n ≡ n + 0 = omega arith
            in subst (λ (k : ℕ). InInterface place ended k i line rule) on here;
      }
      | inr rest ↦ record {
        index = suc rest.index;
        interface = rest.interface;
        at = rest.at;
        breaks = let on : n + 1 + rest.index ≡ n + suc rest.index = omega arith
            in subst (λ (k : ℕ). InInterface place ended k rest.interface line rule) on rest.breaks;
      }
    ]

    from : (line rule index : ℕ) (x : WrittenInterface) → slice_get (i ∷ is) index ≡ Some x
        → InInterface place ended (n + index) x line rule
        → Either (InInterface place ended n i) (InInterfaces place ended (n + 1) is) line rule
    from line rule zero x at breaks =
        let same : x ≡ i = (let e : Some i ≡ Some x = at in cc) in
        let on : n + 0 ≡ n = omega arith in
        inl (subst (λ (z : WrittenInterface). InInterface place ended n z line rule) same
        (subst (λ (k : ℕ). InInterface place ended k x line rule) on breaks))
    from line rule (suc index) x at breaks =
        let on : n + suc index ≡ n + 1 + index = omega arith in
        inr (record {
          index = index;
          interface = x;
          at = at;
          breaks = subst (λ (k : ℕ). InInterface place ended k x line rule) on breaks;
        })

-- the line declares something, and this is the lowest rule that it breaks
record Names (tables : List Interface) (written : List WrittenInterface) (line rule : ℕ) : Type 0 where
  tests : List Tested
  declares : Declares tables written line tests
  fails : FailsFirst tests rule

interface_ascends : (place : List ℕ → Option ℕ) (here : ℕ) (i : WrittenInterface)
    → Ascends 0 (interface_tests place here i)
interface_ascends place here i = (omega arith, (omega arith, (omega arith, tt)))

pub message_ascends : (place : List ℕ → Option ℕ) (ended : List Bool) (i : WrittenInterface) (side : Side)
    (first : List ℕ → Option ℕ) (opcode : ℕ) (m : WrittenMessage)
    → Ascends 0 (message_tests place ended i side first opcode m)
message_ascends place ended i side first opcode m = (
  omega arith,
  (
    omega arith,
    (
      omega arith,
      (
        omega arith,
        (omega arith, (omega arith, (omega arith, (omega arith, (omega arith, tt))))),
      ),
    ),
  ),
)

names_of : (tables : List Interface) (written : List WrittenInterface) (line rule index : ℕ) (i : WrittenInterface)
    → slice_get written index ≡ Some i
    → InInterface (first_place (all_names tables written)) (ended_of tables written) (length tables + index) i line rule
    → Names tables written line rule
names_of tables written line rule index i at breaks = elim breaks [
  | inl own ↦
      let tests = interface_tests place (length tables + index) i in
      record {
        tests = tests;
        declares = an_interface index i at own.0 refl;
        fails = fails_first 0 tests (interface_ascends place (length tables + index) i) rule own.1;
      }
  | inr messages ↦ elim messages [
    | inl request ↦ of_side Request request
    | inr event ↦ of_side Event event
  ]
]
  where
    place : List ℕ → Option ℕ
    place = first_place (all_names tables written)

    ended : List Bool
    ended = ended_of tables written

    of_side : (side : Side) → InMessages (side_rule place ended i side) 0 (written_of side i) line rule
        → Names tables written line rule
    of_side side m =
        let first = first_place (map (λ n. n.name) (written_of side i)) in
        let tests = message_tests place ended i side first m.place m.message in
        let on : 0 + m.place ≡ m.place = omega arith in
        record {
          tests = tests;
          declares = a_message index i side m.place m.message at m.at m.line_is refl;
          fails = fails_first 0 tests (message_ascends place ended i side first m.place m.message) rule
              (rw on at m.breaks);
        }

-- what the line declares breaks a rule, and the first rule that fails for it is at most this one
pub record Among (tables : List Interface) (written : List WrittenInterface) (line rule : ℕ) : Type 0 where
  pub first : ℕ
  pub within : InInterfaces (first_place (all_names tables written)) (ended_of tables written) (length tables) written
      line first
  pub least : first ≤ rule

first_fails : (tests : List Tested) → Ascends 0 tests → (rule : ℕ) → Breaks tests rule
    → (first : ℕ) × (failing tests ≡ Some first) × (first ≤ rule)
first_fails tests up rule breaks =
    let some = some_fails tests rule breaks.place breaks.at in
    (some.0, some.1, (fails_first 0 tests up some.0 some.1).least rule breaks)

-- each line that breaks a rule is among the lines of which the first is found
among : (tables : List Interface) (written : List WrittenInterface) (line rule : ℕ) (tests : List Tested)
    → Declares tables written line tests → Breaks tests rule → Among tables written line rule
among tables written line rule tests (an_interface k i at line_is tests_are) breaks =
    let up = interface_ascends (first_place (all_names tables written)) (length tables + k) i in
    let some = first_fails tests (subst (λ (t : List Tested). Ascends 0 t) (sym tests_are) up) rule breaks in
    record {
      first = some.0;
      within = record { index = k; interface = i; at = at; breaks = inl (line_is, sym (ap failing tests_are) ∙ some.1) };
      least = some.2;
    }
among tables written line rule tests (a_message k i side o m at of line_is tests_are) breaks =
    let up = message_ascends (first_place (all_names tables written)) (ended_of tables written) i side
    (first_place (map (λ n. n.name) (written_of side i))) o m in
    let some = first_fails tests (subst (λ (t : List Tested). Ascends 0 t) (sym tests_are) up) rule breaks in
    let on : o ≡ 0 + o = omega arith in
    record {
      first = some.0;
      within = record {
        index = k;
        interface = i;
        at = at;
        breaks = by_side side (record {
          place = o;
          message = m;
          at = of;
          line_is = line_is;
          breaks = rw (← on) (sym (ap failing tests_are) ∙ some.1);
        });
      };
      least = some.2;
    }
  where
    by_side : (s : Side) {first : ℕ}
        → InMessages (side_rule (first_place (all_names tables written)) (ended_of tables written) i s) 0
        (written_of s i) line first
        → InInterface (first_place (all_names tables written)) (ended_of tables written) (length tables + k) i line first
    by_side Request answer = inr (inl answer)
    by_side Event answer = inr (inr answer)

pub later_not_before : (answer : Broken) (line first rule : ℕ) → NotBefore answer line first → first ≤ rule → NotBefore answer line rule
later_not_before answer line first rule (inl lt) le = inl lt
later_not_before answer line first rule (inr same) le = inr (same.0, let le' = same.1 in omega (arith, le, le'))

-- the line breaks the rule, judged by the tests
pub record ByTests (tables : List Interface) (written : List WrittenInterface) (line rule : ℕ) : Type 0 where
  pub tests : List Tested
  pub declares : Declares tables written line tests
  pub breaks : Breaks tests rule

pub first_tested : (tables : List Interface) (written : List WrittenInterface)
    → IsLeast (ByTests tables written) (first_broken tables written)
first_tested tables written =
    let least = interfaces_least (first_place (all_names tables written)) (ended_of tables written)
    (length tables) written in
    record {
      found = λ answer e.
          let here = least.found answer e in
          let names = names_of tables written answer.line answer.rule here.index here.interface here.at here.breaks in
          record { tests = names.tests; declares = names.declares; breaks = names.fails.breaks };
      below = λ answer e line rule by.
          let some = among tables written line rule by.tests by.declares by.breaks in
          later_not_before answer line some.first rule (least.below answer e line some.first some.within) some.least;
      none = λ e line rule by.
          let some = among tables written line rule by.tests by.declares by.breaks in
          least.none e line some.first some.within;
    }
