-- A test of a line fails if and only if the line breaks the rule of the test.
use Rattle.std.proofs.Common.{◌≡◌, ◌≢◌, ℕ, zero, suc, ◌+◌, ◌<◌, inl, inr, true, false, List, [], ◌∷◌, length, map, refl}
use Rattle.std.proofs.Common.{sym, ap, ◌∙◌, subst, Some, None, Option, Bool, slice_get, not, nat_le, nat_lt, ◌&&◌, ◌||◌}
use Rattle.std.proofs.Common.{arith}
use Rattle.std.specs.Prelude.{option_map}
use Rattle.std.specs.List.{Contains, list_all, count_by}
use Rattle.std.proofs.lemmas.Bool.{leb-true, leb-false, ltb-false, false_from_ne_true, and_left, and_right}
use Rattle.std.proofs.lemmas.List.{length-map}
use Rattle.std.proofs.lemmas.Option.{slice_get-map, slice_get_past}
use Rattle.wl_wire.specs.declared.kind.Kind.{Kind}
use Rattle.wl_wire.specs.declared.kind.Kind.TheVariants as kinds
use Rattle.wl_wire.specs.declared.kind.Iface.{Iface}
use Rattle.wl_sigs.specs.Side.{Side}
use Rattle.wl_sigs.specs.Side.TheVariants.{Request, Event}
use Rattle.wl_sigs.specs.Rules.{is_name, is_empty}
use Rattle.wl_sigs.specs.Tables.{MessageSignature, Interface, interface_at, new_objects, named_interface}
use Rattle.wl_sigs.specs.Tables.{destroys_target, server_objects}
use Rattle.wl_sigs.specs.Valid.{IsTableName}
use Rattle.wl_text.specs.Text.{WrittenKind, WrittenMessage, WrittenInterface}
use Rattle.wl_sigs.specs.Joined.{all_names, first_place, kind_placed, destroys_of, joined}
use Rattle.wl_sigs.specs.Broken.{is_first, makes_object, makes_unnamed, takes_any, takes_ended}
use Rattle.wl_sigs.specs.Broken.{names_missing, most_new, names_objects, is_race_free, ended_of}
use Rattle.wl_sigs.specs.Broken.{makes_server_object, most_by_server, makes_forbidden}
use Rattle.wl_sigs.specs.FirstBroken.{written_of, InterfaceBreaks, interface_misnamed}
use Rattle.wl_sigs.specs.FirstBroken.{interface_named_again, interface_beyond, version_below_one}
use Rattle.wl_sigs.specs.FirstBroken.{MessageBreaks, message_misnamed, message_named_again}
use Rattle.wl_sigs.specs.FirstBroken.{message_beyond, too_many_arguments, event_makes}
use Rattle.wl_sigs.specs.FirstBroken.{request_makes_two, new_without_interface, object_of_any}
use Rattle.wl_sigs.specs.FirstBroken.{event_destroys, object_of_ended, since_below_one}
use Rattle.wl_sigs.specs.FirstBroken.{since_above_version, interface_missing}
use Rattle.wl_sigs.specs.FirstBroken.{request_has_server_object, event_has_two_server_objects}
use Rattle.wl_sigs.specs.FirstBroken.{server_object_of_ended, server_object_of_fixed}
use Rattle.wl_sigs.proofs.RulesDecide.{decides_name}
use Rattle.wl_rules.proofs.FirstPlaces.{first_place-within}
use Rattle.wl_sigs.proofs.JoinedLookup.{mapped_at, placing, placing_message, placed_messages}
use Rattle.wl_sigs.proofs.JoinedLookup.{length_joined, length_names, names_joined}
use Rattle.wl_sigs.proofs.JoinedValid.{ended_at}
use Rattle.wl_sigs.proofs.ValidKeeps.{placed_at, ended_is, name_there}
use Rattle.wl_sigs.proofs.ServerObjects.{MadeRightly, count_by_server, made_rightly, wrongly_made}
use Rattle.wl_sigs.proofs.PlacedKinds.{count_placed, not_unnamed, not_any, there, NotEndedIn, not_ended}
use Rattle.wl_rules.proofs.Extensions.{not_lt}
use Rattle.wl_sigs.proofs.LineRules.{either_fails, some_kind}
use Rattle.wl_sigs.proofs.LineRules.{kinds_fail, unnamed_is, any_is, ended_named, missing_named}
use Rattle.wl_sigs.proofs.LineRules.{earlier_name, not_first}
use Rattle.wl_sigs.proofs.FirstLine.{Tested, tested, interface_tests, message_tests, Breaks}

-- each test that fails says that its rule is broken
abbrev pub EachSays : (ℕ → Type 0) → List Tested → Type 0
EachSays Broken [] = Unit {0}
EachSays Broken (t ∷ more) = (t.kept ≡ false → Broken t.rule) × EachSays Broken more

pub each_says : (Broken : ℕ → Type 0) (tests : List Tested) → EachSays Broken tests → (rule k : ℕ)
    → slice_get tests k ≡ Some (tested rule false) → Broken rule
each_says Broken [] all rule k at = cc at
each_says Broken (t ∷ more) all rule zero at =
    let same : t ≡ tested rule false = cc at in
    subst (λ (r : ℕ). Broken r) (ap (λ (x : Tested). x.rule) same) (all.0 (ap (λ (x : Tested). x.kept) same))
each_says Broken (t ∷ more) all rule (suc k) at = each_says Broken more all.1 rule k at

-- the tests and what they say
pub record Says (Broken : ℕ → Type 0) (tests : List Tested) : Type 0 where
  pub to : (rule : ℕ) → Breaks tests rule → Broken rule
  pub from : (rule : ℕ) → Broken rule → Breaks tests rule

-- the test at this place is for the rule and fails
pub failing_at : (tests : List Tested) (k own rule : ℕ) (kept : Bool) → slice_get tests k ≡ Some (tested own kept)
    → rule ≡ own → kept ≡ false → Breaks tests rule
failing_at tests k own rule kept at is fails = record {
  place = k;
  at = at ∙ ap (λ (b : Bool). Some (tested own b)) fails ∙ ap (λ (r : ℕ). Some (tested r false)) (sym is);
}

name_at : (tables : List Interface) (written : List WrittenInterface) (p : ℕ) (i : Interface)
    → interface_at (joined tables written) p ≡ Some i → slice_get (all_names tables written) p ≡ Some i.name
name_at tables written p i found = rw (← names_joined tables written)
    (slice_get-map (λ (i : Interface). i.name) (joined tables written) p
    ∙ ap (option_map (λ (i : Interface). i.name)) found)

not_name : (name : List ℕ) → is_name name ≡ false → ¬ IsTableName name
not_name name fails is = let passes = (decides_name name).1 is in let no : false ≡ true = sym fails ∙ passes in cc no

no_name : (name : List ℕ) → ¬ IsTableName name → is_name name ≡ false
no_name name never = false_from_ne_true (is_name name) (λ passes. never ((decides_name name).0 passes))

not_le : (a b : ℕ) → b < a → nat_le a b ≡ false
not_le a b lt = false_from_ne_true (nat_le a b) (λ t. let le = leb-true a b t in omega (arith, lt, le))

-- an interface

abbrev InterfaceBroken : List Interface → List WrittenInterface → ℕ → WrittenInterface → ℕ → Type 0
InterfaceBroken tables written k w = InterfaceBreaks (joined tables written) (length tables + k)
    (placing tables written w)

pub interface_says : (tables : List Interface) (written : List WrittenInterface) (k : ℕ) (w : WrittenInterface)
    → slice_get written k ≡ Some w
    → Says (InterfaceBroken tables written k w) (interface_tests (first_place (all_names tables written))
    (length tables + k) w)
interface_says tables written k w at = record {
  to = λ rule breaks. each_says (InterfaceBroken tables written k w) tests
      (name_says, (beyond_says, (version_says, tt))) rule breaks.place breaks.at;
  from = λ rule broken. back rule broken;
}
  where
    names : List (List ℕ)
    names = all_names tables written

    here : ℕ
    here = length tables + k

    tests : List Tested
    tests = interface_tests (first_place names) here w

    here_name : slice_get names here ≡ Some w.name
    here_name = name_at tables written here (placing tables written w) (placed_at tables written k w at)

    name_says : is_name w.name && is_first (first_place names) w.name here ≡ false
        → InterfaceBroken tables written k w 1
    name_says e = elim (either_fails (is_name w.name) (is_first (first_place names) w.name here) e) [
      | inl none ↦ interface_misnamed refl (not_name w.name none)
      | inr again ↦
          let witness = earlier_name names w.name here here_name again.1 in
          let j = mapped_at (λ (i : Interface). i.name) (joined tables written) witness.0 w.name
          (rw (names_joined tables written) witness.2) in
          interface_named_again witness.0 j.0 refl witness.1 j.1 j.2
    ]

    beyond_says : nat_lt here 1024 ≡ false → InterfaceBroken tables written k w 3
    beyond_says e = interface_beyond refl (ltb-false here 1024 e)

    version_says : nat_le 1 w.version ≡ false → InterfaceBroken tables written k w 8
    version_says e = version_below_one refl (let lt = leb-false 1 w.version e in omega (arith, lt))

    back : (rule : ℕ) → InterfaceBroken tables written k w rule → Breaks tests rule
    back rule (interface_misnamed is never) = failing_at tests 0 1 rule _ refl is
        (and_left (is_name w.name) (is_first (first_place names) w.name here) (no_name w.name never))
    back rule (interface_named_again earlier j is lt found same) =
        failing_at tests 0 1 rule _ refl is (and_right (is_name w.name) (is_first (first_place names) w.name here)
        (not_first names w.name here earlier lt (name_at tables written earlier j found ∙ ap Some same)))
    back rule (interface_beyond is le) = failing_at tests 1 3 rule _ refl is (not_lt here 1024 le)
    back rule (version_below_one is lt) = failing_at tests 2 8 rule _ refl is (not_le 1 w.version lt)

-- a message

abbrev pub MessageBroken : List Interface → List WrittenInterface → WrittenInterface → Side → ℕ → WrittenMessage → ℕ
    → Type 0
MessageBroken tables written w side o m = MessageBreaks (joined tables written) (placing tables written w) side o
    (placing_message tables written m)

no_requests : {X Y : Type 0} (f : X → Y) (xs : List X) → is_empty xs ≡ false → 0 < length (map f xs)
no_requests f [] e = cc e
no_requests f (x ∷ xs) e = omega arith

some_requests : {X Y : Type 0} (f : X → Y) (xs : List X) → 0 < length (map f xs) → is_empty xs ≡ false
some_requests f [] lt = absurd (omega (arith, lt))
some_requests f (x ∷ xs) lt = refl

either_races : (destroys empty : Bool) → not destroys || empty ≡ false → (destroys ≡ true) × (empty ≡ false)
either_races true empty e = (refl, e)
either_races false empty e = cc e

both_race : (destroys empty : Bool) → destroys_target (destroys_of destroys) ≡ true → empty ≡ false
    → not destroys || empty ≡ false
both_race true empty destroys e = e
both_race false empty destroys e = cc destroys

pub target_is : (b : Bool) → b ≡ true → destroys_target (destroys_of b) ≡ true
target_is true e = refl
target_is false e = cc e

few_fails : (side : Side) (n most : ℕ) → most_new side ≡ most → most < n → nat_le n (most_new side) ≡ false
few_fails side n most is lt = not_le n (most_new side) (omega (arith, is, lt))

any_fails : (side : Side) (m : WrittenMessage) → side ≡ Request → list_all (λ k. not (takes_any k)) m.kinds ≡ false
    → names_objects side m ≡ false
any_fails Request m is e = e
any_fails Event m is e = cc is

race_fails : (place : List ℕ → Option ℕ) (ended : List Bool) (w : WrittenInterface) (side : Side) (m : WrittenMessage)
    → side ≡ Request
    → list_all (λ k. not (takes_ended place ended k)) m.kinds ≡ false → is_race_free place ended w side m ≡ false
race_fails place ended w Request m is e = e
race_fails place ended w Event m is e = cc is

event_race_fails : (place : List ℕ → Option ℕ) (ended : List Bool) (w : WrittenInterface) (side : Side)
    (m : WrittenMessage) → side ≡ Event
    → not m.destroys || is_empty w.requests ≡ false → is_race_free place ended w side m ≡ false
event_race_fails place ended w Request m is e = cc is
event_race_fails place ended w Event m is e = e

pub message_says : (tables : List Interface) (written : List WrittenInterface) (w : WrittenInterface)
    (side : Side) (o : ℕ) (m : WrittenMessage)
    → slice_get (written_of side w) o ≡ Some m
    → Says (MessageBroken tables written w side o m)
    (message_tests (first_place (all_names tables written)) (ended_of tables written) w side
    (first_place (map (λ n. n.name) (written_of side w))) o m)
message_says tables written w side o m of = record {
  to = λ rule breaks. each_says Broken tests (
    name_says,
    (
      small_says,
      (
        few_says side refl,
        (
          unnamed_says,
          (
            any_says side refl,
            (race_says side refl, (since_says, (missing_says, (server_says, tt)))),
          ),
        ),
      ),
    ),
  ) rule breaks.place breaks.at;
  from = λ rule broken. back rule broken;
}
  where
    Broken : ℕ → Type 0
    Broken = MessageBroken tables written w side o m

    all : List Interface
    all = joined tables written

    names : List (List ℕ)
    names = all_names tables written

    place : List ℕ → Option ℕ
    place = first_place names

    past : ℕ
    past = length names

    ended : List Bool
    ended = ended_of tables written

    kind_of : WrittenKind → Kind
    kind_of = kind_placed place past

    own_names : List (List ℕ)
    own_names = map (λ n. n.name) (written_of side w)

    tests : List Tested
    tests = message_tests place ended w side (first_place own_names) o m

    own_name : (p : ℕ) (n : WrittenMessage) → slice_get (written_of side w) p ≡ Some n
        → slice_get own_names p ≡ Some n.name
    own_name p n found = slice_get-map (λ (n : WrittenMessage). n.name) (written_of side w) p
        ∙ ap (option_map (λ (n : WrittenMessage). n.name)) found

    count : length (new_objects (map kind_of m.kinds)) ≡ count_by makes_object m.kinds
    count = count_placed place past m.kinds

    by_server : length (server_objects (map kind_of m.kinds)) ≡ count_by makes_server_object m.kinds
    by_server = count_by_server place past m.kinds

    lens : length all ≡ past
    lens = omega (arith, length_joined tables written, length_names tables written)

    beyond : interface_at all past ≡ None
    beyond = slice_get_past all past (omega (arith, lens))

    -- V1
    name_says : is_name m.name && is_first (first_place own_names) m.name o ≡ false → Broken 1
    name_says e = elim (either_fails (is_name m.name) (is_first (first_place own_names) m.name o) e) [
      | inl none ↦ message_misnamed refl (not_name m.name none)
      | inr again ↦
          let witness = earlier_name own_names m.name o (own_name o m of) again.1 in
          let n = mapped_at (λ (n : WrittenMessage). n.name) (written_of side w) witness.0 m.name witness.2 in
          message_named_again witness.0 (placing_message tables written n.0) refl witness.1
          (rw (placed_messages tables written side w)
          (slice_get-map (placing_message tables written) (written_of side w) witness.0
          ∙ ap (option_map (placing_message tables written)) n.1)) n.2
    ]

    -- V3
    small_says : nat_lt o 256 && nat_le (length m.kinds) 20 ≡ false → Broken 3
    small_says e = elim (either_fails (nat_lt o 256) (nat_le (length m.kinds) 20) e) [
      | inl many ↦ message_beyond refl (ltb-false o 256 many)
      | inr long ↦ too_many_arguments refl (let lt = leb-false (length m.kinds) 20 long.1
          in let len = length-map m.kinds kind_of in omega (arith, lt, len))
    ]

    -- V4
    few_says : (s : Side) → side ≡ s → nat_le (count_by makes_object m.kinds) (most_new s) ≡ false → Broken 4
    few_says Request is e = request_makes_two refl is
        (let lt = leb-false (count_by makes_object m.kinds) 1 e in omega (arith, lt, count))
    few_says Event is e = event_makes refl is (let lt = leb-false (count_by makes_object m.kinds) 0 e
        in omega (arith, lt, count))

    -- V5
    unnamed_says : list_all (λ k. not (makes_unnamed k)) m.kinds ≡ false → Broken 5
    unnamed_says e =
        let witness = some_kind makes_unnamed kind_of m.kinds e in
        new_without_interface refl (subst (λ (x : Kind). Contains (map kind_of m.kinds) x)
        (unnamed_is place past witness.kind.kind witness.kind.iface witness.passes) witness.there)

    -- V6
    any_says : (s : Side) → side ≡ s → names_objects s m ≡ false → Broken 6
    any_says Request is e =
        let witness = some_kind takes_any kind_of m.kinds e in
        let any = any_is place past witness.kind.kind witness.kind.iface witness.passes in
        object_of_any any.0 refl is (subst (λ (x : Kind). Contains (map kind_of m.kinds) x) any.1 witness.there)
    any_says Event is e = cc e

    -- V7
    race_says : (s : Side) → side ≡ s → is_race_free place ended w s m ≡ false → Broken 7
    race_says Request is e =
        let witness = some_kind (takes_ended place ended) kind_of m.kinds e in
        let ends = ended_named all place past ended (ended_is tables written) witness.kind.kind witness.kind.iface witness.passes in
        object_of_ended ends.null ends.iface ends.interface refl is
        (subst (λ (x : Kind). Contains (map kind_of m.kinds) x) ends.is witness.there) ends.at ends.ends
    race_says Event is e =
        let both = either_races m.destroys (is_empty w.requests) e in
        event_destroys refl is (target_is m.destroys both.0)
        (no_requests (placing_message tables written) w.requests both.1)

    -- V8
    since_says : nat_le 1 m.since && nat_le m.since w.version ≡ false → Broken 8
    since_says e = elim (either_fails (nat_le 1 m.since) (nat_le m.since w.version) e) [
      | inl none ↦ since_below_one refl (let lt = leb-false 1 m.since none in omega (arith, lt))
      | inr later ↦ since_above_version refl (let lt = leb-false m.since w.version later.1 in omega (arith, lt))
    ]

    -- V9
    missing_says : list_all (λ k. not (names_missing place k)) m.kinds ≡ false → Broken 9
    missing_says e =
        let witness = some_kind (names_missing place) kind_of m.kinds e in
        let missing = missing_named place past witness.kind.kind witness.kind.iface witness.passes in
        interface_missing (kind_of witness.kind) missing.0 refl witness.there missing.1
        (let le = missing.2 in omega (arith, le, lens))

    -- V11
    many_says : (s : Side) → side ≡ s → nat_le (count_by makes_server_object m.kinds) (most_by_server s) ≡ false
        → Broken 11
    many_says Request is e = request_has_server_object refl is
        (let lt = leb-false (count_by makes_server_object m.kinds) 0 e in omega (arith, lt, by_server))
    many_says Event is e = event_has_two_server_objects refl is
        (let lt = leb-false (count_by makes_server_object m.kinds) 1 e in omega (arith, lt, by_server))

    forbidden_says : list_all (λ k. not (makes_forbidden place ended k)) m.kinds ≡ false → Broken 11
    forbidden_says e =
        let witness = some_kind (makes_forbidden place ended) kind_of m.kinds e in
        let made = wrongly_made all place past ended (ended_is tables written) (name_there tables written)
        witness.kind.kind witness.kind.iface witness.passes in
        let there = subst (λ (x : Kind). Contains (map kind_of m.kinds) x) made.is witness.there in
        elim made.wrong [
          | inl fixed ↦ server_object_of_fixed made.iface made.interface refl there made.at fixed
          | inr ends ↦ server_object_of_ended made.iface made.interface refl there made.at ends
        ]

    server_says : nat_le (count_by makes_server_object m.kinds) (most_by_server side)
        && list_all (λ k. not (makes_forbidden place ended k)) m.kinds ≡ false → Broken 11
    server_says e = elim (either_fails (nat_le (count_by makes_server_object m.kinds) (most_by_server side))
        (list_all (λ k. not (makes_forbidden place ended k)) m.kinds) e) [
          | inl many ↦ many_says side refl many
          | inr forbidden ↦ forbidden_says forbidden.1
        ]

    -- the test of V11 fails if one of its two parts does
    many_back : (rule most : ℕ) → rule ≡ 11 → most_by_server side ≡ most → most < length (server_objects (map kind_of m.kinds))
        → Breaks tests rule
    many_back rule most is at_most lt =
        failing_at tests 8 11 rule _ refl is (and_left (nat_le (count_by makes_server_object m.kinds)
        (most_by_server side)) (list_all (λ k. not (makes_forbidden place ended k)) m.kinds)
        (not_le (count_by makes_server_object m.kinds) (most_by_server side) (omega (arith, lt, by_server, at_most))))

    forbidden_back : (rule : ℕ) (iface : Iface) → rule ≡ 11 → Contains (map kind_of m.kinds) (kinds.NewByServer iface)
        → ¬ MadeRightly all (kinds.NewByServer iface) → Breaks tests rule
    forbidden_back rule iface is there never =
        failing_at tests 8 11 rule _ refl is (and_right (nat_le (count_by makes_server_object m.kinds)
        (most_by_server side)) (list_all (λ k. not (makes_forbidden place ended k)) m.kinds)
        (kinds_fail (makes_forbidden place ended) kind_of (MadeRightly all)
        (λ x t. made_rightly all place past ended (ended_at tables written) beyond x.kind x.iface t) m.kinds
        (kinds.NewByServer iface) there never))

    back : (rule : ℕ) → Broken rule → Breaks tests rule
    back rule (request_has_server_object is request lt) = many_back rule 0 is (ap most_by_server request) lt
    back rule (event_has_two_server_objects is event lt) = many_back rule 1 is (ap most_by_server event) lt
    back rule (server_object_of_ended iface j is there found ends) =
        forbidden_back rule iface is there (λ right.
        let no : true ≡ false = sym ends ∙ (right iface j refl found).0 in cc no)
    back rule (server_object_of_fixed iface j is there found fixed) =
        forbidden_back rule iface is there (λ right. (right iface j refl found).1 fixed)
    back rule (message_misnamed is never) =
        failing_at tests 0 1 rule _ refl is (and_left (is_name m.name) (is_first (first_place own_names) m.name o)
        (no_name m.name never))
    back rule (message_named_again earlier n is lt found same) =
        let listed : slice_get (map (placing_message tables written) (written_of side w)) earlier ≡ Some n =
        subst (λ ms. slice_get ms earlier ≡ Some n) (placed_messages tables written side w) found in
        let x = mapped_at (placing_message tables written) (written_of side w) earlier n listed in
        let named : x.0.name ≡ m.name = ap (λ (y : MessageSignature). y.name) x.2 ∙ same in
        failing_at tests 0 1 rule _ refl is (and_right (is_name m.name) (is_first (first_place own_names) m.name o)
        (not_first own_names m.name o earlier lt (own_name earlier x.0 x.1 ∙ ap Some named)))
    back rule (message_beyond is le) =
        failing_at tests 1 3 rule _ refl is (and_left (nat_lt o 256) (nat_le (length m.kinds) 20) (not_lt o 256 le))
    back rule (too_many_arguments is lt) =
        failing_at tests 1 3 rule _ refl is (and_right (nat_lt o 256) (nat_le (length m.kinds) 20)
        (not_le (length m.kinds) 20 (let len = length-map m.kinds kind_of in omega (arith, lt, len))))
    back rule (event_makes is event lt) =
        failing_at tests 2 4 rule _ refl is (few_fails side (count_by makes_object m.kinds) 0 (ap most_new event)
        (omega (arith, lt, count)))
    back rule (request_makes_two is request lt) =
        failing_at tests 2 4 rule _ refl is (few_fails side (count_by makes_object m.kinds) 1 (ap most_new request)
        (omega (arith, lt, count)))
    back rule (new_without_interface is there) =
        failing_at tests 3 5 rule _ refl is
        (kinds_fail makes_unnamed kind_of (λ x. x ≢ kinds.New None)
        (λ x t. not_unnamed place past x.kind x.iface t) m.kinds (kinds.New None) there (λ never. never refl))
    back rule (object_of_any null is request there) =
        failing_at tests 4 6 rule _ refl is (any_fails side m request
        (kinds_fail takes_any kind_of (λ x. (n : Bool) → x ≢ kinds.Obj n None)
        (λ x t. not_any place past x.kind x.iface t) m.kinds (kinds.Obj null None) there
        (λ never. never null refl)))
    back rule (event_destroys is event destroys lt) =
        failing_at tests 5 7 rule _ refl is (event_race_fails place ended w side m event
        (both_race m.destroys (is_empty w.requests) destroys
        (some_requests (placing_message tables written) w.requests lt)))
    back rule (object_of_ended null iface j is request there found ends) =
        failing_at tests 5 7 rule _ refl is (race_fails place ended w side m request
        (kinds_fail (takes_ended place ended) kind_of (NotEndedIn all)
        (λ x t. not_ended all place past ended (ended_at tables written) beyond x.kind x.iface t) m.kinds
        (kinds.Obj null (Some iface)) there
        (λ never. let no : true ≡ false = sym ends ∙ never null iface j refl found in cc no)))
    back rule (since_below_one is lt) =
        failing_at tests 6 8 rule _ refl is (and_left (nat_le 1 m.since) (nat_le m.since w.version)
        (not_le 1 m.since lt))
    back rule (since_above_version is lt) =
        failing_at tests 6 8 rule _ refl is (and_right (nat_le 1 m.since) (nat_le m.since w.version)
        (not_le m.since w.version lt))
    back rule (interface_missing kind iface is there_is named le) =
        failing_at tests 7 9 rule _ refl is
        (kinds_fail (names_missing place) kind_of (λ x. (i : Iface) → named_interface x ≡ Some i → i.0 < past)
        (λ x t. there place past (first_place-within names) x.kind x.iface t) m.kinds kind there_is
        (λ below. let lt = below iface named in omega (arith, lt, le, lens)))
