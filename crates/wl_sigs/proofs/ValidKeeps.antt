-- If tables joined with those of a text are valid, no line of the text breaks a rule.
use Rattle.std.proofs.Common.{◌≡◌, ◌≢◌, ℕ, zero, suc, ◌+◌, ◌<◌, ◌≤◌, ◌==◌, inl, inr, true, false}
use Rattle.std.proofs.Common.{List, [], ◌∷◌, ◌++◌, length, map, refl, ap, ◌∙◌, Some, None, Option}
use Rattle.std.proofs.Common.{Bool, slice_get, not, ◌||◌, arith}
use Rattle.std.specs.List.{list_all, list_any, count_by}
use Rattle.std.specs.Prelude.{option_map}
use Rattle.std.proofs.lemmas.Bool.{le-leb, lt-ltb}
use Rattle.std.proofs.lemmas.List.{length-map}
use Rattle.std.proofs.lemmas.Option.{slice_get-map, slice_get_within}
use Rattle.wl_wire.specs.declared.kind.Iface.{Iface}
use Rattle.wl_wire.specs.declared.kind.Kind.TheVariants as kinds
use Rattle.wl_sigs.specs.Side.{Side}
use Rattle.wl_sigs.specs.Side.TheVariants.{Request, Event}
use Rattle.wl_sigs.specs.Rules.{is_empty}
use Rattle.wl_sigs.specs.Tables.{Interface, interface_at, signature_at, named_interface, has_destroying_event}
use Rattle.wl_sigs.specs.Valid.{Valid}
use Rattle.wl_text.specs.Text.{WrittenMessage, WrittenInterface}
use Rattle.wl_sigs.specs.Joined.{all_names, first_place, kind_placed, joined}
use Rattle.wl_sigs.specs.Broken.{is_first, makes_object, makes_unnamed, takes_any, takes_ended}
use Rattle.wl_sigs.specs.Broken.{names_missing, most_new, names_objects, is_race_free}
use Rattle.wl_sigs.specs.Broken.{interface_rule, message_rule, messages_broken, side_broken}
use Rattle.wl_sigs.specs.Broken.{interface_broken, interfaces_broken, ended_of, first_broken}
use Rattle.wl_sigs.specs.Broken.{makes_server_object, most_by_server, makes_forbidden}
use Rattle.wl_sigs.proofs.RulesDecide.{decides_name}
use Rattle.wl_sigs.proofs.Lookups.{signature_from}
use Rattle.wl_sigs.specs.FirstBroken.{written_of}
use Rattle.wl_sigs.proofs.KeptRules.{InterfaceKeeps, MessageKeeps}
use Rattle.wl_rules.proofs.FirstPlaces.{first_place-of, first_place-within}
use Rattle.wl_sigs.proofs.JoinedLookup.{mapped_at, placing, placing_message, placed_messages}
use Rattle.wl_sigs.proofs.JoinedLookup.{length_joined, length_names, names_joined}
use Rattle.wl_sigs.proofs.JoinedValid.{destroying, ended_joined}
use Rattle.wl_sigs.proofs.PlacedKinds.{count_placed, NotEndedIn}
use Rattle.wl_sigs.proofs.ServerObjects.{MadeRightly, count_by_server, was_made_rightly}
use Rattle.wl_sigs.proofs.KindsKept.{all_tested, was_named, was_no_any, was_there, was_not_ended}

-- an element of a list that is appended to another
pub behind : {X : Type 0} (xs ys : List X) (k j : ℕ) (y : X) → j ≡ length xs + k → slice_get ys k ≡ Some y
    → slice_get (xs ++ ys) j ≡ Some y
behind [] ys k j y e at = let same : j ≡ k = omega arith in rw same at
behind (x ∷ xs) ys k zero y e at = absurd (omega arith)
behind (x ∷ xs) ys k (suc j) y e at = behind xs ys k j y (omega arith) at

-- the interface that one of the text becomes
pub placed_at : (tables : List Interface) (written : List WrittenInterface) (k : ℕ) (w : WrittenInterface)
    → slice_get written k ≡ Some w
    → interface_at (joined tables written) (length tables + k) ≡ Some (placing tables written w)
placed_at tables written k w at =
    behind tables (map (placing tables written) written) k (length tables + k) (placing tables written w) refl
    (slice_get-map (placing tables written) written k ∙ ap (option_map (placing tables written)) at)

-- the message that one of the text becomes
pub message_at : (tables : List Interface) (written : List WrittenInterface) (side : Side) (k : ℕ)
    (w : WrittenInterface) (o : ℕ) (m : WrittenMessage)
    → slice_get written k ≡ Some w → slice_get (written_of side w) o ≡ Some m
    → signature_at (joined tables written) (length tables + k) side o ≡ Some (placing_message tables written m)
message_at tables written side k w o m at of =
    signature_from (joined tables written) (length tables + k) side o (placing tables written w)
    (placing_message tables written m) (placed_at tables written k w at)
    (rw (placed_messages tables written side w) (slice_get-map (placing_message tables written) (written_of side w) o
    ∙ ap (option_map (placing_message tables written)) of))

-- a name that is at only one place is there for the first time
stands_first : (names : List (List ℕ)) (name : List ℕ) (here : ℕ) → slice_get names here ≡ Some name
    → ((p : ℕ) → slice_get names p ≡ Some name → p ≡ here)
    → is_first (first_place names) name here ≡ true
stands_first names name here at alone =
    let first = first_place-of names name here at in
    rw first.1 (eq_true first.0 here (alone first.0 first.2))
  where
    eq_true : (p q : ℕ) → p ≡ q → p == q ≡ true
    eq_true p q e = grind arith

interface_keeps : (tables : List Interface) (written : List WrittenInterface) → Valid (joined tables written)
    → (k : ℕ) (w : WrittenInterface) → slice_get written k ≡ Some w
    → InterfaceKeeps (first_place (all_names tables written)) (length tables + k) w
interface_keeps tables written valid k w at =
    let here = placed_at tables written k w at in
    record {
      named = (decides_name w.name).1 (valid.names_distinct.interfaces_named _ _ here);
      first = stands_first (all_names tables written) w.name (length tables + k)
          (name_of (length tables + k) _ here) alone;
      small = lt-ltb (length tables + k) 1024 (let within = slice_get_within (joined tables written)
          (length tables + k) _ here in let most = valid.small.interfaces in omega (arith, within, most));
      version = le-leb 1 w.version (valid.sinces_in_range.versions _ _ here);
    }
  where
    name_of : (p : ℕ) (i : Interface) → interface_at (joined tables written) p ≡ Some i
        → slice_get (all_names tables written) p ≡ Some i.name
    name_of p i found = rw (← names_joined tables written)
        (slice_get-map (λ (i : Interface). i.name) (joined tables written) p
        ∙ ap (option_map (λ (i : Interface). i.name)) found)

    alone : (p : ℕ) → slice_get (all_names tables written) p ≡ Some w.name → p ≡ length tables + k
    alone p found =
        let witness = mapped_at (λ (i : Interface). i.name) (joined tables written) p w.name
        (rw (names_joined tables written) found) in
        valid.names_distinct.interfaces_distinct p (length tables + k) witness.0 _ witness.1
        (placed_at tables written k w at) witness.2

-- what `ended_of` says about a place
pub ended_is : (tables : List Interface) (written : List WrittenInterface) (p : ℕ) (b : Bool)
    → slice_get (ended_of tables written) p ≡ Some b
    → (i : Interface) × (interface_at (joined tables written) p ≡ Some i) × (has_destroying_event i ≡ b)
ended_is tables written p b at = mapped_at has_destroying_event (joined tables written) p b
    (rw (ended_joined tables written) at)

-- V7 at an event
pub any_true : {X : Type 0} (test : X → Bool) (xs : List X) (o : ℕ) (x : X) → slice_get xs o ≡ Some x → test x ≡ true
    → list_any test xs ≡ true
any_true test [] o x at passes = cc at
any_true test (y ∷ ys) zero x at passes = let same : y ≡ x = cc at in rw (ap test same ∙ passes) refl
any_true test (y ∷ ys) (suc o) x at passes = or_true (test y) (any_true test ys o x at passes)
  where
    or_true : (a : Bool) → {b : Bool} → b ≡ true → a || b ≡ true
    or_true true e = refl
    or_true false e = e

no_messages : {X Y : Type 0} (f : X → Y) (xs : List X) → map f xs ≡ [] → is_empty xs ≡ true
no_messages f [] none = refl
no_messages f (x ∷ xs) none = cc none

event_free : (destroys : Bool) (requests : List WrittenMessage) → (destroys ≡ true → is_empty requests ≡ true)
    → not destroys || is_empty requests ≡ true
event_free true requests empty = empty refl
event_free false requests empty = refl

race_free : (tables : List Interface) (written : List WrittenInterface) → Valid (joined tables written)
    → (side : Side) (k : ℕ) (w : WrittenInterface) (o : ℕ) (m : WrittenMessage)
    → slice_get written k ≡ Some w → slice_get (written_of side w) o ≡ Some m
    → is_race_free (first_place (all_names tables written)) (ended_of tables written) w side m ≡ true
race_free tables written valid Request k w o m at of =
    let names = all_names tables written in
    all_tested (λ x. not (takes_ended (first_place names) (ended_of tables written) x))
    (kind_placed (first_place names) (length names)) (NotEndedIn (joined tables written))
    (λ x free. was_not_ended (joined tables written) (first_place names) (length names) (ended_of tables written)
    (ended_is tables written) x.kind x.iface free) m.kinds
    (valid.race_free.no_arguments _ _ _ (message_at tables written Request k w o m at of))
race_free tables written valid Event k w o m at of = event_free m.destroys w.requests (λ destroys.
    let ends : has_destroying_event (placing tables written w) ≡ true =
    destroying tables written w.events ∙ any_true
    (λ (e : WrittenMessage). e.destroys) w.events o m of destroys in
    no_messages (placing_message tables written) w.requests
    (valid.race_free.no_requests _ _ (placed_at tables written k w at) ends))

-- V6
objects_named : (tables : List Interface) (written : List WrittenInterface) → Valid (joined tables written)
    → (side : Side) (k : ℕ) (w : WrittenInterface) (o : ℕ) (m : WrittenMessage)
    → slice_get written k ≡ Some w → slice_get (written_of side w) o ≡ Some m → names_objects side m ≡ true
objects_named tables written valid Request k w o m at of =
    let names = all_names tables written in
    all_tested (λ x. not (takes_any x)) (kind_placed (first_place names) (length names))
    (λ x. (null : Bool) → x ≢ kinds.Obj null None)
    (λ x never. was_no_any (first_place names) (length names) x.kind x.iface never) m.kinds
    (valid.no_any_in_requests _ _ _ (message_at tables written Request k w o m at of))
objects_named tables written valid Event k w o m at of = refl

-- V4
few_new : (tables : List Interface) (written : List WrittenInterface) → Valid (joined tables written)
    → (side : Side) (k : ℕ) (w : WrittenInterface) (o : ℕ) (m : WrittenMessage)
    → slice_get written k ≡ Some w → slice_get (written_of side w) o ≡ Some m
    → count_by makes_object m.kinds ≤ most_new side
few_new tables written valid Request k w o m at of =
    let names = all_names tables written in
    let most = valid.few_objects_made.requests _ _ _ (message_at tables written Request k w o m at of) in
    omega (arith, most, count_placed (first_place names) (length names) m.kinds)
few_new tables written valid Event k w o m at of =
    let names = all_names tables written in
    let none = ap length (valid.few_objects_made.events _ _ _ (message_at tables written Event k w o m at of)) in
    omega (arith, none, count_placed (first_place names) (length names) m.kinds)

-- V5
none_unnamed : (tables : List Interface) (written : List WrittenInterface) → 2 ≤ length tables
    → Valid (joined tables written) → (side : Side) (k : ℕ) (w : WrittenInterface) (o : ℕ) (m : WrittenMessage)
    → slice_get written k ≡ Some w → slice_get (written_of side w) o ≡ Some m
    → list_all (λ x. not (makes_unnamed x)) m.kinds ≡ true
none_unnamed tables written two valid side k w o m at of =
    elim (valid.unnamed_new_in_bind_alone _ _ _ _ (message_at tables written side k w o m at of)) [
      | inl bind ↦ absurd (let one = bind.registry in omega (arith, one, two))
      | inr named ↦
          let names = all_names tables written in
          all_tested (λ x. not (makes_unnamed x)) (kind_placed (first_place names) (length names))
          (λ x. x ≢ kinds.New None)
          (λ x never. was_named (first_place names) (length names) x.kind x.iface never) m.kinds named
    ]

-- each place of a list has an element
some_at : {X : Type 0} (xs : List X) (k : ℕ) → k < length xs → (x : X) × (slice_get xs k ≡ Some x)
some_at [] k lt = absurd (omega arith)
some_at (x ∷ xs) zero lt = (x, refl)
some_at (x ∷ xs) (suc k) lt = some_at xs k (omega arith)

-- each name that has a place has an interface there
pub name_there : (tables : List Interface) (written : List WrittenInterface) (name : List ℕ) (p : ℕ)
    → first_place (all_names tables written) name ≡ Some p
    → (i : Interface) × (interface_at (joined tables written) p ≡ Some i)
name_there tables written name p named =
    let within = first_place-within (all_names tables written) name p named in
    some_at (joined tables written) p
    (omega (arith, within, length_joined tables written, length_names tables written))

-- V11
few_by_server : (tables : List Interface) (written : List WrittenInterface) → Valid (joined tables written)
    → (side : Side) (k : ℕ) (w : WrittenInterface) (o : ℕ) (m : WrittenMessage)
    → slice_get written k ≡ Some w → slice_get (written_of side w) o ≡ Some m
    → count_by makes_server_object m.kinds ≤ most_by_server side
few_by_server tables written valid Request k w o m at of =
    let names = all_names tables written in
    let none = ap length (valid.server_makes.requests _ _ _ (message_at tables written Request k w o m at of)) in
    omega (arith, none, count_by_server (first_place names) (length names) m.kinds)
few_by_server tables written valid Event k w o m at of =
    let names = all_names tables written in
    let most = valid.server_makes.events _ _ _ (message_at tables written Event k w o m at of) in
    omega (arith, most, count_by_server (first_place names) (length names) m.kinds)

none_forbidden : (tables : List Interface) (written : List WrittenInterface) → Valid (joined tables written)
    → (side : Side) (k : ℕ) (w : WrittenInterface) (o : ℕ) (m : WrittenMessage)
    → slice_get written k ≡ Some w → slice_get (written_of side w) o ≡ Some m
    → list_all (λ x. not (makes_forbidden (first_place (all_names tables written)) (ended_of tables written) x)) m.kinds
    ≡ true
none_forbidden tables written valid side k w o m at of =
    let names = all_names tables written in
    all_tested (λ x. not (makes_forbidden (first_place names) (ended_of tables written) x))
    (kind_placed (first_place names) (length names)) (MadeRightly (joined tables written))
    (λ x right. was_made_rightly (joined tables written) (first_place names) (length names) (ended_of tables written)
    (ended_is tables written) (name_there tables written) x.kind x.iface right) m.kinds
    (valid.server_makes.interfaces side _ _ _ (message_at tables written side k w o m at of))

message_keeps : (tables : List Interface) (written : List WrittenInterface) → 2 ≤ length tables
    → Valid (joined tables written) → (side : Side) (k : ℕ) (w : WrittenInterface) (o : ℕ) (m : WrittenMessage)
    → slice_get written k ≡ Some w → slice_get (written_of side w) o ≡ Some m
    → MessageKeeps (first_place (all_names tables written)) (ended_of tables written) w side
    (first_place (map (λ n. n.name) (written_of side w))) o m
message_keeps tables written two valid side k w o m at of =
    let names = all_names tables written in
    let here = message_at tables written side k w o m at of in
    let interface = placed_at tables written k w at in
    record {
      named = (decides_name m.name).1 (valid.names_distinct.messages_named side _ _ _ here);
      first_named = stands_first (map (λ n. n.name) (written_of side w)) m.name o
          (slice_get-map (λ (n : WrittenMessage). n.name) (written_of side w) o
          ∙ ap (option_map (λ (n : WrittenMessage). n.name)) of) alone;
      few = lt-ltb o 256 (let within = slice_get_within (written_of side w) o m of
          in let most = valid.small.messages side _ _ interface in
          let same = ap length (placed_messages tables written side w)
          in omega (
            arith,
            within,
            most,
            same,
            length-map (written_of side w)
                (placing_message tables written),
          ));
      short = le-leb (length m.kinds) 20 (let most = valid.small.arguments side _ _ _ here
          in omega (arith, most, length-map m.kinds (kind_placed (first_place names) (length names))));
      few_new = le-leb _ _ (few_new tables written valid side k w o m at of);
      none_unnamed = none_unnamed tables written two valid side k w o m at of;
      none_any = objects_named tables written valid side k w o m at of;
      race_free = race_free tables written valid side k w o m at of;
      since = le-leb 1 m.since (valid.sinces_in_range.from_one side _ _ _ here);
      to_version = le-leb m.since w.version (valid.sinces_in_range.to_version _ side _ _ _ interface here);
      none_missing = all_tested (λ x. not (names_missing (first_place names) x))
          (kind_placed (first_place names) (length names))
          (λ x. (iface : Iface) → named_interface x ≡ Some iface → iface.0 < length (joined tables written))
          (λ x below. was_there (first_place names) (length names) x.kind x.iface
          (λ i e. let lt = below i e in omega
          (arith, lt, length_joined tables written, length_names tables written)))
          m.kinds (valid.interfaces_there side _ _ _ here);
      few_by_server = le-leb _ _ (few_by_server tables written valid side k w o m at of);
      none_forbidden = none_forbidden tables written valid side k w o m at of;
    }
  where
    alone : (p : ℕ) → slice_get (map (λ n. n.name) (written_of side w)) p ≡ Some m.name → p ≡ o
    alone p found =
        let witness = mapped_at (λ (n : WrittenMessage). n.name) (written_of side w) p m.name found in
        valid.names_distinct.messages_distinct (length tables + k) side p o _ _
        (message_at tables written side k w p witness.0 at witness.1) (message_at tables written side k w o m at of) witness.2

-- if all tests pass, no rule is broken
interface_unbroken : (place : List ℕ → Option ℕ) (here : ℕ) (i : WrittenInterface) → InterfaceKeeps place here i
    → interface_rule place here i ≡ None
interface_unbroken place here i keeps = rw (keeps.named, keeps.first, keeps.small, keeps.version) refl

message_unbroken : (place : List ℕ → Option ℕ) (ended : List Bool) (i : WrittenInterface) (side : Side)
    (first : List ℕ → Option ℕ) (opcode : ℕ) (m : WrittenMessage)
    → MessageKeeps place ended i side first opcode m → message_rule place ended i side first opcode m ≡ None
message_unbroken place ended i side first opcode m keeps =
    rw (
      keeps.named,
      keeps.first_named,
      keeps.few,
      keeps.short,
      keeps.few_new,
      keeps.none_unnamed,
      keeps.none_any,
      keeps.race_free,
      keeps.since,
      keeps.to_version,
      keeps.none_missing,
      keeps.few_by_server,
      keeps.none_forbidden,
    ) refl

messages_unbroken : (rule : ℕ → WrittenMessage → Option ℕ) (n : ℕ) (ms : List WrittenMessage)
    → ((k : ℕ) (m : WrittenMessage) → slice_get ms k ≡ Some m → rule (n + k) m ≡ None)
    → messages_broken rule n ms ≡ None
messages_unbroken rule n [] none = refl
messages_unbroken rule n (m ∷ ms) none =
    let here : rule n m ≡ None = (let at_n : n + 0 ≡ n = omega arith in rw at_n at (none 0 m refl)) in
    let rest = messages_unbroken rule (n + 1) ms (λ k x at. let next : n + 1 + k ≡ n + suc k = omega arith
    in rw next (none (suc k) x at)) in
    rw (here, rest) refl

interfaces_unbroken : (place : List ℕ → Option ℕ) (ended : List Bool) (n : ℕ) (is : List WrittenInterface)
    → ((k : ℕ) (i : WrittenInterface) → slice_get is k ≡ Some i → interface_broken place ended (n + k) i ≡ None)
    → interfaces_broken place ended n is ≡ None
interfaces_unbroken place ended n [] none = refl
interfaces_unbroken place ended n (i ∷ is) none =
    let here : interface_broken place ended n i ≡ None =
    (let at_n : n + 0 ≡ n = omega arith in rw at_n at (none 0 i refl)) in
    let rest = interfaces_unbroken place ended (n + 1) is
    (λ k x at. let next : n + 1 + k ≡ n + suc k = omega arith in rw next (none (suc k) x at)) in
    rw (here, rest) refl

pub valid_unbroken : (tables : List Interface) (written : List WrittenInterface) → 2 ≤ length tables
    → Valid (joined tables written) → first_broken tables written ≡ None
valid_unbroken tables written two valid =
    interfaces_unbroken place ended (length tables) written (λ k w at.
    let own = interface_unbroken place (length tables + k) w (interface_keeps tables written valid k w at) in
    rw (own, side_unbroken Request k w at, side_unbroken Event k w at) refl)
  where
    place : List ℕ → Option ℕ
    place = first_place (all_names tables written)

    ended : List Bool
    ended = ended_of tables written

    side_unbroken : (side : Side) (k : ℕ) (w : WrittenInterface) → slice_get written k ≡ Some w
        → side_broken place ended w side (written_of side w) ≡ None
    side_unbroken side k w at =
        messages_unbroken (message_rule place ended w side (first_place (map (λ n. n.name) (written_of side w)))) 0
        (written_of side w)
        (λ o m of.
        let on : 0 + o ≡ o = omega arith in
        rw on (message_unbroken place ended w side (first_place (map (λ n. n.name) (written_of side w))) o m
        (message_keeps tables written two valid side k w o m at of)))
