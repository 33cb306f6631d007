-- Tables to which a text adds messages keep the rules if no line of the text breaks one.
use Rattle.std.proofs.Common.{◌≡◌, ◌≢◌, ℕ, zero, suc, ◌+◌, ◌-◌, ◌<◌, ◌≤◌, ◌⊎◌, inl, inr, true, false}
use Rattle.std.proofs.Common.{List, [], ◌∷◌, ◌++◌, length, map, refl, sym, ap, ◌∙◌, subst, Some, None}
use Rattle.std.proofs.Common.{Bool, slice_get, arith}
use Rattle.std.specs.List.{All, Contains}
use Rattle.std.proofs.lemmas.Bool.{cases_lt, false_from_ne_true}
use Rattle.std.proofs.Math.Nat.{eq-or-lt_of_le}
use Rattle.std.proofs.lemmas.List.{length-append, length-map}
use Rattle.std.proofs.lemmas.List.Elements.{All-weaker}
use Rattle.std.proofs.lemmas.Option.{slice_get_within, slice_get-get_or}
use Rattle.wl_wire.specs.declared.kind.Kind.{Kind}
use Rattle.wl_wire.specs.declared.kind.Kind.TheVariants as kinds
use Rattle.wl_wire.specs.declared.kind.Iface.{Iface}
use Rattle.wl_sigs.specs.Side.{Side}
use Rattle.wl_sigs.specs.Side.TheVariants.{Request, Event}
use Rattle.wl_sigs.specs.Rules.{is_name}
use Rattle.wl_sigs.specs.Tables.{MessageSignature, Interface, interface_at, messages_of, message_of}
use Rattle.wl_sigs.specs.Tables.{signature_at, new_objects, server_objects, named_interface}
use Rattle.wl_sigs.specs.Tables.{has_destroying_event, destroys_target, destroys_argument}
use Rattle.wl_sigs.specs.Valid.{EachInterface, EachMessage, IsTableName, NamesAreDistinct, HasFixedFour}
use Rattle.wl_sigs.specs.Valid.{AreSmall, MakeFewObjects, IsBind, UnnamedNewInBindAlone}
use Rattle.wl_sigs.specs.Valid.{NoAnyInRequests, SincesAreInRange, ArgumentEndsInFixesAlone, Valid}
use Rattle.wl_text.specs.Text.{WrittenMessage, WrittenInterface}
use Rattle.wl_sigs.specs.Joined.{all_names, first_place, message_placed, destroys_of}
use Rattle.wl_sigs.specs.FirstBroken.{written_of, MessageBreaks, message_misnamed, message_named_again}
use Rattle.wl_sigs.specs.FirstBroken.{message_beyond, too_many_arguments, event_makes}
use Rattle.wl_sigs.specs.FirstBroken.{request_makes_two, new_without_interface, object_of_any}
use Rattle.wl_sigs.specs.FirstBroken.{event_destroys, object_of_ended, since_below_one}
use Rattle.wl_sigs.specs.FirstBroken.{since_above_version, interface_missing}
use Rattle.wl_sigs.specs.FirstBroken.{request_has_server_object, event_has_two_server_objects}
use Rattle.wl_sigs.specs.FirstBroken.{server_object_of_ended, server_object_of_fixed}
use Rattle.wl_sigs.specs.Extended.{unsaid, interface_grown, gathered, grown, extended}
use Rattle.wl_sigs.specs.Extending.{is_fixed_name, extensions_broken}
use Rattle.wl_sigs.specs.FirstLineBroken.{AddsMessage, Clashes, request_of_ended, ends_argument}
use Rattle.wl_sigs.specs.FirstLineBroken.{ends_server_object, LineBreaks, by_added, by_clash}
use Rattle.wl_sigs.proofs.Lookups.{found, signature_from}
use Rattle.wl_sigs.proofs.JoinedLookup.{in_either, either_interface, mapped_at, length_joined}
use Rattle.wl_sigs.proofs.JoinedValid.{KeepsInFront, IsThereIn, any_at, last_at, none_left}
use Rattle.wl_sigs.proofs.ValidKeeps.{any_true}
use Rattle.wl_sigs.proofs.PlacedKinds.{NotEndedIn}
use Rattle.wl_sigs.proofs.ServerObjects.{MadeRightly}
use Rattle.wl_sigs.proofs.RulesDecide.{decides_name}
use Rattle.wl_sigs.proofs.TestsDecide.{all_from_each}
use Rattle.wl_sigs.proofs.LineRules.{contains}
use Rattle.wl_sigs.proofs.FirstWords.{some_same}
use Rattle.wl_sigs.proofs.Grown.{Grows, from_grown, grown_at, length_grown, grown_messages}
use Rattle.wl_sigs.proofs.Gathering.{length_gathered, said_of, fixed_unsaid}
use Rattle.wl_sigs.proofs.Unsaid.{unsaid_grown}
use Rattle.wl_sigs.proofs.FirstLineWords.{stands_at, listed_at}

-- no line of the text breaks a rule
abbrev pub NoLineBreaks : List Interface → List WrittenInterface → Type 0
NoLineBreaks tables written = (line rule : ℕ) → LineBreaks tables written line rule → ⊥

-- a message that is added to an interface of the tables
record AddedAt (tables : List Interface) (written : List WrittenInterface) (place : ℕ) (side : Side) (opcode : ℕ)
    (m : MessageSignature) : Type 0 where
  old : Interface
  i : Interface
  line : ℕ
  adds : AddsMessage tables written line place old i side opcode m

-- the names of the tables and of the interfaces that the text declares
abbrev names_with : List Interface → List WrittenInterface → List (List ℕ)
names_with tables written = all_names tables (gathered tables written).declared

abbrev GrowsAt : List Interface → List WrittenInterface → ℕ → Interface → Type 0
GrowsAt tables written = Grows (first_place (names_with tables written)) (length (names_with tables written)) tables
    (gathered tables written).added

grows : (tables : List Interface) (written : List WrittenInterface) (p : ℕ) (j : Interface)
    → interface_at (grown tables (gathered tables written)) p ≡ Some j → GrowsAt tables written p j
grows tables written p j at =
    from_grown (first_place (names_with tables written)) (length (names_with tables written)) tables
    (gathered tables written).added (length_gathered tables written) p j at

-- a message of the grown tables is one of the tables before, or is added
either_grown : (tables : List Interface) (written : List WrittenInterface) (p : ℕ) (side : Side) (o : ℕ)
    (m : MessageSignature) → signature_at (grown tables (gathered tables written)) p side o ≡ Some m
    → (signature_at tables p side o ≡ Some m) ⊎ AddedAt tables written p side o m
either_grown tables written p side o m h =
    let g = gathered tables written in
    let names = names_with tables written in
    let witness = found (grown tables g) p side o m h in
    let grows = grows tables written p witness.interface witness.at in
    let all = interface_grown (first_place names) (length names) grows.old grows.more in
    let of : message_of side o all ≡ Some m = subst (λ (x : Interface). message_of side o x ≡ Some m) grows.is witness.of in
    let placed = message_placed (first_place names) (length names) in
    let listed : slice_get (messages_of side grows.old ++ map placed (written_of side grows.more)) o ≡ Some m =
    subst (λ (ms : List MessageSignature). slice_get ms o ≡ Some m)
    (grown_messages (first_place names) (length names) grows.old grows.more side) of in
    elim (in_either (messages_of side grows.old) (map placed (written_of side grows.more)) o m listed) [
      | inl front ↦ inl (signature_from tables p side o grows.old m grows.at front)
      | inr back ↦
          let own = mapped_at placed (written_of side grows.more) back.0 m back.2 in
          inr (record {
            old = grows.old;
            i = all;
            line = own.0.line;
            adds = record {
              index = back.0;
              more = grows.more;
              own = own.0;
              there = grows.at;
              said = grows.said;
              of = own.1;
              line_is = refl;
              opcode_is = back.1;
              stands = stands_at tables g p grows.old grows.more grows.at grows.said;
              listed = of;
            };
          })
    ]

-- an added message is added to its interface by its line
adds_at : (tables : List Interface) (written : List WrittenInterface) (p : ℕ) (old : Interface) (more : WrittenInterface)
    (side : Side) (k : ℕ) (own : WrittenMessage) → interface_at tables p ≡ Some old
    → slice_get (gathered tables written).added p ≡ Some more → slice_get (written_of side more) k ≡ Some own
    → AddsMessage tables written own.line p old
    (interface_grown (first_place (names_with tables written)) (length (names_with tables written)) old more) side
    (length (messages_of side old) + k)
    (message_placed (first_place (names_with tables written)) (length (names_with tables written)) own)
adds_at tables written p old more side k own at said of = record {
  index = k;
  more = more;
  own = own;
  there = at;
  said = said;
  of = of;
  line_is = refl;
  opcode_is = refl;
  stands = stands_at tables (gathered tables written) p old more at said;
  listed = listed_at tables (gathered tables written) old more side k own of;
}

-- what holds for the messages of the tables and for the added ones holds for all of the grown
-- tables
each_grown : (P : MessageSignature → Type 0) (tables : List Interface) (written : List WrittenInterface) (side : Side)
    → EachMessage tables side P
    → ((p o : ℕ) (m : MessageSignature) → AddedAt tables written p side o m → P m)
    → EachMessage (grown tables (gathered tables written)) side P
each_grown P tables written side old new p o m h = elim (either_grown tables written p side o m h) [
  | inl front ↦ old p o m front
  | inr added ↦ new p o m added
]

never : (tables : List Interface) (written : List WrittenInterface) → NoLineBreaks tables written
    → (p : ℕ) (side : Side) (o : ℕ) (m : MessageSignature) (a : AddedAt tables written p side o m) (rule : ℕ)
    → MessageBreaks (extended tables written) a.i side o m rule → ⊥
never tables written none p side o m a rule breaks =
    none a.line rule (by_added p a.old a.i side o m a.adds breaks)

at_most : (a b : ℕ) → (b < a → ⊥) → a ≤ b
at_most a b not_less = elim (cases_lt b a) [
  | inl lt ↦ absurd (not_less lt)
  | inr le ↦ le
]

-- V1
named : (name : List ℕ) → (¬ IsTableName name → ⊥) → IsTableName name
named name twice = by_test (is_name name) refl
  where
    by_test : (t : Bool) → is_name name ≡ t → IsTableName name
    by_test true is = (decides_name name).0 is
    by_test false is = absurd (twice (λ n. let passes = (decides_name name).1 n in
        let no : false ≡ true = sym is ∙ passes in cc no))

earlier_apart : (tables : List Interface) (written : List WrittenInterface) → NoLineBreaks tables written
    → Valid tables → (place : ℕ) (side : Side) (o p : ℕ) (m n : MessageSignature)
    → signature_at (grown tables (gathered tables written)) place side o ≡ Some m
    → signature_at (grown tables (gathered tables written)) place side p ≡ Some n → m.name ≡ n.name → o < p → ⊥
earlier_apart tables written none valid place side o p m n h h' same lt =
    let g = gathered tables written in
    elim (either_grown tables written place side p n h') [
      | inl front' ↦ elim (either_grown tables written place side o m h) [
        | inl front ↦ let e = valid.names_distinct.messages_distinct place side o p m n front front' same
            in omega (arith, e, lt)
        | inr a ↦
            let witness = found tables place side p n front' in
            let one : a.old ≡ witness.interface = some_same a.old witness.interface (sym a.adds.there ∙ witness.at) in
            let within = slice_get_within (messages_of side witness.interface) p n witness.of in
            let at = a.adds.opcode_is in
            let len : length (messages_of side a.old) ≡ length (messages_of side witness.interface) =
            ap (λ (x : Interface). length (messages_of side x)) one in
            omega (arith, lt, within, at, len)
      ]
      | inr b ↦
          let witness = found (grown tables g) place side o m h in
          let grows = grows tables written place witness.interface witness.at in
          let stands = stands_at tables g place grows.old grows.more grows.at grows.said in
          let i_is : interface_at (extended tables written) place ≡ Some witness.interface =
          stands ∙ ap Some (sym grows.is) in
          let one : witness.interface ≡ b.i = some_same witness.interface b.i (sym i_is ∙ b.adds.stands) in
          let of : message_of side o b.i ≡ Some m =
          subst (λ (x : Interface). message_of side o x ≡ Some m) one witness.of in
          never tables written none place side p n b 1 (message_named_again o m refl lt of same)
    ]

names_kept : (tables : List Interface) (written : List WrittenInterface) → NoLineBreaks tables written
    → Valid tables → NamesAreDistinct (grown tables (gathered tables written))
names_kept tables written none valid = record {
  interfaces_named = λ p j at. let witness = grows tables written p j at in
      subst IsTableName (name_of p j witness) (valid.names_distinct.interfaces_named p witness.old witness.at);
  interfaces_distinct = λ p q i j at at' same.
      let witness = grows tables written p i at in
      let witness' = grows tables written q j at' in
      valid.names_distinct.interfaces_distinct p q witness.old witness'.old witness.at witness'.at
      (name_of p i witness ∙ same ∙ sym (name_of q j witness'));
  messages_named = λ side. each_grown (λ m. IsTableName m.name) tables written side
      (valid.names_distinct.messages_named side)
      (λ p o m a. named m.name (λ unnamed. never tables written none p side o m a 1 (message_misnamed refl unnamed)));
  messages_distinct = λ place side o p m n h h' same. elim (cases_lt o p) [
    | inl lt ↦ absurd (earlier_apart tables written none valid place side o p m n h h' same lt)
    | inr ge ↦ elim (eq-or-lt_of_le ge) [
      | inl eq ↦ sym eq
      | inr gt ↦ absurd (earlier_apart tables written none valid place side p o n m h' h (sym same) gt)
    ]
  ];
}
  where
    name_of : (p : ℕ) (j : Interface) → (witness : GrowsAt tables written p j) → witness.old.name ≡ j.name
    name_of p j witness = sym (ap (λ (x : Interface). x.name) witness.is)

-- V2
fixed_kept : (tables : List Interface) (written : List WrittenInterface)
    → extensions_broken (gathered tables []) written ≡ None → HasFixedFour tables
    → HasFixedFour (grown tables (gathered tables written))
fixed_kept tables written none four = record {
  display = same 0 _ refl four.display;
  registry = same 1 _ refl four.registry;
  callback = same 2 _ refl four.callback;
  fixes = same 18 _ refl four.fixes;
}
  where
    same : (p : ℕ) (i : Interface) → is_fixed_name i.name ≡ true → interface_at tables p ≡ Some i
        → interface_at (grown tables (gathered tables written)) p ≡ Some i
    same p i fixed at =
        let place = first_place (names_with tables written) in
        let past = length (names_with tables written) in
        grown_at place past tables (gathered tables written).added p i (unsaid i) at
        (fixed_unsaid tables written none p i fixed at) ∙ ap Some (unsaid_grown place past i)

-- V3
small_kept : (tables : List Interface) (written : List WrittenInterface) → NoLineBreaks tables written
    → AreSmall tables → AreSmall (grown tables (gathered tables written))
small_kept tables written none old = record {
  interfaces =
      let most = old.interfaces in
      let len = length_grown (first_place (names_with tables written)) (length (names_with tables written)) tables
      (gathered tables written).added in
      omega (arith, most, len);
  messages = λ side p j at.
      let witness = grows tables written p j at in
      subst (λ (x : Interface). length (messages_of side x) ≤ 256) (sym witness.is) (few side p witness.old witness.more witness.at witness.said);
  arguments = λ side. each_grown (λ m. length m.kinds ≤ 20) tables written side (old.arguments side)
      (λ p o m a. at_most (length m.kinds) 20 (λ lt. never tables written none p side o m a 3
      (too_many_arguments refl lt)));
}
  where
    few : (side : Side) (p : ℕ) (i : Interface) (more : WrittenInterface) → interface_at tables p ≡ Some i
        → slice_get (gathered tables written).added p ≡ Some more
        → length (messages_of side (interface_grown (first_place (names_with tables written))
        (length (names_with tables written)) i more)) ≤ 256
    few side p i more at said =
        let place = first_place (names_with tables written) in
        let past = length (names_with tables written) in
        let placed = message_placed place past in
        let len = ap length (grown_messages place past i more side) in
        let both = length-append (messages_of side i) (map placed (written_of side more)) in
        let more_len = length-map (written_of side more) placed in
        elim (last_at (written_of side more)) [
          | inl empty ↦ let most = old.messages side p i at in omega (arith, len, both, more_len, empty, most)
          | inr last ↦
              let k = length (written_of side more) - 1 in
              let d = adds_at tables written p i more side k last.0 at said last.1 in
              let within = slice_get_within (written_of side more) k last.0 last.1 in
              let below : length (messages_of side i) + k < 256 =
              below_of (length (messages_of side i) + k) (λ le. none last.0.line 3 (by_added p i _ side _ _ d
              (message_beyond refl le))) in
              omega (arith, len, both, more_len, within, below)
        ]
      where
        below_of : (n : ℕ) → (256 ≤ n → ⊥) → n < 256
        below_of n not_more = elim (cases_lt n 256) [ inl lt ↦ lt | inr le ↦ absurd (not_more le) ]

-- V4
few_kept : (tables : List Interface) (written : List WrittenInterface) → NoLineBreaks tables written
    → MakeFewObjects tables → MakeFewObjects (grown tables (gathered tables written))
few_kept tables written none old = record {
  events = each_grown (λ m. new_objects m.kinds ≡ []) tables written Event old.events
      (λ p o m a. none_left (new_objects m.kinds) (at_most _ 0
      (λ lt. never tables written none p Event o m a 4 (event_makes refl refl lt))));
  requests = each_grown (λ m. length (new_objects m.kinds) ≤ 1) tables written Request old.requests
      (λ p o m a. at_most _ 1 (λ lt. never tables written none p Request o m a 4 (request_makes_two refl refl lt)));
}

pub of_contained : (P : Kind → Type 0) (ks : List Kind) (k : Kind) → All P ks → Contains ks k → P k
of_contained P ks k all witness = subst P witness.2 (all witness.0 k witness.1)

-- P holds for all arguments if it holds for each that the list contains
no_kind : (P : Kind → Type 0) (ks : List Kind) → ((k : Kind) → Contains ks k → P k) → All P ks
no_kind P ks each = all_from_each P ks (λ k x at. each x (contains ks k x at))

-- V5
unnamed_kept : (tables : List Interface) (written : List WrittenInterface) → NoLineBreaks tables written
    → UnnamedNewInBindAlone tables → UnnamedNewInBindAlone (grown tables (gathered tables written))
unnamed_kept tables written none old p side o m h =
    elim (either_grown tables written p side o m h) as
    (λ _. IsBind p side o ⊎ All (λ k. k ≢ kinds.New None) m.kinds) [
      | inl front ↦ old p side o m front
      | inr a ↦ inr (no_kind (λ k. k ≢ kinds.New None) m.kinds (λ k there is.
          never tables written none p side o m a 5
          (new_without_interface refl (subst (λ (x : Kind). Contains m.kinds x) is there))))
    ]

-- V6
any_kept : (tables : List Interface) (written : List WrittenInterface) → NoLineBreaks tables written
    → NoAnyInRequests tables → NoAnyInRequests (grown tables (gathered tables written))
any_kept tables written none old =
    each_grown (λ m. All (λ k. (null : Bool) → k ≢ kinds.Obj null None) m.kinds) tables written Request old
    (λ p o m a. no_kind (λ k. (null : Bool) → k ≢ kinds.Obj null None) m.kinds (λ k there null is.
    never tables written none p Request o m a 6
    (object_of_any null refl refl (subst (λ (x : Kind). Contains m.kinds x) is there))))

-- the interface at a place of the tables, as it is in the extended tables
whole_at : (tables : List Interface) (written : List WrittenInterface) (p : ℕ) (j : Interface) → p < length tables
    → interface_at (extended tables written) p ≡ Some j → GrowsAt tables written p j
whole_at tables written p j lt at =
    let g = gathered tables written in
    elim (either_interface (grown tables g) g.declared p j at) [
      | inl front ↦ grows tables written p j front
      | inr b ↦ absurd (let is = b.place_is in
          let len = length_grown (first_place (names_with tables written)) (length (names_with tables written)) tables
          g.added in omega (arith, lt, is, len))
    ]

-- if an interface has a destroying event, it had one before, or one is added
ends_by : (tables : List Interface) (written : List WrittenInterface) (p : ℕ) (j : Interface)
    → (witness : GrowsAt tables written p j) → has_destroying_event j ≡ true
    → (has_destroying_event witness.old ≡ true)
    ⊎ ((o : ℕ) × (m : MessageSignature) × (AddedAt tables written p Event o m) × (destroys_target m.destroys ≡ true))
ends_by tables written p j witness ends =
    let g = gathered tables written in
    let event = any_at (λ (m : MessageSignature). destroys_target m.destroys) j.events ends in
    let at : interface_at (grown tables g) p ≡ Some j =
    grown_at (first_place (names_with tables written)) (length (names_with tables written)) tables g.added p witness.old
    witness.more witness.at witness.said ∙ ap Some (sym witness.is) in
    elim (either_grown tables written p Event event.0 event.1
    (signature_from (grown tables g) p Event event.0 j event.1 at event.2)) [
      | inl front ↦
          let f = found tables p Event event.0 event.1 front in
          let one : f.interface ≡ witness.old = some_same f.interface witness.old (sym f.at ∙ witness.at) in
          inl (subst (λ (x : Interface). has_destroying_event x ≡ true) one
          (any_true (λ (m : MessageSignature). destroys_target m.destroys) f.interface.events event.0 event.1 f.of
          event.3))
      | inr a ↦ inr (event.0, event.1, a, event.3)
    ]

-- V7
requests_kept : (tables : List Interface) (written : List WrittenInterface) → NoLineBreaks tables written
    → Valid tables
    → EachInterface (grown tables (gathered tables written)) (λ i. has_destroying_event i ≡ true → i.requests ≡ [])
requests_kept tables written none valid p j at ends =
    let witness = grows tables written p j at in
    let g = gathered tables written in
    let placed = message_placed (first_place (names_with tables written)) (length (names_with tables written)) in
    none_left j.requests (at_most (length j.requests) 0 (λ lt. elim (ends_by tables written p j witness ends) [
      | inl old ↦
          let empty = valid.race_free.no_requests p witness.old witness.at old in
          let many : length j.requests ≡ length witness.old.requests + length witness.more.requests =
          (let len = ap (λ (x : Interface). length x.requests) witness.is in
          omega (
            arith,
            len,
            length-append witness.old.requests (map placed witness.more.requests),
            length-map witness.more.requests placed,
          )) in
          let none_old = ap length empty in
          elim (last_at witness.more.requests) [
            | inl nothing ↦ omega (arith, lt, many, none_old, nothing)
            | inr last ↦ none last.0.line 7 (by_clash p witness.old _ Request _ _
                (adds_at tables written p witness.old witness.more Request (length witness.more.requests - 1) last.0 witness.at witness.said
                last.1) (request_of_ended refl refl old))
          ]
      | inr event ↦
          let a = event.2 in
          let stands = stands_at tables g p witness.old witness.more witness.at witness.said ∙ ap Some (sym witness.is) in
          let one : j ≡ a.i = some_same j a.i (sym stands ∙ a.adds.stands) in
          never tables written none p Event event.0 event.1 a 7
          (event_destroys refl refl event.3 (let len = ap (λ (x : Interface). length x.requests) one
          in omega (arith, lt, len)))
    ]))

arguments_kept : (tables : List Interface) (written : List WrittenInterface) → NoLineBreaks tables written
    → Valid tables
    → EachMessage (grown tables (gathered tables written)) Request
    (λ m. All (NotEndedIn (extended tables written)) m.kinds)
arguments_kept tables written none valid =
    each_grown (λ m. All (NotEndedIn (extended tables written)) m.kinds) tables written Request
    (λ p o m h. no_kind (NotEndedIn (extended tables written)) m.kinds (λ k there null iface j is at.
    let object : Contains m.kinds (kinds.Obj null (Some iface)) =
    subst (λ (x : Kind). Contains m.kinds x) is there in
    let lt = of_contained (λ x. (i : Iface) → named_interface x ≡ Some i → i.0 < length tables) m.kinds
    (kinds.Obj null (Some iface)) (valid.interfaces_there Request p o m h) object iface refl in
    let grows = whole_at tables written iface.0 j lt at in
    false_from_ne_true (has_destroying_event j) (λ ends. elim (ends_by tables written iface.0 j grows ends) [
      | inl old ↦
          let free = of_contained (NotEndedIn tables) m.kinds (kinds.Obj null (Some iface))
          (valid.race_free.no_arguments p o m h) object null iface grows.old refl grows.at in
          let no : true ≡ false = sym old ∙ free in cc no
      | inr event ↦ none event.2.line 7 (by_clash iface.0 event.2.old event.2.i Event event.0 event.1 event.2.adds
          (ends_argument p o m null iface refl refl event.3 h object refl))
    ])))
    (λ p o m a. no_kind (NotEndedIn (extended tables written)) m.kinds (λ k there null iface j is at.
    false_from_ne_true (has_destroying_event j) (λ ends. never tables written none p Request o m a 7
    (object_of_ended null iface j refl refl (subst (λ (x : Kind). Contains m.kinds x) is there) at ends))))

-- V8
sinces_kept : (tables : List Interface) (written : List WrittenInterface) → NoLineBreaks tables written
    → SincesAreInRange tables → SincesAreInRange (grown tables (gathered tables written))
sinces_kept tables written none old = record {
  versions = λ p j at.
      let witness = grows tables written p j at in
      let least = old.versions p witness.old witness.at in
      let up = raised p j witness in
      omega (arith, least, up);
  from_one = λ side. each_grown (λ m. 1 ≤ m.since) tables written side (old.from_one side)
      (λ p o m a. at_most 1 m.since (λ lt. never tables written none p side o m a 8 (since_below_one refl lt)));
  to_version = λ p side o j m at h.
      let witness = grows tables written p j at in
      elim (either_grown tables written p side o m h) [
        | inl front ↦
            let le = old.to_version p side o witness.old m witness.at front in
            let up = raised p j witness in
            omega (arith, le, up)
        | inr a ↦
            let g = gathered tables written in
            let stands = stands_at tables g p witness.old witness.more witness.at witness.said ∙ ap Some (sym witness.is) in
            let one : j ≡ a.i = some_same j a.i (sym stands ∙ a.adds.stands) in
            at_most m.since j.version (λ lt. never tables written none p side o m a 8
            (since_above_version refl (subst (λ (x : Interface). x.version < m.since) one lt)))
      ];
}
  where
    raised : (p : ℕ) (j : Interface) → (witness : GrowsAt tables written p j) → witness.old.version ≤ j.version
    raised p j witness =
        let said = said_of tables written p witness.old witness.at in
        let one : said.0 ≡ witness.more = some_same said.0 witness.more (sym said.1 ∙ witness.said) in
        let up = said.2.version in
        let same = ap (λ (x : WrittenInterface). x.version) one in
        let version = ap (λ (x : Interface). x.version) witness.is in
        omega (arith, up, same, version)

-- V9
there_kept : (tables : List Interface) (written : List WrittenInterface) → NoLineBreaks tables written
    → Valid tables → (side : Side)
    → EachMessage (grown tables (gathered tables written)) side
    (λ m. All (IsThereIn (extended tables written)) m.kinds)
there_kept tables written none valid side =
    let g = gathered tables written in
    let len = length_grown (first_place (names_with tables written)) (length (names_with tables written)) tables
    g.added in
    each_grown (λ m. All (IsThereIn (extended tables written)) m.kinds) tables written side
    (λ p o m h. All-weaker (IsThereIn tables) (IsThereIn (extended tables written))
    (λ k there iface e. let lt = there iface e in omega (arith, lt, len, length_joined (grown tables g) g.declared))
    m.kinds (valid.interfaces_there side p o m h))
    (λ p o m a. no_kind (IsThereIn (extended tables written)) m.kinds (λ k there iface e.
    below iface.0 (length (extended tables written)) (λ le. never tables written none p side o m a 9
    (interface_missing k iface refl there e le))))
  where
    below : (n most : ℕ) → (most ≤ n → ⊥) → n < most
    below n most not_more = elim (cases_lt n most) [ inl lt ↦ lt | inr le ↦ absurd (not_more le) ]

-- V10
ends_kept : (tables : List Interface) (written : List WrittenInterface) → ArgumentEndsInFixesAlone tables
    → ArgumentEndsInFixesAlone (grown tables (gathered tables written))
ends_kept tables written old p side o m h =
    elim (either_grown tables written p side o m h) as
    (λ _. (p ≡ 18) ⊎ (destroys_argument m.destroys ≡ false)) [
      | inl front ↦ old p side o m front
      | inr a ↦
          let g = gathered tables written in
          let d = a.adds in
          let i_is : a.i ≡ interface_grown (first_place (names_with tables written))
          (length (names_with tables written)) a.old d.more =
          some_same a.i _ (sym d.stands ∙ stands_at tables g p a.old d.more d.there d.said) in
          let of : message_of side (length (messages_of side a.old) + d.index) a.i ≡ Some m =
          subst (λ (n : ℕ). message_of side n a.i ≡ Some m) d.opcode_is d.listed in
          let listed = subst (λ (x : Interface). message_of side (length (messages_of side a.old) + d.index) x
          ≡ Some m) i_is of in
          let one : message_placed (first_place (names_with tables written)) (length (names_with tables written)) d.own
          ≡ m = some_same _ m (sym (listed_at tables g a.old d.more side d.index d.own d.of) ∙ listed) in
          inr (subst (λ (x : MessageSignature). destroys_argument x.destroys ≡ false) one
          (no_argument d.own.destroys))
    ]
  where
    no_argument : (b : Bool) → destroys_argument (destroys_of b) ≡ false
    no_argument true = refl
    no_argument false = refl

-- V11
no_servers_kept : (tables : List Interface) (written : List WrittenInterface) → NoLineBreaks tables written
    → Valid tables
    → EachMessage (grown tables (gathered tables written)) Request (λ m. server_objects m.kinds ≡ [])
no_servers_kept tables written none valid =
    each_grown (λ m. server_objects m.kinds ≡ []) tables written Request valid.server_makes.requests
    (λ p o m a. none_left (server_objects m.kinds) (at_most _ 0
    (λ lt. never tables written none p Request o m a 11 (request_has_server_object refl refl lt))))

few_servers_kept : (tables : List Interface) (written : List WrittenInterface) → NoLineBreaks tables written
    → Valid tables
    → EachMessage (grown tables (gathered tables written)) Event (λ m. length (server_objects m.kinds) ≤ 1)
few_servers_kept tables written none valid =
    each_grown (λ m. length (server_objects m.kinds) ≤ 1) tables written Event valid.server_makes.events
    (λ p o m a. at_most _ 1 (λ lt. never tables written none p Event o m a 11
    (event_has_two_server_objects refl refl lt)))

made_kept : (tables : List Interface) (written : List WrittenInterface) → NoLineBreaks tables written
    → Valid tables → (side : Side)
    → EachMessage (grown tables (gathered tables written)) side
    (λ m. All (MadeRightly (extended tables written)) m.kinds)
made_kept tables written none valid side =
    each_grown (λ m. All (MadeRightly (extended tables written)) m.kinds) tables written side
    (λ p o m h. no_kind (MadeRightly (extended tables written)) m.kinds (λ k there iface j is at.
    let made : Contains m.kinds (kinds.NewByServer iface) = subst (λ (x : Kind). Contains m.kinds x) is there in
    let lt = of_contained (λ x. (i : Iface) → named_interface x ≡ Some i → i.0 < length tables) m.kinds
    (kinds.NewByServer iface) (valid.interfaces_there side p o m h) made iface refl in
    let grows = whole_at tables written iface.0 j lt at in
    let right = of_contained (MadeRightly tables) m.kinds (kinds.NewByServer iface)
    (valid.server_makes.interfaces side p o m h) made iface grows.old refl grows.at in (
      false_from_ne_true (has_destroying_event j) (λ ends. elim (ends_by tables written iface.0 j grows ends) [
        | inl old ↦ let no : true ≡ false = sym old ∙ right.0 in cc no
        | inr event ↦ none event.2.line 11 (by_clash iface.0 event.2.old event.2.i Event event.0 event.1 event.2.adds
            (by_event side p o m iface h made event.1 event.2.old event.3))
      ]),
      right.1,
    )))
    (λ p o m a. no_kind (MadeRightly (extended tables written)) m.kinds (λ k there iface j is at.
    let made = subst (λ (x : Kind). Contains m.kinds x) is there in (
      false_from_ne_true (has_destroying_event j) (λ ends. never tables written none p side o m a 11
          (server_object_of_ended iface j refl made at ends)),
      λ fixed. never tables written none p side o m a 11 (server_object_of_fixed iface j refl made at fixed),
    )))
  where
    server_object : (ks : List Kind) (n : ℕ) (iface : Iface) → slice_get ks n ≡ Some (kinds.NewByServer iface)
        → server_objects ks ≡ [] → ⊥
    server_object [] n iface at e = cc at
    server_object (k ∷ ks) zero iface at e =
        let same : k ≡ kinds.NewByServer iface = cc at in
        let no : server_objects (kinds.NewByServer iface ∷ ks) ≡ [] =
        subst (λ (x : Kind). server_objects (x ∷ ks) ≡ []) same e in cc no
    server_object (kinds.Int ∷ ks) (suc n) iface at e = server_object ks n iface at e
    server_object (kinds.Uint ∷ ks) (suc n) iface at e = server_object ks n iface at e
    server_object (kinds.Fixed ∷ ks) (suc n) iface at e = server_object ks n iface at e
    server_object (kinds.Str null ∷ ks) (suc n) iface at e = server_object ks n iface at e
    server_object (kinds.Obj null i ∷ ks) (suc n) iface at e = server_object ks n iface at e
    server_object (kinds.New i ∷ ks) (suc n) iface at e = server_object ks n iface at e
    server_object (kinds.NewByServer i ∷ ks) (suc n) iface at e = cc e
    server_object (kinds.Array ∷ ks) (suc n) iface at e = server_object ks n iface at e
    server_object (kinds.Fd ∷ ks) (suc n) iface at e = server_object ks n iface at e

    by_event : (s : Side) (p o : ℕ) (m : MessageSignature) (iface : Iface) → signature_at tables p s o ≡ Some m
        → Contains m.kinds (kinds.NewByServer iface) → (event : MessageSignature) (old : Interface)
        → destroys_target event.destroys ≡ true → Clashes tables iface.0 old Event event 11
    by_event Request p o m iface h made event old ends = absurd (server_object m.kinds made.0 iface
        (slice_get-get_or m.kinds made.0 (kinds.NewByServer iface) made.1 ∙ ap Some made.2)
        (valid.server_makes.requests p o m h))
    by_event Event p o m iface h made event old ends = ends_server_object p o m iface refl refl ends h made refl

pub grown_keeps : (tables : List Interface) (written : List WrittenInterface) → Valid tables
    → NoLineBreaks tables written → extensions_broken (gathered tables []) written ≡ None
    → KeepsInFront (grown tables (gathered tables written)) (gathered tables written).declared
grown_keeps tables written valid none extensions = record {
  names_distinct = names_kept tables written none valid;
  fixed_four = fixed_kept tables written extensions valid.fixed_four;
  small = small_kept tables written none valid.small;
  few_objects_made = few_kept tables written none valid.few_objects_made;
  unnamed_new_in_bind_alone = unnamed_kept tables written none valid.unnamed_new_in_bind_alone;
  no_any_in_requests = any_kept tables written none valid.no_any_in_requests;
  no_requests = requests_kept tables written none valid;
  no_arguments = arguments_kept tables written none valid;
  sinces_in_range = sinces_kept tables written none valid.sinces_in_range;
  interfaces_there = there_kept tables written none valid;
  argument_ends = ends_kept tables written valid.argument_ends;
  no_server_objects = no_servers_kept tables written none valid;
  few_server_objects = few_servers_kept tables written none valid;
  made_rightly = made_kept tables written none valid;
}
