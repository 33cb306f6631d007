-- Tables joined with those of a text are valid if no line of the text breaks a rule.
use Rattle.std.proofs.Common.{◌≡◌, ◌≢◌, ℕ, suc, ◌+◌, ◌-◌, ◌<◌, ◌≤◌, ◌⊎◌, inl, inr, true, false}
use Rattle.std.proofs.Common.{List, [], ◌∷◌, ◌++◌, length, map, refl, sym, ap, ◌∙◌, subst, Some}
use Rattle.std.proofs.Common.{None, Option, Bool, slice_get, get_or, take, append_assoc, arith}
use Rattle.std.specs.List.{All, list_any}
use Rattle.std.proofs.lemmas.Bool.{leb-true, ltb-true, eqb-true}
use Rattle.wl_wire.specs.declared.kind.Kind.{Kind}
use Rattle.wl_wire.specs.declared.kind.Iface.{Iface}
use Rattle.wl_sigs.specs.Places.{PlacesFit}
use Rattle.wl_rules.proofs.FirstPlaces.{first_place-within, first_place-le}
use Rattle.wl_sigs.proofs.Lookups.{found}
use Rattle.std.specs.Option.{option_map_or}
use Rattle.std.specs.Prelude.{option_map, unwrap_or, ◌==◌, not, ◌||◌}
use Rattle.std.proofs.lemmas.List.{length-map, map-append, map_more}
use Rattle.std.proofs.lemmas.Option.{slice_get_within, slice_get-get_or, slice_get-map, slice_get_past}
use Rattle.wl_wire.specs.declared.kind.Kind.TheVariants as kinds
use Rattle.wl_sigs.specs.Side.{Side}
use Rattle.wl_sigs.specs.Side.TheVariants.{Request, Event}
use Rattle.wl_sigs.specs.Rules.{is_empty}
use Rattle.wl_sigs.specs.Tables.{MessageSignature, Interface, interface_at, messages_of, signature_at}
use Rattle.wl_sigs.specs.Tables.{new_objects, named_interface, has_destroying_event}
use Rattle.wl_sigs.specs.Tables.{destroys_target, destroys_argument, server_objects}
use Rattle.wl_sigs.specs.Valid.{IsTableName, NamesAreDistinct, HasFixedFour, AreSmall, MakeFewObjects}
use Rattle.wl_sigs.specs.Valid.{UnnamedNewInBindAlone, NoAnyInRequests, SincesAreInRange}
use Rattle.wl_sigs.specs.Valid.{DestroyingEventsAreRaceFree, NamedInterfacesAreThere}
use Rattle.wl_sigs.specs.Valid.{ArgumentEndsInFixesAlone, ServerMakesRightly, Valid, EachInterface}
use Rattle.wl_sigs.specs.Valid.{EachMessage}
use Rattle.wl_text.specs.Text.{WrittenMessage, WrittenInterface}
use Rattle.wl_sigs.specs.Joined.{all_names, first_place, kind_placed, destroys_of, joined}
use Rattle.wl_sigs.specs.Broken.{is_first, ended_of, first_broken}
use Rattle.wl_sigs.proofs.RulesDecide.{decides_name}
use Rattle.wl_rules.proofs.FirstBrokenLine.{each_interface_keeps}
use Rattle.wl_sigs.specs.FirstBroken.{written_of}
use Rattle.wl_sigs.proofs.KeptRules.{Keeps, MessageKeeps, kept}
use Rattle.wl_sigs.proofs.JoinedLookup.{in_front, Brought, either_interface, placing}
use Rattle.wl_sigs.proofs.JoinedLookup.{placing_message, each_interface, each_message}
use Rattle.wl_sigs.proofs.JoinedLookup.{length_joined, length_names, placed_messages}
use Rattle.wl_sigs.proofs.JoinedLookup.{either_message}
use Rattle.wl_sigs.proofs.PlacedKinds.{all_placed, count_placed, not_unnamed, not_any, there, NotEndedIn, not_ended}
use Rattle.wl_sigs.proofs.ServerObjects.{MadeRightly, count_by_server, made_rightly}

-- no line of the text breaks a rule
abbrev pub NoneBroken : List Interface → List WrittenInterface → Type 0
NoneBroken tables written = (k : ℕ) (w : WrittenInterface) → slice_get written k ≡ Some w
    → Keeps (first_place (all_names tables written)) (ended_of tables written) (length tables + k) w

pub none_broken : (tables : List Interface) (written : List WrittenInterface) → first_broken tables written ≡ None
    → NoneBroken tables written
none_broken tables written none k w at =
    kept _ _ _ w (each_interface_keeps (first_place (all_names tables written)) (ended_of tables written)
    (length tables) written none k w at)

-- the rules that one message keeps
keeps_at : (tables : List Interface) (written : List WrittenInterface) → NoneBroken tables written
    → (side : Side) (k : ℕ) (w : WrittenInterface) (o : ℕ) (m : WrittenMessage)
    → slice_get written k ≡ Some w → slice_get (written_of side w) o ≡ Some m
    → MessageKeeps (first_place (all_names tables written)) (ended_of tables written) w side
    (first_place (map (λ n. n.name) (written_of side w))) o m
keeps_at tables written none side k w o m at of = (none k w at).messages side o m of

-- V2
fixed_joined : (tables : List Interface) (written : List WrittenInterface) → HasFixedFour tables
    → HasFixedFour (joined tables written)
fixed_joined tables written four =
    let new = map (placing tables written) written in
    record {
      display = in_front tables new 0 _ four.display;
      registry = in_front tables new 1 _ four.registry;
      callback = in_front tables new 2 _ four.callback;
      fixes = in_front tables new 18 _ four.fixes;
    }

pub none_left : {X : Type 0} (xs : List X) → length xs ≤ 0 → xs ≡ []
none_left [] le = refl
none_left (x ∷ xs) le = absurd (omega arith)

-- V4
few_joined : (tables : List Interface) (written : List WrittenInterface) → NoneBroken tables written
    → MakeFewObjects tables → MakeFewObjects (joined tables written)
few_joined tables written none few = record {
  events =
      each_message (λ m. new_objects m.kinds ≡ []) tables written Event few.events
      (λ k w o m at of.
      let keeps = keeps_at tables written none Event k w o m at of in
      let count = count_placed (first_place (all_names tables written)) (length (all_names tables written)) m.kinds in
      none_left _ (let most = leb-true _ _ keeps.few_new in omega (arith, count, most)));
  requests =
      each_message (λ m. length (new_objects m.kinds) ≤ 1) tables written Request few.requests
      (λ k w o m at of.
      let keeps = keeps_at tables written none Request k w o m at of in
      let count = count_placed (first_place (all_names tables written)) (length (all_names tables written)) m.kinds in
      let most = leb-true _ _ keeps.few_new in omega (arith, count, most));
}

-- V5
unnamed_joined : (tables : List Interface) (written : List WrittenInterface) → NoneBroken tables written
    → UnnamedNewInBindAlone tables → UnnamedNewInBindAlone (joined tables written)
unnamed_joined tables written none old place side opcode m h =
    elim (either_message tables written place side opcode m h) [
      | inl front ↦ old place side opcode m front
      | inr b ↦
          let keeps = keeps_at tables written none side b.index b.interface opcode b.from b.at b.of in
          let names = all_names tables written in
          let all = all_placed _ (kind_placed (first_place names) (length names)) (λ k. k ≢ kinds.New None)
          (λ k t. not_unnamed (first_place names) (length names) k.kind k.iface t) b.from.kinds keeps.none_unnamed
          in
          inr (subst (λ (x : MessageSignature). All (λ k. k ≢ kinds.New None) x.kinds) b.is all)
    ]

-- V6
any_joined : (tables : List Interface) (written : List WrittenInterface) → NoneBroken tables written
    → NoAnyInRequests tables → NoAnyInRequests (joined tables written)
any_joined tables written none old =
    each_message (λ m. All (λ k. (null : Bool) → k ≢ kinds.Obj null None) m.kinds) tables written Request old
    (λ k w o m at of.
    let keeps = keeps_at tables written none Request k w o m at of in
    let names = all_names tables written in
    all_placed _ (kind_placed (first_place names) (length names)) (λ k. (null : Bool) → k ≢ kinds.Obj null None)
    (λ k t. not_any (first_place names) (length names) k.kind k.iface t) m.kinds keeps.none_any)

-- V8
sinces_joined : (tables : List Interface) (written : List WrittenInterface) → NoneBroken tables written
    → SincesAreInRange tables → SincesAreInRange (joined tables written)
sinces_joined tables written none old = record {
  versions = each_interface (λ i. 1 ≤ i.version) tables written old.versions
      (λ k w at. leb-true _ _ (none k w at).interface.version);
  from_one = λ side. each_message (λ m. 1 ≤ m.since) tables written side (old.from_one side)
      (λ k w o m at of. leb-true _ _ (keeps_at tables written none side k w o m at of).since);
  to_version = λ place side opcode i m at h. elim (either_message tables written place side opcode m h) [
    | inl front ↦
        let witness = found tables place side opcode m front in
        old.to_version place side opcode i m (in_tables place i at (slice_get_within tables place witness.interface witness.at))
        front
    | inr b ↦
        let own : placing tables written b.interface ≡ i =
        same_interface place i b.index b.interface b.at b.place_is at in
        let le = leb-true _ _ (keeps_at tables written none side b.index b.interface opcode b.from b.at b.of).to_version
        in
        subst (λ (x : Interface). m.since ≤ x.version) own
        (subst (λ (x : MessageSignature). x.since ≤ b.interface.version) b.is le)
  ];
}
  where
    in_tables : (place : ℕ) (i : Interface) → interface_at (joined tables written) place ≡ Some i
        → place < length tables → interface_at tables place ≡ Some i
    in_tables place i at lt = elim (either_interface tables written place i at) [
      | inl front ↦ front
      | inr b ↦ absurd (let is = b.place_is in omega (arith, is, lt))
    ]

    same_interface : (place : ℕ) (i : Interface) (k : ℕ) (w : WrittenInterface) → slice_get written k ≡ Some w
        → place ≡ length tables + k → interface_at (joined tables written) place ≡ Some i → placing tables written w ≡ i
    same_interface place i k w own is at = elim (either_interface tables written place i at) [
      | inl front ↦ absurd (let within = slice_get_within tables place i front in omega (arith, is, within))
      | inr b ↦
          let index : b.index ≡ k = (let is' = b.place_is in omega (arith, is, is')) in
          let one : Some b.from ≡ Some w = sym b.at ∙ ap (λ (n : ℕ). slice_get written n) index ∙ own in
          let same : b.from ≡ w = cc one in
          ap (placing tables written) (sym same) ∙ b.is
    ]

-- the last of a list, if it has one
pub last_at : {X : Type 0} (xs : List X) → (length xs ≡ 0) ⊎ ((x : X) × (slice_get xs (length xs - 1) ≡ Some x))
last_at [] = inl refl
last_at (x ∷ xs) = inr (
  get_or (x ∷ xs) (length (x ∷ xs) - 1) x,
  slice_get-get_or (x ∷ xs) (length (x ∷ xs) - 1) x
      (omega arith),
)

-- V3
small_joined : (tables : List Interface) (written : List WrittenInterface) → NoneBroken tables written → AreSmall tables
    → AreSmall (joined tables written)
small_joined tables written none old = record {
  interfaces = elim (last_at written) [
    | inl empty ↦ let most = old.interfaces in omega (arith, length_joined tables written)
    | inr last ↦ let lt = ltb-true _ _ (none (length written - 1) last.0 last.1).interface.small in
        let within = slice_get_within written (length written - 1) last.0 last.1
        in omega (arith, length_joined tables written, lt, within)
  ];
  messages = λ side. each_interface (λ i. length (messages_of side i) ≤ 256) tables written (old.messages side)
      (λ k w at. rw (placed_messages tables written side w)
      (let len = length-map (written_of side w) (placing_message tables written)
      in let few = few_messages side k w at in omega (arith, len, few)));
  arguments = λ side. each_message (λ m. length m.kinds ≤ 20) tables written side (old.arguments side)
      (λ k w o m at of.
      let short = leb-true _ _ (keeps_at tables written none side k w o m at of).short in
      let names = all_names tables written in
      let len = length-map m.kinds (kind_placed (first_place names) (length names)) in omega (arith, len, short));
}
  where
    few_messages : (side : Side) (k : ℕ) (w : WrittenInterface) → slice_get written k ≡ Some w
        → length (written_of side w) ≤ 256
    few_messages side k w at = elim (last_at (written_of side w)) [
      | inl empty ↦ omega arith
      | inr last ↦ let lt = ltb-true _ _ (keeps_at tables written none side k w
          (length (written_of side w) - 1) last.0 at last.1).few in
          let within = slice_get_within (written_of side w) (length (written_of side w) - 1) last.0 last.1
          in omega (arith, lt, within)
    ]

-- if an argument names an interface, the tables have it
abbrev pub IsThereIn : List Interface → Kind → Type 0
IsThereIn all k = (iface : Iface) → named_interface k ≡ Some iface → iface.0 < length all

-- V9
interfaces_joined : (tables : List Interface) (written : List WrittenInterface) → NoneBroken tables written
    → ((side : Side) → EachMessage tables side (λ m. All (IsThereIn (joined tables written)) m.kinds))
    → NamedInterfacesAreThere (joined tables written)
interfaces_joined tables written none old side =
    let names = all_names tables written in
    let lens : length (joined tables written) ≡ length names =
    omega (arith, length_joined tables written, length_names tables written) in
    each_message (λ m. All (IsThereIn (joined tables written)) m.kinds) tables written side
    (old side)
    (λ k w o m at of.
    let keeps = keeps_at tables written none side k w o m at of in
    all_placed _ (kind_placed (first_place names) (length names)) (IsThereIn (joined tables written))
    (λ x t iface e. let lt = there (first_place names) (length names)
    (first_place-within names) x.kind x.iface t iface e in omega (arith, lt, lens)) m.kinds keeps.none_missing)

-- a name is found at its first place
found_first : (place : List ℕ → Option ℕ) (name : List ℕ) (here : ℕ) → is_first place name here ≡ true
    → place name ≡ Some here
found_first place name here first = from_option (place name) first
  where
    from_option : (o : Option ℕ) → option_map_or (λ p. p == here) o false ≡ true → o ≡ Some here
    from_option None e = cc e
    from_option (Some p) e = ap Some (eqb-true p here e)

-- V1, the names of interfaces
interfaces_apart : (tables : List Interface) (written : List WrittenInterface) → NoneBroken tables written
    → NamesAreDistinct tables → (p q : ℕ) (i j : Interface)
    → interface_at (joined tables written) p ≡ Some i → interface_at (joined tables written) q ≡ Some j
    → i.name ≡ j.name → p ≡ q
interfaces_apart tables written none old p q i j at at' same =
    elim (either_interface tables written p i at) [
      | inl front ↦ elim (either_interface tables written q j at') [
        | inl front' ↦ old.interfaces_distinct p q i j front front' same
        | inr b' ↦ absurd (not_before p i front q j b' same)
      ]
      | inr b ↦ elim (either_interface tables written q j at') [
        | inl front' ↦ absurd (not_before q j front' p i b (sym same))
        | inr b' ↦
            let one = brought_first p i b in
            let other = brought_first q j b' in
            let e : Some p ≡ Some q = sym one ∙ ap (first_place (all_names tables written)) same ∙ other in
            cc e
      ]
    ]
  where
    brought_first : (p : ℕ) (i : Interface) → Brought tables written p i
        → first_place (all_names tables written) i.name ≡ Some p
    brought_first p i b =
        let first = found_first (first_place (all_names tables written)) b.from.name (length tables + b.index)
        (none b.index b.from b.at).interface.first in
        let named : b.from.name ≡ i.name = ap (λ (x : Interface). x.name) b.is in
        rw (← named, b.place_is) first

    not_before : (p : ℕ) (i : Interface) → interface_at tables p ≡ Some i → (q : ℕ) (j : Interface)
        → Brought tables written q j → i.name ≡ j.name → ⊥
    not_before p i front q j b same =
        let first = brought_first q j b in
        let at : slice_get (map (λ (x : Interface). x.name) tables) p ≡ Some i.name =
        slice_get-map (λ (x : Interface). x.name) tables p
        ∙ ap (option_map (λ (x : Interface). x.name)) front in
        let at_name : slice_get (all_names tables written) p ≡ Some j.name =
        in_front _ (map (λ (w : WrittenInterface). w.name) written) p i.name at ∙ ap Some same in
        let le = first_place-le (all_names tables written) j.name q p first at_name in
        let within = slice_get_within tables p i front in
        let is = b.place_is in
        omega (arith, le, within, is)

-- V1, the names of messages
messages_apart : (tables : List Interface) (written : List WrittenInterface) → NoneBroken tables written
    → NamesAreDistinct tables → (place : ℕ) (side : Side) (o p : ℕ) (m n : MessageSignature)
    → signature_at (joined tables written) place side o ≡ Some m
    → signature_at (joined tables written) place side p ≡ Some n → m.name ≡ n.name → o ≡ p
messages_apart tables written none old place side o p m n h h' same =
    elim (either_message tables written place side o m h) [
      | inl front ↦ elim (either_message tables written place side p n h') [
        | inl front' ↦ old.messages_distinct place side o p m n front front' same
        | inr b' ↦ absurd (let witness = found tables place side o m front
            in let within = slice_get_within tables place witness.interface witness.at in let is = b'.place_is
            in omega (arith, within, is))
      ]
      | inr b ↦ elim (either_message tables written place side p n h') [
        | inl front' ↦ absurd (let witness = found tables place side p n front'
            in let within = slice_get_within tables place witness.interface witness.at in let is = b.place_is
            in omega (arith, within, is))
        | inr b' ↦
            let index : b'.index ≡ b.index = (let is = b.place_is in let is' = b'.place_is in omega (arith, is, is')) in
            let one : Some b'.interface ≡ Some b.interface =
            sym b'.at ∙ ap (λ (k : ℕ). slice_get written k) index ∙ b.at in
            let own : b'.interface ≡ b.interface = cc one in
            let of' : slice_get (written_of side b.interface) p ≡ Some b'.from =
            subst (λ (w : WrittenInterface). slice_get (written_of side w) p ≡ Some b'.from) own b'.of in
            let first : List ℕ → Option ℕ = first_place (map (λ n. n.name) (written_of side b.interface)) in
            let a = found_first first b.from.name o
            (keeps_at tables written none side b.index b.interface o b.from b.at b.of).first_named in
            let d = found_first first b'.from.name p
            (keeps_at tables written none side b.index b.interface p b'.from b.at of').first_named in
            let named : b.from.name ≡ m.name = ap (λ (x : MessageSignature). x.name) b.is in
            let named' : b'.from.name ≡ n.name = ap (λ (x : MessageSignature). x.name) b'.is in
            let e : Some o ≡ Some p = sym a ∙ ap first (named ∙ same ∙ sym named') ∙ d in
            cc e
      ]
    ]

-- V1
names_joined_apart : (tables : List Interface) (written : List WrittenInterface) → NoneBroken tables written
    → NamesAreDistinct tables → NamesAreDistinct (joined tables written)
names_joined_apart tables written none old = record {
  interfaces_named = each_interface (λ i. IsTableName i.name) tables written old.interfaces_named
      (λ k w at. (decides_name w.name).0 (none k w at).interface.named);
  interfaces_distinct = interfaces_apart tables written none old;
  messages_named = λ side. each_message (λ m. IsTableName m.name) tables written side (old.messages_named side)
      (λ k w o m at of. (decides_name m.name).0 (keeps_at tables written none side k w o m at of).named);
  messages_distinct = messages_apart tables written none old;
}

-- some element passes
pub any_at : {X : Type 0} (test : X → Bool) (xs : List X) → list_any test xs ≡ true
    → (o : ℕ) × (x : X) × (slice_get xs o ≡ Some x) × (test x ≡ true)
any_at test [] any = cc any
any_at {X} test (x ∷ xs) any = head_or_tail (test x) refl any (λ behind. any_at test xs behind)
  where
    head_or_tail : (t : Bool) → test x ≡ t → t || list_any test xs ≡ true
        → (list_any test xs ≡ true → (o : ℕ) × (y : X) × (slice_get xs o ≡ Some y) × (test y ≡ true))
        → (o : ℕ) × (y : X) × (slice_get (x ∷ xs) o ≡ Some y) × (test y ≡ true)
    head_or_tail true is any behind = (0, x, refl, is)
    head_or_tail false is any behind = let rest = behind any in (suc rest.0, rest.1, rest.2, rest.3)

-- whether an event destroys its target, before and after the names are looked up
pub destroying : (tables : List Interface) (written : List WrittenInterface) (ms : List WrittenMessage)
    → list_any (λ m. destroys_target m.destroys) (map (placing_message tables written) ms)
    ≡ list_any (λ m. m.destroys) ms
destroying tables written [] = refl
destroying tables written (m ∷ ms) = rw (target_is m.destroys, destroying tables written ms) refl
  where
    target_is : (b : Bool) → destroys_target (destroys_of b) ≡ b
    target_is true = refl
    target_is false = refl

ended_behind : (tables : List Interface) (all written : List WrittenInterface)
    → map has_destroying_event (map (placing tables all) written)
    ≡ map (λ (w : WrittenInterface). list_any (λ m. m.destroys) w.events) written
ended_behind tables all [] = refl
ended_behind tables all (w ∷ written) = rw (destroying tables all w.events, ended_behind tables all written) refl

pub ended_joined : (tables : List Interface) (written : List WrittenInterface)
    → map has_destroying_event (joined tables written) ≡ ended_of tables written
ended_joined tables written =
    map-append has_destroying_event tables (map (placing tables written) written)
    ∙ ap (λ (b : List Bool). map has_destroying_event tables ++ b) (ended_behind tables written written)

pub ended_at : (tables : List Interface) (written : List WrittenInterface) (p : ℕ) (i : Interface)
    → interface_at (joined tables written) p ≡ Some i
    → slice_get (ended_of tables written) p ≡ Some (has_destroying_event i)
ended_at tables written p i at =
    rw (← ended_joined tables written) (slice_get-map has_destroying_event (joined tables written) p
    ∙ ap (option_map has_destroying_event) at)

none_destroying : (destroys : Bool) (requests : List WrittenMessage) → not destroys || is_empty requests ≡ true
    → destroys ≡ true → requests ≡ []
none_destroying false requests free is = cc is
none_destroying true [] free is = refl
none_destroying true (m ∷ ms) free is = cc free

-- V7
race_free_joined : (tables : List Interface) (written : List WrittenInterface) → NoneBroken tables written
    → EachInterface tables (λ i. has_destroying_event i ≡ true → i.requests ≡ [])
    → EachMessage tables Request (λ m. All (NotEndedIn (joined tables written)) m.kinds)
    → DestroyingEventsAreRaceFree (joined tables written)
race_free_joined tables written none no_requests no_arguments = record {
  no_requests = each_interface (λ i. has_destroying_event i ≡ true → i.requests ≡ []) tables written no_requests
      (λ k w at destroys.
      let event = any_at (λ m. m.destroys) w.events (sym (destroying tables written w.events) ∙ destroys) in
      let free = (keeps_at tables written none Event k w event.0 event.1 at event.2).race_free in
      ap (map (placing_message tables written)) (none_destroying event.1.destroys w.requests free event.3));
  no_arguments = each_message (λ m. All (NotEndedIn (joined tables written)) m.kinds) tables written Request
      no_arguments
      (λ k w o m at of.
      let names = all_names tables written in
      all_placed _ (kind_placed (first_place names) (length names)) (NotEndedIn (joined tables written))
      (λ x t. not_ended (joined tables written) (first_place names) (length names) (ended_of tables written)
      (ended_at tables written) past x.kind x.iface t) m.kinds
      (keeps_at tables written none Request k w o m at of).race_free);
}
  where
    past : interface_at (joined tables written) (length (all_names tables written)) ≡ None
    past = slice_get_past (joined tables written) (length (all_names tables written))
        (omega (arith, length_joined tables written, length_names tables written))

-- V10
argument_joined : (tables : List Interface) (written : List WrittenInterface) → ArgumentEndsInFixesAlone tables
    → ArgumentEndsInFixesAlone (joined tables written)
argument_joined tables written old place side opcode m h =
    elim (either_message tables written place side opcode m h) as
    (λ _. (place ≡ 18) ⊎ (destroys_argument m.destroys ≡ false)) [
      | inl front ↦ old place side opcode m front
      | inr b ↦ inr (subst (λ (x : MessageSignature). destroys_argument x.destroys ≡ false) b.is
          (no_argument b.from.destroys))
    ]
  where
    no_argument : (b : Bool) → destroys_argument (destroys_of b) ≡ false
    no_argument true = refl
    no_argument false = refl

-- V11
server_joined : (tables : List Interface) (written : List WrittenInterface) → NoneBroken tables written
    → EachMessage tables Request (λ m. server_objects m.kinds ≡ [])
    → EachMessage tables Event (λ m. length (server_objects m.kinds) ≤ 1)
    → ((side : Side) → EachMessage tables side (λ m. All (MadeRightly (joined tables written)) m.kinds))
    → ServerMakesRightly (joined tables written)
server_joined tables written none old_requests old_events old_made = record {
  requests =
      each_message (λ m. server_objects m.kinds ≡ []) tables written Request old_requests
      (λ k w o m at of.
      let keeps = keeps_at tables written none Request k w o m at of in
      let count = count_by_server (first_place names) (length names) m.kinds in
      none_left _ (let most = leb-true _ _ keeps.few_by_server in omega (arith, count, most)));
  events =
      each_message (λ m. length (server_objects m.kinds) ≤ 1) tables written Event old_events
      (λ k w o m at of.
      let keeps = keeps_at tables written none Event k w o m at of in
      let count = count_by_server (first_place names) (length names) m.kinds in
      let most = leb-true _ _ keeps.few_by_server in omega (arith, count, most));
  interfaces = λ side.
      each_message (λ m. All (MadeRightly (joined tables written)) m.kinds) tables written side (old_made side)
      (λ k w o m at of.
      all_placed _ (kind_placed (first_place names) (length names)) (MadeRightly (joined tables written))
      (λ x t. made_rightly (joined tables written) (first_place names) (length names) (ended_of tables written)
      (ended_at tables written) past x.kind x.iface t) m.kinds
      (keeps_at tables written none side k w o m at of).none_forbidden);
}
  where
    names : List (List ℕ)
    names = all_names tables written

    past : interface_at (joined tables written) (length names) ≡ None
    past = slice_get_past (joined tables written) (length names)
        (omega (arith, length_joined tables written, length_names tables written))

-- the tables before a text keep the rules; where a rule looks up an interface by its name, the
-- interface may be one of the text
pub record KeepsInFront (tables : List Interface) (written : List WrittenInterface) : Type 0 where
  pub names_distinct : NamesAreDistinct tables
  pub fixed_four : HasFixedFour tables
  pub small : AreSmall tables
  pub few_objects_made : MakeFewObjects tables
  pub unnamed_new_in_bind_alone : UnnamedNewInBindAlone tables
  pub no_any_in_requests : NoAnyInRequests tables
  pub no_requests : EachInterface tables (λ i. has_destroying_event i ≡ true → i.requests ≡ [])
  pub no_arguments : EachMessage tables Request (λ m. All (NotEndedIn (joined tables written)) m.kinds)
  pub sinces_in_range : SincesAreInRange tables
  pub interfaces_there : (side : Side)
      → EachMessage tables side (λ m. All (IsThereIn (joined tables written)) m.kinds)
  pub argument_ends : ArgumentEndsInFixesAlone tables
  pub no_server_objects : EachMessage tables Request (λ m. server_objects m.kinds ≡ [])
  pub few_server_objects : EachMessage tables Event (λ m. length (server_objects m.kinds) ≤ 1)
  pub made_rightly : (side : Side)
      → EachMessage tables side (λ m. All (MadeRightly (joined tables written)) m.kinds)

pub joined_valid : (tables : List Interface) (written : List WrittenInterface) → KeepsInFront tables written
    → first_broken tables written ≡ None → Valid (joined tables written)
joined_valid tables written valid none =
    let keeps = none_broken tables written none in
    record {
      names_distinct = names_joined_apart tables written keeps valid.names_distinct;
      fixed_four = fixed_joined tables written valid.fixed_four;
      small = small_joined tables written keeps valid.small;
      few_objects_made = few_joined tables written keeps valid.few_objects_made;
      unnamed_new_in_bind_alone = unnamed_joined tables written keeps valid.unnamed_new_in_bind_alone;
      no_any_in_requests = any_joined tables written keeps valid.no_any_in_requests;
      race_free = race_free_joined tables written keeps valid.no_requests valid.no_arguments;
      sinces_in_range = sinces_joined tables written keeps valid.sinces_in_range;
      interfaces_there = interfaces_joined tables written keeps valid.interfaces_there;
      argument_ends = argument_joined tables written valid.argument_ends;
      server_makes = server_joined tables written keeps valid.no_server_objects valid.few_server_objects
          valid.made_rightly;
    }

-- the places of the joined tables fit in 16 bits
pub places_fit : (tables : List Interface) (written : List WrittenInterface)
    → length tables + length written ≤ 1024 → (place : List ℕ → Option ℕ)
    → ((name : List ℕ) → place name ≡ first_place (all_names tables written) name)
    → PlacesFit place (length tables + length written)
places_fit tables written few place are =
    (omega (arith, few), λ name. rw (are name) (below name (first_place (all_names tables written) name) refl))
  where
    below : (name : List ℕ) (o : Option ℕ) → first_place (all_names tables written) name ≡ o
        → unwrap_or o (length tables + length written) < 65536
    below name None is = omega (arith, few)
    below name (Some p) is =
        let within = first_place-within (all_names tables written) name p is in
        omega (arith, few, within, length_names tables written)

-- the step of a loop that appends interfaces
pub placed_more : (f : WrittenInterface → Interface) (tables : List Interface) (written : List WrittenInterface) (k : ℕ)
    (w : WrittenInterface) → k < length written → w ≡ get_or written k w
    → (tables ++ map f (take k written)) ++ f w ∷ [] ≡ tables ++ map f (take (k + 1) written)
placed_more f tables written k w within is =
    rw (map_more f written k w within, ← is) (append_assoc tables (map f (take k written)) (f w ∷ []))
