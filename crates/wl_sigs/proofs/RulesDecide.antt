-- Each test of a rule decides it.
use Rattle.std.proofs.Common.{◌≡◌, ◌≢◌, ℕ, ◌≤◌, ◌<◌, ◌⊎◌, inl, inr, List, [], length, Bool, true}
use Rattle.std.proofs.Common.{false, refl, sym, ◌∙◌, subst, nat_le, nat_eq, ◌&&◌, ◌||◌, not, map}
use Rattle.std.proofs.Common.{slice_get, Option, Some, None}
use Rattle.std.specs.List.{All, list_all}
use Rattle.std.specs.Bool.{Decides}
use Rattle.std.proofs.lemmas.Bool.Decides.{Decides-like, Decides-and, Decides-or, Decides-eqb, Decides-ltb}
use Rattle.std.proofs.lemmas.Bool.{not-true, not_from_false}
use Rattle.wl_wire.specs.declared.kind.Kind.{Kind}
use Rattle.wl_wire.specs.declared.kind.Kind.TheVariants as kinds
use Rattle.wl_wire.specs.declared.kind.Iface.{Iface}
use Rattle.wl_sigs.specs.Side.{Side}
use Rattle.wl_sigs.specs.Side.TheVariants.{Request, Event}
use Rattle.wl_sigs.specs.Tables.{MessageSignature, Interface, interface_at, messages_of, message_of}
use Rattle.wl_sigs.specs.Tables.{signature_at, new_objects, has_destroying_event, named_interface}
use Rattle.wl_sigs.specs.Tables.{destroys_argument}
use Rattle.wl_sigs.specs.Valid.{EachInterface, EachMessage, IsNameByte, IsTableName, NamesAreDistinct}
use Rattle.wl_sigs.specs.Valid.{HasFixedFour, AreSmall, MakeFewObjects, IsBind}
use Rattle.wl_sigs.specs.Valid.{UnnamedNewInBindAlone, NoAnyInRequests, DestroyingEventsAreRaceFree}
use Rattle.wl_sigs.specs.Valid.{SincesAreInRange, NamedInterfacesAreThere, ArgumentEndsInFixesAlone}
use Rattle.wl_sigs.specs.Valid.{ServerMakesRightly, Valid}
use Rattle.wl_sigs.specs.Rules as test
use Rattle.wl_sigs.proofs.TestsDecide.{Decides-le, Decides-empty, Decides-list_all, Decides-each}
use Rattle.wl_sigs.proofs.TestsDecide.{Decides-both, Decides-message}
use Rattle.wl_sigs.proofs.Lookups.{found, signature_from}
use Rattle.wl_sigs.proofs.Distinct.{DistinctBy, Decides-distinct_by}
use Rattle.wl_sigs.proofs.ByPlace.{Decides-by_place}
use Rattle.wl_sigs.proofs.ServerObjects.{decides_server}

-- names

decides_name_byte : (b : ℕ) → Decides (test.is_name_byte b) (IsNameByte b)
decides_name_byte b =
    Decides-or (nat_le 97 b && nat_le b 122) ((nat_le 48 b && nat_le b 57) || nat_eq b 95)
    (Decides-and (nat_le 97 b) (nat_le b 122) (Decides-le 97 b) (Decides-le b 122))
    (Decides-or (nat_le 48 b && nat_le b 57) (nat_eq b 95)
    (Decides-and (nat_le 48 b) (nat_le b 57) (Decides-le 48 b) (Decides-le b 57)) (Decides-eqb b 95))

pub decides_name : (name : List ℕ) → Decides (test.is_name name) (IsTableName name)
decides_name name =
    Decides-like (test.is_name name) (λ h. record { some = h.0.0; few = h.0.1; bytes = h.1 })
    (λ n. ((n.some, n.few), n.bytes))
    (Decides-and (nat_le 1 (length name) && nat_le (length name) 256) (list_all test.is_name_byte name)
    (Decides-and (nat_le 1 (length name)) (nat_le (length name) 256) (Decides-le 1 (length name))
    (Decides-le (length name) 256))
    (Decides-list_all test.is_name_byte IsNameByte decides_name_byte name))

-- no two messages on one side of an interface have the same name
abbrev MessagesDistinct : Side → Interface → Type 0
MessagesDistinct side i = DistinctBy (λ m. m.name) (messages_of side i)

distinct_in_tables : (tables : List Interface) → ((side : Side) → EachInterface tables (MessagesDistinct side))
    → (place : ℕ) (side : Side) (o p : ℕ) (m n : MessageSignature) → signature_at tables place side o ≡ Some m
    → signature_at tables place side p ≡ Some n → m.name ≡ n.name → o ≡ p
distinct_in_tables tables all place side o p m n at at' same =
    let a = found tables place side o m at in
    let b = found tables place side p n at' in
    let one : Some b.interface ≡ Some a.interface = sym b.at ∙ a.at in
    let of : message_of side p a.interface ≡ Some n =
    subst (λ i. message_of side p i ≡ Some n) (let e : b.interface ≡ a.interface = cc in e) b.of in
    all side place a.interface a.at o p m n a.of of same

distinct_in_each : (tables : List Interface) → ((place : ℕ) (side : Side) (o p : ℕ) (m n : MessageSignature)
    → signature_at tables place side o ≡ Some m → signature_at tables place side p ≡ Some n → m.name ≡ n.name → o ≡ p)
    → (side : Side) → EachInterface tables (MessagesDistinct side)
distinct_in_each tables all side place i at o p m n of of' same =
    all place side o p m n (signature_from tables place side o i m at of)
    (signature_from tables place side p i n at of') same

pub decides_names : (tables : List Interface) → Decides (test.names_are_distinct tables) (NamesAreDistinct tables)
decides_names tables =
    let named = list_all (λ i. test.is_name i.name) tables in
    let distinct = test.are_distinct (map (λ i. i.name) tables) in
    let messages = test.both_sides (test.each_message (λ m. test.is_name m.name) tables) in
    let apart = test.both_sides (λ side. list_all
    (λ i. test.are_distinct (map (λ m. m.name) (messages_of side i))) tables) in
    Decides-like (test.names_are_distinct tables)
    (λ h. record {
      interfaces_named = h.0.0.0;
      interfaces_distinct = h.0.0.1;
      messages_named = h.0.1;
      messages_distinct = distinct_in_tables tables h.1;
    })
    (λ n. (
      ((n.interfaces_named, n.interfaces_distinct), n.messages_named),
      distinct_in_each tables
          n.messages_distinct,
    ))
    (Decides-and (named && distinct && messages) apart
    (Decides-and (named && distinct) messages
    (Decides-and named distinct
    (Decides-each (λ i. test.is_name i.name) (λ i. IsTableName i.name) (λ i. decides_name i.name) tables)
    (Decides-distinct_by (λ i. i.name) tables))
    (Decides-both (test.each_message (λ m. test.is_name m.name) tables)
    (λ side. EachMessage tables side (λ m. IsTableName m.name))
    (Decides-message (λ m. test.is_name m.name) (λ m. IsTableName m.name) (λ m. decides_name m.name) tables)))
    (Decides-both (λ side. list_all (λ i. test.are_distinct (map (λ m. m.name) (messages_of side i))) tables)
    (λ side. EachInterface tables (MessagesDistinct side))
    (λ side. Decides-each (λ i. test.are_distinct (map (λ m. m.name) (messages_of side i))) (MessagesDistinct side)
    (λ i. Decides-distinct_by (λ m. m.name) (messages_of side i)) tables)))

-- sizes

pub decides_small : (tables : List Interface) → Decides (test.are_small tables) (AreSmall tables)
decides_small tables =
    let few = nat_le (length tables) 1024 in
    let messages = test.both_sides (λ side. list_all (λ i. nat_le (length (messages_of side i)) 256) tables) in
    let arguments = test.both_sides (test.each_message (λ m. nat_le (length m.kinds) 20) tables) in
    Decides-like (test.are_small tables) (λ h. record { interfaces = h.0.0; messages = h.0.1; arguments = h.1 })
    (λ s. ((s.interfaces, s.messages), s.arguments))
    (Decides-and (few && messages) arguments
    (Decides-and few messages (Decides-le (length tables) 1024)
    (Decides-both (λ side. list_all (λ i. nat_le (length (messages_of side i)) 256) tables)
    (λ side. EachInterface tables (λ i. length (messages_of side i) ≤ 256))
    (λ side. Decides-each (λ i. nat_le (length (messages_of side i)) 256) (λ i. length (messages_of side i) ≤ 256)
    (λ i. Decides-le (length (messages_of side i)) 256) tables)))
    (Decides-both (test.each_message (λ m. nat_le (length m.kinds) 20) tables)
    (λ side. EachMessage tables side (λ m. length m.kinds ≤ 20))
    (Decides-message (λ m. nat_le (length m.kinds) 20) (λ m. length m.kinds ≤ 20)
    (λ m. Decides-le (length m.kinds) 20) tables)))

-- new objects

pub decides_few_objects : (tables : List Interface) → Decides (test.make_few_objects tables) (MakeFewObjects tables)
decides_few_objects tables =
    let events = test.each_message (λ m. test.is_empty (new_objects m.kinds)) tables Event in
    let requests = test.each_message (λ m. nat_le (length (new_objects m.kinds)) 1) tables Request in
    Decides-like (test.make_few_objects tables) (λ h. record { events = h.0; requests = h.1 })
    (λ f. (f.events, f.requests))
    (Decides-and events requests
    (Decides-message (λ m. test.is_empty (new_objects m.kinds)) (λ m. new_objects m.kinds ≡ [])
    (λ m. Decides-empty (new_objects m.kinds)) tables Event)
    (Decides-message (λ m. nat_le (length (new_objects m.kinds)) 1) (λ m. length (new_objects m.kinds) ≤ 1)
    (λ m. Decides-le (length (new_objects m.kinds)) 1) tables Request))

decides_unnamed : (k : Kind) → Decides (not (test.is_unnamed_new k)) (k ≢ kinds.New None)
decides_unnamed kinds.Int = (λ _ e. cc, λ _. refl)
decides_unnamed kinds.Uint = (λ _ e. cc, λ _. refl)
decides_unnamed kinds.Fixed = (λ _ e. cc, λ _. refl)
decides_unnamed (kinds.Str null) = (λ _ e. cc, λ _. refl)
decides_unnamed (kinds.Obj null iface) = (λ _ e. cc, λ _. refl)
decides_unnamed (kinds.New None) = (λ h. cc, λ never. absurd (never refl))
decides_unnamed (kinds.New (Some iface)) = (λ _ e. cc, λ _. refl)
decides_unnamed (kinds.NewByServer iface) = (λ _ e. cc, λ _. refl)
decides_unnamed kinds.Array = (λ _ e. cc, λ _. refl)
decides_unnamed kinds.Fd = (λ _ e. cc, λ _. refl)

abbrev NoUnnamedNew : MessageSignature → Type 0
NoUnnamedNew m = All (λ k. k ≢ kinds.New None) m.kinds

decides_no_unnamed : (m : MessageSignature) → Decides (test.has_no_unnamed_new m) (NoUnnamedNew m)
decides_no_unnamed m = Decides-list_all (λ k. not (test.is_unnamed_new k))
    (λ k. k ≢ kinds.New None) decides_unnamed m.kinds

-- the message is wl_registry.bind, or each of its new objects has an interface
abbrev IsBindOrNamed : ℕ → ℕ → MessageSignature → Type 0
IsBindOrNamed place opcode m = ((place ≡ 1) × (opcode ≡ 0)) ⊎ NoUnnamedNew m

decides_request : (place opcode : ℕ) (m : MessageSignature)
    → Decides ((nat_eq place 1 && nat_eq opcode 0) || test.has_no_unnamed_new m) (IsBindOrNamed place opcode m)
decides_request place opcode m =
    Decides-or (nat_eq place 1 && nat_eq opcode 0) (test.has_no_unnamed_new m)
    (Decides-and (nat_eq place 1) (nat_eq opcode 0) (Decides-eqb place 1) (Decides-eqb opcode 0))
    (decides_no_unnamed m)

abbrev RequestsNamed : ℕ → Interface → Type 0
RequestsNamed place i = (opcode : ℕ) (m : MessageSignature) → slice_get i.requests opcode ≡ Some m
    → IsBindOrNamed place opcode m

bind_or_named : (place opcode : ℕ) (m : MessageSignature) → IsBindOrNamed place opcode m
    → IsBind place Request opcode ⊎ NoUnnamedNew m
bind_or_named place opcode m (inl at) = inl (record { registry = at.0; request = refl; bind = at.1 })
bind_or_named place opcode m (inr named) = inr named

request_named : (place opcode : ℕ) (m : MessageSignature) → IsBind place Request opcode ⊎ NoUnnamedNew m
    → IsBindOrNamed place opcode m
request_named place opcode m (inl b) = inl (b.registry, b.bind)
request_named place opcode m (inr named) = inr named

event_named : (place opcode : ℕ) (m : MessageSignature) → IsBind place Event opcode ⊎ NoUnnamedNew m → NoUnnamedNew m
event_named place opcode m (inl b) = let e = b.request in cc
event_named place opcode m (inr named) = named

unnamed_from : (tables : List Interface) → ((place : ℕ) (i : Interface) → slice_get tables place ≡ Some i
    → RequestsNamed place i) → EachMessage tables Event NoUnnamedNew → UnnamedNewInBindAlone tables
unnamed_from tables requests events place Request opcode m h =
    let witness = found tables place Request opcode m h
    in bind_or_named place opcode m (requests place witness.interface witness.at opcode m witness.of)
unnamed_from tables requests events place Event opcode m h = inr (events place opcode m h)

pub decides_bind : (tables : List Interface) → Decides (test.unnamed_new_in_bind_alone tables)
    (UnnamedNewInBindAlone tables)
decides_bind tables =
    let by_opcode : ℕ → Interface → Bool = λ place i. test.all_indexed_from
    (λ opcode m. (nat_eq place 1 && nat_eq opcode 0) || test.has_no_unnamed_new m) 0 i.requests in
    let requests = test.all_indexed_from by_opcode 0 tables in
    let events = test.each_message test.has_no_unnamed_new tables Event in
    Decides-like (test.unnamed_new_in_bind_alone tables) (λ h. unnamed_from tables h.0 h.1)
    (λ all. (
      λ place i at opcode m of. request_named place opcode m
          (all place Request opcode m (signature_from tables place Request opcode i m at of)),
      λ place opcode m h. event_named place opcode m (all place Event opcode m h),
    ))
    (Decides-and requests events
    (Decides-by_place by_opcode RequestsNamed
    (λ place i. Decides-by_place (λ opcode m. (nat_eq place 1 && nat_eq opcode 0) || test.has_no_unnamed_new m)
    (IsBindOrNamed place) (decides_request place) i.requests) tables)
    (Decides-message test.has_no_unnamed_new NoUnnamedNew decides_no_unnamed tables Event))

-- objects of any interface

decides_any : (k : Kind) → Decides (not (test.is_any_object k)) ((null : Bool) → k ≢ kinds.Obj null None)
decides_any kinds.Int = (λ _ null e. cc, λ _. refl)
decides_any kinds.Uint = (λ _ null e. cc, λ _. refl)
decides_any kinds.Fixed = (λ _ null e. cc, λ _. refl)
decides_any (kinds.Str null) = (λ _ n e. cc, λ _. refl)
decides_any (kinds.Obj null None) = (λ h. cc, λ never. absurd (never null refl))
decides_any (kinds.Obj null (Some iface)) = (λ _ n e. cc, λ _. refl)
decides_any (kinds.New iface) = (λ _ null e. cc, λ _. refl)
decides_any (kinds.NewByServer iface) = (λ _ null e. cc, λ _. refl)
decides_any kinds.Array = (λ _ null e. cc, λ _. refl)
decides_any kinds.Fd = (λ _ null e. cc, λ _. refl)

pub decides_no_any : (tables : List Interface) → Decides (test.no_any_in_requests tables) (NoAnyInRequests tables)
decides_no_any tables =
    Decides-message (λ m. list_all (λ k. not (test.is_any_object k)) m.kinds)
    (λ m. All (λ k. (null : Bool) → k ≢ kinds.Obj null None) m.kinds)
    (λ m. Decides-list_all (λ k. not (test.is_any_object k))
    (λ k. (null : Bool) → k ≢ kinds.Obj null None) decides_any m.kinds) tables Request

-- destroying events

abbrev NotEnded : List Interface → Kind → Type 0
NotEnded tables k = (null : Bool) (iface : Iface) (i : Interface) → k ≡ kinds.Obj null (Some iface)
    → interface_at tables iface.0 ≡ Some i → has_destroying_event i ≡ false

ended_from : (o : Option Interface) → not (test.is_ended_by_event o) ≡ true → (i : Interface) → o ≡ Some i
    → has_destroying_event i ≡ false
ended_from None h i e = cc
ended_from (Some j) h i e = let same : j ≡ i = cc
    in subst (λ x. has_destroying_event x ≡ false) same (not-true (has_destroying_event j) h)

ended_to : (o : Option Interface) → ((i : Interface) → o ≡ Some i → has_destroying_event i ≡ false)
    → not (test.is_ended_by_event o) ≡ true
ended_to None all = refl
ended_to (Some i) all = not_from_false (has_destroying_event i) (all i refl)

object_ended : (tables : List Interface) (null : Bool) (iface : Iface)
    → not (test.is_ended_by_event (interface_at tables iface.0)) ≡ true → NotEnded tables (kinds.Obj null (Some iface))
object_ended tables null iface h n other i e at =
    let same : iface ≡ other = cc in
    ended_from (interface_at tables iface.0) h i (subst (λ x. interface_at tables x.0 ≡ Some i) (sym same) at)

decides_ended : (tables : List Interface) (k : Kind) → Decides (not (test.may_be_ended tables k)) (NotEnded tables k)
decides_ended tables kinds.Int = (λ _ null iface i e at. cc, λ _. refl)
decides_ended tables kinds.Uint = (λ _ null iface i e at. cc, λ _. refl)
decides_ended tables kinds.Fixed = (λ _ null iface i e at. cc, λ _. refl)
decides_ended tables (kinds.Str null) = (λ _ n iface i e at. cc, λ _. refl)
decides_ended tables (kinds.Obj null None) = (λ _ n iface i e at. cc, λ _. refl)
decides_ended tables (kinds.Obj null (Some iface)) =
    (object_ended tables null iface, λ all. ended_to (interface_at tables iface.0) (λ i at. all null iface i refl at))
decides_ended tables (kinds.New iface) = (λ _ null other i e at. cc, λ _. refl)
decides_ended tables (kinds.NewByServer iface) = (λ _ null other i e at. cc, λ _. refl)
decides_ended tables kinds.Array = (λ _ null iface i e at. cc, λ _. refl)
decides_ended tables kinds.Fd = (λ _ null iface i e at. cc, λ _. refl)

or_empty : (ended : Bool) (requests : List MessageSignature)
    → Decides (not ended || test.is_empty requests) (ended ≡ true → requests ≡ [])
or_empty true requests = ((λ h _. (Decides-empty requests).0 h), λ all. (Decides-empty requests).1 (all refl))
or_empty false requests = ((λ _ h. cc), λ _. refl)

pub decides_race_free : (tables : List Interface)
    → Decides (test.destroying_events_are_race_free tables) (DestroyingEventsAreRaceFree tables)
decides_race_free tables =
    let no_requests = list_all (λ i. not (has_destroying_event i) || test.is_empty i.requests) tables in
    let no_arguments = test.each_message (λ m. list_all (λ k. not (test.may_be_ended tables k)) m.kinds) tables Request
    in
    Decides-like (test.destroying_events_are_race_free tables) (λ h. record { no_requests = h.0; no_arguments = h.1 })
    (λ f. (f.no_requests, f.no_arguments))
    (Decides-and no_requests no_arguments
    (Decides-each (λ i. not (has_destroying_event i) || test.is_empty i.requests)
    (λ i. has_destroying_event i ≡ true → i.requests ≡ [])
    (λ i. or_empty (has_destroying_event i) i.requests) tables)
    (Decides-message (λ m. list_all (λ k. not (test.may_be_ended tables k)) m.kinds)
    (λ m. All (NotEnded tables) m.kinds)
    (λ m. Decides-list_all (λ k. not (test.may_be_ended tables k)) (NotEnded tables) (decides_ended tables) m.kinds)
    tables Request))

-- versions

abbrev SincesBelow : Side → Interface → Type 0
SincesBelow side i = (opcode : ℕ) (m : MessageSignature) → slice_get (messages_of side i) opcode ≡ Some m
    → m.since ≤ i.version

below_from : (tables : List Interface) → ((side : Side) → EachInterface tables (SincesBelow side))
    → (place : ℕ) (side : Side) (opcode : ℕ) (i : Interface) (m : MessageSignature) → interface_at tables place ≡ Some i
    → signature_at tables place side opcode ≡ Some m → m.since ≤ i.version
below_from tables all place side opcode i m at h =
    let witness = found tables place side opcode m h in
    let same : witness.interface ≡ i = (let e : Some witness.interface ≡ Some i = sym witness.at ∙ at in cc) in
    all side place i at opcode m (subst (λ x. message_of side opcode x ≡ Some m) same witness.of)

pub decides_sinces : (tables : List Interface) → Decides (test.sinces_are_in_range tables) (SincesAreInRange tables)
decides_sinces tables =
    let versions = list_all (λ i. nat_le 1 i.version) tables in
    let from_one = test.both_sides (test.each_message (λ m. nat_le 1 m.since) tables) in
    let to_version = test.both_sides (λ side. list_all
    (λ i. list_all (λ m. nat_le m.since i.version) (messages_of side i)) tables) in
    Decides-like (test.sinces_are_in_range tables)
    (λ h. record { versions = h.0.0; from_one = h.0.1; to_version = below_from tables h.1 })
    (λ s. (
      (s.versions, s.from_one),
      λ side place i at opcode m of. s.to_version place side opcode i m at
          (signature_from tables place side opcode i m at of),
    ))
    (Decides-and (versions && from_one) to_version
    (Decides-and versions from_one (Decides-each (λ i. nat_le 1 i.version) (λ i. 1 ≤ i.version)
    (λ i. Decides-le 1 i.version) tables)
    (Decides-both (test.each_message (λ m. nat_le 1 m.since) tables)
    (λ side. EachMessage tables side (λ m. 1 ≤ m.since))
    (Decides-message (λ m. nat_le 1 m.since) (λ m. 1 ≤ m.since) (λ m. Decides-le 1 m.since) tables)))
    (Decides-both (λ side. list_all (λ i. list_all (λ m. nat_le m.since i.version) (messages_of side i)) tables)
    (λ side. EachInterface tables (SincesBelow side))
    (λ side. Decides-each (λ i. list_all (λ m. nat_le m.since i.version) (messages_of side i)) (SincesBelow side)
    (λ i. Decides-each (λ m. nat_le m.since i.version) (λ m. m.since ≤ i.version) (λ m. Decides-le m.since i.version)
    (messages_of side i)) tables)))

-- named interfaces

abbrev IsThere : List Interface → Option Iface → Type 0
IsThere tables named = (iface : Iface) → named ≡ Some iface → iface.0 < length tables

decides_there : (tables : List Interface) (named : Option Iface)
    → Decides (test.is_in_tables tables named) (IsThere tables named)
decides_there tables None = (λ _ iface e. cc, λ _. refl)
decides_there tables (Some iface) =
    Decides-like (test.is_in_tables tables (Some iface))
    (λ h other e. let same : iface ≡ other = cc in subst (λ x. x.0 < length tables) same h) (λ all. all iface refl)
    (Decides-ltb iface.0 (length tables))

pub decides_interfaces : (tables : List Interface)
    → Decides (test.named_interfaces_are_there tables) (NamedInterfacesAreThere tables)
decides_interfaces tables =
    Decides-both (test.each_message (λ m. list_all (λ k. test.is_in_tables tables (named_interface k)) m.kinds) tables)
    (λ side. EachMessage tables side (λ m. All (λ k. IsThere tables (named_interface k)) m.kinds))
    (Decides-message (λ m. list_all (λ k. test.is_in_tables tables (named_interface k)) m.kinds)
    (λ m. All (λ k. IsThere tables (named_interface k)) m.kinds)
    (λ m. Decides-list_all (λ k. test.is_in_tables tables (named_interface k)) (λ k. IsThere tables (named_interface k))
    (λ k. decides_there tables (named_interface k)) m.kinds) tables)

-- all rules

-- what destroys an argument

is_not : (b : Bool) → Decides (not b) (b ≡ false)
is_not true = (λ h. cc, λ h. cc)
is_not false = (λ h. refl, λ h. refl)

abbrev FixesOrNone : ℕ → Interface → Type 0
FixesOrNone place i = (place ≡ 18) ⊎ ((side : Side) (opcode : ℕ) (m : MessageSignature)
    → slice_get (messages_of side i) opcode ≡ Some m → destroys_argument m.destroys ≡ false)

decides_place : (place : ℕ) (i : Interface) → Decides
    (nat_eq place 18 || test.both_sides (λ side. list_all test.ends_no_argument (messages_of side i)))
    (FixesOrNone place i)
decides_place place i =
    Decides-or (nat_eq place 18) (test.both_sides (λ side. list_all test.ends_no_argument (messages_of side i)))
    (Decides-eqb place 18)
    (Decides-both (λ side. list_all test.ends_no_argument (messages_of side i))
    (λ side. (opcode : ℕ) (m : MessageSignature) → slice_get (messages_of side i) opcode ≡ Some m
    → destroys_argument m.destroys ≡ false)
    (λ side. Decides-each test.ends_no_argument (λ m. destroys_argument m.destroys ≡ false)
    (λ m. is_not (destroys_argument m.destroys)) (messages_of side i)))

fixes_from : (side : Side) (opcode place : ℕ) (i : Interface) (m : MessageSignature) → FixesOrNone place i
    → slice_get (messages_of side i) opcode ≡ Some m → (place ≡ 18) ⊎ (destroys_argument m.destroys ≡ false)
fixes_from side opcode place i m (inl p) h = inl p
fixes_from side opcode place i m (inr f) h = inr (f side opcode m h)

place_is : (b : Bool) (place : ℕ) → Decides b (place ≡ 18) → (P : Type 0) → ((b ≡ false) → P) → (place ≡ 18) ⊎ P
place_is true place d P f = inl (d.0 refl)
place_is false place d P f = inr (f refl)

or_right : (A P : Type 0) → A ⊎ P → (A → ⊥) → P
or_right A P (inl a) f = absurd (f a)
or_right A P (inr p) f = p

fixes_to : (place : ℕ) (i : Interface) → ((side : Side) (opcode : ℕ) (m : MessageSignature)
    → slice_get (messages_of side i) opcode ≡ Some m → (place ≡ 18) ⊎ (destroys_argument m.destroys ≡ false))
    → FixesOrNone place i
fixes_to place i all =
    place_is (nat_eq place 18) place (Decides-eqb place 18) _
    (λ e side opcode m h. or_right _ _ (all side opcode m h)
    (λ p. (let y = (Decides-eqb place 18).1 p in cc (e, y))))

decides_argument : (tables : List Interface) → Decides (test.argument_ends_in_fixes_alone tables)
    (ArgumentEndsInFixesAlone tables)
decides_argument tables =
    Decides-like (test.argument_ends_in_fixes_alone tables)
    (λ all place side opcode m h. let witness = found tables place side opcode m h
    in fixes_from side opcode place witness.interface m (all place witness.interface witness.at) witness.of)
    (λ all place i at. fixes_to place i (λ side opcode m of. all place side opcode m
    (signature_from tables place side opcode i m at of)))
    (Decides-by_place (λ place i. nat_eq place 18 || test.both_sides
    (λ side. list_all test.ends_no_argument (messages_of side i))) FixesOrNone decides_place tables)

pub decides_rules : (tables : List Interface) →
    Decides (test.keep_rules tables) (NamesAreDistinct tables × AreSmall tables × MakeFewObjects tables
    × UnnamedNewInBindAlone tables × NoAnyInRequests tables × DestroyingEventsAreRaceFree tables
    × SincesAreInRange tables × NamedInterfacesAreThere tables × ArgumentEndsInFixesAlone tables
    × ServerMakesRightly tables)
decides_rules tables =
    let a = test.names_are_distinct tables in
    let b = test.are_small tables in
    let c = test.make_few_objects tables in
    let d = test.unnamed_new_in_bind_alone tables in
    let e = test.no_any_in_requests tables in
    let f = test.destroying_events_are_race_free tables in
    let g = test.sinces_are_in_range tables in
    let h = test.named_interfaces_are_there tables in
    let k = test.argument_ends_in_fixes_alone tables in
    let l = test.server_makes_rightly tables in
    Decides-like (test.keep_rules tables) (λ r. (
      r.0.0.0.0.0.0.0.0.0,
      r.0.0.0.0.0.0.0.0.1,
      r.0.0.0.0.0.0.0.1,
      r.0.0.0.0.0.0.1,
      r.0.0.0.0.0.1,
      r.0.0.0.0.1,
      r.0.0.0.1,
      r.0.0.1,
      r.0.1,
      r.1,
    ))
    (λ r. (((((((((r.0, r.1), r.2), r.3), r.4), r.5), r.6), r.7), r.8), r.9))
    (Decides-and (a && b && c && d && e && f && g && h && k) l
    (Decides-and (a && b && c && d && e && f && g && h) k
    (Decides-and (a && b && c && d && e && f && g) h
    (Decides-and (a && b && c && d && e && f) g
    (Decides-and (a && b && c && d && e) f
    (Decides-and (a && b && c && d) e
    (Decides-and (a && b && c) d
    (Decides-and (a && b) c (Decides-and a b (decides_names tables) (decides_small tables))
    (decides_few_objects tables)) (decides_bind tables)) (decides_no_any tables)) (decides_race_free tables))
    (decides_sinces tables))
    (decides_interfaces tables)) (decides_argument tables)) (decides_server tables))

pub valid_tested : (tables : List Interface) → Valid tables → HasFixedFour tables × (test.keep_rules tables ≡ true)
valid_tested tables v = (
  v.fixed_four,
  (decides_rules tables).1 (
    v.names_distinct,
    v.small,
    v.few_objects_made,
    v.unnamed_new_in_bind_alone,
    v.no_any_in_requests,
    v.race_free,
    v.sinces_in_range,
    v.interfaces_there,
    v.argument_ends,
    v.server_makes,
  ),
)

pub tested_valid : (tables : List Interface) → HasFixedFour tables × (test.keep_rules tables ≡ true) → Valid tables
tested_valid tables h =
    let r = (decides_rules tables).0 h.1 in
    record {
      names_distinct = r.0;
      fixed_four = h.0;
      small = r.1;
      few_objects_made = r.2;
      unnamed_new_in_bind_alone = r.3;
      no_any_in_requests = r.4;
      race_free = r.5;
      sinces_in_range =
          r.6;
      interfaces_there = r.7;
      argument_ends = r.8;
      server_makes = r.9;
    }
