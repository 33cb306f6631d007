-- The eleven rules that make signature tables valid.
use Rattle.std.specs.Prelude.{◌≡◌, ◌≢◌, ℕ, ◌≤◌, ◌<◌, ◌⊎◌, List, [], length, Bool, true, false, Some}
use Rattle.std.specs.Prelude.{None}
use Rattle.std.specs.List.{All}
use Rattle.wl_wire.specs.declared.kind.Kind.TheVariants as kinds
use Rattle.wl_wire.specs.declared.kind.Iface.{Iface}
use Rattle.wl_rules.specs.declared.side.Side.{Side}
use Rattle.wl_rules.specs.declared.side.Side.TheVariants.{Request, Event}
use Rattle.wl_rules.specs.Tables.{MessageSignature, Interface, interface_at, messages_of}
use Rattle.wl_rules.specs.Tables.{signature_at, new_objects, has_destroying_event, named_interface}
use Rattle.wl_rules.specs.Tables.{destroys_argument, server_objects}
use Rattle.wl_rules.specs.Tables.{max_name_len, max_interfaces, max_messages, max_args}
use Rattle.wl_rules.specs.Fixed.{wl_display, wl_registry, wl_callback, wl_fixes, display, registry}
use Rattle.wl_rules.specs.Fixed.{callback, fixes}

-- P holds for each interface
abbrev pub EachInterface : List Interface → (Interface → Type 0) → Type 0
EachInterface tables P = (place : ℕ) (i : Interface) → interface_at tables place ≡ Some i → P i

-- P holds for each message of the side
abbrev pub EachMessage : List Interface → Side → (MessageSignature → Type 0) → Type 0
EachMessage tables side P =
    (place opcode : ℕ) (m : MessageSignature) → signature_at tables place side opcode ≡ Some m → P m

-- a byte of a name: a to z, 0 to 9 or _
abbrev pub IsNameByte : ℕ → Type 0
IsNameByte b = ((97 ≤ b) × (b ≤ 122)) ⊎ ((48 ≤ b) × (b ≤ 57)) ⊎ (b ≡ 95)

-- a name: 1 to 256 such bytes
pub record IsTableName (name : List ℕ) : Type 0 where
  pub some : 1 ≤ length name
  pub few : length name ≤ max_name_len
  pub bytes : All IsNameByte name

-- V1: interfaces and messages have names; no two interfaces have the same name, and no two messages
-- on one side of an interface
pub record NamesAreDistinct (tables : List Interface) : Type 0 where
  pub interfaces_named : EachInterface tables (λ i. IsTableName i.name)
  pub interfaces_distinct : (p q : ℕ) (i j : Interface)
      → interface_at tables p ≡ Some i → interface_at tables q ≡ Some j
      → i.name ≡ j.name → p ≡ q
  pub messages_named : (side : Side) → EachMessage tables side (λ m. IsTableName m.name)
  pub messages_distinct : (place : ℕ) (side : Side) (o p : ℕ) (m n : MessageSignature)
      → signature_at tables place side o ≡ Some m → signature_at tables place side p ≡ Some n
      → m.name ≡ n.name → o ≡ p

-- V2: wl_display, wl_registry and wl_callback come first, and wl_fixes has index 18, each as it is
-- fixed; so these indices always mean these interfaces
pub record HasFixedFour (tables : List Interface) : Type 0 where
  pub display : interface_at tables 0 ≡ Some wl_display
  pub registry : interface_at tables 1 ≡ Some wl_registry
  pub callback : interface_at tables 2 ≡ Some wl_callback
  pub fixes : interface_at tables 18 ≡ Some wl_fixes

-- V3: at most 1,024 interfaces, 256 requests and 256 events in each, 20 arguments in each message
pub record AreSmall (tables : List Interface) : Type 0 where
  pub interfaces : length tables ≤ max_interfaces
  pub messages : (side : Side)
      → EachInterface tables (λ i. length (messages_of side i) ≤ max_messages)
  pub arguments : (side : Side) → EachMessage tables side (λ m. length m.kinds ≤ max_args)

-- V4: no event has a new object of the client, and no request more than one
pub record MakeFewObjects (tables : List Interface) : Type 0 where
  pub events : EachMessage tables Event (λ m. new_objects m.kinds ≡ [])
  pub requests : EachMessage tables Request (λ m. length (new_objects m.kinds) ≤ 1)

-- wl_registry.bind, by its index
pub record IsBind (place : ℕ) (side : Side) (opcode : ℕ) : Type 0 where
  pub registry : place ≡ 1
  pub request : side ≡ Request
  pub bind : opcode ≡ 0

-- V5: only wl_registry.bind has a new object without an interface
abbrev pub UnnamedNewInBindAlone : List Interface → Type 0
UnnamedNewInBindAlone tables =
    (place : ℕ) (side : Side) (opcode : ℕ) (m : MessageSignature)
    → signature_at tables place side opcode ≡ Some m
    → IsBind place side opcode ⊎ All (λ k. k ≢ kinds.New None) m.kinds

-- V6: no request has an object argument of any interface
abbrev pub NoAnyInRequests : List Interface → Type 0
NoAnyInRequests tables =
    EachMessage tables Request (λ m. All (λ k. (null : Bool) → k ≢ kinds.Obj null None) m.kinds)

-- V7: an interface with a destroying event has no requests, and no request has an object argument
-- of it. Otherwise an honest request in flight could reach an object that an event has destroyed.
pub record DestroyingEventsAreRaceFree (tables : List Interface) : Type 0 where
  pub no_requests : EachInterface tables (λ i. has_destroying_event i ≡ true → i.requests ≡ [])
  pub no_arguments : EachMessage tables Request (λ m.
      All (λ k. (null : Bool) (iface : Iface) (i : Interface)
      → k ≡ kinds.Obj null (Some iface) → interface_at tables iface.0 ≡ Some i
      → has_destroying_event i ≡ false) m.kinds)

-- V8: the version of each interface is at least 1, and the since number of each message is from 1
-- to the version of its interface
pub record SincesAreInRange (tables : List Interface) : Type 0 where
  pub versions : EachInterface tables (λ i. 1 ≤ i.version)
  pub from_one : (side : Side) → EachMessage tables side (λ m. 1 ≤ m.since)
  pub to_version : (place : ℕ) (side : Side) (opcode : ℕ) (i : Interface) (m : MessageSignature)
      → interface_at tables place ≡ Some i → signature_at tables place side opcode ≡ Some m
      → m.since ≤ i.version

-- V9: each interface that an argument names exists
abbrev pub NamedInterfacesAreThere : List Interface → Type 0
NamedInterfacesAreThere tables =
    (side : Side) → EachMessage tables side (λ m.
    All (λ k. (iface : Iface) → named_interface k ≡ Some iface → iface.0 < length tables) m.kinds)

-- V10: only wl_fixes has a message that destroys an argument: destroy_registry, which destroys the
-- registry that its only argument names
abbrev pub ArgumentEndsInFixesAlone : List Interface → Type 0
ArgumentEndsInFixesAlone tables =
    (place : ℕ) (side : Side) (opcode : ℕ) (m : MessageSignature)
    → signature_at tables place side opcode ≡ Some m
    → (place ≡ 18) ⊎ (destroys_argument m.destroys ≡ false)

-- the index is that of one of the four
abbrev pub IsFixedPlace : ℕ → Type 0
IsFixedPlace place =
    (place ≡ display.0) ⊎ (place ≡ registry.0) ⊎ (place ≡ callback.0) ⊎ (place ≡ fixes.0)

-- V11: only events have new objects of the server, at most one each; the interface of that object
-- has no destroying event, and is none of the four
pub record ServerMakesRightly (tables : List Interface) : Type 0 where
  pub requests : EachMessage tables Request (λ m. server_objects m.kinds ≡ [])
  pub events : EachMessage tables Event (λ m. length (server_objects m.kinds) ≤ 1)
  pub interfaces : (side : Side) → EachMessage tables side (λ m.
      All (λ k. (iface : Iface) (i : Interface)
      → k ≡ kinds.NewByServer iface → interface_at tables iface.0 ≡ Some i
      → (has_destroying_event i ≡ false) × ¬ IsFixedPlace iface.0) m.kinds)

-- Valid tables: they keep all rules.
pub record Valid (tables : List Interface) : Type 0 where
  pub names_distinct : NamesAreDistinct tables
  pub fixed_four : HasFixedFour tables
  pub small : AreSmall tables
  pub few_objects_made : MakeFewObjects tables
  pub unnamed_new_in_bind_alone : UnnamedNewInBindAlone tables
  pub no_any_in_requests : NoAnyInRequests tables
  pub race_free : DestroyingEventsAreRaceFree tables
  pub sinces_in_range : SincesAreInRange tables
  pub interfaces_there : NamedInterfacesAreThere tables
  pub argument_ends : ArgumentEndsInFixesAlone tables
  pub server_makes : ServerMakesRightly tables
