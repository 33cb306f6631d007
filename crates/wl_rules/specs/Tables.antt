-- Signature tables, apart from where they lie in memory.
use Rattle.std.specs.Prelude.{◌≡◌, ℕ, List, [], ◌∷◌, Bool, true, false, ◌&&◌, nat_le, slice_get}
use Rattle.std.specs.Prelude.{bytes_eq, count_by, position, Option, Some, None, option_map}
use Rattle.std.specs.Prelude.{option_and_then}
use Rattle.std.specs.List.{Contains, list_any}
use Rattle.wl_wire.specs.declared.kind.Kind.{Kind}
use Rattle.wl_wire.specs.declared.kind.Kind.TheVariants as kinds
use Rattle.wl_wire.specs.declared.kind.Iface.{Iface}
use Rattle.wl_rules.specs.declared.side.Destroys.{Destroys}
use Rattle.wl_rules.specs.declared.side.Destroys.TheVariants.{Nothing, Target, Arg}
use Rattle.wl_rules.specs.declared.side.Side.{Side}
use Rattle.wl_rules.specs.declared.side.Side.TheVariants.{Request, Event}

-- a request or an event: its name, the version of its interface that introduced it, the kinds of
-- its arguments, and what it destroys
pub record MessageSignature : Type 0 where
  pub name : List ℕ
  pub since : ℕ
  pub kinds : List Kind
  pub destroys : Destroys

-- an interface: its messages in order of opcode, from 0
pub record Interface : Type 0 where
  pub name : List ℕ
  pub version : ℕ
  pub requests : List MessageSignature
  pub events : List MessageSignature

-- the limits: bytes of a name, interfaces of tables, messages of an interface and side, arguments
-- of a message
abbrev pub max_name_len : ℕ
max_name_len = 256

abbrev pub max_interfaces : ℕ
max_interfaces = 1024

abbrev pub max_messages : ℕ
max_messages = 256

abbrev pub max_args : ℕ
max_args = 20

-- the interface at an index of the tables, if there is one
abbrev pub interface_at : List Interface → ℕ → Option Interface
interface_at tables place = slice_get tables place

-- an interface's messages of one side
abbrev pub messages_of : Side → Interface → List MessageSignature
messages_of Request i = i.requests
messages_of Event i = i.events

-- the message with an opcode on one side of an interface, if there is one
abbrev pub message_of : Side → ℕ → Interface → Option MessageSignature
message_of side opcode i = slice_get (messages_of side i) opcode

-- the message with an opcode on one side of the interface at an index, if there is one
abbrev pub signature_at : List Interface → ℕ → Side → ℕ → Option MessageSignature
signature_at tables place side opcode =
    option_and_then (message_of side opcode) (interface_at tables place)

-- the index of the first interface with this name, if there is one
abbrev pub place_of : List Interface → List ℕ → Option Iface
place_of tables name =
    option_map (λ place. record { 0 = place }) (position (λ i. bytes_eq i.name name) tables)

-- the interfaces of the arguments that are new objects of the client, in order; none for each to
-- which the signature gives none
abbrev pub new_objects : List Kind → List (Option Iface)
new_objects [] = []
new_objects (kinds.New iface ∷ more) = iface ∷ new_objects more
new_objects (_ ∷ more) = new_objects more

-- the interfaces of the arguments that are new objects of the server, in order
abbrev pub server_objects : List Kind → List Iface
server_objects [] = []
server_objects (kinds.NewByServer iface ∷ more) = iface ∷ server_objects more
server_objects (_ ∷ more) = server_objects more

-- the interfaces of all arguments that are new objects, in order; none for each to which the
-- signature gives none
abbrev pub made_objects : List Kind → List (Option Iface)
made_objects [] = []
made_objects (kinds.New iface ∷ more) = iface ∷ made_objects more
made_objects (kinds.NewByServer iface ∷ more) = Some iface ∷ made_objects more
made_objects (_ ∷ more) = made_objects more

abbrev pub first_element : {X : Type 0} → List X → Option X
first_element [] = None
first_element (x ∷ xs) = Some x

-- Whether a message makes an object, and of which interface: `Some None` if only the bytes give it.
-- In valid tables no message makes more than one.
abbrev pub makes : MessageSignature → Option (Option Iface)
makes m = first_element (made_objects m.kinds)

-- whether a message destroys its target
abbrev pub destroys_target : Destroys → Bool
destroys_target Nothing = false
destroys_target Target = true
destroys_target (Arg place) = false

-- whether a message destroys an object: its target, or one that an argument names
abbrev pub destroys_one : Destroys → Bool
destroys_one Nothing = false
destroys_one Target = true
destroys_one (Arg place) = true

-- whether a message destroys the object that an argument names
abbrev pub destroys_argument : Destroys → Bool
destroys_argument Nothing = false
destroys_argument Target = false
destroys_argument (Arg place) = true

-- whether an event of the interface destroys its target
abbrev pub has_destroying_event : Interface → Bool
has_destroying_event i = list_any (λ m. destroys_target m.destroys) i.events

-- whether a request of the interface destroys its target, if the target has this version
abbrev pub has_destroying_request : ℕ → Interface → Bool
has_destroying_request version i =
    list_any (λ m. destroys_target m.destroys && nat_le m.since version) i.requests

-- the interface in the signature of an argument, for an object or a new object that has one
abbrev pub named_interface : Kind → Option Iface
named_interface (kinds.Obj null iface) = iface
named_interface (kinds.New iface) = iface
named_interface (kinds.NewByServer iface) = Some iface
named_interface _ = None

-- whether an argument is a new object, of the client or of the server
abbrev pub is_new_object : Kind → Bool
is_new_object (kinds.New iface) = true
is_new_object (kinds.NewByServer iface) = true
is_new_object _ = false

-- whether a message has a new object
abbrev pub has_new_object : MessageSignature → Bool
has_new_object m = list_any is_new_object m.kinds

-- whether an argument is a new object of the server
abbrev pub is_by_server : Kind → Bool
is_by_server (kinds.NewByServer iface) = true
is_by_server _ = false

-- whether a message has a new object of the server
abbrev pub has_server_object : MessageSignature → Bool
has_server_object m = list_any is_by_server m.kinds

abbrev pub is_descriptor_kind : Kind → Bool
is_descriptor_kind kinds.Fd = true
is_descriptor_kind _ = false

-- how many tokens a message takes with arguments of these kinds
abbrev pub descriptors : List Kind → ℕ
descriptors ks = count_by is_descriptor_kind ks

-- Some event of the tables has a new object of the server.
pub record HasServerObjects (tables : List Interface) : Type 0 where
  pub place : ℕ
  pub opcode : ℕ
  pub event : MessageSignature
  pub iface : Iface
  pub at : signature_at tables place Event opcode ≡ Some event
  pub has : Contains event.kinds (kinds.NewByServer iface)
