-- Which line of a text's own interfaces breaks which rule of valid tables, in the words of the
-- rules.
use Rattle.std.specs.Prelude.{◌≡◌, ℕ, ◌+◌, ◌<◌, ◌≤◌, List, length, Bool, true, slice_get, Some}
use Rattle.std.specs.Prelude.{None}
use Rattle.std.specs.List.{Contains}
use Rattle.wl_wire.specs.declared.kind.Kind.{Kind}
use Rattle.wl_wire.specs.declared.kind.Kind.TheVariants as kinds
use Rattle.wl_wire.specs.declared.kind.Iface.{Iface}
use Rattle.wl_rules.specs.declared.side.Side.{Side}
use Rattle.wl_rules.specs.declared.side.Side.TheVariants.{Request, Event}
use Rattle.wl_rules.specs.Tables.{MessageSignature, Interface, interface_at, message_of}
use Rattle.wl_rules.specs.Tables.{new_objects, has_destroying_event, destroys_target}
use Rattle.wl_rules.specs.Tables.{named_interface, server_objects, max_interfaces, max_messages}
use Rattle.wl_rules.specs.Tables.{max_args}
use Rattle.wl_rules.specs.Valid.{IsTableName, IsFixedPlace}
use Rattle.wl_text.specs.Text.{WrittenMessage, WrittenInterface}
use Rattle.wl_rules.specs.Joined.{joined}

-- the messages of a side
abbrev pub written_of : Side → WrittenInterface → List WrittenMessage
written_of Request i = i.requests
written_of Event i = i.events

-- The line declares the interface that has this index after the text's interfaces are appended to
-- these tables.
pub record DeclaresInterface (tables : List Interface) (written : List WrittenInterface)
    (line place : ℕ) (i : Interface) : Type 0 where
  pub index : ℕ
  pub own : WrittenInterface
  pub at : slice_get written index ≡ Some own
  pub line_is : line ≡ own.line
  pub place_is : place ≡ length tables + index
  pub stands : interface_at (joined tables written) place ≡ Some i

-- The line declares the message with this opcode on one side of the interface at this index.
pub record DeclaresMessage (tables : List Interface) (written : List WrittenInterface)
    (line place : ℕ) (i : Interface) (side : Side) (opcode : ℕ) (m : MessageSignature) : Type 0
  where
    pub index : ℕ
    pub owner : WrittenInterface
    pub own : WrittenMessage
    pub at : slice_get written index ≡ Some owner
    pub of : slice_get (written_of side owner) opcode ≡ Some own
    pub line_is : line ≡ own.line
    pub place_is : place ≡ length tables + index
    pub stands : interface_at (joined tables written) place ≡ Some i
    pub listed : message_of side opcode i ≡ Some m

-- The interface at this index of all tables breaks the rule on its own.
pub data InterfaceBreaks (all : List Interface) (place : ℕ) (i : Interface) (rule : ℕ)
    : Type 0 where
  -- V1: its name is not valid, or that of an earlier interface
  interface_misnamed : rule ≡ 1 → ¬ IsTableName i.name → InterfaceBreaks all place i rule
  interface_named_again : (earlier : ℕ) (j : Interface) → rule ≡ 1 → earlier < place
      → interface_at all earlier ≡ Some j → j.name ≡ i.name → InterfaceBreaks all place i rule
  -- V3: 1,024 interfaces come before it
  interface_beyond : rule ≡ 3 → max_interfaces ≤ place → InterfaceBreaks all place i rule
  -- V8
  version_below_one : rule ≡ 8 → i.version < 1 → InterfaceBreaks all place i rule

-- The message with this opcode on one side of this interface, among all tables, breaks the rule.
pub data MessageBreaks (all : List Interface) (i : Interface) (side : Side) (opcode : ℕ)
    (m : MessageSignature) (rule : ℕ) : Type 0 where
  -- V1: its name is not valid, or that of an earlier message of the side
  message_misnamed : rule ≡ 1 → ¬ IsTableName m.name → MessageBreaks all i side opcode m rule
  message_named_again : (earlier : ℕ) (n : MessageSignature) → rule ≡ 1 → earlier < opcode
      → message_of side earlier i ≡ Some n → n.name ≡ m.name
      → MessageBreaks all i side opcode m rule
  -- V3: 256 messages of the side come before it, or it has more than 20 arguments
  message_beyond : rule ≡ 3 → max_messages ≤ opcode → MessageBreaks all i side opcode m rule
  too_many_arguments : rule ≡ 3 → max_args < length m.kinds → MessageBreaks all i side opcode m rule
  -- V4: an event has a new object of the client, or a request has more than one
  event_makes : rule ≡ 4 → side ≡ Event → 0 < length (new_objects m.kinds)
      → MessageBreaks all i side opcode m rule
  request_makes_two : rule ≡ 4 → side ≡ Request → 1 < length (new_objects m.kinds)
      → MessageBreaks all i side opcode m rule
  -- V5: an argument is a new object without an interface
  new_without_interface : rule ≡ 5 → Contains m.kinds (kinds.New None)
      → MessageBreaks all i side opcode m rule
  -- V6: an argument of a request is an object of any interface
  object_of_any : (null : Bool) → rule ≡ 6 → side ≡ Request
      → Contains m.kinds (kinds.Obj null None) → MessageBreaks all i side opcode m rule
  -- V7: an event destroys its target, and its interface has a request; or an argument of a request
  -- is an object of an interface with a destroying event
  event_destroys : rule ≡ 7 → side ≡ Event → destroys_target m.destroys ≡ true
      → 0 < length i.requests → MessageBreaks all i side opcode m rule
  object_of_ended : (null : Bool) (iface : Iface) (j : Interface) → rule ≡ 7 → side ≡ Request
      → Contains m.kinds (kinds.Obj null (Some iface)) → interface_at all iface.0 ≡ Some j
      → has_destroying_event j ≡ true → MessageBreaks all i side opcode m rule
  -- V8
  since_below_one : rule ≡ 8 → m.since < 1 → MessageBreaks all i side opcode m rule
  since_above_version : rule ≡ 8 → i.version < m.since → MessageBreaks all i side opcode m rule
  -- V9: an argument names an interface that does not exist
  interface_missing : (kind : Kind) (iface : Iface) → rule ≡ 9 → Contains m.kinds kind
      → named_interface kind ≡ Some iface → length all ≤ iface.0
      → MessageBreaks all i side opcode m rule
  -- V11: a request has a new object of the server, or an event has more than one; or the interface
  -- of one has a destroying event, or is one of the four fixed ones
  request_has_server_object : rule ≡ 11 → side ≡ Request → 0 < length (server_objects m.kinds)
      → MessageBreaks all i side opcode m rule
  event_has_two_server_objects : rule ≡ 11 → side ≡ Event → 1 < length (server_objects m.kinds)
      → MessageBreaks all i side opcode m rule
  server_object_of_ended : (iface : Iface) (j : Interface) → rule ≡ 11
      → Contains m.kinds (kinds.NewByServer iface) → interface_at all iface.0 ≡ Some j
      → has_destroying_event j ≡ true → MessageBreaks all i side opcode m rule
  server_object_of_fixed : (iface : Iface) (j : Interface) → rule ≡ 11
      → Contains m.kinds (kinds.NewByServer iface) → interface_at all iface.0 ≡ Some j
      → IsFixedPlace iface.0 → MessageBreaks all i side opcode m rule

-- The line declares an interface or a message that breaks the rule in the tables with the text's
-- interfaces appended.
pub data BreaksRule (tables : List Interface) (written : List WrittenInterface) (line rule : ℕ)
    : Type 0 where
  by_interface : (place : ℕ) (i : Interface) → DeclaresInterface tables written line place i
      → InterfaceBreaks (joined tables written) place i rule → BreaksRule tables written line rule
  by_message : (place : ℕ) (i : Interface) (side : Side) (opcode : ℕ) (m : MessageSignature)
      → DeclaresMessage tables written line place i side opcode m
      → MessageBreaks (joined tables written) i side opcode m rule
      → BreaksRule tables written line rule
