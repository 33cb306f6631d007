-- Which line of a text that extends interfaces breaks which rule of valid tables, in the words of
-- the rules, and what it means that a line is the first that breaks one.
use Rattle.std.specs.Prelude.{◌≡◌, ℕ, ◌+◌, ◌<◌, ◌≤◌, List, ◌∷◌, ◌++◌, length, codes, Bool, true}
use Rattle.std.specs.Prelude.{slice_get, Some, None}
use Rattle.std.specs.List.{Contains}
use Rattle.wl_wire.specs.declared.kind.Kind.TheVariants as kinds
use Rattle.wl_wire.specs.declared.kind.Iface.{Iface}
use Rattle.wl_rules.specs.declared.side.Side.{Side}
use Rattle.wl_rules.specs.declared.side.Side.TheVariants.{Request, Event}
use Rattle.wl_rules.specs.Tables.{MessageSignature, Interface, interface_at, message_of}
use Rattle.wl_rules.specs.Tables.{messages_of, signature_at, has_destroying_event, destroys_target}
use Rattle.wl_text.specs.Text.{WrittenMessage, WrittenInterface}
use Rattle.wl_rules.specs.Broken.{Broken}
use Rattle.wl_rules.specs.FirstBroken.{written_of, MessageBreaks, BreaksRule}
use Rattle.wl_rules.specs.Extended.{Gathered, first_named, gathered, grown, extended}

-- the name is that of one of the four fixed interfaces
pub data IsFixedName (name : List ℕ) : Type 0 where
  names_display : name ≡ codes "wl_display" → IsFixedName name
  names_registry : name ≡ codes "wl_registry" → IsFixedName name
  names_callback : name ≡ codes "wl_callback" → IsFixedName name
  names_fixes : name ≡ codes "wl_fixes" → IsFixedName name

-- The line is that of an extension. The lines before it say `g`.
pub record DeclaresExtension (tables : List Interface) (written : List WrittenInterface)
    (line : ℕ) (g : Gathered) (own : WrittenInterface) : Type 0 where
  pub before : List WrittenInterface
  pub after : List WrittenInterface
  pub whole : written ≡ before ++ own ∷ after
  pub extends : own.extends ≡ true
  pub below : g ≡ gathered tables before
  pub line_is : line ≡ own.line

-- The extension breaks the rule on its own, after lines that say `g`.
pub data ExtensionBreaks (g : Gathered) (own : WrittenInterface) (rule : ℕ) : Type 0 where
  -- V2: it extends one of the four fixed interfaces
  extends_fixed : rule ≡ 2 → IsFixedName own.name → ExtensionBreaks g own rule
  -- V8: its version is lower than the one that the interface then has
  lowers_version : (i : WrittenInterface) → rule ≡ 8
      → first_named own.name (g.added ++ g.declared) ≡ Some i → own.version < i.version
      → ExtensionBreaks g own rule
  -- V9: no interface above it has this name
  extends_unknown : rule ≡ 9 → first_named own.name (g.added ++ g.declared) ≡ None
      → ExtensionBreaks g own rule

-- The line adds the message with this opcode on one side to the interface at this index of the
-- tables. The interface is `old` in the tables and `i` in the extended tables.
pub record AddsMessage (tables : List Interface) (written : List WrittenInterface)
    (line place : ℕ) (old i : Interface) (side : Side) (opcode : ℕ) (m : MessageSignature)
    : Type 0 where
  pub index : ℕ
  pub more : WrittenInterface
  pub own : WrittenMessage
  pub there : interface_at tables place ≡ Some old
  pub said : slice_get (gathered tables written).added place ≡ Some more
  pub of : slice_get (written_of side more) index ≡ Some own
  pub line_is : line ≡ own.line
  pub opcode_is : opcode ≡ length (messages_of side old) + index
  pub stands : interface_at (extended tables written) place ≡ Some i
  pub listed : message_of side opcode i ≡ Some m

-- Added to the interface `old` at this index of the tables, the message breaks the rule because of
-- what the tables already have.
pub data Clashes (tables : List Interface) (place : ℕ) (old : Interface) (side : Side)
    (m : MessageSignature) (rule : ℕ) : Type 0 where
  -- V7: an event of the interface destroys its target, and this is a request
  request_of_ended : rule ≡ 7 → side ≡ Request → has_destroying_event old ≡ true
      → Clashes tables place old side m rule
  -- V7: it is an event that destroys its target, and a request has an argument of its interface
  ends_argument : (p opcode : ℕ) (request : MessageSignature) (null : Bool) (iface : Iface)
      → rule ≡ 7 → side ≡ Event → destroys_target m.destroys ≡ true
      → signature_at tables p Request opcode ≡ Some request
      → Contains request.kinds (kinds.Obj null (Some iface)) → iface.0 ≡ place
      → Clashes tables place old side m rule
  -- V11: it is an event that destroys its target, and an event makes an object of its interface
  ends_server_object : (p opcode : ℕ) (event : MessageSignature) (iface : Iface) → rule ≡ 11
      → side ≡ Event → destroys_target m.destroys ≡ true
      → signature_at tables p Event opcode ≡ Some event
      → Contains event.kinds (kinds.NewByServer iface) → iface.0 ≡ place
      → Clashes tables place old side m rule

-- The line of a text breaks the rule: it is the line of an interface of the text or of one of its
-- messages, of a message added to an interface of the tables, or of an extension.
pub data LineBreaks (tables : List Interface) (written : List WrittenInterface) (line rule : ℕ)
    : Type 0 where
  by_declared : BreaksRule (grown tables (gathered tables written))
      (gathered tables written).declared line rule → LineBreaks tables written line rule
  by_added : (place : ℕ) (old i : Interface) (side : Side) (opcode : ℕ) (m : MessageSignature)
      → AddsMessage tables written line place old i side opcode m
      → MessageBreaks (extended tables written) i side opcode m rule
      → LineBreaks tables written line rule
  by_clash : (place : ℕ) (old i : Interface) (side : Side) (opcode : ℕ) (m : MessageSignature)
      → AddsMessage tables written line place old i side opcode m
      → Clashes tables place old side m rule → LineBreaks tables written line rule
  by_extension : (g : Gathered) (own : WrittenInterface)
      → DeclaresExtension tables written line g own → ExtensionBreaks g own rule
      → LineBreaks tables written line rule

-- No extension of the text breaks a rule on its own.
abbrev pub ExtendsRightly : List Interface → List WrittenInterface → Type 0
ExtendsRightly tables written =
    (line rule : ℕ) (g : Gathered) (own : WrittenInterface)
    → DeclaresExtension tables written line g own → ¬ ExtensionBreaks g own rule

-- The line breaks the rule and no lower one, and no earlier line breaks any.
pub record IsFirstBrokenLine (tables : List Interface) (written : List WrittenInterface)
    (broken : Broken)
    : Type 0 where
  pub breaks : LineBreaks tables written broken.line broken.rule
  pub least : (rule : ℕ) → LineBreaks tables written broken.line rule → broken.rule ≤ rule
  pub first : (line rule : ℕ) → LineBreaks tables written line rule → broken.line ≤ line
