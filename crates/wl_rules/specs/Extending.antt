-- Which lines of a text that extends interfaces break a rule of valid tables.
use Rattle.std.specs.Prelude.{ℕ, ◌+◌, ◌&&◌, ◌||◌, nat_lt, nat_eq, List, [], ◌∷◌, ◌++◌, length}
use Rattle.std.specs.Prelude.{map, codes, bytes_eq, Bool, false, Option, Some, None}
use Rattle.std.specs.Prelude.{if◌then◌else◌}
use Rattle.std.specs.List.{list_any}
use Rattle.wl_wire.specs.declared.kind.Kind.{Kind}
use Rattle.wl_wire.specs.declared.kind.Kind.TheVariants as kinds
use Rattle.wl_rules.specs.declared.side.Side.{Side}
use Rattle.wl_rules.specs.declared.side.Side.TheVariants.{Request, Event}
use Rattle.wl_rules.specs.Tables.{MessageSignature, Interface, messages_of, has_destroying_event}
use Rattle.wl_text.specs.Text.{WrittenMessage, WrittenInterface}
use Rattle.wl_rules.specs.Joined.{all_names, first_place}
use Rattle.wl_rules.specs.Extended.{Gathered, first_named, one_more, gathered, grown}
use Rattle.wl_rules.specs.Broken.{Broken, broken_at, earlier, message_rule, messages_broken}
use Rattle.wl_rules.specs.Broken.{ended_of, first_broken}
use Rattle.wl_rules.specs.FirstBroken.{written_of}

-- the name of one of the four fixed interfaces
abbrev pub is_fixed_name : List ℕ → Bool
is_fixed_name name =
    bytes_eq name (codes "wl_display") || bytes_eq name (codes "wl_registry")
    || bytes_eq name (codes "wl_callback") || bytes_eq name (codes "wl_fixes")

-- the lowest rule that an extension of this interface to this version breaks on its own
abbrev pub version_rule : ℕ → Option WrittenInterface → Option ℕ
version_rule version None = Some 9
version_rule version (Some i) = if nat_lt version i.version then Some 8 else None

-- the lowest rule that the line of an extension breaks, given what the lines before it say
abbrev pub extend_rule : Gathered → WrittenInterface → Option ℕ
extend_rule g next =
    if is_fixed_name next.name then Some 2
    else version_rule next.version (first_named next.name (g.added ++ g.declared))

-- this line, if it is an extension and breaks a rule
abbrev pub extension_broken : Gathered → WrittenInterface → Option Broken
extension_broken g next =
    if next.extends then broken_at next.line (extend_rule g next) else None

-- the first of these lines that is an extension and breaks a rule, given what the lines before them
-- say
abbrev pub extensions_broken : Gathered → List WrittenInterface → Option Broken
extensions_broken g [] = None
extensions_broken g (next ∷ more) =
    earlier (extension_broken g next) (extensions_broken (one_more g next) more)

-- whether an argument is an object of the interface at this index
abbrev pub is_object_of : ℕ → Kind → Bool
is_object_of place (kinds.Obj null (Some iface)) = nat_eq iface.0 place
is_object_of place _ = false

-- whether an argument is a new object of the server of the interface at this index
abbrev pub is_server_object_of : ℕ → Kind → Bool
is_server_object_of place (kinds.NewByServer iface) = nat_eq iface.0 place
is_server_object_of place _ = false

-- whether a message of this side has such an argument
abbrev pub has_argument : (Kind → Bool) → List Interface → Side → Bool
has_argument test tables side =
    list_any (λ i. list_any (λ m. list_any test m.kinds) (messages_of side i)) tables

-- The lowest rule that an added message breaks because of what the tables already have. A request
-- breaks one if an event of its interface destroys its target. An event that destroys its target
-- breaks one if a request has an argument of its interface, or an event has a new object of it.
abbrev pub clash_rule : List Interface → ℕ → Interface → Side → WrittenMessage → Option ℕ
clash_rule tables place i Request m = if has_destroying_event i then Some 7 else None
clash_rule tables place i Event m =
    if m.destroys && has_argument (is_object_of place) tables Request then Some 7
    else (if m.destroys && has_argument (is_server_object_of place) tables Event then Some 11
    else None)

-- the lower of two rules
abbrev pub lesser : Option ℕ → Option ℕ → Option ℕ
lesser None other = other
lesser (Some rule) None = Some rule
lesser (Some rule) (Some other) = if nat_lt other rule then Some other else Some rule

-- a message of the tables by its name
abbrev pub named_message : MessageSignature → WrittenMessage
named_message m = record { line = 0; name = m.name; since = m.since; kinds = []; destroys = false }

-- what is added to an interface, with the messages that the interface already has before it
abbrev pub behind_own_messages : Interface → WrittenInterface → WrittenInterface
behind_own_messages i more = record more {
  requests = map named_message i.requests ++ more.requests;
  events = map named_message i.events ++ more.events;
}

-- the lowest rule that an added message breaks
abbrev pub added_rule : List Interface → (List ℕ → Option ℕ) → List Bool → ℕ → Interface
    → WrittenInterface → Side → ℕ → WrittenMessage → Option ℕ
added_rule tables place ended here i more side opcode m =
    let all = behind_own_messages i more in
    lesser (message_rule place ended all side
    (first_place (map (λ n. n.name) (written_of side all))) opcode m)
    (clash_rule tables here i side m)

-- the first line that adds a message of this side to an interface and breaks a rule
abbrev pub added_side_broken : List Interface → (List ℕ → Option ℕ) → List Bool → ℕ → Interface
    → WrittenInterface → Side → Option Broken
added_side_broken tables place ended here i more side =
    messages_broken (added_rule tables place ended here i more side) (length (messages_of side i))
    (written_of side more)

-- the same for all interfaces; the first has this index
abbrev pub added_broken : List Interface → (List ℕ → Option ℕ) → List Bool → ℕ → List Interface
    → List WrittenInterface → Option Broken
added_broken tables place ended here [] added = None
added_broken tables place ended here (i ∷ rest) [] = None
added_broken tables place ended here (i ∷ rest) (more ∷ added) =
    earlier (earlier (added_side_broken tables place ended here i more Request)
    (added_side_broken tables place ended here i more Event))
    (added_broken tables place ended (here + 1) rest added)

-- the first line that breaks a rule, among all lines but those of extensions
abbrev pub messages_or_declared_broken : List Interface → Gathered → Option Broken
messages_or_declared_broken tables g =
    let all = grown tables g in
    earlier (added_broken tables (first_place (all_names all g.declared))
    (ended_of all g.declared) 0 tables g.added) (first_broken all g.declared)

-- the first line of a text that breaks a rule when the text is appended to these tables, and the
-- lowest rule that this line breaks
abbrev pub first_line_broken : List Interface → List WrittenInterface → Option Broken
first_line_broken tables written =
    earlier (extensions_broken (gathered tables []) written)
    (messages_or_declared_broken tables (gathered tables written))
