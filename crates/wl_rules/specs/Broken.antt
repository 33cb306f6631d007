-- Which rules of valid tables the lines of a text break.
use Rattle.std.specs.Prelude.{ℕ, ◌+◌, ◌==◌, ◌&&◌, ◌||◌, not, nat_le, nat_lt, List, [], ◌∷◌, ◌++◌}
use Rattle.std.specs.Prelude.{length, map, Bool, true, false, slice_get, Option, Some, None}
use Rattle.std.specs.Prelude.{option_map, if◌then◌else◌, is_some}
use Rattle.std.specs.Option.{option_map_or}
use Rattle.std.specs.List.{list_all, list_any, count_by}
use Rattle.wl_rules.specs.declared.side.Side.{Side}
use Rattle.wl_rules.specs.declared.side.Side.TheVariants.{Request, Event}
use Rattle.wl_rules.specs.Tables.{Interface, has_destroying_event, max_interfaces, max_messages}
use Rattle.wl_rules.specs.Tables.{max_args}
use Rattle.wl_rules.specs.Rules.{is_name, is_empty, is_fixed_place}
use Rattle.wl_text.specs.declared.written.BareKind.{BareKind}
use Rattle.wl_text.specs.declared.written.BareKind.TheVariants as bare
use Rattle.wl_text.specs.Text.{WrittenKind, WrittenMessage, WrittenInterface}
use Rattle.wl_text.specs.Text.{needs_interface, takes_interface}
use Rattle.wl_rules.specs.Joined.{all_names, first_place}

-- a line that breaks a rule, and the lowest rule that it breaks
pub record Broken : Type 0 where
  pub line : ℕ
  pub rule : ℕ

-- this is the first index of the name
abbrev pub is_first : (List ℕ → Option ℕ) → List ℕ → ℕ → Bool
is_first place name here = option_map_or (λ first. first == here) (place name) false

-- kinds

abbrev pub is_new : BareKind → Bool
is_new bare.New = true
is_new _ = false

abbrev pub makes_object : WrittenKind → Bool
makes_object k = is_new k.kind

abbrev pub is_made_by_server : BareKind → Bool
is_made_by_server bare.NewByServer = true
is_made_by_server _ = false

abbrev pub makes_server_object : WrittenKind → Bool
makes_server_object k = is_made_by_server k.kind

abbrev pub is_object : BareKind → Bool
is_object (bare.Obj null) = true
is_object _ = false

-- a new object without an interface
abbrev pub makes_unnamed : WrittenKind → Bool
makes_unnamed k = makes_object k && not (is_some k.iface)

-- an object of any interface
abbrev pub takes_any : WrittenKind → Bool
takes_any k = is_object k.kind && not (is_some k.iface)

-- whether the interface at an index has a destroying event; the list has a flag for each interface
abbrev pub is_ended : List Bool → Option ℕ → Bool
is_ended ended None = false
is_ended ended (Some place) = option_map_or (λ b. b) (slice_get ended place) false

-- an object of an interface with a destroying event
abbrev pub takes_ended : (List ℕ → Option ℕ) → List Bool → WrittenKind → Bool
takes_ended place ended k =
    is_object k.kind && option_map_or (λ name. is_ended ended (place name)) k.iface false

-- an interface that does not exist, or no name although one is required
abbrev pub names_missing : (List ℕ → Option ℕ) → WrittenKind → Bool
names_missing place k =
    takes_interface k.kind
    && option_map_or (λ name. not (is_some (place name))) k.iface (needs_interface k.kind)

-- whether the server must not make objects of the interface at an index; the list says which
-- interfaces have a destroying event
abbrev pub is_forbidden : List Bool → Option ℕ → Bool
is_forbidden ended None = false
is_forbidden ended (Some place) = is_fixed_place place || is_ended ended (Some place)

-- a new object of the server, of an interface whose objects it must not make
abbrev pub makes_forbidden : (List ℕ → Option ℕ) → List Bool → WrittenKind → Bool
makes_forbidden place ended k =
    is_made_by_server k.kind
    && option_map_or (λ name. is_forbidden ended (place name)) k.iface false

-- rules for one line

abbrev pub interface_rule : (List ℕ → Option ℕ) → ℕ → WrittenInterface → Option ℕ
interface_rule place here i =
    if not (is_name i.name && is_first place i.name here) then Some 1
    else (if not (nat_lt here max_interfaces) then Some 3
    else (if not (nat_le 1 i.version) then Some 8
    else None))

-- how many new objects of the client a message may have
abbrev pub most_new : Side → ℕ
most_new Request = 1
most_new Event = 0

-- how many new objects of the server a message may have
abbrev pub most_by_server : Side → ℕ
most_by_server Request = 0
most_by_server Event = 1

-- V6 holds
abbrev pub names_objects : Side → WrittenMessage → Bool
names_objects Request m = list_all (λ k. not (takes_any k)) m.kinds
names_objects Event m = true

-- V7 holds
abbrev pub is_race_free : (List ℕ → Option ℕ) → List Bool → WrittenInterface → Side
    → WrittenMessage → Bool
is_race_free place ended i Request m = list_all (λ k. not (takes_ended place ended k)) m.kinds
is_race_free place ended i Event m = not m.destroys || is_empty i.requests

-- the lowest rule from V6 on that a message of the interface breaks
abbrev pub later_rule : (List ℕ → Option ℕ) → List Bool → WrittenInterface → Side → WrittenMessage
    → Option ℕ
later_rule place ended i side m =
    if not (names_objects side m) then Some 6
    else (if not (is_race_free place ended i side m) then Some 7
    else (if not (nat_le 1 m.since && nat_le m.since i.version) then Some 8
    else (if not (list_all (λ k. not (names_missing place k)) m.kinds) then Some 9
    else (if not (nat_le (count_by makes_server_object m.kinds) (most_by_server side)
    && list_all (λ k. not (makes_forbidden place ended k)) m.kinds) then Some 11
    else None))))

-- the lowest rule that a message of the interface breaks; `first` gives, for a name, the opcode of
-- the first message that has it
abbrev pub message_rule : (List ℕ → Option ℕ) → List Bool → WrittenInterface → Side
    → (List ℕ → Option ℕ) → ℕ → WrittenMessage → Option ℕ
message_rule place ended i side first opcode m =
    if not (is_name m.name && is_first first m.name opcode) then Some 1
    else (if not (nat_lt opcode max_messages && nat_le (length m.kinds) max_args) then Some 3
    else (if not (nat_le (count_by makes_object m.kinds) (most_new side)) then Some 4
    else (if not (list_all (λ k. not (makes_unnamed k)) m.kinds) then Some 5
    else later_rule place ended i side m)))

-- all lines

abbrev pub broken_at : ℕ → Option ℕ → Option Broken
broken_at line rule =
    option_map (λ r. let broken_line : Broken = record { line = line; rule = r } in broken_line)
    rule

-- whether one is at an earlier line than the other, or at the same line with a lower rule
abbrev pub comes_first : Broken → Broken → Bool
comes_first this other =
    nat_lt this.line other.line || ((this.line == other.line) && nat_lt this.rule other.rule)

-- the one at the earlier line, or with the lower rule at the same line
abbrev pub earlier : Option Broken → Option Broken → Option Broken
earlier None other = other
earlier (Some this) None = Some this
earlier (Some this) (Some other) = if comes_first other this then Some other else Some this

-- the first line among messages that breaks a rule; the first message has this opcode
abbrev pub messages_broken : (ℕ → WrittenMessage → Option ℕ) → ℕ → List WrittenMessage
    → Option Broken
messages_broken rule opcode [] = None
messages_broken rule opcode (m ∷ more) =
    earlier (broken_at m.line (rule opcode m)) (messages_broken rule (opcode + 1) more)

-- the messages of one side
abbrev pub side_broken : (List ℕ → Option ℕ) → List Bool → WrittenInterface → Side
    → List WrittenMessage → Option Broken
side_broken place ended i side messages =
    messages_broken (message_rule place ended i side (first_place (map (λ m. m.name) messages)))
    0 messages

-- an interface with its messages
abbrev pub interface_broken : (List ℕ → Option ℕ) → List Bool → ℕ → WrittenInterface → Option Broken
interface_broken place ended here i =
    earlier (broken_at i.line (interface_rule place here i))
    (earlier (side_broken place ended i Request i.requests)
    (side_broken place ended i Event i.events))

-- the first line among interfaces that breaks a rule; the first interface has this index
abbrev pub interfaces_broken : (List ℕ → Option ℕ) → List Bool → ℕ → List WrittenInterface
    → Option Broken
interfaces_broken place ended here [] = None
interfaces_broken place ended here (i ∷ more) =
    earlier (interface_broken place ended here i) (interfaces_broken place ended (here + 1) more)

-- which interfaces have an event that may end their objects
abbrev pub ended_of : List Interface → List WrittenInterface → List Bool
ended_of tables written =
    map has_destroying_event tables ++ map (λ i. list_any (λ m. m.destroys) i.events) written

-- the first line of a text that breaks a rule when the text is appended to these tables, and the
-- lowest rule that this line breaks
abbrev pub first_broken : List Interface → List WrittenInterface → Option Broken
first_broken tables written =
    interfaces_broken (first_place (all_names tables written)) (ended_of tables written)
    (length tables) written
