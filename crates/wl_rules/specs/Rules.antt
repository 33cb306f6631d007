-- The rules of valid tables as tests that compute. Each test is true if and only if its rule holds.
-- V2 has no test: all tables begin with the core interfaces, which include its four.
use Rattle.std.specs.Prelude.{ℕ, ◌+◌, List, [], ◌∷◌, map, length, Bool, true, false, not, ◌&&◌}
use Rattle.std.specs.Prelude.{◌||◌, nat_le, nat_lt, nat_eq, bytes_eq, Option, Some, None}
use Rattle.std.specs.List.{list_all, list_any}
use Rattle.wl_wire.specs.declared.kind.Kind.{Kind}
use Rattle.wl_wire.specs.declared.kind.Kind.TheVariants as kinds
use Rattle.wl_wire.specs.declared.kind.Iface.{Iface}
use Rattle.wl_rules.specs.declared.side.Side.{Side}
use Rattle.wl_rules.specs.declared.side.Side.TheVariants.{Request, Event}
use Rattle.wl_rules.specs.Tables.{MessageSignature, Interface, interface_at, messages_of}
use Rattle.wl_rules.specs.Tables.{new_objects, has_destroying_event, has_destroying_request}
use Rattle.wl_rules.specs.Tables.{named_interface, destroys_argument, server_objects}
use Rattle.wl_rules.specs.Tables.{has_server_object}
use Rattle.wl_rules.specs.Tables.{max_name_len, max_interfaces, max_messages, max_args}

-- each element passes the test with its index; the first has index n
abbrev pub all_indexed_from : {X : Type 0} → (ℕ → X → Bool) → ℕ → List X → Bool
all_indexed_from test n [] = true
all_indexed_from test n (x ∷ xs) = test n x && all_indexed_from test (n + 1) xs

abbrev pub is_empty : {X : Type 0} → List X → Bool
is_empty [] = true
is_empty (x ∷ xs) = false

abbrev pub both_sides : (Side → Bool) → Bool
both_sides test = test Request && test Event

abbrev pub each_message : (MessageSignature → Bool) → List Interface → Side → Bool
each_message test tables side = list_all (λ i. list_all test (messages_of side i)) tables

abbrev pub is_name_byte : ℕ → Bool
is_name_byte b = (nat_le 97 b && nat_le b 122) || ((nat_le 48 b && nat_le b 57) || nat_eq b 95)

abbrev pub is_name : List ℕ → Bool
is_name name =
    nat_le 1 (length name) && nat_le (length name) max_name_len && list_all is_name_byte name

abbrev pub are_distinct : List (List ℕ) → Bool
are_distinct [] = true
are_distinct (name ∷ names) =
    list_all (λ other. not (bytes_eq name other)) names && are_distinct names

-- V1
abbrev pub names_are_distinct : List Interface → Bool
names_are_distinct tables =
    list_all (λ i. is_name i.name) tables && are_distinct (map (λ i. i.name) tables)
    && both_sides (each_message (λ m. is_name m.name) tables)
    && both_sides (λ side.
    list_all (λ i. are_distinct (map (λ m. m.name) (messages_of side i))) tables)

-- V3
abbrev pub are_small : List Interface → Bool
are_small tables =
    nat_le (length tables) max_interfaces
    && both_sides (λ side. list_all (λ i. nat_le (length (messages_of side i)) max_messages) tables)
    && both_sides (each_message (λ m. nat_le (length m.kinds) max_args) tables)

-- V4
abbrev pub make_few_objects : List Interface → Bool
make_few_objects tables =
    each_message (λ m. is_empty (new_objects m.kinds)) tables Event
    && each_message (λ m. nat_le (length (new_objects m.kinds)) 1) tables Request

abbrev pub is_unnamed_new : Kind → Bool
is_unnamed_new (kinds.New None) = true
is_unnamed_new _ = false

abbrev pub has_no_unnamed_new : MessageSignature → Bool
has_no_unnamed_new m = list_all (λ k. not (is_unnamed_new k)) m.kinds

-- V5
abbrev pub unnamed_new_in_bind_alone : List Interface → Bool
unnamed_new_in_bind_alone tables =
    all_indexed_from (λ place i.
    all_indexed_from (λ opcode m. (nat_eq place 1 && nat_eq opcode 0) || has_no_unnamed_new m)
    0 i.requests) 0 tables
    && each_message has_no_unnamed_new tables Event

abbrev pub is_any_object : Kind → Bool
is_any_object (kinds.Obj null None) = true
is_any_object _ = false

-- V6
abbrev pub no_any_in_requests : List Interface → Bool
no_any_in_requests tables =
    each_message (λ m. list_all (λ k. not (is_any_object k)) m.kinds) tables Request

abbrev pub is_ended_by_event : Option Interface → Bool
is_ended_by_event None = false
is_ended_by_event (Some i) = has_destroying_event i

-- whether a request of this interface can end an object of this version
abbrev pub is_ended_by_request : ℕ → Option Interface → Bool
is_ended_by_request version None = false
is_ended_by_request version (Some i) = has_destroying_request version i

-- whether an argument is an object of an interface with a destroying event
abbrev pub may_be_ended : List Interface → Kind → Bool
may_be_ended tables (kinds.Obj null (Some iface)) = is_ended_by_event (interface_at tables iface.0)
may_be_ended tables _ = false

-- V7
abbrev pub destroying_events_are_race_free : List Interface → Bool
destroying_events_are_race_free tables =
    list_all (λ i. not (has_destroying_event i) || is_empty i.requests) tables
    && each_message (λ m. list_all (λ k. not (may_be_ended tables k)) m.kinds) tables Request

-- V8
abbrev pub sinces_are_in_range : List Interface → Bool
sinces_are_in_range tables =
    list_all (λ i. nat_le 1 i.version) tables
    && both_sides (each_message (λ m. nat_le 1 m.since) tables)
    && both_sides (λ side.
    list_all (λ i. list_all (λ m. nat_le m.since i.version) (messages_of side i)) tables)

abbrev pub is_in_tables : List Interface → Option Iface → Bool
is_in_tables tables None = true
is_in_tables tables (Some iface) = nat_lt iface.0 (length tables)

-- V9
abbrev pub named_interfaces_are_there : List Interface → Bool
named_interfaces_are_there tables =
    both_sides (each_message (λ m.
    list_all (λ k. is_in_tables tables (named_interface k)) m.kinds) tables)

abbrev pub ends_no_argument : MessageSignature → Bool
ends_no_argument m = not (destroys_argument m.destroys)

-- V10
abbrev pub argument_ends_in_fixes_alone : List Interface → Bool
argument_ends_in_fixes_alone tables =
    all_indexed_from (λ place i.
    nat_eq place 18 || both_sides (λ side. list_all ends_no_argument (messages_of side i)))
    0 tables

-- whether an index is that of one of the four interfaces that V2 and V10 fix
abbrev pub is_fixed_place : ℕ → Bool
is_fixed_place place =
    nat_eq place 0 || (nat_eq place 1 || (nat_eq place 2 || nat_eq place 18))

-- whether the server must not make objects of the interface at an index
abbrev pub is_unmakeable : ℕ → Option Interface → Bool
is_unmakeable place None = false
is_unmakeable place (Some i) = is_fixed_place place || has_destroying_event i

-- whether an argument is a new object of the server, of an interface whose objects it must not make
abbrev pub is_wrongly_made : List Interface → Kind → Bool
is_wrongly_made tables (kinds.NewByServer iface) =
    is_unmakeable iface.0 (interface_at tables iface.0)
is_wrongly_made tables _ = false

-- V11
abbrev pub server_makes_rightly : List Interface → Bool
server_makes_rightly tables =
    each_message (λ m. is_empty (server_objects m.kinds)) tables Request
    && each_message (λ m. nat_le (length (server_objects m.kinds)) 1) tables Event
    && both_sides (each_message (λ m.
    list_all (λ k. not (is_wrongly_made tables k)) m.kinds) tables)

-- whether some event has a new object of the server
abbrev pub has_server_objects : List Interface → Bool
has_server_objects tables = list_any (λ i. list_any has_server_object i.events) tables

-- all rules except V2
abbrev pub keep_rules : List Interface → Bool
keep_rules tables =
    names_are_distinct tables && are_small tables && make_few_objects tables
    && unnamed_new_in_bind_alone tables && no_any_in_requests tables
    && destroying_events_are_race_free tables && sinces_are_in_range tables
    && named_interfaces_are_there tables && argument_ends_in_fixes_alone tables
    && server_makes_rightly tables
