-- The tables of a text appended to others, with the names of their arguments' interfaces looked up.
use Rattle.std.specs.Prelude.{ℕ, List, ◌++◌, length, map, bytes_eq, position, Option, option_map}
use Rattle.std.specs.Prelude.{unwrap_or, Bool, true, false}
use Rattle.wl_wire.specs.declared.kind.Kind.{Kind}
use Rattle.wl_wire.specs.declared.kind.Kind.TheVariants as kinds
use Rattle.wl_wire.specs.declared.kind.Iface.{Iface}
use Rattle.wl_rules.specs.declared.side.Destroys.{Destroys}
use Rattle.wl_rules.specs.declared.side.Destroys.TheVariants.{Nothing, Target}
use Rattle.wl_rules.specs.Tables.{MessageSignature, Interface}
use Rattle.wl_text.specs.declared.written.BareKind.{BareKind}
use Rattle.wl_text.specs.declared.written.BareKind.TheVariants as bare
use Rattle.wl_text.specs.Text.{WrittenKind, WrittenMessage, WrittenInterface}

-- the names of the interfaces of the tables, then those of the text
abbrev pub all_names : List Interface → List WrittenInterface → List (List ℕ)
all_names tables written = map (λ i. i.name) tables ++ map (λ i. i.name) written

-- the index of the first name that is equal to this one
abbrev pub first_place : List (List ℕ) → List ℕ → Option ℕ
first_place names name = position (λ other. bytes_eq other name) names

-- the interface at the first index of the name, or one past all names if there is none
abbrev pub iface_named : (List ℕ → Option ℕ) → ℕ → List ℕ → Iface
iface_named place past name = record { 0 = unwrap_or (place name) past }

-- The kind with its interface, if it has one. A text names the interface of each new object of the
-- server; if it named none, the interface would have the index one past all.
abbrev pub with_iface : ℕ → BareKind → Option Iface → Kind
with_iface past bare.Int iface = kinds.Int
with_iface past bare.Uint iface = kinds.Uint
with_iface past bare.Fixed iface = kinds.Fixed
with_iface past (bare.Str null) iface = kinds.Str null
with_iface past (bare.Obj null) iface = kinds.Obj null iface
with_iface past bare.New iface = kinds.New iface
with_iface past bare.NewByServer iface = kinds.NewByServer (unwrap_or iface (record { 0 = past }))
with_iface past bare.Array iface = kinds.Array
with_iface past bare.Fd iface = kinds.Fd

abbrev pub kind_placed : (List ℕ → Option ℕ) → ℕ → WrittenKind → Kind
kind_placed place past k = with_iface past k.kind (option_map (iface_named place past) k.iface)

-- what a message destroys: its target, or nothing
abbrev pub destroys_of : Bool → Destroys
destroys_of true = Target
destroys_of false = Nothing

abbrev pub message_placed : (List ℕ → Option ℕ) → ℕ → WrittenMessage → MessageSignature
message_placed place past m = record {
  name = m.name;
  since = m.since;
  kinds = map (kind_placed place past) m.kinds;
  destroys = destroys_of m.destroys;
}

abbrev pub interface_placed : (List ℕ → Option ℕ) → ℕ → WrittenInterface → Interface
interface_placed place past i = record {
  name = i.name;
  version = i.version;
  requests = map (message_placed place past) i.requests;
  events = map (message_placed place past) i.events;
}

-- the tables followed by those of the text
abbrev pub joined : List Interface → List WrittenInterface → List Interface
joined tables written =
    let names = all_names tables written in
    tables ++ map (interface_placed (first_place names) (length names)) written
