-- What a text says about each interface: its own, and those of the tables that it extends.
use Rattle.std.specs.Prelude.{ℕ, List, [], ◌∷◌, ◌++◌, map, length, bytes_eq, true}
use Rattle.std.specs.Prelude.{if◌then◌else◌, is_some, nat_lt, Option, Some, None}
use Rattle.std.specs.List.{find}
use Rattle.wl_rules.specs.Tables.{Interface}
use Rattle.wl_text.specs.Text.{WrittenInterface}
use Rattle.wl_rules.specs.Joined.{all_names, first_place, message_placed, joined}

-- what a text adds to an interface of the tables that it does not mention: no message
abbrev pub unsaid : Interface → WrittenInterface
unsaid i = record {
  line = 0;
  extends = true;
  name = i.name;
  version = i.version;
  requests = [];
  events = [];
}

-- the greater of two versions
abbrev pub greater : ℕ → ℕ → ℕ
greater version other = if nat_lt version other then other else version

-- The interface after an extension: with the extension's version and its messages appended. The
-- version is never lowered: an extension that would breaks V8.
abbrev pub with_extension : WrittenInterface → WrittenInterface → WrittenInterface
with_extension i more = record i {
  version = greater i.version more.version;
  requests = i.requests ++ more.requests;
  events = i.events ++ more.events;
}

-- the interfaces, with the first of this name extended
abbrev pub extend_first : WrittenInterface → List WrittenInterface → List WrittenInterface
extend_first more [] = []
extend_first more (i ∷ rest) =
    if bytes_eq i.name more.name then with_extension i more ∷ rest else i ∷ extend_first more rest

-- the first interface of this name, if there is one
abbrev pub first_named : List ℕ → List WrittenInterface → Option WrittenInterface
first_named name written = find (λ i. bytes_eq i.name name) written

-- what lines of a text say: what they add to each interface of the tables, in the order of the
-- tables, and the interfaces that they declare
pub record Gathered : Type 0 where
  pub added : List WrittenInterface
  pub declared : List WrittenInterface

-- One more declaration or extension. An extension applies to the first interface of its name; those
-- of the tables come before those of the text.
abbrev pub one_more : Gathered → WrittenInterface → Gathered
one_more g next =
    if next.extends
    then (if is_some (first_named next.name g.added)
    then record g { added = extend_first next g.added }
    else record g { declared = extend_first next g.declared })
    else record g { declared = g.declared ++ next ∷ [] }

-- the result of further declarations and extensions, one after another
abbrev pub gathered_from : Gathered → List WrittenInterface → Gathered
gathered_from g [] = g
gathered_from g (next ∷ more) = gathered_from (one_more g next) more

-- what a text says when it is appended to these tables
abbrev pub gathered : List Interface → List WrittenInterface → Gathered
gathered tables written =
    gathered_from (record { added = map unsaid tables; declared = [] }) written

-- an interface of the tables with what is added to it: its messages keep their opcodes, and the
-- added ones follow
abbrev pub interface_grown : (List ℕ → Option ℕ) → ℕ → Interface → WrittenInterface → Interface
interface_grown place past i more = record {
  name = i.name;
  version = more.version;
  requests = i.requests ++ map (message_placed place past) more.requests;
  events = i.events ++ map (message_placed place past) more.events;
}

-- the same if something is added to it, and the interface as it is otherwise
abbrev pub grown_by : (List ℕ → Option ℕ) → ℕ → Interface → Option WrittenInterface → Interface
grown_by place past i None = i
grown_by place past i (Some more) = interface_grown place past i more

-- each interface at its index, with what is added to it
abbrev pub all_grown : (List ℕ → Option ℕ) → ℕ → List Interface → List WrittenInterface
    → List Interface
all_grown place past [] added = []
all_grown place past (i ∷ rest) [] = i ∷ rest
all_grown place past (i ∷ rest) (more ∷ added) =
    interface_grown place past i more ∷ all_grown place past rest added

-- the tables with what is added to their interfaces; a name means the first interface that has it,
-- in the tables and then in the text
abbrev pub grown : List Interface → Gathered → List Interface
grown tables g =
    let names = all_names tables g.declared in
    all_grown (first_place names) (length names) tables g.added

-- the tables with what is added to their interfaces, followed by the interfaces that are declared
abbrev pub whole_of : List Interface → Gathered → List Interface
whole_of tables g = joined (grown tables g) g.declared

-- the tables extended by those of a text, followed by its own
abbrev pub extended : List Interface → List WrittenInterface → List Interface
extended tables written = whole_of tables (gathered tables written)
