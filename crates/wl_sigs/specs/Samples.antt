-- Table texts worked out by hand, appended to the core tables.
use Rattle.std.specs.Prelude.{List, [], ℕ, Option, Some, None, option_map, Result, Ok, Err}
use Rattle.wl_text.specs.declared.fault.TableFault.{TableFault}
use Rattle.wl_sigs.specs.Core.{core_tables}
use Rattle.wl_sigs.specs.Outcome.{outcome}
use Rattle.wl_sigs.specs.Tables.{Interface, interface_at, signature_at}
use Rattle.wl_sigs.specs.Side.{Side}

-- why a text gives no tables
abbrev pub fault_in : Result (List Interface) TableFault → Option TableFault
fault_in (Ok tables) = None
fault_in (Err fault) = Some fault

abbrev pub fault_of_text : List ℕ → Option TableFault
fault_of_text text = fault_in (outcome core_tables text)

-- the tables that a text gives, if it gives any
abbrev pub tables_in : Result (List Interface) TableFault → List Interface
tables_in (Ok tables) = tables
tables_in (Err fault) = []

-- the version of the interface at an index
abbrev pub version_in_text : List ℕ → ℕ → Option ℕ
version_in_text text place =
    option_map (λ i. i.version) (interface_at (tables_in (outcome core_tables text)) place)

-- the name of the message with an opcode on one side of the interface at an index
abbrev pub message_in_text : List ℕ → ℕ → Side → ℕ → Option (List ℕ)
message_in_text text place side opcode =
    option_map (λ m. m.name) (signature_at (tables_in (outcome core_tables text)) place side opcode)
