-- The line on standard error after a verdict on a bind that the tables do not know.
use Rattle.std.specs.Prelude.{ℕ, ◌+◌, List, [], ◌++◌, length, drop, codes, nat_le, nat_lt}
use Rattle.std.specs.Prelude.{if◌then◌else◌, Option, Some, None, option_map, option_and_then}
use Rattle.std.specs.declared.result.Result.{Result}
use Rattle.std.specs.declared.result.Result.TheVariants.{Ok, Err}
use Rattle.std.specs.Fmt.{decimal}
use Rattle.wl_wire.specs.declared.kind.ArgFault.{ArgFault}
use Rattle.wl_wire.specs.declared.kind.Kind.TheVariants as kinds
use Rattle.wl_wire.specs.Argument.{Argument, NewNamed}
use Rattle.wl_wire.specs.Reading.{reading}
use Rattle.wl_sigs.specs.Tables.{Interface, interface_at, place_of}
use Rattle.wl_sigs.specs.Rules.{is_name}
use Rattle.wl_objects.specs.declared.error.Fault.TheVariants.{BadBind}
use Rattle.wl_recording.specs.declared.piece.Direction.TheVariants.{ToServer}
use Rattle.wl_check.specs.declared.verdict.Verdict.{Verdict}
use Rattle.wl_check.specs.declared.verdict.Verdict.TheVariants.{Broken}
use Rattle.program_jobs.specs.declared.hint.Bound.{Bound}

-- what a bind names: an interface and a version
pub record NamedBind : Type 0 where
  pub interface : List ℕ
  pub version : ℕ

abbrev pub seen_bound : Bound → NamedBind
seen_bound bound = record { interface = bound.interface.now; version = bound.version }

-- what the argument for a new object names
abbrev pub bound_by : Argument → Option NamedBind
bound_by (NewNamed interface version id) =
    Some (record { interface = interface; version = version })
bound_by _ = None

abbrev pub bound_in : Result (Argument × ℕ) ArgFault → Option NamedBind
bound_in (Ok found) = bound_by found.0
bound_in (Err fault) = None

-- What the bind at this place of the bytes to the server names. The header has 8 bytes and the name
-- of the global 4; the argument for the new object follows.
abbrev pub bound_at : List ℕ → ℕ → Option NamedBind
bound_at requests offset =
    if nat_le (offset + 12) (length requests)
    then bound_in (reading (kinds.New None) (drop (offset + 12) requests)) else None

-- the version that tables have of an interface, if they have it
abbrev pub known_version : List Interface → List ℕ → Option ℕ
known_version tables name =
    option_and_then
    (λ iface. option_map (λ (i : Interface). i.version) (interface_at tables iface.0))
    (place_of tables name)

-- what is missing if no table has an interface; only a name that a table can have is printed
abbrev pub unknown_text : List ℕ → List ℕ
unknown_text name =
    if is_name name then codes "no table has " ++ name
    else codes "no table can have its interface"

-- what is missing if the tables have an interface in an earlier version
abbrev pub newer_text : NamedBind → ℕ → List ℕ
newer_text bound known =
    codes "the tables have " ++ bound.interface ++ codes " up to version " ++ decimal known
    ++ codes ", and it is bound at " ++ decimal bound.version

-- What the tables lack for a bind, in words, given the version that they have of its interface, if
-- they have it.
abbrev pub lack_words : NamedBind → Option ℕ → List ℕ
lack_words bound None = unknown_text bound.interface
lack_words bound (Some known) = newer_text bound known

-- the line that says so
abbrev pub lack_line : NamedBind → Option ℕ → List ℕ
lack_line bound known =
    codes "waywire: " ++ lack_words bound known ++ codes ": see --tables\n"

-- The line for a bind, given the version of its interface in the tables, if they have it. There is
-- none if the tables have the version that is bound, or if no tables can have the name.
abbrev pub hint_text : NamedBind → Option ℕ → List ℕ
hint_text bound None = if is_name bound.interface then lack_line bound None else []
hint_text bound (Some known) =
    if nat_lt known bound.version then lack_line bound (Some known) else []

abbrev pub hint_for : List Interface → Option NamedBind → List ℕ
hint_for tables None = []
hint_for tables (Some bound) = hint_text bound (known_version tables bound.interface)

-- The line after a verdict. There is one if and only if the broken message is a bind (F9) whose
-- interface no table has, or only in an earlier version than the bind names.
abbrev pub hint_of : List Interface → List ℕ → Verdict → List ℕ
hint_of tables requests (Broken ToServer index offset BadBind) =
    hint_for tables (bound_at requests offset)
hint_of tables requests _ = []
