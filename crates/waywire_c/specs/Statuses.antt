-- The number of each refusal and each fault.
use Rattle.std.specs.Prelude.{◌≡◌, ◌⊎◌, ℕ, Bool, true, false, if◌then◌else◌, List, Option, Some}
use Rattle.std.specs.Prelude.{None}
use Rattle.std.specs.declared.result.Result.{Result}
use Rattle.std.specs.declared.result.Result.TheVariants.{Ok, Err}
use Rattle.wl_wire.specs.declared.kind.ArgFault.{ArgFault}
use Rattle.wl_wire.specs.declared.kind.ArgFault.TheVariants as spellings
use Rattle.wl_text.specs.declared.fault.TableFault.{TableFault}
use Rattle.wl_text.specs.declared.fault.TableFault.TheVariants as tables
use Rattle.wl_sigs.specs.Tables.{Interface}
use Rattle.wl_object_map.specs.declared.object.Object.{Object}
use Rattle.wl_objects.specs.declared.error.SendError.{SendError}
use Rattle.wl_objects.specs.declared.error.SendError.TheVariants as refusals
use Rattle.wl_objects.specs.declared.error.NextError.{NextError}
use Rattle.wl_objects.specs.declared.error.NextError.TheVariants as errors
use Rattle.wl_objects.specs.declared.error.Fault.{Fault}
use Rattle.wl_objects.specs.declared.error.Fault.TheVariants as faults
use Rattle.wl_connection.specs.MoreTables.{has_first_server_object}
use Rattle.wl_server.specs.declared.globals.GlobalError.{GlobalError}
use Rattle.wl_server.specs.declared.globals.GlobalError.TheVariants as globals

-- S1 to S12
abbrev pub send_status : SendError → ℕ
send_status refusals.Failed = 1
send_status refusals.Stale = 2
send_status refusals.NoSuchMessage = 3
send_status refusals.TooOld = 4
send_status (refusals.WrongArgs place) = 5
send_status (refusals.BadObject place) = 6
send_status refusals.BadBind = 7
send_status refusals.TooLong = 8
send_status refusals.Full = 9
send_status refusals.NoIds = 10
send_status refusals.Memory = 11
send_status refusals.NotDroppable = 12

-- G1 to G5
abbrev pub global_status : GlobalError → ℕ
global_status globals.Failed = 1
global_status globals.BadGlobal = 22
global_status globals.TooMany = 23
global_status globals.Memory = 11
global_status globals.NoSuchGlobal = 25

-- F1 to F10
abbrev pub fault_status : Fault → ℕ
fault_status faults.BadSize = 31
fault_status faults.UnknownObject = 32
fault_status faults.UnknownMessage = 33
fault_status (faults.BadArgument place spelling) = 34
fault_status (faults.BadObject place) = 35
fault_status (faults.BadNewId place) = 36
fault_status faults.TrailingBytes = 37
fault_status faults.MissingDescriptor = 38
fault_status faults.BadBind = 39
fault_status faults.TooManyObjects = 40

abbrev pub next_status : NextError → ℕ
next_status (errors.Fault fault offset) = fault_status fault
next_status errors.Failed = 1
next_status errors.Memory = 11
next_status errors.OutFull = 51

-- the status of a call that is refused with one of these, or accepted
abbrev pub send_outcome : Option SendError → ℕ
send_outcome None = 0
send_outcome (Some why) = send_status why

abbrev pub global_outcome : Option GlobalError → ℕ
global_outcome None = 0
global_outcome (Some why) = global_status why

-- the status of a read
abbrev pub read_outcome : {R : Type 0} → Result R NextError → ℕ
read_outcome (Ok report) = 0
read_outcome (Err why) = next_status why

-- the status of a look-up
abbrev pub find_outcome : {X : Type 0} → Option X → ℕ
find_outcome None = 64
find_outcome (Some found) = 0

-- the status of a call that may make an object, and of one that returns a name
abbrev pub made_outcome : Result (Option Object) SendError → ℕ
made_outcome (Ok new) = 0
made_outcome (Err why) = send_status why

abbrev pub name_outcome : Result ℕ GlobalError → ℕ
name_outcome (Ok name) = 0
name_outcome (Err why) = global_status why

-- the status of a call that makes something or returns why it does not
abbrev pub making_outcome : {X : Type 0} → Result X ℕ → ℕ
making_outcome (Ok made) = 0
making_outcome (Err status) = status

-- the status of a call that is refused only at a failed end
abbrev pub failed_outcome : Bool → ℕ
failed_outcome true = 1
failed_outcome false = 0

-- TB1, TB2, TB3
abbrev pub table_status : TableFault → ℕ
table_status (tables.BadLine line) = 71
table_status (tables.BadTable line rule) = 72
table_status tables.Memory = 11

abbrev pub table_outcome : {X : Type 0} → Result X TableFault → ℕ
table_outcome (Ok found) = 0
table_outcome (Err why) = table_status why

-- TB1, TB2, TB3; TB4 for tables that a client with these tables cannot take
abbrev pub more_tables_outcome : List Interface → Result (List Interface) TableFault → ℕ
more_tables_outcome tables (Ok more) = if has_first_server_object tables more then 73 else 0
more_tables_outcome tables (Err why) = table_status why

-- The status of a call is this one; or, if this is an acceptance that may need memory, that of out
-- of memory.
abbrev pub OrMemory : Bool → ℕ → ℕ → Type 0
OrMemory wants status result =
    (result ≡ status) ⊎ ((result ≡ 11) × (wants ≡ true) × (status ≡ 0))

-- the index of the argument that a refusal names, if it names one
abbrev pub refused_place : SendError → Option ℕ
refused_place (refusals.WrongArgs place) = Some place
refused_place (refusals.BadObject place) = Some place
refused_place _ = None

-- the index of the argument that a fault names; 0 if it names none
abbrev pub fault_place : Fault → ℕ
fault_place (faults.BadArgument place spelling) = place
fault_place (faults.BadObject place) = place
fault_place (faults.BadNewId place) = place
fault_place _ = 0

-- which of A1 to A4 an argument has
abbrev pub spelling_number : ArgFault → ℕ
spelling_number spellings.Short = 1
spelling_number spellings.NullNotAllowed = 2
spelling_number spellings.NoEndingNul = 3
spelling_number spellings.InnerNul = 4

-- the same for a fault; 0 if it is no misspelling
abbrev pub fault_spelling : Fault → ℕ
fault_spelling (faults.BadArgument place spelling) = spelling_number spelling
fault_spelling _ = 0
