-- The command line of the program, and what its words ask for.
use Rattle.std.specs.Prelude.{◌≡◌, ◌≢◌, ◌⊎◌, ◌<◌, ◌^◌, ℕ, List, [], ◌∷◌, Option, Some, None, String}
use Rattle.std.specs.Prelude.{Bool, codes, map, true, false, pos, string_bytes, IsErrAnd, Vec}
use Rattle.std.specs.declared.alloc.Global.{Global}
use Rattle.std.specs.declared.result.Result.{Result}
use Rattle.std.specs.declared.result.Result.TheVariants.{Ok, Err}
use Rattle.std.specs.Cow.{cow_str_bytes}
use Rattle.std.specs.Str.Parse.{IsNumeral, digits_value, without_leading_plus}
use Rattle.clap.specs.Words.{App, IsAmong, Row, Rule, Shape, Text, all_of, fault_of, first_of}
use Rattle.clap.specs.Words.{kind_of}
use Rattle.clap.specs.Words.{new_app, new_rule, one_of, subcommand_of, with_rule, with_subcommand}
use Rattle.clap.specs.Simple.{on_top}
use Rattle.clap.specs.declared.builder.action.ArgAction.TheVariants.{Append, SetTrue}
use Rattle.clap.specs.declared.builder.value_parser.ValueParser.TheVariants as parser
use Rattle.clap.specs.declared.error.Error.{Error}
use Rattle.clap.specs.declared.error.kind.ErrorKind.{ErrorKind}
use Rattle.clap.specs.declared.error.kind.ErrorKind.TheVariants.{DisplayHelp, DisplayVersion}
use Rattle.clap.specs.declared.error.kind.ErrorKind.TheVariants.{OutOfMemory}
use Rattle.wl_message.specs.declared.limit.Limit.{Limit}
use Rattle.program_arguments.specs.declared.job.Job.{Job}
use Rattle.program_arguments.specs.declared.job.Job.TheVariants.{Trace, Check, Stream, Demo, Socket}
use Rattle.program_arguments.specs.declared.job.Stop.{Stop}

-- `--tables FILE`, which is optional
abbrev pub tables_argument : Rule
tables_argument = record (new_rule (codes "tables")) {
  long = Some (codes "tables");
  action = Some Append;
  value_names = 1;
}

-- `--limit N`, a number from 4096 to 65532; 4096 if it is not given
abbrev pub limit_argument : Rule
limit_argument = record (new_rule (codes "limit")) {
  long = Some (codes "limit");
  value_names = 1;
  defaults = codes "4096" ∷ [];
  parser = Some (parser.Signed (pos 4096) (pos 65532));
}

-- `--stream`, which has no value
abbrev pub stream_argument : Rule
stream_argument = record (new_rule (codes "stream")) {
  long = Some (codes "stream");
  action = Some SetTrue;
}

-- `--inspect`, which has no value
abbrev pub inspect_argument : Rule
inspect_argument = record (new_rule (codes "inspect")) {
  long = Some (codes "inspect");
  action = Some SetTrue;
}

-- the argument that names a recording: one word, which is required
abbrev pub file_argument : Rule
file_argument = record (new_rule (codes "FILE")) { required = true }

-- the argument that says where the socket is bound: one word, which is required
abbrev pub path_argument : Rule
path_argument = record (new_rule (codes "PATH")) { required = true }

-- `--piece N`, a number from 1 to 4096; 4096 if it is not given
abbrev pub piece_argument : Rule
piece_argument = record (new_rule (codes "piece")) {
  long = Some (codes "piece");
  value_names = 1;
  defaults = codes "4096" ∷ [];
  parser = Some (parser.Signed (pos 1) (pos 4096));
}

-- a command that reads a recording
abbrev pub recording_command : Text → App
recording_command name =
    with_rule (with_rule (with_rule (with_rule (new_app name) tables_argument) limit_argument)
    stream_argument) file_argument

-- the name of the command that reads a recording and prints its lines, or only the verdict
abbrev pub reading_name : Bool → Text
reading_name true = codes "trace"
reading_name false = codes "check"

-- the commands `trace`, `check`, `demo` and `socket`
abbrev pub trace_command : App
trace_command = recording_command (codes "trace")

abbrev pub check_command : App
check_command = with_rule (recording_command (codes "check")) inspect_argument

abbrev pub demo_command : App
demo_command = with_rule (new_app (codes "demo")) piece_argument

abbrev pub socket_command : App
socket_command = with_rule (new_app (codes "socket")) path_argument

-- the program, which requires one of them, or a request for its version
abbrev pub program : App
program =
    on_top
    (λ (s : Shape). record s { has_version = true; subcommand_required = true })
    (new_app (codes "waywire"))

abbrev pub command_line : App
command_line =
    with_subcommand (with_subcommand (with_subcommand (with_subcommand program
    trace_command.top) check_command.top) demo_command.top) socket_command.top

-- the texts of words
abbrev pub texts_of : {A : Type 0} → List (String A) → List Text
texts_of = map string_bytes

-- the digits spell the number, of 32 bits; a plus may come before them
abbrev pub SpellsU32 : Text → ℕ → Type 0
SpellsU32 digits n =
    IsNumeral 10 (without_leading_plus digits)
    × (n ≡ digits_value 10 (without_leading_plus digits)) × (n < 2 ^ 32)

-- the number that was given for the argument of this name, or none
abbrev pub IsNumber : Text → List Row → Option ℕ → Type 0
IsNumber name arguments (Some n) =
    (digits : Text) × (one_of name arguments ≡ Some digits) × SpellsU32 digits n
IsNumber name arguments None =
    (digits : Text) (n : ℕ) → one_of name arguments ≡ Some digits → SpellsU32 digits n → ⊥

-- the limit with the number that was given, or none if no limit has that number
abbrev pub IsLimitOf : List Row → Option Limit → Type 0
IsLimitOf arguments (Some limit) = IsNumber (codes "limit") arguments (Some limit.bytes)
IsLimitOf arguments None =
    (limit : Limit) → IsNumber (codes "limit") arguments (Some limit.bytes) → ⊥

-- all words that were given for an argument, in their order
abbrev pub or_none : Option (List Text) → List Text
or_none None = []
or_none (Some words) = words

abbrev pub given_for : Text → List Row → List Text
given_for name arguments = or_none (all_of name arguments)

-- the words that were given for table texts, in their order, and for the recording, unchanged
abbrev pub NamesFiles : {A : Type 0} → List Row → Vec (String A) A → String A → Type 0
NamesFiles arguments tables file =
    (given_for (codes "tables") arguments ≡ map string_bytes tables.items)
    × (first_of (codes "FILE") arguments ≡ Some (string_bytes file))

-- whether the switch of this name was given
abbrev pub IsSet : Text → List Row → Bool → Type 0
IsSet name arguments true = first_of name arguments ≡ Some (codes "true")
IsSet name arguments false = first_of name arguments ≢ Some (codes "true")

-- What a command and its arguments ask for. A file or a path has the name of the word that was
-- given for it, unchanged; a number is the one that was given, and a limit has that number.
-- `--stream` and `--inspect` together ask for nothing.
abbrev pub IsGiven : Text → List Row → Job → Type 0
IsGiven name arguments (Trace tables limit file) =
    (name ≡ codes "trace") × NamesFiles arguments tables file × IsLimitOf arguments (Some limit)
    × IsSet (codes "stream") arguments false
IsGiven name arguments (Check inspects tables limit file) =
    (name ≡ codes "check") × NamesFiles arguments tables file × IsLimitOf arguments (Some limit)
    × IsSet (codes "stream") arguments false × IsSet (codes "inspect") arguments inspects
IsGiven name arguments (Stream prints_lines tables limit file) =
    (name ≡ reading_name prints_lines) × NamesFiles arguments tables file
    × IsLimitOf arguments (Some limit) × IsSet (codes "stream") arguments true
    × IsSet (codes "inspect") arguments false
IsGiven name arguments (Demo piece) =
    (name ≡ codes "demo") × IsNumber (codes "piece") arguments (Some piece)
IsGiven name arguments (Socket path) =
    (name ≡ codes "socket") × (first_of (codes "PATH") arguments ≡ Some (string_bytes path))

-- the job of a command that reads a recording
abbrev pub IsReading : Bool → Bool → Bool → Vec (String Global) Global → Limit → String Global
    → Job → Type 0
IsReading prints_lines true inspects tables limit file job =
    job ≡ Stream prints_lines tables limit file
IsReading true false inspects tables limit file job = job ≡ Trace tables limit file
IsReading false false inspects tables limit file job = job ≡ Check inspects tables limit file

-- the job that a command and its arguments ask for, or none if they ask for none
abbrev pub IsJobFor : Text → List Row → Option Job → Type 0
IsJobFor name arguments (Some job) = IsGiven name arguments job
IsJobFor name arguments None = (job : Job) → IsGiven name arguments job → ⊥

-- the same for the command that was named, if any was
abbrev pub NamesJob : Option (Text × List Row) → Option Job → Type 0
NamesJob found (Some job) =
    (name : Text) × (arguments : List Row) × (found ≡ Some (name, arguments))
    × IsGiven name arguments job
NamesJob found None =
    (name : Text) (arguments : List Row) (job : Job)
    → found ≡ Some (name, arguments) → IsGiven name arguments job → ⊥

-- What the words of a command line (the program's name first) ask for: they have no fault, and name
-- a command with its arguments.
pub record Asks (words : List Text) (job : Job) : Type 0 where
  pub faultless : fault_of command_line words ≡ []
  pub named : NamesJob (subcommand_of command_line words) (Some job)

-- the answer to a request for help or the version
abbrev pub IsHelp : ErrorKind → Type 0
IsHelp DisplayHelp = Unit {0}
IsHelp DisplayVersion = Unit {0}
IsHelp _ = ⊥

-- The words ask for help or the version. A name after the word `help` that is no command's may be
-- refused too, so some words both ask for help and have a fault.
abbrev pub AsksHelp : List Text → Type 0
AsksHelp words =
    (kind : ErrorKind) × IsAmong kind (fault_of command_line words) × IsHelp kind

-- the words have a fault, for example an unknown command, or too many or too few words
abbrev pub HasFault : List Text → Type 0
HasFault words =
    (kind : ErrorKind) × IsAmong kind (fault_of command_line words) × (IsHelp kind → ⊥)

-- they have none, but name no job, for example because a limit is not a multiple of 4
abbrev pub NamesNone : List Text → Type 0
NamesNone words =
    (fault_of command_line words ≡ []) × NamesJob (subcommand_of command_line words) None

-- a stop with this status and a text
abbrev pub Says : ℕ → Stop → Type 0
Says status stop = (stop.status ≡ status) × (cow_str_bytes stop.text ≢ [])

-- a stop for lack of memory, which has no text
abbrev pub IsOutOfMemory : Stop → Type 0
IsOutOfMemory stop = (stop.status ≡ 4) × (cow_str_bytes stop.text ≡ [])

-- Why there is no job: help was asked for; or the words have a fault; or they name no job; or there
-- is no memory. The text is empty only for lack of memory.
pub data Stops (words : List Text) (stop : Stop) : Type 0 where
  helps : AsksHelp words → Says 0 stop → Stops words stop
  faulty : HasFault words → Says 2 stop → Stops words stop
  names_none : NamesNone words → Says 2 stop → Stops words stop
  no_memory : IsOutOfMemory stop → Stops words stop

-- there is no job, but a stop with this status or one for lack of memory
abbrev pub StopsWith : ℕ → Result Job Stop → Type 0
StopsWith status = λ result. IsErrAnd result (λ stop. Says status stop ⊎ IsOutOfMemory stop)

-- the stop for an error of this kind
abbrev pub StopsFor : ErrorKind → Stop → Type 0
StopsFor DisplayHelp stop = Says 0 stop ⊎ IsOutOfMemory stop
StopsFor DisplayVersion stop = Says 0 stop ⊎ IsOutOfMemory stop
StopsFor OutOfMemory stop = IsOutOfMemory stop
StopsFor _ stop = Says 2 stop ⊎ IsOutOfMemory stop

-- the answer, given the result of parsing the words
abbrev pub IsAnswer : Result (Option Job) Error → Result Job Stop → Type 0
IsAnswer (Ok (Some job)) result = result ≡ Ok job
IsAnswer (Ok None) result = IsErrAnd result (Says 2)
IsAnswer (Err error) result = IsErrAnd result (StopsFor (kind_of error))
