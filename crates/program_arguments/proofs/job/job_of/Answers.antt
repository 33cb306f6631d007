use Rattle.std.proofs.Common.{◌≡◌, ◌⊎◌, ℕ, List, [], Option, Some, None, IfOk, IfErr, inl, inr, sym, subst}
use Rattle.std.specs.Prelude.{Ok, Err, Result}
use Rattle.clap.specs.Words.{HasKind, IsAmong, Text, fault_of, kind_of, subcommand_of}
use Rattle.clap.specs.declared.error.Error.{Error}
use Rattle.clap.specs.declared.error.kind.ErrorKind.{ErrorKind}
use Rattle.clap.specs.declared.error.kind.ErrorKind.TheVariants.{InvalidValue, UnknownArgument}
use Rattle.clap.specs.declared.error.kind.ErrorKind.TheVariants.{InvalidSubcommand, NoEquals}
use Rattle.clap.specs.declared.error.kind.ErrorKind.TheVariants.{ValueValidation, TooManyValues}
use Rattle.clap.specs.declared.error.kind.ErrorKind.TheVariants.{TooFewValues, WrongNumberOfValues}
use Rattle.clap.specs.declared.error.kind.ErrorKind.TheVariants.{ArgumentConflict}
use Rattle.clap.specs.declared.error.kind.ErrorKind.TheVariants.{MissingRequiredArgument}
use Rattle.clap.specs.declared.error.kind.ErrorKind.TheVariants.{MissingSubcommand, DisplayHelp}
use Rattle.clap.specs.declared.error.kind.ErrorKind.TheVariants.{DisplayHelpOnMissingArgumentOrSubcommand}
use Rattle.clap.specs.declared.error.kind.ErrorKind.TheVariants.{DisplayVersion, Io, Format}
use Rattle.clap.specs.declared.error.kind.ErrorKind.TheVariants.{OutOfMemory}
use Rattle.program_arguments.specs.declared.job.Job.{Job}
use Rattle.program_arguments.specs.declared.job.Stop.{Stop}
use Rattle.program_arguments.specs.Asking.{Asks, AsksHelp, HasFault, IsAnswer, IsHelp}
use Rattle.program_arguments.specs.Asking.{IsOutOfMemory, NamesJob, NamesNone, Says, Stops, StopsFor}
use Rattle.program_arguments.specs.Asking.{StopsWith, command_line, faulty, helps, names_none}
use Rattle.program_arguments.specs.Asking.{no_memory, texts_of}
use Rattle.program_arguments.proofs.job.job_of.Goals as goal

-- the kind of an error: memory, or one of the faults of the words
abbrev MayHave : ErrorKind → List Text → Type 0
MayHave kind words = (kind ≡ OutOfMemory) ⊎ IsAmong kind (fault_of command_line words)

-- a stop for help: help was asked for
help : (words : List Text) (stop : Stop) (kind : ErrorKind) → (kind ≡ OutOfMemory → ⊥) → IsHelp kind
    → MayHave kind words → Says 0 stop ⊎ IsOutOfMemory stop → Stops words stop
help words stop kind other is (inl e) said = absurd (other e)
help words stop kind other is (inr among) (inl says) = helps (kind, among, is) says
help words stop kind other is (inr among) (inr none) = no_memory none

-- a stop for any other fault: the words have one
usage : (words : List Text) (stop : Stop) (kind : ErrorKind) → (kind ≡ OutOfMemory → ⊥) → (IsHelp kind → ⊥)
    → MayHave kind words → Says 2 stop ⊎ IsOutOfMemory stop → Stops words stop
usage words stop kind other unhelpful (inl e) said = absurd (other e)
usage words stop kind other unhelpful (inr among) (inl says) = faulty (kind, among, unhelpful) says
usage words stop kind other unhelpful (inr among) (inr none) = no_memory none

-- a stop for the kind of an error is a stop for the words
stops : (words : List Text) (stop : Stop) (kind : ErrorKind) → MayHave kind words → StopsFor kind stop
    → Stops words stop
stops words stop OutOfMemory among is = no_memory is
stops words stop DisplayHelp among is = help words stop DisplayHelp (λ e. cc) tt among is
stops words stop DisplayVersion among is = help words stop DisplayVersion (λ e. cc) tt among is
stops words stop InvalidValue among is = usage words stop InvalidValue (λ e. cc) (λ h. h) among is
stops words stop UnknownArgument among is = usage words stop UnknownArgument (λ e. cc) (λ h. h) among is
stops words stop InvalidSubcommand among is = usage words stop InvalidSubcommand (λ e. cc) (λ h. h) among is
stops words stop NoEquals among is = usage words stop NoEquals (λ e. cc) (λ h. h) among is
stops words stop ValueValidation among is = usage words stop ValueValidation (λ e. cc) (λ h. h) among is
stops words stop TooManyValues among is = usage words stop TooManyValues (λ e. cc) (λ h. h) among is
stops words stop TooFewValues among is = usage words stop TooFewValues (λ e. cc) (λ h. h) among is
stops words stop WrongNumberOfValues among is = usage words stop WrongNumberOfValues (λ e. cc) (λ h. h) among is
stops words stop ArgumentConflict among is = usage words stop ArgumentConflict (λ e. cc) (λ h. h) among is
stops words stop MissingRequiredArgument among is = usage words stop MissingRequiredArgument (λ e. cc) (λ h. h) among is
stops words stop MissingSubcommand among is = usage words stop MissingSubcommand (λ e. cc) (λ h. h) among is
stops words stop DisplayHelpOnMissingArgumentOrSubcommand among is =
    usage words stop DisplayHelpOnMissingArgumentOrSubcommand (λ e. cc) (λ h. h) among is
stops words stop Io among is = usage words stop Io (λ e. cc) (λ h. h) among is
stops words stop Format among is = usage words stop Format (λ e. cc) (λ h. h) among is

-- the words were parsed without a fault
abbrev Parsed : List Text → Option Job → Type 0
Parsed words = λ found. (fault_of command_line words ≡ []) × NamesJob (subcommand_of command_line words) found

-- the words ask for the parsed job
asked : (words : List Text) (parsed : Result (Option Job) Error) (result : Result Job Stop) → IfOk parsed (Parsed words)
    → IsAnswer parsed result → IfOk result (Asks words)
asked words parsed (Err stop) found is = tt
asked words (Ok (Some job)) (Ok other) found is = let same : other ≡ job = cc is
    in subst (Asks words) (sym same) (record { faultless = found.0; named = found.1 })
asked words (Ok None) (Ok other) found is = absurd is
asked words (Err error) (Ok other) found is = absurd is

-- a stop gives the reason why there is no job
stopped : (words : List Text) (parsed : Result (Option Job) Error) (result : Result Job Stop)
    → IfOk parsed (Parsed words) → IfErr parsed (HasKind (fault_of command_line words)) → IsAnswer parsed result
    → IfErr result (Stops words)
stopped words parsed (Ok job) found kind is = tt
stopped words (Ok (Some job)) (Err stop) found kind is = cc
stopped words (Ok None) (Err stop) found kind is = names_none found is
stopped words (Err error) (Err stop) found kind is = stops words stop (kind_of error) kind is

-- words without a fault have no kind of fault
none_among : (words : List Text) (kind : ErrorKind) → IsAmong kind (fault_of command_line words)
    → fault_of command_line words ≡ [] → ⊥
none_among words kind among e = subst (IsAmong kind) e among

-- words that only ask for help stop with status 0
helped : (words : List Text) (stop : Stop) → AsksHelp words → (HasFault words → ⊥) → Stops words stop
    → Says 0 stop ⊎ IsOutOfMemory stop
helped words stop asks sound (helps h says) = inl says
helped words stop asks sound (faulty f says) = absurd (sound f)
helped words stop asks sound (names_none n says) = absurd (none_among words asks.0 asks.1 n.0)
helped words stop asks sound (no_memory none) = inr none

-- words that have a fault and do not ask for help stop with status 2
refused : (words : List Text) (stop : Stop) → HasFault words → (AsksHelp words → ⊥) → Stops words stop
    → Says 2 stop ⊎ IsOutOfMemory stop
refused words stop fault no_help (helps h says) = absurd (no_help h)
refused words stop fault no_help (faulty f says) = inl says
refused words stop fault no_help (names_none n says) = inl says
refused words stop fault no_help (no_memory none) = inr none

-- words that name no job stop with status 2
nothing : (words : List Text) (stop : Stop) → NamesNone words → Stops words stop → Says 2 stop ⊎ IsOutOfMemory stop
nothing words stop names (helps h says) = absurd (none_among words h.0 h.1 names.0)
nothing words stop names (faulty f says) = inl says
nothing words stop names (names_none n says) = inl says
nothing words stop names (no_memory none) = inr none

-- words that name no job ask for none
names_no_job : (words : List Text) (job : Job) → NamesNone words → Asks words job → ⊥
names_no_job words job none asks = let named = asks.named in none.1 named.0 named.1 job named.2 named.3

-- if the words ask for a job, the only stop is for lack of memory
job_asked : (words : List Text) (stop : Stop) (job : Job) → Asks words job → Stops words stop → IsOutOfMemory stop
job_asked words stop job asks (helps h says) = absurd (none_among words h.0 h.1 asks.faultless)
job_asked words stop job asks (faulty f says) = absurd (none_among words f.0 f.1 asks.faultless)
job_asked words stop job asks (names_none n says) = absurd (names_no_job words job n asks)
job_asked words stop job asks (no_memory none) = none

-- the same, for the result
stops_with : (words : List Text) (status : ℕ) (result : Result Job Stop) → IfOk result (Asks words)
    → IfErr result (Stops words) → ((job : Job) → Asks words job → ⊥)
    → ((stop : Stop) → Stops words stop → Says status stop ⊎ IsOutOfMemory stop) → StopsWith status result
stops_with words status (Ok job) asks why none so = absurd (none job asks)
stops_with words status (Err stop) asks why none so = so stop why

only_memory : (words : List Text) (result : Result Job Stop) (job : Job) → Asks words job → IfErr result (Stops words)
    → IfErr result IsOutOfMemory
only_memory words (Ok other) job asks why = tt
only_memory words (Err stop) job asks why = job_asked words stop job asks why

pub returns-clause-asked : goal.returns-clause-asked
returns-clause-asked c = asked (texts_of c.args.words.now) c.parsed.result _ c.parsed.ensures.asked c.answer.ensures

pub returns-clause-stopped : goal.returns-clause-stopped
returns-clause-stopped c = stopped (texts_of c.args.words.now) c.parsed.result _ c.parsed.ensures.asked
    c.parsed.ensures.fault c.answer.ensures

pub returns-clause-helped : goal.returns-clause-helped
returns-clause-helped c = λ asks sound. stops_with (texts_of c.args.words.now) 0 _
    (asked (texts_of c.args.words.now) c.parsed.result _ c.parsed.ensures.asked c.answer.ensures)
    (stopped (texts_of c.args.words.now) c.parsed.result _ c.parsed.ensures.asked c.parsed.ensures.fault
    c.answer.ensures)
    (λ job other. none_among (texts_of c.args.words.now) asks.0 asks.1 other.faultless)
    (λ stop. helped (texts_of c.args.words.now) stop asks sound)

pub returns-clause-faulty : goal.returns-clause-faulty
returns-clause-faulty c = λ fault no_help. stops_with (texts_of c.args.words.now) 2 _
    (asked (texts_of c.args.words.now) c.parsed.result _ c.parsed.ensures.asked c.answer.ensures)
    (stopped (texts_of c.args.words.now) c.parsed.result _ c.parsed.ensures.asked c.parsed.ensures.fault
    c.answer.ensures)
    (λ job other. none_among (texts_of c.args.words.now) fault.0 fault.1 other.faultless)
    (λ stop. refused (texts_of c.args.words.now) stop fault no_help)

pub returns-clause-none : goal.returns-clause-none
returns-clause-none c = λ names. stops_with (texts_of c.args.words.now) 2 _
    (asked (texts_of c.args.words.now) c.parsed.result _ c.parsed.ensures.asked c.answer.ensures)
    (stopped (texts_of c.args.words.now) c.parsed.result _ c.parsed.ensures.asked c.parsed.ensures.fault
    c.answer.ensures)
    (λ job other. names_no_job (texts_of c.args.words.now) job names other)
    (λ stop. nothing (texts_of c.args.words.now) stop names)

pub returns-clause-job : goal.returns-clause-job
returns-clause-job c = λ job asks. only_memory (texts_of c.args.words.now) _ job asks
    (stopped (texts_of c.args.words.now) c.parsed.result _ c.parsed.ensures.asked c.parsed.ensures.fault
    c.answer.ensures)
