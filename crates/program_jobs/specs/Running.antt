-- What a run of the whole program does.
use Rattle.std.specs.Prelude.{◌≡◌, ◌≢◌, ℕ, List, [], ◌∷◌, ◌++◌, Option, String, Vec, codes, map, ⊤}
use Rattle.std.specs.Prelude.{string_bytes}
use Rattle.std.specs.List.{Contains}
use Rattle.std.specs.Cow.{cow_str_bytes}
use Rattle.std.specs.declared.result.Result.{Result}
use Rattle.std.specs.declared.result.Result.TheVariants.{Ok, Err}
use Rattle.std.specs.Io.KnownBytes.{Appends}
use Rattle.std.specs.IoError.{error_kind}
use Rattle.std.specs.declared.io.Error.{Error}
use Rattle.std.specs.declared.io.ErrorKind.{ErrorKind}
use Rattle.std.specs.declared.io.ErrorKind.TheVariants.{OutOfMemory}
use Rattle.program_arguments.specs.declared.job.Job.{Job}
use Rattle.program_arguments.specs.declared.job.Stop.{Stop}
use Rattle.program_arguments.specs.Asking.{Asks, Stops, texts_of}
use Rattle.program_jobs.specs.declared.failure.Failure.{Failure}
use Rattle.program_jobs.specs.declared.failure.Failure.TheVariants.{CannotRead, TooLong, BadLine}
use Rattle.program_jobs.specs.declared.failure.Failure.TheVariants.{LongRecording, BadTablesLine}
use Rattle.program_jobs.specs.declared.failure.Failure.TheVariants.{BreaksRule}
use Rattle.program_jobs.specs.declared.failure.Failure.TheVariants.{CannotWrite, SocketFailed}
use Rattle.program_jobs.specs.declared.failure.Failure.TheVariants.{Memory}
use Rattle.program_jobs.specs.Failing.{IsSocketFailure, failure_line, status_of}
use Rattle.program_jobs.specs.declared.tables.TablesFile.{TablesFile}
use Rattle.program_jobs.specs.Output.{Acted, BindsSocket, NamesFile, NamesPath, ReadsFile, Streams}
use Rattle.program_jobs.specs.Output.{tables_named}
use Rattle.program_jobs.specs.Texts.{Source, sources_of}
use Rattle.program_stream.specs.Writing.{AppendsFront}

-- why a file cannot be opened
abbrev pub IsOpenFailure : List ℕ → ErrorKind → Failure → Type 0
IsOpenFailure name kind (CannotRead named) = (kind ≢ OutOfMemory) × (named.now ≡ name)
IsOpenFailure name kind Memory = kind ≡ OutOfMemory
IsOpenFailure name kind TooLong = ⊥
IsOpenFailure name kind LongRecording = ⊥
IsOpenFailure name kind (BadLine line) = ⊥
IsOpenFailure name kind (BadTablesLine file line) = ⊥
IsOpenFailure name kind (BreaksRule file line rule) = ⊥
IsOpenFailure name kind CannotWrite = ⊥
IsOpenFailure name kind SocketFailed = ⊥

-- Each of these words names table texts; these are the names of their files, in the order of the
-- words.
pub data Finds {A M : Type 0} (finds : List ℕ → Result (Vec (String A) M) Error → Type 0)
    : List (List ℕ) → List (List ℕ) → Type 0 where
  no_word : Finds finds [] []
  one_word : (words names : List (List ℕ)) (word : List ℕ) (found : Vec (String A) M)
      → Finds finds words names → finds word (Ok found)
      → Finds finds (words ++ word ∷ []) (names ++ map string_bytes found.items)

-- the files of these names are open, in the order of the names
pub data AreOpened {R : Type 0} (opens : List ℕ → Result R Error → Type 0)
    : List (List ℕ) → List (TablesFile R) → Type 0 where
  no_file : AreOpened opens [] []
  one_file : (names : List (List ℕ)) (files : List (TablesFile R)) (file : TablesFile R)
      → AreOpened opens names files → opens file.name.now (Ok file.file)
      → AreOpened opens (names ++ file.name.now ∷ []) (files ++ file ∷ [])

-- why finding or opening one of these fails
abbrev pub FailsForOne : {T : Type 0} → (List ℕ → Result T Error → Type 0) → List (List ℕ)
    → Failure → Type 0
FailsForOne calls names (CannotRead name) =
    Contains names name.now
    × ((why : Error) × calls name.now (Err why) × (error_kind why ≢ OutOfMemory))
FailsForOne calls names Memory = Unit {0}
FailsForOne calls names TooLong = ⊥
FailsForOne calls names LongRecording = ⊥
FailsForOne calls names (BadLine line) = ⊥
FailsForOne calls names (BadTablesLine file line) = ⊥
FailsForOne calls names (BreaksRule file line rule) = ⊥
FailsForOne calls names CannotWrite = ⊥
FailsForOne calls names SocketFailed = ⊥

-- The recording of this name is opened and the job is done with it, or the failure to open it is
-- reported.
pub data OpensFile {R O E : Type 0} (remaining : R → Option (List ℕ))
    (contents : O → Option (List ℕ)) (said : E → Option (List ℕ))
    (opens : List ℕ → Result R Error → Type 0) (job : Job) (sources : List Source)
    (name : List ℕ) (out out' : O) (err err' : E) (status : ℕ) : Type 0 where
  opens_it : (file : R) → opens name (Ok file)
      → Acted contents said job sources (remaining file) out out' err err' status
      → OpensFile remaining contents said opens job sources name out out' err err' status
  fails : (why : Error) (failure : Failure) → opens name (Err why)
      → IsOpenFailure name (error_kind why) failure → status ≡ status_of failure
      → out' ≡ out → AppendsFront (said err) (said err') (failure_line failure)
      → OpensFile remaining contents said opens job sources name out out' err err' status

-- The files that the words name are found and opened, and the job is done with them and the
-- recording, which may be opened in another way; or the failure to find or open one is reported,
-- and nothing is printed.
pub data OpensFiles {A M R O E : Type 0} (remaining : R → Option (List ℕ))
    (contents : O → Option (List ℕ)) (said : E → Option (List ℕ))
    (finds : List ℕ → Result (Vec (String A) M) Error → Type 0)
    (opens records : List ℕ → Result R Error → Type 0) (job : Job) (words : List (List ℕ))
    (name : List ℕ) (out out' : O) (err err' : E) (status : ℕ) : Type 0 where
  over : (names : List (List ℕ)) (files : List (TablesFile R))
      → Finds finds words names → AreOpened opens names files
      → OpensFile remaining contents said records job (sources_of remaining files) name out out' err
      err' status
      → OpensFiles remaining contents said finds opens records job words name out out' err err'
      status
  not_found : (failure : Failure) → FailsForOne finds words failure → status ≡ status_of failure
      → out' ≡ out → AppendsFront (said err) (said err') (failure_line failure)
      → OpensFiles remaining contents said finds opens records job words name out out' err err'
      status
  not_opened : (names : List (List ℕ)) (failure : Failure) → Finds finds words names
      → FailsForOne opens names failure → status ≡ status_of failure
      → out' ≡ out → AppendsFront (said err) (said err') (failure_line failure)
      → OpensFiles remaining contents said finds opens records job words name out out' err err'
      status

-- A job that names files is done with exactly the readers that opening these files gave; the table
-- files are opened first. The recording of a stream is opened in its own way, in which a name may
-- stand for standard input. If one cannot be opened, nothing is printed, and the failure's line
-- goes to standard error; the status is 4 for out of memory, else 3. A job with a socket is done
-- with the one that was bound to its path; if it could not be bound, the same holds. The status is
-- 0 only if the path of that socket was removed. A job with neither is done with empty files.
pub data Opened {A M R S O E : Type 0} (remaining : R → Option (List ℕ))
    (contents : O → Option (List ℕ)) (said : E → Option (List ℕ))
    (finds : List ℕ → Result (Vec (String A) M) Error → Type 0)
    (opens streams : List ℕ → Result R Error → Type 0)
    (binds : List ℕ → Result S Error → Type 0) (removes : S → Result ⊤ Error → Type 0)
    (job : Job) (out out' : O) (err err' : E) (status : ℕ) : Type 0 where
  files : (name : List ℕ) → ReadsFile job → NamesFile job name
      → OpensFiles remaining contents said finds opens opens job (tables_named job) name out out'
      err err' status
      → Opened remaining contents said finds opens streams binds removes job out out' err err'
      status
  stream : (name : List ℕ) → Streams job → NamesFile job name
      → OpensFiles remaining contents said finds opens streams job (tables_named job) name out out'
      err err' status
      → Opened remaining contents said finds opens streams binds removes job out out' err err'
      status
  bound : (path : List ℕ) (socket : S) (sources : List Source) (known : Option (List ℕ))
      → NamesPath job path → binds path (Ok socket)
      → (status ≡ 0 → removes socket (Ok tt))
      → Acted contents said job sources known out out' err err' status
      → Opened remaining contents said finds opens streams binds removes job out out' err err'
      status
  not_bound : (path : List ℕ) (why : Error) (failure : Failure)
      → NamesPath job path → binds path (Err why)
      → IsSocketFailure (error_kind why) failure → status ≡ status_of failure
      → out' ≡ out → AppendsFront (said err) (said err') (failure_line failure)
      → Opened remaining contents said finds opens streams binds removes job out out' err err'
      status
  alone : (sources : List Source) (known : Option (List ℕ))
      → (ReadsFile job → ⊥) → (Streams job → ⊥) → (BindsSocket job → ⊥)
      → Acted contents said job sources known out out' err err' status
      → Opened remaining contents said finds opens streams binds removes job out out' err err'
      status

-- Help is printed and no error is written, unless the output did not take it, or not all of it. For
-- anything else nothing is printed, the status is that of the stop, and its text (or the line for
-- out of memory) goes to standard error, as far as that takes it.
pub data StopTold {O E : Type 0} (contents : O → Option (List ℕ)) (said : E → Option (List ℕ))
    (stop : Stop) (out out' : O) (err err' : E) (status : ℕ) : Type 0 where
  helped : stop.status ≡ 0 → status ≡ 0
      → Appends (contents out) (contents out') (cow_str_bytes stop.text) → err' ≡ err
      → StopTold contents said stop out out' err err' status
  not_taken : stop.status ≡ 0 → status ≡ 3
      → AppendsFront (contents out) (contents out') (cow_str_bytes stop.text)
      → AppendsFront (said err) (said err') (failure_line CannotWrite)
      → StopTold contents said stop out out' err err' status
  no_memory : stop.status ≡ 4 → status ≡ 4
      → out' ≡ out → AppendsFront (said err) (said err') (failure_line Memory)
      → StopTold contents said stop out out' err err' status
  faulty : stop.status ≢ 0 → stop.status ≢ 4 → status ≡ stop.status
      → out' ≡ out → AppendsFront (said err) (said err') (cow_str_bytes stop.text)
      → StopTold contents said stop out out' err err' status

-- the message for words that are not text
abbrev pub no_text_line : List ℕ
no_text_line = codes "error: a word of the command line is not UTF-8\n"

-- Why words could not be read: out of memory, with status 4, or they are not text, with status 2.
pub data Unread {E : Type 0} (said : E → Option (List ℕ)) (kind : ErrorKind) (err err' : E)
    (status : ℕ) : Type 0 where
  no_memory : kind ≡ OutOfMemory → status ≡ 4
      → AppendsFront (said err) (said err') (failure_line Memory)
      → Unread said kind err err' status
  no_text : kind ≢ OutOfMemory → status ≡ 2
      → AppendsFront (said err) (said err') no_text_line
      → Unread said kind err err' status

-- The words ask for a job, and this job is done; or they ask for none, and the reason is reported;
-- or they could not be read.
pub data RunsWords {A M R S O E : Type 0} (words : Result (Vec (String A) M) Error)
    (remaining : R → Option (List ℕ)) (contents : O → Option (List ℕ))
    (said : E → Option (List ℕ)) (finds : List ℕ → Result (Vec (String A) M) Error → Type 0)
    (opens streams : List ℕ → Result R Error → Type 0)
    (binds : List ℕ → Result S Error → Type 0) (removes : S → Result ⊤ Error → Type 0)
    (out out' : O) (err err' : E) (status : ℕ)
    : Type 0 where
  did : (list : Vec (String A) M) (job : Job) → words ≡ Ok list → Asks (texts_of list.items) job
      → Opened remaining contents said finds opens streams binds removes job out out' err err'
      status
      → RunsWords words remaining contents said finds opens streams binds removes out out' err err'
      status
  stopped : (list : Vec (String A) M) (stop : Stop)
      → words ≡ Ok list → Stops (texts_of list.items) stop
      → StopTold contents said stop out out' err err' status
      → RunsWords words remaining contents said finds opens streams binds removes out out' err err'
      status
  not_read : (why : Error) → words ≡ Err why
      → Unread said (error_kind why) err err' status → out' ≡ out
      → RunsWords words remaining contents said finds opens streams binds removes out out' err err'
      status
