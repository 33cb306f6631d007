-- What the program prints for a recording.
use Rattle.std.specs.Prelude.{◌≡◌, ℕ, ◌⊎◌, Bool, true, false, List, [], ◌∷◌, ◌++◌, Option, Ok, Err}
use Rattle.std.specs.Prelude.{map}
use Rattle.std.specs.Prelude.{string_bytes}
use Rattle.std.specs.List.{Contains}
use Rattle.std.specs.Io.KnownBytes.{Appends}
use Rattle.wl_sigs.specs.Tables.{Interface}
use Rattle.wl_sigs.specs.Core.{core_tables}
use Rattle.wl_sigs.specs.Outcome.{outcome}
use Rattle.wl_text.specs.declared.fault.TableFault.{TableFault}
use Rattle.wl_recording.specs.declared.piece.Direction.TheVariants.{ToServer}
use Rattle.wl_recording.specs.Piece.{Piece}
use Rattle.wl_recording.specs.Text.{TextRecords, IsFirstBad}
use Rattle.wl_check.specs.declared.verdict.Verdict.{Verdict}
use Rattle.wl_check.specs.Merged.{stream_of}
use Rattle.wl_check.specs.Session.{IsVerdictOf, session_of}
use Rattle.wl_check.specs.Trace.{trace_of}
use Rattle.wl_check.specs.Verdict.{verdict_line}
use Rattle.program_arguments.specs.declared.job.Job.{Job}
use Rattle.program_arguments.specs.declared.job.Job.TheVariants.{Trace, Check, Stream, Demo, Socket}
use Rattle.program_demo.specs.Demo.{IsShown}
use Rattle.program_socket.specs.Socket.{IsShownOverStreams}
use Rattle.program_stream.specs.Streams.{IsCutShort, IsWhole}
use Rattle.program_stream.specs.declared.error.StreamError.{StreamError}
use Rattle.program_jobs.specs.declared.failure.Failure.{Failure}
use Rattle.program_jobs.specs.declared.failure.Failure.TheVariants.{CannotRead, TooLong, BadLine}
use Rattle.program_jobs.specs.declared.failure.Failure.TheVariants.{LongRecording, BadTablesLine}
use Rattle.program_jobs.specs.declared.failure.Failure.TheVariants.{BreaksRule}
use Rattle.program_jobs.specs.declared.failure.Failure.TheVariants.{CannotWrite, SocketFailed}
use Rattle.program_jobs.specs.declared.failure.Failure.TheVariants.{Memory}
use Rattle.program_jobs.specs.Failing.{IsStreamFailure, IsTablesFailure, failure_line, status_of}
use Rattle.program_jobs.specs.declared.inspecting.Noted.{Noted}
use Rattle.program_jobs.specs.Finding.{finding_line, finding_status, lacking_of}
use Rattle.program_jobs.specs.Hint.{hint_of}
use Rattle.program_jobs.specs.Inspecting.{IsNoted}
use Rattle.program_jobs.specs.Texts.{AreRead, IsFileRead, IsTooLong, NamedText, Source, as_one}
use Rattle.program_stream.specs.Writing.{AppendsFront}
use Rattle.program_jobs.specs.Verdict.{last_line, verdict_status}

-- The text is a recording, and the output is the line of the verdict on it with this limit and
-- these tables.
pub record IsChecked (limit : ℕ) (tables : List Interface) (text output hint : List ℕ) (status : ℕ)
    : Type 0 where
  pub pieces : List Piece
  pub recorded : TextRecords text pieces
  pub verdict : Verdict
  pub answers : IsVerdictOf tables (session_of limit pieces) verdict
  pub whole : output ≡ verdict_line verdict
  pub hinted : hint ≡ hint_of tables (stream_of ToServer pieces) verdict
  pub status_is : status ≡ verdict_status verdict

-- The text is a recording, and the output is the lines of its messages before the verdict's end,
-- followed by the verdict's line if a rule is broken.
pub record IsTraced (limit : ℕ) (tables : List Interface) (text output hint : List ℕ) (status : ℕ)
    : Type 0 where
  pub pieces : List Piece
  pub recorded : TextRecords text pieces
  pub verdict : Verdict
  pub answers : IsVerdictOf tables (session_of limit pieces) verdict
  pub whole : output ≡ trace_of tables (session_of limit pieces) ++ last_line verdict
  pub hinted : hint ≡ hint_of tables (stream_of ToServer pieces) verdict
  pub status_is : status ≡ verdict_status verdict

-- The text is a recording, and the output is the line of the verdict of waywire-inspect on it.
-- There is no hint, because the line has what the tables lack.
pub record IsInspected (limit : ℕ) (tables : List Interface) (text output hint : List ℕ)
    (status : ℕ) : Type 0 where
  pub pieces : List Piece
  pub recorded : TextRecords text pieces
  pub verdict : Verdict
  pub answers : IsVerdictOf tables (session_of limit pieces) verdict
  pub noted : Noted
  pub is_noted : IsNoted limit tables pieces noted
  pub whole : output ≡ finding_line
      (lacking_of tables (stream_of ToServer pieces) noted.is_announced verdict) verdict noted
  pub unhinted : hint ≡ []
  pub status_is : status ≡ finding_status
      (lacking_of tables (stream_of ToServer pieces) noted.is_announced verdict) verdict noted

-- what `check` prints for a text, with `--inspect` or without
abbrev pub ChecksAs : Bool → ℕ → List Interface → List ℕ → List ℕ → List ℕ → ℕ → Type 0
ChecksAs true limit tables text output hint status =
    IsInspected limit tables text output hint status
ChecksAs false limit tables text output hint status =
    IsChecked limit tables text output hint status

-- The tables of a job: the core ones, extended by the texts that were read, joined to one text.
-- Without texts they are the core ones.
abbrev pub LoadsTables : List Source → List Interface → Type 0
LoadsTables [] tables = tables ≡ core_tables
LoadsTables (source ∷ sources) tables =
    (texts : List NamedText) × AreRead (source ∷ sources) texts
    × (outcome core_tables (as_one texts) ≡ Ok tables)

-- What a job prints, its hint on standard error, and its status. A job with a file prints its
-- result for a text that was read, with its tables.
abbrev pub IsDone : Job → List Source → Option (List ℕ) → List ℕ → List ℕ → ℕ → Type 0
IsDone (Trace tables limit file) sources known output hint status =
    (all : List Interface) × LoadsTables sources all
    × ((text : List ℕ) × IsFileRead known text × IsTraced limit.bytes all text output hint status)
IsDone (Check inspects tables limit file) sources known output hint status =
    (all : List Interface) × LoadsTables sources all
    × ((text : List ℕ) × IsFileRead known text
    × ChecksAs inspects limit.bytes all text output hint status)
IsDone (Stream prints_lines tables limit file) sources known output hint status = ⊥
IsDone (Demo piece) sources known output hint status =
    IsShown core_tables piece output × (hint ≡ []) × (status ≡ 0)
IsDone (Socket path) sources known output hint status =
    IsShownOverStreams core_tables output × (hint ≡ []) × (status ≡ 0)

-- the job reads a whole recording before it prints
abbrev pub ReadsFile : Job → Type 0
ReadsFile (Trace tables limit file) = Unit {0}
ReadsFile (Check inspects tables limit file) = Unit {0}
ReadsFile (Stream prints_lines tables limit file) = ⊥
ReadsFile (Demo piece) = ⊥
ReadsFile (Socket path) = ⊥

-- the job judges a recording while it is read
abbrev pub Streams : Job → Type 0
Streams (Stream prints_lines tables limit file) = Unit {0}
Streams (Trace tables limit file) = ⊥
Streams (Check inspects tables limit file) = ⊥
Streams (Demo piece) = ⊥
Streams (Socket path) = ⊥

-- this holds of a stream: whether it prints lines, its limit, and the name of its file
abbrev pub OfStream : Job → (Bool → ℕ → List ℕ → Type 0) → Type 0
OfStream (Stream prints_lines tables limit file) holds =
    holds prints_lines limit.bytes (string_bytes file)
OfStream (Trace tables limit file) holds = ⊥
OfStream (Check inspects tables limit file) holds = ⊥
OfStream (Demo piece) holds = ⊥
OfStream (Socket path) holds = ⊥

-- the file of its recording has this name
abbrev pub NamesFile : Job → List ℕ → Type 0
NamesFile (Trace tables limit file) name = string_bytes file ≡ name
NamesFile (Check inspects tables limit file) name = string_bytes file ≡ name
NamesFile (Stream prints_lines tables limit file) name = string_bytes file ≡ name
NamesFile (Demo piece) name = ⊥
NamesFile (Socket path) name = ⊥

-- the words by which the job names table texts, and folders of them
abbrev pub tables_named : Job → List (List ℕ)
tables_named (Trace tables limit file) = map string_bytes tables.items
tables_named (Check inspects tables limit file) = map string_bytes tables.items
tables_named (Stream prints_lines tables limit file) = map string_bytes tables.items
tables_named (Demo piece) = []
tables_named (Socket path) = []

-- the job binds a socket
abbrev pub BindsSocket : Job → Type 0
BindsSocket (Socket path) = Unit {0}
BindsSocket (Trace tables limit file) = ⊥
BindsSocket (Check inspects tables limit file) = ⊥
BindsSocket (Stream prints_lines tables limit file) = ⊥
BindsSocket (Demo piece) = ⊥

-- and its path is this
abbrev pub NamesPath : Job → List ℕ → Type 0
NamesPath (Socket path) name = string_bytes path ≡ name
NamesPath (Trace tables limit file) name = ⊥
NamesPath (Check inspects tables limit file) name = ⊥
NamesPath (Stream prints_lines tables limit file) name = ⊥
NamesPath (Demo piece) name = ⊥

-- the texts that were read give no tables, because of a fault that this failure reports
abbrev pub GivesNone : List (List ℕ) → List Source → Failure → Type 0
GivesNone given sources why =
    (texts : List NamedText) × AreRead sources texts
    × ((fault : TableFault) × (outcome core_tables (as_one texts) ≡ Err fault)
    × IsTablesFailure given texts fault why)

-- the job reads a recording, and its tables have no fault
abbrev pub FindsTables : Job → List Source → Type 0
FindsTables job sources = ReadsFile job × ((all : List Interface) × LoadsTables sources all)

-- Why table texts give no tables; `given` are the words of the command line that name them. A text
-- is too long if and only if its file has more bytes than may be read. A fault is one of the joined
-- text, and is reported by the file and its line.
abbrev pub IsTablesRefusal : List (List ℕ) → List Source → Failure → Type 0
IsTablesRefusal given sources (CannotRead name) =
    (source : Source) × Contains sources source × (source.name ≡ name.now)
IsTablesRefusal given sources TooLong =
    (source : Source) × Contains sources source × IsTooLong source.known
IsTablesRefusal given sources (BadTablesLine file own) =
    GivesNone given sources (BadTablesLine file own)
IsTablesRefusal given sources (BreaksRule file own rule) =
    GivesNone given sources (BreaksRule file own rule)
IsTablesRefusal given sources Memory = Unit {0}
IsTablesRefusal given sources (BadLine n) = ⊥
IsTablesRefusal given sources LongRecording = ⊥
IsTablesRefusal given sources CannotWrite = ⊥
IsTablesRefusal given sources SocketFailed = ⊥

-- Why a job prints nothing. A file is too long if and only if it has more bytes than may be read.
-- The recording is reported (unreadable, too long, or with a bad line) only if the tables have no
-- fault.
abbrev pub IsRefused : Job → List Source → Option (List ℕ) → Failure → Type 0
IsRefused job sources known (CannotRead name) =
    (FindsTables job sources × NamesFile job name.now)
    ⊎ IsTablesRefusal (tables_named job) sources (CannotRead name)
IsRefused job sources known TooLong = IsTablesRefusal (tables_named job) sources TooLong
IsRefused job sources known LongRecording = FindsTables job sources × IsTooLong known
IsRefused job sources known (BadLine n) =
    FindsTables job sources × ((text : List ℕ) × IsFileRead known text × IsFirstBad text n)
IsRefused job sources known (BadTablesLine file own) =
    IsTablesRefusal (tables_named job) sources (BadTablesLine file own)
IsRefused job sources known (BreaksRule file own rule) =
    IsTablesRefusal (tables_named job) sources (BreaksRule file own rule)
IsRefused job sources known CannotWrite = ⊥
IsRefused job sources known SocketFailed = BindsSocket job
IsRefused job sources known Memory = Unit {0}

-- why a session over a socket prints nothing
abbrev pub IsSocketRefusal : Failure → Type 0
IsSocketRefusal SocketFailed = Unit {0}
IsSocketRefusal Memory = Unit {0}
IsSocketRefusal (CannotRead name) = ⊥
IsSocketRefusal TooLong = ⊥
IsSocketRefusal LongRecording = ⊥
IsSocketRefusal (BadLine n) = ⊥
IsSocketRefusal (BadTablesLine file n) = ⊥
IsSocketRefusal (BreaksRule file n rule) = ⊥
IsSocketRefusal CannotWrite = ⊥

-- Without a hint nothing is written to standard error; a hint is written as far as it is taken.
pub record IsHinted {E : Type 0} (said : E → Option (List ℕ)) (hint : List ℕ) (err err' : E)
    : Type 0 where
  pub none : hint ≡ [] → err' ≡ err
  pub some : AppendsFront (said err) (said err') hint

-- what `trace` or `check` prints for a text
abbrev pub PrintsAs : Bool → ℕ → List Interface → List ℕ → List ℕ → List ℕ → ℕ → Type 0
PrintsAs true limit tables text output hint status =
    IsTraced limit tables text output hint status
PrintsAs false limit tables text output hint status =
    IsChecked limit tables text output hint status

-- What a stream with these tables does. For all its bytes, however many, it prints what `trace` or
-- `check` prints for them, and returns the same status; it has no hint. If it ends early, it prints
-- the lines of the session so far, if it prints lines, and the failure's line goes to standard
-- error, as far as that takes it; or its output was not taken, or not all of it.
pub data Streamed {O E : Type 0} (contents : O → Option (List ℕ)) (said : E → Option (List ℕ))
    (prints_lines : Bool) (limit : ℕ) (tables : List Interface) (name : List ℕ)
    (known : Option (List ℕ)) (out out' : O) (err err' : E) (status : ℕ)
    : Type 0 where
  judged : (text output hint : List ℕ) → IsWhole known text
      → PrintsAs prints_lines limit tables text output hint status
      → Appends (contents out) (contents out') output → err' ≡ err
      → Streamed contents said prints_lines limit tables name known out out' err err' status
  cut_short : (error : StreamError) (why : Failure)
      → IsCutShort prints_lines limit tables known (contents out) (contents out') error
      → IsStreamFailure name error why → status ≡ status_of why
      → AppendsFront (said err) (said err') (failure_line why)
      → Streamed contents said prints_lines limit tables name known out out' err err' status
  end_not_taken : (text output hint : List ℕ) (other : ℕ) → status ≡ 3 → IsWhole known text
      → PrintsAs prints_lines limit tables text output hint other
      → AppendsFront (contents out) (contents out') output
      → AppendsFront (said err) (said err') (failure_line CannotWrite)
      → Streamed contents said prints_lines limit tables name known out out' err err' status

-- the line at the end of a stream
abbrev pub end_line : Bool → Verdict → List ℕ
end_line true verdict = last_line verdict
end_line false verdict = verdict_line verdict

-- What is done with the line at the end: it is written; or it is not taken, or not all of it; or
-- there is no memory for it.
pub data EndsStream {O E : Type 0} (contents : O → Option (List ℕ))
    (said : E → Option (List ℕ)) (prints_lines : Bool) (verdict : Verdict) (out out' : O)
    (err err' : E) (status : ℕ) : Type 0 where
  taken : status ≡ verdict_status verdict
      → Appends (contents out) (contents out') (end_line prints_lines verdict) → err' ≡ err
      → EndsStream contents said prints_lines verdict out out' err err' status
  untaken : status ≡ 3
      → AppendsFront (contents out) (contents out') (end_line prints_lines verdict)
      → AppendsFront (said err) (said err') (failure_line CannotWrite)
      → EndsStream contents said prints_lines verdict out out' err err' status
  no_memory : status ≡ 4 → out' ≡ out
      → AppendsFront (said err) (said err') (failure_line Memory)
      → EndsStream contents said prints_lines verdict out out' err err' status

-- What a stream does: it is judged with its tables, or these have a fault, and it prints nothing.
pub data StreamedBy {O E : Type 0} (contents : O → Option (List ℕ))
    (said : E → Option (List ℕ)) (prints_lines : Bool) (limit : ℕ) (words : List (List ℕ))
    (name : List ℕ) (sources : List Source) (known : Option (List ℕ)) (out out' : O) (err err' : E)
    (status : ℕ) : Type 0 where
  with_tables : (tables : List Interface) → LoadsTables sources tables
      → Streamed contents said prints_lines limit tables name known out out' err err' status
      → StreamedBy contents said prints_lines limit words name sources known out out' err err'
      status
  without_tables : (why : Failure) → status ≡ status_of why → IsTablesRefusal words sources why
      → out' ≡ out → AppendsFront (said err) (said err') (failure_line why)
      → StreamedBy contents said prints_lines limit words name sources known out out' err err'
      status

-- What a job does with readers of its tables and its recording, and two writers. It prints all of
-- its output, and then its hint on standard error; or it prints nothing, and has a failure with its
-- status; or its output was made but not taken, or not all of it. A failure's line goes to standard
-- error, as far as that takes it. A stream prints while it reads (`Streamed`).
pub data Acted {O E : Type 0} (contents : O → Option (List ℕ)) (said : E → Option (List ℕ))
    (job : Job) (sources : List Source) (known : Option (List ℕ)) (out out' : O) (err err' : E)
    (status : ℕ)
    : Type 0 where
  printed : (output hint : List ℕ) → IsDone job sources known output hint status
      → Appends (contents out) (contents out') output → IsHinted said hint err err'
      → Acted contents said job sources known out out' err err' status
  refused : (why : Failure) → status ≡ status_of why → IsRefused job sources known why
      → out' ≡ out → AppendsFront (said err) (said err') (failure_line why)
      → Acted contents said job sources known out out' err err' status
  streamed : (tables : List Interface) → LoadsTables sources tables
      → OfStream job (λ prints_lines limit name. Streamed contents said prints_lines limit tables
      name known out out' err err' status)
      → Acted contents said job sources known out out' err err' status
  not_taken : (output hint : List ℕ) (other : ℕ) → status ≡ 3
      → IsDone job sources known output hint other
      → AppendsFront (contents out) (contents out') output
      → AppendsFront (said err) (said err') (failure_line CannotWrite)
      → Acted contents said job sources known out out' err err' status
