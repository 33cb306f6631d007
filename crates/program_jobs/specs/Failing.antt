-- The program's failures.
use Rattle.std.specs.Prelude.{◌≡◌, ◌≢◌, ℕ, ◌<◌, List, ◌++◌, length, codes, Option, Some, None}
use Rattle.std.specs.Prelude.{IfSome}
use Rattle.std.specs.declared.result.Result.{Result}
use Rattle.std.specs.declared.result.Result.TheVariants.{Ok, Err}
use Rattle.std.specs.Fmt.{decimal}
use Rattle.std.specs.IoError.{error_kind}
use Rattle.std.specs.declared.io.Error.{Error}
use Rattle.wl_recording.specs.declared.recording.RecordingError.{RecordingError}
use Rattle.wl_recording.specs.declared.recording.RecordingError.TheVariants as recordings
use Rattle.wl_recording.specs.Text.{IsFirstBad}
use Rattle.std.specs.declared.io.ErrorKind.{ErrorKind}
use Rattle.std.specs.declared.io.ErrorKind.TheVariants.{OutOfMemory}
use Rattle.wl_text.specs.declared.fault.TableFault.{TableFault}
use Rattle.wl_text.specs.declared.fault.TableFault.TheVariants as faults
use Rattle.program_socket.specs.declared.error.SocketError.{SocketError}
use Rattle.program_socket.specs.declared.error.SocketError.TheVariants as sockets
use Rattle.program_stream.specs.declared.error.StreamError.{StreamError}
use Rattle.program_stream.specs.declared.error.StreamError.TheVariants as streams
use Rattle.program_jobs.specs.Texts.{NamedText, said_line}
use Rattle.program_jobs.specs.declared.failure.Failure.{Failure}
use Rattle.program_jobs.specs.declared.failure.Failure.TheVariants.{CannotRead, TooLong, BadLine}
use Rattle.program_jobs.specs.declared.failure.Failure.TheVariants.{LongRecording, BadTablesLine}
use Rattle.program_jobs.specs.declared.failure.Failure.TheVariants.{BreaksRule}
use Rattle.program_jobs.specs.declared.failure.Failure.TheVariants.{CannotWrite, SocketFailed}
use Rattle.program_jobs.specs.declared.failure.Failure.TheVariants.{Memory}

-- the program's failure for a fault of a recording
abbrev pub recording_failure : RecordingError → Failure
recording_failure (recordings.BadLine line) = BadLine line
recording_failure recordings.Memory = Memory

-- the program's failure for a fault of a table text
abbrev pub IsTablesFailure : List (List ℕ) → List NamedText → TableFault → Failure → Type 0
IsTablesFailure given texts (faults.BadLine line) (BadTablesLine None own) =
    said_line given texts line ≡ (None, own)
IsTablesFailure given texts (faults.BadLine line) (BadTablesLine (Some file) own) =
    said_line given texts line ≡ (Some file.now, own)
IsTablesFailure given texts (faults.BadTable line rule) (BreaksRule None own said) =
    (said_line given texts line ≡ (None, own)) × (said ≡ rule)
IsTablesFailure given texts (faults.BadTable line rule) (BreaksRule (Some file) own said) =
    (said_line given texts line ≡ (Some file.now, own)) × (said ≡ rule)
IsTablesFailure given texts faults.Memory Memory = Unit {0}
IsTablesFailure given texts _ _ = ⊥

-- the program's failure for an error of a session over a socket
abbrev pub socket_failure : SocketError → Failure
socket_failure sockets.Failed = SocketFailed
socket_failure sockets.Memory = Memory

-- why a call of the socket failed
abbrev pub IsSocketFailure : ErrorKind → Failure → Type 0
IsSocketFailure kind SocketFailed = kind ≢ OutOfMemory
IsSocketFailure kind Memory = kind ≡ OutOfMemory
IsSocketFailure kind (CannotRead name) = ⊥
IsSocketFailure kind TooLong = ⊥
IsSocketFailure kind LongRecording = ⊥
IsSocketFailure kind (BadLine line) = ⊥
IsSocketFailure kind (BadTablesLine file line) = ⊥
IsSocketFailure kind (BreaksRule file line rule) = ⊥
IsSocketFailure kind CannotWrite = ⊥

-- the result of a call of the socket, or why it failed, which the kind of its error decides
abbrev pub IsCalled : {T : Type 0} → Result T Error → Result T Failure → Type 0
IsCalled (Ok given) (Ok job) = job ≡ given
IsCalled (Ok given) (Err why) = ⊥
IsCalled (Err error) (Ok job) = ⊥
IsCalled (Err error) (Err why) = IsSocketFailure (error_kind error) why

-- the exit status
abbrev pub status_of : Failure → ℕ
status_of Memory = 4
status_of (CannotRead name) = 3
status_of TooLong = 3
status_of LongRecording = 3
status_of (BadLine line) = 3
status_of (BadTablesLine file line) = 3
status_of (BreaksRule file line rule) = 3
status_of CannotWrite = 3
status_of SocketFailed = 3

-- the text of a failure
abbrev pub failure_text : Failure → List ℕ
failure_text (CannotRead name) = codes "cannot read " ++ name.now
failure_text TooLong = codes "file too long"
failure_text LongRecording =
    codes "file too long\nwaywire: " ++ codes "for a recording of any length, see --stream"
failure_text (BadLine line) = codes "line " ++ decimal line ++ codes ": bad line"
failure_text (BadTablesLine None line) = codes "tables line " ++ decimal line ++ codes ": bad line"
failure_text (BadTablesLine (Some file) line) =
    codes "tables " ++ file.now ++ codes " line " ++ decimal line ++ codes ": bad line"
failure_text (BreaksRule None line rule) =
    codes "tables line " ++ decimal line ++ codes ": breaks V" ++ decimal rule
failure_text (BreaksRule (Some file) line rule) =
    codes "tables " ++ file.now ++ codes " line " ++ decimal line ++ codes ": breaks V"
    ++ decimal rule
failure_text CannotWrite = codes "cannot write"
failure_text SocketFailed = codes "socket failed"
failure_text Memory = codes "out of memory"

-- the line on standard error
abbrev pub failure_line : Failure → List ℕ
failure_line failure = codes "waywire: " ++ failure_text failure ++ codes "\n"

-- a failure to read the file of this name; all its bytes may be known
abbrev pub IsReadFailure : List ℕ → Option (List ℕ) → Failure → Type 0
IsReadFailure file known (CannotRead name) = name.now ≡ file
IsReadFailure file known TooLong = IfSome known (λ all. 16777216 < length all)
IsReadFailure file known LongRecording = ⊥
IsReadFailure file known Memory = Unit {0}
IsReadFailure file known (BadLine line) = ⊥
IsReadFailure file known (BadTablesLine other line) = ⊥
IsReadFailure file known (BreaksRule other line rule) = ⊥
IsReadFailure file known CannotWrite = ⊥
IsReadFailure file known SocketFailed = ⊥

-- a failure to read the recording of this name
abbrev pub IsRecordingFailure : List ℕ → Option (List ℕ) → Failure → Type 0
IsRecordingFailure file known (CannotRead name) = name.now ≡ file
IsRecordingFailure file known LongRecording = IfSome known (λ all. 16777216 < length all)
IsRecordingFailure file known Memory = Unit {0}
IsRecordingFailure file known TooLong = ⊥
IsRecordingFailure file known (BadLine line) = ⊥
IsRecordingFailure file known (BadTablesLine other line) = ⊥
IsRecordingFailure file known (BreaksRule other line rule) = ⊥
IsRecordingFailure file known CannotWrite = ⊥
IsRecordingFailure file known SocketFailed = ⊥

-- why a stream ends early
abbrev pub IsStreamFailure : List ℕ → StreamError → Failure → Type 0
IsStreamFailure file streams.CannotRead (CannotRead name) = name.now ≡ file
IsStreamFailure file (streams.BadLine line) (BadLine n) = n ≡ line
IsStreamFailure file streams.CannotWrite CannotWrite = Unit {0}
IsStreamFailure file streams.Memory Memory = Unit {0}
IsStreamFailure file _ _ = ⊥

-- why a text that was read has no output
abbrev pub IsRefusal : List ℕ → Failure → Type 0
IsRefusal text (BadLine n) = IsFirstBad text n
IsRefusal text Memory = Unit {0}
IsRefusal text (CannotRead name) = ⊥
IsRefusal text TooLong = ⊥
IsRefusal text LongRecording = ⊥
IsRefusal text (BadTablesLine file line) = ⊥
IsRefusal text (BreaksRule file line rule) = ⊥
IsRefusal text CannotWrite = ⊥
IsRefusal text SocketFailed = ⊥
