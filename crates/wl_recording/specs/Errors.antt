-- How errors are printed.
use Rattle.std.specs.Prelude.{ℕ, List, ◌++◌, codes}
use Rattle.std.specs.Fmt.{decimal}
use Rattle.wl_recording.specs.declared.recording.RecordingError.{RecordingError}
use Rattle.wl_recording.specs.declared.recording.RecordingError.TheVariants.{BadLine, Memory}

abbrev pub recording_error_text : RecordingError → List ℕ
recording_error_text (BadLine line) = codes "line " ++ decimal line ++ codes ": bad line"
recording_error_text Memory = codes "out of memory"
