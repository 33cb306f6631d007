-- A stream that was judged to its end and the line at its end; and a stream as a job.
use Rattle.std.proofs.Common.{◌≡◌, ◌⊎◌, ◌++◌, ℕ, Bool, true, false, List, [], ◌∷◌, Option, Some, Global, String, map}
use Rattle.std.proofs.Common.{refl, sym, subst, inl, inr}
use Rattle.std.specs.Prelude.{Vec, string_bytes}
use Rattle.std.proofs.lemmas.List.{append-nil}
use Rattle.std.specs.Io.KnownBytes.{Appends}
use Rattle.std.specs.Str.Lines.{lines}
use Rattle.std.proofs.KnownBytes.{Appends-trans}
use Rattle.wl_sigs.specs.Tables.{Interface}
use Rattle.wl_recording.specs.declared.piece.Direction.TheVariants.{ToServer}
use Rattle.wl_recording.specs.Piece.{Piece}
use Rattle.wl_recording.specs.Text.{IsFirstBad, IsGood, LinesTell, TextRecords, skips, tells}
use Rattle.wl_check.specs.declared.verdict.Verdict.{Verdict}
use Rattle.wl_check.specs.Merged.{stream_of}
use Rattle.wl_check.specs.Session.{IsVerdictOf, session_of}
use Rattle.wl_message.specs.declared.limit.Limit.{Limit}
use Rattle.program_arguments.specs.declared.job.Job.{Job}
use Rattle.program_arguments.specs.declared.job.Job.TheVariants.{Stream}
use Rattle.program_stream.specs.declared.error.StreamError.TheVariants as streams
use Rattle.program_stream.specs.Streams.{IsCutShort, IsStreamJudged, wanted_lines}
use Rattle.program_stream.proofs.Fronts.{front_more}
use Rattle.program_jobs.specs.declared.failure.Failure.{Failure}
use Rattle.program_jobs.specs.declared.failure.Failure.TheVariants as failures
use Rattle.program_jobs.specs.Failing.{status_of}
use Rattle.program_jobs.specs.Hint.{hint_of}
use Rattle.program_jobs.specs.Output.{Acted, EndsStream, IsRefused, IsTablesRefusal, PrintsAs, Streamed, StreamedBy}
use Rattle.program_jobs.specs.Output.{end_line, tables_named}
use Rattle.program_jobs.specs.Output.{taken, untaken, no_memory, judged, cut_short, end_not_taken, with_tables, without_tables}
use Rattle.program_jobs.specs.Output.{refused, streamed}
use Rattle.program_jobs.specs.Texts.{Source}
use Rattle.program_jobs.specs.Verdict.{verdict_status}

-- the lines and the line at the end are what `trace` or `check` prints
prints_as : (prints_lines : Bool) (limit : ℕ) (tables : List Interface) (text : List ℕ) (pieces : List Piece)
    (verdict : Verdict) → TextRecords text pieces → IsVerdictOf tables (session_of limit pieces) verdict
    → PrintsAs prints_lines limit tables text
    (wanted_lines prints_lines limit tables pieces ++ end_line prints_lines verdict)
    (hint_of tables (stream_of ToServer pieces) verdict) (verdict_status verdict)
prints_as true limit tables text pieces verdict recorded answers = record {
  pieces = pieces;
  recorded = recorded;
  verdict = verdict;
  answers = answers;
  whole = refl;
  hinted = refl;
  status_is = refl;
}
prints_as false limit tables text pieces verdict recorded answers = record {
  pieces = pieces;
  recorded = recorded;
  verdict = verdict;
  answers = answers;
  whole = refl;
  hinted = refl;
  status_is = refl;
}

-- what is done with the line at the end ends the stream
pub ended : {O E : Type 0} (contents : O → Option (List ℕ)) (said : E → Option (List ℕ)) (prints_lines : Bool)
    (limit : ℕ) (tables : List Interface) (name : List ℕ) (known : Option (List ℕ)) (verdict : Verdict)
    (out mid out' : O) (err err' : E) (status : ℕ)
    → IsStreamJudged prints_lines limit tables known (contents out) (contents mid) verdict
    → EndsStream contents said prints_lines verdict mid out' err err' status
    → Streamed contents said prints_lines limit tables name known out out' err err' status
ended contents said prints_lines limit tables name known verdict out mid out' err err' status j (taken is last same) =
    judged j.text _ _ j.whole
    (subst (PrintsAs prints_lines limit tables j.text
    (wanted_lines prints_lines limit tables j.pieces ++ end_line prints_lines verdict)
    (hint_of tables (stream_of ToServer j.pieces) verdict)) (sym is)
    (prints_as prints_lines limit tables j.text j.pieces verdict j.recorded j.answers))
    (Appends-trans (contents out) (contents mid) (contents out') (wanted_lines prints_lines limit tables j.pieces)
    (end_line prints_lines verdict) j.written last) same
ended contents said prints_lines limit tables name known verdict out mid out' err err' status j (untaken is front line) =
    end_not_taken j.text _ _ (verdict_status verdict) is j.whole
    (prints_as prints_lines limit tables j.text j.pieces verdict j.recorded j.answers)
    (front_more (contents out) (contents mid) (contents out') (wanted_lines prints_lines limit tables j.pieces)
    (end_line prints_lines verdict) j.written front) line
ended {O = O} contents said prints_lines limit tables name known verdict out mid out' err err' status j (no_memory is same line) =
    let none : IsCutShort prints_lines limit tables known (contents out) (contents out') streams.Memory = record {
      text = j.text;
      whole = j.whole;
      before = lines j.text;
      after = [];
      cut = sym (append-nil (lines j.text));
      pieces = j.pieces;
      told = j.recorded;
      cause = tt;
      written = subst (λ (o : O). Appends (contents out) (contents o) (wanted_lines prints_lines limit tables j.pieces))
          (sym same) j.written;
    } in
    cut_short streams.Memory failures.Memory none tt is line

-- why its tables have a fault is why a job prints nothing
tables_refused : (job : Job) (sources : List Source) (known : Option (List ℕ)) (why : Failure)
    → IsTablesRefusal (tables_named job) sources why → IsRefused job sources known why
tables_refused job sources known (failures.CannotRead name) is = inr is
tables_refused job sources known failures.TooLong is = is
tables_refused job sources known failures.LongRecording is = absurd is
tables_refused job sources known (failures.BadLine n) is = absurd is
tables_refused job sources known (failures.BadTablesLine file own) is = is
tables_refused job sources known (failures.BreaksRule file own rule) is = is
tables_refused job sources known failures.CannotWrite is = absurd is
tables_refused job sources known failures.SocketFailed is = absurd is
tables_refused job sources known failures.Memory is = tt

-- a stream is a job
pub acts : {O E : Type 0} (contents : O → Option (List ℕ)) (said : E → Option (List ℕ)) (prints_lines : Bool)
    (tables : Vec (String Global) Global) (limit : Limit) (file : String Global) (sources : List Source)
    (known : Option (List ℕ)) (out out' : O) (err err' : E) (status : ℕ)
    → StreamedBy contents said prints_lines limit.bytes (map string_bytes tables.items) (string_bytes file) sources
    known out out' err err' status
    → Acted contents said (Stream prints_lines tables limit file) sources known out out' err err' status
acts contents said prints_lines tables limit file sources known out out' err err' status (with_tables all loads is) =
    streamed all loads is
acts contents said prints_lines tables limit file sources known out out' err err' status
    (without_tables why is fault same line) =
    refused why is (tables_refused (Stream prints_lines tables limit file) sources known why fault) same line

-- a text that records pieces has no bad line
all_good : (before : List (List ℕ)) (line : List ℕ) (after : List (List ℕ)) (pieces : List Piece)
    → LinesTell (before ++ line ∷ after) pieces → IsGood line
all_good [] line after pieces (skips skipped more) = inl skipped
all_good [] line after (piece ∷ pieces) (tells is more) = inr (piece, is)
all_good (first ∷ before) line after pieces (skips skipped more) = all_good before line after pieces more
all_good (first ∷ before) line after (piece ∷ pieces) (tells is more) = all_good before line after pieces more

records_none : (text : List ℕ) (pieces : List Piece) (n : ℕ) → TextRecords text pieces → IsFirstBad text n → ⊥
records_none text pieces n recorded bad = bad.bad (all_good bad.before bad.line bad.after pieces
    (subst (λ (all : List (List ℕ)). LinesTell all pieces) bad.whole recorded))

prints_none : (prints_lines : Bool) (limit : ℕ) (tables : List Interface) (text output hint : List ℕ) (status n : ℕ)
    → PrintsAs prints_lines limit tables text output hint status → IsFirstBad text n → ⊥
prints_none true limit tables text output hint status n prints bad = records_none text prints.pieces n prints.recorded bad
prints_none false limit tables text output hint status n prints bad = records_none text prints.pieces n prints.recorded bad

-- the statuses of failures
fails : (why : Failure) (status : ℕ) → status ≡ status_of why → (status ≡ 3) ⊎ (status ≡ 4)
fails (failures.CannotRead name) status is = inl is
fails failures.TooLong status is = inl is
fails failures.LongRecording status is = inl is
fails (failures.BadLine n) status is = inl is
fails (failures.BadTablesLine file own) status is = inl is
fails (failures.BreaksRule file own rule) status is = inl is
fails failures.CannotWrite status is = inl is
fails failures.SocketFailed status is = inl is
fails failures.Memory status is = inr is

stream_fails : {O E : Type 0} (contents : O → Option (List ℕ)) (said : E → Option (List ℕ)) (prints_lines : Bool)
    (limit : ℕ) (tables : List Interface) (name text : List ℕ) (out out' : O) (err err' : E) (status n : ℕ)
    → Streamed contents said prints_lines limit tables name (Some text) out out' err err' status → IsFirstBad text n
    → (status ≡ 3) ⊎ (status ≡ 4)
stream_fails contents said prints_lines limit tables name text out out' err err' status n
    (judged all output hint whole prints written same) bad =
    absurd (prints_none prints_lines limit tables text output hint status n
    (subst (λ (t : List ℕ). PrintsAs prints_lines limit tables t output hint status) whole prints) bad)
stream_fails contents said prints_lines limit tables name text out out' err err' status n
    (cut_short error why cut named is line) bad = fails why status is
stream_fails contents said prints_lines limit tables name text out out' err err' status n
    (end_not_taken all output hint other is whole prints front line) bad = inl is

-- a stream with a bad line fails
pub fails_at_bad : {O E : Type 0} (contents : O → Option (List ℕ)) (said : E → Option (List ℕ)) (prints_lines : Bool)
    (limit : ℕ) (words : List (List ℕ)) (name : List ℕ) (sources : List Source) (text : List ℕ) (out out' : O)
    (err err' : E) (status n : ℕ)
    → StreamedBy contents said prints_lines limit words name sources (Some text) out out' err err' status
    → IsFirstBad text n → (status ≡ 3) ⊎ (status ≡ 4)
fails_at_bad contents said prints_lines limit words name sources text out out' err err' status n
    (with_tables all loads is) bad =
    stream_fails contents said prints_lines limit all name text out out' err err' status n is bad
fails_at_bad contents said prints_lines limit words name sources text out out' err err' status n
    (without_tables why is fault same line) bad = fails why status is
