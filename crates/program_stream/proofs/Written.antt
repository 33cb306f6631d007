-- What of a stream was written when it ends.
use Rattle.std.proofs.Common.{◌≡◌, ◌∙◌, ◌+◌, ℕ, Bool, true, false, List, [], ◌++◌, Option, refl, sym, subst}
use Rattle.std.proofs.Common.{append-nil, ap, ◌==◌, None}
use Rattle.std.specs.Prelude.{if◌then◌else◌}
use Rattle.std.specs.declared.io.buffered.BufReader.{BufReader}
use Rattle.std.specs.Io.Buffered.{reader_buffer, reader_capacity, reader_inner, reader_remaining}
use Rattle.std.specs.Io.KnownBytes.{Appends, prepend_known}
use Rattle.std.specs.Str.Lines.{lines}
use Rattle.std.proofs.KnownBytes.{Appends-nil, Appends-trans, Consumes-nil, prepend_known-nil}
use Rattle.wl_sigs.specs.Tables.{Interface}
use Rattle.wl_recording.specs.Piece.{Piece}
use Rattle.wl_recording.specs.Text.{LinesTell, ends}
use Rattle.wl_check.specs.declared.line_judge.LineJudge.{LineJudge}
use Rattle.wl_check.specs.LinesJudged.{HasJudgedLines}
use Rattle.wl_check.specs.Merged.{merged_within}
use Rattle.wl_check.specs.Session.{judged_after}
use Rattle.wl_check.specs.Trace.{lines_within}
use Rattle.program_stream.specs.declared.error.StreamError.{StreamError}
use Rattle.program_stream.specs.declared.error.StreamError.TheVariants.{CannotRead, BadLine, CannotWrite, Memory}
use Rattle.program_stream.specs.Streams.{MayGoOn, HasEnded, HasJudged, IsCutShort, IsReadError, IsStreamedTo, IsStopped}
use Rattle.program_stream.specs.Streams.{IsWhole, WrittenBefore, wanted_lines}
use Rattle.program_stream.specs.Writing.{AppendsFront}
use Rattle.program_stream.proofs.Fronts.{front_more}
use Rattle.program_stream.proofs.Judged.{not_writing, read_cause, stopped_here}
use Rattle.program_stream.proofs.ReadLines.{begins}

-- A stream was judged up to some line.
pub record SoFar (prints_lines : Bool) (limit : ℕ) (tables : List Interface) (known : Option (List ℕ))
    (printed : List ℕ) : Type 0 where
  pub text : List ℕ
  pub whole : IsWhole known text
  pub before : List (List ℕ)
  pub after : List (List ℕ)
  pub cut : lines text ≡ before ++ after
  pub pieces : List Piece
  pub told : LinesTell before pieces
  pub is : printed ≡ wanted_lines prints_lines limit tables pieces

module _ {A : Type 0} (prints_lines : Bool) (limit : ℕ) (tables : List Interface) (known : Option (List ℕ)) where
  reached : (left : Option (List ℕ)) (number : ℕ) (i : LineJudge A) (written waiting : List ℕ)
      → IsStreamedTo prints_lines limit tables known left number i written waiting
      → SoFar prints_lines limit tables known (written ++ waiting)
  reached left number i written waiting r =
      let b = begins known left r.bytes r.consumed in
      record {
        text = b.text;
        whole = b.whole;
        before = r.before;
        after = lines b.rest;
        cut = subst (λ (t : List ℕ). lines t ≡ r.before ++ lines b.rest) (sym b.is) (r.whole b.rest);
        pieces = r.pieces;
        told = r.told;
        is = r.printed;
      }

  ended : (i : LineJudge A) (written waiting : List ℕ) → HasEnded prints_lines limit tables known i written waiting
      → SoFar prints_lines limit tables known (written ++ waiting)
  ended i written waiting r = record {
    text = r.text;
    whole = r.whole;
    before = lines r.text;
    after = [];
    cut = sym (append-nil (lines r.text));
    pieces = r.pieces;
    told = r.recorded;
    is = r.printed;
  }

  pub gone_on : (more : Bool) (left : Option (List ℕ)) (number : ℕ) (i : LineJudge A) (written waiting : List ℕ)
      → MayGoOn more prints_lines limit tables known left number i written waiting
      → SoFar prints_lines limit tables known (written ++ waiting)
  gone_on true left number i written waiting r = reached left (number + 1) i written waiting r
  gone_on false left number i written waiting r = ended i written waiting r

  pub had_reached : (left : Option (List ℕ)) (number : ℕ) (i : LineJudge A) (written waiting : List ℕ)
      → IsStreamedTo prints_lines limit tables known left number i written waiting
      → SoFar prints_lines limit tables known (written ++ waiting)
  had_reached = reached

module _ (prints_lines : Bool) (limit : ℕ) (tables : List Interface) (known : Option (List ℕ)) where
  pub stopped : (why : StreamError) (written waiting : List ℕ)
      → IsStopped prints_lines limit tables known why written waiting
      → SoFar prints_lines limit tables known (written ++ waiting)
  stopped why written waiting r = record {
    text = r.text;
    whole = r.whole;
    before = r.before;
    after = r.after;
    cut = r.cut;
    pieces = r.pieces;
    told = r.told;
    is = r.printed;
  }

  -- the writer failed
  pub untaken : (a b c : Option (List ℕ)) (written waiting : List ℕ) (why : StreamError) → why ≡ CannotWrite
      → SoFar prints_lines limit tables known (written ++ waiting) → Appends a b written → AppendsFront b c waiting
      → IsCutShort prints_lines limit tables known a c why
  untaken a b c written waiting why is s before front =
      subst (IsCutShort prints_lines limit tables known a c) (sym is) (record {
        text = s.text;
        whole = s.whole;
        before = s.before;
        after = s.after;
        cut = s.cut;
        pieces = s.pieces;
        told = s.told;
        cause = tt;
        written = subst (AppendsFront a c) s.is (front_more a b c written waiting before front);
      })

  -- all was written, and the stream cannot go on
  taken_as : (a c : Option (List ℕ)) (output : List ℕ) (why : StreamError) → (why ≡ CannotWrite → ⊥)
      → Appends a c output → WrittenBefore why a c output
  taken_as a c output CannotWrite other h = absurd (other refl)
  taken_as a c output CannotRead other h = h
  taken_as a c output Memory other h = h
  taken_as a c output (BadLine n) other h = h

  pub cut_off : (a b c : Option (List ℕ)) (written waiting : List ℕ) (why : StreamError)
      → IsStopped prints_lines limit tables known why written waiting → Appends a b written → Appends b c waiting
      → IsCutShort prints_lines limit tables known a c why
  cut_off a b c written waiting why r before now = record {
    text = r.text;
    whole = r.whole;
    before = r.before;
    after = r.after;
    cut = r.cut;
    pieces = r.pieces;
    told = r.told;
    cause = r.cause;
    written = subst (WrittenBefore why a c) r.printed
        (taken_as a c (written ++ waiting) why r.takes (Appends-trans a b c written waiting before now));
  }

-- ---- the whole stream

-- A stream was judged up to the end of a line, and all but what waits was written.
pub record JudgedSoFar {A : Type 0} (prints_lines : Bool) (limit : ℕ) (tables : List Interface)
    (known left : Option (List ℕ)) (number : ℕ) (judge : LineJudge A) (old new : Option (List ℕ)) (waiting : List ℕ)
    : Type 0 where
  pub written : List ℕ
  pub to : IsStreamedTo prints_lines limit tables known left number judge written waiting
  pub appended : Appends old new written

-- without a piece there are no lines
none_wanted : (prints_lines : Bool) (limit : ℕ) (tables : List Interface) → [] ≡ wanted_lines prints_lines limit tables []
unfolding merged_within judged_after lines_within
none_wanted true limit tables = refl
none_wanted false limit tables = refl

module _ {A : Type 0} (prints_lines : Bool) (limit : ℕ) (tables : List Interface) (known : Option (List ℕ)) where
  -- before the first line
  pub begun : (judge : LineJudge A) (old : Option (List ℕ)) → HasJudgedLines prints_lines limit tables [] judge
      → JudgedSoFar prints_lines limit tables known known 0 judge old old []
  begun judge old h = record {
    written = [];
    to = record {
      bytes = [];
      consumed = Consumes-nil known;
      before = [];
      whole = λ rest. refl;
      count = refl;
      pieces = [];
      told = ends;
      passed = h;
      printed = none_wanted prints_lines limit tables;
    };
    appended = Appends-nil old;
  }

  -- what waits is written
  pub all_written : (left : Option (List ℕ)) (number : ℕ) (judge : LineJudge A) (old mid new : Option (List ℕ))
      (waiting none : List ℕ) → JudgedSoFar prints_lines limit tables known left number judge old mid waiting
      → Appends mid new waiting → none ≡ []
      → JudgedSoFar prints_lines limit tables known left number judge old new none
  all_written left number judge old mid new waiting none j now empty = record {
    written = j.written ++ waiting;
    to = record {
      bytes = j.to.bytes;
      consumed = j.to.consumed;
      before = j.to.before;
      whole = j.to.whole;
      count = j.to.count;
      pieces = j.to.pieces;
      told = j.to.told;
      passed = j.to.passed;
      printed = subst (λ (l : List ℕ). (j.written ++ waiting) ++ l ≡ wanted_lines prints_lines limit tables j.to.pieces)
          (sym empty) (append-nil (j.written ++ waiting) ∙ j.to.printed);
    };
    appended = Appends-trans old mid new j.written waiting j.appended now;
  }

  -- the stream has ended, and the last lines are written
  pub has_judged : (judge : LineJudge A) (old mid new : Option (List ℕ)) (written waiting : List ℕ)
      → HasEnded prints_lines limit tables known judge written waiting → Appends old mid written
      → Appends mid new waiting → HasJudged prints_lines limit tables known judge old new
  has_judged judge old mid new written waiting r before now = record {
    text = r.text;
    whole = r.whole;
    pieces = r.pieces;
    recorded = r.recorded;
    passed = r.passed;
    written = subst (Appends old new) r.printed (Appends-trans old mid new written waiting before now);
  }

  -- reading fails after the lines so far
  pub cut_here : (left : Option (List ℕ)) (number : ℕ) (judge : LineJudge A) (old mid new : Option (List ℕ))
      (waiting : List ℕ) (why : StreamError) → IsReadError why
      → JudgedSoFar prints_lines limit tables known left number judge old mid waiting → Appends mid new waiting
      → IsCutShort prints_lines limit tables known old new why
  cut_here left number judge old mid new waiting why is j now =
      cut_off prints_lines limit tables known old mid new j.written waiting why
      (stopped_here prints_lines limit tables known left number judge j.written waiting j.to why is) j.appended now

-- reading fails before the first line
pub cut_at_start : (prints_lines : Bool) (limit : ℕ) (tables : List Interface) (known old : Option (List ℕ))
    (why : StreamError) → IsReadError why → IsCutShort prints_lines limit tables known old old why
cut_at_start prints_lines limit tables known old why is =
    let b = begins known known [] (Consumes-nil known) in
    record {
      text = b.text;
      whole = b.whole;
      before = [];
      after = lines b.text;
      cut = refl;
      pieces = [];
      told = ends;
      cause = read_cause b.text [] why is;
      written = subst (WrittenBefore why old old) (none_wanted prints_lines limit tables)
          (taken_as prints_lines limit tables known old old [] why (not_writing why is) (Appends-nil old));
    }

-- a reader that has read nothing yet
pub fresh_reader : {T A : Type 0} (remaining : T → Option (List ℕ)) (r : BufReader T A) (inner : T)
    → reader_inner r ≡ inner → reader_buffer r ≡ [] → reader_capacity r ≡ 65536
    → reader_remaining remaining r ≡ remaining inner
fresh_reader remaining r inner same empty size =
    ap (λ (n : ℕ). if n == 0 then None else prepend_known (reader_buffer r) (remaining r.inner)) size
    ∙ ap (λ (l : List ℕ). prepend_known l (remaining r.inner)) empty ∙ prepend_known-nil (remaining r.inner)
    ∙ ap remaining same
