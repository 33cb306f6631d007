-- Judging one more line.
use Rattle.std.proofs.Common.{◌≡◌, ◌∙◌, ◌+◌, ◌<◌, ℕ, Bool, true, false, List, [], ◌∷◌, ◌++◌, Option, length, refl, sym, ap}
use Rattle.std.proofs.Common.{subst, append_assoc, append-nil}
use Rattle.std.specs.Io.BufRead.{ends_with_byte}
use Rattle.std.specs.Str.Lines.{lines}
use Rattle.std.proofs.KnownBytes.{Consumes-trans}
use Rattle.std.proofs.lemmas.List.{length_push}
use Rattle.wl_sigs.specs.Tables.{Interface}
use Rattle.wl_recording.specs.Text.{IsFirstBad, LinesTell}
use Rattle.wl_recording.proofs.TextLemmas.{tell_append, tell_good}
use Rattle.wl_check.specs.declared.line_judge.LineJudge.{LineJudge}
use Rattle.program_stream.specs.declared.error.StreamError.{StreamError}
use Rattle.program_stream.specs.declared.error.StreamError.TheVariants.{CannotRead, BadLine, CannotWrite, Memory}
use Rattle.program_stream.specs.Streams.{MayGoOn, HasEnded, IsCause, IsStreamedTo, IsReadError, IsStopped, IsWhole}
use Rattle.program_stream.specs.Streams.{JudgesLine, ReadsLine}
use Rattle.program_stream.proofs.ReadLines.{IsOneLine, bad_one, begins, one_line, whole_after, whole_more}

-- a failure to read has no other cause
pub read_cause : (text : List ℕ) (before : List (List ℕ)) (why : StreamError) → IsReadError why
    → IsCause text before why
read_cause text before CannotRead h = tt
read_cause text before Memory h = tt
read_cause text before CannotWrite h = tt
read_cause text before (BadLine n) h = absurd h

-- and the writer did not fail
pub not_writing : (why : StreamError) → IsReadError why → why ≡ CannotWrite → ⊥
not_writing CannotRead h e = cc e
not_writing Memory h e = cc e
not_writing CannotWrite h e = h
not_writing (BadLine n) h e = h

module _ {A : Type 0} (prints_lines : Bool) (limit : ℕ) (tables : List Interface) (known left : Option (List ℕ))
    (number : ℕ) (judge : LineJudge A) (written waiting : List ℕ)
    (r : IsStreamedTo prints_lines limit tables known left number judge written waiting) where
  -- the lines so far, without what follows
  so_far : lines r.bytes ≡ r.before
  so_far = ap lines (sym (append-nil r.bytes)) ∙ r.whole [] ∙ append-nil r.before

  -- no line was left
  pub ended_before : (after : Option (List ℕ)) (line : List ℕ) → ReadsLine left after line → line ≡ []
      → HasEnded prints_lines limit tables known judge written waiting
  ended_before after line read none =
      let bare : ends_with_byte 10 line ≡ false = ap (ends_with_byte 10) none in
      let all = whole_after known left r.bytes line r.consumed (read.last bare) in
      record {
        text = r.bytes;
        whole = subst (IsWhole known) (ap (λ (l : List ℕ). r.bytes ++ l) none ∙ append-nil r.bytes) all;
        pieces = r.pieces;
        recorded = subst (λ (ls : List (List ℕ)). LinesTell ls r.pieces) (sym so_far) r.told;
        passed = r.passed;
        printed = r.printed;
      }

  -- the stream cannot go on after the lines so far
  pub stopped_here : (why : StreamError) → IsReadError why
      → IsStopped prints_lines limit tables known why written waiting
  stopped_here why is =
      let b = begins known left r.bytes r.consumed in
      record {
        text = b.text;
        whole = b.whole;
        before = r.before;
        after = lines b.rest;
        cut = ap lines b.is ∙ r.whole b.rest;
        pieces = r.pieces;
        told = r.told;
        cause = read_cause b.text r.before why is;
        takes = not_writing why is;
        printed = r.printed;
      }

  module _ (after : Option (List ℕ)) (line : List ℕ) (read : ReadsLine left after line) (some : 0 < length line) where
    abbrev pub one : IsOneLine line
    one = one_line line some read.stops

    -- the next line was judged
    pub goes_on : (next : LineJudge A) (new : List ℕ) (more : Bool) → ends_with_byte 10 line ≡ more
        → JudgesLine prints_lines limit tables r.pieces one.line next waiting new
        → MayGoOn more prints_lines limit tables known after number next written new
    goes_on next new true is judged = record {
      bytes = r.bytes ++ line;
      consumed = Consumes-trans known left after r.bytes line r.consumed read.consumed;
      before = r.before ++ one.line ∷ [];
      whole = whole_more r.bytes line one.line r.before r.whole (one.ended is);
      count = ap (λ (n : ℕ). n + 1) r.count ∙ sym (length_push r.before one.line);
      pieces = r.pieces ++ judged.more;
      told = tell_append r.told judged.told;
      passed = judged.passed;
      printed = ap (λ (l : List ℕ). written ++ l) judged.appended ∙ sym (append_assoc written waiting judged.shown)
          ∙ ap (λ (l : List ℕ). l ++ judged.shown) r.printed ∙ sym judged.lines_are;
    }
    goes_on next new false is judged = record {
      text = r.bytes ++ line;
      whole = whole_after known left r.bytes line r.consumed (read.last is);
      pieces = r.pieces ++ judged.more;
      recorded = subst (λ (ls : List (List ℕ)). LinesTell ls (r.pieces ++ judged.more))
          (sym (r.whole line ∙ ap (λ (ls : List (List ℕ)). r.before ++ ls) one.alone))
          (tell_append r.told judged.told);
      passed = judged.passed;
      printed = ap (λ (l : List ℕ). written ++ l) judged.appended ∙ sym (append_assoc written waiting judged.shown)
          ∙ ap (λ (l : List ℕ). l ++ judged.shown) r.printed ∙ sym judged.lines_are;
    }

    -- the next line is bad, in a text that has it there
    bad_there : (n m : ℕ) (text : List ℕ) (rest : List (List ℕ)) → IsFirstBad line n → m ≡ number + 1
        → IsWhole known text → lines text ≡ r.before ++ one.line ∷ rest
        → IsStopped prints_lines limit tables known (BadLine m) written waiting
    bad_there n m text rest bad is whole cut = record {
      text = text;
      whole = whole;
      before = r.before;
      after = one.line ∷ rest;
      cut = cut;
      pieces = r.pieces;
      told = r.told;
      cause = (
        is ∙ ap (λ (k : ℕ). k + 1) r.count,
        record {
          before = r.before;
          line = one.line;
          after = rest;
          whole = cut;
          place = is ∙ ap (λ (k : ℕ). k + 1) r.count;
          good = tell_good r.told;
          bad = bad_one line one.line n bad one.alone;
        },
      );
      takes = λ e. cc e;
      printed = r.printed;
    }

    -- the next line is bad
    pub bad_next : (n m : ℕ) → IsFirstBad line n → m ≡ number + 1
        → IsStopped prints_lines limit tables known (BadLine m) written waiting
    bad_next n m bad is = by (ends_with_byte 10 line) refl
      where
        by : (b : Bool) → ends_with_byte 10 line ≡ b
            → IsStopped prints_lines limit tables known (BadLine m) written waiting
        by true e =
            let b = begins known after (r.bytes ++ line)
            (Consumes-trans known left after r.bytes line r.consumed read.consumed) in
            bad_there n m b.text (lines b.rest) bad is b.whole
            (ap lines b.is ∙ whole_more r.bytes line one.line r.before r.whole (one.ended e) b.rest
            ∙ append_assoc r.before (one.line ∷ []) (lines b.rest))
        by false e = bad_there n m (r.bytes ++ line) [] bad is
            (whole_after known left r.bytes line r.consumed (read.last e))
            (r.whole line ∙ ap (λ (ls : List (List ℕ)). r.before ++ ls) one.alone)
