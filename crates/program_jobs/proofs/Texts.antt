-- Table texts and pieces, one more at a time.
use Rattle.std.proofs.Common.{◌≡◌, ◌∙◌, ◌⊎◌, ◌+◌, ◌-◌, ◌<◌, ◌≤◌, ℕ, List, [], ◌∷◌, ◌++◌, Option, map, refl, sym, ap}
use Rattle.std.proofs.Common.{◌==◌, Bool, true, false, inl, inr, append_assoc, arith, get_or, length, subst, take}
use Rattle.std.specs.Prelude.{if◌then◌else◌, count_by}
use Rattle.std.proofs.lemmas.Bool.Decides.{nat_tests}
use Rattle.std.proofs.lemmas.Grind.{common_steps}
use Rattle.std.proofs.lemmas.List.{append-nil, flat_map_more, map-append, map_more}
use Rattle.wl_recording.specs.declared.piece.Direction.{Direction}
use Rattle.wl_recording.specs.declared.piece.Direction.TheVariants.{ToServer, ToClient}
use Rattle.wl_recording.specs.Piece.{Piece, own_bytes, recorded_piece}
use Rattle.wl_recording.specs.declared.piece.Passed.{Passed}
use Rattle.wl_check.specs.Merged.{same_direction, stream_of}
use Rattle.std.specs.List.{Contains, IsFirstAndRest, flat_map}
use Rattle.std.specs.Prelude.{OnOk, Result, Ok, Err}
use Rattle.std.specs.Result.{is_ok}
use Rattle.wl_text.specs.declared.fault.TableFault.{TableFault}
use Rattle.wl_text.specs.declared.fault.TableFault.TheVariants as faults
use Rattle.wl_sigs.specs.Tables.{Interface}
use Rattle.wl_sigs.specs.Core.{core_tables}
use Rattle.wl_sigs.specs.Outcome.{outcome}
use Rattle.program_jobs.specs.declared.failure.Failure.{Failure}
use Rattle.program_jobs.specs.declared.failure.Failure.TheVariants.{CannotRead, TooLong, LongRecording, BadLine}
use Rattle.program_jobs.specs.declared.failure.Failure.TheVariants.{BadTablesLine, BreaksRule}
use Rattle.program_jobs.specs.declared.failure.Failure.TheVariants.{CannotWrite, SocketFailed}
use Rattle.program_jobs.specs.declared.failure.Failure.TheVariants.{Memory}
use Rattle.program_jobs.specs.Failing.{IsReadFailure, IsTablesFailure}
use Rattle.program_jobs.specs.Output.{IsTablesRefusal, LoadsTables}
use Rattle.program_jobs.specs.declared.tables.TablesFile.{TablesFile}
use Rattle.program_jobs.specs.declared.tables.ReadText.{ReadText}
use Rattle.program_jobs.specs.Texts.{AreRead, IsTextOf, NamedText, as_one, is_line_feed, lines_in}
use Rattle.program_jobs.specs.Texts.{one_text}
use Rattle.program_jobs.specs.Texts.{Source, named_text, named_texts, own_line, source_of, sources_of}

-- the text of one more file is read
pub read_more : {T A : Type 0} (remaining : T → Option (List ℕ)) (files : List (TablesFile T))
    (texts after : List (ReadText A)) (file : TablesFile T) (text : ReadText A)
    → AreRead (sources_of remaining files) (named_texts texts) → IsTextOf (source_of remaining file) (named_text text)
    → after ≡ texts ++ text ∷ []
    → AreRead (sources_of remaining (files ++ file ∷ [])) (named_texts after)
read_more remaining files texts after file text read one is =
    rw (is, map-append (source_of remaining) files (file ∷ []), map-append named_text texts (text ∷ []))
    (one_text (sources_of remaining files) (named_texts texts) (source_of remaining file) (named_text text) read one)

-- a list of files that is not empty
pub some_sources : {T : Type 0} (remaining : T → Option (List ℕ)) (files : List (TablesFile T)) (n : ℕ) (none : Bool)
    → none ≡ (n == 0) → n ≡ length files → none ≡ false → sources_of remaining files ≡ [] → ⊥
some_sources remaining [] n none is len filled empty =
    let yes : none ≡ true = subst (λ (m : ℕ). none ≡ (m == 0)) len is in
    cc (yes, filled)
some_sources remaining (file ∷ files) n none is len filled empty = cc empty

-- the texts that were read give these tables
pub loads : (sources : List Source) (texts : List NamedText) (core : List Interface) (text : List ℕ)
    (r : Result (List Interface) TableFault) (tables : List Interface) → (sources ≡ [] → ⊥) → AreRead sources texts
    → core ≡ core_tables → text ≡ as_one texts → r ≡ Ok tables
    → (r ≡ outcome core text) ⊎ (r ≡ Err faults.Memory) → LoadsTables sources tables
loads [] texts core text r tables some read c t is exact = absurd (some refl)
loads (source ∷ sources) texts core text r tables some read c t is (inl e) = (texts, read, cc (c, t, is, e))
loads (source ∷ sources) texts core text r tables some read c t is (inr e) = cc (is, e)

-- the texts that were read give no tables
pub gives_none : (given : List (List ℕ)) (sources : List Source) (texts : List NamedText)
    (core : List Interface) (text : List ℕ) (r : Result (List Interface) TableFault) (fault : TableFault)
    (why : Failure) → AreRead sources texts → core ≡ core_tables → text ≡ as_one texts → r ≡ Err fault
    → (r ≡ outcome core text) ⊎ (r ≡ Err faults.Memory)
    → IsTablesFailure given texts fault why → IsTablesRefusal given sources why
gives_none given sources texts core text r (faults.BadLine line) (BadTablesLine file own) read c t is (inl e) said =
    (texts, read, (faults.BadLine line, cc (c, t, is, e), said))
gives_none given sources texts core text r (faults.BadLine line) (BadTablesLine file own) read c t is (inr e) said = cc (is, e)
gives_none given sources texts core text r (faults.BadTable line rule) (BreaksRule file own named) read c t is (inl e) said =
    (texts, read, (faults.BadTable line rule, cc (c, t, is, e), said))
gives_none given sources texts core text r (faults.BadTable line rule) (BreaksRule file own named) read c t is (inr e) said = cc (is, e)
gives_none given sources texts core text r fault Memory read c t is exact said = tt
gives_none given sources texts core text r (faults.BadLine line) (CannotRead name) read c t is exact said = absurd said
gives_none given sources texts core text r (faults.BadLine line) TooLong read c t is exact said = absurd said
gives_none given sources texts core text r (faults.BadLine line) LongRecording read c t is exact said = absurd said
gives_none given sources texts core text r (faults.BadLine line) (BadLine n) read c t is exact said = absurd said
gives_none given sources texts core text r (faults.BadLine line) (BreaksRule file own named) read c t is exact said = absurd said
gives_none given sources texts core text r (faults.BadLine line) CannotWrite read c t is exact said = absurd said
gives_none given sources texts core text r (faults.BadLine line) SocketFailed read c t is exact said = absurd said
gives_none given sources texts core text r (faults.BadTable line rule) (CannotRead name) read c t is exact said = absurd said
gives_none given sources texts core text r (faults.BadTable line rule) TooLong read c t is exact said = absurd said
gives_none given sources texts core text r (faults.BadTable line rule) LongRecording read c t is exact said = absurd said
gives_none given sources texts core text r (faults.BadTable line rule) (BadLine n) read c t is exact said = absurd said
gives_none given sources texts core text r (faults.BadTable line rule) (BadTablesLine file own) read c t is exact said = absurd said
gives_none given sources texts core text r (faults.BadTable line rule) CannotWrite read c t is exact said = absurd said
gives_none given sources texts core text r (faults.BadTable line rule) SocketFailed read c t is exact said = absurd said
gives_none given sources texts core text r faults.Memory (CannotRead name) read c t is exact said = absurd said
gives_none given sources texts core text r faults.Memory TooLong read c t is exact said = absurd said
gives_none given sources texts core text r faults.Memory LongRecording read c t is exact said = absurd said
gives_none given sources texts core text r faults.Memory (BadLine n) read c t is exact said = absurd said
gives_none given sources texts core text r faults.Memory (BadTablesLine file own) read c t is exact said = absurd said
gives_none given sources texts core text r faults.Memory (BreaksRule file own named) read c t is exact said = absurd said
gives_none given sources texts core text r faults.Memory CannotWrite read c t is exact said = absurd said
gives_none given sources texts core text r faults.Memory SocketFailed read c t is exact said = absurd said

-- the file that could not be read is one of the job's
pub unread : (given : List (List ℕ)) (sources : List Source) (source : Source) (why : Failure)
    → Contains sources source → IsReadFailure source.name source.known why → IsTablesRefusal given sources why
unread given sources source (CannotRead name) one is = (source, one, sym is)
unread given sources source TooLong one is = (source, one, is)
unread given sources source LongRecording one is = absurd is
unread given sources source Memory one is = tt
unread given sources source (BadLine n) one is = absurd is
unread given sources source (BadTablesLine file own) one is = absurd is
unread given sources source (BreaksRule file own rule) one is = absurd is
unread given sources source CannotWrite one is = absurd is
unread given sources source SocketFailed one is = absurd is

-- a line feed, and the text after it
abbrev pub after_feed : NamedText → List ℕ
after_feed text = 10 ∷ text.bytes

-- one more text is joined
pub joined_more : {A : Type 0} (begun : List ℕ) (others : List (ReadText A)) (i : ℕ) (text : ReadText A)
    (whole fed after bytes : List ℕ) → i < length others → text ≡ get_or others i text
    → whole ≡ begun ++ flat_map after_feed (named_texts (take i others)) → fed ≡ whole ++ 10 ∷ []
    → after ≡ fed ++ bytes → bytes ≡ text.bytes.items
    → after ≡ begun ++ flat_map after_feed (named_texts (take (i + 1) others))
joined_more begun others i text whole fed after bytes lt at so_far feeds more is =
    let done : after ≡ (begun ++ flat_map after_feed (named_texts (take i others))) ++ after_feed (named_text text) =
    more ∙ ap (λ (l : List ℕ). l ++ bytes) feeds ∙ ap (λ (l : List ℕ). (whole ++ 10 ∷ []) ++ l) is
    ∙ append_assoc whole (10 ∷ []) text.bytes.items
    ∙ ap (λ (l : List ℕ). l ++ after_feed (named_text text)) so_far in
    rw (map_more named_text others i text lt, ← at)
    (done ∙ flat_map_more after_feed begun (named_texts (take i others)) (named_text text))

-- all texts are joined
pub joined_all : {A : Type 0} (texts : List (ReadText A)) (first : ReadText A) (others : List (ReadText A))
    (begun whole : List ℕ) → IsFirstAndRest texts first others → begun ≡ first.bytes.items
    → whole ≡ begun ++ flat_map after_feed (named_texts others) → whole ≡ as_one (named_texts texts)
joined_all texts first others begun whole parts begins is =
    rw (parts.0) (is ∙ ap (λ (l : List ℕ). l ++ flat_map after_feed (named_texts others)) begins)

-- a line of the first text
pub place_here : (text : NamedText) (texts : List NamedText) (line : ℕ)
    → line - count_by is_line_feed text.bytes ≤ 1 → own_line (text ∷ texts) line ≡ (text.name, line)
place_here text texts line within =
    let le : line ≤ lines_in text.bytes = omega (arith, within) in
    grind (arith, nat_tests, le)

pub place_after : (text : NamedText) (texts : List NamedText) (line next : ℕ)
    → 1 < line - count_by is_line_feed text.bytes → next + 1 ≡ line - count_by is_line_feed text.bytes
    → own_line (text ∷ texts) line ≡ own_line texts next
place_after text texts line next beyond is =
    let lt : lines_in text.bytes < line = omega (arith, beyond) in
    let left : line - lines_in text.bytes ≡ next = omega (arith, beyond, is) in
    subst (λ (m : ℕ). own_line (text ∷ texts) line ≡ own_line texts m) left (grind (arith, nat_tests, lt))

-- a piece's bytes to the server
own_is : (direction : Direction) (bytes : List ℕ)
    → (if same_direction direction ToServer then bytes else []) ≡ own_bytes ToServer direction bytes
own_is ToServer bytes = refl
own_is ToClient bytes = refl

pub stream_push : (pieces : List Piece) (piece : Piece)
    → stream_of ToServer (pieces ++ piece ∷ [])
    ≡ stream_of ToServer pieces ++ own_bytes ToServer piece.direction piece.bytes
stream_push [] piece = append-nil _ ∙ own_is piece.direction piece.bytes
stream_push (first ∷ pieces) piece =
    ap (λ (l : List ℕ). (if same_direction first.direction ToServer then first.bytes else []) ++ l)
    (stream_push pieces piece)
    ∙ sym (append_assoc (if same_direction first.direction ToServer then first.bytes else [])
    (stream_of ToServer pieces) (own_bytes ToServer piece.direction piece.bytes))

pub stream_take : {A : Type 0} (all : List (Passed A)) (i : ℕ) (x : Passed A) → i < length all → x ≡ get_or all i x
    → stream_of ToServer (map recorded_piece (take (i + 1) all))
    ≡ stream_of ToServer (map recorded_piece (take i all))
    ++ own_bytes ToServer (recorded_piece x).direction (recorded_piece x).bytes
stream_take all i x lt is =
    rw (map_more recorded_piece all i x lt, ← is) (stream_push (map recorded_piece (take i all)) (recorded_piece x))

-- three texts are appended
pub three_appended : (old a b c x y z : List ℕ) → x ≡ old ++ a → y ≡ x ++ b → z ≡ y ++ c → z ≡ old ++ (a ++ (b ++ c))
three_appended old a b c x y z e f g =
    g ∙ ap (λ (l : List ℕ). l ++ c) (f ∙ ap (λ (l : List ℕ). l ++ b) e) ∙ append_assoc (old ++ a) b c
    ∙ append_assoc old a (b ++ c)

pub three_appended_ok : {X E : Type 0} (r : Result X E) (old a b c x y z : List ℕ) → x ≡ old ++ a → y ≡ x ++ b
    → z ≡ (if is_ok r then y ++ c else y) → OnOk r (z ≡ old ++ (a ++ (b ++ c)))
three_appended_ok (Ok done) old a b c x y z e f g = three_appended old a b c x y z e f g
three_appended_ok (Err why) old a b c x y z e f g = tt

-- six texts are appended, two of them numbers
six_appended : (old a b c d e f x z d' f' : List ℕ) → x ≡ old ++ (a ++ (b ++ c)) → z ≡ x ++ (d ++ (e ++ f))
    → d ≡ d' → f ≡ f' → z ≡ old ++ (a ++ b ++ c ++ d' ++ e ++ f')
six_appended old a b c d e f x z d' f' one two p q = grind (arith, common_steps)

pub six_appended_ok : {X E : Type 0} (r : Result X E) (old a b c d e f x z d' f' : List ℕ)
    → x ≡ old ++ (a ++ (b ++ c)) → OnOk r (z ≡ x ++ (d ++ (e ++ f))) → d ≡ d' → f ≡ f'
    → OnOk r (z ≡ old ++ (a ++ b ++ c ++ d' ++ e ++ f'))
six_appended_ok (Ok done) old a b c d e f x z d' f' one two p q = six_appended old a b c d e f x z d' f' one two p q
six_appended_ok (Err why) old a b c d e f x z d' f' one two p q = tt
