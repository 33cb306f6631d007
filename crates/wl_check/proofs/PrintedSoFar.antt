-- What is printed for a session while it goes on.
use Rattle.std.proofs.Common.{◌≡◌, ℕ, ◌+◌, true, Some, List, [], ◌∷◌, ◌++◌, slice_get, refl, sym}
use Rattle.std.proofs.Common.{ap, ◌∙◌, subst, append-nil, append_assoc}
use Rattle.std.specs.Prelude.{OnOk}
use Rattle.std.specs.declared.result.Result.{Result}
use Rattle.std.specs.declared.result.Result.TheVariants.{Ok, Err}
use Rattle.wl_sigs.specs.Tables.{Interface}
use Rattle.wl_recording.specs.Piece.{Piece}
use Rattle.wl_check.specs.declared.session_state.Output.{Output}
use Rattle.wl_check.specs.declared.session_state.Output.TheVariants.{Lines, Nothing}
use Rattle.wl_check.specs.declared.session_state.SessionStatus.{SessionStatus}
use Rattle.wl_check.specs.declared.session_state.SessionStatus.TheVariants.{Open, Ended, Broken}
use Rattle.wl_check.specs.declared.progress.Progress.{Progress}
use Rattle.wl_check.specs.declared.inspector.Inspector.{Inspector}
use Rattle.wl_check.specs.declared.scanning.Scanner.{Scanner}
use Rattle.wl_check.specs.SessionState.{is_going, IsAt, AfterPieces, IsEnd, IsFault, StatusIs}
use Rattle.wl_check.specs.Changes.{Call}
use Rattle.wl_check.specs.Inspected.{printed, HasPassed, Inspected, begun, passed}
use Rattle.wl_check.specs.Merged.{merged_within}
use Rattle.wl_check.specs.Printed.{AreOwnLines, PrintsOn, PrintsPiece}
use Rattle.wl_check.specs.Seen.{known_in}
use Rattle.wl_check.specs.Session.{Session, judged_after, messages, session_of}
use Rattle.wl_check.specs.Trace.{call_line, lines_within, trace_of, wanted}
use Rattle.wl_check.proofs.SessionByMessage.{open_passed}
use Rattle.wl_check.proofs.Lines.{lines_more, trace_all, trace_broken, trace_end}
use Rattle.wl_check.proofs.SessionByPiece.{lines_same, one_more}

-- writing one more line
pub prints_line : {A : Type 0} (tables : List Interface) (s : Session) (o : Output) (k : ℕ) (call : Call)
    (p : Progress A) (old new : List ℕ) → slice_get (messages tables s) k ≡ Some (Ok call) → IsAt tables s k p
    → new ≡ old ++ wanted o (call_line tables (known_in p.known) call) → PrintsOn tables s o k (k + 1) old new
prints_line tables s o k call p old new m at new_is earlier old_is =
    let line = wanted o (call_line tables (known_in p.known) call) in
    let more : earlier ++ new ≡ (earlier ++ old) ++ line =
    ap (λ (x : List ℕ). earlier ++ x) new_is ∙ sym (append_assoc earlier old line) in
    lines_more tables s k o call p (earlier ++ old) (earlier ++ new) m at old_is more

-- writing no line
pub prints_none : (tables : List Interface) (s : Session) (o : Output) (k : ℕ) (old new : List ℕ) → new ≡ old
    → PrintsOn tables s o k k old new
prints_none tables s o k old new same earlier old_is = ap (λ (x : List ℕ). earlier ++ x) same ∙ old_is

-- writing twice
pub prints_both : (tables : List Interface) (s : Session) (o x : Output) (first then last : ℕ)
    (old between new : List ℕ) → x ≡ o → PrintsOn tables s o first then old between
    → PrintsOn tables s x then last between new → PrintsOn tables s o first last old new
prints_both tables s o x first then last old between new same one other earlier old_is =
    let more : PrintsOn tables s o then last between new =
    subst (λ (y : Output). PrintsOn tables s y then last between new) same other in
    more earlier (one earlier old_is)

-- ---- after the pieces, the lines of all judged messages are the trace

lines_reach_as : {A : Type 0} (limit : ℕ) (tables : List Interface) (ps : List Piece) (s : Scanner A)
    (status : SessionStatus) → s.state.status ≡ status → AfterPieces limit tables ps s
    → lines_within tables (session_of limit ps) s.state.count ≡ trace_of tables (session_of limit ps)
lines_reach_as limit tables ps s Open e h =
    let t = session_of limit ps in
    let going : is_going s.state.status ≡ true = ap is_going e in
    trace_all tables t s.state.count Lines (lines_within tables t s.state.count) (h.all going)
    (open_passed tables t s.state.count s.state.status going h.judged.status) refl
lines_reach_as limit tables ps s Ended e h =
    let t = session_of limit ps in
    let i : IsEnd (messages tables t) s.state.count =
    subst (λ (x : SessionStatus). StatusIs tables t s.state.count x) e h.judged.status in
    trace_end tables t i.before Lines i.call (lines_within tables t s.state.count) i.is i.ends i.passed
    (ap (λ (k : ℕ). lines_within tables t k) i.last)
lines_reach_as limit tables ps s (Broken f fault) e h =
    let t = session_of limit ps in
    let i : IsFault tables t s.state.count f fault =
    subst (λ (x : SessionStatus). StatusIs tables t s.state.count x) e h.judged.status in
    trace_broken tables t s.state.count Lines fault (lines_within tables t s.state.count) i.is i.passed refl

lines_reach : {A : Type 0} (limit : ℕ) (tables : List Interface) (ps : List Piece) (s : Scanner A)
    → AfterPieces limit tables ps s
    → lines_within tables (session_of limit ps) s.state.count ≡ trace_of tables (session_of limit ps)
lines_reach limit tables ps s h = lines_reach_as limit tables ps s s.state.status refl h

-- what was written for a piece whose messages were judged up to its end
pub prints_piece : {A : Type 0} (limit : ℕ) (tables : List Interface) (o : Output) (ps : List Piece) (p : Piece)
    (s t : Scanner A) (old new : List ℕ) → AfterPieces limit tables ps s → AfterPieces limit tables (ps ++ p ∷ []) t
    → PrintsOn tables (session_of limit (ps ++ p ∷ [])) o s.state.count t.state.count old new
    → PrintsPiece limit tables o ps p old new
prints_piece limit tables o ps p s t old new h after prints earlier old_is =
    let w = session_of limit (ps ++ p ∷ []) in
    let same : trace_of tables (session_of limit ps) ≡ lines_within tables w s.state.count =
    sym (lines_reach limit tables ps s h)
    ∙ lines_same tables (session_of limit ps) w s.state.count (one_more limit tables ps p) h.judged.within in
    prints earlier (old_is ∙ ap (wanted o) same) ∙ ap (wanted o) (lines_reach limit tables (ps ++ p ∷ []) t after)

-- the same with the values that the code has
pub prints_so : {A E : Type 0} (limit : ℕ) (tables : List Interface) (o : Output) (p : Piece) (s t : Scanner A)
    (old new : List ℕ) (r : Result (Unit {0}) E)
    → OnOk r ((ps : List Piece) → AfterPieces limit tables ps s → AfterPieces limit tables (ps ++ p ∷ []) t)
    → OnOk r ((ps : List Piece) → AfterPieces limit tables ps s
    → PrintsOn tables (session_of limit (ps ++ p ∷ [])) o s.state.count t.state.count old new)
    → OnOk r ((ps : List Piece) → AfterPieces limit tables ps s → PrintsPiece limit tables o ps p old new)
prints_so limit tables o p s t old new (Ok x) after prints =
    λ ps h. prints_piece limit tables o ps p s t old new h (after ps h) (prints ps h)
prints_so limit tables o p s t old new (Err e) after prints = tt

-- if nothing was written before a piece, what was written for it are its own lines
pub own_lines : (limit : ℕ) (tables : List Interface) (ps : List Piece) (p : Piece) (old new : List ℕ) → old ≡ []
    → PrintsPiece limit tables Lines ps p old new → AreOwnLines limit tables ps p new
own_lines limit tables ps p old new none prints =
    let before = trace_of tables (session_of limit ps) in
    sym (prints before (ap (λ (x : List ℕ). before ++ x) none ∙ append-nil before))

pub on_ok : {E : Type 0} {X Y : Type 0} (r : Result (Unit {0}) E) → (X → Y) → OnOk r X → OnOk r Y
on_ok (Ok x) f a = f a
on_ok (Err e) f a = tt

-- ---- pieces that pass through an inspector one by one

trace_none : (limit : ℕ) (tables : List Interface) → trace_of tables (session_of limit []) ≡ []
unfolding merged_within judged_after lines_within
trace_none limit tables = refl

wanted_none : (o : Output) → [] ≡ wanted o []
wanted_none Nothing = refl
wanted_none Lines = refl

-- nothing was written before the first piece
pub written_none : (limit : ℕ) (tables : List Interface) (o : Output) (text : List ℕ) → text ≡ []
    → text ≡ wanted o (trace_of tables (session_of limit []))
written_none limit tables o text none = none ∙ wanted_none o ∙ sym (ap (wanted o) (trace_none limit tables))

-- one more piece continues the output
pub written_more : (limit : ℕ) (tables : List Interface) (o x : Output) (ps qs : List Piece) (p : Piece)
    (old new : List ℕ) → x ≡ o → ps ++ p ∷ [] ≡ qs → PrintsPiece limit tables x ps p old new
    → old ≡ wanted o (trace_of tables (session_of limit ps)) → new ≡ wanted o (trace_of tables (session_of limit qs))
written_more limit tables o x ps qs p old new same more prints old_is =
    let goes : PrintsPiece limit tables o ps p old new =
    subst (λ (y : Output). PrintsPiece limit tables y ps p old new) same prints in
    goes [] old_is ∙ ap (λ (l : List Piece). wanted o (trace_of tables (session_of limit l))) more

pub inspected_so : {A : Type 0} (limit : ℕ) (tables : List Interface) (ps : List Piece) (text : List ℕ)
    (i : Inspector A) → Inspected limit tables ps text i
    → (text ≡ trace_of tables (session_of limit ps)) × HasPassed limit tables ps i
inspected_so limit tables _ _ _ (begun h) = (sym (trace_none limit tables), h)
inspected_so limit tables _ _ i (passed {ps = ps} {text = text} {before = before} all step) =
    let earlier = inspected_so limit tables ps text before all in
    let own = step ps earlier.1 in
    (ap (λ (x : List ℕ). x ++ printed i) earlier.0 ∙ sym own.1, own.0)
