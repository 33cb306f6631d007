-- The lines of a trace.
use Rattle.std.proofs.Common.{◌≡◌, ◌↔◌, ℕ, zero, suc, ◌+◌, ◌<◌, Bool, true, false, cond, Some, List}
use Rattle.std.proofs.Common.{[], ◌∷◌, ◌++◌, slice_get, length, refl, sym, ap, ◌∙◌, arith, subst}
use Rattle.std.proofs.Common.{add-one}
use Rattle.std.specs.Prelude.{Option}
use Rattle.std.specs.declared.result.Result.TheVariants.{Ok, Err}
use Rattle.wl_sigs.specs.Tables.{Interface}
use Rattle.wl_objects.specs.declared.error.Fault.{Fault}
use Rattle.wl_check.specs.declared.progress.Progress.{Progress}
use Rattle.wl_check.specs.declared.session_state.Output.{Output}
use Rattle.wl_check.specs.declared.session_state.Output.TheVariants.{Nothing, Lines}
use Rattle.wl_check.specs.Changes.{Call}
use Rattle.wl_check.specs.Places.{KnownAtPlace, known}
use Rattle.wl_check.specs.Session.{Session, Judged, messages, changes_at, ends_session}
use Rattle.wl_check.specs.Trace.{call_line, judged_line, lines_within, lasting, trace_of, wanted}
use Rattle.wl_check.specs.Seen.{known_in}
use Rattle.wl_check.specs.SessionState.{IsAt}
use Rattle.wl_check.specs.Session.{ArePassed}
use Rattle.wl_check.specs.Text.{IsPrinted}
use Rattle.wl_check.proofs.Examined.{behind, first_call, first_some}
use Rattle.wl_check.proofs.JudgedByPlaces.{length_messages}

-- ---- how many messages come before the verdict's end

first_last : (x : Judged) (call : Call) (xs : List Judged) → x ≡ Ok call
    → lasting (x ∷ xs) ≡ cond (ends_session (Ok call)) 1 (suc (lasting xs))
first_last x call xs e = ap (λ (y : Judged). lasting (y ∷ xs)) e

on : (x : Judged) (xs : List Judged) (k : ℕ) → ArePassed (x ∷ xs) (suc k) → lasting (x ∷ xs) ≡ suc (lasting xs)
on x xs k a = let p = a 0 (omega arith) in first_last x p.call xs (first_call x xs p) ∙ rw p.goes_on refl

pub lasting_all : (ms : List Judged) → ArePassed ms (length ms) → lasting ms ≡ length ms
lasting_all [] a = refl
lasting_all (x ∷ xs) a = on x xs (length xs) a ∙ ap suc (lasting_all xs (behind x xs (length xs) a))

pub lasting_end : (ms : List Judged) (k : ℕ) (call : Call) → slice_get ms k ≡ Some (Ok call) → ends_session (Ok call) ≡ true
    → ArePassed ms k → lasting ms ≡ suc k
lasting_end [] k call e ends a = absurd (cc)
lasting_end (x ∷ xs) zero call e ends a = let is : x ≡ Ok call = cc in first_last x call xs is ∙ rw ends refl
lasting_end (x ∷ xs) (suc k) call e ends a = on x xs k a ∙ ap suc (lasting_end xs k call e ends (behind x xs k a))

pub lasting_broken : (ms : List Judged) (k : ℕ) (fault : Fault) → slice_get ms k ≡ Some (Err fault) → ArePassed ms k
    → lasting ms ≡ k
lasting_broken [] k fault e a = absurd (cc)
lasting_broken (x ∷ xs) zero fault e a = let is : x ≡ Err fault = cc in ap (λ (y : Judged). lasting (y ∷ xs)) is
lasting_broken (x ∷ xs) (suc k) fault e a = on x xs k a ∙ ap suc (lasting_broken xs k fault e (behind x xs k a))

-- ---- which messages have a line

passed_more : (x : Judged) (xs : List Judged) (k : ℕ) (call : Call) → x ≡ Ok call → ends_session (Ok call) ≡ false
    → ArePassed xs k → ArePassed (x ∷ xs) (suc k)
passed_more x xs k call is goes a zero h = record { call = call; is = ap (λ (y : Judged). Some y) is; goes_on = goes }
passed_more x xs k call is goes a (suc j) h = let p = a j (omega arith)
    in record { call = p.call; is = p.is; goes_on = p.goes_on }

none_passed : (ms : List Judged) → ArePassed ms 0
none_passed ms j h = absurd (omega arith)

printed_step : (call : Call) (xs : List Judged) (k : ℕ) (b : Bool) → ends_session (Ok call) ≡ b
    → k < cond b 1 (suc (lasting xs)) → ((j : ℕ) → j < lasting xs → IsPrinted xs j) → IsPrinted (Ok call ∷ xs) k
printed_step call xs zero b e h ih = record { call = call; is = refl; passed = none_passed (Ok call ∷ xs) }
printed_step call xs (suc k) true e h ih = absurd (omega (arith, h))
printed_step call xs (suc k) false e h ih =
    let i = ih k (omega (arith, h)) in
    record { call = i.call; is = i.is; passed = passed_more (Ok call) xs k call refl e i.passed }

printed_from : (ms : List Judged) (k : ℕ) → k < lasting ms → IsPrinted ms k
printed_from [] k h = absurd (omega (arith, h))
printed_from (Err fault ∷ xs) k h = absurd (omega (arith, h))
printed_from (Ok call ∷ xs) k h = printed_step call xs k (ends_session (Ok call)) refl h (printed_from xs)

printed_at : (ms : List Judged) (k : ℕ) → IsPrinted ms k → k < lasting ms
printed_at [] k p = let is = p.is in absurd (cc)
printed_at (x ∷ xs) zero p =
    let is : x ≡ Ok p.call = (let e = p.is in cc) in
    let last = first_last x p.call xs is in
    let some = first_some (ends_session (Ok p.call)) (lasting xs) in
    omega (arith, last, some)
printed_at (x ∷ xs) (suc k) p =
    let e = on x xs k p.passed in
    let i = printed_at xs k (record { call = p.call; is = p.is; passed = behind x xs k p.passed }) in
    omega (arith, e, i)

pub printed_is : (ms : List Judged) (k : ℕ) → (k < lasting ms) ↔ IsPrinted ms k
printed_is ms k = (printed_from ms k, printed_at ms k)

-- ---- the lines

-- one more line
line_more : {A : Type 0} (tables : List Interface) (s : Session) (k : ℕ) (call : Call) (p : Progress A)
    → slice_get (messages tables s) k ≡ Some (Ok call) → IsAt tables s k p
    → lines_within tables s k ++ call_line tables (known_in p.known) call ≡ lines_within tables s (k + 1)
unfolding lines_within
line_more tables s k call p m at =
    let w : known (changes_at tables (messages tables s)) (suc k) ≡ known_in p.known = sym at.known_is in
    let l : judged_line tables (known (changes_at tables (messages tables s)) (suc k)) (slice_get (messages tables s) k)
    ≡ call_line tables (known_in p.known) call =
    ap (λ (o : Option Judged). judged_line tables (known (changes_at tables (messages tables s)) (suc k)) o) m
    ∙ ap (λ (x : KnownAtPlace). call_line tables x call) w in
    ap (λ (x : List ℕ). lines_within tables s k ++ x) (sym l)
    ∙ ap (λ (n : ℕ). lines_within tables s n) (sym (add-one k))

wanted_more : (o : Output) (lines line : List ℕ) → wanted o lines ++ wanted o line ≡ wanted o (lines ++ line)
wanted_more Nothing lines line = refl
wanted_more Lines lines line = refl

pub lines_more : {A : Type 0} (tables : List Interface) (s : Session) (k : ℕ) (o : Output) (call : Call)
    (p : Progress A) (old new : List ℕ) → slice_get (messages tables s) k ≡ Some (Ok call) → IsAt tables s k p
    → old ≡ wanted o (lines_within tables s k) → new ≡ old ++ wanted o (call_line tables (known_in p.known) call)
    → new ≡ wanted o (lines_within tables s (k + 1))
lines_more tables s k o call p old new m at old_is new_is =
    let line = call_line tables (known_in p.known) call in
    new_is ∙ ap (λ (x : List ℕ). x ++ wanted o line) old_is ∙ wanted_more o (lines_within tables s k) line
    ∙ ap (wanted o) (line_more tables s k call p m at)

pub trace_all : (tables : List Interface) (s : Session) (k : ℕ) (o : Output) (text : List ℕ) → length s.frames ≡ k
    → ArePassed (messages tables s) k → text ≡ wanted o (lines_within tables s k)
    → text ≡ wanted o (trace_of tables s)
trace_all tables s k o text e a t =
    let l : length (messages tables s) ≡ k = length_messages tables s ∙ e in
    let all : ArePassed (messages tables s) (length (messages tables s)) =
    subst (λ (n : ℕ). ArePassed (messages tables s) n) (sym l) a in
    t ∙ ap (λ (n : ℕ). wanted o (lines_within tables s n)) (sym (lasting_all (messages tables s) all ∙ l))

pub trace_end : (tables : List Interface) (s : Session) (k : ℕ) (o : Output) (call : Call) (text : List ℕ)
    → slice_get (messages tables s) k ≡ Some (Ok call) → ends_session (Ok call) ≡ true
    → ArePassed (messages tables s) k → text ≡ wanted o (lines_within tables s (k + 1))
    → text ≡ wanted o (trace_of tables s)
trace_end tables s k o call text e ends a t =
    let one : k + 1 ≡ suc k = add-one k in
    t ∙ ap (λ (n : ℕ). wanted o (lines_within tables s n)) (one ∙ sym (lasting_end (messages tables s) k call e ends a))

pub trace_broken : (tables : List Interface) (s : Session) (k : ℕ) (o : Output) (fault : Fault) (text : List ℕ)
    → slice_get (messages tables s) k ≡ Some (Err fault) → ArePassed (messages tables s) k
    → text ≡ wanted o (lines_within tables s k) → text ≡ wanted o (trace_of tables s)
trace_broken tables s k o fault text e a t = t ∙ ap (λ (n : ℕ). wanted o (lines_within tables s n))
    (sym (lasting_broken (messages tables s) k fault e a))
