-- How many messages were judged: those before the verdict's end.
use Rattle.std.proofs.Common.{◌≡◌, ℕ, true, List, length, refl, sym, ap, ◌∙◌, arith, subst}
use Rattle.wl_sigs.specs.Tables.{Interface}
use Rattle.wl_recording.specs.Piece.{Piece}
use Rattle.wl_check.specs.declared.scanning.Scanner.{Scanner}
use Rattle.wl_check.specs.declared.session_state.SessionStatus.{SessionStatus}
use Rattle.wl_check.specs.declared.session_state.SessionStatus.TheVariants.{Open, Ended, Broken}
use Rattle.wl_check.specs.SessionState.{is_going, AfterPieces, IsEnd, IsFault, StatusIs}
use Rattle.wl_check.specs.Session.{ArePassed, messages, session_of}
use Rattle.wl_check.specs.Trace.{lasting}
use Rattle.wl_check.proofs.JudgedByPlaces.{length_messages}
use Rattle.wl_check.proofs.Lines.{lasting_all, lasting_end, lasting_broken}
use Rattle.wl_check.proofs.SessionByMessage.{open_passed}

count_as : {A : Type 0} (limit : ℕ) (tables : List Interface) (ps : List Piece) (s : Scanner A)
    (status : SessionStatus) → s.state.status ≡ status → AfterPieces limit tables ps s
    → s.state.count ≡ lasting (messages tables (session_of limit ps))
count_as limit tables ps s Open e h =
    let t = session_of limit ps in
    let going : is_going s.state.status ≡ true = ap is_going e in
    let l = length_messages tables t in
    let all = h.all going in
    let n : s.state.count ≡ length (messages tables t) = omega (arith, l, all) in
    n ∙ sym (lasting_all (messages tables t) (subst (ArePassed (messages tables t)) n
    (open_passed tables t s.state.count s.state.status going h.judged.status)))
count_as limit tables ps s Ended e h =
    let t = session_of limit ps in
    let i : IsEnd (messages tables t) s.state.count =
    subst (λ (x : SessionStatus). StatusIs tables t s.state.count x) e h.judged.status in
    let n = i.last in
    let l = lasting_end (messages tables t) i.before i.call i.is i.ends i.passed in
    omega (arith, n, l)
count_as limit tables ps s (Broken f fault) e h =
    let t = session_of limit ps in
    let i : IsFault tables t s.state.count f fault =
    subst (λ (x : SessionStatus). StatusIs tables t s.state.count x) e h.judged.status in
    sym (lasting_broken (messages tables t) s.state.count fault i.is i.passed)

pub judged_count : {A : Type 0} (limit : ℕ) (tables : List Interface) (ps : List Piece) (s : Scanner A)
    → AfterPieces limit tables ps s → s.state.count ≡ lasting (messages tables (session_of limit ps))
judged_count limit tables ps s h = count_as limit tables ps s s.state.status refl h
