-- The first broken message of a session of a client is the server's.
use Rattle.std.proofs.Common.{◌≡◌, ℕ, suc, Bool, true, false, cond, List, length, drop, refl}
use Rattle.std.proofs.Common.{nat_lt, slice_get, sym, ap, subst, ◌∙◌, arith}
use Rattle.std.specs.declared.option.Option.{Option}
use Rattle.std.specs.declared.option.Option.TheVariants.{None, Some}
use Rattle.std.specs.declared.result.Result.TheVariants.{Ok}
use Rattle.std.proofs.lemmas.List.{length-take-le, take-append-drop}
use Rattle.std.proofs.lemmas.Option.{slice_get_within}
use Rattle.wl_sigs.specs.Tables.{Interface}
use Rattle.wl_sigs.specs.Valid.{Valid}
use Rattle.wl_objects.specs.declared.error.Fault.{Fault}
use Rattle.wl_recording.specs.declared.piece.Direction.{Direction}
use Rattle.wl_recording.specs.declared.piece.Direction.TheVariants.{ToServer, ToClient}
use Rattle.wl_check.specs.declared.frames.FramedMessage.{FramedMessage}
use Rattle.wl_check.specs.Changes.{Call}
use Rattle.wl_check.specs.Merged.{framed, span}
use Rattle.wl_check.specs.Places.{known}
use Rattle.wl_check.specs.Rules.{judged}
use Rattle.wl_check.specs.Session.{IsFirstBrokenMessage, Judged, Session, changes_at, examined, fault_of, messages}
use Rattle.wl_check.proofs.JudgedByPlaces.{front_known, length_messages, reading}
use Rattle.theory_connection.specs.Meant.{Known, Message, spelled_meant}
use Rattle.theory_recording.specs.Follows.{knowledge}
use Rattle.theory_peers.specs.Blame.{messages_before}
use Rattle.theory_peers.specs.BlameOfServer.{IsFromClient}
use Rattle.theory_peers.specs.FollowsClient.{FollowsClient}
use Rattle.theory_peers.proofs.ClientMoves.{passes_one}
use Rattle.theory_peers.proofs.RunOfClient.{client_run_follows}

-- what is known at a place is what is known after the messages before it
known_before : (tables : List Interface) (session : Session) (place : ℕ) (frame : FramedMessage)
    → slice_get session.frames place ≡ Some frame
    → known (changes_at tables (messages tables session)) (suc place)
    ≡ knowledge tables (messages_before tables session place)
known_before tables session place frame there =
    let ms = messages tables session in
    let e = messages_before tables session place in
    let within = slice_get_within session.frames place frame there in
    let count = length_messages tables session in
    let n : length e ≡ place = length-take-le place ms (omega (arith, within, count)) in
    sym (front_known tables e (drop place ms)
    ∙ (λ i. known (changes_at tables (take-append-drop place ms i)) (suc (n i))))

accepted_not : (n m : ℕ) (o : Option Judged) (call : Call) (fault : Fault) → o ≡ Some (Ok call)
    → cond (nat_lt n m) (fault_of o) None ≡ Some fault → ⊥
accepted_not n m o call fault is broken = by_test (nat_lt n m) (ap (λ (x : Option Judged). fault_of x) is) broken
  where
    by_test : (b : Bool) → fault_of o ≡ None → cond b (fault_of o) None ≡ Some fault → ⊥
    by_test true none h = cc (none, h)
    by_test false none h = cc h

pub first_broken_of_server : (tables : List Interface) (session : Session) (direction : Direction)
    (index offset : ℕ) (fault : Fault) → Valid tables
    → (b : IsFirstBrokenMessage tables session direction index offset fault)
    → IsFromClient tables session b.place → direction ≡ ToClient
first_broken_of_server tables session direction index offset fault v b s =
    b.direction_is ∙ by_direction b.frame.direction refl
  where
    to_server : b.frame.direction ≡ ToServer → ⊥
    to_server is =
        let frame = b.frame in
        let e = messages_before tables session b.place in
        let w = s.next frame b.stands is in
        let run = client_run_follows session.limit tables e s.asked s.told s.client s.remembered v s.run in
        let follows = subst (λ (asked : List (Message Known)). FollowsClient tables e asked s.told s.client s.remembered)
        w.first run in
        let keeps = passes_one session.limit tables e w.request w.others s.told s.client s.remembered
        (session.streams ToServer) frame.start frame.tokens v follows w.placed in
        let same : frame ≡ framed ToServer frame.tokens (span frame.start (length (spelled_meant w.request).bytes)) =
        λ i. record { direction = is i; start = frame.start; size = w.size i; tokens = frame.tokens } in
        let judged_is : judged session.limit tables (known (changes_at tables (messages tables session)) (suc b.place))
        (session.streams frame.direction) frame ≡ Ok keeps.call =
        (λ i. judged session.limit tables (known_before tables session b.place frame b.stands i)
        (session.streams (is i)) (same i)) ∙ keeps.is in
        let there : slice_get (messages tables session) b.place ≡ Some (Ok keeps.call) =
        reading tables session b.place frame b.stands ∙ ap (λ (j : Judged). Some j) judged_is in
        accepted_not b.place (examined (messages tables session)) (slice_get (messages tables session) b.place) keeps.call
        fault there b.broken

    by_direction : (d : Direction) → b.frame.direction ≡ d → d ≡ ToClient
    by_direction ToClient is = refl
    by_direction ToServer is = absurd (to_server is)
