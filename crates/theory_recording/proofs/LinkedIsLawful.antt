-- The recording of a linked pair is lawful.
use Rattle.std.proofs.Common.{◌≡◌, ℕ, Bool, true, false, cond, List, [], nat_lt, slice_get, refl, ap, subst}
use Rattle.std.proofs.lemmas.List.{append-nil}
use Rattle.std.specs.declared.option.Option.{Option}
use Rattle.std.specs.declared.option.Option.TheVariants.{None, Some}
use Rattle.wl_sigs.specs.Tables.{Interface}
use Rattle.wl_objects.specs.declared.error.Fault.{Fault}
use Rattle.wl_recording.specs.Piece.{Piece}
use Rattle.wl_check.specs.declared.verdict.Verdict.{Verdict}
use Rattle.wl_check.specs.Session.{Judged, IsLawful, SaysLawful, IsVerdictOf, session_of, messages, examined, fault_of}
use Rattle.wl_check.proofs.Examined.{exact_from}
use Rattle.theory_connection.specs.World.{World}
use Rattle.theory_connection.specs.Pair.{PairState}
use Rattle.theory_connection.specs.Stands.{Stands, stands}
use Rattle.theory_recording.specs.Follows.{AllGoOn}
use Rattle.theory_recording.specs.Linked.{Linked, linked, posted, nothing, judgements, pair_limit}

no_fault : (ms : List Judged) → AllGoOn ms → (k : ℕ) (o : Option Judged) → slice_get ms k ≡ o → fault_of o ≡ None
no_fault ms a k None e = refl
no_fault ms a k (Some one) e = ap (λ (j : Judged). fault_of (Some j)) (a k one e).is

if_none : (b : Bool) (o : Option Fault) → o ≡ None → cond b o None ≡ None
if_none true o e = e
if_none false o e = refl

-- if the session goes on after each message, none breaks a rule
pub all_lawful : (limit : ℕ) (tables : List Interface) (pieces : List Piece) → AllGoOn (judgements limit tables pieces)
    → IsLawful tables (session_of limit pieces)
all_lawful limit tables pieces a k =
    let ms = messages tables (session_of limit pieces) in
    if_none (nat_lt k (examined ms)) (fault_of (slice_get ms k)) (no_fault ms a k (slice_get ms k) refl)

-- the recording of a linked pair is lawful
pub linked_lawful : (p : PairState) (w : World) → Linked p w
    → IsLawful p.server.core.tables (session_of (pair_limit p) p.recording)
linked_lawful p w (linked asked told z l) =
    all_lawful (pair_limit p) p.server.core.tables p.recording l.follows.passed
linked_lawful p w (posted s r) =
    subst (λ (l : List Piece). IsLawful p.server.core.tables (session_of (pair_limit p) l))
    (append-nil p.recording) (r.lawful [] nothing)

-- any verdict of a checker on this recording says that the session is lawful
pub check_says_lawful : (p : PairState) (w : World) → Linked p w → (verdict : Verdict)
    → IsVerdictOf p.server.core.tables (session_of (pair_limit p) p.recording) verdict
    → SaysLawful verdict
check_says_lawful p w l verdict a = (exact_from p.server.core.tables
    (session_of (pair_limit p) p.recording) verdict a).1 (linked_lawful p w l)

-- a linked pair represents its world
pub linked_stands : (p : PairState) (w : World) → Linked p w → Stands p w
linked_stands p w (linked asked told z l) = stands asked told l.stands
linked_stands p w (posted s r) = s
