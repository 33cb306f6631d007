-- A session has one verdict.
use Rattle.std.proofs.Common.{◌≡◌, ℕ, suc, ◌<◌, List, Bool, true, false, Some, None, nat_lt, take}
use Rattle.std.proofs.Common.{slice_get, refl, sym, ap, ◌∙◌, arith}
use Rattle.std.proofs.lemmas.Bool.Decides.{nat_tests}
use Rattle.wl_sigs.specs.Tables.{Interface}
use Rattle.wl_objects.specs.declared.error.Fault.{Fault}
use Rattle.wl_check.specs.declared.frames.FramedMessage.{FramedMessage}
use Rattle.wl_check.specs.declared.verdict.Verdict.{Verdict}
use Rattle.wl_check.specs.declared.verdict.Verdict.TheVariants.{Lawful, Broken}
use Rattle.wl_check.specs.Session.{Session, IsVerdictOf, Breaks, breaks, count_in}

-- there is only one first place that breaks a rule
place_once : (tables : List Interface) (s : Session) (p q : ℕ) (f g : Fault) → Breaks tables s p f → Breaks tables s q g
    → ((e : ℕ) → e < p → breaks tables s e ≡ None)
    → ((e : ℕ) → e < q → breaks tables s e ≡ None) → (b c : Bool) → nat_lt p q ≡ b → nat_lt q p ≡ c → p ≡ q
place_once tables s p q f g x y l m true c d e = let none : breaks tables s p ≡ None = m p (grind (arith, nat_tests))
    in absurd (cc (none, x))
place_once tables s p q f g x y l m false true d e = let none : breaks tables s q ≡ None =
    l q (grind (arith, nat_tests)) in absurd (cc (none, y))
place_once tables s p q f g x y l m false false d e = grind (arith, nat_tests)

pub verdict_once : (tables : List Interface) (s : Session) (v w : Verdict) → IsVerdictOf tables s v
    → IsVerdictOf tables s w
    → v ≡ w
verdict_once tables s (Lawful a b c d) (Lawful e f g h) x y =
    let one : a ≡ e = x.1.requests_are ∙ sym y.1.requests_are in
    let two : b ≡ f = x.1.events_are ∙ sym y.1.events_are in
    let three : c ≡ g = x.1.to_server ∙ sym y.1.to_server in
    let four : d ≡ h = x.1.to_client ∙ sym y.1.to_client in
    λ i. Lawful (one i) (two i) (three i) (four i)
verdict_once tables s (Lawful a b c d) (Broken e j o g) x y =
    let none : breaks tables s y.place ≡ None = x.0 y.place in let some = y.broken in absurd (cc (none, some))
verdict_once tables s (Broken d i o f) (Lawful a b c e) x y =
    let none : breaks tables s x.place ≡ None = y.0 x.place in let some = x.broken in absurd (cc (none, some))
verdict_once tables s (Broken d i o f) (Broken e j q g) x y =
    let place : x.place ≡ y.place = place_once tables s x.place y.place f g x.broken y.broken x.least y.least
    (nat_lt x.place y.place) (nat_lt y.place x.place) refl refl in
    let found : Some x.frame ≡ Some y.frame = sym x.stands ∙ ap (slice_get s.frames) place ∙ y.stands in
    let frame : x.frame ≡ y.frame = cc found in
    let broken : Some f ≡ Some g = sym x.broken ∙ ap (breaks tables s) place ∙ y.broken in
    let fault : f ≡ g = cc broken in
    let direction : d ≡ e = x.direction_is ∙ ap (λ (r : FramedMessage). r.direction) frame ∙ sym y.direction_is in
    let count : suc (count_in d (take x.place s.frames)) ≡ suc (count_in e (take y.place s.frames)) =
    (λ k. suc (count_in (direction k) (take (place k) s.frames))) in
    let index : i ≡ j = x.index_is ∙ count ∙ sym y.index_is in
    let offset : o ≡ q = x.offset_is ∙ ap (λ (r : FramedMessage). r.start) frame ∙ sym y.offset_is in
    λ k. Broken (direction k) (index k) (offset k) (fault k)
