-- The verdict on a session is that of all tables that complete others, if these do not doubt its messages.
use Rattle.std.proofs.Common.{◌≡◌, ℕ, zero, suc, ◌-◌, ◌≤◌, Bool, true, false, cond, nat_lt}
use Rattle.std.proofs.Common.{List, [], ◌∷◌, length, slice_get, take, Some, None, refl, sym, ap, ◌∙◌, arith}
use Rattle.std.proofs.lemmas.Bool.{lt-ltb}
use Rattle.std.proofs.lemmas.Bool.Decides.{nat_tests}
use Rattle.wl_sigs.specs.Tables.{Interface}
use Rattle.wl_objects.specs.declared.error.Fault.{Fault}
use Rattle.wl_recording.specs.declared.piece.Direction.{Direction}
use Rattle.wl_recording.specs.declared.piece.Direction.TheVariants.{ToServer, ToClient}
use Rattle.wl_check.specs.declared.verdict.Verdict.{Verdict}
use Rattle.wl_check.specs.declared.verdict.Verdict.TheVariants.{Lawful, Broken}
use Rattle.wl_check.specs.Session.{Session, Judged, messages, ends_session, examined, fault_of, breaks, ArePassed}
use Rattle.wl_check.specs.Session.{IsFirstBrokenMessage, IsVerdictOf, count_in, end_after}
use Rattle.theory_completion.specs.Completion.{Completes, IsRaised}
use Rattle.theory_completion.specs.Doubt.{is_doubtful, NoneIsDoubtful, KnowsBinds}
use Rattle.theory_completion.proofs.SameMessages.{messages_agree}
use Rattle.theory_completion.proofs.RaisedTables.{raised_agree}

-- ---- two lists of messages that agree up to a place

abbrev Agree : List Judged → List Judged → ℕ → Type 0
Agree xs ys k = (j : ℕ) → j ≤ k → slice_get xs j ≡ slice_get ys j

first_same : (x y : Judged) → Some x ≡ Some y → x ≡ y
first_same x y h = cc

next_lt_by : (a b : ℕ) (c : Bool) → nat_lt a b ≡ c → nat_lt (suc a) (suc b) ≡ c
next_lt_by a b true is = lt-ltb (suc a) (suc b) (grind (arith, nat_tests, is))
next_lt_by a b false is = grind (arith, nat_tests, is)

next_lt : (a b : ℕ) → nat_lt (suc a) (suc b) ≡ nat_lt a b
next_lt a b = next_lt_by a b (nat_lt a b) refl

examined_step : (x y : Judged) (xs ys : List Judged) (j : ℕ) (b : Bool) → ends_session x ≡ b → x ≡ y
    → nat_lt j (examined xs) ≡ nat_lt j (examined ys)
    → nat_lt (suc j) (cond (ends_session x) 1 (suc (examined xs)))
    ≡ nat_lt (suc j) (cond (ends_session y) 1 (suc (examined ys)))
examined_step x y xs ys j true is same rest = rw (← same, is) refl
examined_step x y xs ys j false is same rest =
    rw (← same, is) (next_lt j (examined xs) ∙ rest ∙ sym (next_lt j (examined ys)))

first_is_examined : (b : Bool) (n : ℕ) → nat_lt 0 (cond b 1 (suc n)) ≡ true
first_is_examined true n = refl
first_is_examined false n = lt-ltb 0 (suc n) (omega arith)

examined_same : (xs ys : List Judged) (k j : ℕ) → Agree xs ys k → j ≤ k
    → nat_lt j (examined xs) ≡ nat_lt j (examined ys)
examined_same [] [] k j agree below = refl
examined_same [] (y ∷ ys) k j agree below = let h = agree 0 (omega (arith, below)) in absurd (cc (h))
examined_same (x ∷ xs) [] k j agree below = let h = agree 0 (omega (arith, below)) in absurd (cc (h))
examined_same (x ∷ xs) (y ∷ ys) k zero agree below =
    first_is_examined (ends_session x) (examined xs) ∙ sym (first_is_examined (ends_session y) (examined ys))
examined_same (x ∷ xs) (y ∷ ys) zero (suc j) agree below = absurd (omega (arith, below))
examined_same (x ∷ xs) (y ∷ ys) (suc k) (suc j) agree below =
    examined_step x y xs ys j (ends_session x) refl (first_same x y (agree 0 (omega arith)))
    (examined_same xs ys k j (λ i h. agree (suc i) (omega (arith, h))) (omega (arith, below)))

breaks_same : (one other : List Interface) (s : Session) (k j : ℕ) → Agree (messages one s) (messages other s) k → j ≤ k
    → breaks one s j ≡ breaks other s j
breaks_same one other s k j agree below =
    let e = examined_same (messages one s) (messages other s) k j agree below in
    let m = agree j below in
    λ i. cond (e i) (fault_of (m i)) None

-- ---- what is said

broken_by : (one other : List Interface) (s : Session) (direction : Direction) (index offset : ℕ)
    (fault : Fault) (found : IsFirstBrokenMessage one s direction index offset fault)
    → Agree (messages one s) (messages other s) found.place
    → IsFirstBrokenMessage other s direction index offset fault
broken_by one other s direction index offset fault found agree = record {
  place = found.place;
  frame = found.frame;
  stands = found.stands;
  broken = sym (breaks_same one other s found.place found.place agree (omega arith)) ∙ found.broken;
  least = λ earlier before. sym (breaks_same one other s found.place earlier agree (omega (arith, before)))
      ∙ found.least earlier before;
  direction_is = found.direction_is;
  index_is = found.index_is;
  offset_is = found.offset_is;
}

-- a message that breaks a rule, before any doubt
pub broken_stays : (tables raised other : List Interface) (s : Session) (direction : Direction) (index offset : ℕ)
    (fault : Fault) (found : IsFirstBrokenMessage raised s direction index offset fault)
    → IsRaised tables raised → Completes tables other → NoneIsDoubtful tables raised s found.place
    → KnowsBinds tables raised other s found.place
    → IsFirstBrokenMessage other s direction index offset fault
broken_stays tables raised other s direction index offset fault found is d sure knows =
    broken_by raised other s direction index offset fault found
    (messages_agree tables raised other s found.place is d sure knows)

-- the messages before a doubt that were read
pub passed_stay : (tables raised other : List Interface) (s : Session) (k : ℕ)
    → IsRaised tables raised → Completes tables other → NoneIsDoubtful tables raised s k
    → KnowsBinds tables raised other s k → ArePassed (messages raised s) (suc k) → ArePassed (messages other s) (suc k)
passed_stay tables raised other s k is d sure knows passed j below =
    let p = passed j below in
    let agree = messages_agree tables raised other s k is d sure knows j (omega (arith, below)) in
    record { call = p.call; is = sym agree ∙ p.is; goes_on = p.goes_on }

-- no message is doubtful
abbrev pub AllAreSure : List Interface → List Interface → Session → Type 0
AllAreSure tables raised s = (k : ℕ) → is_doubtful tables raised s k ≡ false

same_list : (xs ys : List Judged) → ((k : ℕ) → slice_get xs k ≡ slice_get ys k) → xs ≡ ys
same_list [] [] same = refl
same_list [] (y ∷ ys) same = let h = same 0 in absurd (cc (h))
same_list (x ∷ xs) [] same = let h = same 0 in absurd (cc (h))
same_list (x ∷ xs) (y ∷ ys) same =
    let front = first_same x y (same 0) in
    let rest = same_list xs ys (λ k. same (suc k)) in
    λ i. front i ∷ rest i

all_same : (tables raised other : List Interface) (s : Session) → IsRaised tables raised → Completes tables other
    → AllAreSure tables raised s → ((k : ℕ) → KnowsBinds tables raised other s k)
    → messages raised s ≡ messages other s
all_same tables raised other s is d sure knows = same_list (messages raised s) (messages other s)
    (λ k. messages_agree tables raised other s k is d (λ j h. sure j) (knows k) k (omega arith))

verdict_by : (one other : List Interface) (s : Session) (verdict : Verdict)
    → messages one s ≡ messages other s → IsVerdictOf one s verdict → IsVerdictOf other s verdict
verdict_by one other s (Lawful requests events left_to_server left_to_client) same said =
    let counted = said.1 in (
      λ k. sym (λ i. cond (nat_lt k (examined (same i))) (fault_of (slice_get (same i) k)) None) ∙ said.0 k,
      record {
        requests_are = counted.requests_are ∙ ap (λ ms. count_in ToServer (take (examined ms) s.frames)) same;
        events_are = counted.events_are ∙ ap (λ ms. count_in ToClient (take (examined ms) s.frames)) same;
        to_server = counted.to_server
            ∙ ap (λ ms. length (s.streams ToServer) - end_after ToServer 0 (take (examined ms) s.frames)) same;
        to_client = counted.to_client
            ∙ ap (λ ms. length (s.streams ToClient) - end_after ToClient 0 (take (examined ms) s.frames)) same;
      },
    )
verdict_by one other s (Broken direction index offset fault) same said =
    broken_by one other s direction index offset fault said (λ j h. ap (λ ms. slice_get ms j) same)

-- the whole verdict, if no message is doubtful
pub verdict_stays : (tables raised other : List Interface) (s : Session) (verdict : Verdict)
    → IsRaised tables raised → Completes tables other → AllAreSure tables raised s
    → ((k : ℕ) → KnowsBinds tables raised other s k) → IsVerdictOf raised s verdict → IsVerdictOf other s verdict
verdict_stays tables raised other s verdict is d sure knows said =
    verdict_by raised other s verdict (all_same tables raised other s is d sure knows) said

-- ---- if no bind is newer than the tables

pub broken_if_known : (tables raised : List Interface) (s : Session) (direction : Direction) (index offset : ℕ)
    (fault : Fault) (found : IsFirstBrokenMessage raised s direction index offset fault)
    → IsRaised tables raised → KnowsBinds tables raised tables s found.place
    → IsFirstBrokenMessage tables s direction index offset fault
broken_if_known tables raised s direction index offset fault found is knows =
    broken_by raised tables s direction index offset fault found (raised_agree tables raised s found.place is knows)

pub verdict_if_known : (tables raised : List Interface) (s : Session) (verdict : Verdict)
    → IsRaised tables raised → ((k : ℕ) → KnowsBinds tables raised tables s k)
    → IsVerdictOf raised s verdict → IsVerdictOf tables s verdict
verdict_if_known tables raised s verdict is knows said = verdict_by raised tables s verdict
    (same_list (messages raised s) (messages tables s) (λ k. raised_agree tables raised s k is (knows k) k (omega arith)))
    said
