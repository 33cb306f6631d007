-- Which messages are examined, which are counted, and the verdict.
use Rattle.std.proofs.Common.{◌≡◌, ℕ, zero, suc, ◌+◌, ◌^◌, ◌-◌, ◌<◌, ◌≤◌, Bool, true, false, cond}
use Rattle.std.proofs.Common.{Some, None, List, [], ◌∷◌, slice_get, get_or, length, take, drop}
use Rattle.std.proofs.Common.{refl, sym, ap, ◌∙◌, arith, subst, inl, inr, nat_lt, nat_eq, ◌↔◌}
use Rattle.std.proofs.Common.{add-one, IfOk}
use Rattle.std.specs.Prelude.{Option}
use Rattle.std.specs.declared.result.Result.{Result}
use Rattle.std.specs.declared.result.Result.TheVariants.{Ok, Err}
use Rattle.std.proofs.lemmas.Bool.{cases_lt, cases_order, lt-ltb, le-ltb}
use Rattle.std.proofs.lemmas.Option.{slice_get_past, slice_get-get_or, slice_get_within}
use Rattle.std.proofs.lemmas.List.Sums.{sum_by_more}
use Rattle.std.proofs.Math.Path.{fun_ext}
use Rattle.std.proofs.lemmas.List.{drop-drop}
use Rattle.std.proofs.lemmas.Bool.Decides.{nat_tests}
use Rattle.wl_sigs.specs.Tables.{Interface}
use Rattle.wl_sigs.specs.Fixed.{display}
use Rattle.wl_objects.specs.declared.error.Fault.{Fault}
use Rattle.wl_object_map.specs.declared.object.Entry.{Entry}
use Rattle.wl_object_map.specs.declared.object.State.TheVariants.{Live}
use Rattle.wl_recording.specs.declared.piece.Direction.{Direction}
use Rattle.wl_recording.specs.declared.piece.Direction.TheVariants.{ToServer, ToClient}
use Rattle.wl_check.specs.declared.changes.MessageChanges.{MessageChanges}
use Rattle.wl_check.specs.declared.frames.FramedMessage.{FramedMessage}
use Rattle.wl_check.specs.declared.progress.Tally.{Tally}
use Rattle.wl_check.specs.declared.progress.Progress.{Progress}
use Rattle.wl_check.specs.declared.verdict.Verdict.{Verdict}
use Rattle.wl_check.specs.declared.verdict.Verdict.TheVariants.{Lawful, Broken}
use Rattle.wl_check.specs.Merged.{same_direction}
use Rattle.wl_check.specs.Changes.{Call, changes, beginning}
use Rattle.wl_check.specs.Places.{holder, is_ending, used, server_used, advertised_version, taken, taken_after}
use Rattle.wl_check.specs.Places.{deletes_id, unless_deleted, object_after, KnownAtPlace, known, IsKnownBehind}
use Rattle.wl_check.specs.Places.{IsFirst}
use Rattle.wl_check.specs.Rules.{judged, judged_message, judged_front}
use Rattle.wl_message.specs.Cut.{is_size}
use Rattle.wl_wire.specs.Word.{header_at}
use Rattle.wl_objects.specs.declared.error.Fault.TheVariants.{BadSize}
use Rattle.wl_check.specs.Session.{Session, Judged, changes_at, messages, ends_session, examined}
use Rattle.wl_check.specs.Session.{fault_of, breaks, IsLawful, count_in, end_after, IsVerdictOf}
use Rattle.wl_check.specs.Session.{SaysLawful}
use Rattle.wl_check.specs.Seen.{known_in, tally_after, tally_in, no_tally}
use Rattle.wl_check.specs.SessionState.{IsTallied, IsAt}
use Rattle.wl_check.specs.Session.{Passed, ArePassed}
use Rattle.wl_check.specs.Text.{IsExamined}
use Rattle.wl_check.proofs.KnownBehindMessage.{known_next, named_next}
use Rattle.wl_check.proofs.JudgedByPlaces.{reading, length_messages}

-- ---- which messages are examined

pub behind : (x : Judged) (xs : List Judged) (k : ℕ) → ArePassed (x ∷ xs) (suc k) → ArePassed xs k
behind x xs k a j h = let p = a (suc j) (omega arith) in record { call = p.call; is = p.is; goes_on = p.goes_on }

pub first_call : (x : Judged) (xs : List Judged) (p : Passed (x ∷ xs) 0) → x ≡ Ok p.call
first_call x xs p = let e = p.is in cc

first_on : (x : Judged) (xs : List Judged) (k : ℕ) → ArePassed (x ∷ xs) (suc k) → ends_session x ≡ false
first_on x xs k a = let p = a 0 (omega arith) in let is : x ≡ Ok p.call = (let e = p.is in cc)
    in ap ends_session is ∙ p.goes_on

pub first_some : (b : Bool) (n : ℕ) → 0 < cond b 1 (suc n)
first_some true n = omega arith
first_some false n = omega arith

below_examined : (ms : List Judged) (k : ℕ) (m : Judged) → slice_get ms k ≡ Some m → ArePassed ms k → k < examined ms
below_examined [] k m e a = absurd (cc)
below_examined (x ∷ xs) zero m e a = first_some (ends_session x) (examined xs)
below_examined (x ∷ xs) (suc k) m e a = rw (first_on x xs k a)
    (let i = below_examined xs k m e (behind x xs k a) in omega (arith, i))

all_examined : (ms : List Judged) → ArePassed ms (length ms) → examined ms ≡ length ms
all_examined [] a = refl
all_examined (x ∷ xs) a = rw (first_on x xs (length xs) a) (ap suc (all_examined xs (behind x xs (length xs) a)))

end_examined : (ms : List Judged) (k : ℕ) (m : Judged) → slice_get ms k ≡ Some m → ends_session m ≡ true
    → ArePassed ms k → examined ms ≡ suc k
end_examined [] k m e ends a = absurd (cc)
end_examined (x ∷ xs) zero m e ends a = let is : x ≡ m = cc in let b : ends_session x ≡ true = ap ends_session is ∙ ends
    in rw b refl
end_examined (x ∷ xs) (suc k) m e ends a = rw (first_on x xs k a)
    (ap suc (end_examined xs k m e ends (behind x xs k a)))

-- ---- messages that break no rule

none_either : (b : Bool) → cond b (fault_of None) None ≡ None
none_either true = refl
none_either false = refl

pub fine_at : (tables : List Interface) (s : Session) (j : ℕ) (call : Call)
    → slice_get (messages tables s) j ≡ Some (Ok call) → breaks tables s j ≡ None
fine_at tables s j call e = rw e (none_either (nat_lt j (examined (messages tables s))))

past : (tables : List Interface) (s : Session) (j : ℕ) → length (messages tables s) ≤ j → breaks tables s j ≡ None
past tables s j h = rw (slice_get_past (messages tables s) j h) (none_either (nat_lt j (examined (messages tables s))))

unexamined : (tables : List Interface) (s : Session) (j : ℕ) → examined (messages tables s) ≤ j
    → breaks tables s j ≡ None
unexamined tables s j h = rw (le-ltb j (examined (messages tables s)) h) refl

passed_fine : (tables : List Interface) (s : Session) (k : ℕ) → ArePassed (messages tables s) k → (j : ℕ) → j < k
    → breaks tables s j ≡ None
passed_fine tables s k a j h = let p = a j h in fine_at tables s j p.call p.is

pub lawful_all : (tables : List Interface) (s : Session) → ArePassed (messages tables s) (length (messages tables s))
    → IsLawful tables s
lawful_all tables s a j = elim (cases_lt j (length (messages tables s))) [
  | inl h ↦ passed_fine tables s (length (messages tables s)) a j h
  | inr h ↦ past tables s j h
]

lawful_end : (tables : List Interface) (s : Session) (k : ℕ) (call : Call)
    → slice_get (messages tables s) k ≡ Some (Ok call) → ends_session (Ok call) ≡ true → ArePassed (messages tables s) k
    → IsLawful tables s
lawful_end tables s k call e ends a j = elim (cases_order j k) [
  | inl same ↦ rw same (fine_at tables s k call e)
  | inr o ↦ elim o [
    | inl less ↦ passed_fine tables s k a j less
    | inr more ↦ unexamined tables s j (let x = end_examined (messages tables s) k (Ok call) e ends a
        in omega (arith, x, more))
  ]
]

-- ---- which messages are counted

count_more : (d : Direction) (fs : List FramedMessage) (k : ℕ) (f : FramedMessage) → slice_get fs k ≡ Some f
    → count_in d (take (k + 1) fs) ≡ count_in d (take k fs) + cond (same_direction f.direction d) 1 0
count_more d fs k f e =
    let h = slice_get_within fs k f e in
    let is : get_or fs k f ≡ f = (let g = slice_get-get_or fs k f h in cc) in
    sum_by_more (λ (x : FramedMessage). cond (same_direction x.direction d) 1 0) fs k f h
    ∙ ap (λ (x : FramedMessage). count_in d (take k fs) + cond (same_direction x.direction d) 1 0) is

end_more : (d : Direction) (p : ℕ) (fs : List FramedMessage) (k : ℕ) (f : FramedMessage) → slice_get fs k ≡ Some f
    → end_after d p (take (suc k) fs) ≡ cond (same_direction f.direction d) (f.start + f.size)
    (end_after d p (take k fs))
end_more d p [] k f e = absurd (cc)
end_more d p (x ∷ xs) zero f e = let is : x ≡ f = cc
    in ap (λ (y : FramedMessage). cond (same_direction y.direction d) (y.start + y.size) p) is
end_more d p (x ∷ xs) (suc k) f e = end_more d (cond (same_direction x.direction d) (x.start + x.size) p) xs k f e

tallied_step : (s : Session) (k : ℕ) (d : Direction) (t : Tally) (f : FramedMessage) (b : Bool)
    → slice_get s.frames k ≡ Some f → same_direction f.direction d ≡ b
    → (b ≡ true → f.start + f.size ≤ length (s.streams d)) → IsTallied s k d t
    → IsTallied s (k + 1) d (cond b (record { count = t.count + 1; end = f.start + f.size }) t)
tallied_step s k d t f true e same h i = record {
  count_is = ap (λ (n : ℕ). n + 1) i.count_is ∙ sym (count_more d s.frames k f e ∙ rw same refl);
  end_is = sym (rw add-one (end_more d 0 s.frames k f e ∙ rw same refl));
  within = h refl;
}
tallied_step s k d t f false e same h i = record {
  count_is = (let m = count_more d s.frames k f e in i.count_is ∙ sym (m ∙ rw same (omega arith)));
  end_is = i.end_is ∙ sym (rw add-one (end_more d 0 s.frames k f e ∙ rw same refl));
  within = i.within;
}

pub same_is : (f d : Direction) → same_direction f d ≡ true → f ≡ d
same_is ToServer ToServer e = refl
same_is ToClient ToClient e = refl
same_is ToServer ToClient e = absurd (cc)
same_is ToClient ToServer e = absurd (cc)

tallied_next : (s : Session) (k : ℕ) (d : Direction) (t u : Tally) (f : FramedMessage) → slice_get s.frames k ≡ Some f
    → f.start + f.size ≤ length (s.streams f.direction) → u ≡ tally_after d f t → IsTallied s k d t
    → IsTallied s (k + 1) d u
tallied_next s k d t u f e h is i =
    rw is (tallied_step s k d t f (same_direction f.direction d) e refl
    (λ same. subst (λ (x : Direction). f.start + f.size ≤ length (s.streams x)) (same_is f.direction d same) h) i)

-- ---- a place of the session

-- the message is judged with what is known there
pub message_is : {A : Type 0} (tables : List Interface) (s : Session) (k : ℕ) (f : FramedMessage) (p : Progress A)
    → slice_get s.frames k ≡ Some f → IsAt tables s k p
    → slice_get (messages tables s) k ≡ Some (judged s.limit tables (known_in p.known) (s.streams f.direction) f)
message_is tables s k f p e at = reading tables s k f e
    ∙ ap (λ (x : KnownAtPlace). Some (judged s.limit tables x (s.streams f.direction) f)) (sym at.known_is)

abbrev first_entry : Bool → Option Entry
first_entry b = cond b (Some (record { birth = 0; iface = display; version = 1; state = Live })) None

first_test : (id : ℕ) → nat_eq 1 id ≡ nat_eq id 1
first_test id = grind (arith, nat_tests)

first_step : (b d : Bool) → cond b (first_entry true) (unless_deleted d false None) ≡ first_entry b
first_step true d = refl
first_step false true = refl
first_step false false = refl

first_object : (id : ℕ) → object_after 0 beginning id None ≡ first_entry (nat_eq id 1)
first_object id = first_step (nat_eq 1 id) (deletes_id beginning id) ∙ ap first_entry (first_test id)

first_taken : (d : Direction) → taken_after beginning d 0 ≡ 0
first_taken ToServer = refl
first_taken ToClient = refl

pub known_first : (tables : List Interface) (s : Session) (k : KnownAtPlace) → IsFirst k
    → k ≡ known (changes_at tables (messages tables s)) 1
unfolding holder is_ending used server_used advertised_version taken
known_first tables s k h =
    let o = fun_ext (λ id. h.objects id ∙ sym (named_next (changes_at tables (messages tables s)) 0 id
    ∙ first_object id)) in
    let u = h.used_is in
    let v = h.server_used_is in
    let t = fun_ext (λ n. fun_ext (λ i. h.advertised_is n i)) in
    let d = fun_ext (λ x. h.taken_is x ∙ sym (first_taken x)) in
    λ i. record { object = o i; used = u i; server_used = v i; advertised_version = t i; taken = d i }

pub at_first : {A : Type 0} (tables : List Interface) (s : Session) (p : Progress A) → IsFirst (known_in p.known)
    → p.to_server ≡ no_tally → p.to_client ≡ no_tally → p.known.taken_to_server ≡ 0 → p.known.taken_to_client ≡ 0
    → IsAt tables s 0 p
at_first tables s p k a b c d = record {
  known_is = known_first tables s (known_in p.known) k;
  to_server = rw a (record { count_is = refl; end_is = refl; within = omega arith });
  to_client = rw b (record { count_is = refl; end_is = refl; within = omega arith });
  taken_to_server = omega (arith, c);
  taken_to_client = omega (arith, d);
}

-- after a message that keeps the rules
pub at_next : {A : Type 0} (tables : List Interface) (s : Session) (k : ℕ) (f : FramedMessage) (call : Call)
    (d : MessageChanges) (p q : Progress A) → d ≡ changes tables call → slice_get s.frames k ≡ Some f
    → slice_get (messages tables s) k ≡ Some (Ok call)
    → f.start + f.size ≤ length (s.streams f.direction) → IsKnownBehind (k + 1) d (known_in p.known) (known_in q.known)
    → q.to_server ≡ tally_after ToServer f p.to_server → q.to_client ≡ tally_after ToClient f p.to_client
    → q.known.taken_to_server < p.known.taken_to_server + 2 ^ 64
    → q.known.taken_to_client < p.known.taken_to_client + 2 ^ 64 → IsAt tables s k p → IsAt tables s (k + 1) q
at_next tables s k f call what p q what_is e m h n a b c d at =
    let is : changes_at tables (messages tables s) (suc k) ≡ what = rw (m, what_is) refl in
    let next : IsKnownBehind (suc k) (changes_at tables (messages tables s) (suc k)) (known_in p.known)
    (known_in q.known) =
    rw (is, ← add-one) n in
    record {
      known_is = rw add-one (known_next (changes_at tables (messages tables s)) (suc k) (known_in p.known)
          (known_in q.known) at.known_is next);
      to_server = tallied_next s k ToServer p.to_server q.to_server f e h a at.to_server;
      to_client = tallied_next s k ToClient p.to_client q.to_client f e h b at.to_client;
      taken_to_server = (let t = at.taken_to_server in omega (arith, c, t));
      taken_to_client = (let t = at.taken_to_client in omega (arith, d, t));
    }

pub passed_next : (ms : List Judged) (k : ℕ) (call : Call) → ArePassed ms k → slice_get ms k ≡ Some (Ok call)
    → ends_session (Ok call) ≡ false → ArePassed ms (k + 1)
passed_next ms k call a e on j h = elim (cases_order j k) [
  | inl same ↦ rw same (record { call = call; is = e; goes_on = on })
  | inr o ↦ elim o [ inl less ↦ a j less | inr more ↦ absurd (omega arith) ]
]

-- a message's judgement needs only the bytes from it on
from_front : (limit : ℕ) (tables : List Interface) (k : KnownAtPlace) (stream rest : List ℕ) (f : FramedMessage)
    → drop f.start stream ≡ rest → judged_front limit tables k rest f ≡ judged limit tables k stream f
from_front limit tables k stream rest f e =
    ap (λ (b : List ℕ). judged_front limit tables k b f) (sym e)
    ∙ ap (λ (b : List ℕ). cond (is_size limit f.size)
    (judged_message tables k f (header_at (drop f.start stream)) (take (f.size - 8) b)) (Err BadSize))
    (drop-drop 8 f.start stream)

-- what the code finds is the judgement at that place
pub found_is : {A : Type 0} (tables : List Interface) (s : Session) (k : ℕ) (f : FramedMessage) (p : Progress A)
    (rest : List ℕ) (x : Judged) → slice_get s.frames k ≡ Some f → IsAt tables s k p
    → drop f.start (s.streams f.direction) ≡ rest → x ≡ judged_front s.limit tables (known_in p.known) rest f
    → slice_get (messages tables s) k ≡ Some x
found_is tables s k f p rest x e at rest_is is =
    message_is tables s k f p e at ∙ ap (λ (y : Judged). Some y)
    (sym (is ∙ from_front s.limit tables (known_in p.known) (s.streams f.direction) rest f rest_is))

pub ends_is : (tables : List Interface) (call : Call) (d : MessageChanges) (b : Bool) → d ≡ changes tables call
    → d.is_error ≡ b → ends_session (Ok call) ≡ b
ends_is tables call d b is e = sym (ap (λ (x : MessageChanges). x.is_error) is) ∙ e

pub if_ok_to : {X E : Type 0} (r : Result X E) (P Q : X → Type 0) → ((x : X) → P x → Q x) → IfOk r P → IfOk r Q
if_ok_to (Ok x) P Q f h = f x h
if_ok_to (Err e) P Q f h = tt

-- ---- the verdict

abbrev lawful_in : {A : Type 0} → Session → Progress A → Verdict
lawful_in s p = Lawful p.to_server.count p.to_client.count (length (s.streams ToServer) - p.to_server.end)
    (length (s.streams ToClient) - p.to_client.end)

counts_at : {A : Type 0} (tables : List Interface) (s : Session) (k : ℕ) (p : Progress A)
    → examined (messages tables s) ≡ k → IsAt tables s k p → IsLawful tables s → IsVerdictOf tables s (lawful_in s p)
counts_at tables s k p e at lawful = (
  lawful,
  record {
    requests_are = rw e at.to_server.count_is;
    events_are = rw e at.to_client.count_is;
    to_server = rw e (ap (λ (n : ℕ). length (s.streams ToServer) - n) at.to_server.end_is);
    to_client = rw e (ap (λ (n : ℕ). length (s.streams ToClient) - n) at.to_client.end_is);
  },
)

pub answers_all : {A : Type 0} (tables : List Interface) (s : Session) (k : ℕ) (p : Progress A) → length s.frames ≡ k
    → ArePassed (messages tables s) k → IsAt tables s k p → IsVerdictOf tables s (lawful_in s p)
answers_all tables s k p e a at =
    let l : length (messages tables s) ≡ k = length_messages tables s ∙ e in
    let all : ArePassed (messages tables s) (length (messages tables s)) =
    subst (λ (n : ℕ). ArePassed (messages tables s) n) (sym l) a in
    counts_at tables s k p (all_examined (messages tables s) all ∙ l) at (lawful_all tables s all)

pub answers_end : {A : Type 0} (tables : List Interface) (s : Session) (k : ℕ) (call : Call) (p : Progress A)
    → slice_get (messages tables s) k ≡ Some (Ok call) → ends_session (Ok call) ≡ true → ArePassed (messages tables s) k
    → IsAt tables s (k + 1) p → IsVerdictOf tables s (lawful_in s p)
answers_end tables s k call p e ends a at = let one : k + 1 ≡ suc k = add-one k
    in counts_at tables s (k + 1) p (end_examined (messages tables s) k (Ok call) e ends a ∙ sym one) at
    (lawful_end tables s k call e ends a)

tally_of : {A : Type 0} (s : Session) (k : ℕ) (p : Progress A) (d : Direction) → IsTallied s k ToServer p.to_server
    → IsTallied s k ToClient p.to_client → (tally_in p d).count ≡ count_in d (take k s.frames)
tally_of s k p ToServer a b = a.count_is
tally_of s k p ToClient a b = b.count_is

pub answers_broken : {A : Type 0} (tables : List Interface) (s : Session) (k : ℕ) (f : FramedMessage) (fault : Fault)
    (p : Progress A) → slice_get s.frames k ≡ Some f → slice_get (messages tables s) k ≡ Some (Err fault)
    → ArePassed (messages tables s) k
    → IsAt tables s k p → IsVerdictOf tables s (Broken f.direction ((tally_in p f.direction).count + 1) f.start fault)
answers_broken tables s k f fault p e m a at = record {
  place = k;
  frame = f;
  stands = e;
  broken = rw (lt-ltb k (examined (messages tables s)) (below_examined (messages tables s) k (Err fault) m a), m) refl;
  least = passed_fine tables s k a;
  direction_is = refl;
  index_is = (let t = tally_of s k p f.direction at.to_server at.to_client in omega (arith, t));
  offset_is = refl;
}

pub exact_from : (tables : List Interface) (s : Session) (v : Verdict) → IsVerdictOf tables s v
    → SaysLawful v ↔ IsLawful tables s
exact_from tables s (Lawful r e a b) h = (λ _. h.0, λ _. tt)
exact_from tables s (Broken d i o f) h = (
  λ no. absurd no,
  λ lawful.
      (let none : breaks tables s h.place ≡ None = lawful h.place in let some = h.broken in absurd (cc)),
)

-- ---- how many messages are examined, in words

from_none : (ms : List Judged) (j : ℕ) (m : Judged) → j < 0 → slice_get ms j ≡ Some m → ends_session m ≡ false
from_none ms j m h e = absurd (omega arith)

from_later : (x : Judged) (xs : List Judged) (k j : ℕ) (m : Judged) → ends_session x ≡ false → IsExamined xs k
    → j < suc k → slice_get (x ∷ xs) j ≡ Some m → ends_session m ≡ false
from_later x xs k zero m e i b is = let same : m ≡ x = cc in ap ends_session same ∙ e
from_later x xs k (suc j) m e i b is = i.goes_on j m (omega (arith, b)) is

from_step : (x : Judged) (xs : List Judged) (k : ℕ) (b : Bool) → ends_session x ≡ b → k < cond b 1 (suc (examined xs))
    → ((j : ℕ) → j < examined xs → IsExamined xs j) → IsExamined (x ∷ xs) k
from_step x xs zero b e h ih = record { within = omega arith; goes_on = from_none (x ∷ xs) }
from_step x xs (suc k) true e h ih = absurd (omega (arith, h))
from_step x xs (suc k) false e h ih = let i = ih k (omega (arith, h)) in let w = i.within
    in record { within = omega (arith, w); goes_on = λ j m. from_later x xs k j m e i }

examined_from : (ms : List Judged) (k : ℕ) → k < examined ms → IsExamined ms k
examined_from [] k h = absurd (omega arith)
examined_from (x ∷ xs) k h = from_step x xs k (ends_session x) refl h (examined_from xs)

examined_at : (ms : List Judged) (k : ℕ) → IsExamined ms k → k < examined ms
examined_at [] k h = absurd (let w = h.within in omega (arith, w))
examined_at (x ∷ xs) zero h = first_some (ends_session x) (examined xs)
examined_at (x ∷ xs) (suc k) h =
    let e : ends_session x ≡ false = h.goes_on 0 x (omega arith) refl in
    let w = h.within in
    rw e (let i = examined_at xs k (record {
      within = omega (arith, w);
      goes_on = λ j m b is. h.goes_on (suc j) m (omega (arith, b)) is;
    }) in omega (arith, i))

pub examined_is : (ms : List Judged) (k : ℕ) → (k < examined ms) ↔ IsExamined ms k
examined_is ms k = (examined_from ms k, examined_at ms k)
