-- What waits is read in only one way, whatever follows it and however it is cut.
use Rattle.std.proofs.Common.{◌≡◌, ℕ, suc, inl, inr, true, false, List, [], ◌∷◌, ◌++◌, length, refl}
use Rattle.std.proofs.Common.{sym, ap, subst, ◌∙◌, arith}
use Rattle.std.specs.declared.option.Option.{Option}
use Rattle.std.specs.declared.option.Option.TheVariants.{None, Some}
use Rattle.std.specs.declared.result.Result.{Result}
use Rattle.std.specs.declared.result.Result.TheVariants.{Ok, Err}
use Rattle.wl_sigs.specs.Side.{Side}
use Rattle.wl_message.specs.declared.limit.Limit.{Limit}
use Rattle.wl_message.specs.declared.amounts.Amounts.{Amounts}
use Rattle.wl_message.specs.InStep.{Part, InStep, part_bytes, part_tokens}
use Rattle.wl_message.proofs.Steps.{step_first, step_read}
use Rattle.wl_objects.specs.declared.error.Fault.{Fault}
use Rattle.wl_objects.specs.declared.error.NextError.{NextError}
use Rattle.wl_objects.specs.declared.error.NextError.TheVariants as errors
use Rattle.wl_connection.specs.Core.{Core, with_arrived}
use Rattle.wl_connection.specs.Receiving.{Found, found, past_found}
use Rattle.wl_connection.specs.Streams.{waiting_part, need_of, FrontNeeds, IsTaken, taken_bytes, taken_tokens, untaken}
use Rattle.wl_connection.specs.Streams.{BeginWith}
use Rattle.wl_connection.specs.Reads.{Reading, IsCoreOf, with_arrivals, Reads, none, fault, full, last}
use Rattle.wl_connection.specs.Reads.{next, ReadsSome, nothing, more}
use Rattle.theory_cuts.specs.Cuts.{BeginsWithNeeds, ends, goes_on, ComeInStep, HasOneReading, ReadsWhole}
use Rattle.wl_connection.proofs.FoundStays.{is_found, Faulty, always, lacks, is_fault, arrived_twice}
use Rattle.theory_cuts.proofs.Taken.{taken-untaken_bytes, taken-untaken_tokens, taken_in_step}
use Rattle.wl_connection.proofs.ReadsGoOn.{arrived_again}
use Rattle.wl_connection.proofs.Spelled.{begin_none, begin_more}

-- ---- what both ends have in common

-- a report is for the message at the front; the bytes after that message are left
pub record IsOfMessage {S R : Type 0} (e : Reading S R) (side : Side) (state : S) : Type 0 where
  pub message : Found
  pub there : found (e.core state) side ≡ Ok (Some message)
  pub left : waiting_part (e.core (e.after state)) ≡ waiting_part (past_found (e.core state) message)
  pub kept : (e.core (e.after state)).inbox.limit ≡ (e.core state).inbox.limit

-- the fault is the same if more follows
pub record IsFaultAgain {S R : Type 0} (e : Reading S R) (state : S) (what : Fault) (offset : ℕ)
    (bytes tokens : List ℕ) : Type 0 where
  pub is : e.answer (with_arrivals e state bytes tokens) ≡ Err (errors.Fault what offset)
  pub leaves : e.after (with_arrivals e state bytes tokens) ≡ with_arrivals e (e.after state) bytes tokens

-- a fault stays, whatever follows, or as long as the same fault is found at the front
pub data IsFault {S R : Type 0} (e : Reading S R) (side : Side) (state : S) (what : Fault) (offset : ℕ) : Type 0 where
  stays : ((bytes tokens : List ℕ) → IsFaultAgain e state what offset bytes tokens) → IsFault e side state what offset
  comes : found (e.core state) side ≡ Err what
      → ((bytes tokens : List ℕ) → found (with_arrived (e.core state) bytes tokens) side ≡ Err what
      → IsFaultAgain e state what offset bytes tokens) → IsFault e side state what offset

pub record IsReading {S R : Type 0} (e : Reading S R) (side : Side) : Type 0 where
  pub laws : IsCoreOf e.core e.with_core
  pub failed : (state : S) → (e.core state).failed ≡ true → e.answer state ≡ Err errors.Failed
  pub report_stays : (state : S) (report : R) (bytes tokens : List ℕ) → e.answer state ≡ Ok (Some report)
      → e.answer (with_arrivals e state bytes tokens) ≡ Ok (Some report)
  pub leaves_more : (state : S) (report : R) (bytes tokens : List ℕ) → e.answer state ≡ Ok (Some report)
      → e.after (with_arrivals e state bytes tokens) ≡ with_arrivals e (e.after state) bytes tokens
  pub message : (state : S) (report : R) → e.answer state ≡ Ok (Some report) → IsOfMessage e side state
  pub sound : (state : S) (what : Fault) (offset : ℕ) → e.answer state ≡ Err (errors.Fault what offset)
      → (e.core state).failed ≡ false
  pub fault : (state : S) (what : Fault) (offset : ℕ) → e.answer state ≡ Err (errors.Fault what offset)
      → IsFault e side state what offset
  pub fault_leaves : (state : S) (what : Fault) (offset : ℕ) → e.answer state ≡ Err (errors.Fault what offset)
      → (e.core (e.after state)).inbox.bytes ≡ (e.core state).inbox.bytes

-- ---- what follows what is read stays

pub some_stays : {S R : Type 0} {e : Reading S R} {side : Side} {state end : S} {reports : List R} → IsReading e side
    → (bytes tokens : List ℕ) → ReadsSome e state reports end
    → ReadsSome e (with_arrivals e state bytes tokens) reports (with_arrivals e end bytes tokens)
some_stays i bytes tokens nothing = nothing
some_stays {e = e} i bytes tokens (more {state = state} {end = end} {report = r} {reports = rs} a n h) =
    more (i.report_stays state r bytes tokens a) n
    (subst (λ s. ReadsSome e s rs (with_arrivals e end bytes tokens)) (sym (i.leaves_more state r bytes tokens a))
    (some_stays i bytes tokens h))

-- ---- whatever the cut

fault_again : {S R : Type 0} (e : Reading S R) (state : S) (what : Fault) (offset : ℕ) (bytes tokens : List ℕ)
    → IsFaultAgain e state what offset bytes tokens
    → Reads e (with_arrivals e state bytes tokens) [] (Some (errors.Fault what offset))
    (with_arrivals e (e.after state) bytes tokens)
fault_again e state what offset bytes tokens f =
    subst (λ s. Reads e (with_arrivals e state bytes tokens) [] (Some (errors.Fault what offset)) s) f.leaves
    (fault f.is)

-- what is found at an end after more arrived
wants_more : {S R : Type 0} (e : Reading S R) (side : Side) → IsReading e side
    → (state : S) (bytes tokens : List ℕ) (need : _) → FrontNeeds (with_arrived (e.core state) bytes tokens) side need
    → FrontNeeds (e.core (with_arrivals e state bytes tokens)) side need
wants_more e side i state bytes tokens need w = subst (λ c. FrontNeeds c side need)
    (sym (i.laws.new state (with_arrived (e.core state) bytes tokens))) w

sound_more : {S R : Type 0} (e : Reading S R) (side : Side) → IsReading e side → (state : S) (bytes tokens : List ℕ)
    → (e.core state).failed ≡ false → (e.core (with_arrivals e state bytes tokens)).failed ≡ false
sound_more e side i state bytes tokens h = ap (λ (c : Core). c.failed)
    (i.laws.new state (with_arrived (e.core state) bytes tokens)) ∙ h

fault_found : {S R : Type 0} (e : Reading S R) (side : Side) → IsReading e side
    → (state : S) (what : Fault) (offset : ℕ) (later : List Part) → (e.core state).failed ≡ false
    → ComeInStep e side (with_arrivals e state (part_bytes later) (part_tokens later))
    (waiting_part (e.core state) ∷ later)
    → ((bytes tokens : List ℕ) → found (with_arrived (e.core state) bytes tokens) side ≡ Err what
    → IsFaultAgain e state what offset bytes tokens)
    → Faulty (e.core state) side what → IsFaultAgain e state what offset (part_bytes later) (part_tokens later)
fault_found e side i state what offset later sound s again (always h) =
    again (part_bytes later) (part_tokens later) (h (part_bytes later) (part_tokens later))
fault_found e side i state what offset later sound s again (lacks need w few some same h) =
    let bytes = part_bytes later in
    let tokens = part_tokens later in
    elim (step_first need [] (waiting_part (e.core state)) later
    (s (need ∷ []) (ends (sound_more e side i state bytes tokens sound)
    (wants_more e side i state bytes tokens need (w bytes tokens)))) some) [
      | inl x ↦ absurd (omega arith)
      | inr x ↦ again bytes tokens (ap (λ (t : List ℕ). found (with_arrived (e.core state) bytes t) side) x ∙ h bytes)
    ]

fault_by : {S R : Type 0} (e : Reading S R) (side : Side) → IsReading e side
    → (state : S) (what : Fault) (offset : ℕ) (later : List Part) → (e.core state).failed ≡ false
    → ComeInStep e side (with_arrivals e state (part_bytes later) (part_tokens later))
    (waiting_part (e.core state) ∷ later)
    → IsFault e side state what offset
    → IsFaultAgain e state what offset (part_bytes later) (part_tokens later)
fault_by e side i state what offset later sound s (stays h) = h (part_bytes later) (part_tokens later)
fault_by e side i state what offset later sound s (comes h again) =
    fault_found e side i state what offset later sound s again (is_fault (e.core state) side what h)

-- after the first message and its tokens are read, the others come in step
step_past : {S R : Type 0} (e : Reading S R) (side : Side) → IsReading e side → (state : S) (r : R) (later : List Part)
    → e.answer state ≡ Ok (Some r)
    → ComeInStep e side (with_arrivals e state (part_bytes later) (part_tokens later))
    (waiting_part (e.core state) ∷ later)
    → ComeInStep e side (with_arrivals e (e.after state) (part_bytes later) (part_tokens later))
    (waiting_part (e.core (e.after state)) ∷ later)
step_past e side i state r later a s needs b =
    let bytes = part_bytes later in
    let tokens = part_tokens later in
    let m = i.message state r a in
    let h = is_found (e.core state) side m.message m.there in
    let wants : FrontNeeds (with_arrived (e.core state) bytes tokens) side (need_of m.message) =
    record {
      more = [];
      message = m.message;
      there = ap (λ (c : Core). found c side)
          (arrived_twice (e.core state) bytes tokens [] []) ∙ h.stays (bytes ++ []) (tokens ++ []);
      needed = refl;
    } in
    let begins = goes_on (i.report_stays state r bytes tokens a)
    (wants_more e side i state bytes tokens (need_of m.message) wants)
    (subst (λ x. BeginsWithNeeds e side x needs) (sym (i.leaves_more state r bytes tokens a)) b) in
    subst (λ (x : Part). InStep needs (x ∷ later)) (sym m.left)
    (step_read (need_of m.message) needs (waiting_part (e.core state)) later
    (s (need_of m.message ∷ needs) begins) h.there h.enough)

-- What is read up to a fault or a last report is read in the same way if more follows in step.
pub reads_stay : {S R : Type 0} {e : Reading S R} {side : Side} {state end : S} {reports : List R} {stop : Option
    NextError} → IsReading e side → (later : List Part) → Reads e state reports stop end → (e.core end).failed ≡ true
    → ComeInStep e side (with_arrivals e state (part_bytes later) (part_tokens later))
    (waiting_part (e.core state) ∷ later)
    → Reads e (with_arrivals e state (part_bytes later) (part_tokens later)) reports stop
    (with_arrivals e end (part_bytes later) (part_tokens later))
reads_stay i later (none {state = state} a) f s = absurd (cc (i.failed state f, a))
reads_stay i later (full {state = state} a) f s = absurd (cc (i.failed state f, a))
reads_stay {e = e} {side = side} i later (fault {state = state} {what = what} {offset = offset} a) f s =
    fault_again e state what offset (part_bytes later) (part_tokens later)
    (fault_by e side i state what offset later (i.sound state what offset a) s (i.fault state what offset a))
reads_stay {e = e} i later (last {state = state} {report = r} a n) f s =
    subst (λ x. Reads e (with_arrivals e state (part_bytes later) (part_tokens later)) (r ∷ []) None x)
    (i.leaves_more state r (part_bytes later) (part_tokens later) a)
    (last (i.report_stays state r (part_bytes later) (part_tokens later) a) n)
reads_stay {e = e} {side = side} i later (next {state = state} {end = end} {report = r} {reports = rs} {stop = stop} a n
    h) f s =
    next (i.report_stays state r (part_bytes later) (part_tokens later) a) n
    (subst (λ x. Reads e x rs stop (with_arrivals e end (part_bytes later) (part_tokens later)))
    (sym (i.leaves_more state r (part_bytes later) (part_tokens later) a))
    (reads_stay i later h f (step_past e side i state r later a s)))

pub any_cut : {S R : Type 0} (e : Reading S R) (side : Side) → IsReading e side
    → (state end : S) (pieces : List Part) (count : ℕ) (some : Amounts) (reports : List R) (stop : Option NextError)
    → IsTaken pieces count some
    → ComeInStep e side (with_arrivals e state (part_bytes pieces) (part_tokens pieces))
    (waiting_part (e.core state) ∷ pieces)
    → Reads e (with_arrivals e state (taken_bytes pieces count some) (taken_tokens pieces count some)) reports stop end
    → (e.core end).failed ≡ true
    → Reads e (with_arrivals e state (part_bytes pieces) (part_tokens pieces)) reports stop
    (with_arrivals e end (part_bytes (untaken pieces count some)) (part_tokens (untaken pieces count some)))
any_cut e side i state end pieces count some reports stop t s h f =
    let later = untaken pieces count some in
    let bytes = taken_bytes pieces count some in
    let tokens = taken_tokens pieces count some in
    let b = taken-untaken_bytes pieces count some in
    let k = taken-untaken_tokens pieces count some in
    let whole : with_arrivals e (with_arrivals e state bytes tokens) (part_bytes later) (part_tokens later)
    ≡ with_arrivals e state (part_bytes pieces) (part_tokens pieces) =
    arrived_again e i.laws state bytes tokens (part_bytes later) (part_tokens later)
    ∙ (λ j. with_arrivals e state (b j) (k j)) in
    let waits : waiting_part (with_arrived (e.core state) bytes tokens)
    ≡ waiting_part (e.core (with_arrivals e state bytes tokens)) =
    ap waiting_part (sym (i.laws.new state (with_arrived (e.core state) bytes tokens))) in
    subst (λ x. Reads e x reports stop (with_arrivals e end (part_bytes later) (part_tokens later))) whole
    (reads_stay i later h f (λ needs g.
    subst (λ (w : Part). InStep needs (w ∷ later)) waits
    (taken_in_step needs (waiting_part (e.core state)) pieces count some t
    (s needs (subst (λ x. BeginsWithNeeds e side x needs) whole g)))))

-- ---- what waits is read in only one way

pub record Same {S R : Type 0} (reports others : List R) (stop halt : Option NextError) (last end : S) : Type 0 where
  pub same_reports : reports ≡ others
  pub same_stop : stop ≡ halt
  pub same_last : last ≡ end

one_next : {R : Type 0} (a : Result (Option R) NextError) (r q : R) → a ≡ Ok (Some r) → a ≡ Ok (Some q) → r ≡ q
one_next a r q e d = cc (e, d)

pub one_reading : {S R : Type 0} {e : Reading S R} {state one end : S} {reports others : List R} {stop halt : Option
    NextError} → Reads e state reports stop one → Reads e state others halt end → Same reports others stop halt one end
one_reading (none a) (none b) = record { same_reports = refl; same_stop = refl; same_last = refl }
one_reading (none a) (fault b) = absurd (cc (a, b))
one_reading (none a) (full b) = absurd (cc (a, b))
one_reading (none a) (last b n) = absurd (cc (a, b))
one_reading (none a) (next b n h) = absurd (cc (a, b))
one_reading (fault a) (none b) = absurd (cc (a, b))
one_reading (fault {what = what} {offset = offset} a) (fault {what = other} {offset = place} b) =
    let same : errors.Fault what offset ≡ errors.Fault other place = cc (a, b) in
    record { same_reports = refl; same_stop = ap Some same; same_last = refl }
one_reading (fault a) (full b) = absurd (cc (a, b))
one_reading (fault a) (last b n) = absurd (cc (a, b))
one_reading (fault a) (next b n h) = absurd (cc (a, b))
one_reading (full a) (none b) = absurd (cc (a, b))
one_reading (full a) (fault b) = absurd (cc (a, b))
one_reading (full a) (full b) = record { same_reports = refl; same_stop = refl; same_last = refl }
one_reading (full a) (last b n) = absurd (cc (a, b))
one_reading (full a) (next b n h) = absurd (cc (a, b))
one_reading (last a n) (none b) = absurd (cc (a, b))
one_reading (last a n) (fault b) = absurd (cc (a, b))
one_reading (last a n) (full b) = absurd (cc (a, b))
one_reading {e = e} (last {state = state} {report = r} a n) (last {report = q} b m) =
    record { same_reports = ap (λ x. x ∷ []) (one_next (e.answer state) r q a b); same_stop = refl; same_last = refl }
one_reading {e = e} (last {state = state} {report = r} a n) (next {report = q} b m h) =
    let same = one_next (e.answer state) r q a b in absurd (cc (n, m, ap e.is_last same))
one_reading (next a n h) (none b) = absurd (cc (a, b))
one_reading (next a n h) (fault b) = absurd (cc (a, b))
one_reading (next a n h) (full b) = absurd (cc (a, b))
one_reading {e = e} (next {state = state} {report = r} a n h) (last {report = q} b m) =
    let same = one_next (e.answer state) r q a b in absurd (cc (n, m, ap e.is_last same))
one_reading {e = e} (next {state = state} {report = r} a n h) (next {report = q} b m g) =
    let same = one_next (e.answer state) r q a b in
    let rest = one_reading h g in
    record {
      same_reports = (λ i. same i ∷ rest.same_reports i);
      same_stop = rest.same_stop;
      same_last = rest.same_last;
    }

pub has_one_reading : {S R : Type 0} (e : Reading S R) (side : Side) → IsReading e side → HasOneReading e
has_one_reading e side i = record {
  reports = λ state last end reports others stop halt h g. (one_reading h g).same_reports;
  stop = λ state last end reports others stop halt h g. (one_reading h g).same_stop;
  left = λ state last end reports others stop halt h g. (one_reading h g).same_last;
  stays = λ state last reports bytes tokens h. some_stays i bytes tokens h;
}

-- ---- what is read is the front of what waits

first : {S R : Type 0} (e : Reading S R) (side : Side) → IsReading e side
    → (state : S) (r : R) (count : ℕ) (rest : List ℕ) → e.answer state ≡ Ok (Some r)
    → BeginWith (e.core (e.after state)).inbox.limit.bytes (e.core (e.after state)).inbox.bytes count rest
    → BeginWith (e.core state).inbox.limit.bytes (e.core state).inbox.bytes (suc count) rest
first e side i state r count rest a b =
    let m = i.message state r a in
    begin_more (e.core state) side m.message count (e.core (e.after state)).inbox.bytes rest m.there
    (ap (λ (p : Part). p.bytes) m.left)
    (subst (λ (limit : Limit). BeginWith limit.bytes (e.core (e.after state)).inbox.bytes count rest) m.kept b)

pub begin_with : {S R : Type 0} {e : Reading S R} {side : Side} {state end : S} {reports : List R} {stop : Option
    NextError} → IsReading e side → Reads e state reports stop end
    → BeginWith (e.core state).inbox.limit.bytes (e.core state).inbox.bytes (length reports) (e.core end).inbox.bytes
begin_with {e = e} i (none {state = state} a) = begin_none (e.core state).inbox.limit.bytes (e.core state).inbox.bytes
begin_with {e = e} i (full {state = state} a) = begin_none (e.core state).inbox.limit.bytes (e.core state).inbox.bytes
begin_with {e = e} i (fault {state = state} {what = what} {offset = offset} a) =
    subst (λ (l : List ℕ). BeginWith (e.core state).inbox.limit.bytes (e.core state).inbox.bytes 0 l)
    (sym (i.fault_leaves state what offset a))
    (begin_none (e.core state).inbox.limit.bytes (e.core state).inbox.bytes)
begin_with {e = e} {side = side} i (last {state = state} {report = r} a n) =
    first e side i state r 0 (e.core (e.after state)).inbox.bytes a
    (begin_none (e.core (e.after state)).inbox.limit.bytes (e.core (e.after state)).inbox.bytes)
begin_with {e = e} {side = side} i (next {state = state} {end = end} {report = r} {reports = rs} a n h) =
    first e side i state r (length rs) (e.core end).inbox.bytes a (begin_with i h)

pub reads_whole : {S R : Type 0} (e : Reading S R) (side : Side) → IsReading e side → ReadsWhole e
reads_whole e side i = λ state last reports stop h. begin_with i h
