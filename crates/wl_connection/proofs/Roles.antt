-- What each end is to the other: what it reads next, and that this is unchanged if more comes in.
use Rattle.std.proofs.Common.{◌≡◌, ◌≢◌, ℕ, ◌<◌, inl, inr, Bool, true, false, cond, List, [], length}
use Rattle.std.proofs.Common.{refl, sym, ap, subst, ◌∙◌}
use Rattle.std.specs.declared.option.Option.{Option}
use Rattle.std.specs.declared.option.Option.TheVariants.{None, Some}
use Rattle.std.specs.declared.result.Result.{Result}
use Rattle.std.specs.declared.result.Result.TheVariants.{Ok, Err}
use Rattle.wl_message.specs.InStep.{Part}
use Rattle.wl_objects.specs.declared.error.Fault.{Fault}
use Rattle.wl_objects.specs.declared.error.NextError.{NextError}
use Rattle.wl_objects.specs.declared.error.NextError.TheVariants as errors
use Rattle.wl_connection.specs.Core.{Core, with_arrived}
use Rattle.wl_connection.specs.Receiving.{Found, found, past_found}
use Rattle.wl_connection.specs.Streams.{waiting_part}
use Rattle.wl_connection.specs.Outcomes.{AnswersOrMemory, answers_with, read_as, unless_memory}
use Rattle.wl_connection.specs.Reads.{Answer, IsCoreOf, with_arrivals, Reads, fault, full, nothing}
use Rattle.wl_connection.specs.Reads.{ReadsUntil, ReadsReport, ReadsNothing, ReadsNext}
use Rattle.wl_connection.specs.Roles.{Role, front_answer, role_answer, front_left, role_after, role_reading}
use Rattle.wl_connection.proofs.FoundStays.{IsFound, is_found, past_shorter, none_short}
use Rattle.wl_connection.proofs.ReceivedMessage.{some_report}

-- the end after more came in
abbrev pub later : {S R : Type 0} → Role S R → S → List ℕ → List ℕ → S
later role state bytes tokens = with_arrivals (role_reading role) state bytes tokens

-- a fault at the front stays whatever comes in, or as long as it is found there
pub data FrontFault {S R : Type 0} (role : Role S R) (state : S) (what : Fault) : Type 0 where
  own : ((bytes tokens : List ℕ) → role.in_front (later role state bytes tokens) ≡ Err what)
      → FrontFault role state what
  of_found : found (role.core state) role.reads ≡ Err what
      → ((bytes tokens : List ℕ) → found (with_arrived (role.core state) bytes tokens) role.reads ≡ Err what
      → role.in_front (later role state bytes tokens) ≡ Err what) → FrontFault role state what

-- The front is what is found. What comes in later does not change it, and is still there after it.
-- After the last report the end has failed.
pub record IsRole {S R : Type 0} (role : Role S R) : Type 0 where
  pub laws : IsCoreOf role.core role.with_core
  pub none_found : (state : S) → role.in_front state ≡ Ok None → found (role.core state) role.reads ≡ Ok None
  pub is_there : (state : S) (f : Found) → role.in_front state ≡ Ok (Some f)
      → found (role.core state) role.reads ≡ Ok (Some f)
  pub front_stays : (state : S) (f : Found) (bytes tokens : List ℕ) → role.in_front state ≡ Ok (Some f)
      → role.in_front (later role state bytes tokens) ≡ Ok (Some f)
  pub fault_stays : (state : S) (what : Fault) → role.in_front state ≡ Err what → FrontFault role state what
  pub room_stays : (state : S) (f : Found) (bytes tokens : List ℕ)
      → role.is_full (role.core (later role state bytes tokens)) f ≡ role.is_full (role.core state) f
  pub report_stays : (state : S) (f : Found) (bytes tokens : List ℕ) → IsFound (role.core state) role.reads f
      → role.report (role.core (later role state bytes tokens)) f ≡ role.report (role.core state) f
  pub past_stays : (state : S) (f : Found) (bytes tokens : List ℕ) → IsFound (role.core state) role.reads f
      → role.past (later role state bytes tokens) f ≡ later role (role.past state f) bytes tokens
  pub failing_stays : (state : S) (what : Fault) (bytes tokens : List ℕ)
      → role.failing (later role state bytes tokens) what ≡ later role (role.failing state what) bytes tokens
  pub past_waits : (state : S) (f : Found) → waiting_part (role.core (role.past state f))
      ≡ waiting_part (past_found (role.core state) f)
  pub past_limit : (state : S) (f : Found) → (role.core (role.past state f)).inbox.limit
      ≡ (role.core state).inbox.limit
  pub failing_waits : (state : S) (what : Fault) → (role.core (role.failing state what)).inbox.bytes
      ≡ (role.core state).inbox.bytes
  pub past_failed : (state : S) (f : Found) → (role.core state).failed ≡ false
      → (role.core (role.past state f)).failed ≡ role.is_last (role.report (role.core state) f)

-- ---- what an end returns and leaves, if it has not failed

module _ {S R : Type 0} (role : Role S R) where
  pub answers : (state : S) → (role.core state).failed ≡ false
      → role_answer role state ≡ front_answer role (role.core state) (role.in_front state)
  answers state h = ap
      (λ (b : Bool). cond b (Err errors.Failed) (front_answer role (role.core state) (role.in_front state))) h

  pub leaves : (state : S) → (role.core state).failed ≡ false
      → role_after role state ≡ front_left role state (role.in_front state)
  leaves state h = ap (λ (b : Bool). cond b state (front_left role state (role.in_front state))) h

  pub failed_answer : (state : S) → (role.core state).failed ≡ true → role_answer role state ≡ Err errors.Failed
  failed_answer state h = ap
      (λ (b : Bool). cond b (Err errors.Failed) (front_answer role (role.core state) (role.in_front state))) h

  pub not_failed : (state : S) (b : Bool) → (role.core state).failed ≡ b → role_answer role state ≢ Err errors.Failed
      → (role.core state).failed ≡ false
  not_failed state true h n = absurd (n (failed_answer state h))
  not_failed state false h n = h

  pub sound_none : (state : S) → role_answer role state ≡ Ok None → (role.core state).failed ≡ false
  sound_none state e = not_failed state (role.core state).failed refl (λ h. cc (h, e))

-- the next message: it is found and reported, and this is left
pub record ReadsMessage {S R : Type 0} (role : Role S R) (state : S) (r : R) : Type 0 where
  pub sound : (role.core state).failed ≡ false
  pub message : Found
  pub front : role.in_front state ≡ Ok (Some message)
  pub room : role.is_full (role.core state) message ≡ false
  pub is : role.report (role.core state) message ≡ r
  pub left : role_after role state ≡ role.past state message

module _ {S R : Type 0} (role : Role S R) where
  read_by : (state : S) (r : R) (f : Found) (b : Bool) → (role.core state).failed ≡ false
      → role.in_front state ≡ Ok (Some f) → role.is_full (role.core state) f ≡ b
      → cond b (Err errors.OutFull) (Ok (Some (role.report (role.core state) f))) ≡ Ok (Some r)
      → ReadsMessage role state r
  read_by state r f true s e h a = absurd (cc a)
  read_by state r f false s e h a = record {
    sound = s;
    message = f;
    front = e;
    room = h;
    is = cc a;
    left = leaves role state s ∙ ap (front_left role state) e
        ∙ ap (λ (b : Bool). cond b state (role.past state f)) h;
  }

  read_front : (state : S) (r : R) (x : Result (Option Found) Fault) → (role.core state).failed ≡ false
      → role.in_front state ≡ x → front_answer role (role.core state) x ≡ Ok (Some r) → ReadsMessage role state r
  read_front state r (Err what) s e a = absurd (cc a)
  read_front state r (Ok None) s e a = absurd (cc a)
  read_front state r (Ok (Some f)) s e a = read_by state r f (role.is_full (role.core state) f) s e refl a

  pub read : (state : S) (r : R) → role_answer role state ≡ Ok (Some r) → ReadsMessage role state r
  read state r e =
      let s = not_failed role state (role.core state).failed refl (λ h. cc (h, e)) in
      read_front state r (role.in_front state) s refl (sym (answers role state s) ∙ e)

  not_nothing : (state : S) (f : Found) (b : Bool)
      → cond b (Err errors.OutFull) (Ok (Some (role.report (role.core state) f))) ≢ Ok None
  not_nothing state f true h = cc h
  not_nothing state f false h = cc h

  nothing_by : (state : S) (x : Result (Option Found) Fault) → role.in_front state ≡ x
      → front_answer role (role.core state) x ≡ Ok None → role.in_front state ≡ Ok None
  nothing_by state (Err what) e a = absurd (cc a)
  nothing_by state (Ok None) e a = e
  nothing_by state (Ok (Some f)) e a = absurd (not_nothing state f (role.is_full (role.core state) f) a)

  nothing_there : (state : S) → role_answer role state ≡ Ok None → role.in_front state ≡ Ok None
  nothing_there state e = nothing_by state (role.in_front state) refl
      (sym (answers role state (sound_none role state e)) ∙ e)

  pub none_leaves : (state : S) → role_answer role state ≡ Ok None → role_after role state ≡ state
  none_leaves state e = leaves role state (sound_none role state e) ∙ ap (front_left role state) (nothing_there state e)

  -- a message stays if there is no room for what reading it writes
  full_at : (state : S) (f : Found) (b : Bool) → role.is_full (role.core state) f ≡ b
      → cond b (Err errors.OutFull) (Ok (Some (role.report (role.core state) f))) ≡ Err errors.OutFull
      → front_left role state (Ok (Some f)) ≡ state
  full_at state f true h a = ap (λ (b : Bool). cond b state (role.past state f)) h
  full_at state f false h a = absurd (cc a)

  full_by : (state : S) (x : Result (Option Found) Fault)
      → front_answer role (role.core state) x ≡ Err errors.OutFull → front_left role state x ≡ state
  full_by state (Err what) a = absurd (cc a)
  full_by state (Ok None) a = refl
  full_by state (Ok (Some f)) a = full_at state f (role.is_full (role.core state) f) refl a

  full_leaves : (state : S) → role_answer role state ≡ Err errors.OutFull → role_after role state ≡ state
  full_leaves state e =
      let s = not_failed role state (role.core state).failed refl (λ h. cc (h, e)) in
      leaves role state s ∙ full_by state (role.in_front state) (sym (answers role state s) ∙ e)

  never_by : (state : S) (f : Found) (b : Bool) (why : NextError) → why ≢ errors.OutFull
      → cond b (Err errors.OutFull) (Ok (Some (role.report (role.core state) f))) ≢ Err why
  never_by state f true why o e = o (sym (cc e))
  never_by state f false why o e = cc e

  never_in_front : (state : S) (why : NextError) (x : Result (Option Found) Fault) → why ≢ errors.OutFull
      → ((what : Fault) (offset : ℕ) → why ≢ errors.Fault what offset)
      → front_answer role (role.core state) x ≢ Err why
  never_in_front state why (Err what) o n e = n what (role.core state).read (sym (cc e))
  never_in_front state why (Ok None) o n e = cc e
  never_in_front state why (Ok (Some f)) o n e = never_by state f (role.is_full (role.core state) f) why o e

  -- an end that has not failed returns no error other than a fault or that its outbox is full
  never : (state : S) (why : NextError) → (role.core state).failed ≡ false → why ≢ errors.OutFull
      → ((what : Fault) (offset : ℕ) → why ≢ errors.Fault what offset) → role_answer role state ≢ Err why
  never state why s o n e = never_in_front state why (role.in_front state) o n (sym (answers role state s) ∙ e)

-- ---- what comes in later is still there after a message is read

module _ {S R : Type 0} (role : Role S R) (i : IsRole role) where
  pub later_sound : (state : S) (bytes tokens : List ℕ) → (role.core state).failed ≡ false
      → (role.core (later role state bytes tokens)).failed ≡ false
  later_sound state bytes tokens h = ap (λ (c : Core). c.failed)
      (i.laws.new state (with_arrived (role.core state) bytes tokens)) ∙ h

  pub later_read : (state : S) (bytes tokens : List ℕ)
      → (role.core (later role state bytes tokens)).read ≡ (role.core state).read
  later_read state bytes tokens = ap (λ (c : Core). c.read)
      (i.laws.new state (with_arrived (role.core state) bytes tokens))

  pub found_there : (state : S) (r : R) (m : ReadsMessage role state r) → IsFound (role.core state) role.reads m.message
  found_there state r m = is_found (role.core state) role.reads m.message (i.is_there state m.message m.front)

  pub answer_stays : (state : S) (r : R) (bytes tokens : List ℕ) → role_answer role state ≡ Ok (Some r)
      → role_answer role (later role state bytes tokens) ≡ Ok (Some r)
  answer_stays state r bytes tokens e =
      let m = read role state r e in
      let more = later role state bytes tokens in
      answers role more (later_sound state bytes tokens m.sound)
      ∙ ap (front_answer role (role.core more)) (i.front_stays state m.message bytes tokens m.front)
      ∙ ap (λ (b : Bool). cond b (Err errors.OutFull) (Ok (Some (role.report (role.core more) m.message))))
      (i.room_stays state m.message bytes tokens ∙ m.room)
      ∙ ap (λ (x : R). Ok (Some x)) (i.report_stays state m.message bytes tokens (found_there state r m) ∙ m.is)

  pub after_stays : (state : S) (r : R) (bytes tokens : List ℕ) → role_answer role state ≡ Ok (Some r)
      → role_after role (later role state bytes tokens) ≡ later role (role_after role state) bytes tokens
  after_stays state r bytes tokens e =
      let m = read role state r e in
      let more = later role state bytes tokens in
      leaves role more (later_sound state bytes tokens m.sound)
      ∙ ap (front_left role more) (i.front_stays state m.message bytes tokens m.front)
      ∙ ap (λ (b : Bool). cond b more (role.past more m.message))
      (i.room_stays state m.message bytes tokens ∙ m.room)
      ∙ i.past_stays state m.message bytes tokens (found_there state r m)
      ∙ ap (λ (s : S). later role s bytes tokens) (sym m.left)

  -- ---- the next message

  -- reading a message removes bytes
  pub fewer_wait : (state : S) (r : R) → role_answer role state ≡ Ok (Some r)
      → length (role.core (role_after role state)).inbox.bytes < length (role.core state).inbox.bytes
  fewer_wait state r e =
      let m = read role state r e in
      let waits : waiting_part (role.core (role_after role state))
      ≡ waiting_part (past_found (role.core state) m.message) =
      ap (λ (s : S). waiting_part (role.core s)) m.left ∙ i.past_waits state m.message in
      subst (λ (p : Part). length p.bytes < length (role.core state).inbox.bytes) (sym waits)
      (past_shorter (role.core state) role.reads m.message (found_there state r m))

  one_report : (state new : S) (r : R) → role_answer role state ≡ Ok (Some r) → new ≡ role_after role state
      → ReadsReport (role_reading role) state r new
  one_report state new r e l =
      let m = read role state r e in
      record {
        is = e;
        leaves = l;
        stays = λ bytes tokens. answer_stays state r bytes tokens e;
        leaves_more = λ bytes tokens. after_stays state r bytes tokens e
            ∙ ap (λ (s : S). later role s bytes tokens) (sym l);
        fewer = subst (λ (s : S). length (role.core s).inbox.bytes < length (role.core state).inbox.bytes) (sym l)
            (fewer_wait state r e);
        ends = ap (λ (s : S). (role.core s).failed) (l ∙ m.left) ∙ i.past_failed state m.message m.sound
            ∙ ap role.is_last m.is;
      }

  -- if no whole message waits, fewer bytes wait than the longest message has
  no_report : (state : S) → role_answer role state ≡ Ok None → ReadsNothing (role_reading role) state
  no_report state e = record {
    is = e;
    sound = sound_none role state e;
    short = none_short (role.core state) role.reads (i.none_found state (nothing_there role state e));
  }

  told_error : (needs : R → Bool) (state new : S) (why : NextError) → (role.core state).failed ≡ false
      → AnswersOrMemory errors.Memory (answers_with needs (role_answer role state)) (role_answer role state) (Err why)
      → new ≡ unless_memory {R = Option R} state (role_after role state) (Err why)
      → ReadsUntil (role_reading role) state [] (Some why) new
  told_error needs state new (errors.Fault what offset) s (inl e) l =
      subst (λ (x : S). Reads (role_reading role) state [] (Some (errors.Fault what offset)) x) (sym l) (fault (sym e))
  told_error needs state new (errors.Fault what offset) s (inr e) l = absurd (cc e.0)
  told_error needs state new errors.Failed s (inl e) l =
      absurd (never role state errors.Failed s (λ h. cc h) (λ what offset h. cc h) (sym e))
  told_error needs state new errors.Failed s (inr e) l = absurd (cc e.0)
  told_error needs state new errors.Memory s (inl e) l =
      absurd (never role state errors.Memory s (λ h. cc h) (λ what offset h. cc h) (sym e))
  told_error needs state new errors.Memory s (inr e) l = (let some = some_report needs (role_answer role state) e.1 in
      subst (λ (x : S). ReadsUntil (role_reading role) state [] (Some errors.Memory) x) (sym l)
      (nothing, (some.0, some.1)))
  told_error needs state new errors.OutFull s (inl e) l =
      subst (λ (x : S). Reads (role_reading role) state [] (Some errors.OutFull) x)
      (sym (l ∙ full_leaves role state (sym e))) (full (sym e))
  told_error needs state new errors.OutFull s (inr e) l = absurd (cc e.0)

-- one call that reads and may lack memory for a report
pub next_read : {S R X : Type 0} (role : Role S R) (i : IsRole role) (needs : R → Bool) (seen : X → R) (state new : S)
    (r : Answer X) → (role.core state).failed ≡ false
    → AnswersOrMemory errors.Memory (answers_with needs (role_answer role state)) (role_answer role state)
    (read_as seen r) → new ≡ unless_memory state (role_after role state) (read_as seen r)
    → ReadsNext (role_reading role) seen state r new
next_read role i needs seen state new (Ok (Some x)) s (inl e) l = one_report role i state new (seen x) (sym e) l
next_read role i needs seen state new (Ok (Some x)) s (inr e) l = absurd (cc e.0)
next_read role i needs seen state new (Ok None) s (inl e) l =
    (l ∙ none_leaves role state (sym e), no_report role i state (sym e))
next_read role i needs seen state new (Ok None) s (inr e) l = absurd (cc e.0)
next_read role i needs seen state new (Err why) s t l = told_error role i needs state new why s t l
