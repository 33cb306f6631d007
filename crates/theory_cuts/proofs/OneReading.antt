-- An end of this role reads a stream in only one way, however it is cut.
use Rattle.std.proofs.Common.{◌≡◌, ◌≢◌, ℕ, true, false, Bool, cond, List, refl, sym, ap, ◌∙◌}
use Rattle.std.specs.declared.option.Option.{Option}
use Rattle.std.specs.declared.option.Option.TheVariants.{None, Some}
use Rattle.std.specs.declared.result.Result.{Result}
use Rattle.std.specs.declared.result.Result.TheVariants.{Ok, Err}
use Rattle.wl_objects.specs.declared.error.Fault.{Fault}
use Rattle.wl_objects.specs.declared.error.NextError.TheVariants as errors
use Rattle.wl_connection.specs.Receiving.{Found}
use Rattle.wl_connection.specs.Streams.{waiting_part}
use Rattle.wl_connection.specs.Roles.{Role, front_answer, role_answer, front_left, role_after, role_reading}
use Rattle.wl_connection.proofs.Roles.{later, FrontFault, own, of_found, IsRole, answers, leaves, failed_answer}
use Rattle.wl_connection.proofs.Roles.{not_failed, read, later_sound, later_read, answer_stays, after_stays}
use Rattle.theory_cuts.proofs.AnyCut.{IsOfMessage, IsFaultAgain, IsFault, stays, comes, IsReading}

-- a fault of the message at the front
record Fails {S R : Type 0} (role : Role S R) (state : S) (what : Fault) (offset : ℕ) : Type 0 where
  sound : (role.core state).failed ≡ false
  front : role.in_front state ≡ Err what
  offset_is : (role.core state).read ≡ offset

module _ {S R : Type 0} (role : Role S R) where
  no_fault : (state : S) (f : Found) (what : Fault) (offset : ℕ) (b : Bool)
      → cond b (Err errors.OutFull) (Ok (Some (role.report (role.core state) f))) ≢ Err (errors.Fault what offset)
  no_fault state f what offset true a = cc a
  no_fault state f what offset false a = cc a

  fails_by : (state : S) (what : Fault) (offset : ℕ) (x : Result (Option Found) Fault)
      → (role.core state).failed ≡ false → role.in_front state ≡ x
      → front_answer role (role.core state) x ≡ Err (errors.Fault what offset) → Fails role state what offset
  fails_by state what offset (Err other) s e a =
      let same : other ≡ what = cc a in
      record { sound = s; front = e ∙ ap Err same; offset_is = cc a }
  fails_by state what offset (Ok None) s e a = absurd (cc a)
  fails_by state what offset (Ok (Some f)) s e a =
      absurd (no_fault state f what offset (role.is_full (role.core state) f) a)

  fails : (state : S) (what : Fault) (offset : ℕ) → role_answer role state ≡ Err (errors.Fault what offset)
      → Fails role state what offset
  fails state what offset e =
      let s = not_failed role state (role.core state).failed refl (λ h. cc (h, e)) in
      fails_by state what offset (role.in_front state) s refl (sym (answers role state s) ∙ e)

module _ {S R : Type 0} (role : Role S R) (i : IsRole role) where
  -- the same fault if more follows
  fault_again : (state : S) (what : Fault) (offset : ℕ) (bytes tokens : List ℕ) → Fails role state what offset
      → role.in_front (later role state bytes tokens) ≡ Err what
      → IsFaultAgain (role_reading role) state what offset bytes tokens
  fault_again state what offset bytes tokens f h =
      let more = later role state bytes tokens in
      let s = later_sound role i state bytes tokens f.sound in
      record {
        is = answers role more s ∙ ap (front_answer role (role.core more)) h
            ∙ ap (λ (n : ℕ). Err (errors.Fault what n)) (later_read role i state bytes tokens ∙ f.offset_is);
        leaves = leaves role more s ∙ ap (front_left role more) h ∙ i.failing_stays state what bytes tokens
            ∙ ap (λ (s : S). later role s bytes tokens)
            (sym (leaves role state f.sound ∙ ap (front_left role state) f.front));
      }

  fault_leaves : (state : S) (what : Fault) (offset : ℕ) → role_answer role state ≡ Err (errors.Fault what offset)
      → (role.core (role_after role state)).inbox.bytes ≡ (role.core state).inbox.bytes
  fault_leaves state what offset e =
      let f = fails role state what offset e in
      ap (λ (s : S). (role.core s).inbox.bytes) (leaves role state f.sound ∙ ap (front_left role state) f.front)
      ∙ i.failing_waits state what

  message_of : (state : S) (r : R) → role_answer role state ≡ Ok (Some r)
      → IsOfMessage (role_reading role) role.reads state
  message_of state r e =
      let m = read role state r e in
      record {
        message = m.message;
        there = i.is_there state m.message m.front;
        left = ap (λ (s : S). waiting_part (role.core s)) m.left ∙ i.past_waits state m.message;
        kept = ap (λ (s : S). (role.core s).inbox.limit) m.left ∙ i.past_limit state m.message;
      }

  fault_by : (state : S) (what : Fault) (offset : ℕ) → Fails role state what offset → FrontFault role state what
      → IsFault (role_reading role) role.reads state what offset
  fault_by state what offset f (own h) =
      stays (λ bytes tokens. fault_again state what offset bytes tokens f (h bytes tokens))
  fault_by state what offset f (of_found e h) =
      comes e (λ bytes tokens g. fault_again state what offset bytes tokens f (h bytes tokens g))

  fault_of : (state : S) (what : Fault) (offset : ℕ) → role_answer role state ≡ Err (errors.Fault what offset)
      → IsFault (role_reading role) role.reads state what offset
  fault_of state what offset e =
      let f = fails role state what offset e in
      fault_by state what offset f (i.fault_stays state what f.front)

  pub is_reading : IsReading (role_reading role) role.reads
  is_reading = record {
    laws = i.laws;
    failed = failed_answer role;
    report_stays = answer_stays role i;
    leaves_more = after_stays role i;
    message = message_of;
    sound = λ state what offset e. (fails role state what offset e).sound;
    fault = fault_of;
    fault_leaves = fault_leaves;
  }
