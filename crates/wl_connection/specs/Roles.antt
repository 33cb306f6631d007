-- The role of an end: what it reads, how it reports that, and what state that leaves.
use Rattle.std.specs.Prelude.{Bool, ◌||◌, if◌then◌else◌, Option, Some, None}
use Rattle.std.specs.declared.result.Result.{Result}
use Rattle.std.specs.declared.result.Result.TheVariants.{Ok, Err}
use Rattle.wl_sigs.specs.Side.{Side}
use Rattle.wl_objects.specs.declared.error.Fault.{Fault}
use Rattle.wl_objects.specs.declared.error.NextError.TheVariants as errors
use Rattle.wl_connection.specs.Core.{Core}
use Rattle.wl_connection.specs.Outcomes.{AnswersOrMemory, answers_with}
use Rattle.wl_connection.specs.Receiving.{Found}
use Rattle.wl_connection.specs.Reads.{Answer, Reading}

-- The end's core, how to replace it, and the side whose messages come in.
pub record Role (S R : Type 0) : Type 0 where
  pub core : S → Core
  pub with_core : S → Core → S
  pub reads : Side
  -- what is at the front of what waits: no whole message yet, a message, or a fault
  pub in_front : S → Result (Option Found) Fault
  -- whether a message has to wait until the outbox has room for what reading it writes
  pub is_full : Core → Found → Bool
  pub report : Core → Found → R
  -- the state after a message is read
  pub past : S → Found → S
  -- the state after a fault
  pub failing : S → Fault → S
  -- the report after which nothing more is read
  pub is_last : R → Bool
  -- whether copying a report may need memory
  pub wants : R → Bool
  -- whether taking the first message may need memory, for an object that it makes
  pub opens : S → Bool

-- ---- reading the next message, if no memory is needed

abbrev pub front_answer : {S R : Type 0} → Role S R → Core → Result (Option Found) Fault → Answer R
front_answer role core (Err fault) = Err (errors.Fault fault core.read)
front_answer role core (Ok None) = Ok None
front_answer role core (Ok (Some f)) =
    if role.is_full core f then Err errors.OutFull else Ok (Some (role.report core f))

-- What a read returns: the report of the first message, nothing if it is not whole, or why it
-- cannot be read.
abbrev pub role_answer : {S R : Type 0} → Role S R → S → Answer R
role_answer role state =
    if (role.core state).failed then Err errors.Failed
    else front_answer role (role.core state) (role.in_front state)

abbrev pub front_left : {S R : Type 0} → Role S R → S → Result (Option Found) Fault → S
front_left role state (Err fault) = role.failing state fault
front_left role state (Ok None) = state
front_left role state (Ok (Some f)) =
    if role.is_full (role.core state) f then state else role.past state f

-- The state it leaves: a failed end stays as it is.
abbrev pub role_after : {S R : Type 0} → Role S R → S → S
role_after role state =
    if (role.core state).failed then state else front_left role state (role.in_front state)

abbrev pub role_reading : {S R : Type 0} → Role S R → Reading S R
role_reading role = record {
  core = role.core;
  with_core = role.with_core;
  answer = role_answer role;
  after = role_after role;
  is_last = role.is_last;
}

-- ---- reading the next message, if memory can be refused

-- What a read that copies its report returns: the same, except that it may be out of memory for a
-- report that needs some, or for a message whose taking needs some.
abbrev pub IsNext : {S R : Type 0} → Role S R → S → Answer R → Type 0
IsNext role state result =
    AnswersOrMemory errors.Memory
    (answers_with role.wants (role_answer role state) || role.opens state)
    (role_answer role state) result

-- The same if taking needs no memory: only a report that needs memory can be refused.
abbrev pub IsReportNext : {S R : Type 0} → Role S R → S → Answer R → Type 0
IsReportNext role state result =
    AnswersOrMemory errors.Memory (answers_with role.wants (role_answer role state))
    (role_answer role state) result

-- The same for a borrowed report: only a message whose taking needs memory can be refused.
abbrev pub IsLentNext : {S R : Type 0} → Role S R → S → Answer R → Type 0
IsLentNext role state result =
    AnswersOrMemory errors.Memory (role.opens state) (role_answer role state) result
