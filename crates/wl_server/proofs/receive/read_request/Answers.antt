use Rattle.std.proofs.Common.{◌≡◌, Bool, List, false, true, Some, refl, sym, ap, subst, ◌∙◌, inl, inr, rules}
use Rattle.std.specs.Prelude.{Option, Result, IsOk}
use Rattle.std.specs.declared.option.Option.TheVariants.{None as none}
use Rattle.std.specs.declared.result.Result.TheVariants.{Ok as ok, Err as err}
use Rattle.wl_objects.specs.declared.error.NextError.{NextError}
use Rattle.wl_objects.specs.declared.error.NextError.TheVariants as errors
use Rattle.wl_connection.specs.Core.{Core}
use Rattle.wl_connection.specs.Outcomes.{unless_memory}
use Rattle.wl_server.specs.State.{Global, State, with_core}
use Rattle.wl_server.specs.Slots.{IsSound, KeptRegistries}
use Rattle.wl_server.specs.Requests.{Report, after_answering, after_next, server_role, unless_fault}
use Rattle.wl_server.specs.declared.pending.PendingRequest.{PendingRequest}
use Rattle.wl_server.specs.Steps.{checked_front, core_told, front_report, front_step, pending_in, pendings_in}
use Rattle.wl_server.specs.Steps.{server_state, told_if, whole_state}
use Rattle.wl_server.proofs.AfterRequest.{after-is, answer-is, seen-by}
use Rattle.wl_server.proofs.SoundAfterFaults.{sound_told}
use Rattle.wl_server.proofs.receive.read_request.Goals as goal

-- a fault that is not answered changes nothing, as out of memory
left : (R : Type 0) (state : State) (why : NextError) → err why ≡ checked_front state
    → state ≡ unless_fault {R = R} state (after_next state) (err why)
left R state errors.Memory e = refl
left R state (errors.Fault fault offset) e = refl
left R state errors.Failed e = after-is state (err errors.Failed) e
left R state errors.OutFull e = after-is state (err errors.OutFull) e

-- without an error, faults make no difference
read_by : (R : Type 0) (answers : Bool) (state : State) (found : R)
    → after_answering {R = R} answers state (ok found) ≡ after_next state
read_by R true state found = refl
read_by R false state found = refl

-- what is left of a fault that is answered
answered : (R : Type 0) (state : State) (why : NextError) → err why ≡ checked_front state
    → with_core state (core_told state.core why) ≡ unless_memory {R = R} state (after_next state) (err why)
answered R state errors.Memory e = refl
answered R state (errors.Fault fault offset) e = after-is state (err (errors.Fault fault offset)) e
answered R state errors.Failed e = after-is state (err errors.Failed) e
answered R state errors.OutFull e = after-is state (err errors.OutFull) e

by_answers : (R : Type 0) (answers : Bool) (state : State) (why : NextError) → err why ≡ checked_front state
    → with_core state (told_if answers state.core why) ≡ after_answering {R = R} answers state (err why)
by_answers R true state why e = answered R state why e
by_answers R false state why e = left R state why e

pub returns-in_err-request-clause-answer : goal.returns-in_err-request-clause-answer
returns-in_err-request-clause-answer g c =
    let kept = c.args.role.now in
    let state : State = whole_state kept.allowed c.args.end.now.core kept.globals.items kept.registries.list in
    let lives : state.core.failed ≡ false = search rules in
    let why = c.in_err-request.field-0.0 in
    let result : c.from_residual.result ≡ err why = search rules in
    rw result (inl (answer-is state (err why)
    (seen-by state state.globals (err why) lives refl c.in_err-request.ensures.answer)))

pub returns-in_err-request-clause-state : goal.returns-in_err-request-clause-state
returns-in_err-request-clause-state g c =
    let kept = c.args.role.now in
    let state : State = whole_state kept.allowed c.args.end.now.core kept.globals.items kept.registries.list in
    let lives : state.core.failed ≡ false = search rules in
    let why = c.in_err-request.field-0.0 in
    let result : c.from_residual.result ≡ err why = search rules in
    rw result (ap (λ (k : Core). whole_state kept.allowed k kept.globals.items kept.registries.list) c.in_err-request.ensures.err
    ∙ by_answers (Option Report) c.args.answers state why
    (seen-by state state.globals (err why) lives refl c.in_err-request.ensures.answer))

sound_if : (answers : Bool) (core : Core) (globals : List Global) (kept : KeptRegistries) (why : NextError)
    → IsSound core globals kept → IsSound (told_if answers core why) globals kept
sound_if true core globals kept why s = sound_told core globals kept why s
sound_if false core globals kept why s = s

pub returns-in_err-request-clause-sound : goal.returns-in_err-request-clause-sound
returns-in_err-request-clause-sound g c =
    let kept = c.args.role.now in
    subst (λ (k : Core). IsSound k kept.globals.items kept.registries) (sym c.in_err-request.ensures.err)
    (sound_if c.args.answers c.args.end.now.core kept.globals.items kept.registries c.in_err-request.field-0.0 c.requires)

pub returns-in-None-clause-state : goal.returns-in-None-clause-state
returns-in-None-clause-state g c =
    let kept = c.args.role.now in
    let core = c.args.end.now.core in
    let args = c.find_request.new.end.args in
    let state : State = whole_state kept.allowed core kept.globals.items kept.registries.list in
    let lives : state.core.failed ≡ false = search rules in
    let there : ok none ≡ front_step (server_state core kept.globals.items) =
    subst (λ (o : Option PendingRequest). pendings_in core args (ok o)
    ≡ front_step (server_state core kept.globals.items)) c.in-None.is c.in_ok-request.ensures.answer in
    ap (λ (k : Core). whole_state kept.allowed k kept.globals.items kept.registries.list) c.in_ok-request.ensures.ok
    ∙ (after-is state (ok none) (seen-by state state.globals (ok none) lives refl there)
    ∙ sym (read_by (Option Report) c.args.answers state none))

pub returns-in-Ok-clause-answer : goal.returns-in-Ok-clause-answer
returns-in-Ok-clause-answer g c =
    let kept = c.args.role.now in
    let core = c.args.end.now.core in
    let args = c.find_request.new.end.args in
    let request = c.in-Some.request in
    let state : State = whole_state kept.allowed core kept.globals.items kept.registries.list in
    let lives : state.core.failed ≡ false = search rules in
    let step = pending_in core args request in
    let there : ok (Some step) ≡ front_step (server_state core kept.globals.items) =
    subst (λ (o : Option PendingRequest). pendings_in core args (ok o)
    ≡ front_step (server_state core kept.globals.items)) c.in-Some.is c.in_ok-request.ensures.answer in
    inl (ap (λ (r : Report). ok (Some r)) (c.in-Ok.ensures.told
    ∙ ap (λ (k : Core). front_report k args request) c.in_ok-request.ensures.ok)
    ∙ answer-is state (ok (Some step)) (seen-by state state.globals (ok (Some step)) lives refl there))

pub returns-in-Err-clause-answer : goal.returns-in-Err-clause-answer
returns-in-Err-clause-answer g c =
    let kept = c.args.role.now in
    let core = c.args.end.now.core in
    let args = c.find_request.new.end.args in
    let request = c.in-Some.request in
    let state : State = whole_state kept.allowed core kept.globals.items kept.registries.list in
    let lives : state.core.failed ≡ false = search rules in
    let step = pending_in core args request in
    let there : ok (Some step) ≡ front_step (server_state core kept.globals.items) =
    subst (λ (o : Option PendingRequest). pendings_in core args (ok o)
    ≡ front_step (server_state core kept.globals.items)) c.in-Some.is c.in_ok-request.ensures.answer in
    inr (
      refl,
      subst (λ (k : Core). server_role.opens (whole_state kept.allowed k kept.globals.items kept.registries.list) ≡ true)
          c.in_ok-request.ensures.ok c.in-Err.ensures.opens,
      subst (λ (a : Result (Option Report) NextError). IsOk a)
          (answer-is state (ok (Some step)) (seen-by state state.globals (ok (Some step)) lives refl there)) refl,
    )
