use Rattle.std.proofs.Common.{◌≡◌, false, refl, sym, ap, subst, ◌∙◌, rules}
use Rattle.std.specs.declared.result.Result.TheVariants.{Err as err}
use Rattle.wl_connection.specs.Core.{Core}
use Rattle.wl_server.specs.State.{State}
use Rattle.wl_server.specs.Steps.{core_told, whole_state}
use Rattle.wl_server.specs.Slots.{IsSound}
use Rattle.wl_server.proofs.AfterRequest.{after-is, answer-is, seen-by}
use Rattle.wl_server.proofs.SoundAfterFaults.{sound_told}
use Rattle.wl_server.proofs.role.ServerRoleAllocRole.find.Goals as goal

pub returns-in-Err-clause-answer : goal.returns-in-Err-clause-answer
returns-in-Err-clause-answer g c =
    let kept = c.args.self.now in
    let state : State = whole_state kept.allowed c.args.end.now.core kept.globals.items kept.registries.list in
    let lives : state.core.failed ≡ false = search rules in
    answer-is state (err c.in-Err.why)
    (seen-by state state.globals (err c.in-Err.why) lives refl c.in-Err.ensures.answer)

pub returns-in-Err-clause-fails : goal.returns-in-Err-clause-fails
returns-in-Err-clause-fails g c =
    let kept = c.args.self.now in
    let state : State = whole_state kept.allowed c.args.end.now.core kept.globals.items kept.registries.list in
    let lives : state.core.failed ≡ false = search rules in
    let now : c.report_fault.new.core ≡ core_told state.core c.in-Err.why =
    c.report_fault.ensures ∙ ap (λ (k : Core). core_told k c.in-Err.why) c.in-Err.ensures.same in
    ap (λ (k : Core). whole_state kept.allowed k kept.globals.items kept.registries.list) now
    ∙ after-is state (err c.in-Err.why)
    (seen-by state state.globals (err c.in-Err.why) lives refl c.in-Err.ensures.answer)

pub returns-in-Err-clause-sound : goal.returns-in-Err-clause-sound
returns-in-Err-clause-sound g c =
    let kept = c.args.self.now in
    let core = c.args.end.now.core in
    let now : c.report_fault.new.core ≡ core_told core c.in-Err.why =
    c.report_fault.ensures ∙ ap (λ (k : Core). core_told k c.in-Err.why) c.in-Err.ensures.same in
    subst (λ (k : Core). IsSound k kept.globals.items kept.registries) (sym now)
    (sound_told core kept.globals.items kept.registries c.in-Err.why c.requires.sound)
