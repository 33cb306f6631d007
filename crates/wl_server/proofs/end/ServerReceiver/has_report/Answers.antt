use Rattle.std.proofs.Common.{◌≡◌, false, refl, ap, sym, subst, ◌∙◌}
use Rattle.std.specs.declared.option.Option.TheVariants.{Some}
use Rattle.std.specs.declared.result.Result.TheVariants.{Ok as ok}
use Rattle.wl_connection.specs.Reads.{HasReport}
use Rattle.wl_server.specs.State.{State}
use Rattle.wl_server.specs.Steps.{pending_in}
use Rattle.wl_server.specs.Streams.{server_reading}
use Rattle.wl_server.proofs.AfterRequest.{seen-by, answer-is}
use Rattle.wl_server.proofs.end.ServerReceiver.has_report.Goals.{in-Ok-Some, in_default, in_default-2}
use Rattle.wl_server.proofs.end.ServerReceiver.has_report.Goals as goal

pub returns-clause-yes : goal.returns-clause-yes
returns-clause-yes g c t =
    let state : State = record {
      core = c.self.inside.end.core;
      globals = c.self.inside.role.globals.items;
      registries = c.self.inside.role.registries.list;
      allowed = c.self.inside.role.allowed;
    } in
    let lives : state.core.failed ≡ false = ap (λ (s : State). s.core.failed) c.self.view_is ∙ c.requires in
    elim c.match-first_request.branch [
      | in-Ok-Some w ↦
          let step = pending_in state.core c.first_request.new.end.args w.in-Ok-Some.field-0-0 in
          let answer = seen-by state state.globals (ok (Some step)) lives refl
          (rw w.in-Ok-Some.field-0-is at w.in-Ok-Some.ensures.answer) in
          subst (HasReport server_reading) c.self.view_is (step.report, sym (answer-is state (ok (Some step)) answer))
      | in_default w ↦ absurd (let r = w.result-is in cc)
      | in_default-2 w ↦ absurd (let r = w.result-is in cc)
    ]
