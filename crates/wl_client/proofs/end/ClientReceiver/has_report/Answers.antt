use Rattle.std.proofs.Common.{ap, subst, ◌∙◌}
use Rattle.wl_client.specs.State.{State}
use Rattle.wl_connection.specs.Reads.{HasReport}
use Rattle.wl_client.specs.Streams.{client_reading}
use Rattle.wl_client.proofs.Needs.{has_one}
use Rattle.wl_client.proofs.end.ClientReceiver.has_report.Goals.{in-Ok-Some, in_default, in_default-2}
use Rattle.wl_client.proofs.end.ClientReceiver.has_report.Goals as goal

pub returns-clause-yes : goal.returns-clause-yes
returns-clause-yes g c t =
    let state : State = record {
      core = c.self.inside.end.core;
      globals = c.self.inside.role.globals;
      made = c.self.inside.role.made;
      replaced = c.self.inside.role.replaced;
    } in
    elim c.match-first_message.branch [
      | in-Ok-Some w ↦
          let front = rw w.in-Ok-Some.field-0-is at w.in-Ok-Some.ensures.comes in
          subst (HasReport client_reading) c.self.view_is
          (has_one state front.0 (ap (λ (s : State). s.core.failed) c.self.view_is ∙ c.requires) front.1.is_found)
      | in_default w ↦ absurd (let r = w.result-is in cc)
      | in_default-2 w ↦ absurd (let r = w.result-is in cc)
    ]
