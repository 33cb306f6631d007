use Rattle.std.proofs.Common.{◌≡◌, false, rules}
use Rattle.wl_client.specs.State.{State}
use Rattle.wl_client.specs.Steps.{client_state}
use Rattle.wl_client.proofs.Fronts.{answer_found, next_if_some}
use Rattle.wl_client.proofs.role.ClientRoleAllocRole.find.Goals as goal

pub returns-in-Ok-clause-answer : goal.returns-in-Ok-clause-answer
returns-in-Ok-clause-answer g c =
    let kept = c.args.self.now in
    let state : State = client_state c.args.end.now.core kept.globals kept.made kept.replaced in
    let lives : state.core.failed ≡ false = search rules in
    answer_found state c.first_message.new.end.args c.in-Ok.event lives c.in-Ok.ensures.comes

pub returns-in-Ok-clause-ahead : goal.returns-in-Ok-clause-ahead
returns-in-Ok-clause-ahead g c =
    let lives : c.args.end.now.core.failed ≡ false = search rules in
    next_if_some c.args.end.now.core c.first_message.new.end.args c.in-Ok.event lives c.in-Ok.ensures.comes
