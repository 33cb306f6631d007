use Rattle.std.proofs.Common.{◌≡◌, subst, rules}
use Rattle.std.specs.declared.result.Result.TheVariants.{Err as err}
use Rattle.wl_connection.specs.Reads.{Answer}
use Rattle.wl_connection.specs.Roles.{IsNext}
use Rattle.wl_server.specs.State.{State}
use Rattle.wl_server.specs.Requests.{Report, server_role}
use Rattle.wl_server.proofs.AfterRequest.{owned-next}
use Rattle.wl_server.proofs.server.Server.next_owned_with_entry.Goals as goal

pub returns-in_err-report-clause-answer : goal.returns-in_err-report-clause-answer
returns-in_err-report-clause-answer g c =
    let why = c.in_err-report.field-0.0 in
    let answer : Answer Report = err why in
    let same : c.from_residual.result ≡ err why = search rules in
    rw same (owned-next c.args.self.now answer
    (subst (λ (s : State). IsNext server_role s answer) c.self.view_is c.in_err-report.ensures.answer))
