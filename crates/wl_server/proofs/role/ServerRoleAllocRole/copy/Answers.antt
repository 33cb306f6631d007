use Rattle.std.proofs.Common.{◌≡◌, ◌≢◌, List, [], length, subst, arith}
use Rattle.std.proofs.lemmas.Result.{on_err_weaker}
use Rattle.wl_objects.specs.declared.parsed.ParsedArg.{ParsedArg}
use Rattle.std.specs.Prelude.{IfOk}
use Rattle.wl_server.specs.Requests.{Report}
use Rattle.wl_server.specs.Seen.{report_of}
use Rattle.wl_server.proofs.AfterRequest.{copy-wants, front-told}
use Rattle.wl_server.proofs.role.ServerRoleAllocRole.copy.Goals as goal

pub returns-clause-ok : goal.returns-clause-ok
returns-clause-ok g c =
    let all : length c.first_tokens-tokens.result ≡ 20 = omega (arith, c.first_tokens-tokens.type_inv) in
    subst (λ (r : Report). IfOk c.to_owned.result (λ report. report_of report ≡ r))
    (front-told c.args.end.now.core _ c.args.end.now.args _ c.args.request.now c.body-body.result.now
    c.first_tokens-tokens.result (λ i. (c.end.view_is i).core)
    (λ i. (c.end.view_is i).args) c.requires.ahead.can_apply c.body-body.ensures.body all c.first_tokens-tokens.ensures)
    c.to_owned.ensures.ok

pub returns-clause-wants : goal.returns-clause-wants
returns-clause-wants g c =
    on_err_weaker c.to_owned.result
    (λ some. copy-wants c.args.end.now.core c.args.end.now.args c.args.request.now
    (subst (λ (a : List ParsedArg). a ≢ []) (λ i. (c.end.view_is i).args) some))
    c.to_owned.ensures.err
