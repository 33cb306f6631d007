use Rattle.std.proofs.Common.{◌≡◌, true, length, subst, arith}
use Rattle.std.specs.Prelude.{IfOk, OnErr}
use Rattle.wl_client.specs.Reports.{Report, needs_memory}
use Rattle.wl_client.specs.Seen.{report_of}
use Rattle.wl_client.proofs.Fronts.{front_told}
use Rattle.wl_client.proofs.role.ClientRoleAllocRole.copy.Goals as goal

pub returns-clause-ok : goal.returns-clause-ok
returns-clause-ok g c =
    let all : length c.first_tokens-tokens.result ≡ 20 = omega (arith, c.first_tokens-tokens.type_inv) in
    subst (λ (r : Report). IfOk c.to_owned.result (λ report. report_of report ≡ r))
    (front_told c.args.end.now.core _ c.args.end.now.args _ c.args.event.now c.body-body.result.now
    c.first_tokens-tokens.result (λ i. (c.end.view_is i).core)
    (λ i. (c.end.view_is i).args) c.requires.ahead.ahead.can_apply c.body-body.ensures.body all
    c.first_tokens-tokens.ensures)
    c.to_owned.ensures.ok

pub returns-clause-wants : goal.returns-clause-wants
returns-clause-wants g c =
    let all : length c.first_tokens-tokens.result ≡ 20 = omega (arith, c.first_tokens-tokens.type_inv) in
    subst (λ (r : Report). OnErr c.to_owned.result (needs_memory r ≡ true))
    (front_told c.args.end.now.core _ c.args.end.now.args _ c.args.event.now c.body-body.result.now
    c.first_tokens-tokens.result (λ i. (c.end.view_is i).core)
    (λ i. (c.end.view_is i).args) c.requires.ahead.ahead.can_apply c.body-body.ensures.body all
    c.first_tokens-tokens.ensures)
    c.to_owned.ensures.err
