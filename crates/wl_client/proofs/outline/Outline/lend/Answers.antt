use Rattle.std.proofs.Common.{◌≡◌, ℕ, List, ap, sym, ◌∙◌}
use Rattle.wl_objects.specs.Parsed.{spelled_in}
use Rattle.wl_client.specs.Reports.{Error, argument, text_in}
use Rattle.wl_client.specs.Outlines.{outlined}
use Rattle.wl_client.proofs.outline.Outline.lend.Goals as goal

pub returns-in-Error-clause-report : goal.returns-in-Error-clause-report
returns-in-Error-clause-report g c =
    let end = c.args.end.now in
    let inbox : c.last_with_tokens.result.0.now ≡ end.core.inbox.last =
    c.last_with_tokens.ensures.body ∙ (λ i. (c.core.view_is i).inbox.last) in
    ap (λ (text : List ℕ). Error c.in-Error.id c.in-Error.named c.in-Error.code text)
    (c.text_at.ensures ∙ ap (λ (body : List ℕ). text_in (argument (spelled_in body end.args) 2)) inbox)
    ∙ ap (outlined end.core.inbox.last end.args end.core.inbox.last_tokens) (sym c.in-Error.is)
