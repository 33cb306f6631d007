use Rattle.std.proofs.Common.{List, Option, ap, ◌∙◌}
use Rattle.std.proofs.Math.Path.{ap₂}
use Rattle.wl_text.specs.Text.{WrittenInterface, WrittenMessage}
use Rattle.wl_rules.specs.Broken.{Broken, broken_at, earlier, side_broken}
use Rattle.wl_rules.specs.Places.{place_in}
use Rattle.wl_rules.specs.declared.side.Side.TheVariants.{Request, Event}
use Rattle.wl_rules.proofs.rules.interface_broken.Goals as goal

pub returns : goal.returns
returns g c =
    let interface = c.args.interface.now in
    let place = place_in c.args.places.now in
    c.earlier-2.ensures
    ∙ ap₂ (λ (a b : Option Broken). earlier a b)
    (c.broken_at.ensures
    ∙ ap₂ broken_at (ap (λ (i : WrittenInterface). i.line) c.interface.view_is) c.interface_rule-rule.ensures)
    (c.earlier.ensures
    ∙ ap₂ (λ (a b : Option Broken). earlier a b)
    (c.in_ok-requests.ensures
    ∙ ap (λ (ms : List WrittenMessage). side_broken place c.args.ended.now interface Request ms)
    (c.as_slice.ensures.value ∙ ap (λ (i : WrittenInterface). i.requests) c.interface.view_is))
    (c.in_ok-events.ensures
    ∙ ap (λ (ms : List WrittenMessage). side_broken place c.args.ended.now interface Event ms)
    (c.as_slice-2.ensures.value ∙ ap (λ (i : WrittenInterface). i.events) c.interface.view_is)))
