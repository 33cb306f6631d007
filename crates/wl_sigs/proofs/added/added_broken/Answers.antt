use Rattle.std.proofs.Common.{sym, ap, ◌∙◌, Option}
use Rattle.std.proofs.Math.Path.{ap₂}
use Rattle.wl_text.specs.Text.{WrittenInterface}
use Rattle.wl_sigs.specs.Broken.{Broken, earlier}
use Rattle.wl_sigs.specs.BrokenLines.{added_here}
use Rattle.wl_sigs.specs.Places.{place_in}
use Rattle.wl_sigs.proofs.Bodies.{added_broken-next}
use Rattle.wl_sigs.proofs.Got.{got}
use Rattle.wl_sigs.proofs.added.added_broken.Goals as goal

pub loop-here-preserved : goal.loop-here-preserved
loop-here-preserved g c =
    let tables = c.args.known.now.interfaces.now in
    let place = place_in c.args.known.now.places.now in
    let ended = c.args.known.now.ended.now in
    let x = c.index-interfaces-here.result in
    c.earlier-first.ensures
    ∙ ap₂ (λ (a b : Option Broken). earlier a b) c.loop-here.invariant
    (c.in_ok-found.ensures
    ∙ ap (λ (o : Option WrittenInterface). added_here tables place ended c.loop-here.here x o)
    (got c.get-more.result c.args.added.now c.loop-here.here c.get-more.ensures.lookup.0 c.get-more.ensures.lookup.1))
    ∙ sym (added_broken-next tables place ended tables c.loop-here.here x c.args.added.now c.loop-here-test.true
    c.index-interfaces-here.is)
