use Rattle.std.proofs.Common.{sym, ◌∙◌}
use Rattle.wl_rules.specs.Places.{place_in}
use Rattle.wl_rules.proofs.FirstBrokenLine.{interfaces_broken-next}
use Rattle.wl_rules.proofs.rules.interfaces_broken.Goals as goal

pub loop-index-preserved : goal.loop-index-preserved
loop-index-preserved g c =
    let next = interfaces_broken-next (place_in c.args.places.now) c.args.ended.now c.args.from c.args.interfaces.now
    c.loop-index.index c.index-interfaces-index.result c.loop-index-test.true c.index-interfaces-index.is in
    c.earlier-first.ensures ∙ rw (c.loop-index.invariant, c.in_ok-found.ensures) (sym next)
