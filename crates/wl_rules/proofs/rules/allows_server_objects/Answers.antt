use Rattle.std.proofs.Common.{sym, ◌∙◌}
use Rattle.wl_rules.specs.Places.{place_in}
use Rattle.wl_rules.proofs.NoneMade.{none_made}
use Rattle.wl_rules.proofs.rules.allows_server_objects.Goals as goal

pub returns-then-made-eq0 : goal.returns-then-made-eq0
returns-then-made-eq0 g c =
    none_made (place_in c.args.places.now) c.args.ended.now c.args.side c.args.kinds.now
    (sym c.count_by_server-made.ensures ∙ c.if-made-eq0.true)
