use Rattle.std.proofs.Common.{List, ap, ◌∙◌, slice_get}
use Rattle.wl_sigs.specs.Tables.{Interface}
use Rattle.wl_sigs.proofs.Got.{got}
use Rattle.wl_sigs.proofs.tables.Tables.entry.Goals as goal

pub returns-clause-answer : goal.returns-clause-answer
returns-clause-answer g c =
    got c.get.result c.deref.result.now c.args.iface.0 c.get.ensures.lookup.0 c.get.ensures.lookup.1
    ∙ ap (λ (xs : List Interface). slice_get xs c.args.iface.0) (c.deref.ensures.value ∙ c.self.view_is)
