use Rattle.wl_sigs.specs.Side.TheVariants.{Request, Event}
use Rattle.wl_sigs.proofs.added.added_here.Goals as goal

pub added_side_broken-requires : goal.added_side_broken-requires
added_side_broken-requires g c = c.requires Request

pub added_side_broken-requires-2 : goal.added_side_broken-requires-2
added_side_broken-requires-2 g c = c.requires Event
