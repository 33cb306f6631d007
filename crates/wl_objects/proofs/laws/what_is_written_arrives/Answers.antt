use Rattle.wl_objects.proofs.WrittenArrives.{arrive}
use Rattle.wl_objects.proofs.laws.what_is_written_arrives.Goals as goal

pub returns : goal.returns
returns c = λ writer reader kinds n list b f w h. arrive writer reader n kinds list b f w.suit w.live w.in_range h
