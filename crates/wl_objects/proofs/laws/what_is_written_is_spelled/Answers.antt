use Rattle.wl_objects.proofs.Wholes.{written-spelled}
use Rattle.wl_objects.proofs.laws.what_is_written_is_spelled.Goals as goal

pub returns : goal.returns
returns c = λ kinds n list b w i o. written-spelled n 0 kinds list b w i o
