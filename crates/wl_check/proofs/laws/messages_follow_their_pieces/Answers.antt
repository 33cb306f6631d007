use Rattle.wl_check.proofs.MergedOrder.{in_order}
use Rattle.wl_check.proofs.laws.messages_follow_their_pieces.Goals as goal

pub returns : goal.returns
returns c = in_order
