use Rattle.wl_check.proofs.EachOnce.{once}
use Rattle.wl_check.proofs.laws.each_message_stands_once.Goals as goal

pub returns : goal.returns
returns c = λ limit pieces direction. once limit direction pieces
