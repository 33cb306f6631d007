use Rattle.wl_check.proofs.WithinStream.{all_within}
use Rattle.wl_check.proofs.laws.messages_lie_within_their_streams.Goals as goal

pub returns : goal.returns
returns c = all_within
