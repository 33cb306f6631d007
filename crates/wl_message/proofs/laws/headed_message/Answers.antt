use Rattle.wl_message.proofs.Cuts.{headed}
use Rattle.wl_message.proofs.laws.headed_message.Goals as goal

pub returns : goal.returns
returns c = headed
