use Rattle.std.proofs.Common.{rules}
use Rattle.wl_session.proofs.pair.Pair.ended_at.Goals as goal

pub returns : goal.returns
returns c = search rules
