use Rattle.std.proofs.Common.{rules}
use Rattle.wl_session.proofs.pair.Pair.drained.Goals as goal

pub returns-then-is_drained : goal.returns-then-is_drained
returns-then-is_drained c = search rules
