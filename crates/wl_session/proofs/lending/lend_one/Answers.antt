use Rattle.std.proofs.Common.{rules}
use Rattle.wl_session.proofs.lending.lend_one.Goals as goal

pub returns-in-Fd-clause-same : goal.returns-in-Fd-clause-same
returns-in-Fd-clause-same c = search rules
