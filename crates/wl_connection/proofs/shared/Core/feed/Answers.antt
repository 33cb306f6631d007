use Rattle.std.proofs.Common.{rules}
use Rattle.wl_connection.proofs.shared.Core.feed.Goals as goal

pub returns-clause-fed : goal.returns-clause-fed
returns-clause-fed c = search rules
