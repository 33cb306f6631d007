use Rattle.std.proofs.Common.{rules}
use Rattle.wl_sigs.proofs.tables.Tables.ends_by_request.Goals as goal

pub returns-in_default-clause-answer : goal.returns-in_default-clause-answer
returns-in_default-clause-answer c = search rules
