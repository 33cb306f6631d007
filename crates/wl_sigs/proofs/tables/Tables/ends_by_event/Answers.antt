use Rattle.std.proofs.Common.{rules}
use Rattle.wl_sigs.proofs.tables.Tables.ends_by_event.Goals as goal

pub returns-in-None-clause-answer : goal.returns-in-None-clause-answer
returns-in-None-clause-answer c = search rules
