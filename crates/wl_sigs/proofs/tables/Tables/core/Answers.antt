use Rattle.std.proofs.Common.{rules}
use Rattle.wl_sigs.specs.Core.{core_tables}
use Rattle.wl_sigs.proofs.CoreValid.{core_valid}
use Rattle.wl_sigs.proofs.tables.Tables.core.Goals as goal

pub of-requires : goal.of-requires
unfolding core_tables
of-requires g c = core_valid

pub returns-clause-holds : goal.returns-clause-holds
unfolding core_tables
returns-clause-holds g c = search rules
