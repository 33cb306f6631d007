use Rattle.std.proofs.Common.{rules}
use Rattle.wl_sigs.specs.Core.{unended_tables}
use Rattle.wl_sigs.proofs.CoreValid.{unended_valid}
use Rattle.wl_sigs.proofs.tables.Tables.core_unended.Goals as goal

pub of-requires : goal.of-requires
unfolding unended_tables
of-requires g c = unended_valid

pub returns-clause-holds : goal.returns-clause-holds
unfolding unended_tables
returns-clause-holds g c = search rules
