use Rattle.std.proofs.Common.{refl}
use Rattle.wl_sigs.specs.Core.{core_tables}
use Rattle.wl_check.specs.Places.{holder, is_ending, used, server_used, advertised_version, taken}
use Rattle.wl_check.proofs.samples.modes_that_end_alone.Goals as goal

pub returns-clause-replaced : goal.returns-clause-replaced
unfolding core_tables holder is_ending used server_used advertised_version taken
returns-clause-replaced c = refl

pub returns-clause-born : goal.returns-clause-born
unfolding core_tables holder is_ending used server_used advertised_version taken
returns-clause-born c = refl

pub returns-clause-kept : goal.returns-clause-kept
unfolding core_tables holder is_ending used server_used advertised_version taken
returns-clause-kept c = refl
