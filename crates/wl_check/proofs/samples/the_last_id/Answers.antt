use Rattle.std.proofs.Common.{refl}
use Rattle.wl_sigs.specs.Core.{core_tables}
use Rattle.wl_check.specs.Places.{holder, is_ending, used, server_used, advertised_version, taken}
use Rattle.wl_check.proofs.samples.the_last_id.Goals as goal

pub returns-clause-last : goal.returns-clause-last
unfolding core_tables holder is_ending used server_used advertised_version taken
returns-clause-last c = refl

pub returns-clause-past : goal.returns-clause-past
unfolding core_tables holder is_ending used server_used advertised_version taken
returns-clause-past c = refl

pub returns-clause-wrong : goal.returns-clause-wrong
unfolding core_tables holder is_ending used server_used advertised_version taken
returns-clause-wrong c = refl
