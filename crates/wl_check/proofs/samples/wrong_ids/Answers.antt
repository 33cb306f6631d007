use Rattle.std.proofs.Common.{refl}
use Rattle.wl_sigs.specs.Core.{core_tables}
use Rattle.wl_check.specs.Places.{holder, is_ending, used, server_used, advertised_version, taken}
use Rattle.wl_check.proofs.samples.wrong_ids.Goals as goal

pub returns-clause-below : goal.returns-clause-below
unfolding core_tables holder is_ending used server_used advertised_version taken
returns-clause-below c = refl

pub returns-clause-null : goal.returns-clause-null
unfolding core_tables holder is_ending used server_used advertised_version taken
returns-clause-null c = refl

pub returns-clause-past : goal.returns-clause-past
unfolding core_tables holder is_ending used server_used advertised_version taken
returns-clause-past c = refl

pub returns-clause-open : goal.returns-clause-open
unfolding core_tables holder is_ending used server_used advertised_version taken
returns-clause-open c = refl

pub returns-clause-next_in_request : goal.returns-clause-next_in_request
unfolding core_tables holder is_ending used server_used advertised_version taken
returns-clause-next_in_request c = refl

pub returns-clause-used_in_request : goal.returns-clause-used_in_request
unfolding core_tables holder is_ending used server_used advertised_version taken
returns-clause-used_in_request c = refl

pub returns-clause-not_made : goal.returns-clause-not_made
unfolding core_tables holder is_ending used server_used advertised_version taken
returns-clause-not_made c = refl
