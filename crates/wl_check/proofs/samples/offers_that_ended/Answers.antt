use Rattle.std.proofs.Common.{refl}
use Rattle.wl_sigs.specs.Core.{core_tables}
use Rattle.wl_check.specs.Places.{holder, is_ending, used, server_used, advertised_version, taken}
use Rattle.wl_check.proofs.samples.offers_that_ended.Goals as goal

pub returns-clause-before : goal.returns-clause-before
unfolding core_tables holder is_ending used server_used advertised_version taken
returns-clause-before c = refl

pub returns-clause-after : goal.returns-clause-after
unfolding core_tables holder is_ending used server_used advertised_version taken
returns-clause-after c = refl

pub returns-clause-request : goal.returns-clause-request
unfolding core_tables holder is_ending used server_used advertised_version taken
returns-clause-request c = refl

pub returns-clause-delete_id : goal.returns-clause-delete_id
unfolding core_tables holder is_ending used server_used advertised_version taken
returns-clause-delete_id c = refl

pub returns-clause-kept : goal.returns-clause-kept
unfolding core_tables holder is_ending used server_used advertised_version taken
returns-clause-kept c = refl
