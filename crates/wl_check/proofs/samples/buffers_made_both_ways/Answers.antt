use Rattle.std.proofs.Common.{refl}
use Rattle.wl_sigs.specs.Core.{core_tables}
use Rattle.wl_check.specs.Places.{holder, is_ending, used, server_used, advertised_version, taken}
use Rattle.wl_check.proofs.samples.buffers_made_both_ways.Goals as goal

pub returns-clause-by_request : goal.returns-clause-by_request
unfolding core_tables holder is_ending used server_used advertised_version taken
returns-clause-by_request c = refl

pub returns-clause-by_event : goal.returns-clause-by_event
unfolding core_tables holder is_ending used server_used advertised_version taken
returns-clause-by_event c = refl

pub returns-clause-destroyed : goal.returns-clause-destroyed
unfolding core_tables holder is_ending used server_used advertised_version taken
returns-clause-destroyed c = refl

pub returns-clause-destroyed_too : goal.returns-clause-destroyed_too
unfolding core_tables holder is_ending used server_used advertised_version taken
returns-clause-destroyed_too c = refl

pub returns-clause-freed : goal.returns-clause-freed
unfolding core_tables holder is_ending used server_used advertised_version taken
returns-clause-freed c = refl

pub returns-clause-kept : goal.returns-clause-kept
unfolding core_tables holder is_ending used server_used advertised_version taken
returns-clause-kept c = refl
