use Rattle.std.proofs.Common.{refl}
use Rattle.wl_sigs.specs.Core.{core_tables}
use Rattle.wl_check.specs.Places.{holder, is_ending, used, server_used, advertised_version, taken}
use Rattle.wl_check.proofs.samples.delete_ids_that_nothing_asked_for.Goals as goal

pub returns-clause-live : goal.returns-clause-live
unfolding core_tables holder is_ending used server_used advertised_version taken
returns-clause-live c = refl

pub returns-clause-of_server : goal.returns-clause-of_server
unfolding core_tables holder is_ending used server_used advertised_version taken
returns-clause-of_server c = refl

pub returns-clause-display : goal.returns-clause-display
unfolding core_tables holder is_ending used server_used advertised_version taken
returns-clause-display c = refl

pub returns-clause-without_object : goal.returns-clause-without_object
unfolding core_tables holder is_ending used server_used advertised_version taken
returns-clause-without_object c = refl

pub returns-clause-freed : goal.returns-clause-freed
unfolding core_tables holder is_ending used server_used advertised_version taken
returns-clause-freed c = refl

pub returns-clause-destroyed : goal.returns-clause-destroyed
unfolding core_tables holder is_ending used server_used advertised_version taken
returns-clause-destroyed c = refl

pub returns-clause-ended : goal.returns-clause-ended
unfolding core_tables holder is_ending used server_used advertised_version taken
returns-clause-ended c = refl

pub returns-clause-by_event : goal.returns-clause-by_event
unfolding core_tables holder is_ending used server_used advertised_version taken
returns-clause-by_event c = refl
