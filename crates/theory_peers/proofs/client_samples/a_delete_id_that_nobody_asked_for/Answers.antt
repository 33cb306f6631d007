use Rattle.std.proofs.Common.{refl}
use Rattle.wl_sigs.specs.Core.{core_tables}
use Rattle.wl_check.specs.Places.{holder, is_ending, used, server_used, advertised_version, taken}
use Rattle.theory_recording.specs.Follows.{places_of_making}
use Rattle.theory_peers.specs.AcceptedRequest.{index_of}
use Rattle.theory_peers.proofs.client_samples.a_delete_id_that_nobody_asked_for.Goals as goal

pub returns-clause-undeserved : goal.returns-clause-undeserved
unfolding core_tables holder is_ending used server_used advertised_version taken places_of_making index_of
returns-clause-undeserved c = refl

pub returns-clause-allowed : goal.returns-clause-allowed
unfolding core_tables holder is_ending used server_used advertised_version taken places_of_making index_of
returns-clause-allowed c = refl

pub returns-clause-taken : goal.returns-clause-taken
unfolding core_tables holder is_ending used server_used advertised_version taken places_of_making index_of
returns-clause-taken c = refl

pub returns-clause-before : goal.returns-clause-before
unfolding core_tables holder is_ending used server_used advertised_version taken places_of_making index_of
returns-clause-before c = refl

pub returns-clause-after : goal.returns-clause-after
unfolding core_tables holder is_ending used server_used advertised_version taken places_of_making index_of
returns-clause-after c = refl
