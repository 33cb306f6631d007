use Rattle.std.proofs.Common.{refl}
use Rattle.wl_sigs.specs.Core.{core_tables}
use Rattle.wl_check.specs.Places.{holder, is_ending, used, server_used, advertised_version, taken}
use Rattle.theory_recording.specs.Follows.{places_of_making}
use Rattle.theory_peers.specs.AcceptedRequest.{index_of}
use Rattle.theory_peers.proofs.client_samples.binds_between_the_bounds.Goals as goal

pub returns-clause-none : goal.returns-clause-none
unfolding core_tables holder is_ending used server_used advertised_version taken places_of_making index_of
returns-clause-none c = refl

pub returns-clause-first : goal.returns-clause-first
unfolding core_tables holder is_ending used server_used advertised_version taken places_of_making index_of
returns-clause-first c = refl

pub returns-clause-last : goal.returns-clause-last
unfolding core_tables holder is_ending used server_used advertised_version taken places_of_making index_of
returns-clause-last c = refl

pub returns-clause-later : goal.returns-clause-later
unfolding core_tables holder is_ending used server_used advertised_version taken places_of_making index_of
returns-clause-later c = refl
