use Rattle.std.proofs.Common.{refl}
use Rattle.wl_sigs.specs.Core.{core_tables}
use Rattle.wl_check.specs.Places.{holder, is_ending, used, server_used, advertised_version, taken}
use Rattle.theory_recording.specs.Follows.{places_of_making}
use Rattle.theory_peers.specs.AcceptedRequest.{index_of}
use Rattle.theory_peers.proofs.samples.a_surface_is_made.Goals as goal

pub returns-clause-bind : goal.returns-clause-bind
unfolding core_tables holder is_ending used server_used advertised_version taken places_of_making index_of
returns-clause-bind c = refl

pub returns-clause-last_version : goal.returns-clause-last_version
unfolding core_tables holder is_ending used server_used advertised_version taken places_of_making index_of
returns-clause-last_version c = refl

pub returns-clause-later_version : goal.returns-clause-later_version
unfolding core_tables holder is_ending used server_used advertised_version taken places_of_making index_of
returns-clause-later_version c = refl

pub returns-clause-no_version : goal.returns-clause-no_version
unfolding core_tables holder is_ending used server_used advertised_version taken places_of_making index_of
returns-clause-no_version c = refl

pub returns-clause-surface : goal.returns-clause-surface
unfolding core_tables holder is_ending used server_used advertised_version taken places_of_making index_of
returns-clause-surface c = refl

pub returns-clause-unknown : goal.returns-clause-unknown
unfolding core_tables holder is_ending used server_used advertised_version taken places_of_making index_of
returns-clause-unknown c = refl

pub returns-clause-null : goal.returns-clause-null
unfolding core_tables holder is_ending used server_used advertised_version taken places_of_making index_of
returns-clause-null c = refl

pub returns-clause-destroyed : goal.returns-clause-destroyed
unfolding core_tables holder is_ending used server_used advertised_version taken places_of_making index_of
returns-clause-destroyed c = refl
