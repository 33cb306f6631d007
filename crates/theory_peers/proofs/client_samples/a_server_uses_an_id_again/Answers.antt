use Rattle.std.proofs.Common.{refl}
use Rattle.wl_sigs.specs.Core.{core_tables}
use Rattle.wl_check.specs.Places.{holder, is_ending, used, server_used, advertised_version, taken}
use Rattle.theory_recording.specs.Follows.{places_of_making}
use Rattle.theory_peers.specs.AcceptedRequest.{index_of}
use Rattle.theory_peers.proofs.client_samples.a_server_uses_an_id_again.Goals as goal

pub returns-clause-offer : goal.returns-clause-offer
unfolding core_tables holder is_ending used server_used advertised_version taken places_of_making index_of
returns-clause-offer c = refl

pub returns-clause-again : goal.returns-clause-again
unfolding core_tables holder is_ending used server_used advertised_version taken places_of_making index_of
returns-clause-again c = refl
