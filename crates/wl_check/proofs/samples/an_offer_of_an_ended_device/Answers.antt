use Rattle.std.proofs.Common.{refl}
use Rattle.wl_sigs.specs.Core.{core_tables}
use Rattle.wl_check.specs.Places.{holder, is_ending, used, server_used, advertised_version, taken}
use Rattle.wl_check.proofs.samples.an_offer_of_an_ended_device.Goals as goal

pub returns-clause-made : goal.returns-clause-made
unfolding core_tables holder is_ending used server_used advertised_version taken
returns-clause-made c = refl

pub returns-clause-open : goal.returns-clause-open
unfolding core_tables holder is_ending used server_used advertised_version taken
returns-clause-open c = refl

pub returns-clause-shown : goal.returns-clause-shown
unfolding core_tables holder is_ending used server_used advertised_version taken
returns-clause-shown c = refl

pub returns-clause-destroyed : goal.returns-clause-destroyed
unfolding core_tables holder is_ending used server_used advertised_version taken
returns-clause-destroyed c = refl

pub returns-clause-next : goal.returns-clause-next
unfolding core_tables holder is_ending used server_used advertised_version taken
returns-clause-next c = refl
