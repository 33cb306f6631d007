use Rattle.std.proofs.Common.{refl}
use Rattle.std.specs.Fmt.{digits}
use Rattle.wl_sigs.specs.Core.{core_tables}
use Rattle.wl_check.specs.Places.{holder, is_ending, used, server_used, advertised_version, taken}
use Rattle.wl_check.proofs.samples.an_offer_and_the_next.Goals as goal

pub returns-clause-made : goal.returns-clause-made
unfolding core_tables holder is_ending used server_used advertised_version taken digits
returns-clause-made c = refl

pub returns-clause-destroyed : goal.returns-clause-destroyed
unfolding core_tables holder is_ending used server_used advertised_version taken digits
returns-clause-destroyed c = refl

pub returns-clause-shown : goal.returns-clause-shown
unfolding core_tables holder is_ending used server_used advertised_version taken digits
returns-clause-shown c = refl

pub returns-clause-again : goal.returns-clause-again
unfolding core_tables holder is_ending used server_used advertised_version taken digits
returns-clause-again c = refl

pub returns-clause-open : goal.returns-clause-open
unfolding core_tables holder is_ending used server_used advertised_version taken digits
returns-clause-open c = refl

pub returns-clause-ending : goal.returns-clause-ending
unfolding core_tables holder is_ending used server_used advertised_version taken digits
returns-clause-ending c = refl

pub returns-clause-born_again : goal.returns-clause-born_again
unfolding core_tables holder is_ending used server_used advertised_version taken digits
returns-clause-born_again c = refl

pub returns-clause-line : goal.returns-clause-line
unfolding core_tables holder is_ending used server_used advertised_version taken digits
returns-clause-line c = refl

pub returns-clause-shown_line : goal.returns-clause-shown_line
unfolding core_tables holder is_ending used server_used advertised_version taken digits
returns-clause-shown_line c = refl
