-- The core tables are valid: the tests of the rules compute to true.
use Rattle.std.proofs.Common.{refl}
use Rattle.wl_sigs.specs.Core.{core_tables, unended_tables}
use Rattle.wl_sigs.specs.Valid.{Valid}
use Rattle.wl_sigs.proofs.RulesDecide.{tested_valid}

pub core_valid : Valid core_tables
unfolding core_tables
core_valid = tested_valid core_tables (record { display = refl; registry = refl; callback = refl; fixes = refl }, refl)

pub unended_valid : Valid unended_tables
unfolding unended_tables
unended_valid = tested_valid unended_tables (record { display = refl; registry = refl; callback = refl; fixes = refl }, refl)
