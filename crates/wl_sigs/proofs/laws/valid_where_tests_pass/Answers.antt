use Rattle.wl_sigs.proofs.RulesDecide.{valid_tested, tested_valid}
use Rattle.wl_sigs.proofs.laws.valid_where_tests_pass.Goals as goal

pub returns : goal.returns
returns c = λ tables. (valid_tested tables, tested_valid tables)
