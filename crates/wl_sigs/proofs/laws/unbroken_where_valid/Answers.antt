use Rattle.wl_sigs.proofs.ExtendedValid.{unbroken}
use Rattle.wl_sigs.proofs.laws.unbroken_where_valid.Goals as goal

pub returns : goal.returns
returns c = unbroken
