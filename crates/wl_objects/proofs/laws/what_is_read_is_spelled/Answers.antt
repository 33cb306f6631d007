use Rattle.wl_objects.proofs.Wholes.{meets-spelled}
use Rattle.std.proofs.Common.{refl, []}
use Rattle.wl_objects.proofs.ArgumentsMeet.{met}
use Rattle.wl_objects.proofs.laws.what_is_read_is_spelled.Goals as goal

pub returns : goal.returns
returns c = λ reader kinds bytes values w e. meets-spelled (met reader 0 kinds bytes values [] w e) refl
