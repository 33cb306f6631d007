use Rattle.wl_objects.proofs.ArgumentsMeet.{met, meets-read}
use Rattle.wl_objects.proofs.laws.what_meets_is_read.Goals as goal

pub returns : goal.returns
returns c = λ reader place kinds bytes values rest w. (met reader place kinds bytes values rest w, meets-read)
