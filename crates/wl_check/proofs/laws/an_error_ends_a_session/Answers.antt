use Rattle.wl_check.specs.Session.{messages}
use Rattle.wl_check.proofs.Examined.{examined_is}
use Rattle.wl_check.proofs.laws.an_error_ends_a_session.Goals as goal

pub returns : goal.returns
returns c = λ tables session k. examined_is (messages tables session) k
