use Rattle.wl_check.specs.Session.{messages}
use Rattle.wl_check.proofs.Lines.{printed_is}
use Rattle.wl_check.proofs.laws.a_trace_ends_with_the_verdict.Goals as goal

pub returns : goal.returns
returns c = λ tables session k. printed_is (messages tables session) k
