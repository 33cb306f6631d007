use Rattle.waywire_c.proofs.GivenArguments.{when_few}
use Rattle.waywire_c.proofs.sending.send.Goals as goal

pub returns-then-call-le-FEW-clause-state : goal.returns-then-call-le-FEW-clause-state
returns-then-call-le-FEW-clause-state c =
    λ written. when_few _ _ c.if-call-le-FEW.true (c.put_call.ensures.state written)
