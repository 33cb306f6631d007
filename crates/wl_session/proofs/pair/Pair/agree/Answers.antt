use Rattle.theory_connection.proofs.PairAtOpening.{agree_drained}
use Rattle.wl_session.proofs.pair.Pair.agree.Goals as goal

pub returns-clause-drained : goal.returns-clause-drained
returns-clause-drained g c = λ world s d. c.same_rows.ensures.exact.1
    (rw (← c.self.view_is) at (agree_drained c.args.self.now world s d))
