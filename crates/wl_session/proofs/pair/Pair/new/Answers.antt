use Rattle.theory_connection.proofs.PairAtOpening.{new_stands}
use Rattle.theory_recording.proofs.LinkedAtOpening.{new_linked}
use Rattle.wl_session.proofs.pair.Pair.new.Goals as goal

pub returns-clause-stands : goal.returns-clause-stands
returns-clause-stands g c = rw (c.in_ok-client.ensures.0, c.in_ok-client.ensures.1, c.new-recording.ensures)
    (new_stands _ _ _ c.requires.one_limit c.know_valid.ensures)

pub returns-clause-linked : goal.returns-clause-linked
returns-clause-linked g c = rw (c.in_ok-client.ensures.0, c.in_ok-client.ensures.1, c.new-recording.ensures)
    (new_linked _ _ _ c.requires.one_limit c.know_valid.ensures)
