use Rattle.theory_recording.proofs.LinkedIsLawful.{linked_lawful}
use Rattle.wl_session.proofs.pair.Pair.recording.Goals as goal

pub returns-clause-lawful : goal.returns-clause-lawful
returns-clause-lawful g c = rw (← c.self.view_is) (λ world linked. linked_lawful _ world linked)
