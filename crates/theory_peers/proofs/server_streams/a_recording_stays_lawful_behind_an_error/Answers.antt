use Rattle.std.proofs.Common.{arith}
use Rattle.theory_peers.proofs.PostedRun.{ended_first_is_clients, ended_stays_lawful}
use Rattle.theory_peers.proofs.server_streams.a_recording_stays_lawful_behind_an_error.Goals as goal

pub returns-clause-first : goal.returns-clause-first
returns-clause-first c = λ limit tables pieces leaving state direction index offset fault valid plays few.
    ended_first_is_clients limit tables pieces leaving state valid plays (omega (arith, few)) direction index offset fault

pub returns-clause-lawful : goal.returns-clause-lawful
returns-clause-lawful c = λ limit tables pieces leaving state valid plays few.
    ended_stays_lawful limit tables pieces leaving state valid plays (omega (arith, few))
