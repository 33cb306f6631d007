use Rattle.std.proofs.Common.{arith}
use Rattle.theory_peers.proofs.RunByBytes.{meets_no_fault, stays_lawful}
use Rattle.theory_peers.proofs.server_streams.while_its_client_keeps_the_rules.Goals as goal

pub returns-clause-lawful : goal.returns-clause-lawful
returns-clause-lawful c = λ limit tables pieces arriving leaving state valid plays few.
    stays_lawful limit tables pieces arriving leaving state valid plays (omega (arith, few))

pub returns-clause-no_fault : goal.returns-clause-no_fault
returns-clause-no_fault c = λ limit tables pieces arriving leaving state valid plays few.
    meets_no_fault limit tables pieces arriving leaving state valid plays (omega (arith, few))
