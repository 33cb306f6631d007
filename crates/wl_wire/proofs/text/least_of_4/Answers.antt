use Rattle.wl_wire.proofs.Lanes.{nul_least, least_len}
use Rattle.wl_wire.proofs.text.least_of_4.Goals as goal

pub returns-clause-nul : goal.returns-clause-nul
returns-clause-nul c = nul_least c.args.text.now c.least_of_2.result c.least_of_2-2.result c.args.at 128
    c.least_of_2.ensures.len c.least_of_2-2.ensures.len c.least_of_2.ensures.nul c.least_of_2-2.ensures.nul

pub returns-clause-len : goal.returns-clause-len
returns-clause-len c = least_len c.least_of_2.result c.least_of_2-2.result c.least_of_2.ensures.len
    c.least_of_2-2.ensures.len
