use Rattle.std.proofs.Common.{◌-◌, arith}
use Rattle.wl_server.proofs.Words.{bit_is_set, reads_set}
use Rattle.wl_server.proofs.name_set.NameSet.set.Goals as goal

pub returns-clause-set : goal.returns-clause-set
returns-clause-set c = rw (← c.self.view_is) (bit_is_set c.self.inside.words (c.args.name - 1)
    (omega (arith, c.requires.0, c.requires.1)) c.self.told)

pub returns-clause-marked : goal.returns-clause-marked
returns-clause-marked c = reads_set c.self.inside.words (c.args.name - 1)
    (omega (arith, c.requires.0, c.requires.1)) c.self.told
