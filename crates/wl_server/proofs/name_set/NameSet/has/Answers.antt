use Rattle.std.proofs.Common.{◌-◌, arith}
use Rattle.wl_server.proofs.Words.{read_bit}
use Rattle.wl_server.proofs.name_set.NameSet.has.Goals as goal

pub returns : goal.returns
returns c = rw (← c.self.view_is) (read_bit c.self.inside.words (c.args.name - 1)
    (omega (arith, c.requires.0, c.requires.1)))
