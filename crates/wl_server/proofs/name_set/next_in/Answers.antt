use Rattle.std.proofs.Common.{◌%◌, arith}
use Rattle.std.proofs.Math.Facts.{Fits-lt-pow}
use Rattle.wl_server.proofs.Behind.{lowest}
use Rattle.wl_server.proofs.name_set.next_in.Goals as goal

pub returns-clause-behind : goal.returns-clause-behind
returns-clause-behind c =
    omega (arith, (lowest c.args.word (c.args.place % 64) (Fits-lt-pow c.ranges.word) (omega arith)).0)

pub returns-clause-none : goal.returns-clause-none
returns-clause-none c k after before =
    (lowest c.args.word (c.args.place % 64) (Fits-lt-pow c.ranges.word) (omega arith)).1 k after (omega (arith, before))
