use Rattle.std.proofs.Common.{◌∙◌}
use Rattle.wl_wire.proofs.Nuls.{nul_searched}
use Rattle.wl_wire.proofs.text.has_nul.Goals as goal

pub returns-then-text-lt-LANES : goal.returns-then-text-lt-LANES
returns-then-text-lt-LANES c = c.is_some.ensures ∙ nul_searched c.args.text.now c.memchr.result c.memchr.ensures
