use Rattle.std.proofs.Common.{arith}
use Rattle.wl_wire.proofs.Nuls.{text_is}
use Rattle.wl_wire.proofs.value.is_text.Goals as goal

pub returns-then-text : goal.returns-then-text
returns-then-text c = text_is c.args.text.now c.has_nul.result c.has_nul.ensures (omega arith)
