use Rattle.std.proofs.Common.{rules}
use Rattle.wl_wire.proofs.reading.text_at.Goals as goal

pub returns : goal.returns
returns c = search rules

pub returns-then-has_nul : goal.returns-then-has_nul
returns-then-has_nul c = search rules
