use Rattle.wl_wire.proofs.Canonicals.{header_at-bytes}
use Rattle.wl_wire.proofs.laws.header_is_read.Goals as goal

pub returns : goal.returns
returns c = header_at-bytes
