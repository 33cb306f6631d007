use Rattle.wl_wire.proofs.Canonicals.{header_bytes-at}
use Rattle.wl_wire.proofs.laws.header_is_written.Goals as goal

pub returns : goal.returns
returns c = header_bytes-at
