use Rattle.std.proofs.Common.{rules}
use Rattle.wl_wire.proofs.header.Header.to_bytes.Goals as goal

pub returns : goal.returns
returns c = search rules
