use Rattle.wl_check.proofs.LastBytes.{piece_brings}
use Rattle.wl_check.proofs.laws.a_piece_brings_last_bytes.Goals as goal

pub returns : goal.returns
returns c = piece_brings
