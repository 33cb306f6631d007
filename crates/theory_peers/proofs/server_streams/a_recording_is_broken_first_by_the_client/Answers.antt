use Rattle.std.proofs.Common.{arith}
use Rattle.theory_peers.proofs.RunByBytes.{first_is_clients}
use Rattle.theory_peers.proofs.server_streams.a_recording_is_broken_first_by_the_client.Goals as goal

pub returns : goal.returns
returns c = λ limit tables pieces arriving leaving state direction index offset fault valid plays few.
    first_is_clients limit tables pieces arriving leaving state valid plays (omega (arith, few)) direction index offset
    fault
