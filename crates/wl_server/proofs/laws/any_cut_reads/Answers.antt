use Rattle.wl_sigs.specs.Side.TheVariants.{Request as request_side}
use Rattle.theory_cuts.proofs.AnyCut.{any_cut}
use Rattle.wl_server.specs.Streams.{server_reading}
use Rattle.theory_cuts.proofs.OneReading.{is_reading}
use Rattle.wl_server.specs.Requests.{server_role}
use Rattle.wl_server.proofs.ReadingStays.{is_role}
use Rattle.wl_server.proofs.laws.any_cut_reads.Goals as goal

pub returns : goal.returns
returns c = any_cut server_reading request_side (is_reading server_role is_role)
