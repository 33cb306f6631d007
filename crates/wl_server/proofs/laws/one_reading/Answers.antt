use Rattle.wl_sigs.specs.Side.TheVariants.{Request as request_side}
use Rattle.theory_cuts.proofs.AnyCut.{has_one_reading}
use Rattle.wl_server.specs.Streams.{server_reading}
use Rattle.theory_cuts.proofs.OneReading.{is_reading}
use Rattle.wl_server.specs.Requests.{server_role}
use Rattle.wl_server.proofs.ReadingStays.{is_role}
use Rattle.wl_server.proofs.laws.one_reading.Goals as goal

pub returns : goal.returns
returns c = has_one_reading server_reading request_side (is_reading server_role is_role)
