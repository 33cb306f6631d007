use Rattle.wl_sigs.specs.Side.TheVariants.{Event as event_side}
use Rattle.theory_cuts.proofs.AnyCut.{any_cut}
use Rattle.wl_client.specs.Streams.{client_reading}
use Rattle.theory_cuts.proofs.OneReading.{is_reading}
use Rattle.wl_client.specs.Reports.{client_role}
use Rattle.wl_client.proofs.ReadingStays.{is_role}
use Rattle.wl_client.proofs.laws.any_cut_reads.Goals as goal

pub returns : goal.returns
returns c = any_cut client_reading event_side (is_reading client_role is_role)
