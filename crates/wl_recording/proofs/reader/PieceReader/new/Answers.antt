use Rattle.wl_recording.proofs.Progress.{started}
use Rattle.wl_recording.proofs.reader.PieceReader.new.Goals as goal

pub returns : goal.returns
returns c = started c.args.text.now
