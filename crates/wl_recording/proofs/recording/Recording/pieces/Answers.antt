use Rattle.std.proofs.Common.{rules}
use Rattle.wl_recording.proofs.recording.Recording.pieces.Goals as goal

pub returns-clause-all : goal.returns-clause-all
returns-clause-all c = search rules
