use Rattle.std.proofs.Common.{rules}
use Rattle.wl_recording.proofs.recording.Recording.new.Goals as goal

pub returns : goal.returns
returns c = search rules
