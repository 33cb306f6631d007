use Rattle.wl_server.proofs.ReadingStays.{sound_until}
use Rattle.wl_server.proofs.server.Server.read_all.Goals as goal

pub returns-clause-sound : goal.returns-clause-sound
returns-clause-sound g c sound stop = sound_until _ _ _ _ (c.read_all.ensures.reads sound).reads stop
