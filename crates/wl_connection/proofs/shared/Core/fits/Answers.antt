use Rattle.std.proofs.Common.{rules}
use Rattle.wl_connection.proofs.shared.Core.fits.Goals as goal

pub returns-else-bytes-room : goal.returns-else-bytes-room
returns-else-bytes-room c = search rules
