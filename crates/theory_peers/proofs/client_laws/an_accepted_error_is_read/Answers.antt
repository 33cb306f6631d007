use Rattle.theory_peers.proofs.ClientReadsError.{error_read}
use Rattle.theory_peers.proofs.client_laws.an_accepted_error_is_read.Goals as goal

pub returns : goal.returns
returns c = error_read
