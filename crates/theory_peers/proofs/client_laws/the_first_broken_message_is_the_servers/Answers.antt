use Rattle.theory_peers.proofs.FirstBrokenOfServer.{first_broken_of_server}
use Rattle.theory_peers.proofs.client_laws.the_first_broken_message_is_the_servers.Goals as goal

pub returns : goal.returns
returns c = first_broken_of_server
