use Rattle.wl_connection.proofs.Roles.{next_read}
use Rattle.wl_server.specs.Seen.{report_of}
use Rattle.wl_server.specs.Requests.{server_role, needs_memory}
use Rattle.wl_server.proofs.ReadingStays.{is_role}
use Rattle.wl_server.proofs.end.ServerReceiver.next_owned.Goals as goal

pub returns : goal.returns
returns g c = next_read server_role is_role needs_memory report_of c.args.self.now
    c.next_owned.new.self c.next_owned.result c.requires c.next_owned.ensures.answer c.next_owned.ensures.state
