use Rattle.std.proofs.Common.{true}
use Rattle.wl_connection.proofs.Roles.{next_read}
use Rattle.wl_client.specs.Seen.{report_of}
use Rattle.wl_client.specs.Reports.{Report, client_role}
use Rattle.wl_client.proofs.AfterEvent.{in_place_of_one}
use Rattle.wl_client.proofs.ReadingStays.{is_role}
use Rattle.wl_client.proofs.end.ClientReceiver.next_owned.Goals as goal

pub returns : goal.returns
returns g c = next_read client_role is_role (λ (r : Report). true) report_of c.args.self.now
    c.next_owned.new.self c.next_owned.result c.requires
    (in_place_of_one c.args.self.now _ c.requires c.next_owned.ensures.answer) c.next_owned.ensures.state
