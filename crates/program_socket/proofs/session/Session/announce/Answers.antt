use Rattle.std.proofs.Common.{refl}
use Rattle.std.specs.declared.option.Option.TheVariants.{None}
use Rattle.std.specs.declared.result.Result.TheVariants.{Ok}
use Rattle.wl_session.proofs.CallOutcomes.{announces}
use Rattle.theory_connection.specs.Pair.{Announce}
use Rattle.program_socket.proofs.session.Session.announce.Goals as goal

pub returns : goal.returns
returns g c = record {
  reply = Announce (Ok c.in_ok-announce.field-0.count);
  accepted = tt;
  does = announces (record {
    client = c.args.self.now.client;
    server = c.args.self.now.server;
    recording = c.args.self.now.recording;
    ended_at = None;
  }) _
      (Ok c.in_ok-announce.field-0) c.in_ok-announce.ensures.ok c.in_ok-announce.ensures.err;
  client_stream = refl;
  server_stream = refl;
}
