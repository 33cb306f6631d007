use Rattle.std.proofs.Common.{refl}
use Rattle.std.specs.declared.option.Option.TheVariants.{None}
use Rattle.std.specs.declared.result.Result.TheVariants.{Ok}
use Rattle.wl_session.proofs.CallOutcomes.{writes}
use Rattle.theory_connection.specs.Pair.{ServerSend}
use Rattle.program_socket.proofs.session.Session.send_event.Goals as goal

pub returns : goal.returns
returns g c = record {
  reply = ServerSend (Ok c.in_ok-send.field-0);
  accepted = tt;
  does = writes (λ s. record {
    client = c.args.self.now.client;
    server = s;
    recording = c.args.self.now.recording;
    ended_at = None;
  }) _ _ _ _ _ (Ok c.in_ok-send.field-0) c.in_ok-send.ensures.answer c.in_ok-send.ensures.ok
      c.in_ok-send.ensures.err;
  client_stream = refl;
  server_stream = refl;
}
