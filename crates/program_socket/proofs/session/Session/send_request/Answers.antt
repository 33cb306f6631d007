use Rattle.std.proofs.Common.{refl}
use Rattle.std.specs.declared.option.Option.TheVariants.{None}
use Rattle.std.specs.declared.result.Result.TheVariants.{Ok}
use Rattle.wl_session.proofs.CallOutcomes.{writes}
use Rattle.theory_connection.specs.Pair.{ClientSend}
use Rattle.program_socket.proofs.session.Session.send_request.Goals as goal

pub returns : goal.returns
returns g c = record {
  reply = ClientSend (Ok c.in_ok-send.field-0);
  accepted = tt;
  does = writes (λ s. record {
    client = s;
    server = c.args.self.now.server;
    recording = c.args.self.now.recording;
    ended_at = None;
  }) _ _ _ _ _ (Ok c.in_ok-send.field-0) c.in_ok-send.ensures.answer c.in_ok-send.ensures.ok
      c.in_ok-send.ensures.err;
  client_stream = refl;
  server_stream = refl;
}
