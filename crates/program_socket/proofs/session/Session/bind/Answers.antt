use Rattle.std.proofs.Common.{refl}
use Rattle.std.specs.declared.option.Option.TheVariants.{None}
use Rattle.std.specs.declared.result.Result.TheVariants.{Ok}
use Rattle.wl_connection.specs.Outcomes.{some_object}
use Rattle.wl_session.proofs.CallOutcomes.{binds}
use Rattle.theory_connection.specs.Pair.{ClientBind}
use Rattle.program_socket.proofs.session.Session.bind.Goals as goal

pub returns : goal.returns
returns g c = record {
  reply = ClientBind (some_object (Ok c.in_ok-bind.field-0));
  accepted = tt;
  does = binds (λ s. record {
    client = s;
    server = c.args.self.now.server;
    recording = c.args.self.now.recording;
    ended_at = None;
  }) _ _ _ _ (Ok c.in_ok-bind.field-0) c.in_ok-bind.ensures.answer c.in_ok-bind.ensures.ok
      c.in_ok-bind.ensures.err;
  client_stream = refl;
  server_stream = refl;
}
