use Rattle.std.proofs.Common.{refl}
use Rattle.std.specs.declared.option.Option.TheVariants.{None}
use Rattle.std.specs.declared.result.Result.TheVariants.{Ok}
use Rattle.wl_session.proofs.CallOutcomes.{adds}
use Rattle.theory_connection.specs.Pair.{AddGlobal}
use Rattle.program_socket.proofs.session.Session.add_global.Goals as goal

pub returns : goal.returns
returns g c = record {
  reply = AddGlobal (Ok c.in_ok-add_global.field-0);
  accepted = tt;
  does = adds (λ s. record {
    client = c.args.self.now.client;
    server = s;
    recording = c.args.self.now.recording;
    ended_at = None;
  }) _ _ _ _ _ (Ok c.in_ok-add_global.field-0) c.in_ok-add_global.ensures.answer
      c.in_ok-add_global.ensures.ok c.in_ok-add_global.ensures.err;
  client_stream = refl;
  server_stream = refl;
}
