use Rattle.std.proofs.Common.{◌≡◌, ap, refl, ◌∙◌}
use Rattle.std.specs.declared.option.Option.TheVariants.{None}
use Rattle.wl_message.specs.declared.amounts.Sizes.{Sizes}
use Rattle.wl_message.specs.declared.limit.Limit.{Limit}
use Rattle.wl_message.specs.Limits.{usual}
use Rattle.wl_message.proofs.Limits.{same_limit}
use Rattle.wl_client.specs.State as client
use Rattle.wl_server.specs.State as server
use Rattle.program_demo.specs.Moves.{sizes}
use Rattle.program_socket.proofs.session.Session.new.Goals as goal

-- the queues of the session, with this limit
abbrev sizes_by : Limit → Sizes
sizes_by limit = record sizes { limit = limit }

pub returns : goal.returns
returns g c =
    let client : c.in_ok-new.field-0 ≡ client.new_state c.args.tables.now sizes =
    c.in_ok-new.ensures ∙ ap (λ (limit : Limit). client.new_state c.args.tables.now (sizes_by limit))
    (same_limit _ usual refl) in
    let server : c.in_ok-new-2.field-0 ≡ server.new_state c.args.tables.now sizes =
    c.in_ok-new-2.ensures ∙ ap (λ (limit : Limit). server.new_state c.args.tables.now (sizes_by limit))
    (same_limit _ usual refl) in
    λ i. record {
      pair = record { client = client i; server = server i; recording = c.new-recording.ensures i; ended_at = None };
      client_stream = c.args.client;
      server_stream = c.args.server;
    }
