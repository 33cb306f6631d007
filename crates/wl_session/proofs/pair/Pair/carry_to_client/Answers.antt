use Rattle.std.proofs.Common.{refl, ◌∙◌}
use Rattle.wl_session.proofs.CarriedPieces.{goes_is, few_tokens, together, fed_whole}
use Rattle.wl_session.proofs.CarriedPieces.{refused_memory, last_is, recorded, moved_to_client}
use Rattle.wl_session.proofs.CarriedPieces.{on_ok}
use Rattle.wl_session.proofs.pair.Pair.carry_to_client.Goals as goal

pub prepare-requires-clause-few : goal.prepare-requires-clause-few
prepare-requires-clause-few g c =
    let t = goes_is c.self.inside.server.core c.self.inside.client.core c.args.most _ _ _ _ c.in_room-room.ensures
    c.min.ensures refl refl in
    few_tokens c.self.inside.server.core c.self.inside.client.core c.args.most _ _ _
    (c.goes-going.ensures ∙ t) c.self.invariant.client_fits c.self.invariant.few_tokens

pub prepare-requires-clause-together : goal.prepare-requires-clause-together
prepare-requires-clause-together g c =
    let t = goes_is c.self.inside.server.core c.self.inside.client.core c.args.most _ _ _ _ c.in_room-room.ensures
    c.min.ensures refl refl in
    together c.self.inside.server.core c.self.inside.client.core c.args.most _ (c.goes-going.ensures ∙ t)

pub returns-then-is_err : goal.returns-then-is_err
returns-then-is_err g c =
    let t = goes_is c.self.inside.server.core c.self.inside.client.core c.args.most _ _ _ _ c.in_room-room.ensures
    c.min.ensures refl refl in
    rw (← c.self.view_is)
    (refused_memory _ _ (record {
      client = c.self.inside.client;
      server = c.self.inside.server;
      recording = c.self.inside.recording;
      ended_at = c.self.inside.ended_at;
    }) _ _ _
    (c.goes-going.ensures ∙ t) c.if-is_err.ensures.negation c.prepare.ensures.err c.prepare.ensures.some)

pub pass-requires-clause-fits : goal.pass-requires-clause-fits
pass-requires-clause-fits g c = fed_whole c.self.inside.server.core c.self.inside.client.core c.args.most _
    (goes_is c.self.inside.server.core c.self.inside.client.core c.args.most _ _ _ _ c.in_room-room.ensures
    c.min.ensures refl refl)

pub pass-requires-clause-room : goal.pass-requires-clause-room
pass-requires-clause-room g c =
    let t = goes_is c.self.inside.server.core c.self.inside.client.core c.args.most _ _ _ _ c.in_room-room.ensures
    c.min.ensures refl refl in
    last_is c.self.inside.server.core c.self.inside.client.core c.args.most c.self.inside.recording _ _ _ _ t
    (c.goes-going.ensures ∙ t) (on_ok _ c.if-is_err.ensures.negation c.prepare.ensures.ok)

pub returns : goal.returns
returns g c =
    let t = goes_is c.self.inside.server.core c.self.inside.client.core c.args.most _ _ _ _ c.in_room-room.ensures
    c.min.ensures refl refl in
    let going = c.goes-going.ensures ∙ t in
    let kept = recorded c.self.inside.server.core c.self.inside.client.core c.args.most c.self.inside.recording _ _ _ _
    _ t going (on_ok _ c.if-is_err.ensures.negation c.prepare.ensures.ok) c.pass.ensures.recording in
    rw (← c.self.view_is)
    (moved_to_client (record {
      client = c.self.inside.client;
      server = c.self.inside.server;
      recording = c.self.inside.recording;
      ended_at = c.self.inside.ended_at;
    }) c.args.most _ _ _ _ _ t going
    c.pass.ensures.to c.pass.ensures.from kept)
