use Rattle.std.proofs.Common.{◌≡◌, true, List, length, sym, subst, ap, ◌∙◌, arith}
use Rattle.std.specs.Prelude.{◌↔◌}
use Rattle.wl_connection.specs.Core.{Core, IsOrdinary}
use Rattle.wl_connection.specs.ServerRange.{IsMadeBySome, NoEventEnds}
use Rattle.wl_server.specs.State.{Global, State}
use Rattle.wl_server.specs.Registries.{HasRegistries}
use Rattle.wl_server.specs.Announcing.{Fitting, after_announce, owed, owed_in}
use Rattle.wl_server.specs.Slots.{settled_in}
use Rattle.wl_server.specs.Tellings.{IsAnnounced}
use Rattle.wl_server.proofs.LastingObjects.{kept_told}
use Rattle.wl_server.proofs.TellingGoesOn.{all-told, finished}
use Rattle.wl_server.proofs.Registries.{has_told, past_told}
use Rattle.wl_server.proofs.server.Server.announce.Goals as goal

pub announce-told-requires-clause-settled : goal.announce-told-requires-clause-settled
announce-told-requires-clause-settled g c =
    ap (λ (gs : List Global). owed_in gs (settled_in c.self.inside.role.registries)) c.deref.ensures.value
    ∙ c.self.invariant.settled

pub invariant_of-self : goal.invariant_of-self
invariant_of-self g c =
    let core = c.self.inside.end.core in
    let registries = c.self.inside.role.registries.list in
    let now = c.announce-told.new.core in
    let left = c.announce-told.new.self in
    let told = c.announce-told.ensures.told in
    record {
      few = c.self.invariant.few;
      registries = has_told core registries _ _ now left.list told c.self.invariant.registries;
      past = past_told core registries _ _ now left.list left.past told
          (omega (arith, c.announce-told.ensures.past, c.self.invariant.past));
      settled = ap (λ (gs : List Global). owed_in gs (settled_in left)) (sym c.deref.ensures.value)
          ∙ c.announce-told.ensures.settled;
      lasting = kept_told NoEventEnds core registries _ _ now left.list told c.self.invariant.lasting;
      by_some = kept_told IsMadeBySome core registries _ _ now left.list told c.self.invariant.by_some;
    }

pub returns : goal.returns
returns g c =
    let state : State = record {
      core = c.self.inside.end.core;
      globals = c.self.inside.role.globals.items;
      registries = c.self.inside.role.registries.list;
      allowed = c.self.inside.role.allowed;
    } in
    let ordinary : IsOrdinary state.core.outbox =
    subst (λ (core : Core). IsOrdinary core.outbox) (λ i. (c.self-inside.view_is i).end.core)
    (c.self-inside.invariant.no_error c.if-self.false) in
    let told : IsAnnounced state.core state.registries
    (owed_in state.globals state.registries) c.announce-told.result c.announce-told.new.core
    c.announce-told.new.self.list =
    subst (λ (gs : List Global). IsAnnounced state.core state.registries (owed_in gs state.registries)
    c.announce-told.result c.announce-told.new.core c.announce-told.new.self.list)
    c.deref.ensures.value c.announce-told.ensures.told in
    let reply = c.announce-told.result in
    let f = finished state reply c.announce-told.new.core c.announce-told.new.self.list ordinary told in
    let all = all-told state reply c.announce-told.new.core c.announce-told.new.self.list told in
    record {
      registries = subst (λ (s : State). HasRegistries s.core.view s.registries) c.self.view_is
          c.self.invariant.registries;
      ok = (
        ap (λ (s : State). s.core.failed) (sym c.self.view_is)
            ∙ (sym (λ i. (c.self-inside.view_is i).end.core.failed) ∙ c.if-self.false),
        subst (λ (s : State). Fitting s c.announce-told.result.count) c.self.view_is f.0,
        f.1 ∙ ap (λ (s : State). after_announce s c.announce-told.result.count) c.self.view_is,
      );
      all = subst (λ (s : State). (reply.all ≡ true) ↔ (reply.count ≡ length (owed s))) c.self.view_is all;
      err = tt;
    }
