use Rattle.std.proofs.Common.{◌≡◌, sym, ap, subst, ◌∙◌, arith, rules}
use Rattle.std.specs.Prelude.{IsTrue}
use Rattle.wl_objects.specs.Messages.{opens}
use Rattle.wl_message.specs.Outgoing.{Outgoing}
use Rattle.wl_connection.specs.Core.{Core, past, with_view}
use Rattle.wl_connection.specs.Sending.{delete_id_len, fits}
use Rattle.wl_connection.specs.ServerRange.{IsMadeBySome, NoEventEnds}
use Rattle.wl_server.specs.Steps.{core_by, core_without, pending_in, registries_by, registries_without}
use Rattle.wl_server.proofs.AfterRequest.{applied-is, applied-left}
use Rattle.wl_server.proofs.Closings.{registries_opened, row_opened}
use Rattle.wl_server.proofs.LastingObjects.{kept_step}
use Rattle.wl_server.proofs.Registries.{births_left, has_now}
use Rattle.wl_server.proofs.role.ServerRoleAllocRole.apply.Goals as goal

pub open_new_object-requires-clause-free : goal.open_new_object-requires-clause-free
open_new_object-requires-clause-free g c = c.requires.ahead.can_apply.made

pub close_object-requires-clause-row : goal.close_object-requires-clause-row
close_object-requires-clause-row g c =
    let core = c.args.end.now.core in
    let made = c.args.request.now.change.made in
    let object = c.in-Some.object in
    let view : c.pass.new.self.view ≡ opens core.view made =
    ap (λ (k : Core). k.view) c.pass.ensures ∙ ap (λ (k : Core). k.view) c.in_ok-open_new_object.ensures.core in
    row_opened core.view c.pass.new.self.view made object view c.in_ok-open_new_object.ensures.fresh
    (c.requires.ahead.can_apply.ended object c.in-Some.is).row

pub close_object-requires-clause-sound : goal.close_object-requires-clause-sound
close_object-requires-clause-sound g c =
    let core = c.args.end.now.core in
    let made = c.args.request.now.change.made in
    let opened = c.in_ok-open_new_object.ensures in
    let view : c.pass.new.self.view ≡ opens core.view made =
    ap (λ (k : Core). k.view) c.pass.ensures ∙ ap (λ (k : Core). k.view) opened.core in
    registries_opened core c.pass.new.self c.args.self.now.registries.list c.open_new_object.new.registries.list made view
    opened.registries opened.fresh c.requires.sound.registries

pub close_object-requires-clause-not_display : goal.close_object-requires-clause-not_display
close_object-requires-clause-not_display g c =
    (c.requires.ahead.can_apply.ended c.in-Some.object c.in-Some.is).not_display

pub close_object-requires-clause-room : goal.close_object-requires-clause-room
close_object-requires-clause-room g c client =
    let outbox : c.pass.new.self.outbox ≡ c.args.end.now.core.outbox =
    ap (λ (k : Core). k.outbox) c.pass.ensures ∙ ap (λ (k : Core). k.outbox) c.in_ok-open_new_object.ensures.core in
    subst (λ (o : Outgoing). IsTrue (fits o delete_id_len 0)) (sym outbox)
    ((c.requires.ahead.can_apply.ended c.in-Some.object c.in-Some.is).room client)

pub returns-in-Some : goal.returns-in-Some
returns-in-Some g c =
    let core = c.args.end.now.core in
    let kept = c.args.self.now in
    let request = c.args.request.now in
    let step = pending_in core c.args.end.now.args request in
    let opened = c.in_ok-open_new_object.ensures in
    let passed : c.pass.new.self ≡ past (with_view core (opens core.view request.change.made)) request.size
    request.tokens = search rules in
    let now : c.close_object.new.core ≡ core_by core step =
    c.close_object.ensures.core ∙ (λ i. core_without (sym c.in-Some.is i) (passed i)) in
    let left : c.close_object.new.registries.list ≡ registries_by core kept.registries.list step =
    c.close_object.ensures.registries ∙ (λ i. registries_without (sym c.in-Some.is i) (opened.registries i)) in
    record {
      args = search rules;
      ok = applied-left kept.allowed core c.close_object.new.core kept.globals.items kept.registries.list
          c.close_object.new.registries.list step c.requires.ahead.step now left;
      told = applied-is core c.close_object.new.core c.args.end.now.args request now;
      err = tt;
      opens = tt;
      sound = record {
        few = c.requires.sound.few;
        registries = has_now core c.close_object.new.core kept.registries.list c.close_object.new.registries.list step
            c.requires.ahead.can_apply now left opened.fresh c.requires.sound.registries;
        past = omega (
          arith,
          c.close_object.ensures.past,
          opened.past,
          ap (λ (k : Core). k.view.client.births) c.pass.ensures,
          births_left c.pass.new.self c.in-Some.object,
          ap (λ (k : Core). k.view.client.births) c.close_object.ensures.core,
        );
        settled = c.close_object.ensures.settled kept.globals.items
            (opened.settled kept.globals.items c.requires.sound.settled);
        lasting = kept_step NoEventEnds core c.close_object.new.core step now opened.fresh c.requires.sound.lasting;
        by_some = kept_step IsMadeBySome core c.close_object.new.core step now opened.fresh c.requires.sound.by_some;
      };
    }

pub returns-in_default : goal.returns-in_default
returns-in_default g c =
    let core = c.args.end.now.core in
    let kept = c.args.self.now in
    let request = c.args.request.now in
    let step = pending_in core c.args.end.now.args request in
    let opened = c.in_ok-open_new_object.ensures in
    let passed : c.pass.new.self ≡ past (with_view core (opens core.view request.change.made)) request.size
    request.tokens = search rules in
    let now : c.pass.new.self ≡ core_by core step = (λ i. core_without (sym c.in_default.is i) (passed i)) in
    let left : c.open_new_object.new.registries.list ≡ registries_by core kept.registries.list step =
    (λ i. registries_without (sym c.in_default.is i) (opened.registries i)) in
    record {
      args = search rules;
      ok = applied-left kept.allowed core c.pass.new.self kept.globals.items kept.registries.list
          c.open_new_object.new.registries.list step c.requires.ahead.step now left;
      told = applied-is core c.pass.new.self c.args.end.now.args request now;
      err = tt;
      opens = tt;
      sound = record {
        few = c.requires.sound.few;
        registries = has_now core c.pass.new.self kept.registries.list c.open_new_object.new.registries.list step
            c.requires.ahead.can_apply now left opened.fresh c.requires.sound.registries;
        past = omega (arith, opened.past, ap (λ (k : Core). k.view.client.births) c.pass.ensures);
        settled = opened.settled kept.globals.items c.requires.sound.settled;
        lasting = kept_step NoEventEnds core c.pass.new.self step now opened.fresh c.requires.sound.lasting;
        by_some = kept_step IsMadeBySome core c.pass.new.self step now opened.fresh c.requires.sound.by_some;
      };
    }
