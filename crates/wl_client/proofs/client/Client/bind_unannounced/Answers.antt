use Rattle.std.proofs.Common.{◌≡◌, [], true, Ok, Some, Option, Result, refl, sym, ap, subst, ◌∙◌, arith, rules}
use Rattle.wl_object_map.specs.declared.object.Object.{Object}
use Rattle.wl_objects.specs.declared.error.SendError.{SendError}
use Rattle.wl_client.proofs.AnyBinds.{unannounced_opens}
use Rattle.wl_client.proofs.SoundClients.{sound_bound, sound_by}
use Rattle.wl_objects.specs.declared.error.SendError.TheVariants as refusals
use Rattle.wl_object_map.specs.declared.object.Maker.TheVariants.{Client}
use Rattle.wl_object_map.specs.Objects.{ObjectsAreSound, next_id, opened_at}
use Rattle.wl_objects.specs.Writing.{bind_values}
use Rattle.wl_connection.specs.Core.{Core, with_view}
use Rattle.wl_connection.specs.Outcomes.{AnswersOrMemory, some_object}
use Rattle.wl_connection.specs.Sending.{with_sent}
use Rattle.wl_client.specs.declared.client.Client.TheInside.{Inside}
use Rattle.wl_client.specs.Binding.{FitsBind}
use Rattle.wl_client.specs.Calls.{iface_or}
use Rattle.wl_client.specs.State.{State, Global, IsSound}
use Rattle.wl_client.specs.Unannounced.{after_unannounced, any_global, unannounced_answer, version_or}
use Rattle.wl_client.proofs.client.Client.bind_unannounced.Goals as goal

pub len-requires : goal.len-requires
len-requires g c =
    let f : FitsBind c.args.iface.now = c.if-can_bind.ensures.fits refl in
    let len = f.len c.args.name c.args.version 0 in
    record { fits = f.fits c.args.name c.args.version 0; short = omega (arith, len) }

pub write_bind-requires-clause-fits : goal.write_bind-requires-clause-fits
write_bind-requires-clause-fits g c = let f : FitsBind c.args.iface.now = c.if-can_bind.ensures.fits refl
    in f.fits c.args.name c.args.version c.in_ok-object.object.id

pub write_bind-requires-clause-len : goal.write_bind-requires-clause-len
write_bind-requires-clause-len g c = let f : FitsBind c.args.iface.now = c.if-can_bind.ensures.fits refl
    in f.len c.args.name c.args.version c.in_ok-object.object.id

pub invariant_of-self-2 : goal.invariant_of-self-2
invariant_of-self-2 g c =
    let core = c.self.inside.end.core in
    sound_by c.open_next.new.self c.write_bind.new.self
    (ap (λ (k : Core). k.tables) c.write_bind.ensures) (ap (λ (k : Core). k.view) c.write_bind.ensures)
    (subst IsSound (sym c.in_ok-object.ensures.ok)
    (sound_bound core c.in-Some-any_global.global.iface c.in-Some-any_global.global.version
    (subst (λ (k : Core). ObjectsAreSound k.view) (λ i. (c.self-inside.view_is i).end.core) c.in-Some.ensures.sound)
    c.self.invariant))

pub returns-clause-ok : goal.returns-clause-ok
returns-clause-ok g c =
    let state : State = record {
      core = c.self.inside.end.core;
      globals = c.self.inside.role.globals;
      made = c.self.inside.role.made;
      replaced = c.self.inside.role.replaced;
    } in
    let target = c.args.registry in
    let iface = c.args.iface.now in
    let there : Some c.in-Some-any_global.global ≡ any_global state.core.tables c.args.name iface =
    c.in-Some-any_global.ensures
    ∙ ap (λ (i : Inside g.row.T.Denot g.row.T-Alloc.Denot). any_global i.end.core.tables c.args.name iface)
    c.self-inside.view_is in
    ap (λ (core : Core). record state { core = core })
    (c.write_bind.ensures
    ∙ (λ i. with_sent (c.in_ok-object.ensures.ok i) target.id 0
    (bind_values c.args.name iface c.args.version (c.in_ok-object.ensures.id i)) [])
    ∙ ap (λ (o : Option Global). with_view (with_sent state.core target.id 0
    (bind_values c.args.name iface c.args.version (next_id Client state.core.view)) [])
    (opened_at state.core.view (next_id Client state.core.view) (iface_or o) (version_or o))) there)
    ∙ ap (λ (s : State). after_unannounced s target c.args.name iface c.args.version) c.self.view_is

pub returns-clause-answer : goal.returns-clause-answer
returns-clause-answer g c =
    let state : State = record {
      core = c.self.inside.end.core;
      globals = c.self.inside.role.globals;
      made = c.self.inside.role.made;
      replaced = c.self.inside.role.replaced;
    } in
    let opens = unannounced_opens state c.args.registry c.args.name c.args.iface.now c.args.version c.in-Some.entry
    c.in-Some-any_global.global (search rules) (search rules) (sym c.if-ne.ensures) (search rules) (search rules)
    (search rules) in
    subst (λ (s : State). AnswersOrMemory refusals.Memory true
    (unannounced_answer s c.args.registry c.args.name c.args.iface.now c.args.version)
    (Ok (Some c.in_ok-object.object))) c.self.view_is
    (subst (λ (a : Result (Option Object) SendError). AnswersOrMemory refusals.Memory true a
    (Ok (Some c.in_ok-object.object))) (sym opens) c.in_ok-object.ensures.answer)

pub returns-in_err-object-clause-answer : goal.returns-in_err-object-clause-answer
returns-in_err-object-clause-answer g c =
    let state : State = record {
      core = c.self.inside.end.core;
      globals = c.self.inside.role.globals;
      made = c.self.inside.role.made;
      replaced = c.self.inside.role.replaced;
    } in
    let opens = unannounced_opens state c.args.registry c.args.name c.args.iface.now c.args.version c.in-Some.entry
    c.in-Some-any_global.global (search rules) (search rules) (sym c.if-ne.ensures) (search rules) (search rules)
    (search rules) in
    subst (λ (s : State). AnswersOrMemory refusals.Memory true
    (unannounced_answer s c.args.registry c.args.name c.args.iface.now c.args.version)
    (some_object c.from_residual.result)) c.self.view_is
    (subst (λ (a : Result (Option Object) SendError). AnswersOrMemory refusals.Memory true a
    (some_object c.from_residual.result)) (sym opens) (search rules))
