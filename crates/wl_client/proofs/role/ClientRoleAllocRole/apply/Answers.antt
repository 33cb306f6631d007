use Rattle.std.proofs.Common.{◌≡◌, ap, subst, sym, ◌∙◌, Some}
use Rattle.std.specs.Prelude.{Option, OnErr}
use Rattle.std.specs.declared.result.Result.{Result}
use Rattle.std.specs.declared.result.Result.TheVariants.{Ok, Err}
use Rattle.wl_object_map.specs.Objects.{Objects}
use Rattle.wl_objects.specs.Messages.{NewObject, opens}
use Rattle.wl_connection.specs.Core.{Core, with_view}
use Rattle.wl_client.specs.declared.changes.ObjectChange.{ObjectChange}
use Rattle.wl_client.specs.State.{IsSound}
use Rattle.wl_client.specs.Reports.{opens_row}
use Rattle.wl_client.specs.Steps.{CanChange, CanOpen, changed}
use Rattle.wl_client.proofs.Makings.{opens_unused}
use Rattle.wl_client.proofs.SoundClients.{sound_by, sound_changed, sound_opened}
use Rattle.wl_client.proofs.role.ClientRoleAllocRole.apply.Goals as goal
use Rattle.wl_client.proofs.role.ClientRoleAllocRole.apply.Goals.{in-None, in-Some+in_ok-open_made-in-Some}
use Rattle.wl_client.proofs.role.ClientRoleAllocRole.apply.Goals.{in-Nothing, in-Zombie, in-Close}

-- a fact that always holds
on_err : {A E P : Type 0} (r : Result A E) → P → OnErr r P
on_err (Ok x) p = tt
on_err (Err e) p = p

pub returns-in_err-open_made-in-Some-clause-opens :
    goal.returns-in_err-open_made-in-Some-clause-opens
returns-in_err-open_made-in-Some-clause-opens g c =
    let core = c.args.end.now.core in
    let can = c.requires.ahead.ahead.can_apply in
    let may : CanOpen core.tables core.view (Some c.in-Some.new) =
    subst (CanOpen core.tables core.view) c.in-Some.is can.made in
    let row = opens_unused core.tables core.view c.in-Some.new c.open_made.ensures.sound c.requires.sound.frees_none
    may.0 c.in_err-open_made-in-Some.ensures.wants in
    on_err c.from_residual.result (can.wants ∙ (ap (opens_row core.view) c.in-Some.is ∙ row))

pub returns-clause-sound : goal.returns-clause-sound
returns-clause-sound g c =
    let core = c.args.end.now.core in
    let change = c.args.event.now.change in
    let can = c.requires.ahead.ahead.can_apply in
    let opening : c.match-event.end.core ≡ with_view core (opens core.view change.made) =
    elim c.match-event.branch [
      | in-None w ↦ (
          let end : c.match-event.end.core ≡ core = λ i. (w.end-is i).core in
          end ∙ ap (λ (o : Option NewObject). with_view core (opens core.view o)) (sym w.in-None.is))
      | in-Some+in_ok-open_made-in-Some w ↦ (
          let end : c.match-event.end.core ≡ w.open_made.new.self = λ i. (w.end-is i).core in
          end ∙ (w.in_ok-open_made-in-Some.ensures.ok
          ∙ ap (λ (o : Option NewObject). with_view core (opens core.view o)) (sym w.in-Some.is)))
    ] in
    let opened : IsSound c.match-event.end.core = subst IsSound (sym opening)
    (sound_opened core change.made can.lasting can.by_some c.requires.sound) in
    let passed = c.pass.new.self in
    let sound_passed : IsSound passed = sound_by c.match-event.end.core passed
    (ap (λ (k : Core). k.tables) c.pass.ensures) (ap (λ (k : Core). k.view) c.pass.ensures) opened in
    let view : passed.view ≡ opens core.view change.made =
    ap (λ (k : Core). k.view) c.pass.ensures ∙ ap (λ (k : Core). k.view) opening in
    let changing : c.match-event-2.end.core ≡ with_view passed (changed passed.view change.objects) =
    elim c.match-event-2.branch [
      | in-Nothing w ↦ (
          let end : c.match-event-2.end.core ≡ passed = λ i. (w.end-is i).core in
          end ∙ ap (λ (o : ObjectChange). with_view passed (changed passed.view o)) (sym w.in-Nothing.is))
      | in-Zombie w ↦ (
          let end : c.match-event-2.end.core ≡ w.end_object.new.core = λ i. (w.end-is i).core in
          end ∙ (w.end_object.ensures
          ∙ ap (λ (o : ObjectChange). with_view passed (changed passed.view o)) (sym w.in-Zombie.is)))
      | in-Close w ↦ (
          let end : c.match-event-2.end.core ≡ w.close.new.self = λ i. (w.end-is i).core in
          end ∙ (w.close.ensures
          ∙ ap (λ (o : ObjectChange). with_view passed (changed passed.view o)) (sym w.in-Close.is)))
    ] in
    let sound_now : IsSound c.match-event-2.end.core = subst IsSound (sym changing)
    (sound_changed passed change.objects
    (subst (λ (v : Objects). CanChange v change.objects) (sym view) can.change) sound_passed) in
    let there = subst IsSound (sym (λ i. (c.end.view_is i).core)) sound_now in
    record { frees_none = there.frees_none; lasting = there.lasting; by_some = there.by_some }
