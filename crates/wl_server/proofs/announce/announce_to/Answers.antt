use Rattle.std.proofs.Common.{◌≡◌, ◌+◌, ℕ, true, List, [], ◌∷◌, ◌++◌, length, refl, sym, subst, ap}
use Rattle.std.proofs.Common.{◌∙◌, arith}
use Rattle.wl_object_map.specs.declared.object.Object.{Object}
use Rattle.wl_connection.specs.Core.{Core}
use Rattle.wl_server.specs.State.{Registry, has_name}
use Rattle.wl_server.specs.Announcing.{Owing, marked, Removal, Telling, due_to, owings, owes_removal, owes_telling}
use Rattle.wl_server.specs.Tellings.{IsWritten, Progress, dues_for}
use Rattle.wl_server.proofs.TellingGoesOn.{begun, count-small}
use Rattle.wl_server.proofs.OwedByRegistry.{owings-end}
use Rattle.wl_server.proofs.WordByWord.{removal-none, telling-none}
use Rattle.wl_server.proofs.Settled.{NoneOf, none-next, none-skip}
use Rattle.wl_server.proofs.Settled.{none-yet, nothing-due, removal-settled, removals-stay}
use Rattle.wl_server.proofs.Settled.{telling-settled}
use Rattle.wl_server.proofs.Tells.{Adding, Removing, along, removal-skipped, removal-next}
use Rattle.wl_server.proofs.Tells.{removal-told, removals-passed, telling-skipped, telling-next, telling-told}
use Rattle.wl_server.proofs.Tells.{tellings-passed}
use Rattle.wl_server.proofs.Tells.{told-blocked}
use Rattle.wl_server.proofs.announce.announce_to.Goals.{then-owes_removal+else-not-write_global_remove}
use Rattle.wl_server.proofs.announce.announce_to.Goals.{else-owes_removal}
use Rattle.wl_server.proofs.announce.announce_to.Goals.{then-owes_telling+else-not-write_global}
use Rattle.wl_server.proofs.announce.announce_to.Goals.{else-owes_telling}
use Rattle.wl_server.proofs.announce.announce_to.Goals as goal

pub overflow_add-count : goal.overflow_add-count
overflow_add-count g c = omega (
  arith,
  count-small c.args.core.now
      (c.args.registry.now ∷ []) _ c.removals.count c.removals.core _ _ c.requires.ordinary
      c.removals.invariant.progress,
)

pub returns-then-not-write_global_remove-clause-told : goal.returns-then-not-write_global_remove-clause-told
returns-then-not-write_global_remove-clause-told g c =
    told-blocked c.args.core.now (c.args.registry.now ∷ [])
    (due_to c.args.globals.now c.args.registry.now) c.removals.count c.removals.core c.write_global_remove.new.core
    (c.removals.registry ∷ []) _ _
    (removal-next c.args.core.now (c.args.registry.now ∷ [])
    (due_to c.args.globals.now c.args.registry.now) c.removals.count c.removals.core c.removals.registry
    c.args.registry.now.object c.args.globals.now c.removals.place
    c.index-globals-place.result c.removals-test.true c.index-globals-place.is
    (sym c.if-owes_removal.ensures) c.removals.invariant.progress)
    c.if-not-write_global_remove.ensures

pub removals-preserved : goal.removals-preserved
removals-preserved g c =
    let globals = c.args.globals.now in
    let place = c.removals.place in
    let registry = c.if-owes_removal.registry in
    let next = c.next_removal-place.result in
    let none = removal-none registry globals c.args.withdrawn.now place next c.requires.withdrawn
    c.next_removal-place.ensures.none in
    let told : (registry.object ≡ c.args.registry.now.object)
    × Removing c.args.core.now (c.args.registry.now ∷ []) (due_to globals c.args.registry.now)
    c.args.registry.now.object globals (place + 1) c.if-owes_removal.count c.if-owes_removal.core registry
    × NoneOf (owes_removal registry) globals (place + 1) =
    elim c.if-owes_removal.branch [
      | then-owes_removal+else-not-write_global_remove w ↦ (
          let own : c.registry.inside.object.id ≡ c.args.registry.now.object.id =
          ap (λ (r : Registry). r.object.id) c.registry.view_is
          ∙ ap (λ (o : Object). o.id) c.removals.invariant.object in (
            ap (λ (r : Registry). r.object) (w.registry-is ∙ w.mark_removed.ensures.set)
                ∙ c.removals.invariant.object,
            along (λ (core : Core) (r : Registry) (count : ℕ). Removing c.args.core.now
                (c.args.registry.now ∷ []) (due_to globals c.args.registry.now) c.args.registry.now.object
                globals (place + 1) count core r)
                w.write_global_remove.new.core c.if-owes_removal.core
                (marked (Removal (place + 1)) c.removals.registry) registry
                (c.removals.count + 1) c.if-owes_removal.count w.core-is
                (w.registry-is ∙ w.mark_removed.ensures.set) w.count-is
                (removal-told c.args.core.now (c.args.registry.now ∷ [])
                (due_to globals c.args.registry.now) c.removals.count c.removals.core
                w.write_global_remove.new.core c.removals.registry c.args.registry.now.object globals place
                c.index-globals-place.result c.requires.ordinary c.removals.invariant.object c.removals-test.true
                c.index-globals-place.is (sym w.if-owes_removal.ensures) c.removals.invariant.progress
                (subst (λ (id : ℕ). IsWritten c.removals.core id
                (Removal (place + 1)) true w.write_global_remove.new.core) own
                w.if-not-write_global_remove.ensures)),
            subst (λ (r : Registry). NoneOf (owes_removal r) globals (place + 1))
                (sym (w.registry-is ∙ w.mark_removed.ensures.set))
                (removal-settled c.removals.registry globals place
                c.index-globals-place.result c.removals.invariant.clear c.removals-test.true c.index-globals-place.is
                (ap (λ (r : Registry). has_name r.removed (place + 1)) (sym w.mark_removed.ensures.set)
                ∙ w.mark_removed.ensures.marked)),
          ))
      | else-owes_removal w ↦ (
        ap (λ (r : Registry). r.object) w.registry-is ∙ c.removals.invariant.object,
        along (λ (core : Core) (r : Registry) (count : ℕ). Removing c.args.core.now
            (c.args.registry.now ∷ []) (due_to globals c.args.registry.now) c.args.registry.now.object
            globals (place + 1) count core r)
            c.removals.core c.if-owes_removal.core c.removals.registry registry c.removals.count
            c.if-owes_removal.count w.core-is w.registry-is w.count-is
            (removal-skipped c.args.core.now (c.args.registry.now ∷ [])
            (due_to globals c.args.registry.now) c.removals.count c.removals.core c.removals.registry
            c.args.registry.now.object globals place
            c.index-globals-place.result c.removals-test.true c.index-globals-place.is
            (sym w.if-owes_removal.ensures) c.removals.invariant.progress),
        subst (λ (r : Registry). NoneOf (owes_removal r) globals (place + 1))
            (sym w.registry-is)
            (none-next (owes_removal c.removals.registry) (owes_removal c.removals.registry) globals
            place c.index-globals-place.result (λ k y l f. f) c.removals.invariant.clear
            c.removals-test.true c.index-globals-place.is (sym w.if-owes_removal.ensures)),
      )
    ] in
    record {
      object = told.0;
      progress = removals-passed c.args.core.now (c.args.registry.now ∷ []) (due_to globals c.args.registry.now)
          c.if-owes_removal.count c.if-owes_removal.core registry c.args.registry.now.object globals (place + 1) next
          (omega (arith, c.next_removal-place.ensures.behind)) none told.1;
      clear = none-skip (owes_removal registry) globals (place + 1) next told.2 none;
    }

pub overflow_add-count-then-owes_telling : goal.overflow_add-count-then-owes_telling
overflow_add-count-then-owes_telling g c = omega (
  arith,
  count-small c.args.core.now
      (c.args.registry.now ∷ []) _ c.tellings.count c.tellings.core _ _ c.requires.ordinary
      c.tellings.invariant.progress,
)

pub returns-then-not-write_global-clause-told : goal.returns-then-not-write_global-clause-told
returns-then-not-write_global-clause-told g c =
    told-blocked c.args.core.now (c.args.registry.now ∷ [])
    (due_to c.args.globals.now c.args.registry.now) c.tellings.count c.tellings.core c.write_global.new.core
    (c.tellings.registry ∷ []) _ _
    (telling-next c.args.core.now (c.args.registry.now ∷ [])
    (due_to c.args.globals.now c.args.registry.now) c.tellings.count c.tellings.core c.tellings.registry
    c.args.registry.now.object c.args.globals.now c.tellings.place
    c.index-globals-place-in-tellings.result c.tellings-test.true c.index-globals-place-in-tellings.is
    (sym c.if-owes_telling.ensures) c.tellings.invariant.progress)
    c.if-not-write_global.ensures

pub tellings-init : goal.tellings-init
tellings-init g c = record {
  object = c.removals.invariant.object;
  progress = subst (λ (list : List Owing). Progress c.args.core.now (c.args.registry.now ∷ [])
      (due_to c.args.globals.now c.args.registry.now) c.removals.count c.removals.core (c.removals.registry ∷ [])
      (dues_for c.args.registry.now.object (list ++ owings
      (owes_telling c.removals.registry) Telling 1 c.args.globals.now)))
      (owings-end (owes_removal c.removals.registry) (λ name _. Removal name) c.removals.place
      (c.removals.place + 1) c.args.globals.now c.removals-test.false) c.removals.invariant.progress;
  clear = λ k x l there e. c.removals.invariant.clear k x (omega (arith, there, c.removals-test.false)) there e;
  told = none-yet (owes_telling c.removals.registry) c.args.globals.now;
}

pub tellings-preserved : goal.tellings-preserved
tellings-preserved g c =
    let globals = c.args.globals.now in
    let place = c.tellings.place in
    let registry = c.if-owes_telling.registry in
    let next = c.next_telling-place.result in
    let none = telling-none registry globals c.args.withdrawn.now place next c.requires.withdrawn
    c.next_telling-place.ensures.none in
    let told : (registry.object ≡ c.args.registry.now.object)
    × Adding c.args.core.now (c.args.registry.now ∷ []) (due_to globals c.args.registry.now)
    c.args.registry.now.object globals (place + 1) c.if-owes_telling.count c.if-owes_telling.core registry
    × NoneOf (owes_removal registry) globals (length globals)
    × NoneOf (owes_telling registry) globals (place + 1) =
    elim c.if-owes_telling.branch [
      | then-owes_telling+else-not-write_global w ↦ (
          let own : c.registry-in-tellings.inside.object.id ≡ c.args.registry.now.object.id =
          ap (λ (r : Registry). r.object.id) c.registry-in-tellings.view_is
          ∙ ap (λ (o : Object). o.id) c.tellings.invariant.object in (
            ap (λ (r : Registry). r.object) (w.registry-is ∙ w.mark_told.ensures.set)
                ∙ c.tellings.invariant.object,
            along (λ (core : Core) (r : Registry) (count : ℕ). Adding c.args.core.now
                (c.args.registry.now ∷ []) (due_to globals c.args.registry.now) c.args.registry.now.object
                globals (place + 1) count core r)
                w.write_global.new.core c.if-owes_telling.core
                (marked (Telling (place + 1) c.index-globals-place-in-tellings.result)
                c.tellings.registry) registry
                (c.tellings.count + 1) c.if-owes_telling.count w.core-is
                (w.registry-is ∙ w.mark_told.ensures.set) w.count-is
                (telling-told c.args.core.now (c.args.registry.now ∷ [])
                (due_to globals c.args.registry.now) c.tellings.count c.tellings.core
                w.write_global.new.core c.tellings.registry c.args.registry.now.object globals place
                c.index-globals-place-in-tellings.result c.requires.ordinary c.tellings.invariant.object
                c.tellings-test.true c.index-globals-place-in-tellings.is
                (sym w.if-owes_telling.ensures) c.tellings.invariant.progress
                (subst (λ (id : ℕ). IsWritten c.tellings.core id
                (Telling (place + 1) c.index-globals-place-in-tellings.result) true
                w.write_global.new.core) own w.if-not-write_global.ensures)),
            subst (λ (r : Registry). NoneOf (owes_removal r) globals (length globals))
                (sym (w.registry-is ∙ w.mark_told.ensures.set))
                (removals-stay c.tellings.registry globals place (length globals)
                c.index-globals-place-in-tellings.result c.tellings.invariant.clear c.tellings-test.true
                c.index-globals-place-in-tellings.is (sym w.if-owes_telling.ensures)),
            subst (λ (r : Registry). NoneOf (owes_telling r) globals (place + 1))
                (sym (w.registry-is ∙ w.mark_told.ensures.set))
                (telling-settled c.tellings.registry globals place
                c.index-globals-place-in-tellings.result c.tellings.invariant.told c.tellings-test.true
                c.index-globals-place-in-tellings.is
                (ap (λ (r : Registry). has_name r.told (place + 1)) (sym w.mark_told.ensures.set)
                ∙ w.mark_told.ensures.marked)),
          ))
      | else-owes_telling w ↦ (
        ap (λ (r : Registry). r.object) w.registry-is ∙ c.tellings.invariant.object,
        along (λ (core : Core) (r : Registry) (count : ℕ). Adding c.args.core.now (c.args.registry.now ∷ [])
            (due_to globals c.args.registry.now) c.args.registry.now.object globals
            (place + 1) count core r)
            c.tellings.core c.if-owes_telling.core c.tellings.registry registry c.tellings.count
            c.if-owes_telling.count w.core-is w.registry-is w.count-is
            (telling-skipped c.args.core.now (c.args.registry.now ∷ [])
            (due_to globals c.args.registry.now) c.tellings.count c.tellings.core c.tellings.registry
            c.args.registry.now.object globals place
            c.index-globals-place-in-tellings.result c.tellings-test.true c.index-globals-place-in-tellings.is
            (sym w.if-owes_telling.ensures) c.tellings.invariant.progress),
        subst (λ (r : Registry). NoneOf (owes_removal r) globals (length globals))
            (sym w.registry-is) c.tellings.invariant.clear,
        subst (λ (r : Registry). NoneOf (owes_telling r) globals (place + 1))
            (sym w.registry-is)
            (none-next (owes_telling c.tellings.registry) (owes_telling c.tellings.registry) globals
            place c.index-globals-place-in-tellings.result (λ k y l f. f) c.tellings.invariant.told
            c.tellings-test.true c.index-globals-place-in-tellings.is (sym w.if-owes_telling.ensures)),
      )
    ] in
    record {
      object = told.0;
      progress = tellings-passed c.args.core.now (c.args.registry.now ∷ []) (due_to globals c.args.registry.now)
          c.if-owes_telling.count c.if-owes_telling.core registry c.args.registry.now.object globals (place + 1) next
          (omega (arith, c.next_telling-place.ensures.behind)) none told.1;
      clear = told.2;
      told = none-skip (owes_telling registry) globals (place + 1) next told.3 none;
    }

pub returns-clause-told : goal.returns-clause-told
returns-clause-told g c = record {
  rest = [];
  progress = subst (λ (list : List Owing). Progress c.args.core.now (c.args.registry.now ∷ [])
      (due_to c.args.globals.now c.args.registry.now) c.tellings.count c.tellings.core (c.tellings.registry ∷ [])
      (dues_for c.args.registry.now.object list))
      (owings-end (owes_telling c.tellings.registry) Telling c.tellings.place
      (c.tellings.place + 1) c.args.globals.now c.tellings-test.false) c.tellings.invariant.progress;
  end = refl;
}

pub returns-clause-settled : goal.returns-clause-settled
returns-clause-settled g c = λ all. nothing-due c.args.globals.now c.tellings.registry (length c.args.globals.now)
    c.tellings.place (omega arith) (omega (arith, c.tellings-test.false)) c.tellings.invariant.clear
    c.tellings.invariant.told

pub removals-init : goal.removals-init
removals-init g c = record {
  object = refl;
  progress = begun c.args.core.now (c.args.registry.now ∷ []) (due_to c.args.globals.now c.args.registry.now);
  clear = none-yet (owes_removal c.args.registry.now) c.args.globals.now;
}
