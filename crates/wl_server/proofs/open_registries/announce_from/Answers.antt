use Rattle.std.proofs.Common.{◌≡◌, ◌<◌, true, false, List, [], ◌∷◌, length, length-set, get_or, refl, sym, ap, subst}
use Rattle.std.proofs.Common.{◌∙◌, arith}
use Rattle.std.proofs.lemmas.List.{get_or_default}
use Rattle.std.proofs.lemmas.Bool.{not-true, not-false}
use Rattle.wl_connection.specs.Core.{Core, IsOrdinary}
use Rattle.wl_server.specs.declared.registry.RegistrySlot.{RegistrySlot}
use Rattle.wl_server.specs.Announcing.{Due, due_to, owed_in}
use Rattle.wl_server.specs.Slots.{open_in, past_of}
use Rattle.wl_server.specs.Tellings.{IsAnnounced, Progress}
use Rattle.wl_server.proofs.OwedEvents.{ordinary-dues}
use Rattle.wl_server.proofs.TellingGoesOn.{begun, told-count, told-none, told-part, told-whole}
use Rattle.wl_server.proofs.Slots.{before, birth_in, is_open, open-set, owed-behind, past-set, rise-open, rise-set}
use Rattle.wl_server.proofs.Slots.{settled-past, settled-told}
use Rattle.wl_server.proofs.open_registries.announce_from.Goals.{then-slots-place+else-not-told, else-slots-place}
use Rattle.wl_server.proofs.open_registries.announce_from.Goals as goal

pub places-init : goal.places-init
places-init g c =
    let all = owed_in c.args.globals.now (open_in c.args.slots.now) in
    record {
      progress = subst (λ (list : List Due). Progress c.args.core.now (open_in c.args.slots.now) all 0 c.args.core.now
          (open_in c.args.slots.now) list)
          (owed-behind c.args.globals.now c.args.settled.now c.args.slots.now c.requires.settled)
          (begun c.args.core.now (open_in c.args.slots.now) all);
      settled = c.requires.settled;
      place = refl;
      rising = c.requires.rising;
      past = refl;
      number = refl;
    }

pub announce_to-told-requires-clause-ordinary : goal.announce_to-told-requires-clause-ordinary
announce_to-told-requires-clause-ordinary g c =
    subst (λ (core : Core). IsOrdinary core.outbox) (sym c.places.invariant.progress.written)
    (ordinary-dues c.args.core.now c.places.invariant.progress.done c.requires.ordinary)

pub overflow_add-count : goal.overflow_add-count
overflow_add-count g c =
    let slots = c.places.slots in
    let place = c.places.place in
    let globals = c.args.globals.now in
    let s = c.index-slots-place-then-slots-place.result in
    let at = c.index-slots-place-then-slots-place.is in
    let u : RegistrySlot = record { registry = c.announce_to-told.new.registry; is_open = (get_or slots place s).is_open } in
    let there : place < length slots =
    omega (arith, c.places-test.true, c.places.auto.slots, c.places.auto.place-end) in
    let is : s.is_open ≡ true = ap is_open (at ∙ get_or_default slots place s c.index-slots-place.result there)
    ∙ c.if-slots-place.true in
    let told : IsAnnounced c.places.core (s.registry ∷ []) (due_to globals s.registry) c.announce_to-told.result
    c.announce_to-told.new.core (u.registry ∷ []) =
    subst (λ (x : RegistrySlot). IsAnnounced c.places.core (x.registry ∷ []) (due_to globals x.registry)
    c.announce_to-told.result c.announce_to-told.new.core (u.registry ∷ [])) (sym at) c.announce_to-told.ensures.told in
    omega (
      arith,
      told-count c.args.core.now (open_in c.args.slots.now) (owed_in globals (open_in c.args.slots.now)) c.places.count
          c.places.core slots globals place (past_of c.args.slots.now) s u c.announce_to-told.result
          c.announce_to-told.new.core c.requires.ordinary
          (rise-open 0 (past_of c.args.slots.now) c.args.slots.now c.requires.rising (omega arith) (omega arith))
          c.places.invariant.progress there at is (ap is_open (sym at) ∙ is) told,
    )

pub returns-then-not-told-clause-told : goal.returns-then-not-told-clause-told
returns-then-not-told-clause-told g c =
    let slots = c.places.slots in
    let place = c.places.place in
    let globals = c.args.globals.now in
    let s = c.index-slots-place-then-slots-place.result in
    let at = c.index-slots-place-then-slots-place.is in
    let u : RegistrySlot = record { registry = c.announce_to-told.new.registry; is_open = (get_or slots place s).is_open } in
    let there : place < length slots =
    omega (arith, c.places-test.true, c.places.auto.slots, c.places.auto.place-end) in
    let is : s.is_open ≡ true = ap is_open (at ∙ get_or_default slots place s c.index-slots-place.result there)
    ∙ c.if-slots-place.true in
    let told : IsAnnounced c.places.core (s.registry ∷ []) (due_to globals s.registry) c.announce_to-told.result
    c.announce_to-told.new.core (u.registry ∷ []) =
    subst (λ (x : RegistrySlot). IsAnnounced c.places.core (x.registry ∷ []) (due_to globals x.registry)
    c.announce_to-told.result c.announce_to-told.new.core (u.registry ∷ [])) (sym at) c.announce_to-told.ensures.told in
    told-part c.args.core.now (open_in c.args.slots.now) (owed_in globals (open_in c.args.slots.now)) c.places.count
    c.places.core slots globals place (past_of c.args.slots.now) s u c.announce_to-told.result
    c.announce_to-told.new.core c.requires.ordinary
    (rise-open 0 (past_of c.args.slots.now) c.args.slots.now c.requires.rising (omega arith) (omega arith))
    c.places.invariant.progress there at is (ap is_open (sym at) ∙ is) told
    (not-true c.announce_to-told.result.all c.if-not-told.true)

pub returns-then-not-told-clause-rising : goal.returns-then-not-told-clause-rising
returns-then-not-told-clause-rising g c =
    let slots = c.places.slots in
    let place = c.places.place in
    let s = c.index-slots-place-then-slots-place.result in
    let at = c.index-slots-place-then-slots-place.is in
    let u : RegistrySlot = record { registry = c.announce_to-told.new.registry; is_open = (get_or slots place s).is_open } in
    rise-set 0 slots place s u c.places.invariant.rising at
    (ap (λ o. o.birth) c.announce_to-told.ensures.object ∙ ap birth_in (sym at))

pub returns-then-not-told-clause-past : goal.returns-then-not-told-clause-past
returns-then-not-told-clause-past g c =
    let slots = c.places.slots in
    let place = c.places.place in
    let s = c.index-slots-place-then-slots-place.result in
    let at = c.index-slots-place-then-slots-place.is in
    let u : RegistrySlot = record { registry = c.announce_to-told.new.registry; is_open = (get_or slots place s).is_open } in
    past-set slots place s u at (ap (λ o. o.birth) c.announce_to-told.ensures.object ∙ ap birth_in (sym at))
    ∙ c.places.invariant.past

pub returns-then-not-told-clause-count : goal.returns-then-not-told-clause-count
returns-then-not-told-clause-count g c =
    let slots = c.places.slots in
    let place = c.places.place in
    let s = c.index-slots-place-then-slots-place.result in
    let at = c.index-slots-place-then-slots-place.is in
    let u : RegistrySlot = record { registry = c.announce_to-told.new.registry; is_open = (get_or slots place s).is_open } in
    let there : place < length slots =
    omega (arith, c.places-test.true, c.places.auto.slots, c.places.auto.place-end) in
    let is : s.is_open ≡ true = ap is_open (at ∙ get_or_default slots place s c.index-slots-place.result there)
    ∙ c.if-slots-place.true in
    ap length (open-set slots place s u there at is (ap is_open (sym at) ∙ is))
    ∙ length-set (open_in slots) (before place slots) u.registry ∙ c.places.invariant.number

pub places-preserved : goal.places-preserved
places-preserved g c =
    let slots = c.places.slots in
    let place = c.places.place in
    let globals = c.args.globals.now in
    let there : place < length slots =
    omega (arith, c.places-test.true, c.places.auto.slots, c.places.auto.place-end) in
    elim c.if-slots-place.branch [
      | then-slots-place+else-not-told w ↦ (
          let s = w.index-slots-place-then-slots-place.result in
          let at = w.index-slots-place-then-slots-place.is in
          let u : RegistrySlot =
          record { registry = w.announce_to-told.new.registry; is_open = (get_or slots place s).is_open } in
          let is : s.is_open ≡ true =
          ap is_open (at ∙ get_or_default slots place s c.index-slots-place.result there) ∙ w.if-slots-place.true in
          let also : u.is_open ≡ true = ap is_open (sym at) ∙ is in
          let birth : birth_in u ≡ birth_in s = ap (λ o. o.birth) w.announce_to-told.ensures.object
          ∙ ap birth_in (sym at) in
          let all : w.announce_to-told.result.all ≡ true =
          not-false w.announce_to-told.result.all w.if-not-told.false in
          let told : IsAnnounced c.places.core (s.registry ∷ []) (due_to globals s.registry)
          w.announce_to-told.result w.announce_to-told.new.core (u.registry ∷ []) =
          subst (λ (x : RegistrySlot). IsAnnounced c.places.core (x.registry ∷ []) (due_to globals x.registry)
          w.announce_to-told.result w.announce_to-told.new.core (u.registry ∷ [])) (sym at)
          w.announce_to-told.ensures.told in
          rw (w.slots-is, w.core-is, w.count-is) (record {
            progress = told-whole c.args.core.now (open_in c.args.slots.now)
                (owed_in globals (open_in c.args.slots.now)) c.places.count c.places.core slots globals place
                (past_of c.args.slots.now) s u w.announce_to-told.result w.announce_to-told.new.core
                c.requires.ordinary
                (rise-open 0 (past_of c.args.slots.now) c.args.slots.now c.requires.rising (omega arith) (omega arith))
                c.places.invariant.progress there at is also told all;
            settled = settled-told globals slots place u there also c.places.invariant.settled
                (w.announce_to-told.ensures.settled all);
            place = refl;
            rising = rise-set 0 slots place s u c.places.invariant.rising at birth;
            past = past-set slots place s u at birth ∙ c.places.invariant.past;
            number = ap length (open-set slots place s u there at is also)
                ∙ length-set (open_in slots) (before place slots) u.registry ∙ c.places.invariant.number;
          }))
      | else-slots-place w ↦ rw (w.slots-is, w.core-is, w.count-is) (record {
        progress = told-none c.args.core.now (open_in c.args.slots.now) (owed_in globals (open_in c.args.slots.now))
            c.places.count c.places.core slots globals place c.index-slots-place.result c.places.invariant.progress
            there c.index-slots-place.is (ap is_open c.index-slots-place.is ∙ w.if-slots-place.false);
        settled = settled-past globals slots place c.index-slots-place.result there c.index-slots-place.is
            (ap is_open c.index-slots-place.is ∙ w.if-slots-place.false) c.places.invariant.settled;
        place = refl;
        rising = c.places.invariant.rising;
        past = c.places.invariant.past;
        number = c.places.invariant.number;
      })
    ]
