use Rattle.std.proofs.Common.{◌≡◌, ◌∙◌, sym, ap, subst, is_some, get_or, cond, false, bytes_eq, Some, Bor, List, ℕ}
use Rattle.wl_rules.specs.NameHash.{name_hash}
use Rattle.wl_rules.specs.Places.{mapped_place}
use Rattle.wl_rules.proofs.FirstPlaces.{inserted, written_back, mapped_place-get, mapped_place-updates, places-next}
use Rattle.wl_rules.proofs.places.places_of.Goals as goal
use Rattle.wl_rules.proofs.places.places_of.Goals.{in-Some+in_ok-insert, in_default}

pub loop-place-preserved : goal.loop-place-preserved
loop-place-preserved g c = λ q.
    let name : Bor (List ℕ) = c.name.result in
    let hash : c.hash.result ≡ name_hash name.now = c.hash.ensures ∙ ap name_hash (sym c.name.ensures) in
    let stands : name.now ≡ get_or c.args.names.now c.loop-place.place name.now =
    subst (λ (n : List ℕ). n ≡ get_or c.args.names.now c.loop-place.place n) (sym c.name.ensures)
    c.index-names-place.is in
    let first = mapped_place-updates c.loop-place.places c.insert.new.self c.hash.result name
    (Some c.loop-place.place) hash c.in_ok-earlier.ensures.updates in
    let old = c.in_ok-earlier.ensures.old ∙ mapped_place-get c.loop-place.places c.hash.result name hash in
    let next = places-next c.args.names.now c.loop-place.place name.now (mapped_place c.loop-place.places) in
    elim c.match-branch-3.branch [
      | in-Some+in_ok-insert w ↦
          let again = mapped_place-updates c.insert.new.self w.insert-in-Some.new.self c.hash.result name
          (Some w.in-Some.earlier) hash w.in_ok-insert.ensures.updates in
          let had : mapped_place c.loop-place.places name.now ≡ Some w.in-Some.earlier = sym old ∙ w.in-Some.is in
          rw w.places-is
          (next (mapped_place w.insert-in-Some.new.self) c.loop-place-test.true stands c.loop-place.invariant
          (λ r. again r ∙ ap (λ o. cond (bytes_eq name.now r) (Some w.in-Some.earlier) o) (first r)
          ∙ written_back (mapped_place c.loop-place.places) name.now r c.loop-place.place w.in-Some.earlier had) q)
      | in_default w ↦
          let none : is_some (mapped_place c.loop-place.places name.now) ≡ false =
          ap (λ o. is_some o) (sym old ∙ w.in_default.is) in
          rw w.places-is
          (next (mapped_place c.insert.new.self) c.loop-place-test.true stands c.loop-place.invariant
          (λ r. first r ∙ inserted (mapped_place c.loop-place.places) name.now r c.loop-place.place none) q)
    ]
