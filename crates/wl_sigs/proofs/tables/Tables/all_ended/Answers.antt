use Rattle.std.proofs.Common.{◌≡◌, ◌++◌, ◌∷◌, [], List, Bool, Option, length, take, false, sym, ap, ◌∙◌, ◌||◌, append-nil, arith}
use Rattle.std.proofs.Math.Path.{ap₂}
use Rattle.std.proofs.Math.Seq.{take-length}
use Rattle.std.specs.List.{list_any}
use Rattle.std.specs.Option.{option_map_or}
use Rattle.wl_text.specs.Text.{WrittenInterface}
use Rattle.wl_sigs.specs.Tables.{has_destroying_event}
use Rattle.wl_sigs.specs.Extended.{Gathered}
use Rattle.wl_sigs.proofs.Bodies.{ended-next}
use Rattle.wl_sigs.proofs.Got.{got}
use Rattle.wl_sigs.proofs.tables.Tables.all_ended.Goals as goal

pub loop-place-preserved : goal.loop-place-preserved
loop-place-preserved g c =
    let entries = c.as_slice-entries.result.now in
    let added = c.as_slice-added.result.now in
    let declared = c.as_slice-declared.result.now in
    let x = c.index-entries-place.result in
    c.in_ok-push.ensures.items
    ∙ ap₂ (λ (l : List Bool) (b : Bool). l ++ b ∷ []) c.loop-place.invariant
    (c.is_ended_with.ensures
    ∙ ap (λ (o : Option WrittenInterface). has_destroying_event x
    || option_map_or (λ w. list_any (λ m. m.destroys) w.events) o false)
    (got c.get.result added c.loop-place.place c.get.ensures.lookup.0 c.get.ensures.lookup.1))
    ∙ sym (ended-next entries declared added c.loop-place.place x c.loop-place-test.true c.index-entries-place.is)

pub loop-interface-init : goal.loop-interface-init
loop-interface-init g c =
    let entries = c.as_slice-entries.ensures.value ∙ c.self.view_is in
    let added = c.as_slice-added.ensures.value ∙ ap (λ (x : Gathered). x.added) c.gathered.view_is in
    let all : c.loop-place.place ≡ length c.as_slice-entries.result.now = omega arith in
    let whole : take c.loop-place.place c.as_slice-entries.result.now ≡ c.as_slice-entries.result.now =
    rw all (take-length c.as_slice-entries.result.now) in
    c.loop-place.invariant ∙ rw (whole, entries, added) (sym (append-nil _))
