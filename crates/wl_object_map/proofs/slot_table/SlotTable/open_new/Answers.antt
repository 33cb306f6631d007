use Rattle.std.proofs.Common.{rules, ◌≡◌, ◌+◌, ◌∷◌, ◌++◌, [], sym, ◌∙◌, ap, subst, true, arith}
use Rattle.std.proofs.lemmas.Grind.{common_steps}
use Rattle.std.proofs.lemmas.Bool.Decides.{nat_tests}
use Rattle.wl_object_map.specs.declared.slot_table.Slot.{Slot}
use Rattle.wl_object_map.specs.View.{View, opened_at, has_room}
use Rattle.wl_object_map.specs.Sounds.{Sound-opened_at}
use Rattle.wl_object_map.proofs.SlotViews.{holds_of, becomes_opened}
use Rattle.wl_object_map.proofs.slot_table.SlotTable.open_new.Goals as goal

pub invariant_of-self-2 : goal.invariant_of-self-2
invariant_of-self-2 g c =
    let pushed : c.push.new.self.items ≡ c.self.inside.slots.items ++ c.live.result ∷ [] = search rules in
    let e = pushed ∙ ap (λ (s : Slot). c.self.inside.slots.items ++ s ∷ []) c.live.ensures in
    let b = becomes_opened _ c.push.new.self.items _ _ _ c.args.iface c.args.version c.self.invariant e in
    let room = subst (λ (v : View). has_room v (v.used + 1) ≡ true) (sym c.self.view_is) c.requires.room in
    holds_of _ _ _ _ _ b (Sound-opened_at _ _ c.args.iface c.args.version c.self.invariant.sound
    (grind (arith, common_steps, nat_tests)) room)

pub returns-clause-ok : goal.returns-clause-ok
returns-clause-ok g c =
    let pushed : c.push.new.self.items ≡ c.self.inside.slots.items ++ c.live.result ∷ [] = search rules in
    let e = pushed ∙ ap (λ (s : Slot). c.self.inside.slots.items ++ s ∷ []) c.live.ensures in
    let b = becomes_opened _ c.push.new.self.items _ _ _ c.args.iface c.args.version c.self.invariant e in
    b.stands_for ∙ ap (λ (v : View). opened_at v (v.used + 1) c.args.iface c.args.version) c.self.view_is
