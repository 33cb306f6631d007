use Rattle.std.proofs.Common.{◌≡◌, ◌++◌, List, [], length, take, drop, sym, ap, subst, ◌∙◌, arith}
use Rattle.std.proofs.lemmas.List.{take_at}
use Rattle.wl_server.specs.declared.registry.RegistrySlot.{RegistrySlot}
use Rattle.wl_server.specs.Announcing.{owed_in}
use Rattle.wl_server.specs.Slots.{KeptRegistries, open_in, settled_in}
use Rattle.wl_server.proofs.Slots.{take-open}
use Rattle.wl_server.proofs.open_registries.OpenRegistries.announce.Goals as goal

pub announce_from-requires-clause-settled : goal.announce_from-requires-clause-settled
announce_from-requires-clause-settled g c =
    let globals = c.args.globals.now in
    let slots = c.self.inside.slots.items in
    let settled = c.self.inside.settled in
    ap (λ (l : List RegistrySlot). owed_in globals (open_in (take settled l))) c.deref_mut.ensures.value
    ∙ (sym (ap (owed_in globals) (take-open settled slots))
    ∙ (ap (λ (k : KeptRegistries). owed_in globals (settled_in k)) c.self.view_is ∙ c.requires.settled))

pub returns-clause-settled : goal.returns-clause-settled
returns-clause-settled g c =
    let globals = c.args.globals.now in
    let now = c.announce_from.new.slots in
    let settled = c.announce_from.new.settled in
    let len : length now ≡ c.self.inside.slots.len =
    omega (arith, c.announce_from.auto.slots, c.deref_mut.ensures.len, c.self.inside.slots.ok.0) in
    let all : take c.self.inside.slots.len (now ++ drop (length now) c.self.inside.slots.items) ≡ now =
    take_at _ _ _ len in
    subst (λ (l : List RegistrySlot). owed_in globals (take (length (open_in (take settled l))) (open_in l)) ≡ []) (sym all)
    (ap (owed_in globals) (take-open settled now) ∙ c.announce_from.ensures.settled)
