use Rattle.std.proofs.Common.{◌≡◌, ℕ, ◌+◌, ◌≤◌, ◌∷◌, ◌++◌, [], List, true}
use Rattle.std.proofs.Common.{length, length-append, take, sym, ap, subst, ◌∙◌, arith}
use Rattle.wl_server.specs.declared.registry.RegistrySlot.{RegistrySlot}
use Rattle.wl_server.specs.State.{Registry}
use Rattle.wl_server.specs.Slots.{KeptRegistries, SlotsRise, open_in, past_of, settled_in}
use Rattle.wl_server.proofs.Slots.{open-append, past-push, rise-push, take-open}
use Rattle.std.proofs.lemmas.List.{take-append-le}
use Rattle.wl_server.specs.Announcing.{owed_in}
use Rattle.wl_server.proofs.open_registries.OpenRegistries.push_reserved.Goals as goal

pub invariant_of-self : goal.invariant_of-self
invariant_of-self g c =
    let slots = c.self.inside.slots.items in
    let slot : RegistrySlot = record { registry = c.new.result; is_open = true } in
    let items : c.push_reserved.new.self.items ≡ slots ++ slot ∷ [] = c.push_reserved.ensures.items in
    let birth : c.new.result.object.birth ≡ c.args.object.birth =
    ap (λ (r : Registry). r.object.birth) c.new.ensures in
    let past : past_of slots ≤ c.new.result.object.birth =
    omega (arith, ap (λ (k : KeptRegistries). k.past) c.self.view_is, c.requires.past, birth) in
    let more : length (open_in (slots ++ slot ∷ [])) ≡ length (open_in slots) + 1 =
    ap length (open-append slots (slot ∷ [])) ∙ length-append (open_in slots) (open_in (slot ∷ [])) in
    record {
      rising = subst (SlotsRise 0) (sym items) (rise-push 0 slots slot c.self.invariant.rising (omega arith) past);
      closed = omega (
        arith,
        c.self.invariant.closed,
        more,
        ap (λ (l : List RegistrySlot). length (open_in l)) items,
        ap length items,
        length-append slots (slot ∷ []),
      );
      settled = omega (arith, c.self.invariant.settled, ap length items, length-append slots (slot ∷ []));
    }

pub returns-clause-past : goal.returns-clause-past
returns-clause-past g c =
    let slots = c.self.inside.slots.items in
    let slot : RegistrySlot = record { registry = c.new.result; is_open = true } in
    let birth : c.new.result.object.birth ≡ c.args.object.birth =
    ap (λ (r : Registry). r.object.birth) c.new.ensures in
    let past : past_of slots ≤ c.new.result.object.birth =
    omega (arith, ap (λ (k : KeptRegistries). k.past) c.self.view_is, c.requires.past, birth) in
    ap past_of c.push_reserved.ensures.items ∙ past-push slots slot past
    ∙ ap (λ (n : ℕ). n + 1) birth

pub returns-clause-settled : goal.returns-clause-settled
returns-clause-settled g c = λ globals none.
    let slots = c.self.inside.slots.items in
    let settled = c.self.inside.settled in
    let slot : RegistrySlot = record { registry = c.new.result; is_open = true } in
    let front : take settled (slots ++ slot ∷ []) ≡ take settled slots =
    take-append-le settled slots (slot ∷ []) c.self.invariant.settled in
    ap (λ (l : List RegistrySlot). owed_in globals (take (length (open_in (take settled l))) (open_in l)))
    c.push_reserved.ensures.items
    ∙ (ap (owed_in globals) (take-open settled (slots ++ slot ∷ []))
    ∙ ap (λ (l : List RegistrySlot). owed_in globals (open_in l)) front
    ∙ sym (ap (owed_in globals) (take-open settled slots))
    ∙ (ap (λ (k : KeptRegistries). owed_in globals (settled_in k)) c.self.view_is ∙ none))
