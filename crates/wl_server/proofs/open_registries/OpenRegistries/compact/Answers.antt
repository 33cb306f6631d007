use Rattle.std.proofs.Common.{◌≡◌, ◌≤◌, List, length, take, sym, ap, subst, ◌∙◌, arith, rules}
use Rattle.std.specs.List.{filter, count_by}
use Rattle.std.proofs.lemmas.Fn.{filter_same}
use Rattle.wl_server.specs.declared.registry.RegistrySlot.{RegistrySlot}
use Rattle.wl_server.specs.Slots.{KeptRegistries, SlotsRise, open_in, past_of}
use Rattle.wl_server.proofs.Slots.{few-kept, is_open, length-open, open-again, open-kept, past-kept, rise-kept}
use Rattle.wl_server.proofs.Slots.{settled-kept}
use Rattle.wl_server.proofs.open_registries.OpenRegistries.compact.Goals as goal

pub invariant_of-self : goal.invariant_of-self
invariant_of-self g c =
    let slots = c.self.inside.slots.items in
    let kept : c.retain.new.self.items ≡ filter is_open slots =
    filter_same _ _ _ (λ x b f' k. search rules) _ _ c.retain.ensures.filtered in
    let count : c.count_open-self-inside.result ≡ count_by is_open (take c.self.inside.settled slots) = search rules in
    record {
      rising = subst (SlotsRise 0) (sym kept) (rise-kept 0 slots c.self.invariant.rising);
      closed = omega (
        arith,
        ap (λ (l : List RegistrySlot). length (open_in l)) kept,
        length-open (filter is_open slots),
        ap length (open-again slots),
        ap length kept,
      );
      settled = subst (λ (l : List RegistrySlot). c.count_open-self-inside.result ≤ length l) (sym kept)
          (omega (arith, count, few-kept c.self.inside.settled slots));
    }

pub returns-clause-list : goal.returns-clause-list
returns-clause-list g c =
    let slots = c.self.inside.slots.items in
    let kept : c.retain.new.self.items ≡ filter is_open slots =
    filter_same _ _ _ (λ x b f' k. search rules) _ _ c.retain.ensures.filtered in
    ap open_in kept ∙ open-kept slots ∙ ap (λ (k : KeptRegistries). k.list) c.self.view_is

pub returns-clause-settled : goal.returns-clause-settled
returns-clause-settled g c =
    let slots = c.self.inside.slots.items in
    let kept : c.retain.new.self.items ≡ filter is_open slots =
    filter_same _ _ _ (λ x b f' k. search rules) _ _ c.retain.ensures.filtered in
    let count : c.count_open-self-inside.result ≡ count_by is_open (take c.self.inside.settled slots) = search rules in
    (λ i. length (open_in (take (count i) (kept i)))) ∙ ap length (settled-kept c.self.inside.settled slots)
    ∙ ap (λ (k : KeptRegistries). k.settled) c.self.view_is

pub returns-clause-past : goal.returns-clause-past
returns-clause-past g c =
    let slots = c.self.inside.slots.items in
    let kept : c.retain.new.self.items ≡ filter is_open slots =
    filter_same _ _ _ (λ x b f' k. search rules) _ _ c.retain.ensures.filtered in
    let past : past_of slots ≡ c.args.self.now.past = ap (λ (k : KeptRegistries). k.past) c.self.view_is in
    omega (arith, ap past_of kept, past-kept slots, past)

pub returns-clause-room : goal.returns-clause-room
returns-clause-room g c =
    let slots = c.self.inside.slots.items in
    let kept : c.retain.new.self.items ≡ filter is_open slots =
    filter_same _ _ _ (λ x b f' k. search rules) _ _ c.retain.ensures.filtered in
    omega (
      arith,
      ap length kept,
      length-open slots,
      c.self.invariant.closed,
      c.self.inside.slots.ok.0,
      c.self.inside.slots.ok.1,
      c.retain.ensures.capacity,
      ap (λ (k : KeptRegistries). k.room) c.self.view_is,
      ap (λ (k : KeptRegistries). k.closed) c.self.view_is,
    )
