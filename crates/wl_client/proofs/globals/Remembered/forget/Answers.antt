use Rattle.std.proofs.Common.{◌≡◌, sym, ap, ◌∙◌, rules, arith}
use Rattle.std.proofs.lemmas.Fn.{filter_same}
use Rattle.std.proofs.lemmas.List.Elements.{All-same, All-filter}
use Rattle.wl_client.specs.Reports.{forgotten}
use Rattle.wl_client.proofs.NamedUpTo.{nothing_forgotten, up_to}
use Rattle.wl_client.proofs.globals.Remembered.forget.Goals as goal

pub returns-then-name-self : goal.returns-then-name-self
returns-then-name-self g c = filter_same _ _ _ (λ x b f' k. search rules) _ _ c.retain.ensures.filtered
    ∙ ap (forgotten c.args.name) c.self.view_is

pub returns-else-name-self : goal.returns-else-name-self
returns-else-name-self g c =
    sym (ap (forgotten c.args.name) (sym c.self.view_is)
    ∙ nothing_forgotten c.self.inside.greatest c.args.name c.self.inside.items.items c.self.invariant.named
    (omega (arith, c.if-name-self.false)) ∙ c.self.view_is)

pub invariant_of-self : goal.invariant_of-self
invariant_of-self g c =
    let kept : c.retain.new.self.items ≡ forgotten c.args.name c.self.inside.items.items =
    filter_same _ _ _ (λ x b f' k. search rules) _ _ c.retain.ensures.filtered in
    record {
      few = omega (arith, c.retain.ensures.bound, c.self.invariant.few);
      reserved = omega (arith, c.retain.ensures.capacity, c.self.invariant.reserved);
      named = All-same (up_to c.self.inside.greatest) _ _ kept
          (All-filter _ (up_to c.self.inside.greatest) c.self.inside.items.items c.self.invariant.named);
    }
