use Rattle.std.proofs.Common.{◌≡◌, ◌++◌, ◌∷◌, [], ◌∙◌, sym, ap}
use Rattle.wl_check.specs.Held.{undone}
use Rattle.wl_check.proofs.Undone.{undone_last}
use Rattle.wl_check.proofs.holdings.Holdings.put_back_all.Goals as goal

pub undone-preserved : goal.undone-preserved
undone-preserved g c =
    let items : c.undone.list.items ≡ c.pop.new.self.items ++ c.in-Some.before ∷ [] =
    rw c.in-Some.is at c.pop.ensures.items in
    ap (undone c.pop.new.self.items) c.put_back.ensures
    ∙ sym (undone_last c.pop.new.self.items c.in-Some.before c.undone.self)
    ∙ ap (λ l. undone l c.undone.self) (sym items) ∙ c.undone.invariant
