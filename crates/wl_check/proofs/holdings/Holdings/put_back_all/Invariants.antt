use Rattle.std.proofs.Common.{◌≡◌, length}
use Rattle.wl_check.specs.Held.{undone}
use Rattle.wl_check.proofs.holdings.Holdings.put_back_all.Given as goal

-- restoring the rest gives the same result
abbrev pub invariant-undone : goal.invariant-undone
invariant-undone g l = undone l.list.items l.self ≡ undone l.initial.list.items l.initial.self

abbrev pub decreases-undone : goal.decreases-undone
decreases-undone g l = length l.list.items
