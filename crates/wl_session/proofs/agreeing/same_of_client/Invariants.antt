use Rattle.std.proofs.Common.{ℕ, ◌<◌, ◌≤◌}
use Rattle.wl_object_map.specs.Objects.{look}
use Rattle.wl_session.specs.Room.{AreSame}
use Rattle.wl_session.proofs.agreeing.same_of_client.Given as goal

abbrev pub invariant-loop-id : goal.invariant-loop-id
invariant-loop-id g l = (q : ℕ) → 1 ≤ q → q < l.id → AreSame (look l.client q) (look l.server q)
