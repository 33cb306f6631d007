use Rattle.std.proofs.Common.{ℕ, ◌<◌, ◌≤◌}
use Rattle.wl_object_map.specs.Ranges.{first_server_id}
use Rattle.wl_object_map.specs.Objects.{look}
use Rattle.wl_session.specs.Room.{AreSameByServer}
use Rattle.wl_session.proofs.agreeing.same_by_server.Given as goal

abbrev pub invariant-loop-id : goal.invariant-loop-id
invariant-loop-id g l =
    (q : ℕ) → first_server_id ≤ q → q < l.id → AreSameByServer (look l.client q) (look l.server q)
