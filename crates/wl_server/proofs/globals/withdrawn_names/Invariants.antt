use Rattle.std.proofs.Common.{◌≡◌, ◌+◌, ◌<◌, ◌≤◌, ℕ, false, get_or, length}
use Rattle.std.specs.Prelude.{not}
use Rattle.wl_server.specs.State.{Global, has_name}
use Rattle.wl_server.proofs.globals.withdrawn_names.Given as goal

abbrev pub invariant-places : goal.invariant-places
invariant-places l = record {
  marked : (k : ℕ) (x : Global) → k < l.place → k < length l.globals → x ≡ get_or l.globals k x
      → has_name l.withdrawn (k + 1) ≡ not x.present;
  rest : (k : ℕ) → l.place ≤ k → has_name l.withdrawn (k + 1) ≡ false;
}
