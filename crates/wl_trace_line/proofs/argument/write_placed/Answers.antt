use Rattle.std.proofs.Common.{arith}
use Rattle.wl_trace_line.proofs.Listed.{placed_behind, placed_first}
use Rattle.wl_trace_line.proofs.Wrote.{after}
use Rattle.wl_trace_line.proofs.argument.write_placed.Goals as goal
use Rattle.wl_trace_line.proofs.argument.write_placed.Goals.{then-place-gt0+in_ok-write_bytes, else-place-gt0}

pub returns : goal.returns
returns g c = after c.write_argument.result (λ last. elim c.if-place-gt0.branch [
  | then-place-gt0+in_ok-write_bytes w ↦ rw (placed_behind c.args.place _ w.if-place-gt0.true)
      (g.met.S.Sink.then _ _ _ _ _ w.in_ok-write_bytes.ensures (rw w.out-is at last))
  | else-place-gt0 w ↦ rw (placed_first c.args.place _ (omega (arith, w.if-place-gt0.false))) (rw w.out-is at last)
]) c.write_argument.ensures
