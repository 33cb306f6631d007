use Rattle.program_stream.proofs.Fronts.{wrote_more, wrote_none}
use Rattle.program_stream.proofs.writing.write_whole.Goals.{in-Ok, in-Err+else-ne}
use Rattle.program_stream.proofs.writing.write_whole.Goals as goal

pub writes-preserved : goal.writes-preserved
writes-preserved g c = elim c.match-write.branch [
  | in-Ok w ↦ wrote_more _ _ _ c.args.bytes.now c.writes.at w.in-Ok.n c.match-write.at c.writes.invariant.0 w.at-is
      w.in-Ok.ensures.bound c.writes.invariant.1 w.in-Ok.ensures.bytes
  | in-Err+else-ne w ↦ wrote_none _ _ _ c.args.bytes.now c.writes.at c.match-write.at c.writes.invariant.0 w.at-is
      c.writes.invariant.1 w.in-Err.ensures.bytes
]
