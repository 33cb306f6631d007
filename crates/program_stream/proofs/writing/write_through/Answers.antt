use Rattle.program_stream.proofs.Fronts.{front_whole}
use Rattle.program_stream.proofs.writing.write_through.Goals as goal
use Rattle.std.proofs.KnownBytes.{Appends-kept}

pub returns-clause-front : goal.returns-clause-front
returns-clause-front g c = front_whole _ _ c.args.bytes.now
    (Appends-kept _ _ _ c.args.bytes.now c.in_ok-write_whole.ensures.whole c.flush.ensures.bytes)
