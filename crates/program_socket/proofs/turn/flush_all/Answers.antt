use Rattle.std.proofs.Common.{◌≡◌, ◌+◌, ◌∙◌, ℕ, ap, refl, sym, subst}
use Rattle.std.specs.Prelude.{Ok, Err}
use Rattle.wl_message.specs.declared.streams.FlushError.{FlushError}
use Rattle.wl_message.specs.Streams.{bytes_written}
use Rattle.program_socket.proofs.Turns.{Written, written_none, flushed, flushed_all, counts_all, all_sends, all_counted}
use Rattle.program_socket.proofs.turn.flush_all.Goals as goal

pub tries-init : goal.tries-init
tries-init g c = written_none g.E.End.core g.E.End.with_core g.met.E.End.laws c.args.end.now
    (g.W.Write.contents c.args.writer.now)

-- the last flush succeeded
pub returns-in-Ok-clause-sends : goal.returns-in-Ok-clause-sends
returns-in-Ok-clause-sends g c =
    let core = g.E.End.core in
    let with_core = g.E.End.with_core in
    let first = c.args.end.now in
    let held = g.W.Write.contents c.args.writer.now in
    let end = c.flush.new.self in
    let holds = g.W.Write.contents c.flush.new.writer in
    let more = flushed core with_core g.met.E.End.laws first held c.tries.count c.tries.end
    (g.W.Write.contents c.tries.writer) (Ok c.in-Ok.written) end holds c.tries.invariant c.in-Ok.ensures.flushes
    c.in-Ok.ensures.others in
    let all = flushed_all core with_core g.met.E.End.laws first held (c.tries.count + c.in-Ok.written) end holds more
    (c.in-Ok.ensures.flushes.all.0 refl) in
    all_sends core with_core first held end holds c.counted.result
    (counts_all core with_core first held (c.tries.count + c.in-Ok.written) end holds c.counted.result
    c.counted.ensures all)

pub returns-in-Ok-clause-count : goal.returns-in-Ok-clause-count
returns-in-Ok-clause-count g c =
    let core = g.E.End.core in
    let with_core = g.E.End.with_core in
    let first = c.args.end.now in
    let held = g.W.Write.contents c.args.writer.now in
    let end = c.flush.new.self in
    let holds = g.W.Write.contents c.flush.new.writer in
    let more = flushed core with_core g.met.E.End.laws first held c.tries.count c.tries.end
    (g.W.Write.contents c.tries.writer) (Ok c.in-Ok.written) end holds c.tries.invariant c.in-Ok.ensures.flushes
    c.in-Ok.ensures.others in
    let all = flushed_all core with_core g.met.E.End.laws first held (c.tries.count + c.in-Ok.written) end holds more
    (c.in-Ok.ensures.flushes.all.0 refl) in
    all_counted core with_core first held end holds c.counted.result
    (counts_all core with_core first held (c.tries.count + c.in-Ok.written) end holds c.counted.result
    c.counted.ensures all)

-- another flush is tried
pub tries-preserved : goal.tries-preserved
tries-preserved g c =
    let core = g.E.End.core in
    let with_core = g.E.End.with_core in
    let first = c.args.end.now in
    let held = g.W.Write.contents c.args.writer.now in
    let end = c.flush.new.self in
    let holds = g.W.Write.contents c.flush.new.writer in
    let more = flushed core with_core g.met.E.End.laws first held c.tries.count c.tries.end
    (g.W.Write.contents c.tries.writer) (Err c.in-Err-Io.field-0) end holds c.tries.invariant
    c.in-Err-Io.ensures.flushes c.in-Err-Io.ensures.others in
    let count : c.tries.count + bytes_written (Err c.in-Err-Io.field-0) ≡ c.in_ok-count-in-Err-Io.count =
    ap (λ (w : FlushError). c.tries.count + bytes_written (Err w)) c.in-Err-Io.field-0-is
    ∙ sym c.in_ok-count-in-Err-Io.ensures in
    subst (λ (n : ℕ). Written core with_core first held n end holds) count more
