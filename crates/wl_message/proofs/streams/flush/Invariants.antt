use Rattle.std.proofs.Common.{◌≡◌, ◌≤◌, ◌-◌, ◌⊎◌, [], take}
use Rattle.std.specs.Io.KnownBytes.{Appends}
use Rattle.wl_message.specs.Outgoing.{MayGo, waiting_bytes, after_taking}
use Rattle.wl_message.specs.Streams.{NextHasTokens}
use Rattle.wl_message.proofs.streams.flush.Given as goal

abbrev pub invariant-parts : goal.invariant-parts
invariant-parts g l = record {
  may : MayGo l.fn.outbox l.total 0 l.total;
  stops : (waiting_bytes (after_taking l.fn.outbox l.total) ≡ []) ⊎ NextHasTokens (after_taking l.fn.outbox l.total);
  within : l.written ≤ l.total;
  gone : l.outbox ≡ after_taking l.fn.outbox l.written;
  written : Appends (g.W.Write.contents l.fn.writer) (g.W.Write.contents l.writer)
      (take l.written (waiting_bytes l.fn.outbox));
}

abbrev pub decreases-parts : goal.decreases-parts
decreases-parts g l = l.total - l.written
