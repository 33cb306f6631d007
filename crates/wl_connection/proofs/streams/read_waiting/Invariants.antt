use Rattle.std.proofs.Common.{◌≡◌, false, length, take}
use Rattle.wl_connection.specs.Reads.{reading_of, appended, ReadsOn}
use Rattle.wl_connection.proofs.streams.read_waiting.Given as goal

abbrev pub invariant-messages : goal.invariant-messages
invariant-messages g l = record {
  kept : take (length l.fn.reports.items) l.reports.items ≡ l.fn.reports.items;
  some : ReadsOn (reading_of g.E.End.core g.E.End.with_core g.E.Receiver.answer g.E.Receiver.after g.E.Receiver.is_last)
      l.fn.end (appended g.E.Receiver.seen l.fn.reports.items l.reports.items) l.end;
  sound : (g.E.End.core l.end).failed ≡ false;
}

abbrev pub decreases-messages : goal.decreases-messages
decreases-messages g l = length (g.E.End.core l.end).inbox.bytes
