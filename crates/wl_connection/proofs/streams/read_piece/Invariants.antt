use Rattle.std.proofs.Common.{◌≡◌, ◌≤◌, ◌-◌, false, length, take}
use Rattle.wl_connection.specs.Reads.{reading_of, with_arrivals, appended, ReadsOn}
use Rattle.wl_connection.proofs.streams.read_piece.Given as goal

abbrev pub invariant-rest : goal.invariant-rest
invariant-rest g l =
    let e = reading_of g.E.End.core g.E.End.with_core g.E.Receiver.answer g.E.Receiver.after g.E.Receiver.is_last in
    record {
      kept : take (length l.fn.reports.items) l.reports.items ≡ l.fn.reports.items;
      some : ReadsOn e (with_arrivals e l.fn.end (take l.part.bytes l.piece.bytes.now) l.piece.tokens.now)
          (appended g.E.Receiver.seen l.fn.reports.items l.reports.items) l.end;
      sound : (g.E.End.core l.end).failed ≡ false;
      within : l.part.bytes ≤ length l.piece.bytes.now;
      tokens : l.part.tokens ≡ length l.piece.tokens.now;
    }

abbrev pub decreases-rest : goal.decreases-rest
decreases-rest g l = length l.piece.bytes.now - l.part.bytes
