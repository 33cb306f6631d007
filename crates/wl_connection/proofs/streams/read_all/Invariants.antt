use Rattle.std.proofs.Common.{◌≡◌, false, length, map, take}
use Rattle.wl_message.specs.InStep.{part, part_bytes, part_tokens}
use Rattle.wl_connection.specs.Reads.{reading_of, with_arrivals, appended, ReadsOn}
use Rattle.wl_connection.proofs.ReadsGoOn.{AreReadBefore}
use Rattle.wl_connection.proofs.streams.read_all.Given as goal

abbrev pub invariant-loop-taken : goal.invariant-loop-taken
invariant-loop-taken g l =
    let e = reading_of g.E.End.core g.E.End.with_core g.E.Receiver.answer g.E.Receiver.after g.E.Receiver.is_last in
    record {
      kept : take (length l.fn.reports.items) l.reports.items ≡ l.fn.reports.items;
      some : ReadsOn e (with_arrivals e l.fn.end (part_bytes (take l.taken (map part l.pieces)))
          (part_tokens (take l.taken (map part l.pieces))))
          (appended g.E.Receiver.seen l.fn.reports.items l.reports.items) l.end;
      before : AreReadBefore e l.fn.end (map part l.pieces) l.taken;
      sound : (g.E.End.core l.end).failed ≡ false;
    }
