use Rattle.std.proofs.Common.{sym, ◌∙◌}
use Rattle.std.specs.declared.option.Option.TheVariants.{Some}
use Rattle.wl_connection.specs.Reads.{reading_of}
use Rattle.wl_connection.proofs.Appended.{kept_same}
use Rattle.wl_connection.proofs.ReadsGoOn.{on_first, on_pushed, reads_pushed, pushed_kept}
use Rattle.wl_connection.proofs.ReadsGoOn.{until_stop, waiting_then, report_read}
use Rattle.wl_connection.proofs.streams.read_waiting.Goals as goal

pub messages-init : goal.messages-init
messages-init g c = record {
  kept = kept_same c.args.reports.now.items;
  some = on_first (reading_of g.E.End.core g.E.End.with_core g.E.Receiver.answer g.E.Receiver.after
      g.E.Receiver.is_last) g.E.Receiver.seen c.args.end.now c.args.reports.now.items;
  sound = c.requires;
}

pub returns-in-Err-clause-reads : goal.returns-in-Err-clause-reads
returns-in-Err-clause-reads g c =
    let e = reading_of g.E.End.core g.E.End.with_core g.E.Receiver.answer g.E.Receiver.after g.E.Receiver.is_last in (
      until_stop e g.met.E.End.laws g.E.Receiver.seen c.args.end.now c.messages.end c.next_owned.new.self
          c.args.reports.now.items c.messages.reports.items c.reserve.new.self.items (Some c.in-Err.why)
          c.messages.invariant.some c.in-Err.ensures c.reserve.ensures.items,
      λ n. absurd (cc n),
    )

pub returns-then-has_failed-clause-reads : goal.returns-then-has_failed-clause-reads
returns-then-has_failed-clause-reads g c =
    let e = reading_of g.E.End.core g.E.End.with_core g.E.Receiver.answer g.E.Receiver.after g.E.Receiver.is_last in
    let read = report_read e g.E.Receiver.seen c.messages.end c.next_owned.new.self c.in-Ok-Some.field-0
    c.in-Ok-Some.report c.in-Ok-Some.field-0-is c.in-Ok-Some.ensures in
    let failed = sym c.has_failed.ensures ∙ c.if-has_failed.true in (
      reads_pushed e g.met.E.End.laws g.E.Receiver.seen c.args.end.now c.messages.end c.next_owned.new.self
          c.args.reports.now.items c.messages.reports.items c.reserve.new.self.items c.push_reserved.new.self.items
          c.in-Ok-Some.report
          c.messages.invariant.some read failed c.messages.invariant.kept c.reserve.ensures.items
          c.push_reserved.ensures.items,
      λ n. failed,
    )

pub messages-smaller : goal.messages-smaller
messages-smaller g c =
    let e = reading_of g.E.End.core g.E.End.with_core g.E.Receiver.answer g.E.Receiver.after g.E.Receiver.is_last in
    (report_read e g.E.Receiver.seen c.messages.end c.next_owned.new.self c.in-Ok-Some.field-0 c.in-Ok-Some.report
    c.in-Ok-Some.field-0-is c.in-Ok-Some.ensures).fewer

pub messages-preserved : goal.messages-preserved
messages-preserved g c =
    let e = reading_of g.E.End.core g.E.End.with_core g.E.Receiver.answer g.E.Receiver.after g.E.Receiver.is_last in
    let read = report_read e g.E.Receiver.seen c.messages.end c.next_owned.new.self c.in-Ok-Some.field-0
    c.in-Ok-Some.report c.in-Ok-Some.field-0-is c.in-Ok-Some.ensures in
    let sound = sym c.has_failed.ensures ∙ c.if-has_failed.false in
    record {
      kept = pushed_kept c.args.reports.now.items c.messages.reports.items c.reserve.new.self.items
          c.push_reserved.new.self.items c.in-Ok-Some.report c.messages.invariant.kept c.reserve.ensures.items
          c.push_reserved.ensures.items;
      some = on_pushed e g.E.Receiver.seen c.args.end.now c.messages.end c.next_owned.new.self c.args.reports.now.items
          c.messages.reports.items c.reserve.new.self.items c.push_reserved.new.self.items c.in-Ok-Some.report
          c.messages.invariant.some read sound c.messages.invariant.kept c.reserve.ensures.items
          c.push_reserved.ensures.items;
      sound = sound;
    }

pub returns-then-is_err-clause-reads : goal.returns-then-is_err-clause-reads
returns-then-is_err-clause-reads g c =
    let e = reading_of g.E.End.core g.E.End.with_core g.E.Receiver.answer g.E.Receiver.after g.E.Receiver.is_last in
    waiting_then e g.met.E.End.laws g.E.Receiver.seen c.args.end.now c.messages.end c.read_without_room.new.end
    c.args.reports.now.items c.messages.reports.items c.reserve.new.self.items c.read_without_room.result
    c.messages.invariant.some c.read_without_room.ensures c.reserve.ensures.items
