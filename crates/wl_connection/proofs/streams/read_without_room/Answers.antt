use Rattle.std.proofs.Common.{[], sym, subst}
use Rattle.wl_connection.specs.Reads.{reading_of, ReadsSome, nothing, HasReport, WaitingIsRead}
use Rattle.wl_connection.proofs.ReadsGoOn.{nothing_read}
use Rattle.wl_connection.proofs.streams.read_without_room.Goals.{in-Err, in-Ok}
use Rattle.wl_connection.proofs.streams.read_without_room.Goals as goal

pub returns-then-has_report : goal.returns-then-has_report
returns-then-has_report g c =
    let e = reading_of g.E.End.core g.E.End.with_core g.E.Receiver.answer g.E.Receiver.after g.E.Receiver.is_last in
    let same = c.has_report.ensures.same in (
      (
        subst (ReadsSome e c.args.end.now []) (sym same) nothing,
        subst (HasReport e) (sym same)
            (c.has_report.ensures.yes c.if-has_report.true),
      ),
      λ n. absurd (cc n),
    )

pub returns : goal.returns
returns g c =
    let e = reading_of g.E.End.core g.E.End.with_core g.E.Receiver.answer g.E.Receiver.after g.E.Receiver.is_last in
    let start = c.has_report.new.self in
    let same = c.has_report.ensures.same in
    let end = c.next_owned.new.self in
    subst (λ s. WaitingIsRead e s [] c.match-next_owned.result end) same (elim c.match-next_owned.branch [
      | in-Err w ↦ subst (λ r. WaitingIsRead e start [] r end) (sym w.result-is) (w.in-Err.ensures, λ n. absurd (cc n))
      | in-Ok w ↦ subst (λ r. WaitingIsRead e start [] r end) (sym w.result-is)
          (nothing_read e g.E.Receiver.seen start end w.in-Ok.field-0
          (λ h. c.has_report.ensures.no c.if-has_report.false (subst (HasReport e) same h)) w.in-Ok.ensures)
    ])
