use Rattle.std.proofs.Common.{◌≡◌, ◌+◌, length, map, take, sym, ap, subst, refl, ◌∙◌, arith, add-one}
use Rattle.std.specs.Prelude.{List, ℕ}
use Rattle.std.specs.declared.option.Option.TheVariants.{None}
use Rattle.wl_message.specs.InStep.{part, part_bytes, part_tokens}
use Rattle.wl_connection.specs.Core.{no_room}
use Rattle.wl_connection.specs.Reads.{reading_of, with_arrivals, appended, ReadsOn, ReadsAll}
use Rattle.wl_connection.proofs.Appended.{kept_same, kept_again, behind_again}
use Rattle.wl_connection.proofs.Pieces.{parts_len, part_at, few_fit, none_fits_end}
use Rattle.wl_connection.proofs.ReadsGoOn.{arrived_nothing, on_first, on_again, until_again}
use Rattle.wl_connection.proofs.ReadsGoOn.{on_to_none, ends_between, ends_within, reads_piece}
use Rattle.wl_connection.proofs.ReadsGoOn.{room_is, none_before, read_to_here}
use Rattle.wl_connection.proofs.streams.read_all.Goals as goal

pub loop-taken-init : goal.loop-taken-init
loop-taken-init g c =
    let e = reading_of g.E.End.core g.E.End.with_core g.E.Receiver.answer g.E.Receiver.after g.E.Receiver.is_last in
    let start = c.args.end.now in
    let before = c.args.reports.now.items in
    record {
      kept = kept_same before;
      some = subst (λ s. ReadsOn e s (appended g.E.Receiver.seen before before) start)
          (sym (arrived_nothing e g.met.E.End.laws start)) (on_first e g.E.Receiver.seen start before);
      before = none_before e start (map part c.args.pieces.now);
      sound = sym c.has_failed.ensures ∙ c.if-has_failed.false;
    }

pub returns-then-has_failed-clause-reports : goal.returns-then-has_failed-clause-reports
returns-then-has_failed-clause-reports g c = kept_same c.args.reports.now.items

pub returns-in-Err-clause-reports : goal.returns-in-Err-clause-reports
returns-in-Err-clause-reports g c = kept_again c.args.reports.now.items c.loop-taken.reports.items
    c.read_waiting.new.reports.items c.loop-taken.invariant.kept c.in-Err.ensures.reports

pub returns-in-Err-clause-reads : goal.returns-in-Err-clause-reads
returns-in-Err-clause-reads g c sound =
    let e = reading_of g.E.End.core g.E.End.with_core g.E.Receiver.answer g.E.Receiver.after g.E.Receiver.is_last in
    let pieces = map part c.args.pieces.now in
    let i = c.loop-taken.taken in
    let first = with_arrivals e c.args.end.now (part_bytes (take i pieces)) (part_tokens (take i pieces)) in
    let end = c.read_waiting.new.end in
    let before = c.args.reports.now.items in
    let after = c.read_waiting.new.reports.items in
    ends_between e c.args.end.now end pieces i (appended g.E.Receiver.seen before after) c.ended-in-Err.result
    c.in-Err.stop
    (omega (arith, parts_len c.args.pieces.now, c.loop-taken-test.true)) c.ended-in-Err.ensures
    (until_again e g.met.E.End.laws g.E.Receiver.seen first c.loop-taken.end end before c.loop-taken.reports.items after
    c.in-Err.stop
    c.loop-taken.invariant.some c.loop-taken.invariant.kept c.in-Err.ensures.reports c.in-Err.ensures.reads.0)
    (λ s f. absurd (cc (c.in-Err.ensures.reads.1 s, f))) c.loop-taken.invariant.before

pub returns-then-in_room-piece-clause-reports : goal.returns-then-in_room-piece-clause-reports
returns-then-in_room-piece-clause-reports g c = kept_again c.args.reports.now.items c.loop-taken.reports.items
    c.read_waiting.new.reports.items c.loop-taken.invariant.kept c.in_default.ensures.reports

pub returns-then-in_room-piece-clause-reads : goal.returns-then-in_room-piece-clause-reads
returns-then-in_room-piece-clause-reads g c sound =
    let e = reading_of g.E.End.core g.E.End.with_core g.E.Receiver.answer g.E.Receiver.after g.E.Receiver.is_last in
    let pieces = map part c.args.pieces.now in
    let i = c.loop-taken.taken in
    let first = with_arrivals e c.args.end.now (part_bytes (take i pieces)) (part_tokens (take i pieces)) in
    let end = c.read_waiting.new.end in
    let before = c.args.reports.now.items in
    let after = c.read_waiting.new.reports.items in
    let nothing = c.in_default.ensures.reads.1 in
    let room = room_is (g.E.End.core end) c.in_room.result nothing.sound c.in_room.ensures in
    ends_between e c.args.end.now end pieces i (appended g.E.Receiver.seen before after)
    c.ended-then-in_room-piece.result None
    (omega (arith, parts_len c.args.pieces.now, c.loop-taken-test.true)) c.ended-then-in_room-piece.ensures
    (on_to_none e g.met.E.End.laws first end _ (on_again e g.E.Receiver.seen first c.loop-taken.end end before
    c.loop-taken.reports.items after
    c.loop-taken.invariant.some c.loop-taken.invariant.kept c.in_default.ensures.reports c.in_default.ensures.reads.0)
    nothing)
    (λ s f. few_fit _ c.in_room.result.tokens c.args.pieces.now i _ c.loop-taken-test.true c.if-in_room-piece.true room)
    c.loop-taken.invariant.before

pub returns-in-Err-read_piece-clause-reports : goal.returns-in-Err-read_piece-clause-reports
returns-in-Err-read_piece-clause-reports g c =
    let kept = kept_again c.args.reports.now.items c.loop-taken.reports.items c.read_waiting.new.reports.items
    c.loop-taken.invariant.kept c.in_default.ensures.reports in
    kept_again c.args.reports.now.items c.read_waiting.new.reports.items c.read_piece.new.reports.items kept
    c.in-Err-read_piece.ensures.reports

pub returns-in-Err-read_piece-clause-reads : goal.returns-in-Err-read_piece-clause-reads
returns-in-Err-read_piece-clause-reads g c sound =
    let e = reading_of g.E.End.core g.E.End.with_core g.E.Receiver.answer g.E.Receiver.after g.E.Receiver.is_last in
    let seen = g.E.Receiver.seen in
    let pieces = map part c.args.pieces.now in
    let i = c.loop-taken.taken in
    let first = with_arrivals e c.args.end.now (part_bytes (take i pieces)) (part_tokens (take i pieces)) in
    let middle = c.read_waiting.new.end in
    let end = c.read_piece.new.end in
    let before = c.args.reports.now.items in
    let mid = c.read_waiting.new.reports.items in
    let after = c.read_piece.new.reports.items in
    let ended = c.in-Err-read_piece.ended in
    let read = c.in-Err-read_piece.ensures.reads in
    let kept = kept_again before c.loop-taken.reports.items mid c.loop-taken.invariant.kept c.in_default.ensures.reports
    in
    let nothing = c.in_default.ensures.reads.1 in
    let on = on_again e seen first c.loop-taken.end middle before c.loop-taken.reports.items mid
    c.loop-taken.invariant.some c.loop-taken.invariant.kept c.in_default.ensures.reports c.in_default.ensures.reads.0 in
    subst (λ (rs : List _). ReadsAll e c.args.end.now pieces rs
    (record { pieces = i; part = ended.part; stop = ended.stop }) end)
    (sym (behind_again seen before mid after kept c.in-Err-read_piece.ensures.reports))
    (ends_within e g.met.E.End.laws c.args.end.now middle end pieces i _ _ (appended seen before mid)
    (appended seen mid after) ended.part ended.stop
    (part_at c.args.pieces.now i _ c.loop-taken-test.true)
    on read.0 read.1 read.2 read.3
    (read_to_here e g.met.E.End.laws c.args.end.now middle pieces i _ _ refl c.loop-taken.invariant.before on nothing))

pub loop-taken-preserved : goal.loop-taken-preserved
loop-taken-preserved g c =
    let e = reading_of g.E.End.core g.E.End.with_core g.E.Receiver.answer g.E.Receiver.after g.E.Receiver.is_last in
    let seen = g.E.Receiver.seen in
    let pieces = map part c.args.pieces.now in
    let i = c.loop-taken.taken in
    let first = with_arrivals e c.args.end.now (part_bytes (take i pieces)) (part_tokens (take i pieces)) in
    let middle = c.read_waiting.new.end in
    let end = c.read_piece.new.end in
    let before = c.args.reports.now.items in
    let mid = c.read_waiting.new.reports.items in
    let after = c.read_piece.new.reports.items in
    let kept = kept_again before c.loop-taken.reports.items mid c.loop-taken.invariant.kept c.in_default.ensures.reports
    in
    let nothing = c.in_default.ensures.reads.1 in
    let on = on_again e seen first c.loop-taken.end middle before c.loop-taken.reports.items mid
    c.loop-taken.invariant.some c.loop-taken.invariant.kept c.in_default.ensures.reports c.in_default.ensures.reads.0 in
    record {
      kept = kept_again before mid after kept c.in_default-read_piece.ensures.reports;
      some = subst (λ (rs : List _). ReadsOn e (with_arrivals e c.args.end.now (part_bytes (take (i + 1) pieces))
          (part_tokens (take (i + 1) pieces))) rs end)
          (sym (behind_again seen before mid after kept c.in_default-read_piece.ensures.reports))
          (reads_piece e g.met.E.End.laws c.args.end.now middle end pieces i (i + 1) _ _ (appended seen before mid)
          (appended seen mid after)
          (part_at c.args.pieces.now i _ c.loop-taken-test.true) (add-one i)
          on c.in_default-read_piece.ensures.reads.0);
      before = read_to_here e g.met.E.End.laws c.args.end.now middle pieces i (i + 1) _ (add-one i)
          c.loop-taken.invariant.before on nothing;
      sound = c.in_default-read_piece.ensures.reads.1;
    }

pub returns-in-Err-read_waiting-clause-reports : goal.returns-in-Err-read_waiting-clause-reports
returns-in-Err-read_waiting-clause-reports g c = kept_again c.args.reports.now.items c.loop-taken.reports.items
    c.read_waiting-2.new.reports.items c.loop-taken.invariant.kept c.in-Err-read_waiting.ensures.reports

pub returns-in-Err-read_waiting-clause-reads : goal.returns-in-Err-read_waiting-clause-reads
returns-in-Err-read_waiting-clause-reads g c sound =
    let e = reading_of g.E.End.core g.E.End.with_core g.E.Receiver.answer g.E.Receiver.after g.E.Receiver.is_last in
    let pieces = map part c.args.pieces.now in
    let i = c.loop-taken.taken in
    let first = with_arrivals e c.args.end.now (part_bytes (take i pieces)) (part_tokens (take i pieces)) in
    let end = c.read_waiting-2.new.end in
    let before = c.args.reports.now.items in
    let after = c.read_waiting-2.new.reports.items in
    let stop = c.in-Err-read_waiting.stop in
    let count : length c.args.pieces.now ≡ i = omega (arith, c.loop-taken-test.false, c.loop-taken.auto.taken-end) in
    ends_between e c.args.end.now end pieces i (appended g.E.Receiver.seen before after)
    c.ended-in-Err-read_waiting.result stop
    (omega (arith, parts_len c.args.pieces.now, count))
    (c.ended-in-Err-read_waiting.ensures ∙ ap (λ (n : ℕ). record { pieces = n; part = no_room; stop = stop }) count)
    (until_again e g.met.E.End.laws g.E.Receiver.seen first c.loop-taken.end end before c.loop-taken.reports.items after
    stop
    c.loop-taken.invariant.some c.loop-taken.invariant.kept c.in-Err-read_waiting.ensures.reports
    c.in-Err-read_waiting.ensures.reads.0)
    (λ s f. absurd (cc (c.in-Err-read_waiting.ensures.reads.1 s, f))) c.loop-taken.invariant.before

pub returns-clause-reports : goal.returns-clause-reports
returns-clause-reports g c = kept_again c.args.reports.now.items c.loop-taken.reports.items
    c.read_waiting-2.new.reports.items c.loop-taken.invariant.kept c.in_default-read_waiting.ensures.reports

pub returns-clause-reads : goal.returns-clause-reads
returns-clause-reads g c sound =
    let e = reading_of g.E.End.core g.E.End.with_core g.E.Receiver.answer g.E.Receiver.after g.E.Receiver.is_last in
    let pieces = map part c.args.pieces.now in
    let i = c.loop-taken.taken in
    let first = with_arrivals e c.args.end.now (part_bytes (take i pieces)) (part_tokens (take i pieces)) in
    let end = c.read_waiting-2.new.end in
    let before = c.args.reports.now.items in
    let after = c.read_waiting-2.new.reports.items in
    let read = c.in_default-read_waiting.ensures in
    let count : length c.args.pieces.now ≡ i = omega (arith, c.loop-taken-test.false, c.loop-taken.auto.taken-end) in
    ends_between e c.args.end.now end pieces i (appended g.E.Receiver.seen before after) c.ended-2.result None
    (omega (arith, parts_len c.args.pieces.now, count))
    (c.ended-2.ensures ∙ ap (λ (n : ℕ). record { pieces = n; part = no_room; stop = None }) count)
    (on_to_none e g.met.E.End.laws first end _ (on_again e g.E.Receiver.seen first c.loop-taken.end end before
    c.loop-taken.reports.items after
    c.loop-taken.invariant.some c.loop-taken.invariant.kept read.reports read.reads.0) read.reads.1)
    (λ s f. none_fits_end _ pieces i (omega (arith, parts_len c.args.pieces.now, count)))
    c.loop-taken.invariant.before
