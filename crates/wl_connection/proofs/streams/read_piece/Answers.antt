use Rattle.std.proofs.Common.{◌≡◌, ◌-◌, [], length, take, drop, sym, subst, refl, arith}
use Rattle.std.specs.Prelude.{List, ℕ}
use Rattle.std.proofs.lemmas.List.{take_all}
use Rattle.wl_connection.specs.Reads.{reading_of, with_arrivals, appended, ReadsUntil}
use Rattle.wl_connection.proofs.Appended.{kept_same, kept_again}
use Rattle.wl_connection.proofs.ReadsGoOn.{fed_tokens, fed_bytes, fed_first, fed_more, fed_open}
use Rattle.wl_connection.proofs.ReadsGoOn.{fed_some, fed_within, on_again, until_again, rest_is}
use Rattle.wl_connection.proofs.ReadsGoOn.{rest_len}
use Rattle.wl_connection.proofs.streams.read_piece.Goals as goal

pub rest-init : goal.rest-init
rest-init g c =
    let e = reading_of g.E.End.core g.E.End.with_core g.E.Receiver.answer g.E.Receiver.after g.E.Receiver.is_last in
    let start = c.args.end.now in
    let bytes = c.args.piece.bytes.now in
    let tokens = c.args.piece.tokens.now in
    let b = fed_bytes (g.E.End.core start) bytes tokens c.feed-part.result c.requires.open c.requires.room
    c.feed-part.ensures.fed in
    record {
      kept = kept_same c.args.reports.now.items;
      some = fed_first e g.E.Receiver.seen start c.feed-part.new.self bytes tokens c.feed-part.result
          c.args.reports.now.items c.requires.open c.requires.room c.feed-part.ensures.fed c.feed-part.ensures.state;
      sound = fed_open e g.met.E.End.laws start c.feed-part.new.self (take c.feed-part.result.bytes bytes)
          (take c.feed-part.result.tokens tokens) c.requires.open c.feed-part.ensures.state;
      within = omega arith;
      tokens = fed_tokens (g.E.End.core start) bytes tokens c.feed-part.result c.requires.open c.requires.room
          c.feed-part.ensures.fed;
    }

pub returns-in-Err-clause-reads : goal.returns-in-Err-clause-reads
returns-in-Err-clause-reads g c =
    let e = reading_of g.E.End.core g.E.End.with_core g.E.Receiver.answer g.E.Receiver.after g.E.Receiver.is_last in
    let bytes = take c.rest.part.bytes c.args.piece.bytes.now in
    let tokens = c.args.piece.tokens.now in
    let all : take c.rest.part.tokens tokens ≡ tokens =
    take_all c.rest.part.tokens tokens (omega (arith, c.rest.invariant.tokens)) in
    let reports = appended g.E.Receiver.seen c.args.reports.now.items c.read_waiting.new.reports.items in (
      subst (λ (t : List ℕ). ReadsUntil e (with_arrivals e c.args.end.now bytes t) reports c.in-Err.stop
          c.read_waiting.new.end) (sym all)
          (until_again e g.met.E.End.laws g.E.Receiver.seen
          (with_arrivals e c.args.end.now bytes tokens) c.rest.end c.read_waiting.new.end c.args.reports.now.items
          c.rest.reports.items c.read_waiting.new.reports.items c.in-Err.stop
          c.rest.invariant.some c.rest.invariant.kept c.in-Err.ensures.reports c.in-Err.ensures.reads.0),
      c.in-Err.ensures.reads.1,
      c.rest-test.true,
      c.rest.invariant.tokens,
      refl,
    )

pub rest-smaller : goal.rest-smaller
rest-smaller g c =
    let nothing = c.in_default.ensures.reads.1 in
    let more = fed_some (g.E.End.core c.read_waiting.new.end)
    (take (length c.args.piece.bytes.now - c.rest.part.bytes) (drop c.rest.part.bytes c.args.piece.bytes.now))
    c.feed.result nothing.sound nothing.short c.feed.ensures.holds
    (omega (arith, rest_len c.rest.part.bytes c.args.piece.bytes.now, c.rest-test.true)) c.feed.ensures.fed in
    let before = c.rest-test.true in
    omega arith

pub rest-preserved : goal.rest-preserved
rest-preserved g c =
    let e = reading_of g.E.End.core g.E.End.with_core g.E.Receiver.answer g.E.Receiver.after g.E.Receiver.is_last in
    let bytes = c.args.piece.bytes.now in
    let tokens = c.args.piece.tokens.now in
    let k = c.rest.part.bytes in
    let rest = take (length bytes - k) (drop k bytes) in
    let none = take c.feed.result.tokens [] in
    let middle = c.read_waiting.new.end in
    let sound = c.in_default.ensures.reads.1.sound in
    let within = fed_within (g.E.End.core middle) rest c.feed.result sound c.feed.ensures.fed in
    let len = rest_len k bytes in
    let known = c.rest.invariant.within in
    let read = on_again e g.E.Receiver.seen (with_arrivals e c.args.end.now (take k bytes) tokens) c.rest.end middle
    c.args.reports.now.items c.rest.reports.items c.read_waiting.new.reports.items
    c.rest.invariant.some c.rest.invariant.kept c.in_default.ensures.reports c.in_default.ensures.reads.0 in
    record {
      kept = kept_again c.args.reports.now.items c.rest.reports.items c.read_waiting.new.reports.items
          c.rest.invariant.kept c.in_default.ensures.reports;
      some = fed_more e g.met.E.End.laws c.args.end.now middle c.feed.new.self bytes tokens rest none k
          c.feed.result.bytes (appended g.E.Receiver.seen c.args.reports.now.items c.read_waiting.new.reports.items)
          read c.feed.ensures.state (rest_is k bytes) (take_all c.feed.result.tokens [] (omega arith));
      sound = fed_open e g.met.E.End.laws middle c.feed.new.self
          (take c.feed.result.bytes rest) none sound c.feed.ensures.state;
      within = omega arith;
      tokens = c.rest.invariant.tokens;
    }
