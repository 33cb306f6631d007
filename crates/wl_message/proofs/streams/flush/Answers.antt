use Rattle.std.proofs.Common.{◌≡◌, ◌⊎◌, ℕ, [], take, drop, ap, sym, subst, ◌∙◌, arith}
use Rattle.std.proofs.KnownBytes.{Appends-kept}
use Rattle.wl_message.specs.Outgoing.{Outgoing, MayGo, waiting_bytes, after_taking}
use Rattle.wl_message.specs.Streams.{NextHasTokens}
use Rattle.wl_message.proofs.FlushedParts.{after_none, appends_nothing, may_first, may_more}
use Rattle.wl_message.proofs.FlushedParts.{after_more, waiting_after, appends_more, appends_none}
use Rattle.wl_message.proofs.FlushedParts.{take_of_front, failed, needs}
use Rattle.wl_message.proofs.streams.flush.Goals as goal

pub parts-init : goal.parts-init
parts-init g c = record {
  may = c.tokenless_len-total.ensures.may;
  stops = c.tokenless_len-total.ensures.stops;
  within = omega arith;
  gone = after_none c.args.outbox.now;
  written = appends_nothing (g.W.Write.contents c.args.writer.now);
}

pub skip-requires : goal.skip-requires
skip-requires g c =
    let i = c.parts.invariant in
    subst (λ (o : Outgoing). MayGo o c.in-Ok.n 0 c.in-Ok.n) (sym i.gone)
    (may_more c.args.outbox.now c.tokenless_len-total.result c.parts.written c.in-Ok.n i.may
    (omega (arith, c.in-Ok.ensures.bound, c.part.ensures.most, c.parts-test.true)))

pub parts-preserved : goal.parts-preserved
parts-preserved g c =
    let o : Outgoing = c.args.outbox.now in
    let w : ℕ = c.parts.written in
    let n : ℕ = c.in-Ok.n in
    let i = c.parts.invariant in
    let first = may_first o c.tokenless_len-total.result w i.may i.within in
    let waits : waiting_bytes c.parts.outbox ≡ drop w (waiting_bytes o) =
    ap (λ (p : Outgoing). waiting_bytes p) i.gone ∙ waiting_after o w first in
    let front : take n c.part.result.now ≡ take n (drop w (waiting_bytes o)) =
    take_of_front n c.part.result.now (waiting_bytes c.parts.outbox) c.part.ensures.front c.in-Ok.ensures.bound
    ∙ ap (take n) waits in
    record {
      may = i.may;
      stops = i.stops;
      within = omega (arith, c.in-Ok.ensures.bound, c.part.ensures.most, c.parts-test.true);
      gone = c.skip.ensures ∙ ap (λ (p : Outgoing). after_taking p n) i.gone ∙ after_more o w n first;
      written = appends_more _ _ _ (waiting_bytes o) w n i.written (rw front at c.in-Ok.ensures.bytes);
    }

pub returns-in-Ok-eq0 : goal.returns-in-Ok-eq0
returns-in-Ok-eq0 g c =
    let i = c.parts.invariant in
    failed c.args.outbox.now _ c.tokenless_len-total.result c.parts.written _ _ i.may (omega (arith, c.parts-test.true))
    (i.gone, appends_none _ _ _ _ i.written (rw c.in-Ok-eq0.field-0-test at c.in-Ok-eq0.ensures.bytes))

pub returns-in-Err : goal.returns-in-Err
returns-in-Err g c =
    let i = c.parts.invariant in
    failed c.args.outbox.now _ c.tokenless_len-total.result c.parts.written _ _ i.may (omega (arith, c.parts-test.true))
    (i.gone, Appends-kept _ _ _ _ i.written c.in-Err.ensures.bytes)

pub returns-else-is_empty : goal.returns-else-is_empty
returns-else-is_empty g c =
    let o : Outgoing = c.args.outbox.now in
    let i = c.parts.invariant in
    let all : c.tokenless_len-total.result ≡ c.parts.written = omega (arith, i.within, c.parts-test.false) in
    let rest = subst (λ (n : ℕ). (waiting_bytes (after_taking o n) ≡ []) ⊎ NextHasTokens (after_taking o n)) all i.stops
    in
    needs o _ c.parts.written c.parts.outbox _ (may_first o c.tokenless_len-total.result c.parts.written i.may i.within)
    (i.gone, i.written)
    (λ z. cc (c.if-is_empty.ensures.bytes.1 z))
    (subst (λ (p : Outgoing). (waiting_bytes p ≡ []) ⊎ NextHasTokens p) (sym i.gone) rest)
