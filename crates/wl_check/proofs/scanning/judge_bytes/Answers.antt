use Rattle.std.proofs.Common.{◌≡◌, ◌-◌, ◌≤◌, ◌++◌, [], List, ℕ, length, drop, take, sym, ap, ◌∙◌, subst, arith}
use Rattle.std.proofs.Math.Logic.{∥∥₁_map}
use Rattle.std.proofs.lemmas.List.{drop_all, nil_from_length}
use Rattle.wl_check.specs.SessionState.{AllJudged, CutFollows}
use Rattle.wl_check.proofs.SessionByMessage.{rest_is}
use Rattle.wl_check.proofs.scanning.judge_bytes.Goals as goal

-- if none waited, the bytes from the place on are left
left_is : (none left bytes : List ℕ) (place : ℕ) → place ≤ length bytes → none ≡ []
    → left ≡ none ++ take (length bytes - place) (drop place bytes) → left ≡ drop place bytes
left_is none left bytes place within empty is =
    is ∙ ap (λ (l : List ℕ). l ++ take (length bytes - place) (drop place bytes)) empty ∙ rest_is bytes place within

pub judge_all-requires-clause-follows : goal.judge_all-requires-clause-follows
judge_all-requires-clause-follows g c =
    let len = c.len.ensures in
    let zero = c.if-len-eq0.true in
    let none = nil_from_length c.args.waiting.now (omega (arith, len, zero)) in
    ∥∥₁_map c.requires.follows (λ x. (
      x.0,
      subst (CutFollows c.args.protocol.now.limit.bytes c.args.protocol.now.tables.now x.0 c.args.state.now
          c.args.piece.now.direction c.args.tokens)
          (ap (λ (l : List ℕ). l ++ c.args.piece.now.bytes.now) none) x.1,
    ))

pub returns-in_ok-append-clause-judged : goal.returns-in_ok-append-clause-judged
returns-in_ok-append-clause-judged g c s h =
    let len = c.len.ensures in
    let zero = c.if-len-eq0.true in
    let none = nil_from_length c.args.waiting.now (omega (arith, len, zero)) in
    let left = left_is c.args.waiting.now _ c.args.piece.now.bytes.now c.in_ok-place.place
    c.in_ok-place.ensures.place none
    c.in_ok-append.ensures.ok in
    subst (AllJudged c.args.protocol.now.limit.bytes c.args.protocol.now.tables.now s c.judge_all.new.self
    c.args.piece.now.direction) (sym left)
    (c.in_ok-place.ensures.judged s (subst (CutFollows c.args.protocol.now.limit.bytes c.args.protocol.now.tables.now s
    c.args.state.now
    c.args.piece.now.direction c.args.tokens) (ap (λ (l : List ℕ). l ++ c.args.piece.now.bytes.now) none) h))

pub returns-in_ok-append-clause-lines : goal.returns-in_ok-append-clause-lines
returns-in_ok-append-clause-lines g c s h =
    let len = c.len.ensures in
    let zero = c.if-len-eq0.true in
    let none = nil_from_length c.args.waiting.now (omega (arith, len, zero)) in
    c.in_ok-place.ensures.lines s (subst (CutFollows c.args.protocol.now.limit.bytes c.args.protocol.now.tables.now s
    c.args.state.now
    c.args.piece.now.direction c.args.tokens) (ap (λ (l : List ℕ). l ++ c.args.piece.now.bytes.now) none) h)

pub returns-else-place-piece-clause-judged : goal.returns-else-place-piece-clause-judged
returns-else-place-piece-clause-judged g c s h =
    let len = c.len.ensures in
    let zero = c.if-len-eq0.true in
    let past = c.if-place-piece.false in
    let none = nil_from_length c.args.waiting.now (omega (arith, len, zero)) in
    let left = none ∙ sym (drop_all c.in_ok-place.place c.args.piece.now.bytes.now (omega (arith, past))) in
    subst (AllJudged c.args.protocol.now.limit.bytes c.args.protocol.now.tables.now s c.judge_all.new.self
    c.args.piece.now.direction) (sym left)
    (c.in_ok-place.ensures.judged s (subst (CutFollows c.args.protocol.now.limit.bytes c.args.protocol.now.tables.now s
    c.args.state.now
    c.args.piece.now.direction c.args.tokens) (ap (λ (l : List ℕ). l ++ c.args.piece.now.bytes.now) none) h))

pub returns-else-place-piece-clause-lines : goal.returns-else-place-piece-clause-lines
returns-else-place-piece-clause-lines g c s h =
    let len = c.len.ensures in
    let zero = c.if-len-eq0.true in
    let none = nil_from_length c.args.waiting.now (omega (arith, len, zero)) in
    c.in_ok-place.ensures.lines s (subst (CutFollows c.args.protocol.now.limit.bytes c.args.protocol.now.tables.now s
    c.args.state.now
    c.args.piece.now.direction c.args.tokens) (ap (λ (l : List ℕ). l ++ c.args.piece.now.bytes.now) none) h)

pub judge_all-requires-2-clause-follows : goal.judge_all-requires-2-clause-follows
judge_all-requires-2-clause-follows g c =
    let all = c.as_slice.ensures ∙ c.in_ok-append-2.ensures.ok in
    ∥∥₁_map c.requires.follows (λ x. (
      x.0,
      subst (CutFollows c.args.protocol.now.limit.bytes c.args.protocol.now.tables.now x.0 c.args.state.now
          c.args.piece.now.direction c.args.tokens)
          (sym all) x.1,
    ))

pub returns-clause-judged : goal.returns-clause-judged
returns-clause-judged g c s h =
    let same = c.as_slice.ensures in
    let all = same ∙ c.in_ok-append-2.ensures.ok in
    subst (AllJudged c.args.protocol.now.limit.bytes c.args.protocol.now.tables.now s c.judge_all-2.new.self
    c.args.piece.now.direction)
    (ap (drop c.in_ok-place-2.place) same ∙ sym c.keep_from.ensures)
    (c.in_ok-place-2.ensures.judged s (subst (CutFollows c.args.protocol.now.limit.bytes c.args.protocol.now.tables.now s
    c.args.state.now c.args.piece.now.direction c.args.tokens) (sym all) h))

pub returns-clause-lines : goal.returns-clause-lines
returns-clause-lines g c s h =
    let all = c.as_slice.ensures ∙ c.in_ok-append-2.ensures.ok in
    c.in_ok-place-2.ensures.lines s (subst (CutFollows c.args.protocol.now.limit.bytes c.args.protocol.now.tables.now s
    c.args.state.now c.args.piece.now.direction c.args.tokens) (sym all) h)
