use Rattle.std.proofs.Common.{◌≡◌, ℕ, Some, None, List, drop, sym, ap, ◌∙◌, arith, subst}
use Rattle.std.proofs.Math.Logic.{∥∥₁_elim, ∥∥₁_map}
use Rattle.std.specs.Coded.{le_prop}
use Rattle.std.proofs.lemmas.List.{length-drop, drop-drop}
use Rattle.wl_message.specs.Cut.{front}
use Rattle.wl_check.specs.SessionState.{Comes, CutFollows}
use Rattle.wl_check.specs.Seen.{size_of}
use Rattle.wl_check.proofs.SessionByMessage.{all_judged, closed, comes_next, follows_next, frame_of, in_front, rest_is}
use Rattle.wl_check.proofs.LongerRecording.{size_least}
use Rattle.wl_check.proofs.PrintedSoFar.{prints_both}
use Rattle.wl_check.proofs.session_state.SessionState.judge_all.Goals as goal

pub returns-in_default-clause-judged : goal.returns-in_default-clause-judged
returns-in_default-clause-judged g c s h =
    let b = c.args.bytes.now in
    let p = c.messages.place in
    let none : None ≡ size_of (front c.args.protocol.now.limit.bytes (drop p b)) =
    sym c.in_default.is ∙ c.size_in_front.ensures.front
    ∙ ap (λ (r : List ℕ). size_of (front c.args.protocol.now.limit.bytes r)) (rest_is b p c.messages.invariant.within) in
    all_judged c.args.protocol.now.limit.bytes c.args.protocol.now.tables.now s c.messages.self c.args.direction
    c.args.tokens (drop p b)
    (c.messages.invariant.follows s h) none

pub judge_next-requires-clause-comes : goal.judge_next-requires-clause-comes
judge_next-requires-clause-comes g c =
    let b = c.args.bytes.now in
    let p = c.messages.place in
    let is = rest_is b p c.messages.invariant.within in
    let some : Some c.in-Some.size ≡ size_of (front c.args.protocol.now.limit.bytes (drop p b)) =
    sym c.in-Some.is ∙ c.size_in_front.ensures.front ∙ ap (λ (r : List ℕ). size_of (front c.args.protocol.now.limit.bytes r))
    is in
    ∥∥₁_map c.requires.follows (λ x. (
      x.0,
      subst (λ (r : List ℕ). Comes c.args.protocol.now.limit.bytes c.args.protocol.now.tables.now x.0 c.messages.self
          (frame_of c.args.direction c.tally.result.end c.in-Some.size c.args.tokens) r) (sym is)
          (comes_next c.args.protocol.now.limit.bytes c.args.protocol.now.tables.now x.0 c.messages.self c.args.direction
          c.args.tokens
          c.in-Some.size c.tally.result.end (drop p b)
          (c.messages.invariant.follows x.0 x.1) some (ap (λ t. t.end) c.tally.ensures)),
    ))

pub returns-then-not-is_open-clause-judged : goal.returns-then-not-is_open-clause-judged
returns-then-not-is_open-clause-judged g c s h =
    let b = c.args.bytes.now in
    let p = c.messages.place in
    let is = rest_is b p c.messages.invariant.within in
    let some : Some c.in-Some.size ≡ size_of (front c.args.protocol.now.limit.bytes (drop p b)) =
    sym c.in-Some.is ∙ c.size_in_front.ensures.front ∙ ap (λ (r : List ℕ). size_of (front c.args.protocol.now.limit.bytes r))
    is in
    let comes = subst (λ (r : List ℕ). Comes c.args.protocol.now.limit.bytes c.args.protocol.now.tables.now s c.messages.self
    (frame_of c.args.direction c.tally.result.end c.in-Some.size c.args.tokens) r) (sym is)
    (comes_next c.args.protocol.now.limit.bytes c.args.protocol.now.tables.now s c.messages.self c.args.direction
    c.args.tokens
    c.in-Some.size c.tally.result.end (drop p b)
    (c.messages.invariant.follows s h) some (ap (λ t. t.end) c.tally.ensures)) in
    closed c.args.protocol.now.limit.bytes c.args.protocol.now.tables.now s c.judge_next.new.self c.args.direction _
    (c.in_ok-judge_next.ensures.judged s comes) (sym c.is_open.ensures ∙ c.if-not-is_open.true)

pub returns-then-not-is_open-clause-lines : goal.returns-then-not-is_open-clause-lines
returns-then-not-is_open-clause-lines g c s h =
    let b = c.args.bytes.now in
    let p = c.messages.place in
    let is = rest_is b p c.messages.invariant.within in
    let some : Some c.in-Some.size ≡ size_of (front c.args.protocol.now.limit.bytes (drop p b)) =
    sym c.in-Some.is ∙ c.size_in_front.ensures.front ∙ ap (λ (r : List ℕ). size_of (front c.args.protocol.now.limit.bytes r))
    is in
    let comes = subst (λ (r : List ℕ). Comes c.args.protocol.now.limit.bytes c.args.protocol.now.tables.now s c.messages.self
    (frame_of c.args.direction c.tally.result.end c.in-Some.size c.args.tokens) r) (sym is)
    (comes_next c.args.protocol.now.limit.bytes c.args.protocol.now.tables.now s c.messages.self c.args.direction
    c.args.tokens
    c.in-Some.size c.tally.result.end (drop p b)
    (c.messages.invariant.follows s h) some (ap (λ t. t.end) c.tally.ensures)) in
    prints_both c.args.protocol.now.tables.now s c.args.journal.now.sink.output c.messages.journal.sink.output
    c.args.self.now.count
    c.messages.self.count c.judge_next.new.self.count c.args.journal.now.sink.text.items
    c.messages.journal.sink.text.items
    c.judge_next.new.journal.sink.text.items c.messages.invariant.output (c.messages.invariant.lines s h)
    (c.in_ok-judge_next.ensures.lines s comes)

pub messages-smaller : goal.messages-smaller
messages-smaller g c =
    let b = c.args.bytes.now in
    let p = c.messages.place in
    let is = rest_is b p c.messages.invariant.within in
    let some : Some c.in-Some.size ≡ size_of (front c.args.protocol.now.limit.bytes (drop p b)) =
    sym c.in-Some.is ∙ c.size_in_front.ensures.front ∙ ap (λ (r : List ℕ). size_of (front c.args.protocol.now.limit.bytes r))
    is in
    let on = c.in_ok-judge_next.ensures.on (sym c.is_open.ensures ∙ c.if-not-is_open.false) in
    let big = size_least c.args.protocol.now.limit.bytes c.in-Some.size on.size in
    let l = length-drop p b in
    ∥∥₁_elim c.requires.follows le_prop (λ x.
    (let there = (in_front c.args.protocol.now.limit.bytes c.args.protocol.now.tables.now x.0 c.messages.self c.args.direction
    c.args.tokens c.in-Some.size (drop p b) (c.messages.invariant.follows x.0 x.1) some).whole on.size in
    omega (arith, big, there, l)))

pub messages-preserved : goal.messages-preserved
messages-preserved g c =
    let b = c.args.bytes.now in
    let p = c.messages.place in
    let is = rest_is b p c.messages.invariant.within in
    let some : Some c.in-Some.size ≡ size_of (front c.args.protocol.now.limit.bytes (drop p b)) =
    sym c.in-Some.is ∙ c.size_in_front.ensures.front ∙ ap (λ (r : List ℕ). size_of (front c.args.protocol.now.limit.bytes r))
    is in
    let going = sym c.is_open.ensures ∙ c.if-not-is_open.false in
    let on = c.in_ok-judge_next.ensures.on going in
    let big = size_least c.args.protocol.now.limit.bytes c.in-Some.size on.size in
    let l = length-drop p b in
    let here = ap (λ t. t.end) c.tally.ensures in
    record {
      within = ∥∥₁_elim c.requires.follows le_prop (λ x.
          (let there = (in_front c.args.protocol.now.limit.bytes c.args.protocol.now.tables.now x.0 c.messages.self
          c.args.direction
          c.args.tokens c.in-Some.size (drop p b) (c.messages.invariant.follows x.0 x.1) some).whole on.size in
          omega (arith, big, there, l)));
      follows = λ s h.
          (let f = c.messages.invariant.follows s h in
          let comes = subst (λ (r : List ℕ). Comes c.args.protocol.now.limit.bytes c.args.protocol.now.tables.now s
          c.messages.self
          (frame_of c.args.direction c.tally.result.end c.in-Some.size c.args.tokens) r) (sym is)
          (comes_next c.args.protocol.now.limit.bytes c.args.protocol.now.tables.now s c.messages.self c.args.direction
          c.args.tokens
          c.in-Some.size c.tally.result.end (drop p b) f some here) in
          subst (λ (r : List ℕ). CutFollows c.args.protocol.now.limit.bytes c.args.protocol.now.tables.now s
          c.judge_next.new.self
          c.args.direction c.args.tokens r) (drop-drop c.in-Some.size p b)
          (follows_next c.args.protocol.now.limit.bytes c.args.protocol.now.tables.now s c.messages.self c.judge_next.new.self
          c.args.direction c.args.tokens c.in-Some.size c.tally.result.end (drop p b) f some here on
          (c.in_ok-judge_next.ensures.judged s comes) going));
      lines = λ s h.
          (let comes = subst (λ (r : List ℕ). Comes c.args.protocol.now.limit.bytes c.args.protocol.now.tables.now s
          c.messages.self (frame_of c.args.direction c.tally.result.end c.in-Some.size c.args.tokens) r) (sym is)
          (comes_next c.args.protocol.now.limit.bytes c.args.protocol.now.tables.now s c.messages.self
          c.args.direction c.args.tokens c.in-Some.size c.tally.result.end (drop p b) (c.messages.invariant.follows s h)
          some here) in
          prints_both c.args.protocol.now.tables.now s c.args.journal.now.sink.output c.messages.journal.sink.output
          c.args.self.now.count
          c.messages.self.count c.judge_next.new.self.count c.args.journal.now.sink.text.items
          c.messages.journal.sink.text.items
          c.judge_next.new.journal.sink.text.items c.messages.invariant.output
          (c.messages.invariant.lines s h) (c.in_ok-judge_next.ensures.lines s comes));
      other = λ x e. c.in_ok-judge_next.ensures.other x e ∙ c.messages.invariant.other x e;
      output = c.judge_next.ensures.output ∙ c.messages.invariant.output;
      undone = c.judge_next.ensures.undone ∙ c.messages.invariant.undone;
    }
