use Rattle.std.proofs.Common.{◌∷◌, ◌++◌, List, ℕ, [], sym, ap, subst, ◌∙◌, drop, arith}
use Rattle.std.proofs.Math.Logic.{∥∥₁_map}
use Rattle.wl_recording.specs.declared.piece.Direction.{Direction}
use Rattle.wl_check.specs.SessionState.{AllJudged, CutFollows}
use Rattle.wl_check.specs.Session.{session_of}
use Rattle.wl_check.proofs.SessionByPiece.{along_closed, along_piece, follows_piece}
use Rattle.wl_check.proofs.scanning.judge_waiting.Goals as goal

pub returns-then-not-is_open-clause-along : goal.returns-then-not-is_open-clause-along
returns-then-not-is_open-clause-along g c ps p h =
    let one = c.checked_add.ensures in
    let two = c.checked_add-2.ensures in
    let len = rw c.in-Some.is at one in
    let tokens = rw c.in-Some-checked_add.is at two in
    along_closed c.args.protocol.now.limit.bytes c.args.protocol.now.tables.now ps p c.args.state.now h.before _ h.along
    (sym c.is_open.ensures ∙ c.if-not-is_open.true)
    (len.1 ∙ (let a = h.len in let b = h.len_is in omega (arith, a, b)))
    (tokens.1 ∙ (let a = h.tokens in let b = h.tokens_are in let t = c.from.ensures in omega (arith, a, b, t)))

pub judge_all-requires-clause-follows : goal.judge_all-requires-clause-follows
judge_all-requires-clause-follows g c =
    let one = c.checked_add.ensures in
    let two = c.checked_add-2.ensures in
    let len = rw c.in-Some.is at one in
    let tokens = rw c.in-Some-checked_add.is at two in
    ∥∥₁_map c.requires.come (λ x. (
      session_of c.args.protocol.now.limit.bytes (x.0 ++ x.1 ∷ []),
      subst (λ (d : Direction). CutFollows c.args.protocol.now.limit.bytes c.args.protocol.now.tables.now
          (session_of c.args.protocol.now.limit.bytes (x.0 ++ x.1 ∷ [])) c.args.state.now d c.in-Some-checked_add.tokens
          c.as_slice-waiting.result.now) (sym x.2.direction_is)
          (follows_piece c.args.protocol.now.limit.bytes c.args.protocol.now.tables.now x.0 x.1 c.args.state.now x.2.before
          c.in-Some.len c.in-Some-checked_add.tokens c.as_slice-waiting.result.now
          x.2.along (sym c.is_open.ensures ∙ c.if-not-is_open.false)
          (len.1 ∙ (let a = x.2.len in let b = x.2.len_is in omega (arith, a, b)))
          (let is = len.1 in let less = len.0 in omega (arith, is, less))
          (tokens.1 ∙ (let a = x.2.tokens in let b = x.2.tokens_are in let t = c.from.ensures
          in omega (arith, a, b, t)))
          (c.as_slice-waiting.ensures ∙ x.2.bytes)),
    ))

pub returns-clause-along : goal.returns-clause-along
returns-clause-along g c ps p h =
    let one = c.checked_add.ensures in
    let two = c.checked_add-2.ensures in
    let len = rw c.in-Some.is at one in
    let tokens = rw c.in-Some-checked_add.is at two in
    let s = session_of c.args.protocol.now.limit.bytes (ps ++ p ∷ []) in
    let len_is = len.1 ∙ (let a = h.len in let b = h.len_is in omega (arith, a, b)) in
    let tokens_is = tokens.1 ∙ (let a = h.tokens in let b = h.tokens_are in let t = c.from.ensures
    in omega (arith, a, b, t)) in
    let follows = subst (λ (d : Direction). CutFollows c.args.protocol.now.limit.bytes c.args.protocol.now.tables.now s
    c.args.state.now d c.in-Some-checked_add.tokens c.as_slice-waiting.result.now) (sym h.direction_is)
    (follows_piece c.args.protocol.now.limit.bytes c.args.protocol.now.tables.now ps p c.args.state.now h.before c.in-Some.len
    c.in-Some-checked_add.tokens c.as_slice-waiting.result.now
    h.along (sym c.is_open.ensures ∙ c.if-not-is_open.false) len_is
    (let is = len.1 in let less = len.0 in omega (arith, is, less)) tokens_is (c.as_slice-waiting.ensures ∙ h.bytes))
    in
    let judged = subst (λ (d : Direction). AllJudged c.args.protocol.now.limit.bytes c.args.protocol.now.tables.now s
    c.judge_all.new.self d (drop c.in_ok-place.place c.as_slice-waiting.result.now)) h.direction_is
    (c.in_ok-place.ensures.judged s follows) in
    along_piece c.args.protocol.now.limit.bytes c.args.protocol.now.tables.now ps p c.args.state.now c.judge_all.new.self
    h.before _ (drop c.in_ok-place.place c.as_slice-waiting.result.now)
    h.along judged len_is tokens_is (c.remove_front-2.ensures
    ∙ ap (λ (b : List ℕ). drop c.in_ok-place.place b) (sym c.as_slice-waiting.ensures))

pub returns-clause-lines : goal.returns-clause-lines
returns-clause-lines g c ps p h =
    let one = c.checked_add.ensures in
    let two = c.checked_add-2.ensures in
    let len = rw c.in-Some.is at one in
    let tokens = rw c.in-Some-checked_add.is at two in
    let s = session_of c.args.protocol.now.limit.bytes (ps ++ p ∷ []) in
    let len_is = len.1 ∙ (let a = h.len in let b = h.len_is in omega (arith, a, b)) in
    let tokens_is = tokens.1 ∙ (let a = h.tokens in let b = h.tokens_are in let t = c.from.ensures
    in omega (arith, a, b, t)) in
    c.in_ok-place.ensures.lines s
    (subst (λ (d : Direction). CutFollows c.args.protocol.now.limit.bytes c.args.protocol.now.tables.now s
    c.args.state.now d c.in-Some-checked_add.tokens c.as_slice-waiting.result.now) (sym h.direction_is)
    (follows_piece c.args.protocol.now.limit.bytes c.args.protocol.now.tables.now ps p c.args.state.now h.before c.in-Some.len
    c.in-Some-checked_add.tokens c.as_slice-waiting.result.now
    h.along (sym c.is_open.ensures ∙ c.if-not-is_open.false) len_is
    (let is = len.1 in let less = len.0 in omega (arith, is, less)) tokens_is (c.as_slice-waiting.ensures ∙ h.bytes)))
