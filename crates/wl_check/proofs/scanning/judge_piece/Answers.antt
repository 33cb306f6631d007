use Rattle.std.proofs.Common.{◌≡◌, ◌∷◌, ◌++◌, [], List, ℕ, refl, sym, ap, subst, ◌∙◌, arith}
use Rattle.std.proofs.Math.Logic.{∥∥₁_map}
use Rattle.wl_sigs.specs.Tables.{Interface}
use Rattle.wl_check.specs.declared.frames.Stream.{Stream}
use Rattle.wl_check.specs.declared.session_state.Journal.{Journal}
use Rattle.wl_check.specs.declared.session_state.Output.{Output}
use Rattle.wl_check.specs.declared.session_state.SessionState.{SessionState}
use Rattle.wl_check.specs.Passing.{piece_in}
use Rattle.wl_check.specs.Printed.{PrintsOn}
use Rattle.wl_check.specs.Session.{session_of, Session}
use Rattle.wl_check.specs.SessionState.{AllJudged}
use Rattle.wl_check.specs.Trace.{lines_within, wanted}
use Rattle.wl_check.proofs.SessionByPiece.{along_closed, along_piece, follows_piece}
use Rattle.wl_check.proofs.scanning.judge_piece.Goals as goal
use Rattle.wl_check.proofs.scanning.judge_piece.Goals.{in-Off+in_ok-judge_bytes-in-Off}
use Rattle.wl_check.proofs.scanning.judge_piece.Goals.{in-On+in_ok-judge_or_go_back-in-On}

-- The same continuation of writing, with equal values for the number of messages and the output.
prints_same : (tables : List Interface) (s : Session) (output : Output) (before : ℕ) (old : List ℕ)
    (after n : ℕ) (new text : List ℕ) → after ≡ n → new ≡ text
    → PrintsOn tables s output before after old new → PrintsOn tables s output before n old text
prints_same tables s output before old after n new text count items on earlier is =
    ap (λ (l : List ℕ). earlier ++ l) (sym items) ∙ on earlier is
    ∙ ap (λ (k : ℕ). wanted output (lines_within tables s k)) count

pub returns-then-not-is_open-clause-along : goal.returns-then-not-is_open-clause-along
returns-then-not-is_open-clause-along g c ps h =
    let one = c.checked_add.ensures in
    let two = c.checked_add-2.ensures in
    let len = rw c.in-Some.is at one in
    let tokens = rw c.in-Some-checked_add.is at two in
    along_closed c.args.protocol.now.limit.bytes c.args.protocol.now.tables.now ps
    (piece_in c.args.piece.now) c.args.state.now c.args.stream.now _ h
    (sym c.is_open.ensures ∙ c.if-not-is_open.true) len.1 tokens.1

pub judge_or_go_back-requires-clause-follows : goal.judge_or_go_back-requires-clause-follows
judge_or_go_back-requires-clause-follows g c =
    let one = c.checked_add.ensures in
    let two = c.checked_add-2.ensures in
    let len = rw c.in-Some.is at one in
    let tokens = rw c.in-Some-checked_add.is at two in
    let p = piece_in c.args.piece.now in
    ∥∥₁_map c.requires.along (λ x. (
      session_of c.args.protocol.now.limit.bytes (x.0 ++ p ∷ []),
      follows_piece c.args.protocol.now.limit.bytes c.args.protocol.now.tables.now x.0 p c.args.state.now c.args.stream.now
          c.in-Some.len
          c.in-Some-checked_add.tokens _
          x.1 (sym c.is_open.ensures ∙ c.if-not-is_open.false) len.1
          (let is = len.1 in let less = len.0 in omega (arith, is, less)) tokens.1 refl,
    ))

pub judge_bytes-requires-clause-follows : goal.judge_bytes-requires-clause-follows
judge_bytes-requires-clause-follows g c =
    let one = c.checked_add.ensures in
    let two = c.checked_add-2.ensures in
    let len = rw c.in-Some.is at one in
    let tokens = rw c.in-Some-checked_add.is at two in
    let p = piece_in c.args.piece.now in
    ∥∥₁_map c.requires.along (λ x. (
      session_of c.args.protocol.now.limit.bytes (x.0 ++ p ∷ []),
      follows_piece c.args.protocol.now.limit.bytes c.args.protocol.now.tables.now x.0 p c.args.state.now c.args.stream.now
          c.in-Some.len
          c.in-Some-checked_add.tokens _
          x.1 (sym c.is_open.ensures ∙ c.if-not-is_open.false) len.1
          (let is = len.1 in let less = len.0 in omega (arith, is, less)) tokens.1 refl,
    ))

pub returns-clause-along : goal.returns-clause-along
returns-clause-along g c ps h =
    let one = c.checked_add.ensures in
    let two = c.checked_add-2.ensures in
    let len = rw c.in-Some.is at one in
    let tokens = rw c.in-Some-checked_add.is at two in
    let p = piece_in c.args.piece.now in
    let follows =
    follows_piece c.args.protocol.now.limit.bytes c.args.protocol.now.tables.now ps p c.args.state.now c.args.stream.now
    c.in-Some.len
    c.in-Some-checked_add.tokens _
    h (sym c.is_open.ensures ∙ c.if-not-is_open.false) len.1
    (let is = len.1 in let less = len.0 in omega (arith, is, less)) tokens.1 refl in
    let s = session_of c.args.protocol.now.limit.bytes (ps ++ p ∷ []) in
    elim c.match-journal.branch [
      | in-Off+in_ok-judge_bytes-in-Off w ↦
          along_piece c.args.protocol.now.limit.bytes c.args.protocol.now.tables.now ps p c.args.state.now
          c.match-journal.state c.args.stream.now _ w.judge_bytes.new.waiting h
          (subst (λ (n : SessionState _). AllJudged c.args.protocol.now.limit.bytes c.args.protocol.now.tables.now s n
          c.args.piece.now.direction w.judge_bytes.new.waiting) (sym w.state-is)
          (w.in_ok-judge_bytes-in-Off.ensures.judged s follows))
          len.1 tokens.1 (ap (λ (x : Stream _). x.bytes) w.stream-is)
      | in-On+in_ok-judge_or_go_back-in-On w ↦
          along_piece c.args.protocol.now.limit.bytes c.args.protocol.now.tables.now ps p c.args.state.now
          c.match-journal.state c.args.stream.now _ w.judge_or_go_back.new.waiting h
          (subst (λ (n : SessionState _). AllJudged c.args.protocol.now.limit.bytes c.args.protocol.now.tables.now s n
          c.args.piece.now.direction w.judge_or_go_back.new.waiting) (sym w.state-is)
          (w.in_ok-judge_or_go_back-in-On.ensures.judged s follows))
          len.1 tokens.1 (ap (λ (x : Stream _). x.bytes) w.stream-is)
    ]

pub returns-clause-lines : goal.returns-clause-lines
returns-clause-lines g c ps h =
    let one = c.checked_add.ensures in
    let two = c.checked_add-2.ensures in
    let len = rw c.in-Some.is at one in
    let tokens = rw c.in-Some-checked_add.is at two in
    let p = piece_in c.args.piece.now in
    let follows =
    follows_piece c.args.protocol.now.limit.bytes c.args.protocol.now.tables.now ps p c.args.state.now c.args.stream.now
    c.in-Some.len
    c.in-Some-checked_add.tokens _
    h (sym c.is_open.ensures ∙ c.if-not-is_open.false) len.1
    (let is = len.1 in let less = len.0 in omega (arith, is, less)) tokens.1 refl in
    let s = session_of c.args.protocol.now.limit.bytes (ps ++ p ∷ []) in
    elim c.match-journal.branch [
      | in-Off+in_ok-judge_bytes-in-Off w ↦
          prints_same c.args.protocol.now.tables.now s c.args.journal.now.sink.output c.args.state.now.count
          c.args.journal.now.sink.text.items _ _ _ _
          (sym (ap (λ (n : SessionState _). n.count) w.state-is))
          (sym (ap (λ (j : Journal _). j.sink.text.items) w.journal-is))
          (w.in_ok-judge_bytes-in-Off.ensures.lines s follows)
      | in-On+in_ok-judge_or_go_back-in-On w ↦
          prints_same c.args.protocol.now.tables.now s c.args.journal.now.sink.output c.args.state.now.count
          c.args.journal.now.sink.text.items _ _ _ _
          (sym (ap (λ (n : SessionState _). n.count) w.state-is))
          (sym (ap (λ (j : Journal _). j.sink.text.items) w.journal-is))
          (w.in_ok-judge_or_go_back-in-On.ensures.lines s follows)
    ]
