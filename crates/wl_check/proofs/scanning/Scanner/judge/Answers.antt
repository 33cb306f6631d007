use Rattle.std.proofs.Math.Logic.{∥∥₁_map}
use Rattle.wl_check.specs.Passing.{piece_in}
use Rattle.wl_check.proofs.SessionByPiece.{along_client, along_server, takes_client, takes_server}
use Rattle.wl_check.proofs.PrintedSoFar.{on_ok, prints_so}
use Rattle.wl_check.proofs.scanning.Scanner.judge.Goals as goal

pub judge_piece-requires-clause-along : goal.judge_piece-requires-clause-along
judge_piece-requires-clause-along g c =
    ∥∥₁_map c.requires.after (λ x. (
      x.0,
      along_server c.args.protocol.now.limit.bytes c.args.protocol.now.tables.now x.0 c.args.piece.now.direction
          c.args.self.now c.in-ToServer.is x.1,
    ))

pub judge_piece-requires-in-ToClient-clause-along : goal.judge_piece-requires-in-ToClient-clause-along
judge_piece-requires-in-ToClient-clause-along g c =
    ∥∥₁_map c.requires.after (λ x. (
      x.0,
      along_client c.args.protocol.now.limit.bytes c.args.protocol.now.tables.now x.0 c.args.piece.now.direction
          c.args.self.now c.in-ToClient.is x.1,
    ))

pub returns-in-ToServer-clause-after : goal.returns-in-ToServer-clause-after
returns-in-ToServer-clause-after g c =
    let p = piece_in c.args.piece.now in
    takes_server c.args.protocol.now.limit.bytes c.args.protocol.now.tables.now p c.args.self.now _ _ c.judge_piece.result
    c.in-ToServer.is c.judge_piece.ensures.along c.judge_piece.ensures.going c.judge_piece.ensures.other

pub returns-in-ToClient-clause-after : goal.returns-in-ToClient-clause-after
returns-in-ToClient-clause-after g c =
    let p = piece_in c.args.piece.now in
    takes_client c.args.protocol.now.limit.bytes c.args.protocol.now.tables.now p c.args.self.now _ _
    c.judge_piece-in-ToClient.result
    c.in-ToClient.is c.judge_piece-in-ToClient.ensures.along c.judge_piece-in-ToClient.ensures.going
    c.judge_piece-in-ToClient.ensures.other

pub returns-in-ToServer-clause-lines : goal.returns-in-ToServer-clause-lines
returns-in-ToServer-clause-lines g c =
    let p = piece_in c.args.piece.now in
    let e = c.judge_piece.ensures in
    let after = takes_server c.args.protocol.now.limit.bytes c.args.protocol.now.tables.now p c.args.self.now _ _
    c.judge_piece.result
    c.in-ToServer.is e.along e.going e.other in
    prints_so c.args.protocol.now.limit.bytes c.args.protocol.now.tables.now c.args.journal.now.sink.output p
    c.args.self.now _ c.args.journal.now.sink.text.items
    c.judge_piece.new.journal.sink.text.items c.judge_piece.result after
    (on_ok c.judge_piece.result (λ f ps h. f ps (along_server c.args.protocol.now.limit.bytes
    c.args.protocol.now.tables.now ps
    c.args.piece.now.direction c.args.self.now c.in-ToServer.is h)) e.lines)

pub returns-in-ToClient-clause-lines : goal.returns-in-ToClient-clause-lines
returns-in-ToClient-clause-lines g c =
    let p = piece_in c.args.piece.now in
    let e = c.judge_piece-in-ToClient.ensures in
    let after = takes_client c.args.protocol.now.limit.bytes c.args.protocol.now.tables.now p c.args.self.now _ _
    c.judge_piece-in-ToClient.result c.in-ToClient.is e.along e.going e.other in
    prints_so c.args.protocol.now.limit.bytes c.args.protocol.now.tables.now c.args.journal.now.sink.output p
    c.args.self.now _ c.args.journal.now.sink.text.items
    c.judge_piece-in-ToClient.new.journal.sink.text.items c.judge_piece-in-ToClient.result after
    (on_ok c.judge_piece-in-ToClient.result (λ f ps h. f ps
    (along_client c.args.protocol.now.limit.bytes c.args.protocol.now.tables.now ps c.args.piece.now.direction c.args.self.now
    c.in-ToClient.is h)) e.lines)
