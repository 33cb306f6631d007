use Rattle.std.proofs.Common.{sym, ◌∙◌}
use Rattle.std.proofs.Math.Logic.{∥∥₁_map}
use Rattle.wl_check.proofs.PrintedSoFar.{on_ok}
use Rattle.wl_check.proofs.ReadyPiece.{come_client, come_server, judged_client, judged_server}
use Rattle.wl_check.proofs.ReadyPiece.{prints_ready}
use Rattle.wl_check.proofs.scanning.Scanner.judge_appended.Goals as goal

pub judge_waiting-requires-clause-come : goal.judge_waiting-requires-clause-come
judge_waiting-requires-clause-come g c =
    ∥∥₁_map c.requires.ready (λ r. (
      r.0,
      r.1,
      come_server c.args.protocol.now.limit.bytes c.args.protocol.now.tables.now r.0 r.1 c.args.piece.now c.args.self.now
          (sym r.2.appended_is.direction ∙ c.in-ToServer.is) r.2,
    ))

pub judge_waiting-requires-in-ToClient-clause-come : goal.judge_waiting-requires-in-ToClient-clause-come
judge_waiting-requires-in-ToClient-clause-come g c =
    ∥∥₁_map c.requires.ready (λ r. (
      r.0,
      r.1,
      come_client c.args.protocol.now.limit.bytes c.args.protocol.now.tables.now r.0 r.1 c.args.piece.now c.args.self.now
          (sym r.2.appended_is.direction ∙ c.in-ToClient.is) r.2,
    ))

pub returns-in-ToServer-clause-after : goal.returns-in-ToServer-clause-after
returns-in-ToServer-clause-after g c =
    judged_server c.args.protocol.now.limit.bytes c.args.protocol.now.tables.now c.args.piece.now c.args.self.now _ _
    c.judge_waiting.result c.in-ToServer.is c.judge_waiting.ensures.along c.judge_waiting.ensures.going
    c.judge_waiting.ensures.other

pub returns-in-ToClient-clause-after : goal.returns-in-ToClient-clause-after
returns-in-ToClient-clause-after g c =
    judged_client c.args.protocol.now.limit.bytes c.args.protocol.now.tables.now c.args.piece.now c.args.self.now _ _
    c.judge_waiting-in-ToClient.result c.in-ToClient.is c.judge_waiting-in-ToClient.ensures.along
    c.judge_waiting-in-ToClient.ensures.going c.judge_waiting-in-ToClient.ensures.other

pub returns-in-ToServer-clause-lines : goal.returns-in-ToServer-clause-lines
returns-in-ToServer-clause-lines g c =
    let e = c.judge_waiting.ensures in
    let after = judged_server c.args.protocol.now.limit.bytes c.args.protocol.now.tables.now c.args.piece.now c.args.self.now
    _ _ c.judge_waiting.result c.in-ToServer.is e.along e.going e.other in
    prints_ready c.args.protocol.now.limit.bytes c.args.protocol.now.tables.now c.args.journal.now.sink.output
    c.args.piece.now c.args.self.now _ c.args.journal.now.sink.text.items c.judge_waiting.new.journal.sink.text.items
    c.judge_waiting.result after
    (on_ok c.judge_waiting.result (λ f ps p h. f ps p (come_server c.args.protocol.now.limit.bytes
    c.args.protocol.now.tables.now ps p c.args.piece.now c.args.self.now
    (sym h.appended_is.direction ∙ c.in-ToServer.is) h)) e.lines)

pub returns-in-ToClient-clause-lines : goal.returns-in-ToClient-clause-lines
returns-in-ToClient-clause-lines g c =
    let e = c.judge_waiting-in-ToClient.ensures in
    let after = judged_client c.args.protocol.now.limit.bytes c.args.protocol.now.tables.now c.args.piece.now c.args.self.now
    _ _ c.judge_waiting-in-ToClient.result c.in-ToClient.is e.along e.going e.other in
    prints_ready c.args.protocol.now.limit.bytes c.args.protocol.now.tables.now c.args.journal.now.sink.output
    c.args.piece.now c.args.self.now _ c.args.journal.now.sink.text.items c.judge_waiting-in-ToClient.new.journal.sink.text.items
    c.judge_waiting-in-ToClient.result after
    (on_ok c.judge_waiting-in-ToClient.result (λ f ps p h. f ps p (come_client c.args.protocol.now.limit.bytes
    c.args.protocol.now.tables.now ps p c.args.piece.now c.args.self.now
    (sym h.appended_is.direction ∙ c.in-ToClient.is) h)) e.lines)
