use Rattle.wl_check.proofs.SessionByPiece.{none_judged}
use Rattle.wl_check.proofs.scanning.Scanner.new.Goals as goal

pub returns-clause-none : goal.returns-clause-none
returns-clause-none g c limit =
    let a = c.empty_stream.ensures in
    let b = c.empty_stream-2.ensures in
    none_judged limit c.args.tables.now _ c.in_ok-new.ensures.fresh a.bytes a.len a.tokens b.bytes b.len b.tokens
