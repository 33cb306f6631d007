use Rattle.std.proofs.Common.{List, ap, ◌∙◌, subst}
use Rattle.wl_recording.specs.Piece.{Piece}
use Rattle.wl_check.specs.Session.{session_of, IsVerdictOf}
use Rattle.wl_check.specs.Trace.{trace_of}
use Rattle.wl_check.proofs.Examined.{if_ok_to}
use Rattle.wl_check.proofs.tracing.trace.Goals as goal

pub returns-clause-lines : goal.returns-clause-lines
returns-clause-lines g c =
    if_ok_to c.scan.result _ _ (λ r h. h ∙ ap (λ (ps : List Piece). trace_of c.args.tables.now
    (session_of c.args.limit.bytes ps)) c.pieces.ensures.all) c.scan.ensures.lines

pub returns-clause-verdict : goal.returns-clause-verdict
returns-clause-verdict g c =
    if_ok_to c.scan.result _ _ (λ r h. subst (λ (ps : List Piece). IsVerdictOf c.args.tables.now
    (session_of c.args.limit.bytes ps) r.1) c.pieces.ensures.all h) c.scan.ensures.verdict
