use Rattle.std.proofs.Common.{List, subst}
use Rattle.wl_recording.specs.Piece.{Piece}
use Rattle.wl_check.specs.Session.{session_of, IsVerdictOf}
use Rattle.wl_check.proofs.Examined.{exact_from}
use Rattle.wl_check.proofs.checking.check.Goals as goal

pub returns-clause-answers : goal.returns-clause-answers
returns-clause-answers g c =
    subst (λ (ps : List Piece). IsVerdictOf c.args.tables.now (session_of c.args.limit.bytes ps) c.in_ok-_text.verdict)
    c.pieces.ensures.all c.in_ok-_text.ensures.verdict

pub returns-clause-exact : goal.returns-clause-exact
returns-clause-exact g c =
    exact_from c.args.tables.now (session_of c.args.limit.bytes c.args.recording.now) c.in_ok-_text.verdict
    (subst (λ (ps : List Piece). IsVerdictOf c.args.tables.now (session_of c.args.limit.bytes ps) c.in_ok-_text.verdict)
    c.pieces.ensures.all c.in_ok-_text.ensures.verdict)
