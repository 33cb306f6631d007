use Rattle.std.proofs.Common.{List}
use Rattle.wl_recording.specs.Piece.{Piece}
use Rattle.wl_check.specs.declared.verdict.Verdict.{Verdict}
use Rattle.wl_check.specs.Session.{session_of, IsVerdictOf}
use Rattle.wl_check.proofs.Examined.{exact_from}
use Rattle.wl_check.proofs.OneListOfPieces.{only_so, first_so, if_ok_so}
use Rattle.wl_check.proofs.checking.check_text.Goals as goal

pub returns-clause-only : goal.returns-clause-only
returns-clause-only g c =
    only_so c.args.text.now _ (λ (ps : List Piece) (v : Verdict). IsVerdictOf c.args.tables.now
    (session_of c.args.limit.bytes ps) v) c.verdict_on.ensures.told c.verdict_on.ensures.bad

pub returns-clause-exact : goal.returns-clause-exact
returns-clause-exact g c ps told =
    if_ok_so _ _ _ _ (λ v h. exact_from c.args.tables.now (session_of c.args.limit.bytes ps) v h)
    (only_so c.args.text.now _ (λ (ps : List Piece) (v : Verdict). IsVerdictOf c.args.tables.now
    (session_of c.args.limit.bytes ps) v) c.verdict_on.ensures.told c.verdict_on.ensures.bad ps told)

pub returns-clause-first : goal.returns-clause-first
returns-clause-first g c =
    first_so c.args.text.now _ (λ (ps : List Piece) (v : Verdict). IsVerdictOf c.args.tables.now
    (session_of c.args.limit.bytes ps) v) c.verdict_on.ensures.told c.verdict_on.ensures.bad
