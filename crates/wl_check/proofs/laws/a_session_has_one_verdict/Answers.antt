use Rattle.wl_check.proofs.Verdicts.{verdict_once}
use Rattle.wl_check.proofs.laws.a_session_has_one_verdict.Goals as goal

pub returns : goal.returns
returns c = verdict_once
