use Rattle.wl_check.specs.Session.{session_of}
use Rattle.wl_check.proofs.PrintedSoFar.{inspected_so}
use Rattle.wl_check.proofs.Verdicts.{verdict_once}
use Rattle.wl_check.proofs.laws.inspecting_is_checking.Goals as goal

pub returns-clause-lines : goal.returns-clause-lines
returns-clause-lines g c limit tables pieces text i h = (inspected_so limit tables pieces text i h).0

pub returns-clause-verdict : goal.returns-clause-verdict
returns-clause-verdict g c limit tables pieces text i inspected checked h own other =
    verdict_once tables (session_of limit pieces) inspected checked
    (own (inspected_so limit tables pieces text i h).1) other
