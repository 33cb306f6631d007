use Rattle.std.proofs.Common.{ℕ, subst}
use Rattle.wl_check.specs.Deserved.{TellsUndeserved}
use Rattle.wl_check.specs.Session.{session_of}
use Rattle.wl_check.proofs.JudgedCount.{judged_count}
use Rattle.wl_check.proofs.inspector.Inspector.undeserved.Goals as goal

pub returns : goal.returns
returns g c limit tables ps h =
    let state = c.args.self.now.scanner.state in
    subst (λ (n : ℕ). TellsUndeserved tables (session_of limit ps) n state.undeserved)
    (judged_count limit tables ps c.args.self.now.scanner h.after) h.after.judged.undeserved
