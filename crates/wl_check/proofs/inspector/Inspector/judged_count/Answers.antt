use Rattle.wl_check.proofs.JudgedCount.{judged_count}
use Rattle.wl_check.proofs.inspector.Inspector.judged_count.Goals as goal

pub returns : goal.returns
returns g c limit tables ps h = judged_count limit tables ps c.args.self.now.scanner h.after
