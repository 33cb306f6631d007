use Rattle.std.proofs.Common.{Some, ap, sym, ◌∙◌}
use Rattle.wl_check.specs.Held.{undone_by}
use Rattle.wl_check.proofs.Undone.{undone_more}
use Rattle.wl_check.proofs.overwritten.UndoList.write_down.Goals as goal

pub returns-in_ok-push-in-On-clause-ok : goal.returns-in_ok-push-in-On-clause-ok
returns-in_ok-push-in-On-clause-ok g c old new back =
    ap Some (undone_more c.in-On.list.items c.push.new.self.items c.args.before old new
    c.in_ok-push-in-On.ensures.items back) ∙ sym (ap (λ u. undone_by u old) c.in-On.is)
