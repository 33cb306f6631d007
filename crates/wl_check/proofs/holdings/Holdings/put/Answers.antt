use Rattle.std.proofs.Common.{◌∙◌}
use Rattle.wl_check.specs.declared.overwritten.Overwritten.TheVariants.{Object}
use Rattle.wl_check.specs.Held.{put_back}
use Rattle.wl_check.proofs.holdings.Holdings.put.Goals as goal

pub returns-clause-undone : goal.returns-clause-undone
returns-clause-undone g c =
    c.in_ok-write_down.ensures.ok c.args.self.now c.write.new.self
    ((λ i. put_back (Object c.args.id (c.object.ensures i) (c.slots_in.ensures i)) c.write.new.self) ∙ c.write.ensures.back)
