use Rattle.std.proofs.Common.{refl}
use Rattle.std.proofs.Math.Logic.{∥∥₁_map}
use Rattle.wl_check.proofs.line_judge.LineJudge.verdict.Goals as goal

pub verdict-requires : goal.verdict-requires
verdict-requires g c = ∥∥₁_map (c.args.self.now.begun c.if-self.false)
    (λ x. (c.args.self.now.limit.bytes, c.args.self.now.tables.now, x.0, x.1))

pub returns : goal.returns
returns g c prints_lines limit tables ps h = (c.verdict.result, refl, c.verdict.ensures limit tables ps h.after)
