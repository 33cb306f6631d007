use Rattle.std.proofs.Math.Logic.{∥∥₁_map}
use Rattle.wl_check.proofs.inspector.Inspector.verdict.Goals as goal

pub verdict-requires : goal.verdict-requires
verdict-requires g c = ∥∥₁_map c.args.self.now.begun
    (λ x. (c.args.self.now.limit.bytes, c.args.self.now.tables.now, x.0, x.1))

pub returns : goal.returns
returns g c limit tables ps h = c.verdict.ensures limit tables ps h.after
