use Rattle.std.proofs.Common.{not, nat_eq, eqb, w8, ap, ◌∙◌, arith}
use Rattle.std.proofs.lemmas.Simd.{bitmask_splat}
use Rattle.wl_wire.proofs.Lanes.{mask_any}
use Rattle.wl_wire.proofs.text.has_zero.Goals as goal

pub returns : goal.returns
returns c = ap (λ m. not (nat_eq m 0)) (bitmask_splat w8 eqb c.args.lanes 64 0 c.requires (omega arith))
    ∙ mask_any (λ x. eqb x 0) c.args.lanes
