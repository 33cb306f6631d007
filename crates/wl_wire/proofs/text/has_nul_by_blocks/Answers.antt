use Rattle.std.proofs.Common.{◌-◌, length, sym, ◌∙◌, arith}
use Rattle.wl_wire.proofs.Lanes.{nul_found, nul_next, nul_last}
use Rattle.wl_wire.proofs.text.has_nul_by_blocks.Goals as goal

pub returns-then-has_zero : goal.returns-then-has_zero
returns-then-has_zero c = sym (nul_found c.args.text.now c.blocks-2.at 512
    (sym (c.least_of_8.ensures.nul) ∙ sym c.has_zero.ensures ∙ c.if-has_zero.true))

pub blocks-2-preserved : goal.blocks-2-preserved
blocks-2-preserved c = record {
  within = omega arith;
  none = nul_next c.args.text.now c.blocks-2.at 512 c.blocks-2.invariant.none
      (sym (c.least_of_8.ensures.nul) ∙ sym c.has_zero.ensures ∙ c.if-has_zero.false);
}

pub returns : goal.returns
returns c =
    c.has_zero-2.ensures ∙ c.least_of_8-2.ensures.nul
    ∙ nul_last c.args.text.now c.blocks-2.at (length c.args.text.now - 512) 512 (omega arith)
    (omega arith) c.blocks-2.invariant.none
