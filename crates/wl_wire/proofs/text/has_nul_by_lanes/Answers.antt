use Rattle.std.proofs.Common.{◌-◌, length, sym, ap, ◌∙◌, arith}
use Rattle.wl_wire.specs.Spelling.{has_nul}
use Rattle.wl_wire.proofs.Lanes.{nul_found, nul_next, nul_last}
use Rattle.wl_wire.proofs.text.has_nul_by_lanes.Goals as goal

pub returns-then-has_zero : goal.returns-then-has_zero
returns-then-has_zero c = sym (nul_found c.args.text.now c.lanes.at 64
    (sym (ap has_nul c.load.ensures) ∙ sym c.has_zero.ensures ∙ c.if-has_zero.true))

pub lanes-preserved : goal.lanes-preserved
lanes-preserved c = record {
  within = omega arith;
  none = nul_next c.args.text.now c.lanes.at 64 c.lanes.invariant.none
      (sym (ap has_nul c.load.ensures) ∙ sym c.has_zero.ensures ∙ c.if-has_zero.false);
}

pub returns : goal.returns
returns c =
    c.has_zero-2.ensures ∙ ap has_nul c.load-2.ensures
    ∙ nul_last c.args.text.now c.lanes.at (length c.args.text.now - 64) 64 (omega arith)
    (omega arith) c.lanes.invariant.none
