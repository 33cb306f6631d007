use Rattle.std.proofs.Common.{◌∙◌, sym}
use Rattle.wl_wire.specs.declared.kind.Kind.TheVariants.{Int}
use Rattle.wl_objects.proofs.NewObjects.{made-next, made-here, made-none, made-end, made-skip}
use Rattle.wl_objects.proofs.NewObjects.{left-at, left-none}
use Rattle.wl_objects.proofs.new_object.made_among.Goals as goal

pub returns-in-None : goal.returns-in-None
returns-in-None c =
    let left = left-none c.args.values.now c.kinds.place c.in-None.ensures in
    sym (made-none _ _ _ _ Int _ c.kinds-test.true left) ∙ c.kinds.invariant

pub returns-in-Some-made_by : goal.returns-in-Some-made_by
returns-in-Some-made_by c =
    let left = left-at c.args.values.now c.kinds.place _ c.in-Some.ensures in
    sym (made-here _ _ _ _ Int _ _ _ _ c.kinds-test.true left (sym c.in-Some-made_by.ensures)) ∙ c.kinds.invariant

pub kinds-preserved-then-not-is_new_object : goal.kinds-preserved-then-not-is_new_object
kinds-preserved-then-not-is_new_object c =
    sym (made-skip _ _ _ _ Int _ c.kinds-test.true (sym c.if-not-is_new_object.ensures)) ∙ c.kinds.invariant

pub kinds-preserved : goal.kinds-preserved
kinds-preserved c =
    let left = left-at c.args.values.now c.kinds.place _ c.in-Some.ensures in
    sym (made-next _ _ _ _ Int _ _ _ c.kinds-test.true left (sym c.in_default.ensures)) ∙ c.kinds.invariant

pub returns : goal.returns
returns c = sym (made-end _ _ _ _ _ c.kinds-test.false) ∙ c.kinds.invariant
