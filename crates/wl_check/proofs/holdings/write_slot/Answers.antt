use Rattle.std.proofs.Common.{◌∙◌, ◌+◌, ◌-◌, take, get_or, replicate, None, set, length, ap}
use Rattle.wl_check.proofs.Undone.{slot_back, slot_stays}
use Rattle.wl_check.proofs.holdings.write_slot.Goals as goal

pub returns-in_err-reach-clause-back : goal.returns-in_err-reach-clause-back
returns-in_err-reach-clause-back g c =
    let slots = c.args.slots.now.items in
    let place = c.args.place in
    ap (λ l. take (length slots) (set l place (get_or slots place None))) c.in_err-reach.ensures.err
    ∙ slot_stays slots place

pub returns-clause-back : goal.returns-clause-back
returns-clause-back g c =
    let slots = c.args.slots.now.items in
    let place = c.args.place in
    ap (λ l. take (length slots) (set (set l place c.args.entry) place (get_or slots place None)))
    c.in_ok-reach.ensures.items
    ∙ slot_back slots (replicate (place + 1 - length slots) None) place c.args.entry
