use Rattle.wl_object_map.proofs.Chain.{with_first}
use Rattle.wl_object_map.proofs.slot_table.put_first.Goals as goal

pub returns-clause-chain : goal.returns-clause-chain
returns-clause-chain c = λ ids chain out. with_first c.args.slots.now c.set_newer.new.slots c.put.new.slots
    c.args.first.now c.args.id ids chain out c.set_newer.ensures c.put.ensures
