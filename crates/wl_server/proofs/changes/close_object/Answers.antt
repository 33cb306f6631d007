use Rattle.std.proofs.Common.{sym, arith}
use Rattle.std.proofs.lemmas.Grind.{elements}
use Rattle.wl_server.proofs.Closings.{no_registry, not_same}
use Rattle.wl_server.proofs.changes.close_object.Goals as goal

pub returns-then-is_registry-clause-core : goal.returns-then-is_registry-clause-core
returns-then-is_registry-clause-core g c = grind (arith, elements)

pub returns-else-is_registry-clause-core : goal.returns-else-is_registry-clause-core
returns-else-is_registry-clause-core g c = grind (arith, elements)

pub returns-else-is_registry-clause-registries : goal.returns-else-is_registry-clause-registries
returns-else-is_registry-clause-registries g c =
    let view = c.args.core.now.view in
    let object = c.args.object in
    let row = c.requires.row in
    sym (no_registry view c.args.registries.now.list object row.entry row.row
    (not_same view object.id row.entry c.is_registry-is_registry.result c.is_registry-is_registry.ensures
    c.if-is_registry.false row.row) c.requires.sound)
