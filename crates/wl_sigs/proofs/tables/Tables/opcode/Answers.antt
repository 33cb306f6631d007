use Rattle.std.proofs.Common.{arith}
use Rattle.std.proofs.lemmas.Grind.{common_steps}
use Rattle.wl_sigs.proofs.MessagesNamed.{opcode_named}
use Rattle.wl_sigs.proofs.tables.Tables.opcode.Goals as goal

pub returns-in_err-opcode-clause-found : goal.returns-in_err-opcode-clause-found
returns-in_err-opcode-clause-found g c =
    opcode_named c.args.self.now c.in_ok-entry.ensures.valid c.args.iface.0 c.args.side c.args.name.now _
    (grind (arith, common_steps))

pub returns-clause-found : goal.returns-clause-found
returns-clause-found g c =
    opcode_named c.args.self.now c.in_ok-entry.ensures.valid c.args.iface.0 c.args.side c.args.name.now _
    (grind (arith, common_steps))
