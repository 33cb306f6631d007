use Rattle.std.proofs.Common.{List, ap, ◌∙◌, slice_get}
use Rattle.std.specs.Option.{option_and_then}
use Rattle.wl_sigs.specs.Tables.{MessageSignature, message_of}
use Rattle.wl_sigs.proofs.Got.{got}
use Rattle.wl_sigs.proofs.tables.Tables.message.Goals as goal

pub returns-clause-answer : goal.returns-clause-answer
returns-clause-answer g c =
    got c.get.result c.messages.result.now c.args.opcode c.get.ensures.lookup.0 c.get.ensures.lookup.1
    ∙ ap (λ (ms : List MessageSignature). slice_get ms c.args.opcode) c.messages.ensures
    ∙ ap (option_and_then (message_of c.args.side c.args.opcode)) c.in_ok-entry.ensures.answer
