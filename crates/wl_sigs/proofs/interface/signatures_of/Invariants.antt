use Rattle.std.proofs.Common.{◌≡◌, map, take}
use Rattle.wl_sigs.specs.Written.{message_written}
use Rattle.wl_sigs.proofs.interface.signatures_of.Given as goal

-- the signatures so far are those of the messages so far
abbrev pub invariant-messages : goal.invariant-messages
invariant-messages g l = l.signatures.items ≡ map message_written (take l.message-index l.messages)
