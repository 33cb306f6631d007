use Rattle.std.proofs.Common.{◌≡◌, take, map}
use Rattle.wl_rules.proofs.rules.message_names.Given as goal

abbrev pub invariant-loop-message : goal.invariant-loop-message
invariant-loop-message g l = l.names.items ≡ map (λ m. m.name) (take l.message-index l.messages)
