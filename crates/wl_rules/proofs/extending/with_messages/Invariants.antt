use Rattle.std.proofs.Common.{◌≡◌, ◌++◌}
use Rattle.wl_rules.proofs.extending.with_messages.Given as goal

abbrev pub invariant-loop-message : goal.invariant-loop-message
invariant-loop-message g l = l.all.items ≡ l.fn.messages.items ++ l.yielded
