use Rattle.std.proofs.Common.{◌≡◌, ◌+◌, drop}
use Rattle.wl_objects.specs.Writing.{on_wire, message_len}
use Rattle.wl_objects.proofs.calling.message_len.Given as goal

-- the arguments so far, and the remaining ones
abbrev pub invariant-arguments : goal.invariant-arguments
invariant-arguments l = record {
  len : l.len + message_len (on_wire 0 (drop l.arg-index l.args)) ≡ message_len (on_wire 0 l.args) + 8;
}
