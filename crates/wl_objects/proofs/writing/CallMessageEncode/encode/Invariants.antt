use Rattle.std.proofs.Common.{◌≡◌, ◌≤◌, ◌+◌, ◌++◌, drop, take, length}
use Rattle.wl_objects.specs.Writing.{call_message, on_wire, message_len, spelled, EachFits}
use Rattle.wl_objects.proofs.writing.CallMessageEncode.encode.Given as goal

-- the bytes written so far, and the spelling of the remaining arguments
abbrev pub invariant-arguments : goal.invariant-arguments
invariant-arguments l = record {
  within : l.at ≤ length l.out;
  fits : EachFits (on_wire l.self.new_id (drop l.arg-index l.self.args.now));
  len : l.at + message_len (on_wire l.self.new_id (drop l.arg-index l.self.args.now)) ≡ length l.out + 8;
  items : take l.at l.out ++ spelled (on_wire l.self.new_id (drop l.arg-index l.self.args.now)) ≡ call_message l.self;
}
