use Rattle.std.proofs.Common.{◌≡◌, ◌≤◌, ◌+◌, ◌*◌, length, drop}
use Rattle.std.specs.List.{All}
use Rattle.std.specs.Option.{option_or}
use Rattle.wl_object_map.specs.Objects.{look}
use Rattle.wl_objects.specs.Carried.{InRange}
use Rattle.wl_objects.specs.Writing.{given, wrong_place, lost_place, on_wire, message_len, tokens_of, call_makes}
use Rattle.wl_objects.proofs.calling.measure.Given as goal

-- the findings so far, with those for the remaining arguments, are the findings for all
abbrev pub invariant-kinds : goal.invariant-kinds
invariant-kinds g l = record {
  before : l.place ≤ length l.args;
  right : wrong_place l.place (drop l.place l.kinds) (given (drop l.place l.args))
      ≡ wrong_place 0 l.kinds (given l.args);
  lost : option_or l.lost (lost_place (look l.objects) l.place (drop l.place l.kinds)
      (given (drop l.place l.args))) ≡ lost_place (look l.objects) 0 l.kinds (given l.args);
  least : l.len + message_len (on_wire 0 (drop l.place l.args)) ≤ message_len (on_wire 0 l.args) + 8;
  exact : l.len ≤ 65535 → l.len + message_len (on_wire 0 (drop l.place l.args)) ≡ message_len (on_wire 0 l.args) + 8;
  in_range : l.len ≤ 65535 → All InRange (given (drop l.place l.args)) → All InRange (given l.args);
  bounded : l.len ≤ 8 + l.place * 65544;
  tokens : l.tokens + length (tokens_of (given (drop l.place l.args))) ≡ length (tokens_of (given l.args));
  few : l.tokens ≤ l.place;
  makes : option_or l.makes (call_makes (drop l.place l.kinds)) ≡ call_makes l.kinds;
}
