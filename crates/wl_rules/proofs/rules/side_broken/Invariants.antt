use Rattle.std.proofs.Common.{◌≡◌, take, map}
use Rattle.std.specs.Prelude.{option_map}
use Rattle.wl_rules.specs.Joined.{first_place}
use Rattle.wl_rules.specs.Broken.{message_rule, messages_broken}
use Rattle.wl_rules.specs.BrokenLines.{broken}
use Rattle.wl_rules.specs.Places.{place_in}
use Rattle.wl_rules.proofs.rules.side_broken.Given as goal

abbrev pub invariant-loop-opcode : goal.invariant-loop-opcode
invariant-loop-opcode g l =
    option_map broken l.first ≡ messages_broken (message_rule (place_in l.places) l.ended l.interface l.fn.side
    (first_place (map (λ m. m.name) l.messages))) 0 (take l.opcode l.messages)
