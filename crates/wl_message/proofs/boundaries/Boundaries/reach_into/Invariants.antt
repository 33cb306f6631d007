use Rattle.std.proofs.Common.{◌≡◌, ◌<◌, ◌+◌, ◌^◌, length}
use Rattle.std.specs.Prelude.{map}
use Rattle.wl_message.specs.Boundaries.{boundary_in_word, reach}
use Rattle.wl_message.proofs.boundaries.Boundaries.reach_into.Given as goal

abbrev pub invariant-messages : goal.invariant-messages
invariant-messages g l = record {
  same : reach l.reach.bytes l.reach.tokens l.reach.begun (map boundary_in_word l.word-iterator)
      ≡ reach l.bytes l.tokens 0 l.self.items;
  begun : l.reach.begun + length l.word-iterator ≡ length l.self.items;
  few : length l.self.items < 2 ^ 63;
  left : l.reach.left ≡ 0;
}
