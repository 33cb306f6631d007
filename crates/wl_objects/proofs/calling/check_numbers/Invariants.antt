use Rattle.std.proofs.Common.{◌≡◌, ◌≤◌, length, drop}
use Rattle.wl_objects.specs.Writing.{given, wrong_place, numbers_by}
use Rattle.wl_objects.proofs.calling.check_numbers.Given as goal

-- what is wrong with the words from here on is what is wrong with all
abbrev pub invariant-kinds : goal.invariant-kinds
invariant-kinds l = record {
  before : l.place ≤ length l.words;
  right : wrong_place l.place (drop l.place l.kinds) (given (numbers_by (drop l.place l.kinds) (drop l.place l.words)))
      ≡ wrong_place 0 l.kinds (given (numbers_by l.kinds l.words));
}
