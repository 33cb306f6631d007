use Rattle.std.proofs.Common.{◌≡◌, ℕ, ◌<◌, length, get_or}
use Rattle.wl_connection.proofs.shared.Core.first_tokens.Given as goal

abbrev pub invariant-places : goal.invariant-places
invariant-places g l = record {
  len : length l.tokens ≡ 20;
  same : (place : ℕ) → place < l.place → get_or l.tokens place 0 ≡ get_or l.self-inside.inbox.tokens place 0;
}
