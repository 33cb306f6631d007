use Rattle.std.proofs.Common.{◌≡◌, ◌≤◌, ◌++◌, drop, take}
use Rattle.wl_objects.specs.Writing.{given, tokens_of}
use Rattle.wl_objects.proofs.writing.take_tokens.Given as goal

-- the tokens so far, and those of the remaining arguments
abbrev pub invariant-arguments : goal.invariant-arguments
invariant-arguments l = record {
  count : l.count ≤ l.arg-index;
  tokens : take l.count l.tokens ++ tokens_of (given (drop l.arg-index l.args)) ≡ tokens_of (given l.args);
}
