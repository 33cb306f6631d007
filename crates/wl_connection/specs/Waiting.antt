-- The tokens of an end that is given up: those that came and were not read, and those that were not
-- sent.
use Rattle.std.specs.Prelude.{ℕ, ◌+◌, ◌-◌, min, true, List, ◌++◌, length}
use Rattle.wl_message.specs.declared.amounts.Amounts.{Amounts}
use Rattle.wl_message.specs.Arrived.{without_tokens}
use Rattle.wl_message.specs.Outgoing.{goes, waiting_bytes, waiting_tokens, after_taking}
use Rattle.wl_connection.specs.Core.{Core}

-- all tokens that wait, in order: those of the inbox, then those of the outbox
abbrev pub waiting : Core → List ℕ
waiting core = core.inbox.tokens ++ waiting_tokens core.outbox

-- how many tokens of the inbox n places take
abbrev pub unread_count : Core → ℕ → ℕ
unread_count core n = min n (length core.inbox.tokens)

-- What goes out of the outbox into the remaining places, with all bytes: the tokens of a message go
-- together.
abbrev pub unsent : Core → ℕ → Amounts
unsent core n = goes core.outbox (length (waiting_bytes core.outbox)) (n - unread_count core n)

-- how many tokens n places take
abbrev pub waiting_count : Core → ℕ → ℕ
waiting_count core n = unread_count core n + (unsent core n).tokens

-- The end after that. It has failed, so it reads and writes nothing more, and the part of its
-- outbox that goes with the tokens taken is dropped.
abbrev pub given_up : Core → ℕ → Core
given_up core n = record core {
  inbox = without_tokens core.inbox (unread_count core n);
  outbox = after_taking core.outbox (unsent core n).bytes;
  failed = true;
}
