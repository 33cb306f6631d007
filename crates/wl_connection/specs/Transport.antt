-- What is exchanged between an end and a stream.
use Rattle.std.specs.Prelude.{◌≡◌, ℕ, true, false, List, length, Option, Result, Ok}
use Rattle.wl_message.specs.declared.streams.FillError.{FillError}
use Rattle.wl_message.specs.Arrived.{Arrived}
use Rattle.wl_message.specs.Streams.{Fills}
use Rattle.wl_connection.specs.Core.{Core, with_arrived}

-- the end with its inbox replaced
abbrev pub with_inbox : Core → Arrived → Core
with_inbox core inbox = record core { inbox = inbox }

-- A fill of an end from a reader: its inbox is filled, and nothing else changes. A failed end takes
-- nothing.
pub record EndFills (core : Core) (had : Option (List ℕ)) (result : Result ℕ FillError)
    (core' : Core) (has : Option (List ℕ)) : Type 0 where
  pub inbox : core.failed ≡ false → Fills core.inbox had result core'.inbox has
  pub others : core' ≡ with_inbox core core'.inbox
  pub failed : core.failed ≡ true → (result ≡ Ok 0) × (core' ≡ core)

-- some n bytes and these tokens were taken in
pub record EndReceives (core : Core) (n : ℕ) (tokens : List ℕ) (core' : Core) : Type 0 where
  pub bytes : List ℕ
  pub count : length bytes ≡ n
  pub behind : core' ≡ with_arrived core bytes tokens
