-- Two ends, and the stream of each.
use Rattle.std.specs.Prelude.{◌≡◌, ◌≢◌, ◌+◌, ℕ, List, [], length, Option, None}
use Rattle.std.specs.declared.result.Result.{Result}
use Rattle.std.specs.declared.result.Result.TheVariants.{Ok, Err}
use Rattle.std.specs.Io.KnownBytes.{Appends, Consumes}
use Rattle.wl_message.specs.Outgoing.{all_tokens, newly_begun, waiting_bytes}
use Rattle.wl_connection.specs.Core.{Core, with_gone}
use Rattle.wl_connection.specs.Reads.{Reading, Reads, with_arrivals}
use Rattle.theory_connection.specs.Pair.{PairState}
use Rattle.program_socket.specs.declared.error.SocketError.{SocketError}

-- What is known about a stream: the bytes that it will still return, and those that it was given,
-- each as far as that is known.
pub record KnownStream (X : Type 0) : Type 0 where
  pub left : X → Option (List ℕ)
  pub taken : X → Option (List ℕ)

abbrev pub known_stream : {X : Type 0} → (X → Option (List ℕ)) → (X → Option (List ℕ))
    → KnownStream X
known_stream left taken = record { left = left; taken = taken }

-- a client and a server with what has passed, and the stream of each
pub record Connected (C S : Type 0) : Type 0 where
  pub pair : PairState
  pub client_stream : C
  pub server_stream : S

-- All bytes that wait at an end are given to its stream, whose contents are these before and after.
-- No token goes with them.
pub record Sends (core : Core) (held : Option (List ℕ)) (core' : Core) (holds : Option (List ℕ))
    : Type 0 where
  pub without_tokens : all_tokens (newly_begun core.outbox (length (waiting_bytes core.outbox)))
      ≡ []
  pub taken : Appends held holds (waiting_bytes core.outbox)
  pub gone : core' ≡ with_gone core (length (waiting_bytes core.outbox))

-- A stream returns this many bytes. Its end takes them in after what waits there, and reads all of
-- it: nothing stops it before.
pub record Receives {E R : Type 0} (reading : Reading E R) (count : ℕ) (bytes : List ℕ) (end : E)
    (had : Option (List ℕ)) (end' : E) (has : Option (List ℕ)) : Type 0 where
  pub as_many : length bytes ≡ count
  pub given : Consumes had has bytes
  pub reports : List R
  pub read : Reads reading (with_arrivals reading end bytes []) reports None end'

-- How a read counts, with this many retries before and after it. The bytes that it returned are
-- counted. The end of the input is a failure. A failed read counts as no bytes and uses up a retry,
-- and is a failure if none is left.
abbrev pub CountsRead : {E : Type 0} → Result ℕ E → Result ℕ SocketError → ℕ → ℕ → Type 0
CountsRead (Ok n) (Ok count) left left' = (count ≡ n) × (n ≢ 0) × (left' ≡ left)
CountsRead (Ok n) (Err why) left left' = n ≡ 0
CountsRead (Err error) (Ok count) left left' = (count ≡ 0) × (left' + 1 ≡ left)
CountsRead (Err error) (Err why) left left' = left ≡ 0
