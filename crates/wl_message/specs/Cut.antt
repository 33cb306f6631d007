-- A stream cut into messages, by the sizes in their headers alone.
use Rattle.std.specs.Prelude.{◌≡◌, ◌≢◌, ℕ, zero, suc, ◌+◌, ◌*◌, ◌%◌, ◌≤◌, Bool, ◌&&◌, ◌==◌, nat_lt}
use Rattle.std.specs.Prelude.{nat_le, if◌then◌else◌, List, [], ◌∷◌, ◌++◌, length, take, drop}
use Rattle.std.specs.Prelude.{slice_index}
use Rattle.std.specs.List.{concat, AllByRecursion}

-- the longest message in bytes if no other limit is chosen
abbrev pub usual_limit : ℕ
usual_limit = 4096

-- The greatest limit in bytes: no greater multiple of 4 fits in the 16 bits of a header's size.
abbrev pub greatest_limit : ℕ
greatest_limit = 65532

-- Messages may be limited to n bytes.
abbrev pub IsLimit : ℕ → Type 0
IsLimit n = (usual_limit ≤ n) × (n ≤ greatest_limit) × (n % 4 ≡ 0)

-- A message may have n bytes: at least the 8 of its header, a multiple of 4, and within the limit.
pub record IsSize (limit n : ℕ) : Type 0 where
  pub header : 8 ≤ n
  pub words : n % 4 ≡ 0
  pub within : n ≤ limit

-- the same as a test
abbrev pub is_size : ℕ → ℕ → Bool
is_size limit n = (nat_le 8 n && n % 4 == 0) && nat_le n limit

-- the size in a header: the upper half of its second word; it includes the header
abbrev pub told_size : List ℕ → ℕ
told_size bytes = slice_index bytes 6 + 256 * slice_index bytes 7

-- a whole message: its length is the size in its header, and a message may have that size
pub record IsMessage (limit : ℕ) (bytes : List ℕ) : Type 0 where
  pub told : told_size bytes ≡ length bytes
  pub size : IsSize limit (length bytes)

-- what is at the front of bytes
pub data Front : Type 0 where
  -- no whole header, or a header whose size is greater than the bytes there
  More : Front
  -- a header with a size that no message may have
  Bad : ℕ → Front
  -- a message of this many bytes
  Whole : ℕ → Front

-- A header is judged as soon as its 8 bytes are there.
unfoldable pub front : ℕ → List ℕ → Front
front limit bytes =
    if nat_lt (length bytes) 8 then More else
    (if is_size limit (told_size bytes)
    then (if nat_lt (length bytes) (told_size bytes) then More else Whole (told_size bytes))
    else Bad (told_size bytes))

-- a whole message is at the front
abbrev pub HasMessage : Front → Type 0
HasMessage (Whole n) = Unit {0}
HasMessage _ = ⊥

-- its length in bytes
abbrev pub message_size : Front → ℕ
message_size (Whole n) = n
message_size _ = 0

-- how many bytes are known to be of one message: all of a whole one, and the header with a bad size
abbrev pub front_len : Front → ℕ
front_len (Whole n) = n
front_len (Bad n) = 8
front_len More = 0

-- The stream is cut into these messages and this rest: the stream is the messages joined, followed
-- by the rest; each message is whole, and no whole message is at the front of the rest.
pub record IsCut (limit : ℕ) (stream : List ℕ) (messages : List (List ℕ)) (rest : List ℕ)
    : Type 0 where
  pub joined : stream ≡ concat messages ++ rest
  pub whole : AllByRecursion (IsMessage limit) messages
  pub last : (n : ℕ) → front limit rest ≢ Whole n

-- messages and a rest
pub record Cut : Type 0 where
  pub messages : List (List ℕ)
  pub rest : List ℕ

-- at most `count` messages are cut off
unfoldable pub cut_within : ℕ → ℕ → List ℕ → Cut
cut_within zero limit bytes = record { messages = []; rest = bytes }
cut_within (suc count) limit bytes = elim (front limit bytes) [
  | More ↦ record { messages = []; rest = bytes }
  | Bad n ↦ record { messages = []; rest = bytes }
  | Whole n ↦ record {
    messages = take n bytes ∷ (cut_within count limit (drop n bytes)).messages;
    rest = (cut_within count limit (drop n bytes)).rest;
  }
]

-- the messages of a stream; there are no more of them than bytes
abbrev pub messages_in_stream : ℕ → List ℕ → List (List ℕ)
messages_in_stream limit stream = (cut_within (length stream) limit stream).messages

-- the bytes after the messages: they begin with no whole message, or with a bad size
abbrev pub rest_of : ℕ → List ℕ → List ℕ
rest_of limit stream = (cut_within (length stream) limit stream).rest
