-- The messages of both directions, in the order in which a recording's pieces complete them.
use Rattle.std.specs.Prelude.{ℕ, zero, suc, ◌+◌, Bool, true, false, List, [], ◌∷◌, ◌++◌, map}
use Rattle.std.specs.Prelude.{length, drop, take, slice_get, if◌then◌else◌, Option, Some, None}
use Rattle.wl_recording.specs.declared.piece.Direction.{Direction}
use Rattle.wl_recording.specs.declared.piece.Direction.TheVariants.{ToServer, ToClient}
use Rattle.wl_recording.specs.Piece.{Piece}
use Rattle.wl_message.specs.Cut.{is_size, front, Front, More, Bad, Whole}
use Rattle.wl_check.specs.declared.frames.FramedMessage.{FramedMessage}

-- where a message begins in its direction, and the size in its header
pub record Span : Type 0 where
  pub start : ℕ
  pub size : ℕ

abbrev pub span : ℕ → ℕ → Span
span start size = record { start = start; size = size }

-- the messages of a stream from a place on, the place where the cutting stops, and whether there is
-- a bad size there
pub record Cutting : Type 0 where
  pub spans : List Span
  pub place : ℕ
  pub has_bad_size : Bool

abbrev pub cut_stopped_at : ℕ → Cutting
cut_stopped_at place = record { spans = []; place = place; has_bad_size = false }

abbrev pub cut_bad_at : ℕ → ℕ → Cutting
cut_bad_at place size = record { spans = span place size ∷ []; place = place; has_bad_size = true }

abbrev pub span_then_cut : Span → Cutting → Cutting
span_then_cut m others =
    record { spans = m ∷ others.spans; place = others.place; has_bad_size = others.has_bad_size }

-- what is at a place, followed by the rest
abbrev pub cut_by_front : ℕ → Front → (ℕ → Cutting) → Cutting
cut_by_front place More others = cut_stopped_at place
cut_by_front place (Bad size) others = cut_bad_at place size
cut_by_front place (Whole size) others = span_then_cut (span place size) (others (place + size))

-- at most `count` messages of a stream, from a place on
unfoldable pub cutting : ℕ → ℕ → List ℕ → ℕ → Cutting
cutting limit zero stream place = cut_stopped_at place
cutting limit (suc count) stream place =
    cut_by_front place (front limit (drop place stream)) (cutting limit count stream)

-- The messages of a stream: they are cut by the sizes in their headers, each as soon as it is
-- whole. A message with a bad size is found as soon as its header is whole, and is the last.
abbrev pub cut : ℕ → List ℕ → Cutting
cut limit stream = cutting limit (length stream) stream 0

abbrev pub same_direction : Direction → Direction → Bool
same_direction ToServer ToServer = true
same_direction ToClient ToClient = true
same_direction _ _ = false

-- the bytes that pieces bring in one direction
abbrev pub stream_of : Direction → List Piece → List ℕ
stream_of direction [] = []
stream_of direction (piece ∷ pieces) =
    (if same_direction piece.direction direction then piece.bytes else [])
    ++ stream_of direction pieces

-- how many tokens they bring in that direction
abbrev pub piece_tokens : Direction → List Piece → ℕ
piece_tokens direction [] = 0
piece_tokens direction (piece ∷ pieces) =
    (if same_direction piece.direction direction then piece.tokens else 0)
    + piece_tokens direction pieces

-- a message in the merged list; its tokens are those that its direction brought with the pieces up
-- to its own
abbrev pub framed : Direction → ℕ → Span → FramedMessage
framed direction tokens m =
    record { direction = direction; start = m.start; size = m.size; tokens = tokens }

-- The messages that a piece completes, given the pieces before it: those in its direction's bytes
-- with it that were not there without it.
abbrev pub completed : ℕ → List Piece → Piece → List FramedMessage
completed limit before piece =
    map (framed piece.direction (piece_tokens piece.direction before + piece.tokens))
    (drop (length (cut limit (stream_of piece.direction before)).spans)
    (cut limit (stream_of piece.direction before ++ piece.bytes)).spans)

abbrev pub completed_at : ℕ → List Piece → ℕ → Option Piece → List FramedMessage
completed_at limit pieces k None = []
completed_at limit pieces k (Some piece) = completed limit (take k pieces) piece

-- the messages that the first pieces complete, in the order of the pieces; those of one piece in
-- the order of the stream
unfoldable pub merged_within : ℕ → List Piece → ℕ → List FramedMessage
merged_within limit pieces zero = []
merged_within limit pieces (suc k) =
    merged_within limit pieces k ++ completed_at limit pieces k (slice_get pieces k)

-- the merged list
abbrev pub merged : ℕ → List Piece → List FramedMessage
merged limit pieces = merged_within limit pieces (length pieces)

-- where the last byte of a message is, or that of its header if the size is bad
abbrev pub span_finish : ℕ → Span → ℕ
span_finish limit m = if is_size limit m.size then m.start + m.size else m.start + 8
