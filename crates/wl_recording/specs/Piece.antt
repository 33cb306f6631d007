-- What is exchanged between two ends, one piece at a time.
use Rattle.std.specs.Prelude.{◌≡◌, ℕ, ◌-◌, ◌≤◌, ◌==◌, ◌&&◌, nat_lt, if◌then◌else◌, List, [], ◌∷◌}
use Rattle.std.specs.Prelude.{◌++◌, length}
use Rattle.hex.specs.Hex.{IsBytes}
use Rattle.wl_recording.specs.declared.piece.Direction.{Direction}
use Rattle.wl_recording.specs.declared.piece.Direction.TheVariants.{ToServer, ToClient}
use Rattle.wl_recording.specs.declared.piece.Passed.{Passed}
use Rattle.wl_recording.specs.declared.piece.Appended.{Appended}

-- one piece: which way it went, its bytes, and how many descriptor tokens came with it
pub record Piece : Type 0 where
  pub direction : Direction
  pub bytes : List ℕ
  pub tokens : ℕ

-- a kept piece, apart from where its bytes lie
abbrev pub recorded_piece : {A : Type 0} → Passed A → Piece
recorded_piece kept = record {
  direction = kept.direction;
  bytes = kept.bytes;
  tokens = kept.tokens;
}

-- these bytes if they go this way, else none
abbrev pub own_bytes : Direction → Direction → List ℕ → List ℕ
own_bytes ToServer ToServer bytes = bytes
own_bytes ToServer ToClient bytes = []
own_bytes ToClient ToServer bytes = []
own_bytes ToClient ToClient bytes = bytes

-- This piece was appended: its bytes follow those of its direction, and those of the other
-- direction are unchanged.
pub record IsAppended (piece : Piece) (appended : Appended)
    (server server_after client client_after : List ℕ) : Type 0 where
  pub direction : appended.direction ≡ piece.direction
  pub len : appended.len ≡ length piece.bytes
  pub tokens : appended.tokens ≡ piece.tokens
  pub to_server : server_after ≡ server ++ own_bytes ToServer piece.direction piece.bytes
  pub to_client : client_after ≡ client ++ own_bytes ToClient piece.direction piece.bytes

-- nothing was appended to the bytes of either direction
abbrev pub AreAsBefore : List ℕ → List ℕ → List ℕ → List ℕ → Type 0
AreAsBefore server server_after client client_after =
    (server_after ≡ server) × (client_after ≡ client)

-- a line can represent it: its bytes are below 256, and its tokens at most 65,535
pub record IsTellable (piece : Piece) : Type 0 where
  pub bytes : IsBytes piece.bytes
  pub tokens : piece.tokens ≤ 65535

-- What is recorded if these bytes and tokens, at most 65,536, pass at once: no piece if nothing
-- passed. A piece counts at most 65,535 tokens, so 65,536 are two pieces: 65,535 tokens alone, then
-- the bytes with one.
abbrev pub passed : Direction → List ℕ → ℕ → List Piece
passed direction bytes tokens =
    if nat_lt 65535 tokens
    then record { direction = direction; bytes = []; tokens = 65535 }
    ∷ record { direction = direction; bytes = bytes; tokens = tokens - 65535 } ∷ []
    else (if length bytes == 0 && tokens == 0 then []
    else record { direction = direction; bytes = bytes; tokens = tokens } ∷ [])

-- how many bytes the last piece has; 0 if there is none
abbrev pub last_len : List Piece → ℕ
last_len [] = 0
last_len (piece ∷ []) = length piece.bytes
last_len (piece ∷ next ∷ more) = last_len (next ∷ more)

-- the same pieces, with the bytes of the last replaced
abbrev pub with_last_bytes : List Piece → List ℕ → List Piece
with_last_bytes [] bytes = []
with_last_bytes (piece ∷ []) bytes = record piece { bytes = bytes } ∷ []
with_last_bytes (piece ∷ next ∷ more) bytes = piece ∷ with_last_bytes (next ∷ more) bytes
