-- How much a pair can carry at once, and when two ends have the same objects.
use Rattle.std.specs.Prelude.{◌≡◌, ℕ, ◌+◌, ◌<◌, ◌≤◌, false, List, [], ◌∷◌, Option, Some, None}
use Rattle.wl_sigs.specs.Rules.{has_server_objects}
use Rattle.wl_object_map.specs.declared.object.Entry.{Entry}
use Rattle.wl_object_map.specs.declared.object.State.TheVariants as states
use Rattle.wl_object_map.specs.declared.object.Maker.TheVariants.{Client, Server}
use Rattle.wl_object_map.specs.Ranges.{first_server_id}
use Rattle.wl_object_map.specs.Objects.{Objects, look, row_count}
use Rattle.wl_recording.specs.Piece.{Piece, with_last_bytes}
use Rattle.wl_message.specs.Arrived.{Arrived}
use Rattle.wl_connection.specs.Core.{Core}

-- whatever fits into an inbox fits into this number of bytes and of tokens
pub record HoldsInbox (bytes tokens : ℕ) (inbox : Arrived) : Type 0 where
  pub bytes_fit : inbox.capacity ≤ bytes
  pub tokens_fit : inbox.token_capacity ≤ tokens

-- the pieces with these bytes in the last, if there are any
abbrev pub filled : List Piece → List ℕ → List Piece
filled pieces [] = pieces
filled pieces (byte ∷ bytes) = with_last_bytes pieces (byte ∷ bytes)

-- these are the same live object, or none
pub record AreSame (client server : Option Entry) : Type 0 where
  pub same : client ≡ server
  pub live : (e : Entry) → client ≡ Some e → e.state ≡ states.Live

-- for a used id of the server's range: these are the same live object, or the server has freed the
-- id and the client's object there has ended
pub data AreSameByServer (client server : Option Entry) : Type 0 where
  both_live : (e : Entry) → client ≡ Some e → server ≡ Some e → e.state ≡ states.Live
      → AreSameByServer client server
  was_freed : (e : Entry) → client ≡ Some e → server ≡ None → e.state ≡ states.Zombie
      → AreSameByServer client server

-- the two ends agree at each of the first ids of the server's range, given how many of these were
-- used
abbrev pub SameByServer : ℕ → Objects → Objects → Type 0
SameByServer used client server =
    (id : ℕ) → first_server_id ≤ id → id < first_server_id + used
    → AreSameByServer (look client id) (look server id)

-- how many objects a client has in its own range, including those that it has destroyed and whose
-- delete_id has not come
abbrev pub client_count : Objects → ℕ
client_count client = row_count Client client

-- How many objects two ends have: the client's in the client's range, and the server's in the
-- server's range.
abbrev pub object_count : Objects → Objects → ℕ
object_count client server = client_count client + row_count Server server

-- no event of either end's tables makes an object
pub record NoEventMakes (client server : Core) : Type 0 where
  pub at_client : has_server_objects client.tables ≡ false
  pub at_server : has_server_objects server.tables ≡ false

-- both ends have the same rows under the same ids, all live
pub record HaveSameRows (client server : Objects) : Type 0 where
  pub same : (id : ℕ) → look client id ≡ look server id
  pub live : (id : ℕ) (e : Entry) → look client id ≡ Some e → e.state ≡ states.Live
