-- A run of one server after it posted an error.
use Rattle.std.specs.Prelude.{◌≡◌, ℕ, ◌<◌, ◌≤◌, ◌^◌, List, [], ◌∷◌, ◌++◌, length, None}
use Rattle.std.specs.List.{All}
use Rattle.wl_sigs.specs.Tables.{Interface}
use Rattle.wl_message.specs.Outgoing.{QueuedMessage, waiting_bytes}
use Rattle.wl_object_map.specs.declared.object.Object.{Object}
use Rattle.wl_server.specs.Calls.{after_error, error_refusal}
use Rattle.wl_server.specs.State.{State, with_core}
use Rattle.wl_recording.specs.Piece.{Piece}
use Rattle.theory_peers.specs.ServerCalls.{IsSoundServer}
use Rattle.theory_peers.specs.ServerStreams.{IsCutInTwo, ServerPlays, WritesWhole, after_take}
use Rattle.theory_peers.specs.ServerStreams.{from_client, from_server}

-- After `post_error`: what is recorded, the pieces that were taken from the server's outbox and are
-- on their way to the recorder, and the server's state. The server has failed: it takes in nothing
-- more and writes nothing more, and what waits in its outbox is still taken.
pub data ServerEnds (limit : ℕ) (tables : List Interface) : List Piece → List Piece → State → Type 0
  where
    posts : {pieces arriving leaving : List Piece} {state : State}
        → ServerPlays limit tables pieces arriving leaving state
        → IsSoundServer state → (object : Object) (code : ℕ) (text : List ℕ) → code < 2 ^ 32
        → error_refusal state.core object text ≡ None
        → (news : List QueuedMessage)
        → WritesWhole limit state news (with_core state (after_error state.core object code text))
        → ServerEnds limit tables pieces leaving
        (with_core state (after_error state.core object code text))
    -- the client still writes, and this is recorded
    hears : {pieces leaving : List Piece} {state : State}
        → ServerEnds limit tables pieces leaving state
        → (bytes : List ℕ) (tokens : ℕ) → All (λ b. b < 256) bytes
        → ServerEnds limit tables (pieces ++ from_client bytes tokens ∷ []) leaving state
    cuts_leaving : {pieces leaving : List Piece} {piece : Piece} {state : State}
        → ServerEnds limit tables pieces (piece ∷ leaving) state
        → (first second : Piece) → IsCutInTwo piece first second
        → ServerEnds limit tables pieces (first ∷ second ∷ leaving) state
    takes : {pieces leaving : List Piece} {state : State}
        → ServerEnds limit tables pieces leaving state
        → (n : ℕ) → n ≤ length (waiting_bytes state.core.outbox)
        → ServerEnds limit tables pieces (leaving ++ from_server state n ∷ []) (after_take state n)
    records : {pieces leaving : List Piece} {piece : Piece} {state : State}
        → ServerEnds limit tables pieces (piece ∷ leaving) state
        → ServerEnds limit tables (pieces ++ piece ∷ []) leaving state
