-- A run of one server with any client, by bytes: the pieces in which they pass, the server's calls,
-- and what is recorded.
use Rattle.std.specs.Prelude.{◌≡◌, ℕ, ◌+◌, ◌<◌, ◌≤◌, ◌^◌, false, List, [], ◌∷◌, ◌++◌, length, take}
use Rattle.std.specs.Prelude.{None, Option, Some, slice_get}
use Rattle.std.specs.List.{All}
use Rattle.std.specs.declared.result.Result.TheVariants.{Err, Ok}
use Rattle.wl_wire.specs.declared.kind.Iface.{Iface}
use Rattle.wl_sigs.specs.Side.TheVariants.{Event as event_side}
use Rattle.wl_sigs.specs.Tables.{Interface}
use Rattle.wl_message.specs.Arrived.{with_more}
use Rattle.wl_message.specs.Cut.{IsMessage}
use Rattle.wl_message.specs.Outgoing.{QueuedMessage, after_taking, all_tokens, newly_begun}
use Rattle.wl_message.specs.Outgoing.{waiting_bytes}
use Rattle.wl_message.specs.declared.amounts.Sizes.{Sizes}
use Rattle.wl_object_map.specs.declared.object.Object.{Object}
use Rattle.wl_objects.specs.declared.error.Fault.{Fault}
use Rattle.wl_objects.specs.Writing.{Given}
use Rattle.wl_connection.specs.Receiving.{Found}
use Rattle.wl_connection.specs.Sending.{after_send, send_answer}
use Rattle.wl_server.specs.Announcing.{after_announce}
use Rattle.wl_server.specs.Calls.{add_refusal, after_drop, after_withdraw, drop_refusal}
use Rattle.wl_server.specs.Calls.{with_global, withdraw_refusal}
use Rattle.wl_server.specs.Requests.{after_fault, request, state_past}
use Rattle.wl_server.specs.State.{State, new_state, with_core}
use Rattle.wl_recording.specs.declared.piece.Direction.TheVariants.{ToClient, ToServer}
use Rattle.wl_recording.specs.Piece.{Piece}
use Rattle.wl_check.specs.declared.frames.FramedMessage.{FramedMessage}
use Rattle.wl_check.specs.Session.{Session, breaks}
use Rattle.theory_connection.specs.World.{Each}
use Rattle.theory_connection.specs.Runs.{FitsWords}
use Rattle.theory_peers.specs.ServerCalls.{Appends, IsSoundServer}

-- A piece on its way is cut in two, anywhere. Its tokens come no later than its first byte: the
-- second part has tokens only if the first has no bytes.
pub record IsCutInTwo (piece first second : Piece) : Type 0 where
  pub first_direction : first.direction ≡ piece.direction
  pub second_direction : second.direction ≡ piece.direction
  pub bytes : piece.bytes ≡ first.bytes ++ second.bytes
  pub tokens : piece.tokens ≡ first.tokens + second.tokens
  pub no_later : 0 < length first.bytes → second.tokens ≡ 0

-- what a client wrote
abbrev pub from_client : List ℕ → ℕ → Piece
from_client bytes tokens = record { direction = ToServer; bytes = bytes; tokens = tokens }

-- the first n bytes of what waits in a server's outbox, with their tokens
abbrev pub from_server : State → ℕ → Piece
from_server state n = record {
  direction = ToClient;
  bytes = take n (waiting_bytes state.core.outbox);
  tokens = length (all_tokens (newly_begun state.core.outbox n));
}

-- the server after bytes and tokens were appended to what waits in its inbox
abbrev pub after_feed : State → List ℕ → List ℕ → State
after_feed state bytes tokens =
    with_core state (record state.core { inbox = with_more state.core.inbox bytes tokens })

-- the server after the first n bytes that wait in its outbox were taken
abbrev pub after_take : State → ℕ → State
after_take state n =
    with_core state (record state.core { outbox = after_taking state.core.outbox n })

-- A call writes these messages: they are added at the end of the outbox. Each is whole and within
-- the limit, as the outbox requires.
pub record WritesWhole (limit : ℕ) (before : State) (news : List QueuedMessage) (after : State)
    : Type 0 where
  pub appended : Appends before news after
  pub whole : Each (λ m. IsMessage limit m.bytes) news

-- After a run: what is recorded, the pieces that were recorded and are on their way to the server,
-- those that were taken from the server's outbox and are on their way to the recorder, and the
-- server's state. A call that is refused, for want of memory or of room, changes nothing and is no
-- step; so is a read that finds no whole message. If a call takes in only a part of a piece, then
-- the piece is cut first.
pub data ServerPlays (limit : ℕ) (tables : List Interface) : List Piece → List Piece → List Piece
    → State → Type 0 where
  begins : (sizes : Sizes) → sizes.limit.bytes ≡ limit
      → ServerPlays limit tables [] [] [] (new_state tables sizes)
  -- the client writes bytes, whatever they are, and tokens, and these are recorded
  hears : {pieces arriving leaving : List Piece} {state : State}
      → ServerPlays limit tables pieces arriving leaving state
      → (bytes : List ℕ) (tokens : ℕ) → All (λ b. b < 256) bytes
      → ServerPlays limit tables (pieces ++ from_client bytes tokens ∷ [])
      (arriving ++ from_client bytes tokens ∷ []) leaving state
  -- a piece on its way to the server, or from it, is cut anew
  cuts_arriving : {pieces arriving leaving : List Piece} {piece : Piece} {state : State}
      → ServerPlays limit tables pieces (piece ∷ arriving) leaving state
      → (first second : Piece) → IsCutInTwo piece first second
      → ServerPlays limit tables pieces (first ∷ second ∷ arriving) leaving state
  cuts_leaving : {pieces arriving leaving : List Piece} {piece : Piece} {state : State}
      → ServerPlays limit tables pieces arriving (piece ∷ leaving) state
      → (first second : Piece) → IsCutInTwo piece first second
      → ServerPlays limit tables pieces arriving (first ∷ second ∷ leaving) state
  -- `feed` takes in the next piece
  feeds : {pieces arriving leaving : List Piece} {piece : Piece} {state : State}
      → ServerPlays limit tables pieces (piece ∷ arriving) leaving state
      → (tokens : List ℕ) → length tokens ≡ piece.tokens
      → ServerPlays limit tables pieces arriving leaving (after_feed state piece.bytes tokens)
  -- `take` or `consume` takes the first n bytes out of the outbox
  takes : {pieces arriving leaving : List Piece} {state : State}
      → ServerPlays limit tables pieces arriving leaving state
      → (n : ℕ) → n ≤ length (waiting_bytes state.core.outbox)
      → ServerPlays limit tables pieces arriving (leaving ++ from_server state n ∷ [])
      (after_take state n)
  -- the next piece from the server is recorded
  records : {pieces arriving leaving : List Piece} {piece : Piece} {state : State}
      → ServerPlays limit tables pieces arriving (piece ∷ leaving) state
      → ServerPlays limit tables (pieces ++ piece ∷ []) arriving leaving state
  -- `next` takes the request in front
  reads : {pieces arriving leaving : List Piece} {state : State}
      → ServerPlays limit tables pieces arriving leaving state
      → IsSoundServer state → state.core.failed ≡ false
      → (found : Found) → request state ≡ Ok (Some found)
      → (news : List QueuedMessage) → WritesWhole limit state news (state_past state found)
      → ServerPlays limit tables pieces arriving leaving (state_past state found)
  -- `next` meets a fault and answers it
  fails : {pieces arriving leaving : List Piece} {state : State}
      → ServerPlays limit tables pieces arriving leaving state
      → IsSoundServer state → state.core.failed ≡ false
      → (fault : Fault) → request state ≡ Err fault
      → ServerPlays limit tables pieces arriving leaving (after_fault state fault)
  sends : {pieces arriving leaving : List Piece} {state : State}
      → ServerPlays limit tables pieces arriving leaving state
      → IsSoundServer state → (target : Object) (opcode : ℕ) (given : List Given)
      (new : Option Object) → Each FitsWords given
      → send_answer state.core event_side target opcode given ≡ Ok new
      → (news : List QueuedMessage)
      → WritesWhole limit state news
      (with_core state (after_send state.core event_side target opcode given))
      → ServerPlays limit tables pieces arriving leaving
      (with_core state (after_send state.core event_side target opcode given))
  drops : {pieces arriving leaving : List Piece} {state : State}
      → ServerPlays limit tables pieces arriving leaving state
      → (object : Object) → drop_refusal state.core object ≡ None
      → (news : List QueuedMessage)
      → WritesWhole limit state news (with_core state (after_drop state.core object))
      → ServerPlays limit tables pieces arriving leaving
      (with_core state (after_drop state.core object))
  announces : {pieces arriving leaving : List Piece} {state : State}
      → ServerPlays limit tables pieces arriving leaving state
      → IsSoundServer state → (count : ℕ)
      → (news : List QueuedMessage) → WritesWhole limit state news (after_announce state count)
      → ServerPlays limit tables pieces arriving leaving (after_announce state count)
  adds : {pieces arriving leaving : List Piece} {state : State}
      → ServerPlays limit tables pieces arriving leaving state
      → (iface : Iface) (version : ℕ) → version < 2 ^ 32
      → add_refusal state iface version ≡ None
      → ServerPlays limit tables pieces arriving leaving (with_global state iface version)
  withdraws : {pieces arriving leaving : List Piece} {state : State}
      → ServerPlays limit tables pieces arriving leaving state
      → (name : ℕ) → withdraw_refusal state name ≡ None
      → ServerPlays limit tables pieces arriving leaving (after_withdraw state name)

-- no request of a session breaks a rule
abbrev pub NoRequestBreaks : List Interface → Session → Type 0
NoRequestBreaks tables session = (place : ℕ) (frame : FramedMessage)
    → slice_get session.frames place ≡ Some frame → frame.direction ≡ ToServer
    → breaks tables session place ≡ None
