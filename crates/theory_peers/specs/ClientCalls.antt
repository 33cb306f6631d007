-- The calls of one client with any server, and what is recorded of it.
use Rattle.std.specs.Prelude.{◌≡◌, ℕ, ◌<◌, ◌^◌, List, [], ◌∷◌, ◌++◌, drop, length, map, take}
use Rattle.std.specs.Prelude.{Option, Some}
use Rattle.std.specs.declared.result.Result.TheVariants.{Ok}
use Rattle.wl_sigs.specs.Side.TheVariants.{Request, Event as event_side}
use Rattle.wl_sigs.specs.Tables.{Interface}
use Rattle.wl_message.specs.Arrived.{Arrived, in_front}
use Rattle.wl_message.specs.Cut.{Whole}
use Rattle.wl_message.specs.Outgoing.{Outgoing, QueuedMessage}
use Rattle.wl_message.specs.declared.amounts.Sizes.{Sizes}
use Rattle.wl_object_map.specs.declared.object.Object.{Object}
use Rattle.wl_object_map.specs.Objects.{ObjectsAreSound}
use Rattle.wl_objects.specs.Writing.{Given}
use Rattle.wl_connection.specs.Receiving.{Found, found, header_of}
use Rattle.wl_connection.specs.Sending.{after_send, send_answer}
use Rattle.wl_client.specs.Calls.{after_bind, bind_answer}
use Rattle.wl_client.specs.Reports.{state_past}
use Rattle.wl_client.specs.State.{State, new_state, with_core}
use Rattle.wl_recording.specs.declared.piece.Direction.TheVariants.{ToServer}
use Rattle.wl_check.specs.Changes.{Call}
use Rattle.wl_check.specs.Merged.{framed, span}
use Rattle.wl_check.specs.Rules.{judged}
use Rattle.wl_check.specs.Session.{Judged}
use Rattle.theory_connection.specs.Meant.{Known, Message, spelled_meant}
use Rattle.theory_connection.specs.World.{Each}
use Rattle.theory_connection.specs.Flight.{client_rows}
use Rattle.theory_connection.specs.Runs.{FitsWords}
use Rattle.theory_recording.specs.Follows.{knowledge}
use Rattle.theory_peers.specs.AcceptedEvent.{IsAcceptedEvent, ServerMessage, told_as}
use Rattle.theory_peers.specs.ClientRun.{ClientRun}
use Rattle.theory_peers.specs.FollowsServer.{IsPlacedIn}
use Rattle.theory_peers.specs.ReadByClient.{SpellsEvent}

-- the outbox has these messages in addition, at its end
abbrev pub AppendsRequests : State → List QueuedMessage → State → Type 0
AppendsRequests before news after =
    after.core.outbox.messages ≡ before.core.outbox.messages ++ news

-- After calls: the judged messages of the recording, the recorded messages of the server that the
-- client has not read yet, the messages that it has written and that are not yet recorded, and its
-- state. (A call that is refused, also for want of memory, changes none of this.)
pub data ClientCalls (limit : ℕ) (tables : List Interface) : List Judged
    → List ServerMessage → List QueuedMessage → State → Type 0 where
  new : (sizes : Sizes) → ClientCalls limit tables [] [] [] (new_state tables sizes)
  -- The checker accepts an event at its place, and it is recorded. The server may be any that gives
  -- no delete_id which was not deserved, and replaces no open object.
  comes : {e : List Judged} {told : List ServerMessage} {written : List QueuedMessage}
      {state : State} → ClientCalls limit tables e told written state
      → (call : Call) → IsAcceptedEvent limit tables e call
      → ClientCalls limit tables (e ++ Ok call ∷ []) (told ++ told_as tables e call ∷ []) written
      state
  -- What the client wrote first is recorded, and judged at its place, whatever the judgement is.
  passes : {e : List Judged} {told : List ServerMessage} {sent : QueuedMessage}
      {written : List QueuedMessage} {state : State}
      → ClientCalls limit tables e told (sent ∷ written) state
      → (stream : List ℕ) (place tokens : ℕ)
      → IsPlacedIn limit stream place ((knowledge tables e).taken ToServer) tokens sent
      → ClientCalls limit tables
      (e ++ judged limit tables (knowledge tables e) stream
      (framed ToServer tokens (span place (length sent.bytes))) ∷ [])
      told written state
  -- bytes and tokens arrive, or are taken away
  carries : {e : List Judged} {told : List ServerMessage} {written : List QueuedMessage}
      {state : State} → ClientCalls limit tables e told written state
      → (inbox : Arrived) (outbox : Outgoing)
      → ClientCalls limit tables e told written
      (with_core state (record state.core { inbox = inbox; outbox = outbox }))
  -- `next` takes the event in front, whose bytes spell the first that was recorded
  takes : {e : List Judged} {s : ServerMessage} {told : List ServerMessage}
      {written : List QueuedMessage} {state : State}
      → ClientCalls limit tables e (s ∷ told) written state
      → ObjectsAreSound state.core.view → (n : ℕ) → in_front state.core.inbox ≡ Whole n
      → SpellsEvent state.core.tables s.event (header_of state.core.inbox.bytes)
      (drop 8 (take n state.core.inbox.bytes)) (length state.core.inbox.tokens)
      → (it : Found) → found state.core event_side ≡ Ok (Some it)
      → ClientCalls limit tables e told written (state_past state it)
  sends : {e : List Judged} {told : List ServerMessage} {written : List QueuedMessage}
      {state : State} → ClientCalls limit tables e told written state
      → ObjectsAreSound state.core.view → (target : Object) (opcode : ℕ) (given : List Given)
      (new_object : Option Object) → Each FitsWords given
      → send_answer state.core Request target opcode given ≡ Ok new_object
      → (news : List QueuedMessage)
      → AppendsRequests state news
      (with_core state (after_send state.core Request target opcode given))
      → ClientCalls limit tables e told (written ++ news)
      (with_core state (after_send state.core Request target opcode given))
  binds : {e : List Judged} {told : List ServerMessage} {written : List QueuedMessage}
      {state : State} → ClientCalls limit tables e told written state
      → ObjectsAreSound state.core.view → (target : Object) (name : ℕ) (iface : List ℕ)
      (version : ℕ) (new_object : Option Object) → name < 2 ^ 32 → version < 2 ^ 32
      → bind_answer state target name iface version ≡ Ok new_object
      → (news : List QueuedMessage)
      → AppendsRequests state news (after_bind state target name iface version)
      → ClientCalls limit tables e told (written ++ news)
      (after_bind state target name iface version)

-- The calls made a run; what the client has written spells what the run says.
pub record MakesClientRun (limit : ℕ) (tables : List Interface) (e : List Judged)
    (told : List ServerMessage) (written : List QueuedMessage) (state : State) : Type 0 where
  pub asked : List (Message Known)
  pub run : ClientRun limit tables e asked told (client_rows state.core.view) state.globals
  pub spelled : map spelled_meant asked ≡ written
