-- Calls of one server with any client, and what is recorded, as far as messages and objects go.
use Rattle.std.specs.Prelude.{◌≡◌, ℕ, ◌<◌, ◌≤◌, ◌^◌, List, [], ◌∷◌, ◌++◌, drop, length, map, take}
use Rattle.std.specs.Prelude.{None, Option, Some}
use Rattle.std.specs.declared.result.Result.TheVariants.{Ok}
use Rattle.wl_wire.specs.declared.kind.Iface.{Iface}
use Rattle.wl_sigs.specs.Side.TheVariants.{Event as event_side}
use Rattle.wl_sigs.specs.Tables.{Interface}
use Rattle.wl_message.specs.Arrived.{Arrived, in_front}
use Rattle.wl_message.specs.Cut.{Whole}
use Rattle.wl_message.specs.Outgoing.{Outgoing, QueuedMessage}
use Rattle.wl_message.specs.declared.amounts.Sizes.{Sizes}
use Rattle.wl_object_map.specs.declared.object.Object.{Object}
use Rattle.wl_object_map.specs.Objects.{ObjectsAreSound}
use Rattle.wl_objects.specs.Writing.{Given}
use Rattle.wl_connection.specs.Receiving.{Found, header_of}
use Rattle.wl_connection.specs.Sending.{after_send, send_answer}
use Rattle.wl_server.specs.Announcing.{after_announce}
use Rattle.wl_server.specs.Calls.{add_refusal, after_drop, after_withdraw, drop_refusal}
use Rattle.wl_server.specs.Calls.{with_global, withdraw_refusal}
use Rattle.wl_server.specs.Registries.{HasRegistries}
use Rattle.wl_server.specs.Requests.{request, state_past}
use Rattle.wl_server.specs.State.{State, most_globals, new_state, with_core}
use Rattle.wl_recording.specs.declared.piece.Direction.TheVariants.{ToClient}
use Rattle.wl_check.specs.Changes.{Call}
use Rattle.wl_check.specs.Merged.{framed, span}
use Rattle.wl_check.specs.Rules.{judged}
use Rattle.wl_check.specs.Session.{Judged}
use Rattle.theory_connection.specs.Meant.{Coming, Known, Message, spelled_coming}
use Rattle.theory_connection.specs.World.{Each}
use Rattle.theory_connection.specs.Flight.{server_rows}
use Rattle.theory_connection.specs.Runs.{FitsWords}
use Rattle.theory_recording.specs.Follows.{knowledge}
use Rattle.theory_peers.specs.AcceptedRequest.{IsAcceptedRequest, asked_as}
use Rattle.theory_peers.specs.AnnouncedGlobals.{AnnouncesOnly}
use Rattle.theory_peers.specs.FollowsServer.{IsPlacedIn}
use Rattle.theory_peers.specs.ReadByServer.{IsSpelledBy}
use Rattle.theory_peers.specs.ServerRun.{ServerRun}

-- what holds for any server between two calls, by the invariants of its types
pub record IsSoundServer (state : State) : Type 0 where
  pub objects : ObjectsAreSound state.core.view
  pub registries : HasRegistries state.core.view state.registries
  pub few : length state.globals ≤ most_globals

-- the outbox has these messages in addition, at its end
abbrev pub Appends : State → List QueuedMessage → State → Type 0
Appends before news after = after.core.outbox.messages ≡ before.core.outbox.messages ++ news

-- After calls: the judged messages of the recording, the recorded requests that the server has not
-- read yet, the messages that it has written and that are not yet recorded, and its state.
pub data ServerCalls (limit : ℕ) (tables : List Interface) : List Judged
    → List (Message Known) → List QueuedMessage → State → Type 0 where
  begun : (sizes : Sizes) → ServerCalls limit tables [] [] [] (new_state tables sizes)
  -- The checker accepts a request at its place, and it is recorded. The client may be any.
  accepts : {e : List Judged} {asked : List (Message Known)} {written : List QueuedMessage}
      {state : State} → ServerCalls limit tables e asked written state
      → (call : Call) → IsAcceptedRequest limit tables e call
      → ServerCalls limit tables (e ++ Ok call ∷ []) (asked ++ asked_as tables e call ∷ [])
      written state
  -- What the server wrote first is recorded, and judged at its place, whatever the judgement is.
  records : {e : List Judged} {asked : List (Message Known)} {sent : QueuedMessage}
      {written : List QueuedMessage} {state : State}
      → ServerCalls limit tables e asked (sent ∷ written) state
      → (stream : List ℕ) (place tokens : ℕ)
      → IsPlacedIn limit stream place ((knowledge tables e).taken ToClient) tokens sent
      → ServerCalls limit tables
      (e ++ judged limit tables (knowledge tables e) stream
      (framed ToClient tokens (span place (length sent.bytes))) ∷ [])
      asked written state
  -- bytes and tokens arrive, or are taken away
  carries : {e : List Judged} {asked : List (Message Known)} {written : List QueuedMessage}
      {state : State} → ServerCalls limit tables e asked written state
      → (inbox : Arrived) (outbox : Outgoing)
      → ServerCalls limit tables e asked written
      (with_core state (record state.core { inbox = inbox; outbox = outbox }))
  -- `next` takes the request in front, whose bytes spell the first that was recorded
  reads : {e : List Judged} {m : Message Known} {asked : List (Message Known)}
      {written : List QueuedMessage} {state : State}
      → ServerCalls limit tables e (m ∷ asked) written state
      → IsSoundServer state → (n : ℕ) → in_front state.core.inbox ≡ Whole n
      → IsSpelledBy state.core.tables m (header_of state.core.inbox.bytes)
      (drop 8 (take n state.core.inbox.bytes)) (length state.core.inbox.tokens)
      → (found : Found) → request state ≡ Ok (Some found)
      → (news : List QueuedMessage) → Appends state news (state_past state found)
      → ServerCalls limit tables e asked (written ++ news) (state_past state found)
  sends : {e : List Judged} {asked : List (Message Known)} {written : List QueuedMessage}
      {state : State} → ServerCalls limit tables e asked written state
      → IsSoundServer state → (target : Object) (opcode : ℕ) (given : List Given)
      (new : Option Object) → Each FitsWords given
      → send_answer state.core event_side target opcode given ≡ Ok new
      → (news : List QueuedMessage)
      → Appends state news (with_core state (after_send state.core event_side target opcode given))
      → ServerCalls limit tables e asked (written ++ news)
      (with_core state (after_send state.core event_side target opcode given))
  drops : {e : List Judged} {asked : List (Message Known)} {written : List QueuedMessage}
      {state : State} → ServerCalls limit tables e asked written state
      → (object : Object) → drop_refusal state.core object ≡ None
      → (news : List QueuedMessage)
      → Appends state news (with_core state (after_drop state.core object))
      → ServerCalls limit tables e asked (written ++ news)
      (with_core state (after_drop state.core object))
  announces : {e : List Judged} {asked : List (Message Known)} {written : List QueuedMessage}
      {state : State} → ServerCalls limit tables e asked written state
      → IsSoundServer state → (count : ℕ)
      → (news : List QueuedMessage) → Appends state news (after_announce state count)
      → ServerCalls limit tables e asked (written ++ news) (after_announce state count)
  adds : {e : List Judged} {asked : List (Message Known)} {written : List QueuedMessage}
      {state : State} → ServerCalls limit tables e asked written state
      → (iface : Iface) (version : ℕ) → version < 2 ^ 32
      → add_refusal state iface version ≡ None
      → ServerCalls limit tables e asked written (with_global state iface version)
  withdraws : {e : List Judged} {asked : List (Message Known)} {written : List QueuedMessage}
      {state : State} → ServerCalls limit tables e asked written state
      → (name : ℕ) → withdraw_refusal state name ≡ None
      → ServerCalls limit tables e asked written (after_withdraw state name)

-- The calls made a run, in which the server announces only globals that it added; what it has
-- written spells what the run says.
pub record MakesRun (limit : ℕ) (tables : List Interface) (e : List Judged)
    (asked : List (Message Known)) (written : List QueuedMessage) (state : State) : Type 0 where
  pub told : List (Coming Known)
  pub run : ServerRun limit tables e asked told (server_rows state.core.view)
  pub only : AnnouncesOnly state.globals run
  pub spelled : map spelled_coming told ≡ written
