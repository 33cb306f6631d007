-- A run of one client with any server, and what is recorded of it, as far as messages and objects
-- go.
use Rattle.std.specs.Prelude.{◌≡◌, ℕ, ◌≤◌, List, [], ◌∷◌, ◌++◌, length, Some}
use Rattle.std.specs.declared.result.Result.TheVariants.{Ok}
use Rattle.wl_sigs.specs.Tables.{Interface}
use Rattle.wl_message.specs.declared.amounts.Sizes.{Sizes}
use Rattle.wl_client.specs.declared.globals.Global.{Global}
use Rattle.wl_client.specs.State.{new_state}
use Rattle.wl_recording.specs.declared.piece.Direction.TheVariants.{ToServer}
use Rattle.wl_check.specs.Changes.{Call}
use Rattle.wl_check.specs.Merged.{span, framed}
use Rattle.wl_check.specs.Rules.{judged}
use Rattle.wl_check.specs.Session.{Judged}
use Rattle.theory_connection.specs.Meant.{Born, Known, Message, spelled_meant}
use Rattle.theory_connection.specs.World.{Row, Open}
use Rattle.theory_connection.specs.Flight.{Rows, client_rows}
use Rattle.theory_recording.specs.Follows.{knowledge}
use Rattle.theory_peers.specs.AcceptedEvent.{IsAcceptedEvent, ServerMessage, told_as}
use Rattle.theory_peers.specs.FollowsClient.{MayBeAsked, after_asking, after_learning}
use Rattle.theory_peers.specs.FollowsClient.{after_telling}
use Rattle.theory_peers.specs.FollowsServer.{IsPlacedIn}

-- After a run: the judged messages of its recording, what the client has written that is not yet
-- recorded, the recorded messages of the server that the client has not read yet, the client's
-- rows, and the globals that it remembers.
pub data ClientRun (limit : ℕ) (tables : List Interface) : List Judged
    → List (Message Known) → List ServerMessage → Rows Row → List Global → Type 0 where
  new : (sizes : Sizes)
      → ClientRun limit tables [] [] [] (client_rows (new_state tables sizes).core.view) []
  -- The checker accepts an event at its place, and it is recorded. The server may be any that gives
  -- no delete_id which was not deserved, and replaces no open object.
  comes : {e : List Judged} {asked : List (Message Known)} {told : List ServerMessage}
      {client : Rows Row} {remembered : List Global}
      → ClientRun limit tables e asked told client remembered
      → (call : Call) → IsAcceptedEvent limit tables e call
      → ClientRun limit tables (e ++ Ok call ∷ []) asked (told ++ told_as tables e call ∷ []) client
      remembered
  -- the client reads the first of what came
  takes : {e : List Judged} {asked : List (Message Known)} {s : ServerMessage}
      {told : List ServerMessage} {client : Rows Row} {remembered : List Global}
      → ClientRun limit tables e asked (s ∷ told) client remembered
      → ClientRun limit tables e asked told (after_telling client s)
      (after_learning tables client s.event remembered)
  -- the client writes a request
  asks : {e : List Judged} {asked : List (Message Known)} {told : List ServerMessage}
      {client : Rows Row} {remembered : List Global}
      → ClientRun limit tables e asked told client remembered
      → (m : Message Known) → MayBeAsked tables client remembered m
      → ClientRun limit tables e (asked ++ m ∷ []) told (after_asking client m) remembered
  -- What the client wrote first is recorded, and judged at its place, whatever the judgement is.
  passes : {e : List Judged} {m : Message Known} {asked : List (Message Known)}
      {told : List ServerMessage} {client : Rows Row} {remembered : List Global}
      → ClientRun limit tables e (m ∷ asked) told client remembered
      → (stream : List ℕ) (place tokens : ℕ)
      → IsPlacedIn limit stream place ((knowledge tables e).taken ToServer) tokens (spelled_meant m)
      → ClientRun limit tables
      (e ++ judged limit tables (knowledge tables e) stream
      (framed ToServer tokens (span place (length (spelled_meant m).bytes))) ∷ [])
      asked told client remembered

-- each object that is open at the client has a version of at least 1
abbrev pub HasVersionsAtClient : Rows Row → Type 0
HasVersionsAtClient client = (id : ℕ) (x : Born) → client.rows id ≡ Some (Open x) → 1 ≤ x.version
