-- A run of one server with any client, and what is recorded of it, as far as messages and objects
-- go.
use Rattle.std.specs.Prelude.{◌≡◌, ℕ, ◌≤◌, List, [], ◌∷◌, ◌++◌, length, Some}
use Rattle.std.specs.declared.result.Result.TheVariants.{Ok}
use Rattle.wl_sigs.specs.Tables.{Interface}
use Rattle.wl_message.specs.declared.amounts.Sizes.{Sizes}
use Rattle.wl_server.specs.State.{new_state}
use Rattle.wl_recording.specs.declared.piece.Direction.TheVariants.{ToClient}
use Rattle.wl_check.specs.Changes.{Call}
use Rattle.wl_check.specs.Merged.{span, framed}
use Rattle.wl_check.specs.Rules.{judged}
use Rattle.wl_check.specs.Session.{Judged}
use Rattle.theory_connection.specs.Meant.{Born, Known, Message, Coming, Event, Delete}
use Rattle.theory_connection.specs.Meant.{spelled_coming}
use Rattle.theory_connection.specs.World.{Row, answer, delete}
use Rattle.theory_connection.specs.Flight.{Rows, server_rows}
use Rattle.theory_connection.proofs.WholeInFlight.{id_maker, server_ends}
use Rattle.theory_recording.specs.Follows.{KnownAs, birth_places, knowledge}
use Rattle.theory_peers.specs.AcceptedRequest.{IsAcceptedRequest, asked_as}
use Rattle.theory_peers.specs.FollowsServer.{IsAskedAs, MayBeDropped, MayBeTold, IsPlacedIn}
use Rattle.theory_peers.specs.FollowsServer.{after_event, after_request}

-- After a run: the judged messages of its recording, the recorded requests that the server has not
-- read yet, what it has written that is not yet recorded, and its rows.
pub data ServerRun (limit : ℕ) (tables : List Interface) : List Judged
    → List (Message Known) → List (Coming Known) → Rows Born → Type 0 where
  begun : (sizes : Sizes)
      → ServerRun limit tables [] [] [] (server_rows (new_state tables sizes).core.view)
  -- The checker accepts a request at its place, and it is recorded. The client may be any.
  accepts : {e : List Judged} {asked : List (Message Known)} {told : List (Coming Known)}
      {server : Rows Born} → ServerRun limit tables e asked told server
      → (call : Call) → IsAcceptedRequest limit tables e call
      → ServerRun limit tables (e ++ Ok call ∷ []) (asked ++ asked_as tables e call ∷ []) told
      server
  -- A request is recorded that need not be accepted: it fits a signature and names open objects of
  -- those that the checker knows, but it may bind a global that no event advertised.
  asks : {e : List Judged} {asked : List (Message Known)} {told : List (Coming Known)}
      {server : Rows Born} → ServerRun limit tables e asked told server
      → (call : Call) (m : Message Known)
      → ((here : Rows Row) → KnownAs (knowledge tables e) (birth_places tables e) here
      → IsAskedAs tables here call m)
      → ServerRun limit tables (e ++ Ok call ∷ []) (asked ++ m ∷ []) told server
  -- the server reads the first request, and writes the delete of an object of the client that it
  -- destroys
  reads : {e : List Judged} {m : Message Known} {asked : List (Message Known)}
      {told : List (Coming Known)} {server : Rows Born}
      → ServerRun limit tables e (m ∷ asked) told server
      → ServerRun limit tables e asked (told ++ answer id_maker m.ends)
      (after_request server m)
  -- the server writes an event, and the delete of an object that it ends
  writes : {e : List Judged} {asked : List (Message Known)} {told : List (Coming Known)}
      {server : Rows Born} → ServerRun limit tables e asked told server
      → (m : Message Known) → MayBeTold tables server m
      → ServerRun limit tables e asked (told ++ (Event m ∷ delete m.ends))
      (after_event server m)
  drops : {e : List Judged} {asked : List (Message Known)} {told : List (Coming Known)}
      {server : Rows Born} → ServerRun limit tables e asked told server
      → (x : Known) → MayBeDropped tables server x
      → ServerRun limit tables e asked (told ++ Delete x ∷ []) (server_ends (Some x) server)
  -- What the server wrote first is recorded, and judged at its place, whatever the judgement is.
  records : {e : List Judged} {asked : List (Message Known)} {coming : Coming Known}
      {told : List (Coming Known)} {server : Rows Born}
      → ServerRun limit tables e asked (coming ∷ told) server
      → (stream : List ℕ) (place tokens : ℕ)
      → IsPlacedIn limit stream place ((knowledge tables e).taken ToClient) tokens
      (spelled_coming coming)
      → ServerRun limit tables
      (e ++ judged limit tables (knowledge tables e) stream
      (framed ToClient tokens (span place (length (spelled_coming coming).bytes))) ∷ [])
      asked told server

-- each open object has a version of at least 1
abbrev pub HasVersions : Rows Born → Type 0
HasVersions server = (id : ℕ) (x : Born) → server.rows id ≡ Some x → 1 ≤ x.version
