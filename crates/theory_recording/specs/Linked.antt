-- When a pair, its world and its recording are linked.
use Rattle.std.specs.Prelude.{◌≡◌, ℕ, ◌≤◌, true, List, [], ◌∷◌, ◌++◌, length, map, take}
use Rattle.wl_sigs.specs.Tables.{Interface}
use Rattle.wl_message.specs.Arrived.{Arrived}
use Rattle.wl_message.specs.Outgoing as boxes
use Rattle.wl_message.specs.Outgoing.{waiting_bytes, newly_begun, all_tokens, after_taking}
use Rattle.wl_recording.specs.declared.piece.Direction.{Direction}
use Rattle.wl_recording.specs.declared.piece.Direction.TheVariants.{ToServer, ToClient}
use Rattle.wl_recording.specs.Piece.{Piece, passed}
use Rattle.wl_check.specs.Places.{KnownAtPlace as Knows}
use Rattle.wl_check.specs.Session.{Judged, IsLawful, messages, session_of}
use Rattle.theory_connection.specs.Meant.{Known, Message, Coming, spelled_meant, spelled_coming}
use Rattle.theory_connection.specs.World.{World, Running, Each}
use Rattle.theory_connection.specs.Pair.{PairState, Move, Reply}
use Rattle.theory_connection.specs.Flight.{client_rows, server_rows, births_in, all_tells, IsBelow}
use Rattle.theory_connection.specs.Answers.{Answers}
use Rattle.theory_connection.specs.Stands.{Stands, StandsBy}
use Rattle.theory_recording.specs.Recorded.{Recorded}
use Rattle.theory_recording.specs.Follows.{Follows, knowledge}

-- the messages of a recording, each judged at its place, by this limit
abbrev pub judgements : ℕ → List Interface → List Piece → List Judged
judgements limit tables pieces = messages tables (session_of limit pieces)

-- the limit of both ends
abbrev pub pair_limit : PairState → ℕ
pair_limit p = p.server.core.inbox.limit.bytes

-- the messages of a pair's recording, and what the checker knows after them
abbrev pub judged_in : PairState → List Judged
judged_in p = judgements (pair_limit p) p.server.core.tables p.recording

abbrev pub knows : PairState → Knows
knows p = knowledge p.server.core.tables (judged_in p)

-- Of these messages, which are in flight in one direction, the first were recorded and the others
-- were not.
pub record RecordedOf {M : Type 0} (as_sent : M → boxes.QueuedMessage) (limit : ℕ)
    (direction : Direction)
    (pieces : List Piece) (inbox : Arrived) (taken : ℕ) (messages : List M) : Type 0 where
  pub seen : List M
  pub later : List M
  pub is : messages ≡ seen ++ later
  -- the direction's stream, and its tokens
  pub recorded : Recorded limit direction pieces inbox taken (map as_sent seen)

-- These requests and events are in flight, and in each direction the first were recorded and the
-- others were not. What was recorded is lawful so far, and a checker of it follows the ends.
pub record LinkedBy (p : PairState) (w : World) (asked : List (Message Known))
    (told : List (Coming Known)) : Type 0 where
  pub stands : StandsBy p w asked told
  pub requests : RecordedOf spelled_meant (pair_limit p) ToServer p.recording p.server.core.inbox
      ((knows p).taken ToServer) asked
  pub events : RecordedOf spelled_coming (pair_limit p) ToClient p.recording p.client.core.inbox
      ((knows p).taken ToClient) told
  -- what the checker knows, and how the ends differ from it
  pub follows : Follows p.server.core.tables (judged_in p) requests.later events.seen
      (client_rows p.client.core.view) p.client.globals
  -- the server has counted what each event in flight concerns
  pub counted : Each (IsBelow (births_in (server_rows p.server.core.view))) (all_tells told)

-- The pieces in which an outbox gives what waits in it: any front part of it, then any front part
-- of what is left, and so on; the rest stays.
pub data GivesInPieces : boxes.Outgoing → List Piece → Type 0 where
  nothing : {from : boxes.Outgoing} → GivesInPieces from []
  piece : {from : boxes.Outgoing} {others : List Piece} (n : ℕ)
      → n ≤ length (waiting_bytes from) → GivesInPieces (after_taking from n) others
      → GivesInPieces from (passed ToClient (take n (waiting_bytes from))
      (length (all_tokens (newly_begun from n))) ++ others)

-- The server has posted an error and gives nothing but what waits in its outbox. In whatever pieces
-- that is recorded, the recording is lawful.
pub record RecordsToEnd (p : PairState) : Type 0 where
  pub failed : p.server.core.failed ≡ true
  pub lawful : (more : List Piece) → GivesInPieces p.server.core.outbox more
      → IsLawful p.server.core.tables (session_of (pair_limit p) (p.recording ++ more))

-- The pair's recording is linked with its world: so far, or to its end.
pub data Linked (p : PairState) (w : World) : Type 0 where
  linked : (asked : List (Message Known)) (told : List (Coming Known))
      → w.stage ≡ Running → LinkedBy p w asked told → Linked p w
  posted : Stands p w → RecordsToEnd p → Linked p w

-- The run of these moves: each pair is linked with its world, and each reply is one that the world
-- allows.
abbrev pub RunsLinked : PairState → World → List Move → List Reply → PairState → Type 0
RunsLinked pair world [] [] last = pair ≡ last
RunsLinked pair world (move ∷ moves) (reply ∷ replies) last =
    (next : PairState) × (world' : World)
    × Answers pair world move reply next world' × Linked next world'
    × RunsLinked next world' moves replies last
RunsLinked pair world _ _ last = ⊥

-- a step of a linked pair: the world allows the reply, and the pair is linked again
pub record LinksOn (p : PairState) (w : World) (move : Move) (reply : Reply) (p' : PairState)
    : Type 0 where
  pub world : World
  pub answers : Answers p w move reply p' world
  pub links : Linked p' world
