-- What it means to play a session.
use Rattle.std.specs.Prelude.{◌≡◌, Bool, true, false, nat_lt, List, [], ◌∷◌, Option, Some}
use Rattle.std.specs.List.{list_any}
use Rattle.std.specs.declared.result.Result.{Result}
use Rattle.std.specs.declared.result.Result.TheVariants.{Ok, Err}
use Rattle.wl_objects.specs.declared.error.SendError.TheVariants as refusals
use Rattle.wl_objects.specs.declared.error.NextError.{NextError}
use Rattle.wl_objects.specs.declared.error.NextError.TheVariants as errors
use Rattle.wl_server.specs.declared.globals.GlobalError.TheVariants as global_errors
use Rattle.theory_connection.specs.World.{World}
use Rattle.theory_connection.specs.Pair.{PairState, Move, Reply, ClientSend, ClientBind, ServerSend}
use Rattle.theory_connection.specs.Pair.{AddGlobal, Announce, CarryToServer, CarryToClient}
use Rattle.theory_connection.specs.Pair.{ClientNext, ServerNext, CarryOutcome, Moved, Memory}
use Rattle.theory_connection.specs.Stands.{Stands}
use Rattle.theory_connection.specs.Runs.{Runs, DoesAll}
use Rattle.program_demo.specs.Session.{DemoStep, Once, Until}

abbrev pub moves_bytes : CarryOutcome → Bool
moves_bytes (Moved fed) = nat_lt 0 fed.bytes
moves_bytes Memory = false

abbrev pub finds : {R : Type 0} → Result (Option R) NextError → Bool
finds (Ok (Some report)) = true
finds _ = false

-- whether a carry moved something, or a read found a message
abbrev pub does_something : Reply → Bool
does_something (CarryToServer carried) = moves_bytes carried
does_something (CarryToClient carried) = moves_bytes carried
does_something (ServerNext answer) = finds answer
does_something (ClientNext answer) = finds answer
does_something _ = false

-- whether there was no memory for a move
abbrev pub lacks_memory : Reply → Bool
lacks_memory (ClientSend (Err refusals.Memory)) = true
lacks_memory (ClientBind (Err refusals.Memory)) = true
lacks_memory (ServerSend (Err refusals.Memory)) = true
lacks_memory (AddGlobal (Err global_errors.Memory)) = true
lacks_memory (Announce (Err refusals.Memory)) = true
lacks_memory (CarryToServer Memory) = true
lacks_memory (CarryToClient Memory) = true
lacks_memory (ClientNext (Err errors.Memory)) = true
lacks_memory (ServerNext (Err errors.Memory)) = true
lacks_memory _ = false

-- The moves with their replies are those of a session: each part once, or until the last reply says
-- that nothing was done; and there was memory for each move.
pub data FollowsSteps : List DemoStep → List Move → List Reply → Type 0 where
  finished : FollowsSteps [] [] []
  once : {parts : List DemoStep} {move : Move} {moves : List Move}
      {reply : Reply} {replies : List Reply}
      → lacks_memory reply ≡ false → FollowsSteps parts moves replies
      → FollowsSteps (Once move ∷ parts) (move ∷ moves) (reply ∷ replies)
  again : {parts : List DemoStep} {move : Move} {moves : List Move}
      {reply : Reply} {replies : List Reply}
      → lacks_memory reply ≡ false → does_something reply ≡ true
      → FollowsSteps (Until move ∷ parts) moves replies
      → FollowsSteps (Until move ∷ parts) (move ∷ moves) (reply ∷ replies)
  at_last : {parts : List DemoStep} {move : Move} {moves : List Move}
      {reply : Reply} {replies : List Reply}
      → lacks_memory reply ≡ false → does_something reply ≡ false → FollowsSteps parts moves replies
      → FollowsSteps (Until move ∷ parts) (move ∷ moves) (reply ∷ replies)

-- Moves that were done, and there was memory for each of them.
pub record Ran (pair : PairState) (moves : List Move) (replies : List Reply) (last : PairState)
    : Type 0 where
  pub does : DoesAll pair moves replies last
  pub runs : (world : World) → Stands pair world → Runs pair world moves replies last
  pub granted : list_any lacks_memory replies ≡ false

-- A session leads from this pair to that one: both ends make each move and reply as their calls
-- say, and so, in any world that the first pair represents, each reply is one that the world
-- allows.
pub record Plays (parts : List DemoStep) (pair last : PairState) : Type 0 where
  pub moves : List Move
  pub replies : List Reply
  pub follows : FollowsSteps parts moves replies
  pub does : DoesAll pair moves replies last
  pub runs : (world : World) → Stands pair world → Runs pair world moves replies last
