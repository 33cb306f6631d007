-- What a demonstration prints.
use Rattle.std.specs.Prelude.{◌≡◌, ◌↔◌, ℕ, Bool, IsTrue, List, ◌++◌}
use Rattle.wl_sigs.specs.Tables.{Interface}
use Rattle.wl_message.specs.Cut.{usual_limit}
use Rattle.wl_check.specs.Session.{session_of}
use Rattle.wl_check.specs.Trace.{trace_of}
use Rattle.theory_connection.specs.World.{opening_world}
use Rattle.theory_connection.specs.Pair.{PairState, new_pair}
use Rattle.theory_connection.specs.Stands.{Stands}
use Rattle.theory_connection.specs.Runs.{Agree}
use Rattle.wl_session.specs.Room.{HaveSameRows, NoEventMakes, client_count, object_count}
use Rattle.program_demo.specs.Agreement.{agreement_line}
use Rattle.program_demo.specs.Moves.{sizes}
use Rattle.program_demo.specs.Session.{demo_steps}
use Rattle.program_demo.specs.Playing.{Plays}

-- The text is the trace of what was carried between the two ends of this pair, and a last line:
-- whether both have the same objects, and how many.
pub record TellsOfPair (tables : List Interface) (pair : PairState) (text : List ℕ) : Type 0 where
  pub agree : Bool
  pub exact : IsTrue agree ↔ Agree pair.client.core.view pair.server.core.view
  -- if no event of the tables makes an object: whether both have the same rows, and the number is
  -- that of the client's objects
  pub rows : NoEventMakes pair.client.core pair.server.core
      → IsTrue agree ↔ HaveSameRows pair.client.core.view pair.server.core.view
  pub of_client : NoEventMakes pair.client.core pair.server.core
      → object_count pair.client.core.view pair.server.core.view
      ≡ client_count pair.client.core.view
  pub whole : text ≡ trace_of tables (session_of usual_limit pair.recording)
      ++ agreement_line agree (object_count pair.client.core.view pair.server.core.view)

-- The text is that of two new ends after the session of both, in which each carry moved at most
-- `piece` bytes. The new ends represent the opening world.
pub record IsShown (tables : List Interface) (piece : ℕ) (text : List ℕ) : Type 0 where
  pub last : PairState
  pub begins : Stands (new_pair tables sizes sizes) opening_world
  pub played : Plays (demo_steps tables piece) (new_pair tables sizes sizes) last
  pub told : TellsOfPair tables last text

-- The text is that of the session of both ends, begun with this pair.
pub record IsShownFrom (tables : List Interface) (piece : ℕ) (pair : PairState) (text : List ℕ)
    : Type 0 where
  pub last : PairState
  pub played : Plays (demo_steps tables piece) pair last
  pub told : TellsOfPair tables last text
