-- The session of the demonstration in parts. What the two ends write is carried in pieces.
use Rattle.std.specs.Prelude.{ℕ, List, [], ◌∷◌, ◌++◌, map}
use Rattle.wl_sigs.specs.Tables.{Interface}
use Rattle.theory_connection.specs.Pair.{Move, CarryToServer, CarryToClient, ClientNext, ServerNext}
use Rattle.program_demo.specs.Moves.{adding_globals, getting_registry, announcing_globals}
use Rattle.program_demo.specs.Moves.{binding_globals, finishing_callback, drawing_surface}

-- A part of a session: a move made once, or repeated until it does nothing more.
pub data DemoStep : Type 0 where
  Once : Move → DemoStep
  Until : Move → DemoStep

abbrev pub each_once : List Move → List DemoStep
each_once moves = map Once moves

-- all that waits is carried to the server, at most `piece` bytes at once, and read there; or the
-- same to the client
abbrev pub to_server : ℕ → List DemoStep
to_server piece = Until (CarryToServer piece) ∷ Until ServerNext ∷ []

abbrev pub to_client : ℕ → List DemoStep
to_client piece = Until (CarryToClient piece) ∷ Until ClientNext ∷ []

-- the whole session
abbrev pub demo_steps : List Interface → ℕ → List DemoStep
demo_steps tables piece =
    each_once (adding_globals tables)
    ++ each_once getting_registry ++ to_server piece
    ++ each_once announcing_globals ++ to_client piece
    ++ each_once binding_globals ++ to_server piece
    ++ each_once finishing_callback ++ to_client piece
    ++ each_once drawing_surface ++ to_server piece
    ++ to_client piece
