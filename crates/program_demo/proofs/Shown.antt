-- The text of a demonstration.
use Rattle.std.proofs.Common.{◌≡◌, ℕ, Bool, List, ◌++◌, ap, ◌∙◌, subst, IfOk}
use Rattle.std.specs.declared.result.Result.{Result}
use Rattle.std.specs.declared.result.Result.TheVariants.{Ok, Err}
use Rattle.wl_sigs.specs.Tables.{Interface}
use Rattle.wl_recording.specs.Piece.{Piece}
use Rattle.wl_message.specs.Cut.{usual_limit}
use Rattle.wl_check.specs.Session.{session_of}
use Rattle.wl_check.specs.Trace.{trace_of}
use Rattle.theory_connection.specs.World.{opening_world}
use Rattle.theory_connection.specs.Pair.{PairState, new_pair}
use Rattle.theory_connection.specs.Stands.{Stands}
use Rattle.program_demo.specs.Session.{demo_steps}
use Rattle.program_demo.specs.Playing.{Plays}
use Rattle.program_demo.specs.Agreement.{agreement_line}
use Rattle.program_demo.specs.Moves.{sizes}
use Rattle.program_demo.specs.Demo.{IsShown, IsShownFrom, TellsOfPair}

-- the lines of a borrowed recording, followed by the last line
pub whole_text : (tables : List Interface) (lent pieces : List Piece) (lines text : List ℕ) (agree : Bool)
    (counted objects : ℕ)
    → lines ≡ trace_of tables (session_of usual_limit lent) → lent ≡ pieces → counted ≡ objects
    → text ≡ lines ++ agreement_line agree counted
    → text ≡ trace_of tables (session_of usual_limit pieces) ++ agreement_line agree objects
whole_text tables lent pieces lines text agree counted objects traced same number written =
    let by_lines = ap (λ (xs : List ℕ). xs ++ agreement_line agree counted) traced in
    let by_pieces = ap (λ (ps : List Piece). trace_of tables (session_of usual_limit ps)
    ++ agreement_line agree counted) same in
    let by_number = ap (λ (n : ℕ). trace_of tables (session_of usual_limit pieces) ++ agreement_line agree n) number in
    written ∙ (by_lines ∙ (by_pieces ∙ by_number))

-- a text about a pair after the session
pub shown_from : {X E : Type 0} (items : X → List ℕ) (tables : List Interface) (piece : ℕ) (pair last : PairState)
    (result : Result X E) → Plays (demo_steps tables piece) pair last
    → IfOk result (λ x. TellsOfPair tables last (items x))
    → IfOk result (λ x. IsShownFrom tables piece pair (items x))
shown_from items tables piece pair last (Ok x) played told = record {
  last = last;
  played = played;
  told = told;
}
shown_from items tables piece pair last (Err e) played told = tt

-- that pair is new
pub shown_of_new : {X E : Type 0} (items : X → List ℕ) (tables : List Interface) (piece : ℕ) (pair : PairState)
    (result : Result X E) → pair ≡ new_pair tables sizes sizes
    → Stands pair opening_world
    → IfOk result (λ x. IsShownFrom tables piece pair (items x))
    → IfOk result (λ x. IsShown tables piece (items x))
shown_of_new items tables piece pair (Ok x) begins standing shown = record {
  last = shown.last;
  begins = subst (λ (p : PairState). Stands p opening_world) begins standing;
  played = subst (λ (p : PairState). Plays (demo_steps tables piece) p shown.last) begins shown.played;
  told = shown.told;
}
shown_of_new items tables piece pair (Err e) begins standing shown = tt
