-- The rows to which the requests that are not yet recorded lead.
use Rattle.std.specs.Prelude.{◌≡◌, ◌≢◌, Bool, false, List, [], ◌∷◌, Some}
use Rattle.theory_connection.specs.Meant.{Born, Known}
use Rattle.theory_connection.specs.World.{Row, Open, Ending}
use Rattle.theory_connection.specs.Flight.{Rows, at, with_made, Ask, Use, Make, Destroy, Tell}
use Rattle.theory_connection.specs.Flight.{Fresh, ReadsInFlight}

-- If v is known, all of these requests may be recorded one after another, and then w is known. Each
-- finds, in its turn, that the objects it uses are open; a new object has an id that is free or
-- next, and is the next birth.
pub data Leads (by_event : Born → Bool) : List Ask → Rows Row → Rows Row → Type 0 where
  done : {v : Rows Row} → Leads by_event [] v v
  use_ : {qs : List Ask} {v w : Rows Row} {x : Known}
      → v.rows x.id ≡ Some (Open x.born) → by_event x.born ≡ false
      → Leads by_event qs v w → Leads by_event (Use x ∷ qs) v w
  make : {qs : List Ask} {v w : Rows Row} {x : Known} → Fresh v x
      → Leads by_event qs (with_made v x.id (Open x.born)) w → Leads by_event (Make x ∷ qs) v w
  destroy : {qs : List Ask} {v w : Rows Row} {x : Known}
      → x.id ≢ 1 → v.rows x.id ≡ Some (Open x.born) → by_event x.born ≡ false
      → Leads by_event qs (at v x.id (Some (Ending x.born))) w → Leads by_event (Destroy x ∷ qs) v w

-- A checker of the recording and the client come to the same rows: the checker by the requests that
-- are not yet recorded, the client by the recorded events that it has not yet read.
pub record Joins (by_event : Born → Bool) (later : List Ask) (seen : List Tell)
    (here client : Rows Row) : Type 0 where
  pub common : Rows Row
  pub leads : Leads by_event later here common
  pub reads : ReadsInFlight by_event seen client common
