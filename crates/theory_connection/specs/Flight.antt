-- What is in flight, split into the smallest actions, and the states that it leads to.
use Rattle.std.specs.Prelude.{◌≡◌, ◌≢◌, ◌⊎◌, ℕ, ◌+◌, ◌<◌, ◌≤◌, Bool, true, false, cond, ltb, nat_eq}
use Rattle.std.specs.Prelude.{if◌then◌else◌, List, [], ◌∷◌, ◌++◌, map, Option, Some, None}
use Rattle.std.specs.Prelude.{option_map}
use Rattle.wl_object_map.specs.Ranges.{is_of_server, wire_id, max_server_id}
use Rattle.wl_object_map.specs.View.{max_ids, max_births}
use Rattle.wl_object_map.specs.Objects.{Objects, look}
use Rattle.wl_object_map.specs.declared.object.Entry.{Entry}
use Rattle.wl_object_map.specs.declared.object.Maker.{Maker}
use Rattle.wl_object_map.specs.declared.object.Maker.TheVariants.{Client, Server}
use Rattle.wl_object_map.specs.declared.object.State.{State}
use Rattle.wl_object_map.specs.declared.object.State.TheVariants as states
use Rattle.theory_connection.specs.Meant.{client_birth, server_birth, IsAmongFirst, Born, Known}
use Rattle.theory_connection.specs.Meant.{Message, Coming}
use Rattle.theory_connection.specs.Meant.{Event, Delete as delete_of, objects, made_in}
use Rattle.theory_connection.specs.Meant.{born_of_entry}
use Rattle.theory_connection.specs.World.{Row, Open, Ending}

-- what an end has counted in the server's range: the next new id on the wire, and the number of the
-- next birth
pub record Counts : Type 0 where
  pub next : ℕ
  pub births : ℕ

-- An end's objects by id, in both ranges. For the client's range: how many ids were used, and how
-- many births counted. For the server's range: what was counted.
pub record Rows (X : Type 0) : Type 0 where
  pub rows : ℕ → Option X
  pub used : ℕ
  pub births : ℕ
  pub by_server : Counts

-- the rows with this one at an id
unfoldable pub put_row : {X : Type 0} → (ℕ → Option X) → ℕ → Option X → ℕ → Option X
put_row rows id row other = if nat_eq other id then row else rows other

-- an end's objects with this one at an id
abbrev pub at : {X : Type 0} → Rows X → ℕ → Option X → Rows X
at s id o = record s { rows = put_row s.rows id o }

abbrev pub most : ℕ → ℕ → ℕ
most a b = cond (ltb a b) b a

-- an end's objects with a new object of the client at an id
abbrev pub with_made : {X : Type 0} → Rows X → ℕ → X → Rows X
with_made s id x = record s {
  rows = put_row s.rows id (Some x);
  used = most s.used id;
  births = s.births + 1;
}

-- the counts with one more object of the server, at an id that was used or is the next one
abbrev pub one_counted : Counts → ℕ → Counts
one_counted c id = record { next = most c.next (id + 1); births = c.births + 1 }

-- an end's objects with a new object of the server at an id, replacing the row there
abbrev pub with_told : {X : Type 0} → Rows X → ℕ → X → Rows X
with_told s id x = record s {
  rows = put_row s.rows id (Some x);
  by_server = one_counted s.by_server id;
}

-- an object in a table, by its state: open or ending
abbrev pub as_row : State → Born → Row
as_row states.Live x = Open x
as_row states.Zombie x = Ending x

abbrev pub row_of_entry : ℕ → Entry → Row
row_of_entry id e = as_row e.state (born_of_entry id e)

-- what an end's tables have counted in the server's range
abbrev pub counts_of : Objects → Counts
counts_of view =
    record { next = wire_id (view.server.used + 1); births = view.server.births }

abbrev pub client_rows : Objects → Rows Row
client_rows view = record {
  rows = λ id. option_map (row_of_entry id) (look view id);
  used = view.client.used;
  births = view.client.births;
  by_server = counts_of view;
}

abbrev pub server_rows : Objects → Rows Born
server_rows view = record {
  rows = λ id. option_map (born_of_entry id) (look view id);
  used = view.client.used;
  births = view.client.births;
  by_server = counts_of view;
}

-- the number of a maker's next birth
abbrev pub births_in : {X : Type 0} → Rows X → Maker → ℕ
births_in v Client = v.births
births_in v Server = v.by_server.births

-- ---- actions

-- the actions of a request, one after another
pub data Ask : Type 0 where
  Use : Known → Ask
  Make : Known → Ask
  Destroy : Known → Ask

-- the actions of an event
pub data Tell : Type 0 where
  Name : Known → Tell
  Made : Known → Tell
  Destroyed : Known → Tell
  Delete : Known → Tell

abbrev pub make_ask : Option Known → List Ask
make_ask None = []
make_ask (Some x) = Make x ∷ []

abbrev pub destroy_ask : Option Known → List Ask
destroy_ask None = []
destroy_ask (Some x) = Destroy x ∷ []

abbrev pub make_tell : Option Known → List Tell
make_tell None = []
make_tell (Some x) = Made x ∷ []

abbrev pub ends : Option Known → List Tell
ends None = []
ends (Some x) = Destroyed x ∷ []

-- a request uses its target and its objects, then makes, then destroys
abbrev pub asks : Message Known → List Ask
asks m = Use m.target ∷ (map Use (objects m.args)
    ++ (make_ask (made_in m.args) ++ destroy_ask m.ends))

-- an event names its target and its objects, then makes, then ends the object that it destroys
abbrev pub tells : Coming Known → List Tell
tells (Event m) = Name m.target ∷ (map Name (objects m.args)
    ++ (make_tell (made_in m.args) ++ ends m.ends))
tells (delete_of x) = Delete x ∷ []

abbrev pub all_asks : List (Message Known) → List Ask
all_asks [] = []
all_asks (m ∷ ms) = asks m ++ all_asks ms

abbrev pub all_tells : List (Coming Known) → List Tell
all_tells [] = []
all_tells (c ∷ cs) = tells c ++ all_tells cs

-- the object of an event's action
abbrev pub about : Tell → Known
about (Name x) = x
about (Made x) = x
about (Destroyed x) = x
about (Delete x) = x

-- the birth of its object is below its maker's count
abbrev pub IsBelow : (Maker → ℕ) → Tell → Type 0
IsBelow births t = IsAmongFirst births (about t).born.birth

-- the object of a request's action
abbrev pub asked_about : Ask → Known
asked_about (Use x) = x
asked_about (Make x) = x
asked_about (Destroy x) = x

-- the birth of its object is below its maker's count
abbrev pub IsAskedBelow : (Maker → ℕ) → Ask → Type 0
IsAskedBelow births a = IsAmongFirst births (asked_about a).born.birth

-- ---- what they lead to

-- the client has an object, open or ending
abbrev pub IsHeldInRows : Rows Row → Known → Type 0
IsHeldInRows v x = (v.rows x.id ≡ Some (Open x.born)) ⊎ (v.rows x.id ≡ Some (Ending x.born))

-- a new object of the client fits an end's table: its id is free or the next one, and its birth is
-- the client's next
pub record Fresh {X : Type 0} (v : Rows X) (x : Known) : Type 0 where
  pub free : v.rows x.id ≡ None
  pub some : 0 < x.id
  pub next : x.id ≤ v.used + 1
  pub birth : x.born.birth ≡ client_birth v.births
  pub low : x.id ≤ max_ids
  pub left : v.births < max_births

-- The client can read an event that makes this object of the server: the id was used before or is
-- the next one, no open object has it (an ending one may), and the birth is the server's next.
pub record NextTold (v : Rows Row) (x : Known) : Type 0 where
  pub range : is_of_server x.id ≡ true
  pub not_open : (b : Born) → v.rows x.id ≢ Some (Open b)
  pub next : x.id ≤ v.by_server.next
  pub birth : x.born.birth ≡ server_birth v.by_server.births
  pub low : x.id ≤ max_server_id
  pub left : v.by_server.births < max_births

-- the client's row, after all is read, for what the server has
abbrev pub at_client : Option Born → Option Row
at_client o = option_map Open o

-- what the server has, after all is read, for a client's row: the object if it is open, nothing if
-- it is ending
abbrev pub only_open : Option Row → Option Born
only_open (Some (Open x)) = Some x
only_open _ = None

-- The client at v can read all of these events: each finds, in its turn, its objects as they were
-- meant. Then the client is at w. The test says which objects have an interface with a destroying
-- event.
pub data ReadsInFlight (by_event : Born → Bool) : List Tell → Rows Row → Rows Row → Type 0 where
  done : {v : Rows Row} → ReadsInFlight by_event [] v v
  -- the client has what an event names, open or ending
  name : {es : List Tell} {v w : Rows Row} {x : Known} → IsHeldInRows v x
      → ReadsInFlight by_event es v w → ReadsInFlight by_event (Name x ∷ es) v w
  -- an object that an event destroys is one of the client's, its interface has a destroying event,
  -- and it becomes ending
  end : {es : List Tell} {v w : Rows Row} {x : Known} → by_event x.born ≡ true
      → is_of_server x.id ≡ false → IsHeldInRows v x
      → ReadsInFlight by_event es (at v x.id (Some (Ending x.born))) w
      → ReadsInFlight by_event (Destroyed x ∷ es) v w
  -- an event makes an object whose interface has no destroying event, as the server's next one at
  -- the client; it replaces an ending row with its id
  made : {es : List Tell} {v w : Rows Row} {x : Known} → by_event x.born ≡ false → NextTold v x
      → ReadsInFlight by_event es (with_told v x.id (Open x.born)) w
      → ReadsInFlight by_event (Made x ∷ es) v w
  -- a deleted object is one of the client's and the client has it; it is not id 1, and it is ending
  -- if its interface has no destroying event; nothing names it afterwards
  delete : {es : List Tell} {v w : Rows Row} {x : Known} → x.id ≢ 1
      → is_of_server x.id ≡ false → IsHeldInRows v x
      → (by_event x.born ≡ true) ⊎ (v.rows x.id ≡ Some (Ending x.born))
      → ReadsInFlight by_event es (at v x.id None) w → ReadsInFlight by_event (Delete x ∷ es) v w

-- The server at s can read all of these requests. The client will be at m once it has read all
-- events written so far, and then reads the deletes that follow from the requests. In the end the
-- client's open objects are those of the server, and in its own range the client has nothing else.
pub data Tied (by_event : Born → Bool) : List Ask → Rows Born → Rows Row → Type 0 where
  -- nothing is in flight: both have the same counts, the client's open objects are the server's,
  -- and the client's range has nothing else
  drained : {s : Rows Born} {m : Rows Row} → ((id : ℕ) → only_open (m.rows id) ≡ s.rows id)
      → ((id : ℕ) → is_of_server id ≡ false → m.rows id ≡ at_client (s.rows id))
      → m.used ≡ s.used → m.births ≡ s.births → m.by_server ≡ s.by_server → Tied by_event [] s m
  -- what a request names is open at the server, and its interface has no destroying event
  use_ : {qs : List Ask} {s : Rows Born} {m : Rows Row} {x : Known}
      → s.rows x.id ≡ Some x.born → by_event x.born ≡ false
      → Tied by_event qs s m → Tied by_event (Use x ∷ qs) s m
  -- the births made by requests are, in order, those from the server's number on, and each one's id
  -- is free or next at the server
  make : {qs : List Ask} {s : Rows Born} {m : Rows Row} {x : Known} → Fresh s x
      → Tied by_event qs (with_made s x.id x.born) m → Tied by_event (Make x ∷ qs) s m
  -- what a request destroys is open at the server and ending at the client; if the client made it,
  -- its delete will come
  destroy : {qs : List Ask} {s : Rows Born} {m : Rows Row} {x : Known}
      → x.id ≢ 1 → is_of_server x.id ≡ false → s.rows x.id ≡ Some x.born → by_event x.born ≡ false
      → m.rows x.id ≡ Some (Ending x.born)
      → Tied by_event qs (at s x.id None) (at m x.id None) → Tied by_event (Destroy x ∷ qs) s m
  -- if a request destroys an object of the server, it is open there and ending at the client; no
  -- delete comes, so its row stays at the client until an event makes an object with its id
  give_back : {qs : List Ask} {s : Rows Born} {m : Rows Row} {x : Known}
      → is_of_server x.id ≡ true → s.rows x.id ≡ Some x.born → by_event x.born ≡ false
      → m.rows x.id ≡ Some (Ending x.born)
      → Tied by_event qs (at s x.id None) m → Tied by_event (Destroy x ∷ qs) s m

-- After reading the events in flight, the client is in the middle state; with this middle state,
-- the server can read the requests in flight.
pub record MeetInMiddle (by_event : Born → Bool) (es : List Tell) (qs : List Ask) (v : Rows Row)
    (s : Rows Born) : Type 0 where
  pub middle : Rows Row
  pub reads : ReadsInFlight by_event es v middle
  pub tied : Tied by_event qs s middle
