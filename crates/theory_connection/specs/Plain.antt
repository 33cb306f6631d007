-- Terms for what is in flight.
use Rattle.std.specs.Prelude.{◌≡◌, ◌≢◌, ◌⊎◌, ◌↔◌, ℕ, ◌<◌, ◌≤◌, true, List, [], ◌∷◌, ◌++◌}
use Rattle.std.specs.Prelude.{zero, suc, ◌+◌, false, map, Option, Some, None}
use Rattle.wl_object_map.specs.declared.object.Maker.{Maker}
use Rattle.wl_object_map.specs.declared.object.Maker.TheVariants.{Client, Server}
use Rattle.wl_object_map.specs.Ranges.{is_of_server, wire_id}
use Rattle.theory_connection.specs.Meant.{Birth, Born, Known, Message, Coming, Event}
use Rattle.theory_connection.specs.Meant.{Delete as delete_of, known_id, birth_of, objects, made_in}
use Rattle.theory_connection.specs.World.{World, Row, IsOpen, IsEnding, IsThere, Each, marks_birth}
use Rattle.theory_connection.specs.World.{is_over}
use Rattle.theory_connection.specs.Flight.{Ask, Use, Make, Destroy, Tell, Name, Made, Destroyed}
use Rattle.theory_connection.specs.Flight.{Delete, Rows, IsHeldInRows}
use Rattle.theory_connection.specs.Flight.{all_asks, all_tells}
use Rattle.theory_connection.specs.Pair.{PairState}
use Rattle.theory_connection.specs.Stands.{Stands, StandsBy}

-- the id of an action
abbrev pub tell_id : Tell → ℕ
tell_id (Name x) = x.id
tell_id (Made x) = x.id
tell_id (Destroyed x) = x.id
tell_id (Delete x) = x.id

abbrev pub ask_id : Ask → ℕ
ask_id (Use x) = x.id
ask_id (Make x) = x.id
ask_id (Destroy x) = x.id

-- the action makes an object
abbrev pub IsMaking : Tell → Type 0
IsMaking (Made x) = Unit {0}
IsMaking _ = ⊥

-- x is among these
abbrev pub In : {X : Type 0} → X → List X → Type 0
In x [] = ⊥
In x (y ∷ ys) = (x ≡ y) ⊎ In x ys

-- ---- in a world

-- the client made it
abbrev pub IsOfClient : Born → Type 0
IsOfClient x = x.birth.maker ≡ Client

-- the server made it
abbrev pub IsOfServer : Born → Type 0
IsOfServer x = x.birth.maker ≡ Server

-- the client has it, open or ending
abbrev pub IsHeldAtClient : World → Born → Type 0
IsHeldAtClient w x = IsOpen w.client x ⊎ IsEnding w.client x

-- its delete is on the way to the client
abbrev pub DeleteComes : World → Born → Type 0
DeleteComes w x = In (delete_of x) w.events

-- a request on the way to the server makes it
pub record MakeComes (w : World) (x : Born) : Type 0 where
  pub request : Message Born
  pub there : In request w.requests
  pub makes : made_in request.args ≡ Some x

-- an event on the way to the client makes it
pub record EventMakes (w : World) (x : Born) : Type 0 where
  pub event : Message Born
  pub there : In (Event event) w.events
  pub makes : made_in event.args ≡ Some x

-- a request on the way to the server destroys it
pub record DestroyComes (w : World) (x : Born) : Type 0 where
  pub request : Message Born
  pub there : In request w.requests
  pub ends : request.ends ≡ Some x

-- its delete is on the way, it is open at the server, or a request on the way makes it
abbrev pub IsSomewhere : World → Born → Type 0
IsSomewhere w x = DeleteComes w x ⊎ IsThere w.server x ⊎ MakeComes w x

-- a message names it
abbrev pub MessageNames : {O : Type 0} → O → Message O → Type 0
MessageNames x m = (m.target ≡ x) ⊎ In x (objects m.args)

-- what comes to the client names it
abbrev pub NamesBirth : Born → Coming Born → Type 0
NamesBirth x (Event m) = MessageNames x m
NamesBirth x (delete_of y) = y ≡ x

-- nothing that comes after its delete names it
abbrev pub IsLast : World → Born → Type 0
IsLast w x =
    (before after : List (Coming Born)) (coming : Coming Born)
    → w.events ≡ before ++ delete_of x ∷ after → In coming after → NamesBirth x coming → ⊥

-- a request on the way to the server names it
pub record NameComes (w : World) (x : Born) : Type 0 where
  pub request : Message Born
  pub there : In request w.requests
  pub names : MessageNames x request

-- no request after the one that destroys it names it or destroys it again
abbrev pub IsLastAsked : World → Born → Type 0
IsLastAsked w x =
    (before after : List (Message Born)) (request later : Message Born)
    → w.requests ≡ before ++ request ∷ after → request.ends ≡ Some x → In later after
    → MessageNames x later ⊎ (later.ends ≡ Some x) → ⊥

-- a registry to which globals are announced
abbrev pub IsToldOfGlobals : World → Born → Type 0
IsToldOfGlobals w x = In x.birth (map marks_birth w.registries)

-- ---- what is made on the way

-- the object as a list, empty if there is none
abbrev pub option_list : {X : Type 0} → Option X → List X
option_list None = []
option_list (Some x) = x ∷ []

-- the objects that requests make
abbrev pub news : {O : Type 0} → List (Message O) → List O
news [] = []
news (m ∷ ms) = option_list (made_in m.args) ++ news ms

-- the objects that events make, among what comes to the client
abbrev pub news_told : {O : Type 0} → List (Coming O) → List O
news_told [] = []
news_told (Event m ∷ coming) = option_list (made_in m.args) ++ news_told coming
news_told (delete_of x ∷ coming) = news_told coming

-- the object that an event makes, if it makes one; a delete makes none
abbrev pub made_by_coming : {O : Type 0} → Coming O → Option O
made_by_coming (Event m) = made_in m.args
made_by_coming (delete_of x) = None

-- something on the way to the client names it: an event, or its delete
pub record NamedToClient (w : World) (x : Born) : Type 0 where
  pub coming : Coming Born
  pub there : In coming w.events
  pub names : NamesBirth x coming

-- a message on the way makes it or names it, or is its delete
abbrev pub IsOnTheWay : World → Born → Type 0
IsOnTheWay w x = MakeComes w x ⊎ EventMakes w x ⊎ NameComes w x ⊎ NamedToClient w x

-- each event on the way that names it comes after one that makes it, or the client has it
abbrev pub IsNamedInTurn : World → Born → Type 0
IsNamedInTurn w x =
    (before after : List (Coming Born)) (event : Message Born)
    → w.events ≡ before ++ Event event ∷ after → NamesBirth x (Event event)
    → IsHeldAtClient w x ⊎ In x (news_told before)

-- `count` births of a maker, numbered from `number` on
abbrev pub births_from : Maker → ℕ → ℕ → List Birth
births_from maker number zero = []
births_from maker number (suc count) =
    record { maker = maker; number = number } ∷ births_from maker (number + 1) count

-- These are a maker's births numbered `first` to `next - 1`, in order.
abbrev pub IsInOrder : Maker → ℕ → ℕ → List Birth → Type 0
IsInOrder maker first next births =
    (count : ℕ) × ((first + count ≡ next) × (births ≡ births_from maker first count))

-- ---- for a pair that represents a world

-- the pair represents a world in which the client has read no error
pub record StandsIn (pair : PairState) (world : World) : Type 0 where
  pub stands : Stands pair world
  pub goes_on : is_over world.stage ≡ false

-- For each pair that represents a world, and each object.
abbrev pub OfEach : (PairState → World → Born → Type 0) → Type 0
OfEach P =
    (pair : PairState) (world : World) (object : Born) → StandsIn pair world → P pair world object

-- For each pair that represents a world, with these messages on the way.
abbrev pub OnTheWay : (PairState → List (Message Known) → List (Coming Known) → Type 0) → Type 0
OnTheWay P =
    (pair : PairState) (world : World) (asked : List (Message Known)) (told : List (Coming Known))
    → StandsBy pair world asked told → P pair asked told

-- nothing that comes concerns the id
abbrev pub IsUnnamed : ℕ → List (Coming Known) → Type 0
IsUnnamed id told = Each (λ t. tell_id t ≢ id) (all_tells told)

-- no request concerns the id
abbrev pub IsUnasked : ℕ → List (Message Known) → Type 0
IsUnasked id asked = Each (λ a. ask_id a ≢ id) (all_asks asked)

-- no request and nothing that comes concerns the id
abbrev pub IsNowhere : ℕ → List (Message Known) → List (Coming Known) → Type 0
IsNowhere id asked told = IsUnnamed id told × IsUnasked id asked

-- The first of what comes that concerns the id makes an object there.
abbrev pub IsMadeFirst : ℕ → List (Coming Known) → Type 0
IsMadeFirst id told =
    (before after : List Tell) (action : Tell) → all_tells told ≡ before ++ action ∷ after
    → Each (λ t. tell_id t ≢ id) before → tell_id action ≡ id → IsMaking action

-- x is the latest object with its id: it is the last with this id among these, which were made one
-- after another; or none of them has the id, and the client's rows have x there, open or ending.
pub data IsLatest (v : Rows Row) (x : Known) (made : List Known) : Type 0 where
  made_last : (before after : List Known) → made ≡ before ++ x ∷ after
      → Each (λ y. y.id ≢ x.id) after → IsLatest v x made
  not_made : Each (λ y. y.id ≢ x.id) made → IsHeldInRows v x → IsLatest v x made

-- The ids used at the client are those used at the server and those of the objects that these
-- requests make.
abbrev pub IdsAreOf : PairState → List (Message Known) → Type 0
IdsAreOf p asked =
    (id : ℕ) → 0 < id
    → (id ≤ p.client.core.view.client.used)
    ↔ ((id ≤ p.server.core.view.client.used) ⊎ In id (map known_id (news asked)))

-- the birth is one of this maker, below this count
abbrev pub IsCountedBirth : Maker → ℕ → Birth → Type 0
IsCountedBirth maker births b = (b.maker ≡ maker) × (b.number < births)

-- The births of the client counted at the client are those counted at the server and those of the
-- objects that requests on the way make.
abbrev pub BirthsAreOf : PairState → World → Type 0
BirthsAreOf p w =
    (birth : Birth)
    → IsCountedBirth Client p.client.core.view.client.births birth
    ↔ (IsCountedBirth Client p.server.core.view.client.births birth
    ⊎ In birth (map birth_of (news w.requests)))

-- The ids of the server's range that are used at the server are those used at the client and those
-- of the objects that these events make. `used` counts the table's row 1, which has no meaning, so
-- the last id used is `wire_id used`.
abbrev pub ServerIdsAreOf : PairState → List (Coming Known) → Type 0
ServerIdsAreOf p told =
    (id : ℕ) → is_of_server id ≡ true
    → (id ≤ wire_id p.server.core.view.server.used)
    ↔ ((id ≤ wire_id p.client.core.view.server.used) ⊎ In id (map known_id (news_told told)))

-- The births of the server counted at the server are those counted at the client and those of the
-- objects that events on the way make.
abbrev pub ServerBirthsAreOf : PairState → World → Type 0
ServerBirthsAreOf p w =
    (birth : Birth)
    → IsCountedBirth Server p.server.core.view.server.births birth
    ↔ (IsCountedBirth Server p.client.core.view.server.births birth
    ⊎ In birth (map birth_of (news_told w.events)))
