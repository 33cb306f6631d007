-- The world of births: what both ends mean, without ids, bytes and pieces.
use Rattle.std.specs.Prelude.{◌≡◌, ℕ, ◌+◌, Bool, true, false, ◌&&◌, if◌then◌else◌, List, []}
use Rattle.std.specs.Prelude.{◌∷◌, ◌++◌, map, replicate, Option, Some, None}
use Rattle.wl_wire.specs.Argument.{Argument, reshaped}
use Rattle.wl_sigs.specs.Tables.{Interface, interface_at}
use Rattle.wl_sigs.specs.Fixed.{display, registry}
use Rattle.wl_objects.specs.Messages.{same_iface}
use Rattle.wl_client.specs.declared.globals.Global.{Global as Remembered}
use Rattle.wl_client.specs.Reports.{globals_told}
use Rattle.wl_server.specs.State.{Global, most_globals}
use Rattle.wl_server.specs.Registries.{with_registry, without_registry}
use Rattle.wl_sigs.specs.Rules.{is_ended_by_event}
use Rattle.wl_object_map.specs.declared.object.Maker.{Maker}
use Rattle.wl_object_map.specs.declared.object.Maker.TheVariants.{Client, Server}
use Rattle.theory_connection.specs.Meant.{Birth, client_birth, server_birth, same_birth, Born}
use Rattle.theory_connection.specs.Meant.{Message, Coming}
use Rattle.theory_connection.specs.Meant.{Event, Delete, objects, made_in, Arg}

-- an object at the client: open, or ending
pub data Row : Type 0 where
  Open : Born → Row
  Ending : Born → Row

-- an open registry, the globals announced to it, and those whose removal was announced to it
pub record Marks : Type 0 where
  pub birth : Birth
  pub told : List Bool
  pub removed : List Bool

-- an error that the server posted: the object that it is about, its code and its text
pub record Posted : Type 0 where
  pub object : Born
  pub code : ℕ
  pub text : List ℕ

-- whether an error was posted, and whether the client has read it
pub data Stage : Type 0 where
  Running : Stage
  -- posted, and not yet read
  Failing : Posted → Stage
  -- read, after which neither end does anything
  Over : Posted → Stage

abbrev pub has_error : Stage → Bool
has_error Running = false
has_error (Failing e) = true
has_error (Over e) = true

abbrev pub is_over : Stage → Bool
is_over Running = false
is_over (Failing e) = false
is_over (Over e) = true

pub record World : Type 0 where
  -- the number of the client's next birth, and of the server's, whose births begin at 1
  pub births : ℕ
  pub server_births : ℕ
  -- requests and events that were written and not yet read
  pub requests : List (Message Born)
  pub events : List (Coming Born)
  -- by birth: what is open or ending at the client, and what is open at the server
  pub client : Birth → Option Row
  pub server : Birth → Option Born
  -- globals: those that the client remembers, those that the server added, and what was announced
  -- to each open registry
  pub remembered : List Remembered
  pub given : List Global
  pub registries : List Marks
  pub stage : Stage

-- ---- sets of births

-- the set with this at a birth
unfoldable pub put : {X : Type 0} → (Birth → Option X) → Birth → Option X → Birth → Option X
put f b x c = if same_birth c b then x else f c

-- the empty set
unfoldable pub nothing : {K X : Type 0} → K → Option X
nothing k = None

abbrev pub IsOpen : (Birth → Option Row) → Born → Type 0
IsOpen client x = client x.birth ≡ Some (Open x)

abbrev pub IsEnding : (Birth → Option Row) → Born → Type 0
IsEnding client x = client x.birth ≡ Some (Ending x)

abbrev pub IsThere : (Birth → Option Born) → Born → Type 0
IsThere server x = server x.birth ≡ Some x

-- P holds for each
abbrev pub Each : {X : Type 0} → (X → Type 0) → List X → Type 0
Each P [] = Unit {0}
Each P (x ∷ xs) = P x × Each P xs

-- P holds for the element, if there is one
abbrev pub IfThere : {X : Type 0} → (X → Type 0) → Option X → Type 0
IfThere P None = Unit {0}
IfThere P (Some x) = P x

abbrev pub born_into : {X : Type 0} → (Born → X) → Option Born → (Birth → Option X) → Birth
    → Option X
born_into f None sets = sets
born_into f (Some x) sets = put sets x.birth (Some (f x))

abbrev pub same : Born → Born
same x = x

-- from open to ending
abbrev pub ending : Option Born → (Birth → Option Row) → Birth → Option Row
ending None client = client
ending (Some x) client = put client x.birth (Some (Ending x))

-- no longer there
abbrev pub gone : {X : Type 0} → Option Born → (Birth → Option X) → Birth → Option X
gone None sets = sets
gone (Some x) sets = put sets x.birth None

-- the delete that accompanies the end of an object
abbrev pub delete : {O : Type 0} → Option O → List (Coming O)
delete None = []
delete (Some x) = Delete x ∷ []

-- the delete of an object that the client made; none for one that the server made
abbrev pub answer_by : {O : Type 0} → Maker → O → List (Coming O)
answer_by Client x = Delete x ∷ []
answer_by Server x = []

-- what the server writes when it reads a request that destroys an object: its delete if the client
-- made it, else nothing
abbrev pub answer : {O : Type 0} → (O → Maker) → Option O → List (Coming O)
answer maker None = []
answer maker (Some x) = answer_by (maker x) x

-- who made an object
abbrev pub born_maker : Born → Maker
born_maker x = x.birth.maker

-- a count of births after a message that makes this object, if any
abbrev pub births_counted : {O : Type 0} → Option O → ℕ → ℕ
births_counted None births = births
births_counted (Some x) births = births + 1

-- ---- registries

abbrev pub is_registry : Born → Bool
is_registry x = same_iface x.iface registry

-- nothing was announced to a new registry
abbrev pub nothing_told : Born → Marks
nothing_told x = record {
  birth = x.birth;
  told = replicate most_globals false;
  removed = replicate most_globals false;
}

abbrev pub marks_birth : Marks → Birth
marks_birth r = r.birth

-- the open registries after a request that makes this object, if any
abbrev pub marks_after : Option Born → List Marks → List Marks
marks_after None registries = registries
marks_after (Some x) registries = with_registry x.iface (nothing_told x) registries

-- a registry that is closed is owed nothing
abbrev pub without_marks : Option Born → List Marks → List Marks
without_marks None registries = registries
without_marks (Some x) registries = without_registry same_birth marks_birth true x.birth registries

-- ---- what the client learns of globals

abbrev pub nameless : Arg Born → Argument
nameless a = reshaped (λ _. 0) (λ _. 0) (λ _. tt) a

abbrev pub is_open_row : Option Row → Bool
is_open_row (Some (Open x)) = true
is_open_row _ = false

-- an event for an open registry informs the client
abbrev pub learned : List Interface → (Birth → Option Row) → Message Born → List Remembered
    → List Remembered
learned tables client m remembered =
    if is_registry m.target && is_open_row (client m.target.birth)
    then globals_told tables remembered m.opcode (map nameless m.args)
    else remembered

-- ---- the steps

-- a single event in the world
pub data Action : Type 0 where
  WriteRequest : Message Born → Action
  ReadRequest : Message Born → Action
  WriteEvent : Message Born → Action
  Drop : Born → Action
  ReadEvent : Coming Born → Action
  Post : Posted → Action
  ReadError : Posted → Action

abbrev pub request_written : World → Message Born → World
request_written w m = record w {
  births = births_counted (made_in m.args) w.births;
  requests = w.requests ++ m ∷ [];
  client = ending m.ends (born_into Open (made_in m.args) w.client);
}

abbrev pub request_read : World → Message Born → List (Message Born) → World
request_read w m rest = record w {
  requests = rest;
  events = w.events ++ answer born_maker m.ends;
  server = gone m.ends (born_into same (made_in m.args) w.server);
  registries = without_marks m.ends (marks_after (made_in m.args) w.registries);
}

abbrev pub event_written : World → Message Born → World
event_written w m = record w {
  server_births = births_counted (made_in m.args) w.server_births;
  events = w.events ++ (Event m ∷ delete m.ends);
  server = gone m.ends (born_into same (made_in m.args) w.server);
}

abbrev pub dropped : World → Born → World
dropped w x = record w { events = w.events ++ Delete x ∷ []; server = put w.server x.birth None }

abbrev pub event_read : List Interface → World → Message Born → List (Coming Born) → World
event_read tables w m rest = record w {
  events = rest;
  client = ending m.ends (born_into Open (made_in m.args) w.client);
  remembered = learned tables w.client m w.remembered;
}

abbrev pub delete_read : World → Born → List (Coming Born) → World
delete_read w x rest = record w { events = rest; client = put w.client x.birth None }

abbrev pub in_stage : World → Stage → World
in_stage w stage = record w { stage = stage }

-- What the world allows, in terms of births alone. Once an error is posted, the server takes no
-- more steps; once the client has read it, neither does the client.
pub data Steps (tables : List Interface) (w : World) : Action → World → Type 0 where
  -- The target and the objects of a written request are open at the client, and a new object is the
  -- client's next birth. The request is appended to those in flight, and an object that it destroys
  -- becomes ending.
  writes_request : (m : Message Born) → is_over w.stage ≡ false → IsOpen w.client m.target
      → Each (IsOpen w.client) (objects m.args)
      → IfThere (λ x. x.birth ≡ client_birth w.births) (made_in m.args)
      → Steps tables w (WriteRequest m) (request_written w m)
  -- The first request is read: its new object becomes open at the server; one that it destroys is
  -- closed and, if the client made it, its delete is written.
  reads_request : (m : Message Born) (rest : List (Message Born)) → w.stage ≡ Running
      → w.requests ≡ m ∷ rest → Steps tables w (ReadRequest m) (request_read w m rest)
  -- The target and the objects of a written event are open at the server, and a new object is the
  -- server's next birth. (Its interface and version are as `NamesRightly` says, if a pair
  -- represents the world.) An object that the event destroys is closed, and its delete follows.
  writes_event : (m : Message Born) → w.stage ≡ Running → IsThere w.server m.target
      → Each (IsThere w.server) (objects m.args)
      → IfThere (λ x. x.birth ≡ server_birth w.server_births) (made_in m.args)
      → Steps tables w (WriteEvent m) (event_written w m)
  -- An object whose interface has a destroying event is closed without one.
  drops : (x : Born) → w.stage ≡ Running → IsThere w.server x
      → is_ended_by_event (interface_at tables x.iface.0) ≡ true
      → Steps tables w (Drop x) (dropped w x)
  -- The first event is read: its new object becomes open at the client, even if its target is
  -- ending there, and an object that it destroys becomes ending.
  reads_event : (m : Message Born) (rest : List (Coming Born)) → is_over w.stage ≡ false
      → w.events ≡ Event m ∷ rest
      → Steps tables w (ReadEvent (Event m)) (event_read tables w m rest)
  -- A delete is read: its object is then neither open nor ending.
  reads_delete : (x : Born) (rest : List (Coming Born)) → is_over w.stage ≡ false
      → w.events ≡ Delete x ∷ rest → Steps tables w (ReadEvent (Delete x)) (delete_read w x rest)
  -- An error about an object that is open at the server is posted. It is the only one.
  posts : (e : Posted) → w.stage ≡ Running → IsThere w.server e.object
      → Steps tables w (Post e) (in_stage w (Failing e))
  -- The error is read once all events that were written before it are read.
  reads_error : (e : Posted) → w.stage ≡ Failing e → w.events ≡ []
      → Steps tables w (ReadError e) (in_stage w (Over e))

abbrev pub display_born : Born
display_born = record { birth = client_birth 0; iface = display; version = 1 }

-- the opening world: wl_display is open at both ends
abbrev pub opening_world : World
opening_world = record {
  births = 1;
  server_births = 1;
  requests = [];
  events = [];
  client = put nothing display_born.birth (Some (Open display_born));
  server = put nothing display_born.birth (Some display_born);
  remembered = [];
  given = [];
  registries = [];
  stage = Running;
}
