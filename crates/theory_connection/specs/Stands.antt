-- When a pair represents a world.
use Rattle.std.specs.Prelude.{◌≡◌, ◌≢◌, ◌⊎◌, ◌↔◌, ℕ, ◌<◌, ◌≤◌, ◌^◌, Bool, true, false, List, []}
use Rattle.std.specs.Prelude.{◌∷◌, ◌++◌, length, map, Option, Some, None, is_some}
use Rattle.wl_wire.specs.declared.kind.Iface.{Iface}
use Rattle.wl_wire.specs.declared.kind.Kind.{Kind}
use Rattle.wl_wire.specs.Argument.{Uint, Str, Obj, New, NewNamed}
use Rattle.wl_objects.specs.Writing.{message_bytes}
use Rattle.wl_server.specs.Calls.{is_error_text}
use Rattle.wl_wire.specs.Spelling.{Suits}
use Rattle.wl_sigs.specs.Side.{Side}
use Rattle.wl_sigs.specs.Side.TheVariants.{Request as request_side}
use Rattle.wl_sigs.specs.Side.TheVariants.{Event as event_side}
use Rattle.wl_sigs.specs.Tables.{Interface, signature_at, interface_at, place_of}
use Rattle.wl_sigs.specs.Tables as sigs
use Rattle.wl_sigs.specs.Fixed.{registry}
use Rattle.wl_sigs.specs.Valid.{Valid}
use Rattle.wl_message.specs.Cut.{IsMessage, greatest_limit}
use Rattle.wl_message.specs.Arrived.{Arrived}
use Rattle.wl_message.specs.Outgoing as boxes
use Rattle.wl_message.specs.Outgoing.{Outgoing, all_bytes, all_tokens}
use Rattle.wl_object_map.specs.declared.object.Entry.{Entry}
use Rattle.wl_object_map.specs.declared.object.State.TheVariants as states
use Rattle.wl_object_map.specs.Ranges.{is_of_server}
use Rattle.wl_object_map.specs.View.{max_ids}
use Rattle.wl_object_map.specs.declared.object.Maker.{Maker}
use Rattle.wl_object_map.specs.declared.object.Maker.TheVariants.{Server}
use Rattle.wl_object_map.specs.Objects.{Objects, ObjectsAreSound, look}
use Rattle.wl_objects.specs.Reading.{iface_of, has_required_iface}
use Rattle.wl_objects.specs.Writing.{message_len}
use Rattle.wl_objects.specs.Messages.{made_by, is_error, is_delete_id, is_bind, same_iface}
use Rattle.wl_connection.specs.Core.{Core}
use Rattle.wl_client.specs.declared.globals.Global.{Global as Remembered}
use Rattle.wl_server.specs.State as server
use Rattle.wl_server.specs.State.{global_of, most_globals}
use Rattle.wl_server.specs.Registries.{HasRegistries}
use Rattle.wl_server.specs.Requests.{was_advertised}
use Rattle.wl_sigs.specs.Rules.{is_ended_by_event, has_server_objects}
use Rattle.wl_server.specs.Calls.{can_be_global}
use Rattle.wl_server.specs.Announcing.{name_at}
use Rattle.theory_connection.specs.Meant.{Birth, server_birth, IsAmongFirst, Born, Known}
use Rattle.theory_connection.specs.Meant.{Message, Coming, Event}
use Rattle.theory_connection.specs.Meant.{Delete, Arg, renamed, recoming, born_of, birth_of}
use Rattle.theory_connection.specs.Meant.{made_in, new_object_in, ended_by, wire, spelled_meant}
use Rattle.theory_connection.specs.Meant.{spelled_coming, live_entry}
use Rattle.theory_connection.specs.World.{World, display_born, Row, Marks, Open, Ending, Each}
use Rattle.theory_connection.specs.World.{IfThere, Posted, Stage, Running, Failing, Over, has_error}
use Rattle.theory_connection.specs.Pair.{PairState}
use Rattle.theory_connection.specs.Answers.{marks_of}
use Rattle.theory_connection.specs.Flight.{Rows, client_rows, server_rows, births_in, all_asks}
use Rattle.theory_connection.specs.Flight.{IsAskedBelow, all_tells}
use Rattle.theory_connection.specs.Flight.{MeetInMiddle}

-- ---- objects by id and by birth

-- An end's rows represent this set of births: each birth has at most one id, and its maker has
-- counted it. A birth that may be gone needs no row: another object may have its id by now.
pub record ShowsBirths {X : Type 0} (birth : X → Birth) (MayBeGone : X → Type 0)
    (rows : ℕ → Option X) (births : Maker → ℕ) (sets : Birth → Option X) : Type 0 where
  pub below : (id : ℕ) (x : X) → rows id ≡ Some x → IsAmongFirst births (birth x)
  pub one : (i j : ℕ) (x y : X) → rows i ≡ Some x → rows j ≡ Some y → birth x ≡ birth y → i ≡ j
  pub shown : (id : ℕ) (x : X) → rows id ≡ Some x → sets (birth x) ≡ Some x
  pub only : (b : Birth) (x : X) → sets b ≡ Some x
      → (birth x ≡ b) × (((id : ℕ) × (rows id ≡ Some x)) ⊎ MayBeGone x)

abbrev pub bare : Row → Born
bare (Open x) = x
bare (Ending x) = x

abbrev pub birth_in : Row → Birth
birth_in r = (bare r).birth

-- An object of the server that is ending at the client may be gone there: an event may have
-- replaced it.
abbrev pub IsEndingOfServer : Row → Type 0
IsEndingOfServer (Open x) = ⊥
IsEndingOfServer (Ending x) = x.birth.maker ≡ Server

-- at the server nothing may be gone: each open object has its row
abbrev pub NoneIsGone : Born → Type 0
NoneIsGone x = ⊥

-- ---- messages in flight

-- These messages are in flight from an outbox to an inbox. First come those begun: the inbox has
-- all their tokens, and all their bytes except what the outbox still has of them. Then come those
-- of the outbox that are not begun.
pub record InFlight (from : Outgoing) (to : Arrived) (messages : List boxes.QueuedMessage) : Type 0
  where
    pub begun : List boxes.QueuedMessage
    pub all : messages ≡ begun ++ from.messages
    pub bytes : to.bytes ++ from.left ≡ all_bytes begun
    pub tokens : to.tokens ≡ all_tokens begun
    pub whole : Each (λ m. IsMessage to.limit.bytes m.bytes) messages

-- An argument names its object as its kind requires: an object has the interface of the kind, and a
-- new object is as its maker makes it, with this version.
abbrev pub NamesRightly : List Interface → ℕ → Kind → Arg Known → Type 0
NamesRightly tables version kind (Obj (Some x)) =
    (0 < x.id) × (has_required_iface (iface_of kind) (live_entry x.born) ≡ true)
NamesRightly tables version kind (New x) =
    made_by tables version kind (New x.id)
    ≡ Some (record { id = x.id; iface = x.born.iface; version = x.born.version })
NamesRightly tables version kind (NewNamed name own x) =
    made_by tables version kind (NewNamed name own x.id)
    ≡ Some (record { id = x.id; iface = x.born.iface; version = x.born.version })
NamesRightly tables version kind _ = Unit {0}

-- the arguments are as the kinds require, one for each: values of their kinds that name their
-- objects in this way
abbrev pub SuitKinds : List Interface → ℕ → List Kind → List (Arg Known) → Type 0
SuitKinds tables version [] [] = Unit {0}
SuitKinds tables version (kind ∷ kinds) (a ∷ args) =
    (Suits kind (wire a) × NamesRightly tables version kind a) × SuitKinds tables version kinds args
SuitKinds tables version _ _ = ⊥

-- A message in flight fits a signature of its target's interface and version, and is not
-- wl_display.error. Its size fits in a header; InFlight says of the queues that it is within the
-- limit.
pub record FitsSignature (tables : List Interface) (side : Side) (m : Message Known) : Type 0 where
  pub signature : sigs.MessageSignature
  pub there : signature_at tables m.target.born.iface.0 side m.opcode ≡ Some signature
  pub old_enough : signature.since ≤ m.target.born.version
  pub args : SuitKinds tables m.target.born.version signature.kinds m.args
  pub ends : m.ends ≡ ended_by signature.destroys m.target m.args
  pub len : message_len (map wire m.args) ≤ greatest_limit
  pub word : m.target.id < 2 ^ 32
  pub opcode : m.opcode < 65536
  pub new_version : IfThere (λ x. 1 ≤ x.born.version) (made_in m.args)
  -- it makes at most one object
  pub new_is : Each (λ a. IfThere (λ x. made_in m.args ≡ Some x) (new_object_in a)) m.args
  pub no_error : is_error side m.target.born.iface m.opcode ≡ false

-- the first of these is the delete of an object
abbrev pub BeginsWithDelete : Known → List (Coming Known) → Type 0
BeginsWithDelete x [] = ⊥
BeginsWithDelete x (Event m ∷ coming) = ⊥
BeginsWithDelete x (Delete y ∷ coming) = y ≡ x

-- each event that destroys an object is immediately followed by that object's delete
abbrev pub DeletesFollow : List (Coming Known) → Type 0
DeletesFollow [] = Unit {0}
DeletesFollow (Event m ∷ coming) =
    IfThere (λ x. BeginsWithDelete x coming) m.ends × DeletesFollow coming
DeletesFollow (Delete x ∷ coming) = DeletesFollow coming

-- ---- globals

-- the server added a global with this name, interface and version
pub record WasGiven (given : List server.Global) (name : ℕ) (iface : Iface) (version : ℕ)
    : Type 0 where
  pub global : server.Global
  pub there : global_of given name ≡ Some global
  pub iface_is : global.iface ≡ iface
  pub version_is : global.version ≡ version

-- the arguments of wl_registry.global for a global that was added
pub record TellsGiven (tables : List Interface) (given : List server.Global)
    (args : List (Arg Known)) : Type 0 where
  pub name : ℕ
  pub iface : Iface
  pub version : ℕ
  pub args_are : args ≡ Uint name ∷ Str (Some (name_at tables iface)) ∷ Uint version ∷ []
  pub was_given : WasGiven given name iface version
  pub known : place_of tables (name_at tables iface) ≡ Some iface

-- the arguments of wl_registry.bind for a global that was added, at a version from 1 to its own
pub record BindsGiven (tables : List Interface) (given : List server.Global)
    (args : List (Arg Known)) : Type 0 where
  pub name : ℕ
  pub iface : List ℕ
  pub version : ℕ
  pub new : Known
  pub args_are : args ≡ Uint name ∷ NewNamed iface version new ∷ []
  pub was_given : was_advertised tables iface version (global_of given name) ≡ true

pub record AsksFitly (tables : List Interface) (given : List server.Global) (m : Message Known)
    : Type 0 where
  pub fits : FitsSignature tables request_side m
  pub binds : is_bind request_side m.target.born.iface m.opcode ≡ true
      → BindsGiven tables given m.args

pub record TellsFitly (tables : List Interface) (given : List server.Global) (m : Message Known)
    : Type 0 where
  pub fits : FitsSignature tables event_side m
  pub no_delete_id : is_delete_id event_side m.target.born.iface m.opcode ≡ false
  pub tells : same_iface m.target.born.iface registry ≡ true → m.opcode ≡ 0
      → TellsGiven tables given m.args

abbrev pub ComesFitly : List Interface → List server.Global → Coming Known → Type 0
ComesFitly tables given (Event m) = TellsFitly tables given m
ComesFitly tables given (Delete x) = x.id ≤ max_ids

-- which globals can have been added
pub record IsGlobal (tables : List Interface) (global : server.Global) : Type 0 where
  pub can_be : can_be_global tables global.iface global.version ≡ true
  pub word : global.version < 2 ^ 32

-- ---- representing a world

-- whether an object's interface has a destroying event
abbrev pub by_event : List Interface → Born → Bool
by_event tables x = is_ended_by_event (interface_at tables x.iface.0)

-- What an end is set up with: its tables, and the limits of its queues.
pub record Terms : Type 0 where
  pub tables : List Interface
  pub out_limit : ℕ
  pub in_limit : ℕ

abbrev pub terms_of : Core → Terms
terms_of core =
    record {
      tables = core.tables;
      out_limit = core.outbox.limit.bytes;
      in_limit = core.inbox.limit.bytes;
    }

pub record SameTerms (client server : Terms) : Type 0 where
  -- both ends have the same valid tables
  pub same_tables : client.tables ≡ server.tables
  pub valid : Valid server.tables
  -- both ends have the same limit
  pub up_limit : client.out_limit ≡ server.in_limit
  pub down_limit : server.out_limit ≡ client.in_limit
  pub one_limit : client.in_limit ≡ server.in_limit

-- The client has an object that the server made, open or ending, if and only if it has counted it:
-- an event adds each, and no delete removes one. The server's births begin at 1.
abbrev pub HoldsServerObjects : ℕ → (Birth → Option Row) → Type 0
HoldsServerObjects births held =
    (number : ℕ)
    → (is_some (held (server_birth number)) ≡ true) ↔ ((0 < number) × (number < births))

-- The rows at the client represent the births that are open and ending there.
pub record ClientStands (view : Objects) (failed : Bool) (counted : ℕ) (held : Birth → Option Row)
    : Type 0 where
  pub sets : ShowsBirths birth_in IsEndingOfServer (client_rows view).rows
      (births_in (client_rows view)) held
  pub births : counted ≡ view.client.births
  pub holds_counted : HoldsServerObjects view.server.births held
  pub sound : ObjectsAreSound view
  -- the client frees no id of the server's range, since no delete has one
  pub never_freed : view.server.freed ≡ []
  pub display : look view 1 ≡ Some (live_entry display_born)
  pub versions : (id : ℕ) (e : Entry) → look view id ≡ Some e → 1 ≤ e.version
  -- it has not failed
  pub lives : failed ≡ false

-- No object that the server made and that is open there is a registry or has an interface with a
-- destroying event: valid tables let no event make such an object (V11).
abbrev pub MadePlain : (Born → Bool) → Rows Born → Type 0
MadePlain test s =
    (id : ℕ) (x : Born) → is_of_server id ≡ true → s.rows id ≡ Some x
    → (test x ≡ false) × (x.iface ≢ registry)

-- The rows at the server represent the births that are open there.
pub record ServerStands (view : Objects) (failed posted : Bool) (counted : ℕ)
    (there : Birth → Option Born) : Type 0 where
  pub sets : ShowsBirths birth_of NoneIsGone (server_rows view).rows (births_in (server_rows view))
      there
  pub births : counted ≡ view.server.births
  pub sound : ObjectsAreSound view
  pub display : look view 1 ≡ Some (live_entry display_born)
  pub versions : (id : ℕ) (e : Entry) → look view id ≡ Some e → 1 ≤ e.version
  pub live : (id : ℕ) (e : Entry) → look view id ≡ Some e → e.state ≡ states.Live
  -- it has failed if and only if it posted an error
  pub lives : failed ≡ posted

-- These messages are in flight from an outbox to an inbox, and each fits. This is behind them.
pub record Travel {M W : Type 0} (as_born : M → W) (as_sent : M → boxes.QueuedMessage)
    (Fitly : M → Type 0) (from : Outgoing) (to : Arrived) (births : List W) (messages : List M)
    (behind : List boxes.QueuedMessage) : Type 0 where
  -- the world has them in flight by births; the queues have their canonical spellings, by ids
  pub in_world : births ≡ map as_born messages
  pub in_boxes : InFlight from to (map as_sent messages ++ behind)
  -- each fits a signature; each bind, and each global announced, is of a global that was added
  pub fit : Each Fitly messages

-- ---- an error on its way

-- wl_display.error about the object with this id, as the server writes it
abbrev pub error_message : ℕ → Posted → boxes.QueuedMessage
error_message id e =
    boxes.queued (message_bytes 1 0 (Obj id ∷ Uint e.code ∷ Str (Some e.text) ∷ [])) []

-- The server has the object of the error with this id, and the code and the text are those that
-- `post_error` takes.
pub record IsErrorAbout (server : Rows Born) (id : ℕ) (e : Posted) : Type 0 where
  pub there : server.rows id ≡ Some e.object
  pub code : e.code < 2 ^ 32
  pub text : is_error_text e.text ≡ true

-- What is in flight behind the events: an error that was posted and not yet read. The recording is
-- marked from the post on.
pub data ErrorComes (stage : Stage) (mark : Option ℕ) (server : Rows Born)
    (behind : List boxes.QueuedMessage) : Type 0 where
  quiet : stage ≡ Running → mark ≡ None → behind ≡ [] → ErrorComes stage mark server behind
  comes : (e : Posted) (id : ℕ) → stage ≡ Failing e → is_some mark ≡ true
      → behind ≡ error_message id e ∷ [] → IsErrorAbout server id e
      → ErrorComes stage mark server behind

-- The ends' globals are the world's, and those of the client were added by the server.
pub record GlobalsStand (tables : List Interface) (client_knows : List Remembered)
    (server_gave : List server.Global) (world_remembered : List Remembered)
    (world_given : List server.Global) : Type 0 where
  pub remembered : world_remembered ≡ client_knows
  pub given : world_given ≡ server_gave
  pub remembers : Each (λ g. WasGiven server_gave g.name g.iface g.version) client_knows
  pub globals : Each (IsGlobal tables) server_gave
  pub few_globals : length server_gave ≤ most_globals

pub record RegistriesStand (view : Objects) (registries : List server.Registry) (marks : List Marks)
    : Type 0 where
  pub told : marks ≡ map marks_of registries
  -- the open registries are the server's objects of interface wl_registry, in order of birth
  pub open_registries : HasRegistries view registries

-- The requests and events in flight are these, each object by its id and as it was meant.
pub record StandsBy (p : PairState) (w : World) (asked : List (Message Known))
    (told : List (Coming Known)) : Type 0 where
  pub terms : SameTerms (terms_of p.client.core) (terms_of p.server.core)
  -- the objects at each end, and whether it has failed
  pub client : ClientStands p.client.core.view p.client.core.failed w.births w.client
  pub server : ServerStands p.server.core.view p.server.core.failed (has_error w.stage)
      w.server_births w.server
  -- no event ends an object that the server made, and none is a registry
  pub plain : MadePlain (by_event p.server.core.tables) (server_rows p.server.core.view)
  -- if no event of the tables makes an object, the server has made none: its births begin at 1
  pub none_made : has_server_objects p.server.core.tables ≡ false → w.server_births ≡ 1
  -- what is in flight each way
  pub requests : Travel (renamed born_of) spelled_meant
      (AsksFitly p.server.core.tables p.server.globals)
      p.client.core.outbox p.server.core.inbox w.requests asked []
  pub behind : List boxes.QueuedMessage
  pub events : Travel (recoming born_of) spelled_coming
      (ComesFitly p.server.core.tables p.server.globals)
      p.server.core.outbox p.client.core.inbox w.events told behind
  pub error : ErrorComes w.stage p.ended_at (server_rows p.server.core.view) behind
  -- the client has counted each object that a request on the way names, makes or destroys
  pub asks_counted : Each (IsAskedBelow (births_in (client_rows p.client.core.view)))
      (all_asks asked)
  -- an event that destroys an object is immediately followed by that object's delete
  pub deletes_follow : DeletesFollow told
  -- each can be read in its turn; when all are read, the objects open at the client are those open
  -- at the server
  pub meet : MeetInMiddle (by_event p.server.core.tables) (all_tells told) (all_asks asked)
      (client_rows p.client.core.view) (server_rows p.server.core.view)
  pub globals : GlobalsStand p.server.core.tables p.client.globals p.server.globals
      w.remembered w.given
  pub registries : RegistriesStand p.server.core.view p.server.registries w.registries

-- The client has read the error: both ends have failed, and keep their objects. These requests were
-- written and not read.
pub record StandsOver (p : PairState) (w : World) (asked : List (Message Known)) : Type 0 where
  pub error : Posted
  pub stage : w.stage ≡ Over error
  pub mark : is_some p.ended_at ≡ true
  pub client_failed : p.client.core.failed ≡ true
  pub server_failed : p.server.core.failed ≡ true
  -- apart from its failure the client is as before
  pub client : ClientStands p.client.core.view false w.births w.client
  pub server : ServerStands p.server.core.view p.server.core.failed true w.server_births w.server
  pub requests : Travel (renamed born_of) spelled_meant
      (AsksFitly p.server.core.tables p.server.globals)
      p.client.core.outbox p.server.core.inbox w.requests asked []
  -- all events were read
  pub meet : MeetInMiddle (by_event p.server.core.tables) [] (all_asks asked)
      (client_rows p.client.core.view) (server_rows p.server.core.view)

-- The pair represents the world.
pub data Stands (p : PairState) (w : World) : Type 0 where
  stands : (asked : List (Message Known)) (told : List (Coming Known))
      → StandsBy p w asked told → Stands p w
  over : (asked : List (Message Known)) → StandsOver p w asked → Stands p w
