-- The reply to each move in the world, and the move's effect there.
use Rattle.std.specs.Prelude.{◌≡◌, ◌≢◌, ◌⊎◌, ℕ, ◌+◌, ◌<◌, Bool, true, false, List, [], ◌∷◌, ◌++◌}
use Rattle.std.specs.Prelude.{length, map}
use Rattle.std.specs.Prelude.{take, if◌then◌else◌, Option, Some, None, is_some, option_map}
use Rattle.std.specs.declared.result.Result.{Result}
use Rattle.std.specs.declared.result.Result.TheVariants.{Ok, Err}
use Rattle.wl_wire.specs.Argument.{reshaped, Uint, NewNamed}
use Rattle.wl_sigs.specs.Side.{Side}
use Rattle.wl_sigs.specs.Side.TheVariants.{Request as request_side}
use Rattle.wl_sigs.specs.Side.TheVariants.{Event as event_side}
use Rattle.wl_sigs.specs.Tables.{Interface, signature_at}
use Rattle.wl_sigs.specs.Tables as sigs
use Rattle.wl_message.specs.Cut.{HasMessage}
use Rattle.wl_message.specs.Arrived.{Arrived, in_front}
use Rattle.wl_message.specs.Outgoing.{room_of}
use Rattle.wl_object_map.specs.declared.object.Object.{Object}
use Rattle.wl_object_map.specs.declared.object.Maker.TheVariants.{Client}
use Rattle.wl_object_map.specs.Objects.{maker_of}
use Rattle.wl_objects.specs.declared.argument.Named.{Named}
use Rattle.wl_objects.specs.declared.argument.Named.TheVariants as named_as
use Rattle.wl_objects.specs.declared.error.SendError.TheVariants as refusals
use Rattle.wl_server.specs.declared.globals.GlobalError.TheVariants as global_errors
use Rattle.wl_connection.specs.Core.{no_room}
use Rattle.wl_objects.specs.declared.error.NextError.{NextError}
use Rattle.wl_objects.specs.declared.error.NextError.TheVariants as errors
use Rattle.wl_objects.specs.Reading.{Reported}
use Rattle.wl_objects.specs.Writing.{Given}
use Rattle.wl_connection.specs.Sending.{delete_id_len}
use Rattle.wl_client.specs.Reports as events
use Rattle.wl_server.specs.State as server
use Rattle.wl_server.specs.Requests as requests
use Rattle.wl_server.specs.Calls.{without_at}
use Rattle.wl_server.specs.Announcing.{Owing, owed_to, marked, owed_opcode, values_of}
use Rattle.theory_connection.specs.Meant.{Birth, client_birth, server_birth, same_birth, same_maker}
use Rattle.theory_connection.specs.Meant.{Born, Message, Coming}
use Rattle.theory_connection.specs.Meant.{Event, Delete, Arg, rearg, birth_of, made_in}
use Rattle.theory_connection.specs.Meant.{ended_by, tokens}
use Rattle.theory_connection.specs.World.{World, Row, Open, Ending, Marks, Action, WriteRequest}
use Rattle.theory_connection.specs.World.{ReadRequest, WriteEvent, Drop, ReadEvent, Steps, IsOpen}
use Rattle.theory_connection.specs.World.{IsEnding, IsThere, Posted, Stage, Running, Failing, Over}
use Rattle.theory_connection.specs.World.{is_over, Post, ReadError}
use Rattle.theory_connection.specs.Pair.{PairState, Move, Reply, ClientSend, ClientBind, ServerSend}
use Rattle.theory_connection.specs.Pair.{ServerDrop, PostError, AddGlobal, Withdraw, Announce}
use Rattle.theory_connection.specs.Pair.{CarryToServer, CarryToClient, ClientNext, ServerNext, Does}
use Rattle.theory_connection.specs.Pair.{Moved}

-- ---- writes

-- what a message destroys, by its signature
pub record IsMessageOf (tables : List Interface) (side : Side) (m : Message Born) : Type 0 where
  pub signature : sigs.MessageSignature
  pub there : signature_at tables m.target.iface.0 side m.opcode ≡ Some signature
  pub ends : m.ends ≡ ended_by signature.destroys m.target m.args

-- the birth of an object that a call takes or returns; its id's range says whether the client or
-- the server made it
abbrev pub birth_at : Object → Birth
birth_at object = record { maker = maker_of object.id; number = object.birth }

-- an argument passed to a call: its objects by their births, its new object as this birth
abbrev pub handed : Birth → Given → Arg Birth
handed next given = reshaped (option_map birth_at) (λ _. next) (λ t. t) given

abbrev pub writing : Side → Message Born → Action
writing request_side m = WriteRequest m
writing event_side m = WriteEvent m

-- The message is written. Its objects have the births of those passed to the call. If it makes an
-- object, the call returned that object.
pub record WritesThat (tables : List Interface) (side : Side) (w : World) (target : Birth)
    (opcode : ℕ) (args : List (Arg Birth)) (new : Option Object) (w' : World) : Type 0 where
  pub message : Message Born
  pub is : IsMessageOf tables side message
  pub target_is : message.target.birth ≡ target
  pub opcode_is : message.opcode ≡ opcode
  pub args_are : map (rearg birth_of) message.args ≡ args
  pub new_is : option_map birth_of (made_in message.args) ≡ option_map birth_at new
  pub steps : Steps tables w (writing side message) w'

-- the arguments of a bind
abbrev pub bind_args : ℕ → List ℕ → ℕ → ℕ → List (Arg Birth)
bind_args name iface version births = Uint name ∷ NewNamed iface version (client_birth births) ∷ []

-- only an acceptance has an effect
abbrev pub IfAccepted : {X E : Type 0} → Result X E → World → World → (X → Type 0) → Type 0
IfAccepted (Ok x) w w' P = P x
IfAccepted (Err why) w w' P = w' ≡ w

-- ---- what the open registries are owed, by births

abbrev pub registry_of : Marks → server.Registry
registry_of r = record {
  object = record { id = 0; birth = r.birth.number };
  told = r.told;
  removed = r.removed;
}

abbrev pub marks_of : server.Registry → Marks
marks_of r = record { birth = birth_at r.object; told = r.told; removed = r.removed }

-- an event that is owed, and the birth of its registry
pub record Owed : Type 0 where
  pub birth : Birth
  pub owing : Owing

abbrev pub owed_by : List server.Global → List Marks → List Owed
owed_by given [] = []
owed_by given (r ∷ registries) =
    map (λ owing. record { birth = r.birth; owing = owing }) (owed_to given (registry_of r))
    ++ owed_by given registries

-- A registry after an owed event was written to it: marked as the server marks its own.
abbrev pub mark_one : Owing → Marks → Marks
mark_one owing r = record (marks_of (marked owing (registry_of r))) { birth = r.birth }

-- the open registries after an owed event was written to one of them
abbrev pub mark_in : Owed → List Marks → List Marks
mark_in o [] = []
mark_in o (r ∷ registries) =
    (if same_birth r.birth o.birth then mark_one o.owing r else r) ∷ mark_in o registries

-- the arguments of an owed event; none is an object
abbrev pub told_args : List Interface → Owing → List (Arg Birth)
told_args tables owing =
    map (reshaped (λ _. None) client_birth (λ _. 0)) (values_of tables owing)

-- The events are written in this order, each to its registry, which is then marked.
pub data AnnouncesThose (tables : List Interface) : World → List Owed → World → Type 0 where
  none : {w : World} → AnnouncesThose tables w [] w
  more : {w between w' : World} {o : Owed} {others : List Owed}
      → WritesThat tables event_side w o.birth (owed_opcode o.owing)
      (told_args tables o.owing) None between
      → AnnouncesThose tables (record between { registries = mark_in o between.registries })
      others w'
      → AnnouncesThose tables w (o ∷ others) w'

-- ---- reads

-- an object as a reader sees it, by its birth: none, live or dead; an object that the reader does
-- not have is in no report
pub data Seen : Type 0 where
  Null : Seen
  Live : Birth → Seen
  Dead : Birth → Seen
  Unheld : Seen

abbrev pub seen_named : Named → Seen
seen_named named_as.Null = Null
seen_named (named_as.Live object) = Live (birth_at object)
seen_named (named_as.Dead object) = Dead (birth_at object)

abbrev pub by_row : Birth → Option Row → Seen
by_row birth None = Unheld
by_row birth (Some (Open x)) = Live birth
by_row birth (Some (Ending x)) = Dead birth

-- how an end with these objects sees a birth
abbrev pub seen_by : (Birth → Option Row) → Option Born → Seen
seen_by rows None = Null
seen_by rows (Some x) = by_row x.birth (rows x.birth)

-- The reported arguments are those of the message: each object as its birth, live or dead according
-- to these rows, and each token.
abbrev pub ReportsArgs : (Birth → Option Row) → List (Arg Born) → List Reported → Type 0
ReportsArgs rows args reported =
    map (reshaped seen_named birth_at (λ t. t)) reported
    ≡ map (reshaped (seen_by rows) birth_of (λ t. t)) args

abbrev pub rows_of_server : World → Birth → Option Row
rows_of_server w birth = option_map Open (w.server birth)

-- the report of a request, whose target is open at the server
pub record ReportsRequest (w : World) (m : Message Born) (report : requests.Report) : Type 0 where
  pub is_open : IsThere w.server m.target
  pub target : birth_at report.target ≡ m.target.birth
  pub opcode : report.opcode ≡ m.opcode
  pub args : ReportsArgs (rows_of_server w) m.args report.args

-- What the client reports of what comes: an event for an open object, as it was meant; only the
-- tokens of an event for an ending object; the object of a delete.
abbrev pub ReportsComing : World → Coming Born → events.Report → Type 0
ReportsComing w (Event m) (events.Event target opcode args) =
    IsOpen w.client m.target × (birth_at target ≡ m.target.birth) × (opcode ≡ m.opcode)
    × ReportsArgs w.client m.args args
ReportsComing w (Event m) (events.Discarded target opcode own) =
    IsEnding w.client m.target × (birth_at target ≡ m.target.birth) × (opcode ≡ m.opcode)
    × (own ≡ tokens m.args)
ReportsComing w (Delete x) (events.Deleted object) = birth_at object ≡ x.birth
ReportsComing w _ report = ⊥

-- no whole message waits
abbrev pub HasNone : Arrived → Type 0
HasNone inbox = HasMessage (in_front inbox) → ⊥

abbrev pub HasOne : Arrived → Type 0
HasOne inbox = HasMessage (in_front inbox)

-- whether a request that destroys this must be followed by a delete: the client made the object
abbrev pub is_answered : Option Born → Bool
is_answered None = false
is_answered (Some x) = same_maker x.birth.maker Client

-- a destroying request for whose delete there is no room
abbrev pub IsOutFull : PairState → Message Born → Type 0
IsOutFull p m = (is_answered m.ends ≡ true) × (room_of p.server.core.outbox < delete_id_len)

-- a request whose report needs memory, which is asked for only if there is room for its delete
abbrev pub AsksMemory : PairState → Message Born → Type 0
AsksMemory p m = (m.args ≢ []) × (IsOutFull p m → ⊥)

pub record ReadsRequest (tables : List Interface) (p : PairState) (w : World)
    (report : requests.Report) (w' : World) : Type 0 where
  pub waits : HasOne p.server.core.inbox
  pub message : Message Born
  pub steps : Steps tables w (ReadRequest message) w'
  pub reports : ReportsRequest w message report
  pub has_room : IsOutFull p message → ⊥

-- the first request stays, for this reason
pub record KeepsRequest (p : PairState) (w : World) (cause : Message Born → Type 0)
    (w' : World) : Type 0 where
  pub waits : HasOne p.server.core.inbox
  pub message : Message Born
  pub rest : List (Message Born)
  pub first : w.requests ≡ message ∷ rest
  pub because : cause message
  pub same : w' ≡ w

pub record ReadsEvent (tables : List Interface) (p : PairState) (w : World) (report : events.Report)
    (w' : World) : Type 0 where
  pub waits : HasOne p.client.core.inbox
  pub coming : Coming Born
  pub steps : Steps tables w (ReadEvent coming) w'
  pub reports : ReportsComing w coming report

-- Reading what comes needs memory: an event with arguments for an open object needs it for the
-- report; an event that makes an object needs it to open the object. The world has no ids; `Does`
-- says that only an object at an id that was never used needs it.
abbrev pub NeedsMemory : World → Coming Born → Type 0
NeedsMemory w (Event m) =
    (IsOpen w.client m.target × (m.args ≢ [])) ⊎ (is_some (made_in m.args) ≡ true)
NeedsMemory w (Delete x) = ⊥

-- the first of what comes stays: it needs memory, for its report or its new object, and there was
-- none
pub record KeepsEvent (p : PairState) (w : World) (w' : World) : Type 0 where
  pub waits : HasOne p.client.core.inbox
  pub coming : Coming Born
  pub rest : List (Coming Born)
  pub first : w.events ≡ coming ∷ rest
  pub because : NeedsMemory w coming
  pub same : w' ≡ w

-- The report of the error that the server posted: the object that was meant, live or dead according
-- to the client's rows, the code and the text.
abbrev pub ReportsError : World → Posted → events.Report → Type 0
ReportsError w e (events.Error id named code text) =
    (seen_named named ≡ seen_by w.client (Some e.object)) × (code ≡ e.code) × (text ≡ e.text)
ReportsError w e report = ⊥

-- the client reads the error
pub record ReadsError (tables : List Interface) (p : PairState) (w : World) (report : events.Report)
    (w' : World) : Type 0 where
  pub waits : HasOne p.client.core.inbox
  pub error : Posted
  pub steps : Steps tables w (ReadError error) w'
  pub reports : ReportsError w error report

-- the error stays: there was no memory for its text
pub record KeepsError (p : PairState) (w : World) (w' : World) : Type 0 where
  pub waits : HasOne p.client.core.inbox
  pub error : Posted
  pub comes : w.stage ≡ Failing error
  pub first : w.events ≡ []
  pub same : w' ≡ w

-- The server's read takes the first request and reports it, if a whole message waits. The request
-- stays if there is no room for its delete, or else if there is no memory for a report with
-- arguments; no fault is reported, and no failure unless an error was posted.
abbrev pub ReadsAtServer : List Interface → PairState → World
    → Result (Option requests.Report) NextError → World → Type 0
ReadsAtServer tables p w (Ok None) w' = HasNone p.server.core.inbox × (w' ≡ w)
ReadsAtServer tables p w (Ok (Some report)) w' = ReadsRequest tables p w report w'
ReadsAtServer tables p w (Err errors.OutFull) w' = KeepsRequest p w (IsOutFull p) w'
ReadsAtServer tables p w (Err errors.Memory) w' = KeepsRequest p w (AsksMemory p) w'
ReadsAtServer tables p w (Err errors.Failed) w' = (w.stage ≢ Running) × (w' ≡ w)
ReadsAtServer tables p w (Err other) w' = ⊥

-- The client's read takes the first of what comes and reports it, if a whole message waits: the
-- first of the events or, if there is none, the error. After the error it reports a failure.
abbrev pub ReadsAtClient : List Interface → PairState → World
    → Result (Option events.Report) NextError → World → Type 0
ReadsAtClient tables p w (Ok None) w' = HasNone p.client.core.inbox × (w' ≡ w)
ReadsAtClient tables p w (Ok (Some report)) w' =
    ReadsEvent tables p w report w' ⊎ ReadsError tables p w report w'
ReadsAtClient tables p w (Err errors.Memory) w' = KeepsEvent p w w' ⊎ KeepsError p w w'
ReadsAtClient tables p w (Err errors.Failed) w' = (is_over w.stage ≡ true) × (w' ≡ w)
ReadsAtClient tables p w (Err other) w' = ⊥

-- ---- all moves

abbrev pub IfOk : {E : Type 0} → Result (Unit {0}) E → World → World → Type 0 → Type 0
IfOk (Ok x) w w' P = P
IfOk (Err why) w w' P = w' ≡ w

pub record Drops (tables : List Interface) (w : World) (birth : Birth) (w' : World) : Type 0 where
  pub object : Born
  pub is : object.birth ≡ birth
  pub steps : Steps tables w (Drop object) w'

-- An error is posted about the object with this birth.
pub record Posts (tables : List Interface) (w : World) (birth : Birth) (code : ℕ) (text : List ℕ)
    (w' : World) : Type 0 where
  pub object : Born
  pub is : object.birth ≡ birth
  pub steps : Steps tables w (Post (record { object = object; code = code; text = text })) w'

-- The effect of a move in the world, given the pair and the reply.
abbrev pub Means : PairState → World → Move → Reply → World → Type 0
Means p w (ClientSend target opcode given) (ClientSend reply) w' =
    IfAccepted reply w w' (λ new. WritesThat p.client.core.tables request_side w
    (birth_at target) opcode (map (handed (client_birth w.births)) given) new w')
Means p w (ClientBind target name iface version) (ClientBind reply) w' =
    IfAccepted reply w w' (λ new. WritesThat p.client.core.tables request_side w
    (birth_at target) 0 (bind_args name iface version w.births) new w')
Means p w (ServerSend target opcode given) (ServerSend reply) w' =
    IfAccepted reply w w' (λ new. WritesThat p.server.core.tables event_side w
    (birth_at target) opcode (map (handed (server_birth w.server_births)) given) new w')
Means p w (ServerDrop object) (ServerDrop reply) w' =
    IfOk reply w w' (Drops p.server.core.tables w (birth_at object) w')
Means p w (PostError object code text) (PostError reply) w' =
    IfOk reply w w' (Posts p.server.core.tables w (birth_at object) code text w')
Means p w (AddGlobal iface version) (AddGlobal reply) w' =
    IfAccepted reply w w' (λ name. (name ≡ length w.given + 1) × (w' ≡ record w {
      given = w.given ++ record { iface = iface; version = version; present = true } ∷ [];
    }))
Means p w (Withdraw name) (Withdraw reply) w' =
    IfOk reply w w'
    (w' ≡ record w { given = without_at w.given name (server.global_of w.given name) })
Means p w Announce (Announce reply) w' =
    IfAccepted reply w w'
    (λ count. AnnouncesThose p.server.core.tables w (take count (owed_by w.given w.registries)) w')
Means p w (CarryToServer most) (CarryToServer reply) w' = w' ≡ w
Means p w (CarryToClient most) (CarryToClient reply) w' = w' ≡ w
Means p w ClientNext (ClientNext reply) w' = ReadsAtClient p.client.core.tables p w reply w'
Means p w ServerNext (ServerNext reply) w' = ReadsAtServer p.server.core.tables p w reply w'
Means p w _ _ w' = ⊥

-- the server, which has failed, refuses the call, and nothing is carried to it
abbrev pub IsRefusedAtServer : Reply → Type 0
IsRefusedAtServer (ServerSend reply) = reply ≡ Err refusals.Failed
IsRefusedAtServer (ServerDrop reply) = reply ≡ Err refusals.Failed
IsRefusedAtServer (PostError reply) = reply ≡ Err refusals.Failed
IsRefusedAtServer (AddGlobal reply) = reply ≡ Err global_errors.Failed
IsRefusedAtServer (Withdraw reply) = reply ≡ Err global_errors.Failed
IsRefusedAtServer (Announce reply) = reply ≡ Err refusals.Failed
IsRefusedAtServer (ServerNext reply) = reply ≡ Err errors.Failed
IsRefusedAtServer (CarryToServer reply) = reply ≡ Moved no_room
IsRefusedAtServer _ = Unit {0}

-- the client, which has failed, refuses the call, and nothing is carried to it
abbrev pub IsRefusedAtClient : Reply → Type 0
IsRefusedAtClient (ClientSend reply) = reply ≡ Err refusals.Failed
IsRefusedAtClient (ClientBind reply) = reply ≡ Err refusals.Failed
IsRefusedAtClient (ClientNext reply) = reply ≡ Err errors.Failed
IsRefusedAtClient (CarryToClient reply) = reply ≡ Moved no_room
IsRefusedAtClient _ = Unit {0}

-- From the post on, the server refuses all calls, and no byte reaches it. Once the client has read
-- the error, so does the client.
abbrev pub IsRefusedIn : Stage → Reply → Type 0
IsRefusedIn Running reply = Unit {0}
IsRefusedIn (Failing e) reply = IsRefusedAtServer reply
IsRefusedIn (Over e) reply = IsRefusedAtServer reply × IsRefusedAtClient reply

-- The reply that a move may get, and what it leaves of the pair and the world.
pub record Answers (p : PairState) (w : World) (move : Move) (reply : Reply) (p' : PairState)
    (w' : World) : Type 0 where
  pub does : Does p move reply p'
  pub means : Means p w move reply w'
  pub refused : IsRefusedIn w.stage reply
