-- What a checker knows after the messages that it has judged, and how that fits one client, whoever
-- its server is.
use Rattle.std.specs.Prelude.{◌≡◌, ℕ, ◌≤◌, true, false, ◌&&◌, if◌then◌else◌, List, [], ◌∷◌, ◌++◌}
use Rattle.std.specs.Prelude.{length, map, Option, Some, None}
use Rattle.std.specs.declared.result.Result.TheVariants.{Ok}
use Rattle.wl_wire.specs.Argument.{Uint, NewNamed}
use Rattle.wl_sigs.specs.Side.TheVariants.{Request, Event as event_side}
use Rattle.wl_sigs.specs.Tables.{Interface}
use Rattle.wl_message.specs.Outgoing as boxes
use Rattle.wl_object_map.specs.declared.object.Entry.{Entry}
use Rattle.wl_object_map.specs.Ranges.{is_of_server}
use Rattle.wl_object_map.specs.View.{max_ids}
use Rattle.wl_objects.specs.Messages.{is_bind, is_delete_id}
use Rattle.wl_client.specs.declared.globals.Global.{Global}
use Rattle.wl_client.specs.Reports.{globals_told}
use Rattle.wl_client.specs.State.{global_of}
use Rattle.wl_recording.specs.declared.piece.Direction.TheVariants.{ToClient, ToServer}
use Rattle.wl_check.specs.Changes.{Call}
use Rattle.wl_check.specs.Merged.{span, framed}
use Rattle.wl_check.specs.Rules.{judged, version_of}
use Rattle.wl_check.specs.Session.{Judged}
use Rattle.theory_connection.specs.Meant.{Arg, Known, Message, Event, made_in, objects, wire}
use Rattle.theory_connection.specs.World.{Row, Open, Each, IfThere, display_born, is_open_row}
use Rattle.theory_connection.specs.World.{is_registry}
use Rattle.theory_connection.specs.Flight.{Rows, Fresh, IsHeldInRows, NextTold, Tell, Delete}
use Rattle.theory_connection.specs.Flight.{all_asks, at, tells}
use Rattle.theory_connection.specs.Stands.{FitsSignature, by_event}
use Rattle.theory_connection.proofs.WholeInFlight.{OpenRow, client_ends, client_makes, client_told}
use Rattle.theory_recording.specs.Leads.{Joins}
use Rattle.theory_recording.specs.Follows.{AllGoOn, BindsAdvertised, IsAdvertised, KnownAs}
use Rattle.theory_recording.specs.Follows.{TellsAdvertised, birth_places, knowledge}
use Rattle.theory_peers.specs.AcceptedEvent.{ServerMessage}

-- the actions of what a server wrote
abbrev pub delete_tell : Option Known → List Tell
delete_tell None = []
delete_tell (Some x) = Delete x ∷ []

abbrev pub tells_of : ServerMessage → List Tell
tells_of s = tells (Event s.event) ++ delete_tell s.takes_back

abbrev pub all_tells_of : List ServerMessage → List Tell
all_tells_of [] = []
all_tells_of (s ∷ told) = tells_of s ++ all_tells_of told

-- a delete_id of this id takes back the object with the id, or none if the id is the server's
abbrev pub TakesId : ℕ → Option Known → Type 0
TakesId id None = is_of_server id ≡ true
TakesId id (Some x) = x.id ≡ id

-- the arguments of a delete_id, and what it takes back
pub record Deletes (args : List (Arg Known)) (takes_back : Option Known) : Type 0 where
  pub id : ℕ
  pub args_are : args ≡ Uint id ∷ []
  pub takes : TakesId id takes_back

-- An event that fits a signature of its target's interface and version, and is not
-- wl_display.error. Only a delete_id takes back an object.
pub record ComesRightly (tables : List Interface) (s : ServerMessage) : Type 0 where
  pub fits : FitsSignature tables event_side s.event
  pub deletes : is_delete_id event_side s.event.target.born.iface s.event.opcode ≡ true
      → Deletes s.event.args s.takes_back
  pub keeps : is_delete_id event_side s.event.target.born.iface s.event.opcode ≡ false
      → s.takes_back ≡ None

-- a bind at a version that the tables have
pub record BindsWithin (tables : List Interface) (args : List (Arg Known)) : Type 0 where
  pub name : ℕ
  pub iface : List ℕ
  pub version : ℕ
  pub new : Known
  pub args_are : args ≡ Uint name ∷ NewNamed iface version new ∷ []
  pub within : new.born.version ≤ version_of tables new.born.iface

-- a request that fits a signature of its target's interface and version
pub record RequestFits (tables : List Interface) (m : Message Known) : Type 0 where
  pub fits : FitsSignature tables Request m
  pub binds : is_bind Request m.target.born.iface m.opcode ≡ true → BindsWithin tables m.args

-- the ids of the client's range are not too great
abbrev pub HeldLow : Rows Row → Type 0
HeldLow v = (id : ℕ) (r : Row) → is_of_server id ≡ false → v.rows id ≡ Some r → id ≤ max_ids

-- no event ends an object of the server's range
abbrev pub HeldPlain : List Interface → Rows Row → Type 0
HeldPlain tables v = (x : Known) → is_of_server x.id ≡ true → IsHeldInRows v x
    → by_event tables x.born ≡ false

-- The client, which has these rows and remembers these globals, has written these requests, and
-- they are not recorded yet. These messages of the server were recorded, and the client has not
-- read them yet. None of the judged messages breaks a rule or is wl_display.error. From the rows
-- that the checker knows, the requests lead to the same rows to which the server's messages lead
-- the client. Each global that the client remembers, will read about or binds was advertised in a
-- recorded event.
pub record FollowsClient (tables : List Interface) (judged : List Judged)
    (asked : List (Message Known)) (told : List ServerMessage) (client : Rows Row)
    (remembered : List Global) : Type 0 where
  pub passed : AllGoOn judged
  pub here : Rows Row
  pub known_as : KnownAs (knowledge tables judged) (birth_places tables judged) here
  pub joins : Joins (by_event tables) (all_asks asked) (all_tells_of told) here client
  pub remembers : Each (λ g. IsAdvertised (knowledge tables judged) g.name g.iface.0 g.version)
      remembered
  pub advertises : Each (λ s. TellsAdvertised tables (knowledge tables judged) (Event s.event)) told
  pub binds : Each (BindsAdvertised (knowledge tables judged)) asked
  -- each message fits a signature
  pub asks_fit : Each (RequestFits tables) asked
  pub tells_fit : Each (ComesRightly tables) told
  -- what the checker knows: wl_display, ids of clients that are not too great, and no object of the
  -- server that an event ends
  pub display : here.rows 1 ≡ Some (Open display_born)
  pub low : HeldLow here
  pub plain : HeldPlain tables here
  -- the client has wl_display, too
  pub client_display : client.rows 1 ≡ Some (Open display_born)

-- ---- what is recorded

-- The client's message there keeps all rules, and the checker then follows the client.
pub record ClientKeepsRules (limit : ℕ) (tables : List Interface) (stream : List ℕ)
    (place tokens : ℕ)
    (sent : boxes.QueuedMessage) (e : List Judged) (asked : List (Message Known))
    (told : List ServerMessage) (client : Rows Row) (remembered : List Global) : Type 0 where
  pub call : Call
  pub is : judged limit tables (knowledge tables e) stream
      (framed ToServer tokens (span place (length sent.bytes))) ≡ Ok call
  pub next : FollowsClient tables (e ++ Ok call ∷ []) asked told client remembered

-- The checker read this call as this event, which names objects that the checker has, open or
-- ending, and makes an object that is the server's next.
pub record IsToldAs (tables : List Interface) (here : Rows Row) (call : Call) (m : Message Known)
    : Type 0 where
  pub fits : FitsSignature tables event_side m
  pub entry : Entry
  pub iface : entry.iface ≡ m.target.born.iface
  pub version : entry.version ≡ m.target.born.version
  pub call_is : call ≡ record {
    direction = ToClient;
    opcode = m.opcode;
    received = record {
      target = record { id = m.target.id; birth = entry.birth };
      entry = entry;
      signature = fits.signature;
      values = map wire m.args;
    };
  }
  pub target : IsHeldInRows here m.target
  pub args : Each (IsHeldInRows here) (objects m.args)
  pub new : IfThere (NextTold here) (made_in m.args)

-- ---- what the client does

-- the client's rows after it wrote a request
abbrev pub after_asking : Rows Row → Message Known → Rows Row
after_asking client m = client_ends m.ends (client_makes client (made_in m.args))

-- the client's rows after a delete_id took back an object
abbrev pub without_taken : Option Known → Rows Row → Rows Row
without_taken None v = v
without_taken (Some x) v = at v x.id None

-- the client's rows after it read what the server wrote
abbrev pub after_telling : Rows Row → ServerMessage → Rows Row
after_telling client s =
    without_taken s.takes_back
    (client_ends s.event.ends (client_told client (made_in s.event.args)))

-- The globals that the client remembers after it read an event: only those for an open registry
-- change them.
abbrev pub after_learning : List Interface → Rows Row → Message Known → List Global → List Global
after_learning tables client m remembered =
    if is_registry m.target.born && is_open_row (client.rows m.target.id)
    then globals_told tables remembered m.opcode (map wire m.args) else remembered

-- a bind of a remembered global, at a version that was announced for it and that the tables have
pub record BindsKnown (tables : List Interface) (remembered : List Global)
    (args : List (Arg Known)) : Type 0 where
  pub binds : BindsWithin tables args
  pub global : Global
  pub there : global_of remembered binds.name ≡ Some global
  pub iface_is : binds.new.born.iface ≡ global.iface
  pub most : binds.new.born.version ≤ global.version

-- A request that the client may write: it fits, it names objects that are open there, and its new
-- object is fresh there.
pub record MayBeAsked (tables : List Interface) (client : Rows Row) (remembered : List Global)
    (m : Message Known) : Type 0 where
  pub fits : FitsSignature tables Request m
  pub target : OpenRow client m.target
  pub args : Each (OpenRow client) (objects m.args)
  pub new : IfThere (Fresh client) (made_in m.args)
  pub binds : is_bind Request m.target.born.iface m.opcode ≡ true
      → BindsKnown tables remembered m.args
