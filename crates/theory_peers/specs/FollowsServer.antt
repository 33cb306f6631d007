-- What a checker knows after the messages that it has judged, and how that fits one server, whoever
-- its client is.
use Rattle.std.specs.Prelude.{◌≡◌, ℕ, ◌+◌, ◌≤◌, true, false, List, [], ◌∷◌, ◌++◌, length, map}
use Rattle.std.specs.Prelude.{drop, Some}
use Rattle.std.specs.declared.result.Result.TheVariants.{Ok}
use Rattle.wl_sigs.specs.Side.TheVariants.{Request, Event as event_side}
use Rattle.wl_sigs.specs.Tables.{Interface}
use Rattle.wl_message.specs.Cut.{IsMessage}
use Rattle.wl_message.specs.Outgoing as boxes
use Rattle.wl_object_map.specs.Ranges.{is_of_server}
use Rattle.wl_object_map.specs.View.{max_ids}
use Rattle.wl_object_map.specs.declared.object.Entry.{Entry}
use Rattle.wl_objects.specs.Messages.{is_delete_id}
use Rattle.wl_recording.specs.declared.piece.Direction.TheVariants.{ToServer, ToClient}
use Rattle.wl_check.specs.Changes.{Call}
use Rattle.wl_check.specs.Merged.{span, framed}
use Rattle.wl_check.specs.Rules.{judged}
use Rattle.wl_check.specs.Session.{Judged}
use Rattle.theory_connection.specs.Meant.{Born, Known, Message, Coming, Event, Delete, made_in}
use Rattle.theory_connection.specs.Meant.{objects, wire}
use Rattle.theory_connection.specs.World.{Row, Open, Each, IfThere, display_born, answer}
use Rattle.theory_connection.specs.Flight.{Rows, Fresh, MeetInMiddle, all_asks, all_tells}
use Rattle.theory_connection.specs.Stands.{FitsSignature, MadePlain, by_event}
use Rattle.theory_connection.proofs.WholeInFlight.{FreshTold, OpenRow, ThereRow}
use Rattle.theory_connection.proofs.WholeInFlight.{id_maker, server_ends, server_makes, server_told}
use Rattle.theory_recording.specs.Follows.{AllGoOn, KnownAs, birth_places, knowledge}

-- An event that fits a signature of its target's interface and version, and is neither
-- wl_display.error nor wl_display.delete_id.
pub record EventFits (tables : List Interface) (m : Message Known) : Type 0 where
  pub fits : FitsSignature tables event_side m
  pub no_delete_id : is_delete_id event_side m.target.born.iface m.opcode ≡ false

-- what a server writes: such an event, or the delete of an id that a client may use
abbrev pub WrittenFitly : List Interface → Coming Known → Type 0
WrittenFitly tables (Event m) = EventFits tables m
WrittenFitly tables (Delete x) = x.id ≤ max_ids

-- These requests were recorded, and the server, which has these rows, has not read them yet. The
-- server has written these events, and they are not yet recorded. None of the judged messages
-- breaks a rule or is wl_display.error. The checker takes the place of a client: once it knows all
-- of the events, the server can read all of the requests, and then both have the same objects.
pub record FollowsServer (tables : List Interface) (judged : List Judged)
    (asked : List (Message Known)) (told : List (Coming Known)) (server : Rows Born) : Type 0 where
  pub passed : AllGoOn judged
  pub here : Rows Row
  pub known_as : KnownAs (knowledge tables judged) (birth_places tables judged) here
  pub meet : MeetInMiddle (by_event tables) (all_tells told) (all_asks asked) here server
  pub display : here.rows 1 ≡ Some (Open display_born)
  -- each message fits a signature
  pub asks_fit : Each (FitsSignature tables Request) asked
  pub fit : Each (WrittenFitly tables) told
  -- at the server: wl_display, ids of clients that are not too great, and no object of the server
  -- that an event ends
  pub server_display : server.rows 1 ≡ Some display_born
  pub low : (id : ℕ) (x : Born) → is_of_server id ≡ false → server.rows id ≡ Some x → id ≤ max_ids
  pub plain : MadePlain (by_event tables) server

-- ---- what is recorded

-- The stream to the client has this message at a place. It has brought enough tokens by then: those
-- that earlier messages took, and the message's own.
pub record IsPlacedIn (limit : ℕ) (stream : List ℕ) (place taken tokens : ℕ)
    (sent : boxes.QueuedMessage) : Type 0 where
  pub whole : IsMessage limit sent.bytes
  pub more : List ℕ
  pub bytes : drop place stream ≡ sent.bytes ++ more
  pub enough : taken + length sent.tokens ≤ tokens

-- The message there keeps all rules and takes its tokens, and the checker then follows the server.
pub record KeepsRules (limit : ℕ) (tables : List Interface) (stream : List ℕ) (place tokens : ℕ)
    (sent : boxes.QueuedMessage) (e : List Judged) (asked : List (Message Known))
    (told : List (Coming Known)) (server : Rows Born) : Type 0 where
  pub call : Call
  pub is : judged limit tables (knowledge tables e) stream
      (framed ToClient tokens (span place (length sent.bytes))) ≡ Ok call
  pub own : (knowledge tables (e ++ Ok call ∷ [])).taken ToClient
      ≡ (knowledge tables e).taken ToClient + length sent.tokens
  pub other : (knowledge tables (e ++ Ok call ∷ [])).taken ToServer
      ≡ (knowledge tables e).taken ToServer
  pub follows : FollowsServer tables (e ++ Ok call ∷ []) asked told server

-- The checker read this call as this request, which names objects that are open to the checker and
-- makes an object that is fresh to it.
pub record IsAskedAs (tables : List Interface) (here : Rows Row) (call : Call) (m : Message Known)
    : Type 0 where
  pub fits : FitsSignature tables Request m
  pub entry : Entry
  pub iface : entry.iface ≡ m.target.born.iface
  pub version : entry.version ≡ m.target.born.version
  pub call_is : call ≡ record {
    direction = ToServer;
    opcode = m.opcode;
    received = record {
      target = record { id = m.target.id; birth = entry.birth };
      entry = entry;
      signature = fits.signature;
      values = map wire m.args;
    };
  }
  pub target : OpenRow here m.target
  pub args : Each (OpenRow here) (objects m.args)
  pub new : IfThere (Fresh here) (made_in m.args)

-- ---- what the server does

-- the server's rows after it read a request
abbrev pub after_request : Rows Born → Message Known → Rows Born
after_request server m = server_ends m.ends (server_makes server (made_in m.args))

-- the server's rows after it wrote an event
abbrev pub after_event : Rows Born → Message Known → Rows Born
after_event server m = server_ends m.ends (server_told server (made_in m.args))

-- The first request names objects that are open at the server, and its new object is fresh there.
-- The checker follows the server after the request is read, and after its answer: the delete of an
-- object of the client that it destroys.
pub record CanBeRead (tables : List Interface) (e : List Judged) (m : Message Known)
    (asked : List (Message Known)) (told : List (Coming Known)) (server : Rows Born) : Type 0 where
  pub target : ThereRow server m.target
  pub args : Each (ThereRow server) (objects m.args)
  pub new : IfThere (Fresh server) (made_in m.args)
  pub follows : FollowsServer tables e asked (told ++ answer id_maker m.ends)
      (after_request server m)

-- An event that the server may write: it fits, it names objects that are open there, and its new
-- object is fresh there.
pub record MayBeTold (tables : List Interface) (server : Rows Born) (m : Message Known) : Type 0
  where
    pub event : EventFits tables m
    pub target : ThereRow server m.target
    pub args : Each (ThereRow server) (objects m.args)
    pub new : IfThere (FreshTold server) (made_in m.args)

-- an object that the server may drop: an open one, of an interface with a destroying event
pub record MayBeDropped (tables : List Interface) (server : Rows Born) (x : Known) : Type 0 where
  pub there : ThereRow server x
  pub by_event_alone : by_event tables x.born ≡ true
