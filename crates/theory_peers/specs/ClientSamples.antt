-- Events that a checker accepts, and requests of a client after them, worked out by hand.
use Rattle.std.specs.Prelude.{ℕ, List, [], ◌∷◌, ◌++◌, length, codes, Bool, Option, Some, None}
use Rattle.std.specs.declared.result.Result.TheVariants.{Ok, Err}
use Rattle.wl_wire.specs.declared.kind.Iface.{Iface}
use Rattle.wl_wire.specs.declared.kind.Kind.TheVariants as kinds
use Rattle.wl_wire.specs.Word.{word}
use Rattle.wl_wire.specs.Spelling.{text_bytes}
use Rattle.wl_sigs.specs.Destroys.TheVariants.{Nothing}
use Rattle.wl_sigs.specs.Fixed.{message, object}
use Rattle.wl_sigs.specs.Core.{core_tables}
use Rattle.wl_sigs.specs.Tables.{Interface}
use Rattle.wl_message.specs.Cut.{usual_limit}
use Rattle.wl_object_map.specs.declared.object.Entry.{Entry}
use Rattle.wl_objects.specs.declared.error.Fault.{Fault}
use Rattle.wl_client.specs.Calls.{can_bind}
use Rattle.wl_recording.specs.declared.piece.Direction.{Direction}
use Rattle.wl_recording.specs.declared.piece.Direction.TheVariants.{ToServer, ToClient}
use Rattle.wl_check.specs.Changes.{changes}
use Rattle.wl_check.specs.Deserved.{undeserved_id}
use Rattle.wl_check.specs.Merged.{span, framed}
use Rattle.wl_check.specs.Rules.{if_open, judged}
use Rattle.wl_check.specs.Samples.{first_id, mode, offer_place, sample_tables, spelled_message}
use Rattle.wl_check.specs.Session.{Judged}
use Rattle.theory_connection.specs.Meant.{server_birth, Known}
use Rattle.theory_recording.specs.Follows.{knowledge}
use Rattle.theory_peers.specs.AcceptedEvent.{ServerMessage, told_as}
use Rattle.theory_peers.specs.Samples.{compositor_at, judged_next, surface_made}

-- the index of the screen's interface
abbrev pub screen_at : Iface
screen_at = record { 0 = 23 }

-- An interface with a request that names a mode, and with events that make a mode and an offer.
abbrev screen : Interface
screen = record {
  name = codes "screen";
  version = 2;
  requests = message (codes "use") 1 (object mode ∷ []) Nothing ∷ [];
  events =
      message (codes "mode") 1 (kinds.NewByServer mode ∷ []) Nothing ∷
      message (codes "offer") 1 (kinds.NewByServer offer_place ∷ []) Nothing ∷
      [];
}

abbrev pub screen_tables : List Interface
screen_tables = sample_tables ++ screen ∷ []

-- an object of the server: its id, its birth, its interface and its version
abbrev pub made_known : ℕ → ℕ → Iface → ℕ → Known
made_known id birth iface version = record {
  id = id;
  born = record { birth = server_birth birth; iface = iface; version = version };
}

-- a message with these bytes after these judged messages, with the screen's tables
abbrev pub screen_next : List Judged → Direction → List ℕ → Judged
screen_next e direction bytes =
    judged usual_limit screen_tables (knowledge screen_tables e) bytes
    (framed direction 0 (span 0 (length bytes)))

abbrev pub screen_after : List Judged → Direction → List ℕ → List Judged
screen_after e direction bytes = e ++ screen_next e direction bytes ∷ []

-- the first rule that a message breaks, if it breaks one
abbrev pub broken_rule : Judged → Option Fault
broken_rule (Ok call) = None
broken_rule (Err fault) = Some fault

-- what an event with these bytes is read as, if it is accepted
abbrev read_by_tables : List Interface → List Judged → Judged → Option ServerMessage
read_by_tables tables e (Ok call) = Some (told_as tables e call)
read_by_tables tables e (Err fault) = None

-- the same after these judged messages, with the core tables or those of the screen
abbrev pub told_after : List Judged → List ℕ → Option ServerMessage
told_after e bytes = read_by_tables core_tables e (judged_next e ToClient bytes)

abbrev pub screen_told : List Judged → List ℕ → Option ServerMessage
screen_told e bytes = read_by_tables screen_tables e (screen_next e ToClient bytes)

-- the id that a message takes back, if it is not deserved
abbrev undeserved_by : List Interface → List Judged → Judged → Option ℕ
undeserved_by tables e (Ok call) = undeserved_id tables (knowledge tables e) (changes tables call)
undeserved_by tables e (Err fault) = None

abbrev pub undeserved_next : List Judged → List ℕ → Option ℕ
undeserved_next e bytes = undeserved_by core_tables e (judged_next e ToClient bytes)

-- whether a client binds wl_compositor at a version, if version 5 was announced
abbrev pub binds_compositor : ℕ → Bool
binds_compositor version =
    can_bind core_tables (codes "wl_compositor") version
    (Some (record { name = 7; iface = compositor_at; version = 5 }))

-- the object that the checker has open with an id
abbrev pub screen_open : List Judged → ℕ → Option Entry
screen_open e id = if_open ((knowledge screen_tables e).object id)

-- The client binds a screen at version 2, to id 3.
abbrev pub screen_bound : List Judged
screen_bound =
    screen_after (screen_after (screen_after [] ToServer (spelled_message 1 1 (word 2)))
    ToClient (spelled_message 2 0 (word 7 ++ text_bytes (codes "screen") ++ word 2)))
    ToServer (spelled_message 2 0 (word 7 ++ text_bytes (codes "screen") ++ word 2 ++ word 3))

-- The server makes an offer with its first id; the client destroys it.
abbrev pub offer_given_up : List Judged
offer_given_up =
    screen_after (screen_after screen_bound ToClient (spelled_message 3 1 (word first_id)))
    ToServer (spelled_message first_id 0 [])

-- The server makes a mode with its first id.
abbrev pub mode_made : List Judged
mode_made = screen_after screen_bound ToClient (spelled_message 3 0 (word first_id))

-- An event makes an offer with the same id, and so replaces the mode.
abbrev pub mode_replaced : List Judged
mode_replaced = screen_after mode_made ToClient (spelled_message 3 1 (word first_id))

-- a request that names the mode
abbrev pub use_mode : List ℕ
use_mode = spelled_message 3 0 (word first_id)

-- The delete_id of the surface with id 4, which is open; and then a request for it.
abbrev pub delete_surface : List ℕ
delete_surface = spelled_message 1 1 (word 4)

abbrev pub surface_lost : List Judged
surface_lost = surface_made ++ judged_next surface_made ToClient delete_surface ∷ []

abbrev pub attach_nothing : List ℕ
attach_nothing = spelled_message 4 1 (word 0 ++ word 5 ++ word 6)
