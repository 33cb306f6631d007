-- Requests that a checker accepts, worked out by hand.
use Rattle.std.specs.Prelude.{ℕ, List, [], ◌∷◌, ◌++◌, length, codes, Option, Some, None}
use Rattle.std.specs.declared.result.Result.TheVariants.{Ok, Err}
use Rattle.wl_wire.specs.declared.kind.Iface.{Iface}
use Rattle.wl_wire.specs.Word.{word}
use Rattle.wl_wire.specs.Spelling.{text_bytes}
use Rattle.wl_sigs.specs.Core.{core_tables}
use Rattle.wl_message.specs.Cut.{usual_limit}
use Rattle.wl_recording.specs.declared.piece.Direction.{Direction}
use Rattle.wl_recording.specs.declared.piece.Direction.TheVariants.{ToServer, ToClient}
use Rattle.wl_check.specs.Merged.{span, framed}
use Rattle.wl_check.specs.Rules.{judged}
use Rattle.wl_check.specs.Samples.{spelled_message}
use Rattle.wl_check.specs.Session.{Judged}
use Rattle.theory_connection.specs.Meant.{client_birth, Known, Message}
use Rattle.theory_recording.specs.Follows.{knowledge}
use Rattle.theory_peers.specs.AcceptedRequest.{asked_as}

-- the indices of wl_compositor and wl_surface
abbrev pub compositor_at : Iface
compositor_at = record { 0 = 3 }

abbrev pub surface_at : Iface
surface_at = record { 0 = 7 }

-- an object of the client: its id, its birth, its interface and its version
abbrev pub known_as : ℕ → ℕ → Iface → ℕ → Known
known_as id birth iface version = record {
  id = id;
  born = record { birth = client_birth birth; iface = iface; version = version };
}

-- a message with these bytes after these judged messages
abbrev pub judged_next : List Judged → Direction → List ℕ → Judged
judged_next e direction bytes =
    judged usual_limit core_tables (knowledge core_tables e) bytes
    (framed direction 0 (span 0 (length bytes)))

abbrev pub and_then : List Judged → Direction → List ℕ → List Judged
and_then e direction bytes = e ++ judged_next e direction bytes ∷ []

-- the message that a request with these bytes is read as, if it is accepted
abbrev asked_by : List Judged → Judged → Option (Message Known)
asked_by e (Ok call) = Some (asked_as core_tables e call)
asked_by e (Err fault) = None

abbrev pub asked_after : List Judged → List ℕ → Option (Message Known)
asked_after e bytes = asked_by e (judged_next e ToServer bytes)

-- The client makes a registry at id 2; the server announces version 5 of wl_compositor as name 7,
-- where the tables have version 6; the client binds it, at version 4, to id 3.
abbrev pub compositor_announced : List Judged
compositor_announced =
    and_then (and_then [] ToServer (spelled_message 1 1 (word 2)))
    ToClient (spelled_message 2 0 (word 7 ++ text_bytes (codes "wl_compositor") ++ word 5))

abbrev pub bind_bytes : ℕ → List ℕ
bind_bytes version =
    spelled_message 2 0 (word 7 ++ text_bytes (codes "wl_compositor") ++ word version ++ word 3)

abbrev pub bound : List Judged
bound = and_then compositor_announced ToServer (bind_bytes 4)

-- It makes a surface at id 4.
abbrev pub surface_made : List Judged
surface_made = and_then bound ToServer (spelled_message 3 0 (word 4))

-- It destroys the surface, and the delete_id of 4 comes.
abbrev pub surface_taken_back : List Judged
surface_taken_back =
    and_then (and_then surface_made ToServer (spelled_message 4 0 []))
    ToClient (spelled_message 1 1 (word 4))
