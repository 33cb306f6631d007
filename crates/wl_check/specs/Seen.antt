-- The values of the code's types.
use Rattle.std.specs.Prelude.{ℕ, ◌+◌, if◌then◌else◌, Option, Some, None, List}
use Rattle.std.specs.declared.result.Result.{Result}
use Rattle.std.specs.declared.result.Result.TheVariants.{Ok, Err}
use Rattle.wl_message.specs.Cut.{Front, More, Bad, Whole}
use Rattle.wl_objects.specs.declared.error.Fault.{Fault}
use Rattle.wl_recording.specs.declared.piece.Direction.{Direction}
use Rattle.wl_recording.specs.declared.piece.Direction.TheVariants.{ToServer, ToClient}
use Rattle.wl_check.specs.declared.known.KnownState.{KnownState}
use Rattle.wl_check.specs.declared.changes.MessageChanges.{MessageChanges}
use Rattle.wl_objects.specs.declared.reading.Received.{Received}
use Rattle.wl_objects.specs.Seen.{received_of}
use Rattle.wl_sigs.specs.Tables.{Interface}
use Rattle.wl_check.specs.Changes.{Call, changes}
use Rattle.wl_check.specs.Held.{held_object, held_version}
use Rattle.wl_check.specs.Places.{KnownAtPlace}
use Rattle.wl_check.specs.declared.frames.FramedMessage.{FramedMessage}
use Rattle.wl_check.specs.declared.progress.Progress.{Progress}
use Rattle.wl_check.specs.declared.progress.Tally.{Tally}
use Rattle.wl_check.specs.Merged.{same_direction}

-- the size of the message at the front, if there is one
abbrev pub size_of : Front → Option ℕ
size_of More = None
size_of (Bad size) = Some size
size_of (Whole size) = Some size

abbrev pub taken_of_direction : {A : Type 0} → KnownState A → Direction → ℕ
taken_of_direction k ToServer = k.taken_to_server
taken_of_direction k ToClient = k.taken_to_client

abbrev pub known_in : {A : Type 0} → KnownState A → KnownAtPlace
known_in k = record {
  object = held_object k.held;
  used = k.used;
  server_used = k.server_used;
  advertised_version = λ name iface. held_version k.held (name, iface);
  taken = taken_of_direction k;
}

-- a message that was read
abbrev pub call_of : Direction → ℕ → Received → Call
call_of direction opcode received =
    record { direction = direction; opcode = opcode; received = received_of received }

-- the changes by a judged message, or the first rule that it breaks
abbrev pub changes_in : List Interface → Result Call Fault → Result MessageChanges Fault
changes_in tables (Err fault) = Err fault
changes_in tables (Ok call) = Ok (changes tables call)

-- the counts of a direction after a message
abbrev pub tally_after : Direction → FramedMessage → Tally → Tally
tally_after direction frame tally =
    if same_direction frame.direction direction
    then record { count = tally.count + 1; end = frame.start + frame.size } else tally

abbrev pub tally_in : {A : Type 0} → Progress A → Direction → Tally
tally_in p ToServer = p.to_server
tally_in p ToClient = p.to_client

abbrev pub no_tally : Tally
no_tally = record { count = 0; end = 0 }
