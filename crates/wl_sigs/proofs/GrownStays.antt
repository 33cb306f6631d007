-- What a text leaves unchanged in the tables that it extends.
use Rattle.std.proofs.Common.{◌≡◌, ℕ, ◌≤◌, List, length}
use Rattle.std.proofs.Common.{map, refl, Some}
use Rattle.wl_sigs.specs.Side.{Side}
use Rattle.wl_sigs.specs.Tables.{MessageSignature, Interface, interface_at, messages_of, message_of}
use Rattle.wl_sigs.specs.Tables.{signature_at}
use Rattle.wl_text.specs.Text.{WrittenInterface}
use Rattle.wl_sigs.specs.Joined.{all_names, first_place, message_placed}
use Rattle.wl_sigs.specs.FirstBroken.{written_of}
use Rattle.wl_sigs.specs.Extended.{interface_grown, gathered, extended}
use Rattle.wl_sigs.proofs.Lookups.{found, signature_from}
use Rattle.wl_sigs.proofs.JoinedLookup.{in_front}
use Rattle.wl_sigs.proofs.Grown.{grown_messages}
use Rattle.wl_sigs.proofs.Gathering.{said_of}
use Rattle.wl_sigs.proofs.FirstLineWords.{stands_at}

-- an interface of the tables, as it is in the extended tables
pub record Stays (tables : List Interface) (written : List WrittenInterface) (place : ℕ) (i : Interface) : Type 0 where
  pub interface : Interface
  pub at : interface_at (extended tables written) place ≡ Some interface
  pub name : interface.name ≡ i.name
  pub version : i.version ≤ interface.version
  pub messages : (side : Side) (opcode : ℕ) (m : MessageSignature) → message_of side opcode i ≡ Some m
      → message_of side opcode interface ≡ Some m

pub stays : (tables : List Interface) (written : List WrittenInterface) (place : ℕ) (i : Interface)
    → interface_at tables place ≡ Some i → Stays tables written place i
stays tables written place i at =
    let g = gathered tables written in
    let names = all_names tables g.declared in
    let more = said_of tables written place i at in
    let all = interface_grown (first_place names) (length names) i more.0 in
    record {
      interface = all;
      at = stands_at tables g place i more.0 at more.1;
      name = refl;
      version = more.2.version;
      messages = λ side opcode m of. rw (grown_messages (first_place names) (length names) i more.0 side)
          (in_front (messages_of side i) (map (message_placed (first_place names) (length names))
          (written_of side more.0)) opcode m of);
    }

pub message_stays : (tables : List Interface) (written : List WrittenInterface) (place : ℕ) (side : Side) (opcode : ℕ)
    (m : MessageSignature) → signature_at tables place side opcode ≡ Some m
    → signature_at (extended tables written) place side opcode ≡ Some m
message_stays tables written place side opcode m at =
    let witness = found tables place side opcode m at in
    let there = stays tables written place witness.interface witness.at in
    signature_from (extended tables written) place side opcode there.interface m there.at
    (there.messages side opcode m witness.of)

pub law : (tables : List Interface) (written : List WrittenInterface) (place : ℕ) (i : Interface)
    → interface_at tables place ≡ Some i
    → (j : Interface) × (interface_at (extended tables written) place ≡ Some j) × (j.name ≡ i.name)
    × (i.version ≤ j.version)
    × ((side : Side) (opcode : ℕ) (m : MessageSignature) → message_of side opcode i ≡ Some m
    → message_of side opcode j ≡ Some m)
law tables written place i at =
    let witness = stays tables written place i at in
    (witness.interface, witness.at, witness.name, witness.version, witness.messages)
