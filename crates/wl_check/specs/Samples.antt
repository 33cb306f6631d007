-- Sessions with server-created objects, worked out by hand.
use Rattle.std.specs.Prelude.{ℕ, zero, suc, ◌+◌, ◌*◌, List, [], ◌∷◌, ◌++◌, get_or, length, codes}
use Rattle.std.specs.Prelude.{Option, Some}
use Rattle.std.specs.declared.result.Result.{Result}
use Rattle.wl_wire.specs.Word.{word}
use Rattle.wl_wire.specs.declared.kind.Kind.TheVariants as kinds
use Rattle.wl_wire.specs.declared.kind.Iface.{Iface}
use Rattle.wl_sigs.specs.Destroys.TheVariants.{Nothing, Target}
use Rattle.wl_sigs.specs.Tables.{Interface}
use Rattle.wl_sigs.specs.Core.{core_tables}
use Rattle.wl_sigs.specs.Fixed.{message, uint, object_or_null, new, registry}
use Rattle.wl_object_map.specs.declared.object.Entry.{Entry}
use Rattle.wl_objects.specs.declared.error.Fault.{Fault}
use Rattle.wl_objects.specs.declared.lookup.NewId.{NewId}
use Rattle.wl_recording.specs.declared.piece.Direction.{Direction}
use Rattle.wl_recording.specs.declared.piece.Direction.TheVariants.{ToServer, ToClient}
use Rattle.wl_check.specs.declared.changes.MessageChanges.{MessageChanges}
use Rattle.wl_check.specs.Changes.{beginning, changes_nothing}
use Rattle.wl_check.specs.Deserved.{undeserved_id}
use Rattle.wl_check.specs.Places.{KnownAtPlace, known}
use Rattle.wl_check.specs.Rules.{judged_front, reader_by}
use Rattle.wl_check.specs.Seen.{changes_in}
use Rattle.wl_check.specs.Session.{Judged}
use Rattle.wl_check.specs.Trace.{judged_line}

-- the indices of the interfaces after the core ones, and of wl_buffer; the first id of the server
abbrev device_place : Iface
device_place = record { 0 = 19 }

abbrev pub offer_place : Iface
offer_place = record { 0 = 20 }

abbrev params_place : Iface
params_place = record { 0 = 21 }

abbrev pub mode : Iface
mode = record { 0 = 22 }

abbrev pub buffer_place : Iface
buffer_place = record { 0 = 6 }

abbrev pub first_id : ℕ
first_id = 4278190080

-- An interface that makes offers, shows one of them, and makes modes.
abbrev device : Interface
device = record {
  name = codes "device";
  version = 3;
  requests = message (codes "release") 1 [] Target ∷ [];
  events =
      message (codes "made") 1 (kinds.NewByServer offer_place ∷ []) Nothing ∷
      message (codes "show") 1 (object_or_null offer_place ∷ []) Nothing ∷
      message (codes "mode") 1 (kinds.NewByServer mode ∷ []) Nothing ∷
      [];
}

-- An offer, which a request can end.
abbrev offer : Interface
offer = record {
  name = codes "offer";
  version = 3;
  requests = message (codes "destroy") 1 [] Target ∷ [];
  events = message (codes "says") 1 (uint ∷ []) Nothing ∷ [];
}

-- Buffers, which a request and an event can make.
abbrev params : Interface
params = record {
  name = codes "params";
  version = 1;
  requests =
      message (codes "destroy") 1 [] Target ∷
      message (codes "create") 1 (new (Some buffer_place) ∷ []) Nothing ∷
      [];
  events = message (codes "created") 1 (kinds.NewByServer buffer_place ∷ []) Nothing ∷ [];
}

-- A mode, which a request can end from version 3 on.
abbrev output_mode : Interface
output_mode = record {
  name = codes "mode";
  version = 3;
  requests = message (codes "release") 3 [] Target ∷ [];
  events = [];
}

abbrev pub sample_tables : List Interface
sample_tables = core_tables ++ device ∷ offer ∷ params ∷ output_mode ∷ []

-- the bytes of a message: its target, its opcode, and its body
abbrev pub spelled_message : ℕ → ℕ → List ℕ → List ℕ
spelled_message object opcode body =
    word object ++ word ((8 + length body) * 65536 + opcode) ++ body

-- ---- the changes by earlier messages

abbrev pub did_make : Direction → ℕ → Iface → ℕ → MessageChanges
did_make direction id iface version = record changes_nothing {
  direction = direction;
  made = Some (record { id = id; iface = iface; version = version });
}

abbrev pub did_destroy : Direction → ℕ → MessageChanges
did_destroy direction id = record changes_nothing { direction = direction; destroyed = Some id }

-- a delete_id
abbrev pub did_delete : ℕ → MessageChanges
did_delete id = record changes_nothing { direction = ToClient; deleted = Some id }

abbrev pub did_nothing : Direction → MessageChanges
did_nothing direction = record changes_nothing { direction = direction }

-- An event made an offer, a buffer or a mode, with the first id; or a request destroyed it.
abbrev pub an_offer : MessageChanges
an_offer = did_make ToClient first_id offer_place 3

abbrev pub a_buffer : MessageChanges
a_buffer = did_make ToClient first_id buffer_place 1

abbrev pub a_mode : ℕ → MessageChanges
a_mode version = did_make ToClient first_id mode version

abbrev pub its_destruction : MessageChanges
its_destruction = did_destroy ToServer first_id

-- A request made another buffer, with id 4.
abbrev pub own_buffer : MessageChanges
own_buffer = did_make ToServer 4 buffer_place 1

-- There are a registry at id 2 and a device of a version at id 3.
abbrev pub with_device : ℕ → List MessageChanges
with_device version = did_make ToServer 2 registry 1 ∷ did_make ToServer 3 device_place version ∷ []

-- There are params at id 3.
abbrev pub with_params : List MessageChanges
with_params = did_make ToServer 2 registry 1 ∷ did_make ToServer 3 params_place 1 ∷ []

-- ---- what comes after them

-- the changes at each place, given the messages' changes in order
abbrev placed : List MessageChanges → ℕ → MessageChanges
placed done zero = beginning
placed done (suc k) = get_or done k changes_nothing

abbrev known_behind : List MessageChanges → KnownAtPlace
known_behind done = known (placed done) (suc (length done))

-- the object that an id names after them
abbrev pub named_behind : List MessageChanges → ℕ → Option Entry
named_behind done id = (known_behind done).object id

-- a message after them, judged
abbrev judged_behind : List MessageChanges → Direction → List ℕ → Judged
judged_behind done direction bytes =
    judged_front 4096 sample_tables (known_behind done) bytes
    (record { direction = direction; start = 0; size = length bytes; tokens = 0 })

-- the changes by that message, or the first rule that it breaks
abbrev pub comes_behind : List MessageChanges → Direction → List ℕ → Result MessageChanges Fault
comes_behind done direction bytes = changes_in sample_tables (judged_behind done direction bytes)

-- its line
abbrev pub line_behind : List MessageChanges → Direction → List ℕ → List ℕ
line_behind done direction bytes =
    judged_line sample_tables (known_behind done) (Some (judged_behind done direction bytes))

-- the result for an id as that of a new object of the server, if this many of the server's ids were
-- used and only wl_display is held
abbrev pub new_server_id : ℕ → ℕ → NewId
new_server_id count id =
    let k = record (known_behind []) { server_used = count } in
    (reader_by sample_tables k ToClient).new_server_id id

-- the id that a delete_id after them takes back, if it is not deserved
abbrev pub taken_back : List MessageChanges → ℕ → Option ℕ
taken_back done id = undeserved_id sample_tables (known_behind done) (did_delete id)
