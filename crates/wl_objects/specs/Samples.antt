-- Messages worked out by hand, and their meaning.
use Rattle.std.specs.Prelude.{ℕ, zero, suc, ◌+◌, true, false, List, [], ◌∷◌, length, nat_eq}
use Rattle.std.specs.Prelude.{slice_get, Option, None, option_map}
use Rattle.std.specs.declared.result.Result.{Result}
use Rattle.std.specs.declared.result.Result.TheVariants.{Ok, Err}
use Rattle.wl_wire.specs.declared.kind.Iface.{Iface}
use Rattle.wl_wire.specs.Argument.{Argument}
use Rattle.wl_sigs.specs.Side.TheVariants.{Request}
use Rattle.wl_sigs.specs.Core.{core_tables}
use Rattle.wl_sigs.specs.Fixed.{display, registry, callback}
use Rattle.wl_object_map.specs.declared.object.Entry.{Entry}
use Rattle.wl_object_map.specs.declared.object.State.TheVariants.{Live}
use Rattle.wl_objects.specs.declared.error.Fault.{Fault}
use Rattle.wl_objects.specs.declared.lookup.NewId.TheVariants.{Wrong}
use Rattle.wl_objects.specs.Reading.{Reader}
use Rattle.wl_objects.specs.Messages.{Received, received, new_id_of}

-- the values that were read, or the fault
abbrev pub values_in : Result Received Fault → Result (List Argument) Fault
values_in (Ok message) = Ok message.values
values_in (Err fault) = Err fault

-- the row of an id, if objects of these interfaces were made one after another and none has ended
abbrev pub sample_row : List Iface → ℕ → Option Entry
sample_row ifaces zero = None
sample_row ifaces (suc n) =
    option_map (λ iface. record { birth = n; iface = iface; version = 1; state = Live })
    (slice_get ifaces n)

-- a reader that has these objects
abbrev pub holding : List Iface → Reader
holding ifaces = record {
  object = sample_row ifaces;
  new_id = λ id. new_id_of (nat_eq id (length ifaces + 1)) true;
  new_server_id = λ id. Wrong;
  birth = length ifaces;
  forgives = false;
}

-- the same, but the connection has no room for a new object
abbrev pub full : List Iface → Reader
full ifaces = record (holding ifaces) {
  new_id = λ id. new_id_of (nat_eq id (length ifaces + 1)) false;
}

-- a request at a reader, while no token waits
abbrev pub request_to : Reader → ℕ → ℕ → List ℕ → Result (List Argument) Fault
request_to reader object opcode body =
    values_in (received core_tables Request reader
    (record { object = object; size = 8; opcode = opcode }) body 0)

-- a request at a server that has these objects
abbrev pub sample_request : List Iface → ℕ → ℕ → List ℕ → Result (List Argument) Fault
sample_request ifaces = request_to (holding ifaces)

-- wl_display alone
abbrev pub fresh : List Iface
fresh = display ∷ []

-- also a registry at id 2 and a callback at id 3
abbrev pub sample_registry : List Iface
sample_registry = display ∷ registry ∷ []

abbrev pub with_callback : List Iface
with_callback = display ∷ registry ∷ callback ∷ []

-- also a wl_shm at id 3
abbrev pub with_shm : List Iface
with_shm = display ∷ registry ∷ (record { 0 = 4 }) ∷ []

-- also a wl_surface at id 3
abbrev pub with_surface : List Iface
with_surface = display ∷ registry ∷ (record { 0 = 7 }) ∷ []

-- name 1; a string of 14 bytes, the last of which is 0, and 2 bytes of padding; version 6; id 4
abbrev pub bind_body : ℕ → List ℕ
bind_body len =
    1 ∷ 0 ∷ 0 ∷ 0 ∷ len ∷ 0 ∷ 0 ∷ 0
    ∷ 119 ∷ 108 ∷ 95 ∷ 99 ∷ 111 ∷ 109 ∷ 112 ∷ 111 ∷ 115 ∷ 105 ∷ 116 ∷ 111 ∷ 114 ∷ 0 ∷ 0 ∷ 0
    ∷ 6 ∷ 0 ∷ 0 ∷ 0 ∷ 4 ∷ 0 ∷ 0 ∷ 0 ∷ []
