-- Tables that an end takes to replace its own.
use Rattle.std.specs.Prelude.{◌≡◌, ℕ, ◌≤◌, List, Some, Bool, ◌&&◌, not}
use Rattle.wl_sigs.specs.Side.{Side}
use Rattle.wl_sigs.specs.Tables.{Interface, MessageSignature, interface_at, message_of}
use Rattle.wl_sigs.specs.Rules.{has_server_objects}
use Rattle.wl_connection.specs.Core.{Core}

-- The second tables extend the first: they have every interface of the first at the same index,
-- with the same name and at least the same version, and every message at the same opcode.
abbrev pub Extend : List Interface → List Interface → Type 0
Extend tables more =
    (place : ℕ) (i : Interface) → interface_at tables place ≡ Some i
    → (j : Interface) × (interface_at more place ≡ Some j) × (j.name ≡ i.name)
    × (i.version ≤ j.version)
    × ((side : Side) (opcode : ℕ) (m : MessageSignature) → message_of side opcode i ≡ Some m
    → message_of side opcode j ≡ Some m)

-- the end with its tables replaced
abbrev pub with_tables : Core → List Interface → Core
with_tables core tables = record core { tables = tables }

-- whether the second tables, unlike the first, have an event by which the server makes an object
abbrev pub has_first_server_object : List Interface → List Interface → Bool
has_first_server_object tables more = has_server_objects more && not (has_server_objects tables)
