-- What a server writes on its own, as spellings by the signatures of its tables.
use Rattle.std.specs.Prelude.{◌≡◌, ℕ, ◌<◌, ◌^◌, true, List, [], ◌∷◌, Some}
use Rattle.wl_wire.specs.Argument.{Argument, Uint}
use Rattle.wl_sigs.specs.Side.TheVariants.{Event}
use Rattle.wl_sigs.specs.Tables.{Interface, MessageSignature, signature_at}
use Rattle.wl_sigs.specs.Valid.{Valid}
use Rattle.wl_objects.specs.Writing.{error_values, message_bytes}
use Rattle.wl_message.specs.Cut.{usual_limit}
use Rattle.wl_connection.specs.Spelled.{MessageSpells}
use Rattle.wl_server.specs.Calls.{is_error_text}
use Rattle.wl_server.specs.Announcing.{Due, Owing, Removal, Telling, owed_opcode, values_of}

-- A message for this object is a spelling of these values by the signature that valid tables have
-- for it.
abbrev pub IsSpelled : List Interface → (place object opcode : ℕ) → List Argument → Type 0
IsSpelled tables place object opcode values =
    Valid tables → (signature : MessageSignature)
    → signature_at tables place Event opcode ≡ Some signature
    → MessageSpells usual_limit signature.kinds object opcode values
    (message_bytes object opcode values)

-- wl_display.delete_id
abbrev pub DeleteSpells : List Interface → ℕ → Type 0
DeleteSpells tables id = id < 2 ^ 32 → IsSpelled tables 0 1 1 (Uint id ∷ [])

-- wl_display.error, about an object
abbrev pub ErrorSpells : List Interface → ℕ → ℕ → List ℕ → Type 0
ErrorSpells tables object code text =
    0 < object → object < 2 ^ 32 → code < 2 ^ 32 → is_error_text text ≡ true
    → IsSpelled tables 0 1 0 (error_values object code text)

-- the numbers of an event that a registry is owed are words
abbrev pub InWords : Owing → Type 0
InWords (Removal name) = name < 2 ^ 32
InWords (Telling name global) = (name < 2 ^ 32) × (global.version < 2 ^ 32)

-- wl_registry.global and global_remove
abbrev pub DueSpells : List Interface → Due → Type 0
DueSpells tables due =
    InWords due.owing
    → IsSpelled tables 1 due.object.id (owed_opcode due.owing) (values_of tables due.owing)
