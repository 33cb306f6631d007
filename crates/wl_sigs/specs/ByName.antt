-- Messages by their names.
use Rattle.std.specs.Prelude.{ℕ, List, Option, option_and_then, position, bytes_eq}
use Rattle.wl_sigs.specs.Side.{Side}
use Rattle.wl_sigs.specs.Tables.{Interface, interface_at, messages_of}

-- the opcode of the first message with this name on one side of the interface at an index, if there
-- is one
abbrev pub opcode_of : List Interface → ℕ → Side → List ℕ → Option ℕ
opcode_of tables place side name =
    option_and_then (λ i. position (λ m. bytes_eq m.name name) (messages_of side i))
    (interface_at tables place)
