-- Who makes the new objects of a message. With valid tables the client makes those of requests, and
-- the server those of events.
use Rattle.std.proofs.Common.{◌≡◌, ℕ, List, [], ◌∷◌}
use Rattle.std.specs.declared.option.Option.TheVariants.{Some}
use Rattle.wl_wire.specs.declared.kind.Kind.{Kind}
use Rattle.wl_wire.specs.declared.kind.Kind.TheVariants as kinds
use Rattle.wl_sigs.specs.Side.{Side}
use Rattle.wl_sigs.specs.Side.TheVariants.{Request, Event}
use Rattle.wl_sigs.specs.Tables.{Interface, MessageSignature, signature_at, server_objects, new_objects}
use Rattle.wl_sigs.specs.Valid.{Valid}
use Rattle.theory_connection.specs.World.{Each}

-- if an argument of this kind is a new object, the side's maker makes it
abbrev pub MadeFor : Side → Kind → Type 0
MadeFor Request (kinds.NewByServer iface) = ⊥
MadeFor Event (kinds.New iface) = ⊥
MadeFor side kind = Unit {0}

by_client : (ks : List Kind) → server_objects ks ≡ [] → Each (MadeFor Request) ks
by_client [] h = tt
by_client (kinds.NewByServer iface ∷ ks) h = absurd (cc h)
by_client (kind ∷ ks) h = (tt, by_client ks h)

by_server : (ks : List Kind) → new_objects ks ≡ [] → Each (MadeFor Event) ks
by_server [] h = tt
by_server (kinds.New iface ∷ ks) h = absurd (cc h)
by_server (kind ∷ ks) h = (tt, by_server ks h)

-- each kind in a signature is made for its side
pub made_for : (tables : List Interface) → Valid tables → (place : ℕ) (side : Side) (opcode : ℕ) (m : MessageSignature)
    → signature_at tables place side opcode ≡ Some m → Each (MadeFor side) m.kinds
made_for tables v place Request opcode m h = by_client m.kinds (v.server_makes.requests place opcode m h)
made_for tables v place Event opcode m h = by_server m.kinds (v.few_objects_made.events place opcode m h)
