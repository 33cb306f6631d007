-- What a bind that may be written is known to satisfy.
use Rattle.std.specs.Prelude.{◌≡◌, ◌<◌, ◌^◌, ◌≤◌, ℕ, List, Option, Some}
use Rattle.std.specs.declared.result.Result.TheVariants.{Ok}
use Rattle.wl_sigs.specs.Side.TheVariants.{Request}
use Rattle.wl_sigs.specs.Tables.{MessageSignature, signature_at}
use Rattle.wl_sigs.specs.Valid.{Valid}
use Rattle.wl_message.specs.Cut.{usual_limit}
use Rattle.wl_object_map.specs.declared.object.Object.{Object}
use Rattle.wl_object_map.specs.declared.object.Maker.TheVariants.{Client}
use Rattle.wl_object_map.specs.Objects.{ObjectsAreSound, next_id}
use Rattle.wl_objects.specs.Writing.{EachFits, bind_values, message_bytes, message_len}
use Rattle.wl_connection.specs.Spelled.{MessageSpells}
use Rattle.wl_client.specs.State.{State}
use Rattle.wl_client.specs.Calls.{bind_answer}

-- a bind of an interface with this name has a spelling, and is not too long
pub record FitsBind (iface : List ℕ) : Type 0 where
  pub fits : (name version id : ℕ) → EachFits (bind_values name iface version id)
  pub len : (name version id : ℕ) → message_len (bind_values name iface version id) ≤ usual_limit

-- An accepted bind is a spelling of its values by the tables' signature; the new object has the
-- next id.
abbrev pub BindSpells : State → Object → ℕ → List ℕ → ℕ → Type 0
BindSpells state target name iface version =
    Valid state.core.tables → ObjectsAreSound state.core.view → name < 2 ^ 32 → version < 2 ^ 32
    → (new : Option Object) → bind_answer state target name iface version ≡ Ok new
    → (signature : MessageSignature) → signature_at state.core.tables 1 Request 0 ≡ Some signature
    → MessageSpells usual_limit signature.kinds target.id 0
    (bind_values name iface version (next_id Client state.core.view))
    (message_bytes target.id 0 (bind_values name iface version (next_id Client state.core.view)))
