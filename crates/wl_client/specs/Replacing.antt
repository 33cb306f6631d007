-- What it means that the last message that a client read replaced an object.
use Rattle.std.specs.Prelude.{◌≡◌, ◌<◌, true, false, Some}
use Rattle.wl_sigs.specs.Tables.{interface_at}
use Rattle.wl_sigs.specs.Rules.{is_ended_by_request}
use Rattle.wl_object_map.specs.declared.object.Object.{Object}
use Rattle.wl_object_map.specs.declared.object.Entry.{Entry}
use Rattle.wl_object_map.specs.View.{lives}
use Rattle.wl_object_map.specs.Objects.{look}
use Rattle.wl_client.specs.State.{State}

-- A message replaced an object: it was live, and no request could end it at its version. The new
-- object has its id and a later birth, and from then on the id has no row with the old birth.
pub record IsReplaced (before after : State) (old : Object) : Type 0 where
  pub entry : Entry
  pub was : look before.core.view old.id ≡ Some entry
  pub birth : entry.birth ≡ old.birth
  pub live : lives entry.state ≡ true
  pub unended : is_ended_by_request entry.version
      (interface_at before.core.tables entry.iface.0) ≡ false
  pub new : Object
  pub made : after.made ≡ Some new
  pub same_id : new.id ≡ old.id
  pub later : old.birth < new.birth
  pub gone : (row : Entry) → look after.core.view old.id ≡ Some row → row.birth ≡ new.birth
