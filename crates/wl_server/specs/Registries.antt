-- The open registries in the order of their births, whatever is kept about each.
use Rattle.std.specs.Prelude.{◌≡◌, ◌⊎◌, ℕ, Bool, true, false, ◌&&◌, nat_eq, if◌then◌else◌, List, []}
use Rattle.std.specs.Prelude.{◌∷◌, ◌++◌, Option, Some, None}
use Rattle.wl_wire.specs.declared.kind.Iface.{Iface}
use Rattle.wl_sigs.specs.Fixed.{registry}
use Rattle.wl_object_map.specs.declared.object.Object.{Object}
use Rattle.wl_object_map.specs.declared.object.Entry.{Entry}
use Rattle.wl_object_map.specs.Ranges.{is_of_server}
use Rattle.wl_object_map.specs.Objects.{Objects, look}
use Rattle.wl_objects.specs.Messages.{NewObject, same_iface}
use Rattle.wl_server.specs.State.{Registry, RiseFrom}

-- The registries after an object of this interface was opened: a new registry is appended.
abbrev pub with_registry : {R : Type 0} → Iface → R → List R → List R
with_registry iface new registries =
    if same_iface iface registry then registries ++ new ∷ [] else registries

-- The registries without the one with this key, if it ended: a registry that ended is owed nothing.
-- The test says whether two keys are the same.
abbrev pub without_registry : {R K : Type 0} → (K → K → Bool) → (R → K) → Bool → K → List R
    → List R
without_registry same key false ended registries = registries
without_registry same key true ended [] = []
without_registry same key true ended (r ∷ registries) =
    if same (key r) ended then without_registry same key true ended registries
    else r ∷ without_registry same key true ended registries

-- whether two objects are the same: ids are reused, and births are counted in each range of ids
abbrev pub same_object : Object → Object → Bool
same_object a b = nat_eq a.id b.id && nat_eq a.birth b.birth

-- the registries of a server without this object, if it ended
abbrev pub without_object : Bool → Object → List Registry → List Registry
without_object ends object registries =
    without_registry same_object (λ (r : Registry). r.object) ends object registries

-- ---- the registries of a server

-- this object is among the registries
abbrev pub IsAmong : Object → List Registry → Type 0
IsAmong object [] = ⊥
IsAmong object (r ∷ registries) = (r.object ≡ object) ⊎ IsAmong object registries

-- this is an open object of interface wl_registry
pub record IsRegistry (view : Objects) (object : Object) : Type 0 where
  pub entry : Entry
  pub row : look view object.id ≡ Some entry
  pub birth : entry.birth ≡ object.birth
  pub iface : entry.iface ≡ registry

-- These are the open objects of interface wl_registry: all of them, no other, and in order of
-- birth.
pub record HasRegistries (view : Objects) (registries : List Registry) : Type 0 where
  pub rising : RiseFrom 0 view.client.births registries
  pub all : (id : ℕ) (e : Entry) → look view id ≡ Some e → e.iface ≡ registry
      → IsAmong (record { id = id; birth = e.birth }) registries
  pub only : (object : Object) → IsAmong object registries → IsRegistry view object

-- the id at which an object is to be opened has no row, and is in the client's range
abbrev pub IsFreshId : Objects → Option NewObject → Type 0
IsFreshId view None = Unit {0}
IsFreshId view (Some m) = (look view m.id ≡ None) × (is_of_server m.id ≡ false)
