-- The argument for which a call is refused, by its index.
use Rattle.std.specs.Prelude.{◌≡◌, ℕ, ◌<◌, ◌≤◌, true, false, List, slice_get, Option, Some, None}
use Rattle.wl_wire.specs.declared.kind.Kind.{Kind}
use Rattle.wl_wire.specs.Argument.{Obj}
use Rattle.wl_sigs.specs.Side.{Side}
use Rattle.wl_sigs.specs.Tables.{MessageSignature, Interface, signature_at}
use Rattle.wl_object_map.specs.declared.object.Object.{Object}
use Rattle.wl_object_map.specs.declared.object.Entry.{Entry}
use Rattle.wl_object_map.specs.Objects.{Objects, look}
use Rattle.wl_objects.specs.Reading.{iface_of}
use Rattle.wl_objects.specs.Writing.{Given, suits, can_name, names_one}
use Rattle.wl_objects.specs.Messages.{is_hidden}
use Rattle.wl_object_map.specs.View.{lives}

-- There is an argument at the index, and it has the kind that the message has there.
pub record SuitsAt (ks : List Kind) (list : List Given) (place : ℕ) : Type 0 where
  pub kind : Kind
  pub value : Given
  pub asked : slice_get ks place ≡ Some kind
  pub there : slice_get list place ≡ Some value
  pub suit : suits kind value ≡ true

-- The argument at the index has the wrong kind, or it is missing, or the message has none there.
pub data IsWrongAt (ks : List Kind) (list : List Given) (place : ℕ) : Type 0 where
  unsuited : {kind : Kind} {value : Given} → slice_get ks place ≡ Some kind
      → slice_get list place ≡ Some value → suits kind value ≡ false → IsWrongAt ks list place
  missing : {kind : Kind} → slice_get ks place ≡ Some kind → slice_get list place ≡ None
      → IsWrongAt ks list place
  one_too_many : {value : Given} → slice_get ks place ≡ None → slice_get list place ≡ Some value
      → IsWrongAt ks list place

-- All arguments before the index suit, and the one at the index does not.
pub record IsFirstWrong (ks : List Kind) (list : List Given) (place : ℕ) : Type 0 where
  pub before : (k : ℕ) → k < place → SuitsAt ks list k
  pub wrong : IsWrongAt ks list place

-- There is an argument at the index; if it names an object, that object is live, with the
-- argument's birth, and has the interface that the message asks for.
pub record NamesAt (rows : ℕ → Option Entry) (ks : List Kind) (list : List Given) (place : ℕ)
    : Type 0 where
  pub kind : Kind
  pub value : Given
  pub asked : slice_get ks place ≡ Some kind
  pub there : slice_get list place ≡ Some value
  pub named : can_name rows kind value ≡ true

-- The argument at the index names an object that is not live with this birth, or has another
-- interface.
pub record IsLostAt (rows : ℕ → Option Entry) (ks : List Kind) (list : List Given) (place : ℕ)
    : Type 0 where
  pub kind : Kind
  pub object : Object
  pub asked : slice_get ks place ≡ Some kind
  pub there : slice_get list place ≡ Some (Obj (Some object))
  pub lost : names_one (iface_of kind) object (rows object.id) ≡ false

-- All arguments before the index can be named, and the one at the index cannot.
pub record IsFirstLost (rows : ℕ → Option Entry) (ks : List Kind) (list : List Given) (place : ℕ)
    : Type 0 where
  pub before : (k : ℕ) → k < place → NamesAt rows ks list k
  pub lost : IsLostAt rows ks list place

-- A call's arguments are looked at: its target is live with this birth, and the message is one that
-- `send` writes and exists at the target's version.
pub record ReachesArguments (tables : List Interface) (side : Side) (view : Objects)
    (target : Object) (opcode : ℕ) (signature : MessageSignature) : Type 0 where
  pub entry : Entry
  pub row : look view target.id ≡ Some entry
  pub birth : entry.birth ≡ target.birth
  pub live : lives entry.state ≡ true
  pub shown : is_hidden side entry.iface opcode ≡ false
  pub exists : signature_at tables entry.iface.0 side opcode ≡ Some signature
  pub since : signature.since ≤ entry.version
