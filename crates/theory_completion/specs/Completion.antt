-- Tables that complete others: with newer versions of their interfaces, and with further
-- interfaces.
use Rattle.std.specs.Prelude.{◌≡◌, ℕ, ◌<◌, ◌≤◌, List, [], ◌∷◌, ◌++◌, length, slice_get, Some}
use Rattle.std.specs.Prelude.{option_map}
use Rattle.wl_sigs.specs.Side.{Side}
use Rattle.wl_sigs.specs.Tables.{MessageSignature, Interface, interface_at, messages_of}

-- Messages are added behind those that are there, and each is newer than this version.
pub record AddsMessages (version : ℕ) (old new : List MessageSignature) : Type 0 where
  pub added : List MessageSignature
  pub are : new ≡ old ++ added
  pub newer : (place : ℕ) (m : MessageSignature) → slice_get added place ≡ Some m
      → version < m.since

-- the same interface, of this version or a newer one
pub record IsNewer (old new : Interface) : Type 0 where
  pub name : new.name ≡ old.name
  pub version : old.version ≤ new.version
  pub messages : (side : Side)
      → AddsMessages old.version (messages_of side old) (messages_of side new)

-- The second tables complete the first: each interface is there at its index, of its version or a
-- newer one, and further interfaces may follow.
pub data Completes : List Interface → List Interface → Type 0 where
  more : {further : List Interface} → Completes [] further
  newer : {old new : Interface} {olds news : List Interface} → IsNewer old new
      → Completes olds news → Completes (old ∷ olds) (new ∷ news)

-- The same tables, but for the versions of interfaces, some of which are raised. An inspector
-- judges by such tables.
pub record IsRaised (tables raised : List Interface) : Type 0 where
  pub completes : Completes tables raised
  pub as_many : length raised ≡ length tables
  pub same : (place : ℕ) (side : Side)
      → option_map (messages_of side) (interface_at raised place)
      ≡ option_map (messages_of side) (interface_at tables place)
