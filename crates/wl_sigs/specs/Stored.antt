-- Values kept in place or in memory of their own. No public clause cites this module.
use Rattle.std.specs.Prelude.{ℕ, List}
use Rattle.wl_wire.specs.declared.kind.Kind.{Kind}
use Rattle.wl_sigs.specs.declared.name.Name.{Name}
use Rattle.wl_sigs.specs.declared.name.Name.TheVariants.{Short, Long}
use Rattle.wl_sigs.specs.declared.kinds.Kinds.{Kinds}
use Rattle.wl_sigs.specs.declared.kinds.Kinds.TheVariants.{Few, Many}
use Rattle.wl_sigs.specs.declared.interface.InterfaceParts.{InterfaceParts}
use Rattle.wl_sigs.specs.Tables.{Interface}

module _ {A : Type 0} where
  abbrev pub name_bytes : Name A → List ℕ
  name_bytes (Short bytes) = bytes
  name_bytes (Long v) = v.items

  abbrev pub kinds_listed : Kinds A → List Kind
  kinds_listed (Few kinds) = kinds
  kinds_listed (Many v) = v.items

  -- the interface at a version with these parts
  abbrev pub interface_of : ℕ → InterfaceParts A → Interface
  interface_of version parts = record {
    name = name_bytes parts.name;
    version = version;
    requests = parts.requests.items;
    events = parts.events.items;
  }
