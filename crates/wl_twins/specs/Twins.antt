-- Which objects of two ends are each other's twins.
use Rattle.std.specs.Prelude.{ℕ, Option}
use Rattle.std.specs.declared.cmp.Ordering.{Ordering}
use Rattle.std.specs.Ordering.{nat_cmp, ordering_then}
use Rattle.std.specs.BTreeMap.{BTreeMap, get}
use Rattle.wl_object_map.specs.declared.object.Object.{Object}
use Rattle.wl_twins.specs.declared.twins.Twins.{Twins}

-- the order of objects, as pairs of an id and a birth
abbrev pub key_cmp : ℕ × ℕ → ℕ × ℕ → Ordering
key_cmp a b = ordering_then (nat_cmp a.0 b.0) (nat_cmp a.1 b.1)

-- the map's value for an object
abbrev pub twin_of : BTreeMap (ℕ × ℕ) Object → Object → Option Object
twin_of twins object = get key_cmp twins (object.id, object.birth)

-- the client's twin of a server's object
abbrev pub client_twin : {A : Type 0} → Twins A → Object → Option Object
client_twin twins object = twin_of twins.at_client object

-- the server's twin of a client's object
abbrev pub server_twin : {A : Type 0} → Twins A → Object → Option Object
server_twin twins object = twin_of twins.at_server object
