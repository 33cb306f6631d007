-- What always holds for the server's range of ids, at either end.
use Rattle.std.specs.Prelude.{◌≡◌, ℕ, true, false, List, Option, Some, IfSome}
use Rattle.std.specs.List.{Contains}
use Rattle.wl_wire.specs.declared.kind.Kind.TheVariants as kinds
use Rattle.wl_wire.specs.declared.kind.Iface.{Iface}
use Rattle.wl_sigs.specs.Side.TheVariants.{Event}
use Rattle.wl_sigs.specs.Tables.{Interface, MessageSignature, interface_at, signature_at}
use Rattle.wl_sigs.specs.Rules.{is_ended_by_event, has_server_objects}
use Rattle.wl_object_map.specs.declared.object.Entry.{Entry}
use Rattle.wl_object_map.specs.Ranges.{is_of_server}
use Rattle.wl_object_map.specs.Objects.{Objects, look, IsServerRangeNew}
use Rattle.wl_objects.specs.Messages.{NewObject}

-- no event destroys objects of this interface
abbrev pub NoEventEnds : List Interface → Iface → Type 0
NoEventEnds tables iface = is_ended_by_event (interface_at tables iface.0) ≡ false

-- P holds for the interface of each object that the server made
abbrev pub HoldsOfMade : (Iface → Type 0) → Objects → Type 0
HoldsOfMade P view =
    (id : ℕ) (e : Entry) → is_of_server id ≡ true → look view id ≡ Some e → P e.iface

-- no event destroys any object that the server made
abbrev pub NoEventEndsMade : List Interface → Objects → Type 0
NoEventEndsMade tables view = HoldsOfMade (NoEventEnds tables) view

-- some event of the tables makes objects of this interface
pub record IsMadeBySome (tables : List Interface) (iface : Iface) : Type 0 where
  pub place : ℕ
  pub opcode : ℕ
  pub event : MessageSignature
  pub at : signature_at tables place Event opcode ≡ Some event
  pub has : Contains event.kinds (kinds.NewByServer iface)

-- for each object that the server made, some event makes objects of its interface
abbrev pub EventsMakeMade : List Interface → Objects → Type 0
EventsMakeMade tables view = HoldsOfMade (IsMadeBySome tables) view

-- if no event of the tables makes an object, the server's range is that of a new end
abbrev pub IsRangeNewUnlessMade : List Interface → Objects → Type 0
IsRangeNewUnlessMade tables view =
    has_server_objects tables ≡ false → IsServerRangeNew view

-- if the object to be opened is the server's, P holds for its interface
abbrev pub OpensHolding : (Iface → Type 0) → Option NewObject → Type 0
OpensHolding P new = IfSome new (λ m. is_of_server m.id ≡ true → P m.iface)

-- if the object to be opened is the server's, no event destroys it
abbrev pub OpensLasting : List Interface → Option NewObject → Type 0
OpensLasting tables new = OpensHolding (NoEventEnds tables) new

-- if the object to be opened is the server's, some event makes objects of its interface
abbrev pub OpensMadeBySome : List Interface → Option NewObject → Type 0
OpensMadeBySome tables new = OpensHolding (IsMadeBySome tables) new
