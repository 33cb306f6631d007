-- With tables in which no event has a new object of the server, no event makes an object.
use Rattle.std.proofs.Common.{◌≡◌, ℕ, false, List, [], ◌∷◌, refl}
use Rattle.std.specs.declared.option.Option.TheVariants.{None}
use Rattle.wl_wire.specs.declared.kind.Kind.{Kind}
use Rattle.wl_wire.specs.declared.kind.Kind.TheVariants as kinds
use Rattle.wl_wire.specs.Argument.{New, NewNamed}
use Rattle.wl_wire.specs.Spelling.{Suits}
use Rattle.wl_sigs.specs.Side.TheVariants.{Event as event_side}
use Rattle.wl_sigs.specs.Tables.{Interface, server_objects, new_objects}
use Rattle.wl_sigs.specs.Rules.{has_server_objects}
use Rattle.wl_sigs.specs.Valid.{Valid}
use Rattle.wl_sigs.proofs.ServerObjectsTold.{none_by_server}
use Rattle.theory_connection.specs.Meant.{Known, Message, Arg, wire, new_object_in, made_in}
use Rattle.theory_connection.specs.Stands.{FitsSignature, SuitKinds}

-- an argument of this kind makes no object
abbrev MakesNone : Kind → Type 0
MakesNone (kinds.New iface) = ⊥
MakesNone (kinds.NewByServer iface) = ⊥
MakesNone kind = Unit {0}

none_in : (kind : Kind) (a : Arg Known) → MakesNone kind → Suits kind (wire a) → new_object_in a ≡ None
none_in (kinds.New iface) a n s = absurd n
none_in (kinds.NewByServer iface) a n s = absurd n
none_in kind (New x) n s = absurd s
none_in kind (NewNamed name version x) n s = absurd s
none_in kind a n s = refl

none_made : (tables : List Interface) (version : ℕ) (ks : List Kind) (args : List (Arg Known))
    → SuitKinds tables version ks args → new_objects ks ≡ [] → server_objects ks ≡ [] → made_in args ≡ None
none_made tables version [] [] s n b = refl
none_made tables version [] (a ∷ args) s n b = absurd s
none_made tables version (k ∷ ks) [] s n b = absurd s
none_made tables version (kinds.New iface ∷ ks) (a ∷ args) s n b = absurd (cc n)
none_made tables version (kinds.NewByServer iface ∷ ks) (a ∷ args) s n b = absurd (cc b)
none_made tables version (k ∷ ks) (a ∷ args) s n b =
    rw (none_in k a tt s.0.0, none_made tables version ks args s.1 n b) refl

-- no event that fits its signature makes one
pub tells_none : (tables : List Interface) → Valid tables → has_server_objects tables ≡ false → (m : Message Known)
    → FitsSignature tables event_side m → made_in m.args ≡ None
tells_none tables v none m f = none_made tables m.target.born.version f.signature.kinds m.args f.args
    (v.few_objects_made.events m.target.born.iface.0 m.opcode f.signature f.there)
    (none_by_server tables none m.target.born.iface.0 m.opcode f.signature f.there)
