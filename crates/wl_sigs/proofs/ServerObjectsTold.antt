-- Whether tables have new objects of the server.
use Rattle.std.proofs.Common.{◌≡◌, ℕ, List, [], ◌∷◌, Bool, true, false, inl, inr, refl, sym, ap, subst, ◌∙◌, Some}
use Rattle.std.proofs.lemmas.Bool.{cases_Bool}
use Rattle.std.specs.Prelude.{◌↔◌}
use Rattle.std.specs.List.{list_any}
use Rattle.std.proofs.lemmas.List.Folds.{list_any_at}
use Rattle.wl_wire.specs.declared.kind.Kind.{Kind}
use Rattle.wl_wire.specs.declared.kind.Kind.TheVariants as kinds
use Rattle.wl_wire.specs.declared.kind.Iface.{Iface}
use Rattle.wl_sigs.specs.Side.TheVariants.{Event}
use Rattle.wl_sigs.specs.Tables.{Interface, MessageSignature, is_by_server, has_server_object, HasServerObjects}
use Rattle.wl_sigs.specs.Tables.{server_objects, signature_at}
use Rattle.wl_sigs.specs.Rules.{has_server_objects}
use Rattle.wl_sigs.proofs.JoinedValid.{any_at}
use Rattle.wl_sigs.proofs.LineRules.{contains}
use Rattle.wl_sigs.proofs.Lookups.{found, signature_from}
use Rattle.wl_sigs.proofs.ValidKeeps.{any_true}

by_server_is : (k : Kind) → is_by_server k ≡ true → (iface : Iface) × (k ≡ kinds.NewByServer iface)
by_server_is kinds.Int e = cc e
by_server_is kinds.Uint e = cc e
by_server_is kinds.Fixed e = cc e
by_server_is (kinds.Str null) e = cc e
by_server_is (kinds.Obj null iface) e = cc e
by_server_is (kinds.New iface) e = cc e
by_server_is (kinds.NewByServer iface) e = (iface, refl)
by_server_is kinds.Array e = cc e
by_server_is kinds.Fd e = cc e

some_told : (tables : List Interface) → has_server_objects tables ≡ true → HasServerObjects tables
some_told tables any =
    let i = any_at (λ (i : Interface). list_any has_server_object i.events) tables any in
    let m = any_at has_server_object i.1.events i.3 in
    let k = any_at is_by_server m.1.kinds m.3 in
    let kind = by_server_is k.1 k.3 in
    record {
      place = i.0;
      opcode = m.0;
      event = m.1;
      iface = kind.0;
      at = signature_from tables i.0 Event m.0 i.1 m.1 i.2 m.2;
      has = contains m.1.kinds k.0 (kinds.NewByServer kind.0) (k.2 ∙ ap Some kind.1);
    }

told_some : (tables : List Interface) → HasServerObjects tables → has_server_objects tables ≡ true
told_some tables h =
    let witness = found tables h.place Event h.opcode h.event h.at in
    let kind : has_server_object h.event ≡ true =
    list_any_at is_by_server h.event.kinds h.has.0 (kinds.NewByServer h.iface) h.has.1 (ap is_by_server h.has.2) in
    let event : list_any has_server_object witness.interface.events ≡ true =
    any_true has_server_object witness.interface.events h.opcode h.event witness.of kind in
    any_true (λ (i : Interface). list_any has_server_object i.events) tables h.place witness.interface witness.at event

server_objects_told : (tables : List Interface) → (has_server_objects tables ≡ true) ↔ HasServerObjects tables
server_objects_told tables = (some_told tables, told_some tables)

-- a value equal to the test's result decides the same
pub told_by : (tables : List Interface) (b : Bool) → b ≡ has_server_objects tables
    → (b ≡ true) ↔ HasServerObjects tables
told_by tables b is = subst (λ (x : Bool). (x ≡ true) ↔ HasServerObjects tables) (sym is) (server_objects_told tables)

kinds_without : (ks : List Kind) → list_any is_by_server ks ≡ false → server_objects ks ≡ []
kinds_without [] e = refl
kinds_without (kinds.Int ∷ ks) e = kinds_without ks e
kinds_without (kinds.Uint ∷ ks) e = kinds_without ks e
kinds_without (kinds.Fixed ∷ ks) e = kinds_without ks e
kinds_without (kinds.Str null ∷ ks) e = kinds_without ks e
kinds_without (kinds.Obj null iface ∷ ks) e = kinds_without ks e
kinds_without (kinds.New iface ∷ ks) e = kinds_without ks e
kinds_without (kinds.NewByServer iface ∷ ks) e = absurd (cc e)
kinds_without (kinds.Array ∷ ks) e = kinds_without ks e
kinds_without (kinds.Fd ∷ ks) e = kinds_without ks e

-- in tables without new objects of the server, no event has one
pub none_by_server : (tables : List Interface) → has_server_objects tables ≡ false
    → (place opcode : ℕ) (m : MessageSignature) → signature_at tables place Event opcode ≡ Some m
    → server_objects m.kinds ≡ []
none_by_server tables none place opcode m at = elim (cases_Bool (has_server_object m)) [
  | inl some ↦
      (let witness = found tables place Event opcode m at in
      let event : list_any has_server_object witness.interface.events ≡ true =
      any_true has_server_object witness.interface.events opcode m witness.of some in
      let any : has_server_objects tables ≡ true =
      any_true (λ (i : Interface). list_any has_server_object i.events) tables place witness.interface witness.at event in
      absurd (cc (any, none)))
  | inr without ↦ kinds_without m.kinds without
]
