-- Closing an object that is no registry does not change the registries.
use Rattle.std.proofs.Common.{◌≡◌, ◌≢◌, ℕ, Bool, true, false, cond, List, [], ◌∷◌, Some, refl}
use Rattle.std.proofs.Common.{sym, ap, subst, ◌∙◌, inl, inr}
use Rattle.std.specs.Prelude.{Option}
use Rattle.std.specs.Option.{option_map_or}
use Rattle.wl_wire.specs.declared.kind.Iface.{Iface}
use Rattle.wl_sigs.specs.Fixed.{registry}
use Rattle.wl_object_map.specs.declared.object.Object.{Object}
use Rattle.wl_object_map.specs.declared.object.Entry.{Entry}
use Rattle.wl_object_map.specs.Objects.{Objects, look}
use Rattle.wl_objects.specs.Messages.{NewObject, opens, same_iface}
use Rattle.wl_connection.specs.Core.{Core}
use Rattle.wl_server.specs.State.{Registry}
use Rattle.wl_server.specs.Registries.{HasRegistries, IsAmong, IsFreshId, without_object}
use Rattle.wl_server.specs.Requests.{registries_after}
use Rattle.wl_server.specs.Steps.{HasRow}
use Rattle.wl_server.proofs.OneObject.{differ}
use Rattle.wl_server.proofs.Registries.{has_opened, row_kept}

-- if no registry is this object, there is none to remove
without-none : (object : Object) (rs : List Registry) → ((o : Object) → IsAmong o rs → o ≢ object)
    → without_object true object rs ≡ rs
without-none object [] f = refl
without-none object (r ∷ rs) f =
    ap (λ b. cond b (without_object true object rs) (r ∷ without_object true object rs))
    (differ r.object object (f r.object (inl refl)))
    ∙ ap (λ (l : List Registry). r ∷ l) (without-none object rs (λ o a. f o (inr a)))

pub no_registry : (v : Objects) (rs : List Registry) (object : Object) (d : Entry) → look v object.id ≡ Some d
    → d.iface ≢ registry → HasRegistries v rs → without_object true object rs ≡ rs
no_registry v rs object d row ne h =
    without-none object rs (λ o a same.
    let r = h.only o a in
    let both = sym r.row ∙ (ap (λ (x : Object). look v x.id) same ∙ row) in
    let entry : r.entry ≡ d = cc both in
    ne (ap (λ (x : Entry). x.iface) (sym entry) ∙ r.iface))

pub not_same : (v : Objects) (id : ℕ) (d : Entry) (b : Bool)
    → b ≡ option_map_or (λ (e : Entry). same_iface e.iface registry) (look v id) false → b ≡ false → look v id ≡ Some d
    → d.iface ≢ registry
not_same v id d b e f row is =
    let told = ap (λ (o : Option Entry). option_map_or (λ (x : Entry). same_iface x.iface registry) o false) row in
    let same : same_iface d.iface registry ≡ true = ap (λ (x : Iface). same_iface x registry) is in
    let both : false ≡ true = sym f ∙ (e ∙ (told ∙ same)) in
    cc both

-- ---- after an object was opened

pub row_opened : (v w : Objects) (m : Option NewObject) (o : Object) → w ≡ opens v m → IsFreshId v m → HasRow v o
    → HasRow w o
row_opened v w m o e f h = subst (λ (x : Objects). HasRow x o) (sym e)
    (record { entry = h.entry; row = row_kept v m o.id h.entry f h.row; birth = h.birth })

pub registries_opened : (core now : Core) (rs ms : List Registry) (m : Option NewObject)
    → now.view ≡ opens core.view m → ms ≡ registries_after core rs m → IsFreshId core.view m
    → HasRegistries core.view rs → HasRegistries now.view ms
registries_opened core now rs ms m e r f h =
    subst (λ (v : Objects). HasRegistries v ms) (sym e)
    (subst (HasRegistries (opens core.view m)) (sym r) (has_opened core rs m f h))
