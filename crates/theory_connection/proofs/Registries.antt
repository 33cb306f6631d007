-- The open registries, by ids and by births.
use Rattle.std.proofs.Common.{◌≡◌, ◌≢◌, Bool, true, false, cond, List, [], ◌∷◌, ◌++◌, map, refl, sym, ap, ◌∙◌}
use Rattle.std.proofs.Common.{ℕ, ◌⊎◌, subst, inl, inr}
use Rattle.std.specs.Prelude.{option_map, is_some}
use Rattle.std.specs.declared.option.Option.{Option}
use Rattle.std.specs.declared.option.Option.TheVariants.{None, Some}
use Rattle.wl_wire.specs.declared.kind.Iface.{Iface}
use Rattle.wl_sigs.specs.Side.TheVariants.{Event}
use Rattle.wl_sigs.specs.Tables.{Interface, interface_at}
use Rattle.wl_sigs.specs.Fixed.{registry}
use Rattle.wl_sigs.specs.Valid.{Valid}
use Rattle.wl_object_map.specs.declared.object.Entry.{Entry}
use Rattle.wl_object_map.specs.declared.object.Object.{Object}
use Rattle.wl_object_map.specs.Objects.{Objects, look}
use Rattle.wl_objects.specs.Messages.{same_iface, opens}
use Rattle.wl_connection.specs.Core.{Core}
use Rattle.wl_server.specs.State as server
use Rattle.wl_server.specs.State.{untold}
use Rattle.wl_server.specs.Registries.{without_registry, same_object, without_object, IsAmong, IsFreshId}
use Rattle.wl_server.specs.Registries.{HasRegistries}
use Rattle.wl_server.specs.Requests.{registries_after}
use Rattle.wl_server.proofs.OneObject.{differ, same-one}
use Rattle.wl_server.proofs.Registries.{has_opened, has_closed, has_fewer, row_kept}
use Rattle.wl_sigs.specs.Rules.{is_ended_by_event}
use Rattle.wl_object_map.specs.declared.object.Maker.TheVariants.{Client}
use Rattle.wl_object_map.specs.Objects.{maker_of}
use Rattle.theory_connection.specs.Meant.{Birth, same_birth, Born, Known, born_of, birth_of, born_of_entry}
use Rattle.theory_connection.specs.World.{Marks, IfThere, marks_birth, without_marks}
use Rattle.theory_connection.specs.World.{marks_after}
use Rattle.theory_connection.specs.Flight.{server_rows, births_in, Fresh}
use Rattle.theory_connection.specs.Answers.{birth_at, marks_of}
use Rattle.theory_connection.specs.Stands.{by_event, ShowsBirths, NoneIsGone}
use Rattle.theory_connection.proofs.WholeInFlight.{ThereRow, FreshTold}
use Rattle.theory_connection.proofs.ReadAsMeant.{made_of}
use Rattle.theory_connection.proofs.RowsAfterMessage.{HeldRow, there_row}
use Rattle.theory_connection.proofs.EndedObject.{ended_view}
use Rattle.theory_connection.proofs.Births.{birth_same, birth_itself, next_uncounted}
use Rattle.theory_connection.proofs.Flight.{fresh_range}
use Rattle.theory_connection.proofs.Bridges.{by_client, told_client}
use Rattle.wl_object_map.specs.View.{View}
use Rattle.wl_object_map.specs.ObjectsLaws.{look-opened_at, row-opened_at}
use Rattle.wl_server.specs.State.{RiseFrom}
use Rattle.std.proofs.Common.{eqb}
use Rattle.std.proofs.lemmas.Bool.{ne_eqb}

-- ---- the marks

map_more : {X Y : Type 0} (f : X → Y) (xs : List X) (x : X) → map f (xs ++ x ∷ []) ≡ map f xs ++ f x ∷ []
map_more f [] x = refl
map_more f (y ∷ xs) x = ap (λ (l : List _). f y ∷ l) (map_more f xs x)

marks_cond : (b : Bool) (xs ys : List server.Registry)
    → map marks_of (cond b xs ys) ≡ cond b (map marks_of xs) (map marks_of ys)
marks_cond true xs ys = refl
marks_cond false xs ys = refl

-- the marks of the registries after a message that may make one
pub marks_with : (c : Core) (rs : List server.Registry) (n : Option Known)
    → IfThere (λ x. x.born.birth ≡ birth_at (record { id = x.id; birth = c.view.client.births })) n
    → map marks_of (registries_after c rs (option_map made_of n)) ≡ marks_after (option_map born_of n) (map marks_of rs)
marks_with c rs None h = refl
marks_with c rs (Some x) h =
    let r : server.Registry = untold (record { id = x.id; birth = c.view.client.births }) in
    marks_cond (same_iface x.born.iface registry) (rs ++ r ∷ []) rs
    ∙ ap (λ (l : List Marks). cond (same_iface x.born.iface registry) l (map marks_of rs))
    (map_more marks_of rs r ∙ ap (λ (b : Birth). map marks_of rs
    ++ record { birth = b; told = r.told; removed = r.removed } ∷ []) (sym h))

-- an end's name for the object
abbrev pub object_of : Known → Object
object_of x = record { id = x.id; birth = x.born.birth.number }

-- that name has the object's birth
pub object_birth : (v : Objects) (x : Known) → ThereRow (server_rows v) x → birth_at (object_of x) ≡ x.born.birth
object_birth v x h =
    let r = there_row v x h in
    let maker : maker_of x.id ≡ x.born.birth.maker = ap (λ (b : Born). b.birth.maker) r.same in
    λ i. record { maker = maker i; number = x.born.birth.number }

-- Removing an object is removing its birth, if each registry with this birth is the object.
marks_without : (object : Object) (rs : List server.Registry)
    → ((o : Object) → IsAmong o rs → birth_at o ≡ birth_at object → o ≡ object)
    → map marks_of (without_object true object rs)
    ≡ without_registry same_birth marks_birth true (birth_at object) (map marks_of rs)
marks_without object [] f = refl
marks_without object (r ∷ rs) f =
    let more = marks_without object rs (λ o a. f o (inr a)) in
    let test = by_birth (same_birth (birth_at r.object) (birth_at object)) refl in
    marks_cond (same_object r.object object) (without_object true object rs) (r ∷ without_object true object rs)
    ∙ (λ i. cond (test i) (more i) (marks_of r ∷ more i))
  where
    by_birth : (b : Bool) → same_birth (birth_at r.object) (birth_at object) ≡ b
        → same_object r.object object ≡ same_birth (birth_at r.object) (birth_at object)
    by_birth true e = same-one r.object object
        (f r.object (inl refl) (birth_same (birth_at r.object) (birth_at object) e)) ∙ sym e
    by_birth false e = differ r.object object (λ q. (let t : same_birth (birth_at r.object) (birth_at object) ≡ true =
        subst (λ (o : Object). same_birth (birth_at r.object) (birth_at o) ≡ true) q (birth_itself (birth_at r.object)) in
        cc (e, t))) ∙ sym e

-- the elements of a longer list
among_more : (o : Object) (rs : List server.Registry) (r : server.Registry) → IsAmong o (rs ++ r ∷ [])
    → IsAmong o rs ⊎ (r.object ≡ o)
among_more o [] r h = elim h [ inl p ↦ inr p | inr p ↦ absurd p ]
among_more o (x ∷ rs) r h = elim h [
  | inl p ↦ inl (inl p)
  | inr p ↦ elim (among_more o rs r p) [ inl q ↦ inl (inr q) | inr q ↦ inr q ]
]

among_new : (c : Core) (rs : List server.Registry) (n : Option Known) (o : Object)
    → IsAmong o (registries_after c rs (option_map made_of n))
    → IsAmong o rs ⊎ ((x : Known) × ((n ≡ Some x) × (o ≡ record { id = x.id; birth = c.view.client.births })))
among_new c rs None o h = inl h
among_new c rs (Some x) o h = elim (by_test (same_iface x.born.iface registry) h)
    [ inl p ↦ inl p | inr p ↦ inr (x, (refl, p)) ]
  where
    new : server.Registry
    new = untold (record { id = x.id; birth = c.view.client.births })

    by_test : (b : Bool) → IsAmong o (cond b (rs ++ new ∷ []) rs)
        → IsAmong o rs ⊎ (o ≡ record { id = x.id; birth = c.view.client.births })
    by_test true a = elim (among_more o rs new a) [ inl p ↦ inl p | inr p ↦ inr (sym p) ]
    by_test false a = inl a

-- these are the births that are open at the server
abbrev pub Shown : Objects → (Birth → Option Born) → Type 0
Shown v there = ShowsBirths birth_of NoneIsGone (server_rows v).rows (births_in (server_rows v)) there

-- a registry with the birth of an object that has a row is that object
one_of_birth : (c : Core) (rs : List server.Registry) (n : Option Known) (x : Known) (there : Birth → Option Born)
    → Shown c.view there → IfThere (Fresh (server_rows c.view)) n
    → ThereRow (server_rows c.view) x → HasRegistries c.view rs
    → (o : Object) → IsAmong o (registries_after c rs (option_map made_of n)) → birth_at o ≡ x.born.birth
    → o ≡ object_of x
one_of_birth c rs n x there s g held h o a e = elim (among_new c rs n o a) [
  | inl p ↦ (let r = h.only o p in
      let row = ap (option_map (born_of_entry o.id)) r.row in
      let number : o.birth ≡ x.born.birth.number = ap (λ (b : Birth). b.number) e in
      let birth : (born_of_entry o.id r.entry).birth ≡ x.born.birth =
      ap (λ (n : ℕ). birth_at (record { id = o.id; birth = n })) r.birth ∙ e in
      let id : o.id ≡ x.id = s.one o.id x.id (born_of_entry o.id r.entry) x.born row held birth in
      λ i. record { id = id i; birth = number i })
  | inr p ↦ (let f : Fresh (server_rows c.view) p.0 = subst (IfThere (Fresh (server_rows c.view))) p.1.0 g in
      absurd (next_uncounted x.born.birth Client (births_in (server_rows c.view))
      (sym e ∙ ap birth_at p.1.1 ∙ by_client p.0.id c.view.client.births (fresh_range f))
      (s.below x.id x.born held)))
]

-- the open registries after a message that destroys this
abbrev pub registries_left : Option Known → List server.Registry → List server.Registry
registries_left None rs = rs
registries_left (Some x) rs = without_object true (object_of x) rs

-- the marks without those of a closed registry
pub marks_left : (c : Core) (rs : List server.Registry) (n o : Option Known) (there : Birth → Option Born)
    → Shown c.view there → IfThere (Fresh (server_rows c.view)) n
    → IfThere (ThereRow (server_rows c.view)) o → HasRegistries c.view rs
    → map marks_of (registries_left o (registries_after c rs (option_map made_of n)))
    ≡ without_marks (option_map born_of o) (map marks_of (registries_after c rs (option_map made_of n)))
marks_left c rs n None there s g held h = refl
marks_left c rs n (Some x) there s g held h =
    let after = registries_after c rs (option_map made_of n) in
    let birth : birth_at (object_of x) ≡ x.born.birth = object_birth c.view x held in
    marks_without (object_of x) after (λ o a e. one_of_birth c rs n x there s g held h o a (e ∙ birth))
    ∙ ap (λ (b : Birth). without_registry same_birth marks_birth true b (map marks_of after)) birth

-- the registries without the object that ends
pub left_are : (b : Bool) (object : Object) (o : Option Known) (rs : List server.Registry) → b ≡ is_some o
    → IfThere (λ x. x.id ≡ object.id) o → IfThere (λ x. x.born.birth ≡ birth_at object) o
    → without_object b object rs ≡ registries_left o rs
left_are b object None rs f d h = ap (λ (c : Bool). without_object c object rs) f
left_are b object (Some x) rs f d h =
    let number = ap (λ (y : Birth). y.number) (sym h) in
    λ i. without_object (f i) (record { id = sym d i; birth = number i }) rs

-- ---- an object with a destroying event is no registry

-- wl_registry has no destroying event
pub registry_plain : (tables : List Interface) → Valid tables → is_ended_by_event (interface_at tables 1) ≡ false
registry_plain tables v = rw v.fixed_four.registry refl

-- an object that ends by an event is no registry
pub no_registry : (tables : List Interface) → Valid tables → (v : Objects) (x : Known) → ThereRow (server_rows v) x
    → by_event tables x.born ≡ true → (d : Entry) → look v x.id ≡ Some d → d.iface ≢ registry
no_registry tables valid v x t e d row is =
    let r = there_row v x t in
    let one = sym r.there ∙ row in
    let same : r.entry ≡ d = cc one in
    let iface : x.born.iface ≡ registry = sym (ap (λ (b : Born). b.iface) r.same)
    ∙ (ap (λ (y : Entry). y.iface) same ∙ is) in
    let no : true ≡ false = sym e ∙ (ap (λ (i : Iface). is_ended_by_event (interface_at tables i.0)) iface
    ∙ registry_plain tables valid) in
    cc no

-- ---- the list after a request and after an event

fresh_look : (id : ℕ) (o : Option Entry) → option_map (born_of_entry id) o ≡ None → o ≡ None
fresh_look id None h = refl
fresh_look id (Some e) h = absurd (cc h)

-- a fresh object has no row
pub fresh_row : (v : Objects) (n : Option Known) → IfThere (Fresh (server_rows v)) n → IsFreshId v (option_map made_of n)
fresh_row v None f = tt
fresh_row v (Some x) f = (fresh_look x.id (look v x.id) f.free, fresh_range f)

-- after a request is read, the list still has the registries and nothing else
pub has_read : (c : Core) (rs : List server.Registry) (n o : Option Known)
    → IsFreshId c.view (option_map made_of n) → IfThere (HeldRow c.view) o → HasRegistries c.view rs
    → HasRegistries (ended_view Event (opens c.view (option_map made_of n)) o)
    (registries_left o (registries_after c rs (option_map made_of n)))
has_read c rs n None f r h = has_opened c rs (option_map made_of n) f h
has_read c rs n (Some x) f r h =
    let made = option_map made_of n in
    has_closed (opens c.view made) (registries_after c rs made) (object_of x) r.entry
    (row_kept c.view made x.id r.entry f r.there) (ap (λ (b : Born). b.birth.number) r.same) (has_opened c rs made f h)

-- the same after the server makes an object that is no registry
has_more : (v : Objects) (rs : List server.Registry) (n : Option Known) → IfThere (FreshTold (server_rows v)) n
    → IfThere (λ x. x.born.iface ≢ registry) n → HasRegistries v rs → HasRegistries (opens v (option_map made_of n)) rs
has_more v rs None f o h = h
has_more v rs (Some x) f o h =
    let none = fresh_look x.id (look v x.id) f.free in
    record {
      rising = subst (λ (n : ℕ). RiseFrom 0 n rs)
          (sym (ap (λ (t : View). t.births) (told_client v x f.range))) h.rising;
      all = λ id e there is. elim (row-opened_at v x.id x.born.iface x.born.version id e there) [
        | inl p ↦ absurd (o (sym (ap (λ (d : Entry). d.iface) p.1) ∙ is))
        | inr p ↦ h.all id e p.1 is
      ];
      only = λ object a. (let r = h.only object a in
          let other : eqb object.id x.id ≡ false = ne_eqb object.id x.id
          (λ q. (let d = sym r.row ∙ ap (look v) q ∙ none in cc d)) in
          record {
            entry = r.entry;
            row = look-opened_at v x.id x.born.iface x.born.version object.id ∙ rw other r.row;
            birth = r.birth;
            iface = r.iface;
          });
    }

-- the same after an event that makes and ends no registry
pub has_told : (v : Objects) (rs : List server.Registry) (n o : Option Known) → IfThere (FreshTold (server_rows v)) n
    → IfThere (λ x. x.born.iface ≢ registry) n
    → IfThere (λ (x : Known). (d : Entry) → look v x.id ≡ Some d → d.iface ≢ registry) o → HasRegistries v rs
    → HasRegistries (ended_view Event (opens v (option_map made_of n)) o) rs
has_told v rs n None f g i h = has_more v rs n f g h
has_told v rs n (Some x) f g i h =
    has_fewer (opens v (option_map made_of n)) rs x.id (λ d row. none_more n f g d row) (has_more v rs n f g h)
  where
    none_more : (k : Option Known) → IfThere (FreshTold (server_rows v)) k → IfThere (λ y. y.born.iface ≢ registry) k
        → (d : Entry) → look (opens v (option_map made_of k)) x.id ≡ Some d → d.iface ≢ registry
    none_more None u t d row = i d row
    none_more (Some y) u t d row = elim (row-opened_at v y.id y.born.iface y.born.version x.id d row) [
      | inl p ↦ (λ is. t (sym (ap (λ (e : Entry). e.iface) p.1) ∙ is))
      | inr p ↦ i d p.1
    ]
