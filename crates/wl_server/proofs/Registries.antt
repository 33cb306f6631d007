-- A server's list always has its open registries and nothing else.
use Rattle.std.proofs.Common.{◌≡◌, ◌≢◌, ◌≤◌, ◌⊎◌, ℕ, Bool, true, false, cond, eqb, List, [], ◌∷◌, ◌++◌}
use Rattle.std.proofs.Common.{Some, None, refl, sym, ap, subst, ◌∙◌, inl, inr, arith, ⊎_elim}
use Rattle.std.specs.Prelude.{Option, map, nat_eq, not, ◌&&◌, ◌||◌, if◌then◌else◌}
use Rattle.std.specs.List.{All}
use Rattle.std.proofs.lemmas.List.Elements.{All-tail}
use Rattle.wl_objects.proofs.WrittenArrives.{All-first}
use Rattle.std.proofs.lemmas.Bool.{eqb-true, eq-eqb, ne_eqb}
use Rattle.std.specs.declared.result.Result.{Result}
use Rattle.std.specs.declared.result.Result.TheVariants.{Ok, Err}
use Rattle.wl_connection.proofs.ServerRange.{followed_view}
use Rattle.wl_wire.specs.declared.kind.Iface.{Iface}
use Rattle.wl_wire.specs.declared.kind.Kind.{Kind}
use Rattle.wl_wire.specs.declared.kind.Kind.TheVariants as kinds
use Rattle.wl_wire.specs.Argument.{New}
use Rattle.wl_sigs.specs.Side.TheVariants.{Event}
use Rattle.wl_sigs.specs.Destroys.{Destroys}
use Rattle.wl_sigs.specs.Destroys.TheVariants.{Nothing, Target, Arg}
use Rattle.wl_sigs.specs.Tables.{Interface, MessageSignature, interface_at, new_objects, signature_at}
use Rattle.wl_sigs.specs.Fixed.{display, registry, wl_registry}
use Rattle.wl_sigs.specs.Valid.{Valid}
use Rattle.wl_object_map.specs.declared.object.Object.{Object}
use Rattle.wl_object_map.specs.declared.object.Entry.{Entry}
use Rattle.wl_object_map.specs.declared.object.State.TheVariants.{Live}
use Rattle.wl_object_map.specs.declared.object.Maker.TheVariants.{Server}
use Rattle.wl_object_map.specs.Objects.{Objects, ObjectsAreSound, look, next_id, opening, closed}
use Rattle.wl_object_map.specs.View as table
use Rattle.wl_object_map.specs.Ranges.{is_of_server}
use Rattle.wl_object_map.specs.ObjectsLaws.{look-opening, look-opened_at, look-closed, look-opened_by_client}
use Rattle.wl_object_map.specs.ObjectsLaws.{row-opened_by_client, row-opened_at, row-closed, births-closed}
use Rattle.wl_object_map.specs.ObjectsLaws.{births-rise, changed_server, in_range-server, next_of_server}
use Rattle.wl_object_map.specs.ObjectsLaws.{table_id-wire_id}
use Rattle.wl_object_map.specs.Views.{eqb_is, cases_row, some_is, free_is, free_or_next-next_id}
use Rattle.wl_objects.specs.declared.error.SendError.{SendError}
use Rattle.wl_objects.specs.declared.error.SendError.TheVariants as refusals
use Rattle.wl_objects.specs.Writing.{Given, wired}
use Rattle.wl_objects.specs.Messages.{NewObject, made, made_by, opens, same_iface, checked, is_hidden, live_row}
use Rattle.wl_objects.specs.Writing.{is_live_as}
use Rattle.wl_objects.proofs.Wholes.{passes}
use Rattle.wl_connection.specs.Core.{Core, past, with_view}
use Rattle.wl_connection.specs.Sending.{after_send, after_checked, made_at, version_at, fits, delete_id_len}
use Rattle.wl_server.specs.State.{Registry, RiseFrom, untold}
use Rattle.wl_server.specs.Registries.{same_object, without_object, IsAmong}
use Rattle.wl_server.specs.Registries.{IsRegistry, IsFreshId, HasRegistries}
use Rattle.wl_server.specs.Requests.{registries_after}
use Rattle.wl_sigs.specs.Rules.{is_ended_by_event}
use Rattle.wl_server.specs.Calls.{drop_at, drop_refusal, after_drop, after_end, end_at, end_refusal, is_kept}
use Rattle.wl_server.specs.Calls.{is_told_end}
use Rattle.wl_server.specs.Announcing.{Due, marked_in, all_marked}
use Rattle.wl_connection.proofs.Ends.{no_event}
use Rattle.wl_server.specs.Steps.{Step, CanEnd, core_without, core_by, registries_by, registries_without, CanApply}
use Rattle.wl_server.specs.Tellings.{IsAnnounced}
use Rattle.wl_server.specs.declared.announce.Announced.{Announced}
use Rattle.wl_server.proofs.OneObject.{one-same, not-one}
use Rattle.wl_server.proofs.RisingBirths.{rise-without}
use Rattle.wl_server.proofs.AfterRequest.{rise-opened}
use Rattle.wl_connection.proofs.NewIds.{one_of, without_client}
use Rattle.wl_server.proofs.OwedEvents.{either-object, rising-marked, view-dues}
use Rattle.wl_server.proofs.TellingGoesOn.{rising-told}

-- ---- the list

among_more : (o : Object) (rs : List Registry) (r : Registry) → IsAmong o rs → IsAmong o (rs ++ r ∷ [])
among_more o [] r h = absurd h
among_more o (x ∷ rs) r h = elim h [ inl p ↦ inl p | inr p ↦ inr (among_more o rs r p) ]

among_last : (rs : List Registry) (r : Registry) → IsAmong r.object (rs ++ r ∷ [])
among_last [] r = inl refl
among_last (x ∷ rs) r = inr (among_last rs r)

among_if : (o object : Object) (r : Registry) (rs : List Registry) (b : Bool) → same_object r.object object ≡ b
    → o ≢ object → (r.object ≡ o) ⊎ IsAmong o rs → IsAmong o (cond b rs (r ∷ rs))
among_if o object r rs true e ne h = elim h [
  | inl p ↦ absurd (ne (sym p ∙ one-same r.object object e))
  | inr p ↦ p
]
among_if o object r rs false e ne h = h

-- removing another registry
among_other : (o object : Object) (rs : List Registry) → o ≢ object → IsAmong o rs
    → IsAmong o (without_object true object rs)
among_other o object [] ne h = absurd h
among_other o object (r ∷ rs) ne h =
    among_if o object r (without_object true object rs) (same_object r.object object) refl ne
    (elim h [ inl p ↦ inl p | inr p ↦ inr (among_other o object rs ne p) ])

among_marked : (o : Object) (d : Due) (rs : List Registry) → IsAmong o rs → IsAmong o (marked_in d rs)
among_marked o d [] h = absurd h
among_marked o d (r ∷ rs) h = elim h [
  | inl p ↦ inl (either-object (nat_eq r.object.birth d.object.birth) d.owing r ∙ p)
  | inr p ↦ inr (among_marked o d rs p)
]

among_all_marked : (o : Object) (ds : List Due) (rs : List Registry) → IsAmong o rs → IsAmong o (all_marked ds rs)
among_all_marked o [] rs h = h
among_all_marked o (d ∷ ds) rs h = among_all_marked o ds (marked_in d rs) (among_marked o d rs h)

-- ---- what is in the list

among_before : (o : Object) (rs : List Registry) (r : Registry) → IsAmong o (rs ++ r ∷ [])
    → (r.object ≡ o) ⊎ IsAmong o rs
among_before o [] r h = h
among_before o (x ∷ rs) r h = elim h as (λ _. (r.object ≡ o) ⊎ ((x.object ≡ o) ⊎ IsAmong o rs)) [
  | inl p ↦ inr (inl p)
  | inr p ↦ elim (among_before o rs r p) as (λ _. (r.object ≡ o) ⊎ ((x.object ≡ o) ⊎ IsAmong o rs))
      [ inl q ↦ inl q | inr q ↦ inr (inr q) ]
]

left_if : (o object : Object) (r : Registry) (rs ls : List Registry) (b : Bool) → same_object r.object object ≡ b
    → (IsAmong o ls → (o ≢ object) × IsAmong o rs) → IsAmong o (cond b ls (r ∷ ls))
    → (o ≢ object) × ((r.object ≡ o) ⊎ IsAmong o rs)
left_if o object r rs ls true e f h = let k = f h in (k.0, inr k.1)
left_if o object r rs ls false e f h = elim h as (λ _. (o ≢ object) × ((r.object ≡ o) ⊎ IsAmong o rs)) [
  | inl p ↦ (λ is. not-one r.object object e (p ∙ is), inl p)
  | inr p ↦ (let k = f p in (k.0, inr k.1))
]

-- a registry that is left is not the removed object
among_left : (o object : Object) (rs : List Registry) → IsAmong o (without_object true object rs)
    → (o ≢ object) × IsAmong o rs
among_left o object [] h = absurd h
among_left o object (r ∷ rs) h = left_if o object r rs (without_object true object rs)
    (same_object r.object object) refl (among_left o object rs) h

among_unmarked : (o : Object) (d : Due) (rs : List Registry) → IsAmong o (marked_in d rs) → IsAmong o rs
among_unmarked o d [] h = absurd h
among_unmarked o d (r ∷ rs) h = elim h as (λ _. (r.object ≡ o) ⊎ IsAmong o rs) [
  | inl p ↦ inl (sym (either-object (nat_eq r.object.birth d.object.birth) d.owing r) ∙ p)
  | inr p ↦ inr (among_unmarked o d rs p)
]

among_all_unmarked : (o : Object) (ds : List Due) (rs : List Registry) → IsAmong o (all_marked ds rs) → IsAmong o rs
among_all_unmarked o [] rs h = h
among_all_unmarked o (d ∷ ds) rs h = among_unmarked o d rs (among_all_unmarked o ds (marked_in d rs) h)

-- ---- an object is opened

is_same : (i : Iface) → i ≡ registry → same_iface i registry ≡ true
is_same i e = ap (λ (x : Iface). same_iface x registry) e

new_there : (rs : List Registry) (r : Registry) (i : Iface) (b : Bool) (o : Object) → same_iface i registry ≡ b
    → i ≡ registry → r.object ≡ o → IsAmong o (cond b (rs ++ r ∷ []) rs)
new_there rs r i true o e is s = subst (λ (x : Object). IsAmong x (rs ++ r ∷ [])) s (among_last rs r)
new_there rs r i false o e is s = absurd (let k = is_same i is in cc (e, k))

old_there : (rs : List Registry) (r : Registry) (b : Bool) (o : Object) → IsAmong o rs
    → IsAmong o (cond b (rs ++ r ∷ []) rs)
old_there rs r true o h = among_more o rs r h
old_there rs r false o h = h

-- existing rows stay
row_beside : (v : Objects) (m : NewObject) (id : ℕ) (d : Entry) → look v m.id ≡ None → look v id ≡ Some d
    → look (opens v (Some m)) id ≡ Some d
row_beside v m id d free row =
    let other : eqb id m.id ≡ false = ne_eqb id m.id (λ e. (let no = sym row ∙ (ap (look v) e ∙ free) in cc no)) in
    look-opened_at v m.id m.iface m.version id ∙ rw other row

pub row_kept : (v : Objects) (m : Option NewObject) (id : ℕ) (d : Entry) → IsFreshId v m → look v id ≡ Some d
    → look (opens v m) id ≡ Some d
row_kept v None id d f row = row
row_kept v (Some m) id d f row = row_beside v m id d f.0 row

registry_kept : (v : Objects) (m : Option NewObject) (o : Object) → IsFreshId v m → IsRegistry v o
    → IsRegistry (opens v m) o
registry_kept v m o f r = record {
  entry = r.entry;
  row = row_kept v m o.id r.entry f r.row;
  birth = r.birth;
  iface = r.iface;
}

same_is : (a b : Iface) → same_iface a b ≡ true → a ≡ b
same_is a b h = let e : a.0 ≡ b.0 = eqb-true a.0 b.0 h in λ i. record { 0 = e i }

registry_new : (v : Objects) (m : NewObject) → is_of_server m.id ≡ false → same_iface m.iface registry ≡ true
    → IsRegistry (opens v (Some m)) (record { id = m.id; birth = v.client.births })
registry_new v m range is = record {
  entry = record { birth = v.client.births; iface = m.iface; version = m.version; state = Live };
  row = look-opened_by_client v m.id m.iface m.version m.id range ∙ rw (eq-eqb m.id m.id refl) refl;
  birth = refl;
  iface = same_is m.iface registry is;
}

each_opened : (v : Objects) (rs : List Registry) (m : NewObject) (r : Registry) (b : Bool) (o : Object)
    → same_iface m.iface registry ≡ b → r.object ≡ record { id = m.id; birth = v.client.births } → IsFreshId v (Some m)
    → ((x : Object) → IsAmong x rs → IsRegistry v x) → IsAmong o (cond b (rs ++ r ∷ []) rs)
    → IsRegistry (opens v (Some m)) o
each_opened v rs m r true o is s f h a = elim (among_before o rs r a) as (λ _. IsRegistry (opens v (Some m)) o) [
  | inl p ↦ subst (IsRegistry (opens v (Some m))) (sym s ∙ p) (registry_new v m f.1 is)
  | inr p ↦ registry_kept v (Some m) o f (h o p)
]
each_opened v rs m r false o is s f h a = registry_kept v (Some m) o f (h o a)

pub has_opened : (core : Core) (rs : List Registry) (m : Option NewObject) → IsFreshId core.view m
    → HasRegistries core.view rs → HasRegistries (opens core.view m) (registries_after core rs m)
has_opened core rs None f h = h
has_opened core rs (Some m) f h =
    let v = core.view in
    let r : Registry = untold (record { id = m.id; birth = v.client.births }) in
    record {
      rising = rise-opened core rs (Some m) f h.rising;
      all = λ id e there is. ⊎_elim
          (λ p. (let birth : e.birth ≡ v.client.births = ap (λ (x : Entry). x.birth) p.1 in
          new_there rs r m.iface (same_iface m.iface registry) (record { id = id; birth = e.birth }) refl
          (sym (ap (λ (x : Entry). x.iface) p.1) ∙ is) (λ i. record { id = sym p.0 i; birth = sym birth i })))
          (λ p. old_there rs r (same_iface m.iface registry) (record { id = id; birth = e.birth }) (h.all id e p.1 is))
          (row-opened_by_client v m.id m.iface m.version id e f.1 there);
      only = λ o a. each_opened v rs m r (same_iface m.iface registry) o refl refl f h.only a;
    }

-- ---- an object is closed

registry_apart : (v : Objects) (object : Object) (d : Entry) (o : Object) → look v object.id ≡ Some d
    → d.birth ≡ object.birth → o ≢ object → IsRegistry v o → IsRegistry (closed v object.id) o
registry_apart v object d o row is ne r =
    let other : eqb o.id object.id ≡ false = ne_eqb o.id object.id
    (λ e. (let same = sym r.row ∙ (ap (look v) e ∙ row) in let entry : r.entry ≡ d = cc same in
    let birth : o.birth ≡ object.birth = sym r.birth ∙ (ap (λ (x : Entry). x.birth) entry ∙ is)
    in ne (λ i. record { id = e i; birth = birth i }))) in
    record { entry = r.entry; row = look-closed v object.id o.id ∙ rw other r.row; birth = r.birth; iface = r.iface }

-- closing the object of this row
pub has_closed : (v : Objects) (rs : List Registry) (object : Object) (d : Entry) → look v object.id ≡ Some d
    → d.birth ≡ object.birth → HasRegistries v rs
    → HasRegistries (closed v object.id) (without_object true object rs)
has_closed v rs object d row is h = record {
  rising = subst (λ (n : ℕ). RiseFrom 0 n (without_object true object rs)) (sym (births-closed v object.id))
      (rise-without 0 v.client.births object rs h.rising);
  all = λ q e there reg. (let r = row-closed v object.id q e there in
      among_other (record { id = q; birth = e.birth }) object rs (λ k. r.0 (ap (λ (o : Object). o.id) k))
      (h.all q e r.1 reg));
  only = λ o a. (let k = among_left o object rs a in registry_apart v object d o row is k.0 (h.only o k.1));
}

registry_other : (v : Objects) (id : ℕ) (o : Object) → ((d : Entry) → look v id ≡ Some d → d.iface ≢ registry)
    → IsRegistry v o → IsRegistry (closed v id) o
registry_other v id o f r =
    let other : eqb o.id id ≡ false = ne_eqb o.id id (λ e. f r.entry (ap (look v) (sym e) ∙ r.row) r.iface) in
    record { entry = r.entry; row = look-closed v id o.id ∙ rw other r.row; birth = r.birth; iface = r.iface }

-- closing an object that is no registry
pub has_fewer : (v : Objects) (rs : List Registry) (id : ℕ) → ((d : Entry) → look v id ≡ Some d → d.iface ≢ registry)
    → HasRegistries v rs → HasRegistries (closed v id) rs
has_fewer v rs id f h = record {
  rising = subst (λ (n : ℕ). RiseFrom 0 n rs) (sym (births-closed v id)) h.rising;
  all = λ q e there is. h.all q e (row-closed v id q e there).1 is;
  only = λ o a. registry_other v id o f (h.only o a);
}

-- ---- a request is read

-- the objects are the same whether or not a delete_id is written
view_without : (core : Core) (object : Object) → (core_without (Some object) core).view ≡ closed core.view object.id
view_without core object = followed_view (not (is_of_server object.id)) object.id
    (with_view core (closed core.view object.id))

pub births_left : (core : Core) (object : Object)
    → (core_without (Some object) core).view.client.births ≡ core.view.client.births
births_left core object =
    ap (λ (v : Objects). v.client.births) (view_without core object) ∙ births-closed core.view object.id

has_step : (core : Core) (rs : List Registry) (step : Step) → CanApply core step → IsFreshId core.view step.made
    → HasRegistries core.view rs → HasRegistries (core_by core step).view (registries_by core rs step)
has_step core rs step can f h = by_ended step.ended can.ended
  where
    by_ended : (ended : Option Object) → ((object : Object) → ended ≡ Some object → CanEnd core object)
        → HasRegistries (core_without ended (past
        (with_view core (opens core.view step.made)) step.size step.tokens)).view
        (registries_without ended (registries_after core rs step.made))
    by_ended None r = has_opened core rs step.made f h
    by_ended (Some object) r =
        let is = (r object refl).row in
        subst (λ (v : Objects). HasRegistries v (without_object true object (registries_after core rs step.made)))
        (sym (view_without (past (with_view core (opens core.view step.made)) step.size step.tokens) object))
        (has_closed (opens core.view step.made) (registries_after core rs step.made) object is.entry
        (row_kept core.view step.made object.id is.entry f is.row) is.birth (has_opened core rs step.made f h))

-- the same, with equations for the end and the list
pub has_now : (core now : Core) (rs ms : List Registry) (step : Step) → CanApply core step → now ≡ core_by core step
    → ms ≡ registries_by core rs step
    → IsFreshId core.view step.made → HasRegistries core.view rs → HasRegistries now.view ms
has_now core now rs ms step can c m f h =
    subst (λ (k : Core). HasRegistries k.view ms) (sym c)
    (subst (HasRegistries (core_by core step).view) (sym m) (has_step core rs step can f h))

-- ---- an event is written

-- what an event makes has the server's next id and is no registry
record IsMade (n : ℕ) (m : NewObject) : Type 0 where
  id : m.id ≡ n
  iface : m.iface ≢ registry

-- if the kind is a new object of the server, the object is no registry
abbrev MakesNoRegistry : Kind → Type 0
MakesNoRegistry kind = (iface : Iface) → kind ≡ kinds.NewByServer iface → iface ≢ registry

one_made : (tables : List Interface) (version n : ℕ) (kind : Kind) (x : Given) (ks : List Kind) (m : NewObject)
    → new_objects (kind ∷ ks) ≡ [] → MakesNoRegistry kind → made_by tables version kind (wired n x) ≡ Some m → IsMade n m
one_made tables version n (kinds.New iface) x ks m none other is = absurd (cc none)
one_made tables version n (kinds.NewByServer iface) (New u) ks m none other is =
    let same : record { id = n; iface = iface; version = version } ≡ m = cc is in
    subst (IsMade n) same (record { id = refl; iface = other iface refl })
one_made tables version n kind x ks m none other is = absurd (cc is)

made_is : (tables : List Interface) (version n : ℕ) (ks : List Kind) (list : List Given) (m : NewObject)
    → new_objects ks ≡ [] → All MakesNoRegistry ks → made tables version ks (map (wired n) list) ≡ Some m → IsMade n m
made_is tables version n [] list m h a e = absurd (cc e)
made_is tables version n (k ∷ ks) [] m h a e = absurd (cc e)
made_is tables version n (k ∷ ks) (x ∷ list) m h a e =
    elim (one_of (made_by tables version k (wired n x)) (made tables version ks (map (wired n) list)) m e) [
      | inl p ↦ one_made tables version n k x ks m h (All-first MakesNoRegistry k ks a) p
      | inr p ↦ made_is tables version n ks list m (without_client k ks h) (All-tail MakesNoRegistry k ks a) p
    ]

-- no event of valid tables makes a registry
makes_no_registry : (tables : List Interface) (place opcode : ℕ) (m : MessageSignature) → Valid tables
    → signature_at tables place Event opcode ≡ Some m → All MakesNoRegistry m.kinds
makes_no_registry tables place opcode m v s k d there iface is reg =
    let at : interface_at tables iface.0 ≡ Some wl_registry =
    ap (λ (i : Iface). interface_at tables i.0) reg ∙ v.fixed_four.registry in
    (v.server_makes.interfaces Event place opcode m s k d there iface wl_registry is at).1
    (inr (inl (ap (λ (i : Iface). i.0) reg)))

made_by_event : (core : Core) (target : Object) (opcode : ℕ) (list : List Given) (m : MessageSignature)
    (new : NewObject) → Valid core.tables
    → checked core.outbox.limit.bytes core.tables Event core.view target opcode list ≡ Ok m
    → made_at core Event target m list ≡ Some new → IsMade (next_id Server core.view) new
made_by_event core target opcode list m new v e is =
    let p = passes core.outbox.limit.bytes core.tables Event core.view target opcode list m e in
    made_is core.tables (version_at (look core.view target.id)) (next_id Server core.view) m.kinds list new
    (v.few_objects_made.events p.entry.iface.0 opcode m p.exists)
    (makes_no_registry core.tables p.entry.iface.0 opcode m v p.exists) is

-- the server's next id has no row
next_free : (v : Objects) → ObjectsAreSound v → look v (next_id Server v) ≡ None
next_free v s =
    in_range-server table.look v (next_id Server v) (next_of_server v s)
    ∙ (ap (table.look v.server) (table_id-wire_id (table.next_id v.server))
    ∙ (free_is v.server (table.next_id v.server) s.server (free_or_next-next_id v.server)).no_row)

-- opening an object in the server's range does not count as a birth in the client's
births_beside : (v : Objects) (m : NewObject) → is_of_server m.id ≡ true
    → (opens v (Some m)).client.births ≡ v.client.births
births_beside v m range = ap (λ (x : Objects). x.client.births)
    (changed_server (λ view place. table.opened_at view place m.iface m.version) v m.id range)

has_beside : (v : Objects) (rs : List Registry) (m : NewObject) → look v m.id ≡ None → is_of_server m.id ≡ true
    → m.iface ≢ registry → HasRegistries v rs → HasRegistries (opens v (Some m)) rs
has_beside v rs m free range other h = record {
  rising = subst (λ (n : ℕ). RiseFrom 0 n rs) (sym (births_beside v m range)) h.rising;
  all = λ id e there is. ⊎_elim
      (λ p. absurd (other (sym (ap (λ (x : Entry). x.iface) p.1) ∙ is)))
      (λ p. h.all id e p.1 is)
      (row-opened_at v m.id m.iface m.version id e there);
  only = λ o a. (let r = h.only o a in record {
    entry = r.entry;
    row = row_beside v m o.id r.entry free r.row;
    birth = r.birth;
    iface = r.iface;
  });
}

-- the target of a call of `send` is no registry
not_sent_to : (iface : Iface) (opcode : ℕ) → is_hidden Event iface opcode ≡ false → iface ≢ registry
not_sent_to iface opcode h is = let no : is_hidden Event registry opcode ≡ false =
    subst (λ (i : Iface). is_hidden Event i opcode ≡ false) is h in cc no

not_target : (core : Core) (target : Object) (opcode : ℕ) (list : List Given) (m : MessageSignature)
    → checked core.outbox.limit.bytes core.tables Event core.view target opcode list ≡ Ok m
    → (d : Entry) → look core.view target.id ≡ Some d → d.iface ≢ registry
not_target core target opcode list m e d row is =
    let p = passes core.outbox.limit.bytes core.tables Event core.view target opcode list m e in
    let same = sym p.row ∙ row in
    let one : p.entry ≡ d = cc same in
    not_sent_to p.entry.iface opcode p.shown (ap (λ (x : Entry). x.iface) one ∙ is)

-- facts about the object that an event makes, and about its target
record IsEvent (core : Core) (target : Object) (new : Option NewObject) : Type 0 where
  made : (m : NewObject) → new ≡ Some m → IsMade (next_id Server core.view) m
  others : (d : Entry) → look core.view target.id ≡ Some d → d.iface ≢ registry

-- the registries stay the same after the event's object is opened
has_new : (core : Core) (target : Object) (rs : List Registry) (new : Option NewObject) → ObjectsAreSound core.view
    → IsEvent core target new → HasRegistries core.view rs → HasRegistries (opens core.view new) rs
has_new core target rs None s f h = h
has_new core target rs (Some m) s f h =
    let k = f.made m refl in
    has_beside core.view rs m (ap (look core.view) k.id ∙ next_free core.view s)
    (ap is_of_server k.id ∙ next_of_server core.view s) k.iface h

-- the event's target is then still no registry
target_new : (core : Core) (target : Object) (new : Option NewObject) → IsEvent core target new
    → (d : Entry) → look (opens core.view new) target.id ≡ Some d → d.iface ≢ registry
target_new core target None f d row = f.others d row
target_new core target (Some m) f d row = ⊎_elim
    (λ p is. (f.made m refl).iface (sym (ap (λ (x : Entry). x.iface) p.1) ∙ is))
    (λ p. f.others d p.1)
    (row-opened_at core.view m.id m.iface m.version target.id d row)

-- The objects after an event: its new object is opened, and its target is closed if the event
-- destroys it.
data After (core : Core) (target : Object) (view : Objects) : Type 0 where
  refused : view ≡ core.view → After core target view
  stays : (new : Option NewObject) → IsEvent core target new → view ≡ opens core.view new → After core target view
  ends : (new : Option NewObject) → IsEvent core target new → view ≡ closed (opens core.view new) target.id
      → After core target view

after_event : (core : Core) (target : Object) (opcode : ℕ) (list : List Given) → Valid core.tables
    → After core target (after_send core Event target opcode list).view
after_event core target opcode list v = by_result
    (checked core.outbox.limit.bytes core.tables Event core.view target opcode list) refl
  where
    by_what : (m : MessageSignature) (what : Destroys) → ((k : ℕ) → what ≡ Arg k → ⊥)
        → IsEvent core target (made_at core Event target m list)
        → After core target (after_checked core Event target opcode list (Ok (record m { destroys = what }))).view
    by_what m Nothing n f = stays (made_at core Event target m list) f refl
    by_what m Target n f = ends (made_at core Event target m list) f refl
    by_what m (Arg k) n f = absurd (n k refl)

    by_result : (x : Result MessageSignature SendError)
        → checked core.outbox.limit.bytes core.tables Event core.view target
        opcode list ≡ x → After core target (after_checked core Event target opcode list x).view
    by_result (Err why) e = refused refl
    by_result (Ok m) e = by_what m m.destroys (λ k d.
        (let p = passes core.outbox.limit.bytes core.tables Event core.view target opcode list m e
        in no_event core.tables p.entry.iface.0 opcode m k v p.exists d)) (record {
          made = λ new is. made_by_event core target opcode list m new v e is;
          others = not_target core target opcode list m e;
        })

has_after : (core : Core) (target : Object) (rs : List Registry) (view : Objects) → ObjectsAreSound core.view
    → HasRegistries core.view rs → After core target view → HasRegistries view rs
has_after core target rs view s h (refused e) = subst (λ (w : Objects). HasRegistries w rs) (sym e) h
has_after core target rs view s h (stays new f e) =
    subst (λ (w : Objects). HasRegistries w rs) (sym e) (has_new core target rs new s f h)
has_after core target rs view s h (ends new f e) =
    subst (λ (w : Objects). HasRegistries w rs) (sym e)
    (has_fewer (opens core.view new) rs target.id (target_new core target new f) (has_new core target rs new s f h))

pub has_sent : (core now : Core) (rs : List Registry) (target : Object) (opcode : ℕ) (list : List Given)
    → Valid core.tables → ObjectsAreSound core.view → now ≡ after_send core Event target opcode list
    → HasRegistries core.view rs → HasRegistries now.view rs
has_sent core now rs target opcode list v s e h =
    subst (λ (k : Core). HasRegistries k.view rs) (sym e)
    (has_after core target rs (after_send core Event target opcode list).view s h
    (after_event core target opcode list v))

-- the number of births never falls
births_opened : (v : Objects) (new : Option NewObject) → v.client.births ≤ (opens v new).client.births
births_opened v None = omega arith
births_opened v (Some m) = births-rise v m.id m.iface m.version

past_after : (core : Core) (target : Object) (past : ℕ) (view : Objects) → past ≤ core.view.client.births
    → After core target view → past ≤ view.client.births
past_after core target past view h (refused e) =
    omega (arith, h, ap (λ (w : Objects). w.client.births) e)
past_after core target past view h (stays new f e) =
    omega (arith, h, births_opened core.view new, ap (λ (w : Objects). w.client.births) e)
past_after core target past view h (ends new f e) = omega (
  arith,
  h,
  births_opened core.view new,
  births-closed (opens core.view new) target.id,
  ap (λ (w : Objects). w.client.births) e,
)

pub past_sent : (core now : Core) (past : ℕ) (target : Object) (opcode : ℕ) (list : List Given) → Valid core.tables
    → now ≡ after_send core Event target opcode list → past ≤ core.view.client.births → past ≤ now.view.client.births
past_sent core now past target opcode list v e h =
    subst (λ (k : Core). past ≤ k.view.client.births) (sym e)
    (past_after core target past (after_send core Event target opcode list).view h
    (after_event core target opcode list v))

-- ---- an object is dropped

no_registry : (tables : List Interface) → Valid tables → is_ended_by_event (interface_at tables registry.0) ≡ false
no_registry tables v = rw v.fixed_four.registry refl

-- an object that can be dropped is no registry
not_dropped : (core : Core) (object : Object) → Valid core.tables → drop_refusal core object ≡ None → (d : Entry)
    → look core.view object.id ≡ Some d → d.iface ≢ registry
not_dropped core object v e d row is = by_failed core.failed e
  where
    by_ends : (b : Bool) → is_ended_by_event (interface_at core.tables d.iface.0) ≡ b → (x : Option SendError)
        → (if not b then Some refusals.NotDroppable else x) ≡ None → ⊥
    by_ends true t x h = let no = sym t ∙ (ap (λ (i : Iface). is_ended_by_event (interface_at core.tables i.0)) is
        ∙ no_registry core.tables v) in cc no
    by_ends false t x h = cc h

    by_birth : (b : Bool) → drop_at core (if b then look core.view object.id else None) ≡ None → ⊥
    by_birth true h = by_ends (is_ended_by_event (interface_at core.tables d.iface.0)) refl
        (if fits core.outbox delete_id_len 0 then None else Some refusals.Full) (ap (drop_at core) (sym row) ∙ h)
    by_birth false h = cc h

    by_failed : (b : Bool) → (if b then Some refusals.Failed else drop_at core (live_row core.view object)) ≡ None → ⊥
    by_failed true h = cc h
    by_failed false h = by_birth (is_live_as object.birth (look core.view object.id)) h

pub has_dropped : (core : Core) (rs : List Registry) (object : Object) → Valid core.tables
    → None ≡ drop_refusal core object → HasRegistries core.view rs → HasRegistries (after_drop core object).view rs
has_dropped core rs object v e h = has_fewer core.view rs object.id (not_dropped core object v (sym e)) h

-- ---- an object is ended when the caller says so

third : (a b c : Bool) → (a || (b || c)) ≡ false → c ≡ true → ⊥
third true b c none is = cc none
third false true c none is = cc none
third false false true none is = cc none
third false false false none is = cc is

-- an object that can be ended is no registry
not_ended : (core : Core) (object : Object) → end_refusal core object ≡ None → (d : Entry)
    → look core.view object.id ≡ Some d → d.iface ≢ registry
not_ended core object e d row is = by_failed core.failed e
  where
    by_kept : (b : Bool) → is_kept object d ≡ b → (x : Option SendError)
        → (if b then Some refusals.NotDroppable else x) ≡ None → ⊥
    by_kept true t x h = cc h
    by_kept false t x h = third (nat_eq object.id 1) (same_iface d.iface display) (same_iface d.iface registry) t
        (is_same d.iface is)

    by_birth : (b : Bool) → end_at core object (if b then look core.view object.id else None) ≡ None → ⊥
    by_birth true h = by_kept (is_kept object d) refl
        (if is_told_end object && not (fits core.outbox delete_id_len 0) then Some refusals.Full else None)
        (ap (end_at core object) (sym row) ∙ h)
    by_birth false h = cc h

    by_failed : (b : Bool)
        → (if b then Some refusals.Failed else end_at core object (live_row core.view object)) ≡ None → ⊥
    by_failed true h = cc h
    by_failed false h = by_birth (is_live_as object.birth (look core.view object.id)) h

pub has_ended : (core : Core) (rs : List Registry) (object : Object) → None ≡ end_refusal core object
    → HasRegistries core.view rs → HasRegistries (after_end core object).view rs
has_ended core rs object e h = subst (λ (v : Objects). HasRegistries v rs) (sym (view_without core object))
    (has_fewer core.view rs object.id (not_ended core object (sym e)) h)

-- ---- events are sent to registries

pub has_marked : (v : Objects) (d : Due) (rs : List Registry) → HasRegistries v rs → HasRegistries v (marked_in d rs)
has_marked v d rs h = record {
  rising = rising-marked d 0 v.client.births rs h.rising;
  all = λ id e there is. among_marked (record { id = id; birth = e.birth }) d rs (h.all id e there is);
  only = λ o a. h.only o (among_unmarked o d rs a);
}

view_told : (core : Core) (rs : List Registry) (all : List Due) (told : Announced) (now : Core) (ms : List Registry)
    → IsAnnounced core rs all told now ms → now.view ≡ core.view
view_told core rs all told now ms t = ap (λ (c : Core). c.view) t.progress.written ∙ view-dues core t.progress.done

pub has_told : (core : Core) (rs : List Registry) (all : List Due) (told : Announced) (now : Core) (ms : List Registry)
    → IsAnnounced core rs all told now ms → HasRegistries core.view rs → HasRegistries now.view ms
has_told core rs all told now ms t h = record {
  rising = rising-told core rs all told now ms t h.rising;
  all = λ id e there is. subst (IsAmong (record { id = id; birth = e.birth })) (sym t.progress.marks)
      (among_all_marked (record { id = id; birth = e.birth }) t.progress.done rs
      (h.all id e (ap (λ (w : Objects). look w id) (sym (view_told core rs all told now ms t)) ∙ there) is));
  only = λ o a. subst (λ (w : Objects). IsRegistry w o) (sym (view_told core rs all told now ms t))
      (h.only o (among_all_unmarked o t.progress.done rs (subst (IsAmong o) t.progress.marks a)));
}

pub past_told : (core : Core) (rs : List Registry) (all : List Due) (told : Announced) (now : Core)
    (ms : List Registry) (past : ℕ) → IsAnnounced core rs all told now ms → past ≤ core.view.client.births
    → past ≤ now.view.client.births
past_told core rs all told now ms past t h =
    subst (λ (w : Objects). past ≤ w.client.births) (sym (view_told core rs all told now ms t)) h

-- ---- a new server

first_row : (range : Bool) (q : ℕ) (e : Entry) → look (opening display range) q ≡ Some e
    → (q ≡ 1) × (e ≡ record { birth = 0; iface = display; version = 1; state = Live })
first_row range q e h = ⊎_elim
    (λ p. (eqb_is q 1 p.0, sym (some_is _ e p.1)))
    (λ p. (let no = p.1 in absurd (cc no)))
    (cases_row (eqb q 1) (Some (record { birth = 0; iface = display; version = 1; state = Live })) None e
    (sym (look-opening display range q) ∙ h))

pub has_none : (range : Bool) → HasRegistries (opening display range) []
has_none range = record {
  rising = omega arith;
  all = λ id e there is. (let i = ap (λ (x : Entry). x.iface.0) (first_row range id e there).1
      in let k = ap (λ (x : Iface). x.0) is in absurd (omega (arith, i, k)));
  only = λ o a. absurd a;
}
