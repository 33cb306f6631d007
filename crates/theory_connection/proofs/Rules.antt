-- What the rules of valid tables guarantee to a writer.
use Rattle.std.proofs.Common.{◌≡◌, ◌≢◌, ℕ, zero, suc, ◌<◌, ◌≤◌, Bool, true, false, List, [], ◌∷◌}
use Rattle.std.proofs.Common.{map, length, inl, inr, refl, sym, ap, subst, ◌∙◌, arith}
use Rattle.std.specs.Prelude.{nat_eq, ◌&&◌, slice_get}
use Rattle.std.specs.Option.{option_and_then}
use Rattle.std.specs.List.{All}
use Rattle.std.specs.declared.option.Option.{Option}
use Rattle.std.specs.declared.option.Option.TheVariants.{None, Some}
use Rattle.std.proofs.lemmas.Bool.{eqb-true, eq-eqb, and_parts}
use Rattle.std.proofs.lemmas.Option.{slice_get_within, slice_get_past, get_or_from_slice_get}
use Rattle.std.proofs.lemmas.List.Elements.{All-tail}
use Rattle.std.proofs.lemmas.List.Folds.{list_any_at}
use Rattle.wl_wire.specs.declared.kind.Kind.{Kind}
use Rattle.wl_wire.specs.declared.kind.Kind.TheVariants as kinds
use Rattle.wl_wire.specs.declared.kind.Iface.{Iface}
use Rattle.wl_wire.specs.Argument.{Obj}
use Rattle.wl_sigs.specs.Side.{Side}
use Rattle.wl_sigs.specs.Side.TheVariants.{Request, Event}
use Rattle.wl_sigs.specs.Tables.{MessageSignature, Interface, interface_at, signature_at, messages_of}
use Rattle.wl_sigs.specs.Tables.{message_of, has_destroying_event, destroys_target}
use Rattle.wl_sigs.specs.Fixed.{wl_display}
use Rattle.theory_connection.proofs.Calls.{makings}
use Rattle.wl_sigs.specs.Valid.{Valid}
use Rattle.wl_object_map.specs.declared.object.Object.{Object}
use Rattle.wl_object_map.specs.Objects.{Objects, look}
use Rattle.wl_objects.specs.Reading.{iface_of}
use Rattle.wl_objects.specs.Writing.{Given, suits, is_live_as, row_is_of}
use Rattle.wl_objects.specs.Messages.{is_hidden}
use Rattle.wl_sigs.specs.Rules.{is_ended_by_event}
use Rattle.theory_connection.specs.Meant.{Born, Known, objects}
use Rattle.theory_connection.specs.World.{Each}
use Rattle.theory_connection.specs.Stands.{by_event}
use Rattle.theory_connection.proofs.Calls.{AllRight, meant, born_at, live_as}

-- the interface of a message
pub record Of (tables : List Interface) (place : ℕ) (side : Side) (opcode : ℕ) (m : MessageSignature) : Type 0 where
  pub interface : Interface
  pub there : interface_at tables place ≡ Some interface
  pub message : slice_get (messages_of side interface) opcode ≡ Some m

of_at : (tables : List Interface) (place : ℕ) (side : Side) (opcode : ℕ) (m : MessageSignature) (o : Option Interface)
    → interface_at tables place ≡ o → option_and_then (message_of side opcode) o ≡ Some m
    → Of tables place side opcode m
of_at tables place side opcode m None e h = absurd (cc h)
of_at tables place side opcode m (Some i) e h = record { interface = i; there = e; message = h }

pub of_message : (tables : List Interface) (place : ℕ) (side : Side) (opcode : ℕ) (m : MessageSignature)
    → signature_at tables place side opcode ≡ Some m → Of tables place side opcode m
of_message tables place side opcode m h = of_at tables place side opcode m (interface_at tables place) refl h

-- an opcode that has a signature is below 65536
pub opcode_low : (tables : List Interface) → Valid tables
    → (place : ℕ) (side : Side) (opcode : ℕ) (m : MessageSignature)
    → signature_at tables place side opcode ≡ Some m → opcode < 65536
opcode_low tables v place side opcode m h =
    let o = of_message tables place side opcode m h in
    let a = slice_get_within (messages_of side o.interface) opcode m o.message in
    let b = v.small.messages side place o.interface o.there in
    omega (arith, a, b)

-- an interface with a request has no destroying event
with_event : (i : Interface) (b : Bool) (opcode : ℕ) (m : MessageSignature) → has_destroying_event i ≡ b
    → (has_destroying_event i ≡ true → i.requests ≡ []) → slice_get i.requests opcode ≡ Some m → b ≡ false
with_event i false opcode m e h k = refl
with_event i true opcode m e h k =
    let n : ◌≡◌ {A = Option MessageSignature} (slice_get [] opcode) None = slice_get_past [] opcode (omega arith) in
    let q : ◌≡◌ {A = Option MessageSignature} None (Some m) =
    sym n ∙ ap (λ (l : List MessageSignature). slice_get l opcode) (sym (h e)) ∙ k in
    absurd (cc q)

-- an interface with a request has no destroying event
pub target_plain : (tables : List Interface) → Valid tables → (x : Born) (opcode : ℕ) (m : MessageSignature)
    → signature_at tables x.iface.0 Request opcode ≡ Some m → by_event tables x ≡ false
target_plain tables v x opcode m h =
    let o = of_message tables x.iface.0 Request opcode m h in
    ap is_ended_by_event o.there ∙ with_event o.interface (has_destroying_event o.interface) opcode m refl
    (v.race_free.no_requests x.iface.0 o.interface o.there) o.message

-- an interface that a request's argument can have has no destroying event
argument_plain : (tables : List Interface) (iface : Iface) (e : Iface) (o : Option Interface)
    → interface_at tables e.0 ≡ o → nat_eq iface.0 e.0 ≡ true
    → ((i : Interface) → interface_at tables iface.0 ≡ Some i → has_destroying_event i ≡ false)
    → is_ended_by_event o ≡ false
argument_plain tables iface e None h s f = refl
argument_plain tables iface e (Some i) h s f = f i (ap (interface_at tables) (eqb-true iface.0 e.0 s) ∙ h)

abbrev PlainKind : List Interface → Kind → Type 0
PlainKind tables k = (null : Bool) (iface : Iface) (i : Interface) → k ≡ kinds.Obj null (Some iface)
    → interface_at tables iface.0 ≡ Some i → has_destroying_event i ≡ false

abbrev NamedKind : Kind → Type 0
NamedKind k = (null : Bool) → k ≢ kinds.Obj null None

named_plain : (tables : List Interface) (view : Objects) (k : Kind) (id birth : ℕ) (iface : Option Iface) (null : Bool)
    → k ≡ kinds.Obj null iface → NamedKind k → PlainKind tables k
    → (is_live_as birth (look view id) && row_is_of iface (look view id)) ≡ true
    → by_event tables (born_at id (look view id)) ≡ false
named_plain tables view k id birth None null e n p h = absurd (n null e)
named_plain tables view k id birth (Some iface) null e n p h =
    let b = and_parts _ _ h in
    let l = live_as birth (look view id) b.0 in
    let of : nat_eq iface.0 l.entry.iface.0 ≡ true = ap (row_is_of (Some iface)) (sym l.there) ∙ b.1 in
    ap (λ o. by_event tables (born_at id o)) l.there
    ∙ argument_plain tables iface l.entry.iface (interface_at tables l.entry.iface.0) refl of
    (λ i q. p null iface i e q)

object_kind : (k : Kind) (x : Object) → suits k (Obj (Some x)) ≡ true
    → (null : Bool) × (iface : Option Iface) × (k ≡ kinds.Obj null iface)
object_kind (kinds.Obj null iface) x h = (null, iface, refl)
object_kind (kinds.New None) x h = absurd (cc h)
object_kind kind x h = absurd (cc h)

-- an object that a request can name has no destroying event
pub objects_plain : (tables : List Interface) (view : Objects) (new : Known) (ks : List Kind) (given : List Given)
    → AllRight view ks given → All NamedKind ks → All (PlainKind tables) ks
    → Each (λ x. by_event tables x.born ≡ false) (objects (map (meant view new) given))
objects_plain tables view new [] [] r n p = tt
objects_plain tables view new [] (a ∷ given) r n p = absurd r
objects_plain tables view new (k ∷ ks) [] r n p = absurd r
objects_plain tables view new (k ∷ ks) (Obj None ∷ given) r n p =
    objects_plain tables view new ks given r.1 (All-tail NamedKind k ks n) (All-tail (PlainKind tables) k ks p)
objects_plain tables view new (k ∷ ks) (Obj (Some x) ∷ given) r n p =
    let o = object_kind k x r.0.suit in (
      named_plain tables view k x.id x.birth o.1 o.0 o.2 (n 0 kinds.Int (omega arith)) (p 0 kinds.Int (omega arith))
          (subst (λ (y : Kind). (is_live_as x.birth (look view x.id) && row_is_of (iface_of y) (look view x.id)) ≡ true)
          o.2 r.0.named),
      objects_plain tables view new ks given r.1 (All-tail NamedKind k ks n) (All-tail (PlainKind tables) k ks p),
    )
objects_plain tables view new (k ∷ ks) (a ∷ given) r n p =
    objects_plain tables view new ks given r.1 (All-tail NamedKind k ks n) (All-tail (PlainKind tables) k ks p)

-- what `send` writes makes no object without an interface in its signature
pub unnamed_none : (tables : List Interface) → Valid tables
    → (iface : Iface) (side : Side) (opcode : ℕ) (m : MessageSignature)
    → signature_at tables iface.0 side opcode ≡ Some m → is_hidden side iface opcode ≡ false
    → All (λ k. k ≢ kinds.New None) m.kinds
unnamed_none tables v iface Request opcode m h hid = elim (v.unnamed_new_in_bind_alone iface.0 Request opcode m h) [
  | inl b ↦ (let t : (nat_eq iface.0 1 && nat_eq opcode 0)
      ≡ true = rw (eq-eqb iface.0 1 b.registry, eq-eqb opcode 0 b.bind) refl in absurd (cc (t, hid)))
  | inr a ↦ a
]
unnamed_none tables v iface Event opcode m h hid = elim (v.unnamed_new_in_bind_alone iface.0 Event opcode m h) [
  | inl b ↦ absurd (cc b.request)
  | inr a ↦ a
]

-- a signature makes at most one object
pub few_made : (tables : List Interface) → Valid tables → (place : ℕ) (side : Side) (opcode : ℕ) (m : MessageSignature)
    → signature_at tables place side opcode ≡ Some m → makings m.kinds ≤ 1
few_made tables v place Request opcode m h =
    let e = ap length (v.server_makes.requests place opcode m h) in
    let f = v.few_objects_made.requests place opcode m h in omega (arith, e, f)
few_made tables v place Event opcode m h =
    let e = ap length (v.few_objects_made.events place opcode m h) in
    let f = v.server_makes.events place opcode m h in omega (arith, e, f)

-- no request of wl_display destroys it
abbrev KeepsTarget : Option MessageSignature → Type 0
KeepsTarget None = ⊥
KeepsTarget (Some m) = destroys_target m.destroys ≡ false

display_keeps : (opcode : ℕ) (m : MessageSignature) → slice_get wl_display.requests opcode ≡ Some m
    → destroys_target m.destroys ≡ false
display_keeps zero m h = subst KeepsTarget h refl
display_keeps (suc zero) m h = subst KeepsTarget h refl
display_keeps (suc (suc n)) m h = absurd (cc h)

-- no request of wl_display destroys it
pub display_lasts : (tables : List Interface) → Valid tables → (opcode : ℕ) (m : MessageSignature)
    → signature_at tables 0 Request opcode ≡ Some m → destroys_target m.destroys ≡ false
display_lasts tables v opcode m h = display_keeps opcode m
    (ap (option_and_then (message_of Request opcode)) (sym v.fixed_four.display) ∙ h)

-- an interface with an event that destroys its target passes the test for a destroying event
event_ends : (i : Interface) (opcode : ℕ) (m : MessageSignature) → slice_get i.events opcode ≡ Some m
    → destroys_target m.destroys ≡ true → has_destroying_event i ≡ true
event_ends i opcode m h d =
    list_any_at (λ (x : MessageSignature). destroys_target x.destroys) i.events opcode m
    (slice_get_within i.events opcode m h)
    (ap (λ (x : MessageSignature). destroys_target x.destroys) (get_or_from_slice_get i.events opcode m m h) ∙ d)

-- an interface with an event that destroys its target has a destroying event
pub ends_so : (tables : List Interface) (x : Born) (opcode : ℕ) (m : MessageSignature)
    → signature_at tables x.iface.0 Event opcode ≡ Some m → destroys_target m.destroys ≡ true → by_event tables x ≡ true
ends_so tables x opcode m h d =
    let o = of_message tables x.iface.0 Event opcode m h in
    ap is_ended_by_event o.there ∙ event_ends o.interface opcode m o.message d

-- wl_display has no destroying event
pub display_plain : (tables : List Interface) → Valid tables → is_ended_by_event (interface_at tables 0) ≡ false
display_plain tables v = rw v.fixed_four.display refl
