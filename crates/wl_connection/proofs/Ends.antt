-- The object that a message destroys.
use Rattle.std.proofs.Common.{◌≡◌, ℕ, zero, suc, List, [], ◌∷◌, map, Bool, true, false, ◌&&◌, inl}
use Rattle.std.proofs.Common.{inr, refl, sym, ap, subst, ◌∙◌, slice_get, get_or, length, ◌<◌, ◌≤◌}
use Rattle.std.proofs.Common.{arith}
use Rattle.std.specs.Borrow.{Bor}
use Rattle.std.specs.Slice.{IsItemAt}
use Rattle.std.specs.Prelude.{Option, Some, None, option_map, codes, nat_eq, nat_lt, if◌then◌else◌}
use Rattle.std.specs.declared.result.Result.{Result}
use Rattle.std.specs.declared.result.Result.TheVariants.{Ok, Err}
use Rattle.wl_objects.specs.declared.error.Fault.TheVariants as faults
use Rattle.std.proofs.lemmas.Option.{slice_get-map, slice_get-get_or}
use Rattle.std.proofs.lemmas.Grind.{elements}
use Rattle.std.proofs.lemmas.Bool.{eqb-true}
use Rattle.wl_wire.specs.Argument.{Int, Uint, Fixed, Str, Obj, New, NewNamed, Array, Fd}
use Rattle.wl_sigs.specs.Destroys.TheVariants.{Arg as ends_arg}
use Rattle.wl_sigs.specs.Side.{Side}
use Rattle.wl_sigs.specs.Side.TheVariants.{Request, Event}
use Rattle.wl_sigs.specs.Tables.{MessageSignature, Interface, signature_at, messages_of, destroys_argument}
use Rattle.wl_sigs.specs.Fixed as fixed
use Rattle.wl_sigs.specs.Fixed.{registry, wl_fixes}
use Rattle.wl_sigs.specs.Valid.{Valid}
use Rattle.wl_object_map.specs.Objects.{Objects, look}
use Rattle.wl_object_map.specs.declared.object.Object.{Object}
use Rattle.wl_object_map.specs.declared.object.Entry.{Entry}
use Rattle.wl_objects.specs.declared.argument.Arg.{Arg}
use Rattle.wl_objects.specs.Writing.{given, given_of, wired, on_wire, Given, is_live_as}
use Rattle.wl_objects.specs.Writing.{row_is_of, names_one, wrong_place, lost_place}
use Rattle.wl_objects.specs.Messages.{id_named, id_at, Received, received}
use Rattle.wl_objects.specs.Reading.{Reader, forgiving, object_fault, value_unless, value_or_fault, value_then_rest}
use Rattle.wl_objects.specs.Reading.{arguments_at}
use Rattle.wl_objects.specs.declared.error.Fault.{Fault}
use Rattle.wl_wire.specs.declared.kind.ArgFault.TheVariants.{Short, NullNotAllowed}
use Rattle.wl_wire.specs.declared.kind.Kind.{Kind}
use Rattle.wl_wire.specs.declared.kind.Kind.TheVariants as kinds
use Rattle.wl_wire.specs.declared.header.Header.{Header}
use Rattle.wl_wire.specs.Argument.{Argument}
use Rattle.wl_wire.specs.Reading.{map_found, number_at}
use Rattle.wl_object_map.specs.View.{lives}
use Rattle.wl_connection.proofs.ReceivedMessage.{is_received}
use Rattle.wl_connection.proofs.Spelled.{read_row}

-- the id that a call names at a place
pub named_known : (list : List Arg) (place : ℕ) → id_at (on_wire 0 list) place
    ≡ id_named (option_map (λ a. wired 0 (given_of a)) (slice_get list place))
named_known list place = ap id_named (slice_get-map (wired 0) (given list) place
    ∙ ap (option_map (wired 0)) (slice_get-map given_of list place) ∙ both (slice_get list place))
  where
    both : (o : Option Arg) → option_map (wired 0) (option_map given_of o) ≡ option_map (λ a. wired 0 (given_of a)) o
    both None = refl
    both (Some a) = refl

abbrev pub the_destroy : MessageSignature
the_destroy = fixed.message (codes "destroy_registry") 1 (fixed.object registry ∷ []) (ends_arg 0)

found_at : (side : Side) (opcode : ℕ) (m : MessageSignature) (k : ℕ)
    → slice_get (messages_of side wl_fixes) opcode ≡ Some m
    → m.destroys ≡ ends_arg k → m ≡ the_destroy
found_at Request zero m k e d = let x = ap (option_map (λ (n : MessageSignature). n.destroys)) e in absurd (cc (x, d))
found_at Request (suc zero) m k e d = sym (cc e)
found_at Request (suc (suc n)) m k e d = absurd (cc e)
found_at Event opcode m k e d = absurd (cc e)

-- the only message that destroys an argument is wl_fixes.destroy_registry
pub is_the_destroy : (tables : List Interface) (place : ℕ) (side : Side) (opcode : ℕ) (m : MessageSignature) (k : ℕ)
    → Valid tables → signature_at tables place side opcode ≡ Some m → m.destroys ≡ ends_arg k → m ≡ the_destroy
is_the_destroy tables place side opcode m k v e d = elim (v.argument_ends place side opcode m e) [
  | inl p ↦ (
      let at : signature_at tables 18 side opcode ≡ Some m =
      subst (λ (n : ℕ). signature_at tables n side opcode ≡ Some m) p e in
      let found : slice_get (messages_of side wl_fixes) opcode ≡ Some m = rw v.fixed_four.fixes at at in
      found_at side opcode m k found d)
  | inr never ↦ (let yes = ap destroys_argument d in absurd (cc (yes, never)))
]

-- no event destroys an argument
pub ends_no_argument : (tables : List Interface) (place : ℕ) (opcode : ℕ) (m : MessageSignature) → Valid tables
    → signature_at tables place Event opcode ≡ Some m → destroys_argument m.destroys ≡ false
ends_no_argument tables place opcode m v e = elim (v.argument_ends place Event opcode m e) [
  | inl p ↦ (
      let at : signature_at tables 18 Event opcode ≡ Some m =
      subst (λ (n : ℕ). signature_at tables n Event opcode ≡ Some m) p e in
      let found : slice_get (messages_of Event wl_fixes) opcode ≡ Some m = rw v.fixed_four.fixes at at in
      absurd (cc found))
  | inr never ↦ never
]

pub no_event : (tables : List Interface) (place : ℕ) (opcode : ℕ) (m : MessageSignature) (k : ℕ) → Valid tables
    → signature_at tables place Event opcode ≡ Some m → m.destroys ≡ ends_arg k → ⊥
no_event tables place opcode m k v e d = let yes : true ≡ false =
    sym (ap destroys_argument d) ∙ ends_no_argument tables place opcode m v e in cc yes

-- the call names a live registry
pub record NamesRegistry (view : Objects) (id : ℕ) : Type 0 where
  pub entry : Entry
  pub there : look view id ≡ Some entry
  pub live : lives entry.state ≡ true
  pub registers : entry.iface.0 ≡ 1

row_named : (view : Objects) (o : Object) (row : Option Entry) → look view o.id ≡ row
    → names_one (Some registry) o row ≡ true → NamesRegistry view o.id
row_named view o None e h = absurd (cc h)
row_named view o (Some entry) e h =
    let both = both_of (is_live_as o.birth (Some entry)) (row_is_of (Some registry) (Some entry)) h in
    record {
      entry = entry;
      there = e;
      live = (both_of (nat_eq entry.birth o.birth) (lives entry.state) both.0).1;
      registers = sym (eqb-true 1 entry.iface.0 both.1);
    }
  where
    both_of : (a b : Bool) → (a && b) ≡ true → (a ≡ true) × (b ≡ true)
    both_of true b h = (refl, h)
    both_of false b h = absurd (cc h)

no_lost : (b : Bool) (place : ℕ) → (if b then None else Some place) ≡ None → b ≡ true
no_lost true place h = refl
no_lost false place h = absurd (cc h)

pub names_registry : (view : Objects) (list : List Given) → wrong_place 0 the_destroy.kinds list ≡ None
    → lost_place (look view) 0 the_destroy.kinds list ≡ None → NamesRegistry view (id_at (map (wired 0) list) 0)
names_registry view [] w l = absurd (cc w)
names_registry view (Obj (Some o) ∷ []) w l = row_named view o (look view o.id) refl (no_lost _ 0 l)
names_registry view (Obj (Some o) ∷ x ∷ more) w l = absurd (cc w)
names_registry view (Obj None ∷ more) w l = absurd (cc w)
names_registry view (Int z ∷ more) w l = absurd (cc w)
names_registry view (Uint z ∷ more) w l = absurd (cc w)
names_registry view (Fixed z ∷ more) w l = absurd (cc w)
names_registry view (Str z ∷ more) w l = absurd (cc w)
names_registry view (New z ∷ more) w l = absurd (cc w)
names_registry view (NewNamed a b z ∷ more) w l = absurd (cc w)
names_registry view (Array z ∷ more) w l = absurd (cc w)
names_registry view (Fd z ∷ more) w l = absurd (cc w)

pub named_some : (list : List Arg) (place : ℕ) (arg d : Arg) → place < length list → arg ≡ get_or list place d
    → id_at (on_wire 0 list) place ≡ id_named (Some (wired 0 (given_of arg)))
named_some list place arg d h e = named_known list place
    ∙ ap (λ (o : Option Arg). id_named (option_map (λ a. wired 0 (given_of a)) o))
    (slice_get-get_or list place d h ∙ ap Some (sym e))

none_past : (xs : List Arg) (k : ℕ) → length xs ≤ k → slice_get xs k ≡ None
none_past xs k h = grind (arith, elements, h)

pub named_past : (list : List Arg) (place : ℕ) → length list ≤ place → id_at (on_wire 0 list) place ≡ 0
named_past list place h = named_known list place ∙ ap
    (λ (o : Option Arg). id_named (option_map (λ a. wired 0 (given_of a)) o)) (none_past list place h)

-- the same for what a look-up of the argument returned
pub named_got : (list : List Arg) (place : ℕ) (o : Option (Bor Arg)) → IsItemAt list place o
    → id_at (on_wire 0 list) place ≡ id_named (option_map (λ (b : Bor Arg). wired 0 (given_of b.now)) o)
named_got list place None h = named_past list place h.3
named_got list place (Some b) h = named_some list place b.now b.now h.3.0 h.1

-- ---- the object that wl_fixes.destroy_registry names to its reader

abbrev registry_kind : Kind
registry_kind = kinds.Obj false (Some registry)

-- the values name a wl_registry, and nothing else
pub record NamesRow (rows : ℕ → Option Entry) (values : List Argument) : Type 0 where
  pub id : ℕ
  pub entry : Entry
  pub are : values ≡ Obj id ∷ []
  pub some : nat_eq id 0 ≡ false
  pub there : rows id ≡ Some entry
  pub registers : entry.iface.0 ≡ 1

abbrev values_in : Result (List Argument × List ℕ) Fault → List Argument
values_in (Ok found) = found.0
values_in (Err fault) = []

iface_test : (r : Reader) (n : ℕ) (values : List Argument) (body : List ℕ) (entry : Entry) (b : Bool)
    → r.object n ≡ Some entry → nat_eq n 0 ≡ false → nat_eq 1 entry.iface.0 ≡ b
    → value_then_rest (arguments_at r 1 []) body
    (value_unless (if b then None else Some (faults.BadObject 0)) (Obj n, 4))
    ≡ Ok (values, []) → NamesRow r.object values
iface_test r n values body entry false e z i h = absurd (cc h)
iface_test r n values body entry true e z i h =
    record {
      id = n;
      entry = entry;
      are = sym (ap values_in h);
      some = z;
      there = e;
      registers = sym (eqb-true 1 entry.iface.0 i);
    }

row_test : (r : Reader) (n : ℕ) (values : List Argument) (body : List ℕ) (row : Option Entry) → r.object n ≡ row
    → nat_eq n 0 ≡ false
    → value_then_rest (arguments_at r 1 []) body (value_unless (object_fault 0 (Some registry) row) (Obj n, 4))
    ≡ Ok (values, [])
    → NamesRow r.object values
row_test r n values body None e z h = absurd (cc h)
row_test r n values body (Some entry) e z h = iface_test r n values body entry (nat_eq 1 entry.iface.0) e z refl h

read_test : (reader : Reader) (n : ℕ) (values : List Argument) (body : List ℕ) (a b : Bool) → nat_eq n 0 ≡ b
    → (let r = forgiving false reader in value_then_rest (arguments_at r 1 []) body
    (value_or_fault r 0 registry_kind (if a then Err Short
    else map_found (λ value. (value, 4)) (if b then Err NullNotAllowed else Ok (Obj n))))) ≡ Ok (values, [])
    → NamesRow reader.object values
read_test reader n values body true b z h = absurd (cc h)
read_test reader n values body false true z h = absurd (cc h)
read_test reader n values body false false z h =
    let r = forgiving false reader in
    row_test r n values body (r.object n) refl z
    (subst (λ (b : Bool). value_then_rest (arguments_at r 1 []) body
    (value_unless (if b then None else object_fault 0 (Some registry) (r.object n)) (Obj n, 4)) ≡ Ok (values, [])) z h)

pub argument_received : (tables : List Interface) (reader : Reader) (h : Header) (body : List ℕ) (waiting : ℕ)
    (m : Received) (k : ℕ) → Valid tables
    → received tables Request reader h body waiting ≡ Ok m → m.signature.destroys ≡ ends_arg k
    → (k ≡ 0) × NamesRow reader.object m.values
argument_received tables reader h body waiting m k v e d =
    let signature = (is_received tables Request reader h body waiting m e).signature in
    let same : m.signature ≡ the_destroy = is_the_destroy tables m.entry.iface.0 Request h.opcode m.signature k v
    signature d in
    let place : ends_arg k ≡ ends_arg 0 = sym d ∙ ap (λ (s : MessageSignature). s.destroys) same in
    let read = read_row tables Request reader h body waiting m (reader.object h.object) e in (
      cc place,
      read_test reader (number_at body) m.values body (nat_lt (length body) 4) (nat_eq (number_at body) 0) refl
          (subst (λ (s : MessageSignature). arguments_at (forgiving false reader) 0 s.kinds body ≡ Ok (m.values, []))
          same read),
    )
