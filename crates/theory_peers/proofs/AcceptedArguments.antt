-- The arguments that a checker accepts in a request, as they are meant.
use Rattle.std.proofs.Common.{◌≡◌, ℕ, suc, ◌+◌, ◌<◌, ◌≤◌, Bool, true, false, cond, List, [], ◌∷◌}
use Rattle.std.proofs.Common.{length, length-append, map, get_or, ◌⊎◌, inl, inr, refl, sym, ap, subst, ◌∙◌, arith}
use Rattle.std.specs.Prelude.{nat_eq, nat_le, is_none, not, ◌&&◌, option_map}
use Rattle.std.specs.declared.option.Option.{Option}
use Rattle.std.specs.declared.option.Option.TheVariants.{None, Some}
use Rattle.std.proofs.lemmas.Bool.{and_parts, eqb-true}
use Rattle.std.proofs.lemmas.Bool.Decides.{nat_tests}
use Rattle.wl_wire.specs.declared.kind.Kind.{Kind}
use Rattle.wl_wire.specs.declared.kind.Kind.TheVariants as kinds
use Rattle.wl_wire.specs.declared.kind.Iface.{Iface}
use Rattle.wl_wire.specs.Argument.{Argument, Int, Uint, Fixed, Str, Obj, New, NewNamed, Array, Fd}
use Rattle.wl_wire.specs.Spelling.{Suits}
use Rattle.wl_wire.proofs.Canonicals.{spelled-len, spelled-suits}
use Rattle.wl_sigs.specs.Side.TheVariants.{Request}
use Rattle.wl_sigs.specs.Tables.{Interface, place_of}
use Rattle.wl_object_map.specs.declared.object.Entry.{Entry}
use Rattle.wl_object_map.specs.declared.object.Maker.{Maker}
use Rattle.wl_object_map.specs.declared.object.Maker.TheVariants.{Client}
use Rattle.wl_object_map.specs.Objects.{maker_of}
use Rattle.wl_object_map.specs.View.{max_births, max_ids}
use Rattle.wl_objects.specs.declared.error.Fault.{Fault}
use Rattle.wl_objects.specs.declared.error.Fault.TheVariants.{BadObject}
use Rattle.wl_objects.specs.Messages.{NewObject, new_id_of, or_else}
use Rattle.wl_objects.specs.Reading.{Reader, forgiving_kind, has_required_iface, new_fault, object_fault, value_fault}
use Rattle.wl_objects.specs.Spelling.{MeetsKinds}
use Rattle.wl_objects.specs.Spelling as spelling
use Rattle.wl_objects.specs.Writing.{message_len}
use Rattle.wl_recording.specs.declared.piece.Direction.TheVariants.{ToServer}
use Rattle.wl_check.specs.Places.{KnownAtPlace as Knows}
use Rattle.wl_check.specs.Rules.{if_open, is_free_id, reader_by}
use Rattle.theory_connection.specs.Meant.{Arg, Born, Known, client_birth, live_entry, made_in, new_object_in, objects}
use Rattle.theory_connection.specs.Meant.{objects_in_arg, wire}
use Rattle.theory_connection.specs.World.{Row, Open, Ending, Each, IfThere}
use Rattle.theory_connection.specs.Flight.{Rows, Fresh}
use Rattle.theory_connection.specs.Stands.{NamesRightly, SuitKinds}
use Rattle.theory_connection.proofs.Calls.{makings}
use Rattle.theory_connection.proofs.EndedObject.{if_by}
use Rattle.theory_connection.proofs.MadeFor.{MadeFor}
use Rattle.theory_connection.proofs.WholeInFlight.{OpenRow, each_by, each_more}
use Rattle.theory_recording.specs.Follows.{KnownAs, entry_at}
use Rattle.theory_peers.specs.AcceptedRequest.{asked_arg, asked_args, index_of, known_by_place, new_known}

-- ---- objects

-- each birth is found by its place
abbrev pub FindsBirths : (Maker → List ℕ) → Type 0
FindsBirths places = (by : Maker) (number : ℕ) → number < length (places by)
    → index_of (places by) (get_or (places by) number 0) ≡ number

-- an open object is known by the place of the message that made it
born_is : (k : Knows) (places : Maker → List ℕ) (here : Rows Row) → KnownAs k places here → FindsBirths places
    → (id : ℕ) (b : Born) → here.rows id ≡ Some (Open b)
    → (known_by_place places id (entry_at places (Open b))).born ≡ b
born_is k places here a found id b there =
    let by : maker_of id ≡ b.birth.maker = sym (a.made_by id (Open b) there) in
    let below = a.below id (Open b) there in
    let count = a.births b.birth.maker in
    let place = get_or (places b.birth.maker) b.birth.number 0 in
    let number : index_of (places (maker_of id)) place ≡ b.birth.number =
    ap (λ (m : Maker). index_of (places m) place) by
    ∙ found b.birth.maker b.birth.number (omega (arith, below, count)) in
    λ i. record { birth = record { maker = by i; number = number i }; iface = b.iface; version = b.version }

-- an object that is open to the checker has an open row
pub open_row : (k : Knows) (places : Maker → List ℕ) (here : Rows Row) → KnownAs k places here → FindsBirths places
    → (id : ℕ) (entry : Entry) → if_open (k.object id) ≡ Some entry → OpenRow here (known_by_place places id entry)
open_row k places here a found id entry opens = by_row (here.rows id) refl
  where
    is_entry : (o : Option Row) → here.rows id ≡ o → if_open (option_map (entry_at places) o) ≡ Some entry
    is_entry o there = sym (ap if_open (a.objects id ∙ ap (option_map (entry_at places)) there)) ∙ opens

    by_row : (o : Option Row) → here.rows id ≡ o
        → here.rows id ≡ Some (Open (known_by_place places id entry).born)
    by_row None there = absurd (cc (is_entry None there))
    by_row (Some (Ending b)) there = absurd (cc (is_entry (Some (Ending b)) there))
    by_row (Some (Open b)) there =
        let both : Some (entry_at places (Open b)) ≡ Some entry = is_entry (Some (Open b)) there in
        let same : entry_at places (Open b) ≡ entry = cc both in
        there ∙ ap (λ (x : Born). Some (Open x)) (sym (born_is k places here a found id b there)
        ∙ ap (λ (e : Entry). (known_by_place places id e).born) same)

-- ---- new objects

-- a new object of the client, with a version
abbrev pub IsNew : Rows Row → Known → Type 0
IsNew here x = Fresh here x × (1 ≤ x.born.version)

free_is : (place : ℕ) (free low : Bool) → new_fault place (new_id_of free low) ≡ None → (free ≡ true) × (low ≡ true)
free_is place true true h = (refl, refl)
free_is place true false h = absurd (cc h)
free_is place false low h = absurd (cc h)

none_is : {X : Type 0} (o : Option X) → is_none o ≡ true → o ≡ None
none_is None h = refl
none_is (Some x) h = absurd (cc h)

no_row : (places : Maker → List ℕ) (o : Option Row) → option_map (entry_at places) o ≡ None → o ≡ None
no_row places None h = refl
no_row places (Some r) h = absurd (cc h)

-- an id that is free to the checker is fresh
fresh_row : (k : Knows) (places : Maker → List ℕ) (here : Rows Row) → KnownAs k places here
    → length (places Client) < max_births
    → (place id : ℕ) (new : NewObject) → new_fault place (new_id_of (is_free_id k id) (nat_le id max_ids)) ≡ None
    → Fresh here (new_known places (Some new) id)
fresh_row k places here a few place id new h =
    let f = free_is place (is_free_id k id) (nat_le id max_ids) h in
    let next = and_parts (not (nat_eq id 0) && is_none (k.object id)) (nat_le id (k.used + 1)) f.0 in
    let free = and_parts (not (nat_eq id 0)) (is_none (k.object id)) next.0 in
    let some = free.0 in
    let near = next.1 in
    let low = f.1 in
    let used = a.used in
    let count : length (places Client) ≡ here.births = a.births Client in
    record {
      free = no_row places (here.rows id) (sym (a.objects id) ∙ none_is (k.object id) free.1);
      some = grind (arith, nat_tests, some);
      next = grind (arith, nat_tests, near, used);
      birth = ap client_birth count;
      low = grind (arith, nat_tests, low);
      left = omega (arith, few, count);
    }

-- ---- one argument

-- the interface that an argument names as text is in the tables, and has a version
abbrev pub HasName : List Interface → Kind → Argument → Type 0
HasName tables (kinds.New None) (NewNamed name own id) =
    (iface : Iface) × (place_of tables name ≡ Some iface) × (1 ≤ own)
HasName tables _ _ = Unit {0}

-- the argument is meant by the value, and is as a request's must be
pub record IsRight (tables : List Interface) (here : Rows Row) (version : ℕ) (kind : Kind) (value : Argument)
    (a : Arg Known) : Type 0 where
  pub wired : wire a ≡ value
  pub suits : Suits kind (wire a)
  pub names : NamesRightly tables version kind a
  pub opens : Each (OpenRow here) (objects_in_arg a)
  pub new : IfThere (IsNew here) (new_object_in a)

module _ (tables : List Interface) (k : Knows) (places : Maker → List ℕ) (here : Rows Row) (a : KnownAs k places here)
    (found : FindsBirths places) (few : length (places Client) < max_births) where
  required : (iface : Option Iface) (id : ℕ) (entry : Entry) → has_required_iface iface entry ≡ true
      → has_required_iface iface (live_entry (known_by_place places id entry).born) ≡ true
  required None id entry h = refl
  required (Some iface) id entry h = h

  if_required : (b : Bool) (fault : Fault) → cond b None (Some fault) ≡ None → b ≡ true
  if_required true fault h = refl
  if_required false fault h = absurd (cc h)

  object_right : (version place : ℕ) (null : Bool) (iface : Option Iface) (id : ℕ) (b : Bool) (o : Option Entry)
      → nat_eq id 0 ≡ b → if_open (k.object id) ≡ o → Suits (kinds.Obj null iface) (Obj id)
      → cond b None (object_fault place iface o) ≡ None
      → IsRight tables here version (kinds.Obj null iface) (Obj id)
      (Obj (cond b None (option_map (known_by_place places id) o)))
  object_right version place null iface id true o zero opens s f =
      let is : id ≡ 0 = eqb-true id 0 zero in
      record {
        wired = ap (λ (n : ℕ). Obj n) (sym is);
        suits = subst (λ (n : ℕ). Suits (kinds.Obj null iface) (Obj n)) is s;
        names = tt;
        opens = tt;
        new = tt;
      }
  object_right version place null iface id false None zero opens s f = absurd (cc f)
  object_right version place null iface id false (Some entry) zero opens s f =
      let of : has_required_iface iface entry ≡ true =
      if_required (has_required_iface iface entry) (BadObject place) f in
      record {
        wired = refl;
        suits = s;
        names = (grind (arith, nat_tests, zero), required iface id entry of);
        opens = (open_row k places here a found id entry opens, tt);
        new = tt;
      }

  named_right : (version place : ℕ) (name : List ℕ) (own id : ℕ) (iface : Iface) (o : Option Iface)
      → place_of tables name ≡ o → o ≡ Some iface → 1 ≤ own → Suits (kinds.New None) (NewNamed name own id)
      → new_fault place (new_id_of (is_free_id k id) (nat_le id max_ids)) ≡ None
      → IsRight tables here version (kinds.New None) (NewNamed name own id)
      (NewNamed name own (new_known places
      (option_map (λ (i : Iface). record { id = id; iface = i; version = own }) o) id))
  named_right version place name own id iface None there is least s f = absurd (cc is)
  named_right version place name own id iface (Some i) there is least s f = record {
    wired = refl;
    suits = s;
    names = ap (option_map (λ (j : Iface). record { id = id; iface = j; version = own })) there;
    opens = tt;
    new = (fresh_row k places here a few place id (record { id = id; iface = i; version = own }) f, least);
  }

  pub arg_right : (version place : ℕ) (kind : Kind) (value : Argument) → 1 ≤ version → Suits kind value
      → value_fault (reader_by tables k ToServer) place kind value ≡ None → MadeFor Request kind
      → HasName tables kind value
      → IsRight tables here version kind value (asked_arg tables places k version kind value)
  arg_right version place kinds.Int (Int z) l s f m n =
      record { wired = refl; suits = s; names = tt; opens = tt; new = tt }
  arg_right version place kinds.Uint (Uint z) l s f m n =
      record { wired = refl; suits = s; names = tt; opens = tt; new = tt }
  arg_right version place kinds.Fixed (Fixed z) l s f m n =
      record { wired = refl; suits = s; names = tt; opens = tt; new = tt }
  arg_right version place (kinds.Str null) (Str z) l s f m n =
      record { wired = refl; suits = s; names = tt; opens = tt; new = tt }
  arg_right version place (kinds.Obj null iface) (Obj id) l s f m n =
      object_right version place null iface id (nat_eq id 0) (if_open (k.object id)) refl refl s f
  arg_right version place (kinds.New (Some iface)) (New id) l s f m n = record {
    wired = refl;
    suits = s;
    names = refl;
    opens = tt;
    new = (fresh_row k places here a few place id (record { id = id; iface = iface; version = version }) f, l);
  }
  arg_right version place (kinds.New None) (NewNamed name own id) l s f m n =
      named_right version place name own id n.0 (place_of tables name) refl n.1 n.2 s f
  arg_right version place (kinds.NewByServer iface) (New id) l s f m n = absurd m
  arg_right version place kinds.Array (Array z) l s f m n =
      record { wired = refl; suits = s; names = tt; opens = tt; new = tt }
  arg_right version place kinds.Fd (Fd z) l s f m n =
      record { wired = refl; suits = s; names = tt; opens = tt; new = tt }
  arg_right version place _ _ l s f m n = absurd s

-- ---- all arguments

-- the names of all interfaces that arguments name as text are in the tables
abbrev pub HaveNames : List Interface → List Kind → List Argument → Type 0
HaveNames tables (kind ∷ ks) (value ∷ values) = HasName tables kind value × HaveNames tables ks values
HaveNames tables _ _ = Unit {0}

-- the arguments are meant by the values, and are as a request's must be
pub record AreRight (tables : List Interface) (here : Rows Row) (version : ℕ) (ks : List Kind) (values : List Argument)
    (args : List (Arg Known)) : Type 0 where
  pub wired : map wire args ≡ values
  pub suits : SuitKinds tables version ks args
  pub opens : Each (OpenRow here) (objects args)
  pub new : Each (λ a. IfThere (IsNew here) (new_object_in a)) args

-- a reader that does not forgive takes each kind as it is
pub plain_kind : (kind : Kind) → forgiving_kind false kind ≡ kind
plain_kind (kinds.Obj null iface) = refl
plain_kind kind = refl

module _ (tables : List Interface) (k : Knows) (places : Maker → List ℕ) (here : Rows Row) (a : KnownAs k places here)
    (found : FindsBirths places) (few : length (places Client) < max_births) (version : ℕ) (least : 1 ≤ version) where
  pub args_right : {place : ℕ} {ks : List Kind} {bytes : List ℕ} {values : List Argument} {rest : List ℕ}
      → MeetsKinds (reader_by tables k ToServer) place ks bytes values rest → Each (MadeFor Request) ks
      → HaveNames tables ks values
      → AreRight tables here version ks values (asked_args tables places k version ks values)
  args_right spelling.none m n = record { wired = refl; suits = tt; opens = tt; new = tt }
  args_right (spelling.more {place = place} {kind = kind} {ks = ks} {value = value} {values = values} s f met e) m n =
      let suits : Suits kind value = subst (λ (x : Kind). Suits x value) (plain_kind kind) (spelled-suits s) in
      let one = arg_right tables k places here a found few version place kind value least suits f m.0 n.0 in
      let more = args_right met m.1 n.1 in
      record {
        wired = (λ i. one.wired i ∷ more.wired i);
        suits = ((one.suits, one.names), more.suits);
        opens = each_more (OpenRow here) (objects_in_arg (asked_arg tables places k version kind value))
            (objects (asked_args tables places k version ks values)) one.opens more.opens;
        new = (one.new, more.new);
      }

-- the values take all bytes
pub meets_len : {r : Reader} {place : ℕ} {ks : List Kind} {bytes : List ℕ} {values : List Argument} {rest : List ℕ}
    → MeetsKinds r place ks bytes values rest → message_len values + length rest ≡ 8 + length bytes
meets_len {r} spelling.none = refl
meets_len {r} (spelling.more {front = front} {behind = behind} s f m e) =
    let more = meets_len m in
    let whole = ap length e in
    omega (arith, more, whole, length-append front behind, spelled-len s)

-- ---- at most one new object

new_counts : (kind : Kind) (ks : List Kind) (a : Arg Known) → Suits kind (wire a)
    → (new_object_in a ≡ None) ⊎ (makings (kind ∷ ks) ≡ suc (makings ks))
new_counts kinds.Int ks (Int z) s = inl refl
new_counts kinds.Uint ks (Uint z) s = inl refl
new_counts kinds.Fixed ks (Fixed z) s = inl refl
new_counts (kinds.Str null) ks (Str z) s = inl refl
new_counts (kinds.Obj null iface) ks (Obj x) s = inl refl
new_counts (kinds.New (Some iface)) ks (New x) s = inr (omega arith)
new_counts (kinds.New None) ks (NewNamed name own x) s = inr (omega arith)
new_counts (kinds.NewByServer iface) ks (New x) s = inr (omega arith)
new_counts kinds.Array ks (Array z) s = inl refl
new_counts kinds.Fd ks (Fd z) s = inl refl
new_counts _ ks _ s = absurd s

fewer : (kind : Kind) (ks : List Kind) → makings ks ≤ makings (kind ∷ ks)
fewer (kinds.New iface) ks = omega arith
fewer (kinds.NewByServer iface) ks = omega arith
fewer kind ks = omega arith

abbrev MakesNone : Arg Known → Type 0
MakesNone a = new_object_in a ≡ None

none_made : (tables : List Interface) (version : ℕ) (ks : List Kind) (args : List (Arg Known))
    → SuitKinds tables version ks args → makings ks ≤ 0 → Each MakesNone args
none_made tables version [] [] s h = tt
none_made tables version [] (a ∷ args) s h = absurd s
none_made tables version (kind ∷ ks) [] s h = absurd s
none_made tables version (kind ∷ ks) (a ∷ args) s h =
    let more = none_made tables version ks args s.1 (let l = fewer kind ks in omega (arith, l, h)) in
    elim (new_counts kind ks a s.0.0) [
      | inl none ↦ (none, more)
      | inr one ↦ absurd (omega (arith, one, h))
    ]

-- the arguments make at most this object
abbrev pub IsOnlyMade : List (Arg Known) → Arg Known → Type 0
IsOnlyMade all a = IfThere (λ x. made_in all ≡ Some x) (new_object_in a)

first_made : (o p : Option Known) → IfThere (λ x. or_else o p ≡ Some x) o
first_made None p = tt
first_made (Some x) p = refl

pub one_made : (tables : List Interface) (version : ℕ) (ks : List Kind) (args : List (Arg Known))
    → SuitKinds tables version ks args → makings ks ≤ 1 → Each (IsOnlyMade args) args
one_made tables version [] [] s h = tt
one_made tables version [] (a ∷ args) s h = absurd s
one_made tables version (kind ∷ ks) [] s h = absurd s
one_made tables version (kind ∷ ks) (a ∷ args) s h =
    let more = one_made tables version ks args s.1 (let l = fewer kind ks in omega (arith, l, h)) in
    elim (new_counts kind ks a s.0.0) [
      | inl none ↦ (
          let same : made_in (a ∷ args) ≡ made_in args = ap (λ (o : Option Known). or_else o (made_in args)) none in (
            subst (IfThere (λ x. made_in (a ∷ args) ≡ Some x)) (sym none) tt,
            each_by (IsOnlyMade args) (IsOnlyMade (a ∷ args))
                (λ b made. if_by {P = λ (x : Known). made_in args ≡ Some x} {Q = λ (x : Known). made_in (a ∷ args) ≡ Some x}
                (λ x e. same ∙ e) (new_object_in b) made) args more,
          )
          )
      | inr one ↦ (
        first_made (new_object_in a) (made_in args),
        each_by MakesNone (IsOnlyMade (a ∷ args))
            (λ b none. subst (IfThere (λ x. made_in (a ∷ args) ≡ Some x)) (sym none) tt) args
            (none_made tables version ks args s.1 (omega (arith, one, h))),
      )
    ]

-- what holds for each argument's new object holds for the message's
pub if_made : (P : Known → Type 0) (args : List (Arg Known)) → Each (λ a. IfThere P (new_object_in a)) args
    → IfThere P (made_in args)
if_made P [] h = tt
if_made P (a ∷ args) h = first (new_object_in a) (made_in args) h.0 (if_made P args h.1)
  where
    first : (o p : Option Known) → IfThere P o → IfThere P p → IfThere P (or_else o p)
    first None p g q = q
    first (Some x) p g q = g
