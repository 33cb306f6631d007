-- The arguments that a checker accepts in an event, as they are meant.
use Rattle.std.proofs.Common.{◌≡◌, ◌≢◌, ℕ, ◌+◌, ◌<◌, ◌≤◌, Bool, true, false, cond, List, [], ◌∷◌}
use Rattle.std.proofs.Common.{length, map, get_or, inl, inr, refl, sym, ap, subst, ◌∙◌, arith}
use Rattle.std.specs.Prelude.{nat_eq, nat_le, not, ◌&&◌, option_map}
use Rattle.std.specs.declared.option.Option.{Option}
use Rattle.std.specs.declared.option.Option.TheVariants.{None, Some}
use Rattle.std.proofs.lemmas.Bool.{and_parts, eqb-true}
use Rattle.std.proofs.lemmas.Bool.Decides.{nat_tests}
use Rattle.wl_wire.specs.declared.kind.Kind.{Kind}
use Rattle.wl_wire.specs.declared.kind.Kind.TheVariants as kinds
use Rattle.wl_wire.specs.declared.kind.Iface.{Iface}
use Rattle.wl_wire.specs.Argument.{Argument, Int, Uint, Fixed, Str, Obj, New, Array, Fd}
use Rattle.wl_wire.specs.Spelling.{Suits}
use Rattle.wl_wire.proofs.Canonicals.{spelled-suits}
use Rattle.wl_sigs.specs.Side.TheVariants.{Event}
use Rattle.wl_sigs.specs.Tables.{Interface}
use Rattle.wl_object_map.specs.declared.object.Entry.{Entry}
use Rattle.wl_object_map.specs.declared.object.Maker.{Maker}
use Rattle.wl_object_map.specs.declared.object.Maker.TheVariants.{Server}
use Rattle.wl_object_map.specs.Objects.{maker_of}
use Rattle.wl_object_map.specs.Ranges.{first_server_id, is_of_server, max_server_id}
use Rattle.wl_object_map.specs.View.{max_births}
use Rattle.wl_objects.specs.declared.error.Fault.{Fault}
use Rattle.wl_objects.specs.declared.error.Fault.TheVariants.{BadObject}
use Rattle.wl_objects.specs.Messages.{NewObject, made, made_by, new_id_of, or_else, waits_for_request}
use Rattle.wl_objects.specs.Reading.{has_required_iface, new_fault, object_fault, value_fault}
use Rattle.wl_objects.specs.Spelling.{MeetsKinds}
use Rattle.wl_objects.specs.Spelling as spelling
use Rattle.wl_recording.specs.declared.piece.Direction.TheVariants.{ToClient}
use Rattle.wl_check.specs.Places.{KnownAtPlace as Knows}
use Rattle.wl_check.specs.Rules.{if_open, is_free_server_id, reader_by}
use Rattle.theory_connection.specs.Meant.{Arg, Born, Known, live_entry, new_object_in, objects, objects_in_arg}
use Rattle.theory_connection.specs.Meant.{server_birth, wire}
use Rattle.theory_connection.specs.World.{Row, Open, Ending, Each, IfThere}
use Rattle.theory_connection.specs.Flight.{Rows, IsHeldInRows, NextTold}
use Rattle.theory_connection.specs.Stands.{NamesRightly, SuitKinds, birth_in}
use Rattle.theory_connection.proofs.Calls.{makings}
use Rattle.theory_connection.proofs.MadeFor.{MadeFor}
use Rattle.theory_connection.proofs.WholeInFlight.{each_more}
use Rattle.theory_recording.specs.Follows.{KnownAs, entry_at}
use Rattle.theory_peers.specs.AcceptedRequest.{index_of, known_by_place}
use Rattle.theory_peers.specs.AcceptedEvent.{ReplacesNone, new_told, meant_event_arg, meant_event_args}
use Rattle.theory_peers.proofs.AcceptedArguments.{FindsBirths, plain_kind}

-- ---- objects

born_row : (k : Knows) (places : Maker → List ℕ) (here : Rows Row) → KnownAs k places here → FindsBirths places
    → (id : ℕ) (b : Born) (r : Row) → here.rows id ≡ Some r → birth_in r ≡ b.birth
    → (entry : Entry) → entry.birth ≡ get_or (places b.birth.maker) b.birth.number 0 → entry.iface ≡ b.iface
    → entry.version ≡ b.version → (known_by_place places id entry).born ≡ b
born_row k places here a found id b r there birth entry at iface version =
    let by : maker_of id ≡ b.birth.maker = sym (a.made_by id r there) ∙ ap (λ (x : _). x.maker) birth in
    let below = a.below id r there in
    let below_b : b.birth.number < length (places b.birth.maker) =
    subst (λ (x : _). x.number < length (places x.maker)) birth
    (let count = a.births (birth_in r).maker in omega (arith, below, count)) in
    let number : index_of (places (maker_of id)) entry.birth ≡ b.birth.number =
    (λ i. index_of (places (by i)) (at i)) ∙ found b.birth.maker b.birth.number below_b in
    λ i. record {
      birth = record { maker = by i; number = number i };
      iface = iface i;
      version = version i;
    }

-- an object that the checker has is held, and known by the place of the message that made it
pub held_by_place : (k : Knows) (places : Maker → List ℕ) (here : Rows Row) → KnownAs k places here
    → FindsBirths places → (id : ℕ) (entry : Entry) → k.object id ≡ Some entry
    → IsHeldInRows here (known_by_place places id entry)
held_by_place k places here a found id entry named = by_row (here.rows id) refl
  where
    is_entry : (o : Option Row) → here.rows id ≡ o → option_map (entry_at places) o ≡ Some entry
    is_entry o there = sym (a.objects id ∙ ap (option_map (entry_at places)) there) ∙ named

    by_row : (o : Option Row) → here.rows id ≡ o → IsHeldInRows here (known_by_place places id entry)
    by_row None there = absurd (cc (is_entry None there))
    by_row (Some (Open b)) there =
        let both : Some (entry_at places (Open b)) ≡ Some entry = is_entry (Some (Open b)) there in
        let same : entry_at places (Open b) ≡ entry = cc both in
        let born = born_row k places here a found id b (Open b) there refl (entry_at places (Open b)) refl refl refl in
        inl (there ∙ ap (λ (x : Born). Some (Open x)) (sym born ∙ ap (λ (e : Entry). (known_by_place places id e).born) same))
    by_row (Some (Ending b)) there =
        let both : Some (entry_at places (Ending b)) ≡ Some entry = is_entry (Some (Ending b)) there in
        let same : entry_at places (Ending b) ≡ entry = cc both in
        let born = born_row k places here a found id b (Ending b) there refl (entry_at places (Ending b)) refl refl refl in
        inr (there ∙ ap (λ (x : Born). Some (Ending x)) (sym born ∙ ap (λ (e : Entry). (known_by_place places id e).born) same))

-- ---- new objects

-- a new object of the server, with a version
abbrev pub IsNewTold : Rows Row → Known → Type 0
IsNewTold here x = NextTold here x × (1 ≤ x.born.version)

free_is : (place : ℕ) (free low : Bool) → new_fault place (new_id_of free low) ≡ None → (free ≡ true) × (low ≡ true)
free_is place true true h = (refl, refl)
free_is place true false h = absurd (cc h)
free_is place false low h = absurd (cc h)

not_open_row : (k : Knows) (places : Maker → List ℕ) (here : Rows Row) → KnownAs k places here → (id : ℕ)
    → if_open (k.object id) ≡ None → (b : Born) → here.rows id ≢ Some (Open b)
not_open_row k places here a id none b there =
    let some = ap if_open (a.objects id ∙ ap (option_map (entry_at places)) there) in
    let no : None ≡ Some (entry_at places (Open b)) = sym none ∙ some in
    absurd (cc no)

-- an id that is free to the checker for an object of the server, and that no open object has, is the
-- server's next
next_told : (tables : List Interface) (k : Knows) (places : Maker → List ℕ) (here : Rows Row) → KnownAs k places here
    → length (places Server) < max_births → (place id : ℕ) (new : NewObject)
    → new_fault place (new_id_of (is_free_server_id tables k id) (nat_le id max_server_id)) ≡ None
    → if_open (k.object id) ≡ None
    → NextTold here (new_told places (Some new) id)
next_told tables k places here a few place id new h none =
    let f = free_is place (is_free_server_id tables k id) (nat_le id max_server_id) h in
    let next = and_parts (is_of_server id && not (waits_for_request tables (k.object id)))
    (nat_le id (first_server_id + k.server_used)) f.0 in
    let range = and_parts (is_of_server id) (not (waits_for_request tables (k.object id))) next.0 in
    let near = next.1 in
    let low = f.1 in
    let used = a.next in
    let count : length (places Server) ≡ here.by_server.births = a.births Server in
    record {
      range = range.0;
      not_open = not_open_row k places here a id none;
      next = grind (arith, nat_tests, near, used);
      birth = ap server_birth count;
      low = grind (arith, nat_tests, low);
      left = omega (arith, few, count);
    }

-- ---- one argument

-- the argument is meant by the value, and is as an event's must be
pub record IsToldRight (tables : List Interface) (here : Rows Row) (version : ℕ) (kind : Kind) (value : Argument)
    (a : Arg Known) : Type 0 where
  pub wired : wire a ≡ value
  pub suits : Suits kind (wire a)
  pub names : NamesRightly tables version kind a
  pub held : Each (IsHeldInRows here) (objects_in_arg a)
  pub new : IfThere (IsNewTold here) (new_object_in a)

module _ (tables : List Interface) (k : Knows) (places : Maker → List ℕ) (here : Rows Row) (a : KnownAs k places here)
    (found : FindsBirths places) (few : length (places Server) < max_births) where
  required : (iface : Option Iface) (id : ℕ) (entry : Entry) → has_required_iface iface entry ≡ true
      → has_required_iface iface (live_entry (known_by_place places id entry).born) ≡ true
  required None id entry h = refl
  required (Some iface) id entry h = h

  if_required : (b : Bool) (fault : Fault) → cond b None (Some fault) ≡ None → b ≡ true
  if_required true fault h = refl
  if_required false fault h = absurd (cc h)

  object_right : (version place : ℕ) (null : Bool) (iface : Option Iface) (id : ℕ) (b : Bool) (o : Option Entry)
      → nat_eq id 0 ≡ b → k.object id ≡ o → Suits (kinds.Obj null iface) (Obj id)
      → cond b None (object_fault place iface o) ≡ None
      → IsToldRight tables here version (kinds.Obj null iface) (Obj id)
      (Obj (cond b None (option_map (known_by_place places id) o)))
  object_right version place null iface id true o zero opens s f =
      let is : id ≡ 0 = eqb-true id 0 zero in
      record {
        wired = ap (λ (n : ℕ). Obj n) (sym is);
        suits = subst (λ (n : ℕ). Suits (kinds.Obj null iface) (Obj n)) is s;
        names = tt;
        held = tt;
        new = tt;
      }
  object_right version place null iface id false None zero opens s f = absurd (cc f)
  object_right version place null iface id false (Some entry) zero opens s f =
      let of : has_required_iface iface entry ≡ true =
      if_required (has_required_iface iface entry) (BadObject place) f in
      record {
        wired = refl;
        suits = s;
        names = (grind (arith, nat_tests, zero), required iface id entry of);
        held = (held_by_place k places here a found id entry opens, tt);
        new = tt;
      }

  pub told_right : (version place : ℕ) (kind : Kind) (value : Argument) → 1 ≤ version → Suits kind value
      → value_fault (reader_by tables k ToClient) place kind value ≡ None → MadeFor Event kind
      → ReplacesNone k (made_by tables version kind value)
      → IsToldRight tables here version kind value (meant_event_arg tables places k version kind value)
  told_right version place kinds.Int (Int z) l s f m n =
      record { wired = refl; suits = s; names = tt; held = tt; new = tt }
  told_right version place kinds.Uint (Uint z) l s f m n =
      record { wired = refl; suits = s; names = tt; held = tt; new = tt }
  told_right version place kinds.Fixed (Fixed z) l s f m n =
      record { wired = refl; suits = s; names = tt; held = tt; new = tt }
  told_right version place (kinds.Str null) (Str z) l s f m n =
      record { wired = refl; suits = s; names = tt; held = tt; new = tt }
  told_right version place (kinds.Obj null iface) (Obj id) l s f m n =
      object_right version place null iface id (nat_eq id 0) (k.object id) refl refl s f
  told_right version place (kinds.New iface) value l s f m n = absurd m
  told_right version place (kinds.NewByServer iface) (New id) l s f m n = record {
    wired = refl;
    suits = s;
    names = refl;
    held = tt;
    new = (
      next_told tables k places here a few place id (record { id = id; iface = iface; version = version }) f n,
      l,
    );
  }
  told_right version place kinds.Array (Array z) l s f m n =
      record { wired = refl; suits = s; names = tt; held = tt; new = tt }
  told_right version place kinds.Fd (Fd z) l s f m n =
      record { wired = refl; suits = s; names = tt; held = tt; new = tt }
  told_right version place _ _ l s f m n = absurd s

-- ---- all arguments

-- the arguments are meant by the values, and are as an event's must be
pub record AreToldRight (tables : List Interface) (here : Rows Row) (version : ℕ) (ks : List Kind)
    (values : List Argument) (args : List (Arg Known)) : Type 0 where
  pub wired : map wire args ≡ values
  pub suits : SuitKinds tables version ks args
  pub held : Each (IsHeldInRows here) (objects args)
  pub new : Each (λ a. IfThere (IsNewTold here) (new_object_in a)) args

-- no argument's new object replaces an open one
abbrev pub ReplaceNone : List Interface → Knows → ℕ → List Kind → List Argument → Type 0
ReplaceNone tables k version (kind ∷ ks) (value ∷ values) =
    ReplacesNone k (made_by tables version kind value) × ReplaceNone tables k version ks values
ReplaceNone tables k version _ _ = Unit {0}

module _ (tables : List Interface) (k : Knows) (version : ℕ) where
  none_replaced : (ks : List Kind) (values : List Argument) → Each (MadeFor Event) ks → makings ks ≤ 0
      → ReplaceNone tables k version ks values
  none_replaced [] values m h = tt
  none_replaced (kind ∷ ks) [] m h = tt
  none_replaced (kinds.New iface ∷ ks) (value ∷ values) m h = absurd m.0
  none_replaced (kinds.NewByServer iface ∷ ks) (value ∷ values) m h = absurd (omega (arith, h))
  none_replaced (kind ∷ ks) (value ∷ values) m h = (tt, none_replaced ks values m.1 h)

  first_replaced : (o p : Option NewObject) → ReplacesNone k (or_else o p) → ReplacesNone k o
  first_replaced None p h = tt
  first_replaced (Some x) p h = h

  -- if the object that a message makes replaces no open one, no argument's does
  pub all_replaced : (ks : List Kind) (values : List Argument) → Each (MadeFor Event) ks → makings ks ≤ 1
      → ReplacesNone k (made tables version ks values) → ReplaceNone tables k version ks values
  all_replaced [] values m few h = tt
  all_replaced (kind ∷ ks) [] m few h = tt
  all_replaced (kinds.New iface ∷ ks) (value ∷ values) m few h = absurd m.0
  all_replaced (kinds.NewByServer iface ∷ ks) (value ∷ values) m few h = (
    first_replaced (made_by tables version (kinds.NewByServer iface) value) (made tables version ks values) h,
    none_replaced ks values m.1 (omega (arith, few)),
  )
  all_replaced (kind ∷ ks) (value ∷ values) m few h = (tt, all_replaced ks values m.1 few h)

module _ (tables : List Interface) (k : Knows) (places : Maker → List ℕ) (here : Rows Row) (a : KnownAs k places here)
    (found : FindsBirths places) (few : length (places Server) < max_births) (version : ℕ) (least : 1 ≤ version) where
  pub tells_right : {place : ℕ} {ks : List Kind} {bytes : List ℕ} {values : List Argument} {rest : List ℕ}
      → MeetsKinds (reader_by tables k ToClient) place ks bytes values rest → Each (MadeFor Event) ks
      → ReplaceNone tables k version ks values
      → AreToldRight tables here version ks values (meant_event_args tables places k version ks values)
  tells_right spelling.none m n = record { wired = refl; suits = tt; held = tt; new = tt }
  tells_right (spelling.more {place = place} {kind = kind} {ks = ks} {value = value} {values = values} s f met e) m n =
      let suits : Suits kind value = subst (λ (x : Kind). Suits x value) (plain_kind kind) (spelled-suits s) in
      let one = told_right tables k places here a found few version place kind value least suits f m.0 n.0 in
      let more = tells_right met m.1 n.1 in
      record {
        wired = (λ i. one.wired i ∷ more.wired i);
        suits = ((one.suits, one.names), more.suits);
        held = each_more (IsHeldInRows here) (objects_in_arg (meant_event_arg tables places k version kind value))
            (objects (meant_event_args tables places k version ks values)) one.held more.held;
        new = (one.new, more.new);
      }
