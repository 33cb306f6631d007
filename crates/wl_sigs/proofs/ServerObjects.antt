-- V11: the new objects of the server, in tables and in a text.
use Rattle.std.proofs.Common.{◌≡◌, ℕ, ◌+◌, ◌≤◌, ◌⊎◌, inl, inr, List, [], ◌∷◌, length, map, Bool, true, false}
use Rattle.std.proofs.Common.{refl, sym, ◌∙◌, subst, Some, None, Option, slice_get, not, cond, nat_le}
use Rattle.std.proofs.Common.{nat_eq, ◌&&◌, ◌||◌, arith}
use Rattle.std.specs.Prelude.{option_map, unwrap_or}
use Rattle.std.specs.Bool.{Decides}
use Rattle.std.specs.List.{All, list_all, count_by}
use Rattle.std.specs.Option.{option_map_or}
use Rattle.std.proofs.lemmas.Bool.Decides.{Decides-like, Decides-and, Decides-or, Decides-eqb}
use Rattle.std.proofs.lemmas.List.Sums.{sum_by-cons}
use Rattle.std.proofs.lemmas.Bool.{or_cases, false_from_ne_true}
use Rattle.wl_wire.specs.declared.kind.Kind.{Kind}
use Rattle.wl_wire.specs.declared.kind.Kind.TheVariants as kinds
use Rattle.wl_wire.specs.declared.kind.Iface.{Iface}
use Rattle.wl_text.specs.declared.written.BareKind.{BareKind}
use Rattle.wl_text.specs.declared.written.BareKind.TheVariants as bare
use Rattle.wl_text.specs.Text.{WrittenKind}
use Rattle.wl_sigs.specs.Side.TheVariants.{Request, Event}
use Rattle.wl_sigs.specs.Tables.{Interface, interface_at, server_objects, has_destroying_event}
use Rattle.wl_sigs.specs.Valid.{EachMessage, IsFixedPlace, ServerMakesRightly}
use Rattle.wl_sigs.specs.Rules as test
use Rattle.wl_sigs.specs.Rules.{is_fixed_place}
use Rattle.wl_sigs.specs.Joined.{iface_named, with_iface, kind_placed}
use Rattle.wl_sigs.specs.Broken.{is_made_by_server, makes_server_object, is_ended, is_forbidden}
use Rattle.wl_sigs.proofs.TestsDecide.{Decides-le, Decides-empty, Decides-list_all, Decides-both}
use Rattle.wl_sigs.proofs.TestsDecide.{Decides-message}

-- ---- tests of tables

neither : (a b : Bool) → not (a || b) ≡ true → (a ≡ false) × (b ≡ false)
neither true b e = cc e
neither false true e = cc e
neither false false e = (refl, refl)

not_either : (a b : Bool) → a ≡ false → b ≡ false → not (a || b) ≡ true
not_either a b first other = rw (first, other) refl

decides_fixed : (place : ℕ) → Decides (is_fixed_place place) (IsFixedPlace place)
decides_fixed place =
    Decides-or (nat_eq place 0) (nat_eq place 1 || (nat_eq place 2 || nat_eq place 18)) (Decides-eqb place 0)
    (Decides-or (nat_eq place 1) (nat_eq place 2 || nat_eq place 18) (Decides-eqb place 1)
    (Decides-or (nat_eq place 2) (nat_eq place 18) (Decides-eqb place 2) (Decides-eqb place 18)))

not_fixed : (place : ℕ) → is_fixed_place place ≡ false → ¬ IsFixedPlace place
not_fixed place never fixed = let yes = (decides_fixed place).1 fixed in let e : false ≡ true = sym never ∙ yes in cc e

none_fixed : (place : ℕ) → ¬ IsFixedPlace place → is_fixed_place place ≡ false
none_fixed place never = false_from_ne_true (is_fixed_place place) (λ t. never ((decides_fixed place).0 t))

-- the server may make objects of the interface at this place
abbrev IsMakeable : ℕ → Interface → Type 0
IsMakeable place i = (has_destroying_event i ≡ false) × ¬ IsFixedPlace place

-- if the argument is a new object of the server, the server may make objects of its interface
abbrev pub MadeRightly : List Interface → Kind → Type 0
MadeRightly tables k = (iface : Iface) (i : Interface) → k ≡ kinds.NewByServer iface
    → interface_at tables iface.0 ≡ Some i → (has_destroying_event i ≡ false) × ¬ IsFixedPlace iface.0

makeable_from : (place : ℕ) (o : Option Interface) → not (test.is_unmakeable place o) ≡ true → (i : Interface)
    → o ≡ Some i → IsMakeable place i
makeable_from place None h i e = cc e
makeable_from place (Some j) h i e =
    let same : j ≡ i = cc e in
    let parts = neither (is_fixed_place place) (has_destroying_event j) h in
    subst (IsMakeable place) same (parts.1, not_fixed place parts.0)

makeable_to : (place : ℕ) (o : Option Interface) → ((i : Interface) → o ≡ Some i → IsMakeable place i)
    → not (test.is_unmakeable place o) ≡ true
makeable_to place None all = refl
makeable_to place (Some i) all =
    let right = all i refl in
    not_either (is_fixed_place place) (has_destroying_event i) (none_fixed place right.1) right.0

made_from : (tables : List Interface) (iface : Iface)
    → not (test.is_unmakeable iface.0 (interface_at tables iface.0)) ≡ true
    → MadeRightly tables (kinds.NewByServer iface)
made_from tables iface h other i e at =
    let same : iface ≡ other = cc e in
    subst (λ (x : Iface). IsMakeable x.0 i) same (makeable_from iface.0 (interface_at tables iface.0) h i
    (subst (λ (x : Iface). interface_at tables x.0 ≡ Some i) (sym same) at))

decides_made : (tables : List Interface) (k : Kind)
    → Decides (not (test.is_wrongly_made tables k)) (MadeRightly tables k)
decides_made tables kinds.Int = (λ _ iface i e at. cc e, λ _. refl)
decides_made tables kinds.Uint = (λ _ iface i e at. cc e, λ _. refl)
decides_made tables kinds.Fixed = (λ _ iface i e at. cc e, λ _. refl)
decides_made tables (kinds.Str null) = (λ _ iface i e at. cc e, λ _. refl)
decides_made tables (kinds.Obj null named) = (λ _ iface i e at. cc e, λ _. refl)
decides_made tables (kinds.New named) = (λ _ iface i e at. cc e, λ _. refl)
decides_made tables (kinds.NewByServer iface) =
    (made_from tables iface, λ all. makeable_to iface.0 (interface_at tables iface.0) (λ i at. all iface i refl at))
decides_made tables kinds.Array = (λ _ iface i e at. cc e, λ _. refl)
decides_made tables kinds.Fd = (λ _ iface i e at. cc e, λ _. refl)

pub decides_server : (tables : List Interface)
    → Decides (test.server_makes_rightly tables) (ServerMakesRightly tables)
decides_server tables =
    let requests = test.each_message (λ m. test.is_empty (server_objects m.kinds)) tables Request in
    let events = test.each_message (λ m. nat_le (length (server_objects m.kinds)) 1) tables Event in
    let interfaces = test.both_sides (test.each_message
    (λ m. list_all (λ k. not (test.is_wrongly_made tables k)) m.kinds) tables) in
    Decides-like (test.server_makes_rightly tables)
    (λ h. record { requests = h.0.0; events = h.0.1; interfaces = h.1 })
    (λ s. ((s.requests, s.events), s.interfaces))
    (Decides-and (requests && events) interfaces
    (Decides-and requests events
    (Decides-message (λ m. test.is_empty (server_objects m.kinds)) (λ m. server_objects m.kinds ≡ [])
    (λ m. Decides-empty (server_objects m.kinds)) tables Request)
    (Decides-message (λ m. nat_le (length (server_objects m.kinds)) 1) (λ m. length (server_objects m.kinds) ≤ 1)
    (λ m. Decides-le (length (server_objects m.kinds)) 1) tables Event))
    (Decides-both (test.each_message (λ m. list_all (λ k. not (test.is_wrongly_made tables k)) m.kinds) tables)
    (λ side. EachMessage tables side (λ m. All (MadeRightly tables) m.kinds))
    (Decides-message (λ m. list_all (λ k. not (test.is_wrongly_made tables k)) m.kinds)
    (λ m. All (MadeRightly tables) m.kinds)
    (λ m. Decides-list_all (λ k. not (test.is_wrongly_made tables k)) (MadeRightly tables) (decides_made tables)
    m.kinds) tables)))

-- ---- kinds of a text

-- the number of new objects of the server stays the same
counted : (place : List ℕ → Option ℕ) (past : ℕ) (kind : BareKind) (iface : Option (List ℕ)) (more : List Kind) (n : ℕ)
    → length (server_objects more) ≡ n
    → length (server_objects (with_iface past kind (option_map (iface_named place past) iface) ∷ more))
    ≡ cond (is_made_by_server kind) 1 0 + n
counted place past bare.Int iface more n e = omega arith
counted place past bare.Uint iface more n e = omega arith
counted place past bare.Fixed iface more n e = omega arith
counted place past (bare.Str null) iface more n e = omega arith
counted place past (bare.Obj null) iface more n e = omega arith
counted place past bare.New iface more n e = omega arith
counted place past bare.NewByServer iface more n e = omega arith
counted place past bare.Array iface more n e = omega arith
counted place past bare.Fd iface more n e = omega arith

pub count_by_server : (place : List ℕ → Option ℕ) (past : ℕ) (ks : List WrittenKind)
    → length (server_objects (map (kind_placed place past) ks)) ≡ count_by makes_server_object ks
count_by_server place past [] = refl
count_by_server place past (k ∷ ks) =
    rw (sum_by-cons (λ (x : WrittenKind). cond (makes_server_object x) 1 0) k ks)
    (counted place past k.kind k.iface (map (kind_placed place past) ks) (count_by makes_server_object ks)
    (count_by_server place past ks))

abbrev as_iface : ℕ → Iface
as_iface place = record { 0 = place }

-- the interface is not marked as having a destroying event
unmarked : (o : Option Bool) (b : Bool) → o ≡ Some b → option_map_or (λ x. x) o false ≡ false → b ≡ false
unmarked o b is e = let same : option_map_or (λ (x : Bool). x) (Some b) false ≡ false =
    subst (λ (m : Option Bool). option_map_or (λ (x : Bool). x) m false ≡ false) is e in same

-- if a written kind passes the test, the server may make the new object that it becomes
pub made_rightly : (tables : List Interface) (place : List ℕ → Option ℕ) (past : ℕ) (ended : List Bool)
    → ((p : ℕ) (i : Interface) → interface_at tables p ≡ Some i → slice_get ended p ≡ Some (has_destroying_event i))
    → interface_at tables past ≡ None → (kind : BareKind) (iface : Option (List ℕ))
    → not (is_made_by_server kind && option_map_or (λ name. is_forbidden ended (place name)) iface false) ≡ true
    → MadeRightly tables (with_iface past kind (option_map (iface_named place past) iface))
made_rightly tables place past ended ends none bare.Int iface t f i e at = cc e
made_rightly tables place past ended ends none bare.Uint iface t f i e at = cc e
made_rightly tables place past ended ends none bare.Fixed iface t f i e at = cc e
made_rightly tables place past ended ends none (bare.Str n) iface t f i e at = cc e
made_rightly tables place past ended ends none (bare.Obj n) iface t f i e at = cc e
made_rightly tables place past ended ends none bare.New iface t f i e at = cc e
made_rightly tables place past ended ends none bare.NewByServer None t f i e at =
    let same : as_iface past ≡ f = cc e in
    let here : interface_at tables past ≡ Some i =
    subst (λ (y : Iface). interface_at tables y.0 ≡ Some i) (sym same) at in
    let no : None ≡ Some i = sym none ∙ here in
    cc no
made_rightly tables place past ended ends none bare.NewByServer (Some name) t f i e at =
    let same : as_iface (unwrap_or (place name) past) ≡ f = cc e in
    subst (λ (y : Iface). IsMakeable y.0 i) same
    (by_place (place name) t (subst (λ (y : Iface). interface_at tables y.0 ≡ Some i) (sym same) at))
  where
    by_place : (o : Option ℕ) → not (is_forbidden ended o) ≡ true → interface_at tables (unwrap_or o past) ≡ Some i
        → IsMakeable (unwrap_or o past) i
    by_place None t at = let no : None ≡ Some i = sym none ∙ at in cc no
    by_place (Some p) t at =
        let parts = neither (is_fixed_place p) (is_ended ended (Some p)) t in
        (unmarked (slice_get ended p) (has_destroying_event i) (ends p i at) parts.1, not_fixed p parts.0)
made_rightly tables place past ended ends none bare.Array iface t f i e at = cc e
made_rightly tables place past ended ends none bare.Fd iface t f i e at = cc e

-- each mark says whether the interface at its place has a destroying event
abbrev IsMarked : List Interface → List Bool → Type 0
IsMarked tables ended = (p : ℕ) (b : Bool) → slice_get ended p ≡ Some b
    → (i : Interface) × (interface_at tables p ≡ Some i) × (has_destroying_event i ≡ b)

-- each name that has a place has an interface there
abbrev IsThere : List Interface → (List ℕ → Option ℕ) → Type 0
IsThere tables place = (name : List ℕ) (p : ℕ) → place name ≡ Some p → (i : Interface) × (interface_at tables p ≡ Some i)

-- if the server may make the new object that a written kind becomes, the kind passes the test
pub was_made_rightly : (tables : List Interface) (place : List ℕ → Option ℕ) (past : ℕ) (ended : List Bool)
    → IsMarked tables ended → IsThere tables place → (kind : BareKind) (iface : Option (List ℕ))
    → MadeRightly tables (with_iface past kind (option_map (iface_named place past) iface))
    → not (is_made_by_server kind && option_map_or (λ name. is_forbidden ended (place name)) iface false) ≡ true
was_made_rightly tables place past ended ends there bare.Int iface free = refl
was_made_rightly tables place past ended ends there bare.Uint iface free = refl
was_made_rightly tables place past ended ends there bare.Fixed iface free = refl
was_made_rightly tables place past ended ends there (bare.Str n) iface free = refl
was_made_rightly tables place past ended ends there (bare.Obj n) iface free = refl
was_made_rightly tables place past ended ends there bare.New iface free = refl
was_made_rightly tables place past ended ends there bare.NewByServer None free = refl
was_made_rightly tables place past ended ends there bare.NewByServer (Some name) free = by_place (place name) refl
  where
    mark : (p : ℕ) → place name ≡ Some p → (o : Option Bool) → slice_get ended p ≡ o
        → option_map_or (λ b. b) o false ≡ false
    mark p named None at = refl
    mark p named (Some b) at =
        let witness = ends p b at in
        let right = free (iface_named place past name) witness.0 refl (rw named witness.1) in
        sym witness.2 ∙ right.0

    by_place : (o : Option ℕ) → place name ≡ o → not (is_forbidden ended o) ≡ true
    by_place None named = refl
    by_place (Some p) named =
        let witness = there name p named in
        let right = free (iface_named place past name) witness.0 refl (rw named witness.1) in
        let place_is : unwrap_or (place name) past ≡ p = rw named refl in
        let never : ¬ IsFixedPlace p = subst (λ (q : ℕ). ¬ IsFixedPlace q) place_is right.1 in
        not_either (is_fixed_place p) (is_ended ended (Some p)) (none_fixed p never)
        (mark p named (slice_get ended p) refl)
was_made_rightly tables place past ended ends there bare.Array iface free = refl
was_made_rightly tables place past ended ends there bare.Fd iface free = refl

-- a new object of the server, of an interface whose objects it must not make
pub record IsWronglyMade (tables : List Interface) (kind : Kind) : Type 0 where
  pub iface : Iface
  pub interface : Interface
  pub is : kind ≡ kinds.NewByServer iface
  pub at : interface_at tables iface.0 ≡ Some interface
  pub wrong : IsFixedPlace iface.0 ⊎ (has_destroying_event interface ≡ true)

pub wrongly_made : (tables : List Interface) (place : List ℕ → Option ℕ) (past : ℕ) (ended : List Bool)
    → IsMarked tables ended → IsThere tables place → (kind : BareKind) (iface : Option (List ℕ))
    → is_made_by_server kind && option_map_or (λ name. is_forbidden ended (place name)) iface false ≡ true
    → IsWronglyMade tables (with_iface past kind (option_map (iface_named place past) iface))
wrongly_made tables place past ended ends there bare.Int iface t = cc t
wrongly_made tables place past ended ends there bare.Uint iface t = cc t
wrongly_made tables place past ended ends there bare.Fixed iface t = cc t
wrongly_made tables place past ended ends there (bare.Str n) iface t = cc t
wrongly_made tables place past ended ends there (bare.Obj n) iface t = cc t
wrongly_made tables place past ended ends there bare.New iface t = cc t
wrongly_made tables place past ended ends there bare.NewByServer None t = cc t
wrongly_made tables place past ended ends there bare.NewByServer (Some name) t = by_place (place name) refl t
  where
    by_mark : (p : ℕ) → place name ≡ Some p → (o : Option Bool) → slice_get ended p ≡ o
        → option_map_or (λ b. b) o false ≡ true
        → IsWronglyMade tables (kinds.NewByServer (iface_named place past name))
    by_mark p named None at t = cc t
    by_mark p named (Some b) at t =
        let witness = ends p b at in
        record {
          iface = iface_named place past name;
          interface = witness.0;
          is = refl;
          at = rw named witness.1;
          wrong = inr (witness.2 ∙ t);
        }

    by_place : (o : Option ℕ) → place name ≡ o → is_forbidden ended o ≡ true
        → IsWronglyMade tables (kinds.NewByServer (iface_named place past name))
    by_place None named t = cc t
    by_place (Some p) named t = elim (or_cases (is_fixed_place p) (is_ended ended (Some p)) t) [
      | inl fixed ↦
          let witness = there name p named in
          let place_is : p ≡ unwrap_or (place name) past = rw named refl in
          record {
            iface = iface_named place past name;
            interface = witness.0;
            is = refl;
            at = rw named witness.1;
            wrong = inl (subst IsFixedPlace place_is ((decides_fixed p).0 fixed));
          }
      | inr ends_it ↦ by_mark p named (slice_get ended p) refl ends_it
    ]
wrongly_made tables place past ended ends there bare.Array iface t = cc t
wrongly_made tables place past ended ends there bare.Fd iface t = cc t
