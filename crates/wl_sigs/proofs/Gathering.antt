-- How lines of a text change what the lines before them say.
use Rattle.std.proofs.Common.{◌≡◌, ℕ, zero, suc, ◌≤◌, ◌⊎◌, inl, inr, true, false, cond, List, []}
use Rattle.std.proofs.Common.{◌∷◌, ◌++◌, length, map, refl, sym, ap, ◌∙◌, Some, None}
use Rattle.std.proofs.Common.{Bool, slice_get, nat_lt, bytes_eq, append-nil, append_assoc, arith}
use Rattle.std.specs.Prelude.{option_map, is_some}
use Rattle.std.specs.List.{All}
use Rattle.std.proofs.lemmas.Bool.{ltb-true}
use Rattle.std.proofs.lemmas.List.{length-map}
use Rattle.std.proofs.lemmas.Option.{slice_get-map}
use Rattle.std.proofs.lemmas.Slice.Eq.{bytes_eq-Decides}
use Rattle.wl_sigs.specs.Tables.{Interface}
use Rattle.wl_text.specs.Text.{WrittenInterface}
use Rattle.wl_sigs.specs.Broken.{broken_at, earlier}
use Rattle.wl_sigs.specs.Extended.{Gathered, unsaid, greater, with_extension, extend_first, first_named}
use Rattle.wl_sigs.specs.Extended.{one_more, gathered_from, gathered}
use Rattle.wl_sigs.specs.Extending.{is_fixed_name, version_rule, extend_rule, extensions_broken}
use Rattle.wl_rules.proofs.FirstBrokenLine.{earlier_none}

greater_is : (a b : ℕ) → a ≤ greater a b
greater_is a b = by_test (nat_lt a b) refl
  where
    by_test : (t : Bool) → nat_lt a b ≡ t → a ≤ cond t b a
    by_test true lt = let less = ltb-true a b lt in omega (arith, less)
    by_test false ge = omega arith

-- an element is left as it is, or extended
abbrev KeptOr : WrittenInterface → List WrittenInterface → ℕ → WrittenInterface → Type 0
KeptOr more xs p w =
    (slice_get xs p ≡ Some w) ⊎ ((slice_get xs p ≡ Some (with_extension w more)) × (w.name ≡ more.name))

extended_at : (more : WrittenInterface) (xs : List WrittenInterface) (p : ℕ) (w : WrittenInterface)
    → slice_get xs p ≡ Some w → KeptOr more (extend_first more xs) p w
extended_at more [] p w at = cc at
extended_at more (x ∷ xs) p w at = by_test (bytes_eq x.name more.name) refl p at
    (λ k at. extended_at more xs k w at)
  where
    by_test : (t : Bool) → bytes_eq x.name more.name ≡ t → (p : ℕ) → slice_get (x ∷ xs) p ≡ Some w
        → ((k : ℕ) → slice_get xs k ≡ Some w → KeptOr more (extend_first more xs) k w)
        → KeptOr more (cond t (with_extension x more ∷ xs) (x ∷ extend_first more xs)) p w
    by_test true named zero at rest =
        let same : x ≡ w = cc at in
        inr (
          ap (λ (v : WrittenInterface). Some (with_extension v more)) same,
          sym (ap (λ (v : WrittenInterface). v.name) same) ∙ (bytes_eq-Decides x.name more.name).0 named,
        )
    by_test true named (suc p) at rest = inl at
    by_test false named zero at rest = inl at
    by_test false named (suc p) at rest = rest p at

length_extended : (more : WrittenInterface) (xs : List WrittenInterface)
    → length (extend_first more xs) ≡ length xs
length_extended more [] = refl
length_extended more (x ∷ xs) = by_test (bytes_eq x.name more.name) (length_extended more xs)
  where
    by_test : (t : Bool) → length (extend_first more xs) ≡ length xs
        → length (cond t (with_extension x more ∷ xs) (x ∷ extend_first more xs)) ≡ suc (length xs)
    by_test true rest = refl
    by_test false rest = ap suc rest

-- one more declaration or extension
added_kept : (g : Gathered) (next : WrittenInterface) (p : ℕ) (w : WrittenInterface) → slice_get g.added p ≡ Some w
    → (slice_get (one_more g next).added p ≡ Some w)
    ⊎ ((slice_get (one_more g next).added p ≡ Some (with_extension w next)) × (w.name ≡ next.name) × (next.extends ≡ true))
added_kept g next p w at = by_tests next.extends (is_some (first_named next.name g.added)) refl
  where
    by_tests : (e t : Bool) → next.extends ≡ e
        → (slice_get (cond e (cond t (record g { added = extend_first next g.added })
        (record g { declared = extend_first next g.declared })) (record g { declared = g.declared ++ next ∷ [] })).added
        p ≡ Some w)
        ⊎ ((slice_get (cond e (cond t (record g { added = extend_first next g.added })
        (record g { declared = extend_first next g.declared })) (record g { declared = g.declared ++ next ∷ [] })).added
        p ≡ Some (with_extension w next)) × (w.name ≡ next.name) × (next.extends ≡ true))
    by_tests true true is = elim (extended_at next g.added p w at) [
      | inl same ↦ inl same
      | inr more ↦ inr (more.0, more.1, is)
    ]
    by_tests true false is = inl at
    by_tests false t is = inl at

length_one_more : (g : Gathered) (next : WrittenInterface) → length (one_more g next).added ≡ length g.added
length_one_more g next = by_tests next.extends (is_some (first_named next.name g.added))
  where
    by_tests : (e t : Bool)
        → length (cond e (cond t (record g { added = extend_first next g.added })
        (record g { declared = extend_first next g.declared })) (record g { declared = g.declared ++ next ∷ [] })).added
        ≡ length g.added
    by_tests true true = length_extended next g.added
    by_tests true false = refl
    by_tests false t = refl

length_from : (g : Gathered) (written : List WrittenInterface)
    → length (gathered_from g written).added ≡ length g.added
length_from g [] = refl
length_from g (next ∷ written) = length_from (one_more g next) written ∙ length_one_more g next

pub length_gathered : (tables : List Interface) (written : List WrittenInterface)
    → length (gathered tables written).added ≡ length tables
length_gathered tables written = length_from (gathered tables []) written ∙ length-map tables unsaid

-- what a text says about an interface, before and after further lines
pub record Later (before after : WrittenInterface) : Type 0 where
  pub name : after.name ≡ before.name
  pub version : before.version ≤ after.version

later_from : (g : Gathered) (written : List WrittenInterface) (p : ℕ) (w : WrittenInterface)
    → slice_get g.added p ≡ Some w
    → (more : WrittenInterface) × (slice_get (gathered_from g written).added p ≡ Some more) × Later w more
later_from g [] p w at = (w, at, record { name = refl; version = omega arith })
later_from g (next ∷ written) p w at = elim (added_kept g next p w at) [
  | inl same ↦ later_from (one_more g next) written p w same
  | inr more ↦
      let witness = later_from (one_more g next) written p (with_extension w next) more.0 in
      let up = greater_is w.version next.version in
      let on = witness.2.version in
      (witness.0, witness.1, record { name = witness.2.name; version = omega (arith, up, on) })
]

-- what a text says about an interface of the tables
pub said_of : (tables : List Interface) (written : List WrittenInterface) (p : ℕ) (i : Interface)
    → slice_get tables p ≡ Some i
    → (more : WrittenInterface) × (slice_get (gathered tables written).added p ≡ Some more) × Later (unsaid i) more
said_of tables written p i at = later_from (gathered tables []) written p (unsaid i)
    (slice_get-map unsaid tables p ∙ ap (option_map unsaid) at)

-- an extension that breaks no rule is not for one of the four fixed interfaces
not_fixed : (g : Gathered) (next : WrittenInterface) → next.extends ≡ true
    → cond next.extends (broken_at next.line (extend_rule g next)) None ≡ None → is_fixed_name next.name ≡ false
not_fixed g next extends none = by_extends next.extends extends none
  where
    by_name : (t : Bool) → is_fixed_name next.name ≡ t
        → broken_at next.line (cond t (Some 2) (version_rule next.version
        (first_named next.name (g.added ++ g.declared)))) ≡ None → is_fixed_name next.name ≡ false
    by_name true is e = cc e
    by_name false is e = is

    by_extends : (t : Bool) → t ≡ true → cond t (broken_at next.line (extend_rule g next)) None ≡ None
        → is_fixed_name next.name ≡ false
    by_extends true is e = by_name (is_fixed_name next.name) refl e
    by_extends false is e = cc is

fixed_from : (g : Gathered) (written : List WrittenInterface) → extensions_broken g written ≡ None → (p : ℕ)
    (w : WrittenInterface) → is_fixed_name w.name ≡ true → slice_get g.added p ≡ Some w
    → slice_get (gathered_from g written).added p ≡ Some w
fixed_from g [] none p w fixed at = at
fixed_from g (next ∷ written) none p w fixed at =
    let both = earlier_none _ _ none in
    elim (added_kept g next p w at) [
      | inl same ↦ fixed_from (one_more g next) written both.1 p w fixed same
      | inr more ↦
          let free = not_fixed g next more.2 both.0 in
          let no : true ≡ false = sym fixed ∙ ap is_fixed_name more.1 ∙ free in
          cc no
    ]

pub fixed_unsaid : (tables : List Interface) (written : List WrittenInterface)
    → extensions_broken (gathered tables []) written ≡ None → (p : ℕ) (i : Interface)
    → is_fixed_name i.name ≡ true → slice_get tables p ≡ Some i
    → slice_get (gathered tables written).added p ≡ Some (unsaid i)
fixed_unsaid tables written none p i fixed at =
    fixed_from (gathered tables []) written none p (unsaid i) fixed
    (slice_get-map unsaid tables p ∙ ap (option_map unsaid) at)

-- a text that extends no interface
abbrev NoneExtend : List WrittenInterface → Type 0
NoneExtend written = All (λ (i : WrittenInterface). i.extends ≡ false) written

behind_head : (next : WrittenInterface) (written : List WrittenInterface) → NoneExtend (next ∷ written)
    → NoneExtend written
behind_head next written none = λ k d lt. none (suc k) d (omega (arith, lt))

head_declares : (next : WrittenInterface) (written : List WrittenInterface) → NoneExtend (next ∷ written)
    → next.extends ≡ false
head_declares next written none = none 0 next (omega arith)

declares_more : (g : Gathered) (next : WrittenInterface) → next.extends ≡ false
    → one_more g next ≡ record g { declared = g.declared ++ next ∷ [] }
declares_more g next none = rw none refl

declares_from : (g : Gathered) (written : List WrittenInterface) → NoneExtend written
    → gathered_from g written ≡ record g { declared = g.declared ++ written }
declares_from g [] none =
    ap (λ (d : List WrittenInterface). let x : Gathered = record { added = g.added; declared = d } in x)
    (sym (append-nil g.declared))
declares_from g (next ∷ written) none =
    ap (λ (x : Gathered). gathered_from x written) (declares_more g next (head_declares next written none))
    ∙ declares_from (record g { declared = g.declared ++ next ∷ [] }) written (behind_head next written none)
    ∙ ap (λ (d : List WrittenInterface). let x : Gathered = record { added = g.added; declared = d } in x)
    (append_assoc g.declared (next ∷ []) written)

pub declares_alone : (tables : List Interface) (written : List WrittenInterface) → NoneExtend written
    → gathered tables written ≡ record { added = map unsaid tables; declared = written }
declares_alone tables written none = declares_from (gathered tables []) written none

pub none_broken_alone : (g : Gathered) (written : List WrittenInterface) → NoneExtend written
    → extensions_broken g written ≡ None
none_broken_alone g [] none = refl
none_broken_alone g (next ∷ written) none =
    let rest = extensions_broken (one_more g next) written in
    ap (λ (t : Bool). earlier (cond t (broken_at next.line (extend_rule g next)) None) rest)
    (head_declares next written none)
    ∙ ap (λ (x : Gathered). extensions_broken x written) (declares_more g next (head_declares next written none))
    ∙ none_broken_alone (record g { declared = g.declared ++ next ∷ [] }) written (behind_head next written none)
