-- The first line of an extension that breaks a rule by itself.
use Rattle.std.proofs.Common.{◌≡◌, ℕ, inl, inr, true, false, cond, List, [], ◌∷◌, ◌++◌, refl, sym, ap, ◌∙◌, subst, Some}
use Rattle.std.proofs.Common.{None, Option, Bool, nat_lt, bytes_eq, ◌||◌, codes, arith}
use Rattle.std.proofs.lemmas.Bool.{ltb-true, ltb-false, or_cases, or_left, or_right}
use Rattle.std.proofs.lemmas.Slice.Eq.{bytes_eq-Decides}
use Rattle.wl_text.specs.Text.{WrittenInterface}
use Rattle.wl_sigs.specs.Broken.{broken_at}
use Rattle.wl_sigs.specs.Extended.{Gathered, first_named, one_more, gathered_from}
use Rattle.wl_sigs.specs.Extending.{is_fixed_name, version_rule, extend_rule, extensions_broken}
use Rattle.wl_sigs.specs.FirstLineBroken.{IsFixedName, names_display, names_registry}
use Rattle.wl_sigs.specs.FirstLineBroken.{names_callback, names_fixes, ExtensionBreaks}
use Rattle.wl_sigs.specs.FirstLineBroken.{extends_fixed, lowers_version, extends_unknown}
use Rattle.wl_sigs.proofs.FirstLine.{IsLeast, like, Either, of_either, one_line, later_not_before}
use Rattle.wl_sigs.proofs.LeastRule.{IsLeastRule, some_rule}

pub fixed_name : (name : List ℕ) → is_fixed_name name ≡ true → IsFixedName name
fixed_name name is = elim (or_cases ((display || registry) || callback) fixes is) [
  | inl three ↦ elim (or_cases (display || registry) callback three) [
    | inl two ↦ elim (or_cases display registry two) [
      | inl one ↦ names_display ((bytes_eq-Decides name (codes "wl_display")).0 one)
      | inr one ↦ names_registry ((bytes_eq-Decides name (codes "wl_registry")).0 one)
    ]
    | inr one ↦ names_callback ((bytes_eq-Decides name (codes "wl_callback")).0 one)
  ]
  | inr one ↦ names_fixes ((bytes_eq-Decides name (codes "wl_fixes")).0 one)
]
  where
    display : Bool
    display = bytes_eq name (codes "wl_display")

    registry : Bool
    registry = bytes_eq name (codes "wl_registry")

    callback : Bool
    callback = bytes_eq name (codes "wl_callback")

    fixes : Bool
    fixes = bytes_eq name (codes "wl_fixes")

pub was_fixed : (name : List ℕ) → IsFixedName name → is_fixed_name name ≡ true
was_fixed name (names_display is) = rw ((bytes_eq-Decides name (codes "wl_display")).1 is) refl
was_fixed name (names_registry is) =
    or_left _ (bytes_eq name (codes "wl_fixes")) (or_left _ (bytes_eq name (codes "wl_callback"))
    (or_right (bytes_eq name (codes "wl_display")) _ ((bytes_eq-Decides name (codes "wl_registry")).1 is)))
was_fixed name (names_callback is) =
    or_left _ (bytes_eq name (codes "wl_fixes"))
    (or_right (bytes_eq name (codes "wl_display") || bytes_eq name (codes "wl_registry")) _
    ((bytes_eq-Decides name (codes "wl_callback")).1 is))
was_fixed name (names_fixes is) =
    or_right (bytes_eq name (codes "wl_display") || bytes_eq name (codes "wl_registry")
    || bytes_eq name (codes "wl_callback")) _ ((bytes_eq-Decides name (codes "wl_fixes")).1 is)

extension_least : (g : Gathered) (own : WrittenInterface)
    → IsLeastRule (ExtensionBreaks g own) (extend_rule g own)
extension_least g own = by_name_test (is_fixed_name own.name) refl
  where
    there : Option WrittenInterface
    there = first_named own.name (g.added ++ g.declared)

    not_fixed : is_fixed_name own.name ≡ false → IsFixedName own.name → ⊥
    not_fixed is fixed = let no : false ≡ true = sym is ∙ was_fixed own.name fixed in cc no

    by_version : (i : WrittenInterface) → is_fixed_name own.name ≡ false → there ≡ Some i
        → (t : Bool) → nat_lt own.version i.version ≡ t
        → IsLeastRule (ExtensionBreaks g own) (cond t (Some 8) None)
    by_version i fixed is true lt = record {
      found = λ rule e. lowers_version i (let eight : 8 ≡ rule = cc e in sym eight) is
          (ltb-true own.version i.version lt);
      least = λ rule e other breaks. let eight : 8 ≡ rule = cc e in elim breaks [
        | extends_fixed is_two names ↦ absurd (not_fixed fixed names)
        | lowers_version j is_eight at less ↦ omega (arith, eight, is_eight)
        | extends_unknown is_nine at ↦ omega (arith, eight, is_nine)
      ];
      none = λ e rule breaks. cc e;
    }
    by_version i fixed is false ge = record {
      found = λ rule e. cc e;
      least = λ rule e other breaks. cc e;
      none = λ e rule breaks. elim breaks [
        | extends_fixed is_two names ↦ not_fixed fixed names
        | lowers_version j is_eight at less ↦
            let same : Some i ≡ Some j = sym is ∙ at in
            let one : i ≡ j = cc same in
            let le = ltb-false own.version i.version ge in
            absurd (let versions = ap (λ (x : WrittenInterface). x.version) one in omega (arith, le, less, versions))
        | extends_unknown is_nine at ↦ let no : Some i ≡ None = sym is ∙ at in cc no
      ];
    }

    by_there : (o : Option WrittenInterface) → is_fixed_name own.name ≡ false → there ≡ o
        → IsLeastRule (ExtensionBreaks g own) (version_rule own.version o)
    by_there None fixed is = record {
      found = λ rule e. extends_unknown (let nine : 9 ≡ rule = cc e in sym nine) is;
      least = λ rule e other breaks. let nine : 9 ≡ rule = cc e in elim breaks [
        | extends_fixed is_two names ↦ absurd (not_fixed fixed names)
        | lowers_version j is_eight at less ↦ let no : None ≡ Some j = sym is ∙ at in cc no
        | extends_unknown is_nine at ↦ omega (arith, nine, is_nine)
      ];
      none = λ e rule breaks. cc e;
    }
    by_there (Some i) fixed is = by_version i fixed is (nat_lt own.version i.version) refl

    by_name_test : (t : Bool) → is_fixed_name own.name ≡ t
        → IsLeastRule (ExtensionBreaks g own) (cond t (Some 2) (version_rule own.version there))
    by_name_test true fixed = record {
      found = λ rule e. extends_fixed (let two : 2 ≡ rule = cc e in sym two) (fixed_name own.name fixed);
      least = λ rule e other breaks. let two : 2 ≡ rule = cc e in elim breaks [
        | extends_fixed is_two names ↦ omega (arith, two, is_two)
        | lowers_version j is_eight at less ↦ omega (arith, two, is_eight)
        | extends_unknown is_nine at ↦ omega (arith, two, is_nine)
      ];
      none = λ e rule breaks. cc e;
    }
    by_name_test false fixed = by_there there fixed refl

-- an extension among these lines breaks a rule by itself
pub record InExtensions (g : Gathered) (lines : List WrittenInterface) (line rule : ℕ) : Type 0 where
  pub before : List WrittenInterface
  pub own : WrittenInterface
  pub after : List WrittenInterface
  pub whole : lines ≡ before ++ own ∷ after
  pub extends : own.extends ≡ true
  pub line_is : line ≡ own.line
  pub breaks : ExtensionBreaks (gathered_from g before) own rule

-- one line
record Here (g : Gathered) (own : WrittenInterface) (line rule : ℕ) : Type 0 where
  extends : own.extends ≡ true
  line_is : line ≡ own.line
  breaks : ExtensionBreaks g own rule

here_least : (g : Gathered) (own : WrittenInterface) (t : Bool) → own.extends ≡ t
    → IsLeast (Here g own) (cond t (broken_at own.line (extend_rule g own)) None)
here_least g own false is = record {
  found = λ witness e. cc e;
  below = λ witness e line rule some. cc e;
  none = λ e line rule some. let no : false ≡ true = sym is ∙ some.extends in cc no;
}
here_least g own true is =
    let each = extension_least g own in
    let least = one_line own.line (extend_rule g own) in
    record {
      found = λ witness e. let at = least.found witness e
          in record { extends = is; line_is = at.0; breaks = each.found witness.rule at.1 };
      below = λ witness e line rule some.
          let first = some_rule (ExtensionBreaks g own) (extend_rule g own) each rule some.breaks in
          later_not_before witness line first.0 rule (least.below witness e line first.0 (some.line_is, first.1)) first.2;
      none = λ e line rule some.
          let first = some_rule (ExtensionBreaks g own) (extend_rule g own) each rule some.breaks in
          least.none e line first.0 (some.line_is, first.1);
    }

pub extensions_least : (g : Gathered) (lines : List WrittenInterface)
    → IsLeast (InExtensions g lines) (extensions_broken g lines)
extensions_least g [] = record {
  found = λ witness e. cc e;
  below = λ witness e line rule some. cc e;
  none = λ e line rule some. nowhere some.before some.own some.after some.whole;
}
  where
    nowhere : (before : List WrittenInterface) (own : WrittenInterface) (after : List WrittenInterface)
        → [] ≡ before ++ own ∷ after → ⊥
    nowhere [] own after e = cc e
    nowhere (x ∷ before) own after e = cc e
extensions_least g (next ∷ lines) =
    like (Either (Here g next) (InExtensions (one_more g next) lines)) (InExtensions g (next ∷ lines)) to
    (λ line rule some. from line rule some.before some.own some.after some.whole some.extends some.line_is some.breaks)
    _ (of_either _ _ _ _ (here_least g next next.extends refl) (extensions_least (one_more g next) lines))
  where
    to : (line rule : ℕ) → Either (Here g next) (InExtensions (one_more g next) lines) line rule
        → InExtensions g (next ∷ lines) line rule
    to line rule (inl here) = record {
      before = [];
      own = next;
      after = lines;
      whole = refl;
      extends = here.extends;
      line_is = here.line_is;
      breaks = here.breaks;
    }
    to line rule (inr further) = record {
      before = next ∷ further.before;
      own = further.own;
      after = further.after;
      whole = ap (λ (l : List WrittenInterface). next ∷ l) further.whole;
      extends = further.extends;
      line_is = further.line_is;
      breaks = further.breaks;
    }

    from : (line rule : ℕ) (before : List WrittenInterface) (own : WrittenInterface) (after : List WrittenInterface)
        → next ∷ lines ≡ before ++ own ∷ after → own.extends ≡ true → line ≡ own.line
        → ExtensionBreaks (gathered_from g before) own rule
        → Either (Here g next) (InExtensions (one_more g next) lines) line rule
    from line rule [] own after whole extends line_is breaks =
        let same : own ≡ next = cc whole in
        inl (record {
          extends = ap (λ (x : WrittenInterface). x.extends) (sym same) ∙ extends;
          line_is = line_is ∙ ap (λ (x : WrittenInterface). x.line) same;
          breaks = subst (λ (x : WrittenInterface). ExtensionBreaks g x rule) same breaks;
        })
    from line rule (x ∷ before) own after whole extends line_is breaks =
        let same : x ≡ next = cc whole in
        let rest : lines ≡ before ++ own ∷ after = cc whole in
        inr (record {
          before = before;
          own = own;
          after = after;
          whole = rest;
          extends = extends;
          line_is = line_is;
          breaks = subst (λ (y : WrittenInterface). ExtensionBreaks (gathered_from (one_more g y) before) own rule) same
              breaks;
        })
