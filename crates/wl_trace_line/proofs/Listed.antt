-- Texts printed in a list, with a comma and a space between them.
use Rattle.std.proofs.Common.{◌≡◌, ℕ, zero, suc, List, [], ◌∷◌, ◌++◌, ◌+◌, ◌<◌, ◌≤◌, length, get_or}
use Rattle.std.proofs.Common.{drop, codes, refl, ap, ◌∙◌, sym, append_assoc, append-nil, add-one, drop-cons}
use Rattle.std.proofs.Common.{arith, cond, true, false, Option}
use Rattle.std.proofs.lemmas.List.{drop_all}
use Rattle.std.specs.List.{flat_map}
use Rattle.wl_wire.specs.declared.kind.Kind.{Kind}
use Rattle.wl_wire.specs.Argument.{Argument}
use Rattle.wl_sigs.specs.Tables.{Interface, named_interface}
use Rattle.wl_object_map.specs.declared.object.Entry.{Entry}
use Rattle.wl_objects.specs.Reading.{Reported, is_descriptor}
use Rattle.wl_trace_line.specs.Text.{comma_separated}
use Rattle.wl_trace_line.specs.Argument.{argument_text, placed_text}
use Rattle.wl_trace_line.specs.Line.{told_interface, taken_with, trace_texts}
use Rattle.wl_trace_line.specs.Report.{wire_argument, descriptor_number, report_texts}

-- what is printed for texts that come after n others
abbrev pub listed_behind : ℕ → List (List ℕ) → List ℕ
listed_behind zero texts = comma_separated texts
listed_behind (suc n) texts = flat_map (λ text. codes ", " ++ text) texts

placed : (n : ℕ) (text : List ℕ) (more : List (List ℕ))
    → placed_text n text ++ listed_behind (suc n) more ≡ listed_behind n (text ∷ more)
placed zero text more = refl
placed (suc n) text more = refl

nothing_behind : (n : ℕ) → listed_behind n [] ≡ []
nothing_behind zero = refl
nothing_behind (suc n) = refl

-- Some texts were printed between two states; these are the remaining ones.
abbrev pub Printed : {S : Type 0} → (S → List ℕ → S → Type 0) → S → S → ℕ → List (List ℕ) → List ℕ
    → Type 0
Printed takes s t n texts whole =
    (done : List ℕ) × takes s done t × (done ++ listed_behind n texts ≡ whole)

module _ {S : Type 0} (takes : S → List ℕ → S → Type 0) (s t : S) (n : ℕ) (texts : List (List ℕ)) (whole : List ℕ)
    (printed : Printed takes s t n texts whole) where
  -- no text remains
  pub printed_all : texts ≡ [] → takes s whole t
  printed_all e =
      let all : whole ≡ printed.0 = sym printed.2 ∙ rw (e, nothing_behind n) (append-nil printed.0) in
      rw all printed.1

  -- one more text is printed
  pub printed_more : ((s t u : S) (a b : List ℕ) → takes s a t → takes t b u → takes s (a ++ b) u) → (u : S)
      (text : List ℕ) (more : List (List ℕ)) → texts ≡ text ∷ more → takes t (placed_text n text) u
      → Printed takes s u (n + 1) more whole
  printed_more then u text more e took = (
    printed.0 ++ placed_text n text,
    then s t u printed.0 (placed_text n text) printed.1 took,
    rw add-one (append_assoc printed.0 (placed_text n text) (listed_behind (suc n) more)
        ∙ ap (λ x. printed.0 ++ x) (placed n text more) ∙ rw e at printed.2),
  )

module _ (tables : List Interface) (n : ℕ) (ks : List Kind) (k : Kind) where
  module _ (held : ℕ → Option Entry) (taken : ℕ) (left : List Argument) where
    pub trace_step : (after : ℕ) (v : Argument) (more : List Argument) → n < length ks → left ≡ v ∷ more
        → after ≡ taken_with taken v → trace_texts tables held taken (drop n ks) left
        ≡ argument_text tables (told_interface held (get_or ks n k) v) (taken + 1) v
        ∷ trace_texts tables held after (drop (n + 1) ks) more
    trace_step after v more p e a = rw (add-one n, drop-cons ks n k p, e, a) refl

    pub trace_without_kinds : length ks ≤ n → trace_texts tables held taken (drop n ks) left ≡ []
    trace_without_kinds p = rw (drop_all n ks p) refl

    pub trace_without_values : n < length ks → left ≡ [] → trace_texts tables held taken (drop n ks) left ≡ []
    trace_without_values p e = rw (drop-cons ks n k p, e) refl

  module _ (left : List Reported) where
    pub report_step : (v : Reported) (more : List Reported) → n < length ks → left ≡ v ∷ more
        → report_texts tables (drop n ks) left
        ≡ argument_text tables (named_interface (get_or ks n k)) (descriptor_number v) (wire_argument v)
        ∷ report_texts tables (drop (n + 1) ks) more
    report_step v more p e = rw (add-one n, drop-cons ks n k p, e) refl

    pub report_without_kinds : length ks ≤ n → report_texts tables (drop n ks) left ≡ []
    report_without_kinds p = rw (drop_all n ks p) refl

    pub report_without_values : n < length ks → left ≡ [] → report_texts tables (drop n ks) left ≡ []
    report_without_values p e = rw (drop-cons ks n k p, e) refl

-- an argument takes at most one token
pub taken_after-le : (taken : ℕ) (value : Argument) → taken_with taken value ≤ taken + 1
taken_after-le taken value = elim (is_descriptor value) as
    (λ b. cond b (taken + 1) taken ≤ taken + 1) [ true ↦ omega arith | false ↦ omega arith ]

-- the first text is printed without a comma
pub placed_first : (n : ℕ) (text : List ℕ) → n ≡ 0 → placed_text n text ≡ text
placed_first zero text e = refl
placed_first (suc n) text e = absurd (omega (arith, e))

pub placed_behind : (n : ℕ) (text : List ℕ) → 0 < n → placed_text n text ≡ codes ", " ++ text
placed_behind zero text p = absurd (omega (arith, p))
placed_behind (suc n) text p = refl
