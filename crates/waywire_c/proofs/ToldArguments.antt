-- Writing one more argument of a report.
use Rattle.std.proofs.Common.{◌≡◌, ℕ, ◌+◌, ◌<◌, sym, ap, ◌∙◌, arith, List, [], ◌∷◌, ◌++◌, length, map, take, drop, set}
use Rattle.std.proofs.lemmas.List.{length-drop, drop_more, take_more, take_more_set}
use Rattle.std.proofs.lemmas.Grind.{common_steps}
use Rattle.wl_objects.specs.Reading.{Reported}
use Rattle.waywire_c.specs.declared.values.ReportArg.{ReportArg}
use Rattle.waywire_c.specs.Reports.{arg_told, arg_told_by}

pub is-left : (all : List Reported) (place : ℕ) (got : Reported) (rest : List Reported)
    → drop place all ≡ got ∷ rest → place < length all
is-left all place got rest e = omega (arith, ap length e, length-drop place all)

pub next-left : (all : List Reported) (place : ℕ) (got : Reported) (rest : List Reported)
    → drop place all ≡ got ∷ rest → rest ≡ drop (place + 1) all
next-left all place got rest e =
    let more = drop_more all place got (is-left all place got rest e) in
    grind (arith, common_steps, e, more)

pub next-taken : (all : List Reported) (place : ℕ) (got : Reported) (rest : List Reported)
    → drop place all ≡ got ∷ rest → take (place + 1) all ≡ take place all ++ got ∷ []
next-taken all place got rest e =
    let lt = is-left all place got rest e in
    let more = drop_more all place got lt in
    let taken = take_more all place got lt in
    grind (arith, common_steps, e, more, taken)

-- the arguments that were written so far, and those that are left
abbrev pub Telling : List Reported → List ReportArg → ℕ → List Reported → List ReportArg → Type 0
Telling all before place left slots =
    (length slots ≡ length before)
    × (left ≡ drop place all)
    × (map arg_told_by (take place slots) ≡ map arg_told (take place all))
    × (drop place slots ≡ drop place before)

pub tells-one : (all : List Reported) (before slots after : List ReportArg) (place : ℕ) (got : Reported)
    (left rest : List Reported) (filled : ReportArg)
    → Telling all before place left slots → arg_told_by filled ≡ arg_told got → left ≡ got ∷ rest
    → after ≡ set slots place filled → place < length before
    → Telling all before (place + 1) rest after
tells-one all before slots after place got left rest filled so same is stored room =
    let e : drop place all ≡ got ∷ rest = sym so.1 ∙ is in
    let within : place < length slots = omega (arith, so.0, room) in
    let taken = next-taken all place got rest e in
    let told = take_more_set slots place filled within in
    let dropped : drop (place + 1) slots ≡ drop (place + 1) before = grind (arith, common_steps, so.0, so.3, within)
    in (
      grind (arith, common_steps, stored, so.0),
      next-left all place got rest e,
      grind (arith, common_steps, stored, told, taken, same, so.2),
      grind (arith, common_steps, stored, dropped, within),
    )

pub none-left : (all : List Reported) (left : List Reported) (place : ℕ) → left ≡ drop place all → left ≡ []
    → place < length all → ⊥
none-left all left place so is lt = omega (arith, ap length (sym so ∙ is), length-drop place all, lt)
