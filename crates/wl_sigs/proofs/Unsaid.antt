-- Tables to which nothing is added.
use Rattle.std.proofs.Common.{◌≡◌, ℕ, ◌+◌, List, [], ◌∷◌, ◌++◌, length, map, refl, sym, ap, ◌∙◌, None}
use Rattle.std.proofs.Common.{Option, Bool, true, false, not, append-nil}
use Rattle.std.specs.List.{All, list_all}
use Rattle.std.proofs.lemmas.List.Sums.{AllPass-from_list_all}
use Rattle.wl_sigs.specs.Tables.{MessageSignature, Interface}
use Rattle.wl_text.specs.Text.{WrittenInterface}
use Rattle.wl_sigs.specs.Joined.{all_names, first_place, joined}
use Rattle.wl_sigs.specs.Broken.{Broken, earlier, ended_of, first_broken}
use Rattle.wl_sigs.specs.Extended.{Gathered, unsaid, interface_grown, all_grown, gathered, grown, whole_of}
use Rattle.wl_sigs.specs.Extended.{extended}
use Rattle.wl_sigs.specs.Extending.{added_broken, messages_or_declared_broken}
use Rattle.wl_sigs.specs.Extending.{first_line_broken}
use Rattle.wl_sigs.proofs.Gathering.{declares_alone, none_broken_alone}

pub unsaid_grown : (place : List ℕ → Option ℕ) (past : ℕ) (i : Interface) → interface_grown place past i (unsaid i) ≡ i
unsaid_grown place past i =
    ap (λ (ms : List MessageSignature). let x : Interface = record {
      name = i.name;
      version = i.version;
      requests = ms;
      events = i.events ++ [];
    } in x) (append-nil i.requests)
    ∙ ap (λ (ms : List MessageSignature). let x : Interface = record {
      name = i.name;
      version = i.version;
      requests = i.requests;
      events = ms;
    } in x) (append-nil i.events)

all_unsaid : (place : List ℕ → Option ℕ) (past : ℕ) (tables : List Interface)
    → all_grown place past tables (map unsaid tables) ≡ tables
all_unsaid place past [] = refl
all_unsaid place past (i ∷ tables) =
    ap (λ (j : Interface). j ∷ all_grown place past tables (map unsaid tables)) (unsaid_grown place past i)
    ∙ ap (λ (rest : List Interface). i ∷ rest) (all_unsaid place past tables)

none_added : (tables : List Interface) (place : List ℕ → Option ℕ) (ended : List Bool) (here : ℕ)
    (rest : List Interface) → added_broken tables place ended here rest (map unsaid rest) ≡ None
none_added tables place ended here [] = refl
none_added tables place ended here (i ∷ rest) = none_added tables place ended (here + 1) rest

abbrev saying_nothing : List Interface → List WrittenInterface → Gathered
saying_nothing tables written = record { added = map unsaid tables; declared = written }

grown_by_nothing : (tables : List Interface) (written : List WrittenInterface)
    → grown tables (saying_nothing tables written) ≡ tables
grown_by_nothing tables written =
    let names = all_names tables written in all_unsaid (first_place names) (length names) tables

pub extended_alone : (tables : List Interface) (written : List WrittenInterface)
    → All (λ (i : WrittenInterface). i.extends ≡ false) written → extended tables written ≡ joined tables written
extended_alone tables written none =
    ap (whole_of tables) (declares_alone tables written none)
    ∙ ap (λ (front : List Interface). joined front written) (grown_by_nothing tables written)

others_alone : (tables : List Interface) (written : List WrittenInterface)
    → messages_or_declared_broken tables (saying_nothing tables written) ≡ first_broken tables written
others_alone tables written =
    let all = grown tables (saying_nothing tables written) in
    ap (λ (o : Option Broken). earlier o (first_broken all written))
    (none_added tables (first_place (all_names all written)) (ended_of all written) 0 tables)
    ∙ ap (λ (front : List Interface). first_broken front written) (grown_by_nothing tables written)

pub broken_alone : (tables : List Interface) (written : List WrittenInterface)
    → All (λ (i : WrittenInterface). i.extends ≡ false) written
    → first_line_broken tables written ≡ first_broken tables written
broken_alone tables written none =
    ap (λ (o : Option Broken). earlier o (messages_or_declared_broken tables (gathered tables written)))
    (none_broken_alone (gathered tables []) written none)
    ∙ ap (messages_or_declared_broken tables) (declares_alone tables written none)
    ∙ others_alone tables written

-- what a text without extensions says: it adds nothing, and no record of that is needed
abbrev pub declaring : List WrittenInterface → Gathered
declaring written = record { added = []; declared = written }

none_extends : (written : List WrittenInterface) → list_all (λ (i : WrittenInterface). not i.extends) written ≡ true
    → All (λ (i : WrittenInterface). i.extends ≡ false) written
none_extends written none = λ k d lt.
    is_false _ (AllPass-from_list_all (λ (i : WrittenInterface). not i.extends) written none k d lt)
  where
    is_false : (t : Bool) → not t ≡ true → t ≡ false
    is_false true e = cc e
    is_false false e = refl

whole_declaring : (tables : List Interface) (written : List WrittenInterface)
    → whole_of tables (declaring written) ≡ joined tables written
whole_declaring [] written = refl
whole_declaring (i ∷ tables) written = refl

broken_declaring : (tables : List Interface) (written : List WrittenInterface)
    → messages_or_declared_broken tables (declaring written) ≡ first_broken tables written
broken_declaring [] written = refl
broken_declaring (i ∷ tables) written = refl

pub extended_declaring : (tables : List Interface) (written : List WrittenInterface)
    → list_all (λ (i : WrittenInterface). not i.extends) written ≡ true
    → whole_of tables (declaring written) ≡ extended tables written
extended_declaring tables written none =
    whole_declaring tables written ∙ sym (extended_alone tables written (none_extends written none))

pub first_declaring : (tables : List Interface) (written : List WrittenInterface)
    → list_all (λ (i : WrittenInterface). not i.extends) written ≡ true
    → messages_or_declared_broken tables (declaring written) ≡ first_line_broken tables written
first_declaring tables written none =
    broken_declaring tables written ∙ sym (broken_alone tables written (none_extends written none))
