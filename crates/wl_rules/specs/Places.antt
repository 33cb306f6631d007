-- Maps from names to indices.
use Rattle.std.specs.Prelude.{◌≡◌, ℕ, ◌<◌, List, Option, Some, unwrap_or}
use Rattle.std.specs.BTreeMap.{BTreeMap, get_by}
use Rattle.std.specs.Cmp.Lexicographic.{slice_cmp}
use Rattle.std.specs.Ordering.{nat_cmp, ordering_then}
use Rattle.std.specs.declared.cmp.Ordering.{Ordering}
use denote.Ref.{Bor}
use Rattle.wl_rules.specs.NameHash.{name_hash}
use Rattle.wl_rules.specs.Tables.{Interface}
use Rattle.wl_rules.specs.declared.places.Places.{Places}
use Rattle.wl_rules.specs.declared.places.Places.TheVariants.{Listed, Mapped}
use Rattle.wl_text.specs.Text.{WrittenInterface}
use Rattle.wl_rules.specs.Joined.{all_names, first_place}

-- how a name compares to a key: first by their hashes, then by the names
abbrev pub name_cmp : List ℕ → ℕ × Bor (List ℕ) → Ordering
name_cmp name key =
    ordering_then (nat_cmp (name_hash name) key.0) (slice_cmp nat_cmp name key.1.now)

-- the index that a map has for a name
abbrev pub mapped_place : BTreeMap (ℕ × Bor (List ℕ)) ℕ → List ℕ → Option ℕ
mapped_place places name = get_by (name_cmp name) places

-- the index of a name
module _ {A : Type 0} where
  abbrev pub place_in : Places A → List ℕ → Option ℕ
  place_in (Listed names) name = first_place names.items name
  place_in (Mapped places) name = mapped_place places name

-- these are the first indices of the names of the tables and of a text
abbrev pub ArePlaces : (List ℕ → Option ℕ) → List Interface → List WrittenInterface → Type 0
ArePlaces place tables written =
    (name : List ℕ) → place name ≡ first_place (all_names tables written) name

-- if indices are kept, they are the first indices of the names
abbrev pub AreFirst : Option (List ℕ → Option ℕ) → List (List ℕ) → Type 0
AreFirst places names =
    (place : List ℕ → Option ℕ) → places ≡ Some place → (name : List ℕ)
    → place name ≡ first_place names name

-- Each name's index fits in 16 bits. A name without an index gets the one past all, which also
-- fits.
abbrev pub PlacesFit : (List ℕ → Option ℕ) → ℕ → Type 0
PlacesFit place past = (past < 65536) × ((name : List ℕ) → unwrap_or (place name) past < 65536)
