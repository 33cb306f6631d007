-- The place of an interface by its name.
use Rattle.std.proofs.Common.{◌≡◌, ◌≢◌, ℕ, zero, suc, ◌+◌, ◌<◌, Bool, true, false, cond, List, []}
use Rattle.std.proofs.Common.{◌∷◌, length, get_or, refl, ap, ◌∙◌, arith}
use Rattle.std.specs.Prelude.{option_map, not, slice_get, bytes_eq}
use Rattle.std.specs.List.{position, position_or_len}
use Rattle.std.specs.declared.option.Option.TheVariants.{Some}
use Rattle.std.proofs.lemmas.Bool.{lt-ltb, false_from_ne_true}
use Rattle.std.proofs.lemmas.Slice.Eq.{bytes_eq-Decides}
use Rattle.std.proofs.lemmas.Option.{slice_get_within}
use Rattle.wl_wire.specs.declared.kind.Iface.{Iface}
use Rattle.wl_sigs.specs.Tables.{Interface, interface_at, place_of}
use Rattle.wl_sigs.specs.Valid.{Valid, IsTableName, IsNameByte}
use Rattle.wl_wire.specs.Spelling.{IsText}

module _ {X : Type 0} (p : X → Bool) where
  step : (b : Bool) (n k : ℕ) → b ≡ false → n ≡ k → cond (not b) (1 + n) 0 ≡ suc k
  step true n k e h = absurd (cc e)
  step false n k e h = omega (arith, h)

  first_at : (xs : List X) (k : ℕ) (x : X) → slice_get xs k ≡ Some x → p x ≡ true
      → ((j : ℕ) (y : X) → slice_get xs j ≡ Some y → p y ≡ true → j ≡ k) → position_or_len p xs ≡ k
  first_at [] k x h e f = absurd (cc h)
  first_at (a ∷ xs) zero x h e f = let q : a ≡ x = cc h in rw (ap p q ∙ e) refl
  first_at (a ∷ xs) (suc k) x h e f =
      let no : p a ≡ false = false_from_ne_true (p a) (λ t. absurd (let z = f 0 a refl t in omega (arith, z))) in
      let r = first_at xs k x h e (λ j y g t. (let z = f (suc j) y g t in omega (arith, z))) in
      step (p a) (position_or_len p xs) k no r

  pub position_at : (xs : List X) (k : ℕ) (x : X) → slice_get xs k ≡ Some x → p x ≡ true
      → ((j : ℕ) (y : X) → slice_get xs j ≡ Some y → p y ≡ true → j ≡ k) → position p xs ≡ Some k
  position_at xs k x h e f =
      let q = first_at xs k x h e f in
      let l : k < length xs = slice_get_within xs k x h in
      rw (q, lt-ltb k (length xs) l) refl

-- texts that the test calls equal are equal
pub bytes_same : (xs ys : List ℕ) → bytes_eq xs ys ≡ true → xs ≡ ys
bytes_same xs ys h = (bytes_eq-Decides xs ys).0 h

-- the test calls a text equal to itself
pub bytes_self : (xs : List ℕ) → bytes_eq xs xs ≡ true
bytes_self xs = (bytes_eq-Decides xs xs).1 refl

-- the place of an interface's name is the interface's place
pub place_there : (tables : List Interface) → Valid tables → (iface : Iface) (i : Interface)
    → interface_at tables iface.0 ≡ Some i → place_of tables i.name ≡ Some iface
place_there tables v iface i h =
    ap (option_map (λ (place : ℕ). record { 0 = place }))
    (position_at (λ (j : Interface). bytes_eq j.name i.name) tables iface.0 i h (bytes_self i.name)
    (λ j y g t. v.names_distinct.interfaces_distinct j iface.0 y i g h (bytes_same y.name i.name t)))

-- ---- names

name_byte : (b : ℕ) → IsNameByte b → b ≢ 0
name_byte b h z = grind (arith, h, z)

-- a name is a text, and not long
pub name_text : (name : List ℕ) → IsTableName name → IsText name
name_text name h = record { no_nul = λ k d l. name_byte (get_or name k d) (h.bytes k d l); len = omega (arith, h.few) }
