-- If a spelling is at the front of bytes, its value is what a reader finds.
use Rattle.std.proofs.Common.{◌≡◌, ℕ, suc, ◌+◌, ◌-◌, ◌^◌, ◌<◌, ◌≤◌, Bool, true, false, List, []}
use Rattle.std.proofs.Common.{◌∷◌, ◌++◌, length, get_or, drop, Some, None, refl, sym, ap, ◌∙◌}
use Rattle.std.proofs.Common.{arith, append_assoc, inl, inr}
use Rattle.std.specs.Prelude.{slice_index, ◌==◌, ◌&&◌, if◌then◌else◌, Option, Ok, ℤ}
use Rattle.std.specs.List.{list_any}
use Rattle.std.proofs.lemmas.Bool.{le-ltb, ne_eqb, eq-eqb, cases_eq}
use Rattle.std.proofs.lemmas.List.{length-append, take_at, drop_at}
use Rattle.std.proofs.lemmas.List.Folds.{list_any_none}
use Rattle.wl_wire.specs.declared.kind.Kind.{Kind}
use Rattle.wl_wire.specs.declared.kind.Kind.TheVariants as kinds
use Rattle.wl_wire.specs.declared.kind.Iface.{Iface}
use Rattle.wl_wire.specs.Word.{word, complement}
use Rattle.wl_wire.specs.Argument.{Argument, Int, Uint, Fixed, Str, Obj, New, NewNamed, Array, Fd}
use Rattle.wl_wire.specs.Spelling.{Spells, SpellsText, padded, is_int, is_uint, is_fixed, is_null}
use Rattle.wl_wire.specs.Spelling.{is_text, is_object, is_new, is_named, is_array, is_descriptor}
use Rattle.wl_wire.specs.Spelling.{is_new_by_server}
use Rattle.wl_wire.specs.Reading.{number_at, signed, asked, counted_bytes, text_of, map_found, argument_of, reading}
use Rattle.wl_wire.proofs.Numbers.{number_at-word, complement_fits, signed-complement}

-- if all bytes are there, a reader finds the argument that they spell
pub reading-there : (kind : Kind) (bytes : List ℕ) → asked kind bytes ≤ length bytes
    → reading kind bytes ≡ map_found (λ value. (value, asked kind bytes)) (argument_of kind bytes)
reading-there kind bytes h = rw (le-ltb (length bytes) (asked kind bytes) h) refl

pub reading-is : (kind : Kind) (value : Argument) (len : ℕ) (bytes : List ℕ) → len ≤ length bytes
    → asked kind bytes ≡ len → argument_of kind bytes ≡ Ok value → reading kind bytes ≡ Ok (value, len)
reading-is kind value len bytes h a e = reading-there kind bytes (omega (arith, a))
    ∙ ap (map_found (λ v. (v, asked kind bytes))) e ∙ ap (λ (n : ℕ). Ok (value, n)) a

text_of-is : (n : ℕ) (bytes text : List ℕ) → (n == 0) ≡ false → (slice_index bytes (n + 3) == 0) ≡ true
    → counted_bytes (n - 1) bytes ≡ text → list_any (λ b. b == 0) text ≡ false → text_of n bytes ≡ Ok text
text_of-is n bytes text a b c d = rw (a, b, c, d) refl

at_end : (text z : List ℕ) → get_or (text ++ 0 ∷ z) (length text) 0 ≡ 0
at_end [] z = refl
at_end (b ∷ text) z = at_end text z

-- what is read from bytes that begin with a spelled string
pub record TextFront (text front bytes : List ℕ) : Type 0 where
  pub len : length front ≡ 4 + padded (length text + 1)
  pub number : number_at bytes ≡ length text + 1
  pub found : text_of (length text + 1) bytes ≡ Ok text

pub text_front : {text front : List ℕ} (rest : List ℕ) → SpellsText text front → TextFront text front (front ++ rest)
text_front {text} {front} rest s =
    let n : ℕ = length text + 1 in
    let tail : List ℕ = s.padded_rest.padding ++ rest in
    let front_is : front ≡ word n ++ (text ++ 0 ∷ s.padded_rest.padding) =
    s.whole ∙ ap (λ (l : List ℕ). word n ++ l)
    (s.padded_rest.whole ∙ append_assoc text (0 ∷ []) s.padded_rest.padding) in
    let shape : front ++ rest ≡ word n ++ (text ++ 0 ∷ tail) =
    ap (λ (l : List ℕ). l ++ rest) front_is
    ∙ ap (λ (l : List ℕ). word n ++ l) (append_assoc text (0 ∷ s.padded_rest.padding) rest) in
    let last : slice_index (front ++ rest) (n + 3) ≡ 0 = let i : n + 3 ≡ suc (suc (suc (suc (length text)))) =
    omega arith in rw (i, shape) (at_end text tail) in
    let inner : counted_bytes (n - 1) (front ++ rest) ≡ text = let i : n - 1 ≡ length text = omega arith
    in rw (i, shape) (take_at text (0 ∷ tail) (length text) refl) in
    let clean : list_any (λ b. b == 0) text ≡ false =
    list_any_none (λ (b : ℕ). b == 0) text (λ k d h. ne_eqb _ 0 (s.text_fits.no_nul k d h)) in
    record {
      len = let q : length (text ++ 0 ∷ []) ≡ n = length-append text (0 ∷ []) in let w = ap length s.whole
          in omega (arith, w, s.padded_rest.len ∙ ap padded q);
      number = ap number_at shape ∙ number_at-word n (text ++ 0 ∷ tail) s.text_fits.len;
      found = text_of-is n (front ++ rest) text (ne_eqb n 0 (λ h. omega arith)) (eq-eqb _ 0 last) inner clean;
    }

-- an argument that is one word
one_word : (kind : Kind) (value : Argument) (n : ℕ) (front rest : List ℕ) → n < 2 ^ 32 → front ≡ word n
    → asked kind (front ++ rest) ≡ 4 → (number_at (front ++ rest) ≡ n → argument_of kind (front ++ rest) ≡ Ok value)
    → reading kind (front ++ rest) ≡ Ok (value, length front)
one_word kind value n front rest f e a g =
    let len : length front ≡ 4 = ap length e in
    let number : number_at (front ++ rest) ≡ n = ap (λ (l : List ℕ). number_at (l ++ rest)) e
    ∙ number_at-word n rest f in
    reading-is kind value (length front) (front ++ rest) (omega (arith, length-append front rest)) (a ∙ sym len)
    (g number)

object_of : (null : Bool) (iface : Option Iface) (id : ℕ) (bytes : List ℕ) → (id ≡ 0 → null ≡ true)
    → number_at bytes ≡ id → argument_of (kinds.Obj null iface) bytes ≡ Ok (Obj id)
object_of null iface id bytes allowed e =
    elim (cases_eq id 0) [
      | inl z ↦ rw (eq-eqb (number_at bytes) 0 (e ∙ z), allowed z) (ap (λ (n : ℕ). Ok (Obj n)) (sym z))
      | inr z ↦ rw (ne_eqb (number_at bytes) 0 (λ h. z (sym e ∙ h))) (ap (λ (n : ℕ). Ok (Obj n)) e)
    ]

string_found : (null : Bool) (text bytes : List ℕ) → number_at bytes ≡ length text + 1
    → text_of (length text + 1) bytes ≡ Ok text → argument_of (kinds.Str null) bytes ≡ Ok (Str (Some text))
string_found null text bytes e t =
    let step : argument_of (kinds.Str null) bytes
    ≡ map_found (λ text. Str (Some text)) (text_of (number_at bytes) bytes) =
    ap (λ (b : Bool). if b && null then Ok (Str None)
    else map_found (λ text. Str (Some text)) (text_of (number_at bytes) bytes))
    (ne_eqb (number_at bytes) 0 (λ h. omega arith)) in
    step ∙ ap (λ (n : ℕ). map_found (λ text. Str (Some text)) (text_of n bytes)) e
    ∙ ap (map_found (λ text. Str (Some text))) t

null_found : (null : Bool) (bytes : List ℕ) → null ≡ true → number_at bytes ≡ 0
    → argument_of (kinds.Str null) bytes ≡ Ok (Str None)
null_found null bytes t e = rw (eq-eqb (number_at bytes) 0 e, t) refl

-- a name, and the two words after it
named_found : (name front : List ℕ) (version id : ℕ) (rest : List ℕ) → length front ≡ 4 + padded (length name + 1)
    → number_at (front ++ (word version ++ (word id ++ rest))) ≡ length name + 1
    → text_of (length name + 1) (front ++ (word version ++ (word id ++ rest))) ≡ Ok name → version < 2 ^ 32
    → id < 2 ^ 32 → argument_of (kinds.New None) (front ++ (word version ++ (word id ++ rest)))
    ≡ Ok (NewNamed name version id)
named_found name front version id rest len number found fv fi =
    let bytes : List ℕ = front ++ (word version ++ (word id ++ rest)) in
    let at : length front ≡ 4 + padded (number_at bytes) = len ∙ ap (λ (n : ℕ). 4 + padded n) (sym number) in
    let after : drop (4 + padded (number_at bytes)) bytes ≡ word version ++ (word id ++ rest) =
    drop_at front (word version ++ (word id ++ rest)) (4 + padded (number_at bytes)) at in
    let v : number_at (drop (4 + padded (number_at bytes)) bytes) ≡ version =
    ap number_at after ∙ number_at-word version (word id ++ rest) fv in
    let i : number_at (drop 4 (drop (4 + padded (number_at bytes)) bytes)) ≡ id =
    ap (λ (l : List ℕ). number_at (drop 4 l)) after ∙ number_at-word id rest fi in
    let t : text_of (number_at bytes) bytes ≡ Ok name = ap (λ (n : ℕ). text_of n bytes) number ∙ found in
    rw (t, v, i) refl

array_found : (array rest : List ℕ) (bytes : List ℕ) → length array < 2 ^ 32
    → bytes ≡ word (length array) ++ (array ++ rest) → argument_of kinds.Array bytes ≡ Ok (Array array)
array_found array rest bytes f e =
    let number : number_at bytes ≡ length array = ap number_at e ∙ number_at-word (length array) (array ++ rest) f in
    let content : counted_bytes (number_at bytes) bytes ≡ array =
    ap (λ (n : ℕ). counted_bytes n bytes) number ∙ ap (λ (l : List ℕ). counted_bytes (length array) l) e
    ∙ take_at array rest (length array) refl in
    ap (λ (l : List ℕ). Ok (Array l)) content

-- A reader finds the value of a spelling, whatever follows it.
pub reading-spelled : {kind : Kind} {value : Argument} {front : List ℕ} (rest : List ℕ) → Spells kind value front
    → reading kind (front ++ rest) ≡ Ok (value, length front)
reading-spelled {front = front} rest (is_int {z = z} f e) =
    one_word kinds.Int (Int z) (complement z) front rest (complement_fits z f) e refl
    (λ h. ap (λ (n : ℕ). Ok (Int (signed n))) h ∙ ap (λ (z : ℤ). Ok (Int z)) (signed-complement z f))
reading-spelled {front = front} rest (is_uint {n = n} f e) =
    one_word kinds.Uint (Uint n) n front rest f e refl (λ h. ap (λ (n : ℕ). Ok (Uint n)) h)
reading-spelled {front = front} rest (is_fixed {z = z} f e) =
    one_word kinds.Fixed (Fixed z) (complement z) front rest (complement_fits z f) e refl
    (λ h. ap (λ (n : ℕ). Ok (Fixed (signed n))) h ∙ ap (λ (z : ℤ). Ok (Fixed z)) (signed-complement z f))
reading-spelled {front = front} rest (is_null {null = null} t e) =
    let number : number_at (front ++ rest) ≡ 0 = ap (λ (l : List ℕ). number_at (l ++ rest)) e
    ∙ number_at-word 0 rest (omega arith) in
    one_word (kinds.Str null) (Str None) 0 front rest (omega arith) e (ap (λ (n : ℕ). 4 + padded n) number)
    (null_found null (front ++ rest) t)
reading-spelled {front = front} rest (is_text {null = null} {text = text} s) =
    let t = text_front rest s in
    let a : asked (kinds.Str null) (front ++ rest) ≡ length front = ap (λ (n : ℕ). 4 + padded n) t.number ∙ sym t.len in
    reading-is (kinds.Str null) (Str (Some text)) (length front) (front ++ rest)
    (omega (arith, length-append front rest)) a (string_found null text (front ++ rest) t.number t.found)
reading-spelled {front = front} rest (is_object {null = null} {iface = iface} {id = id} f allowed e) =
    one_word (kinds.Obj null iface) (Obj id) id front rest f e refl (object_of null iface id (front ++ rest) allowed)
reading-spelled {front = front} rest (is_new {iface = iface} {id = id} f e) =
    one_word (kinds.New (Some iface)) (New id) id front rest f e refl (λ h. ap (λ (n : ℕ). Ok (New n)) h)
reading-spelled {front = front} rest (is_new_by_server {iface = iface} {id = id} f e) =
    one_word (kinds.NewByServer iface) (New id) id front rest f e refl (λ h. ap (λ (n : ℕ). Ok (New n)) h)
reading-spelled {front = front} rest (is_named {iface = name} {front = head} {version = version} {id = id} s fv fi e) =
    let t = text_front (word version ++ (word id ++ rest)) s in
    let shape : front ++ rest ≡ head ++ (word version ++ (word id ++ rest)) =
    ap (λ (l : List ℕ). l ++ rest) e ∙ append_assoc (head ++ word version) (word id) rest
    ∙ append_assoc head (word version) (word id ++ rest) in
    let len : length front ≡ 12 + padded (length name + 1) = let l = ap length e
    in omega (
      arith,
      l,
      t.len,
      length-append head (word version),
      length-append (head ++ word version)
          (word id),
    ) in
    let a : asked (kinds.New None) (front ++ rest) ≡ length front =
    ap (λ (l : List ℕ). 12 + padded (number_at l)) shape ∙ ap (λ (n : ℕ). 12 + padded n) t.number ∙ sym len in
    reading-is (kinds.New None) (NewNamed name version id) (length front) (front ++ rest)
    (omega (arith, length-append front rest)) a
    (ap (argument_of (kinds.New None)) shape ∙ named_found name head version id rest t.len t.number t.found fv fi)
reading-spelled {front = front} rest (is_array {array = array} {rest = tail} f p e) =
    let shape : front ++ rest ≡ word (length array) ++ (array ++ (p.padding ++ rest)) =
    ap (λ (l : List ℕ). l ++ rest) (e ∙ ap (λ (l : List ℕ). word (length array) ++ l) p.whole)
    ∙ ap (λ (l : List ℕ). word (length array) ++ l) (append_assoc array p.padding rest) in
    let number : number_at (front ++ rest) ≡ length array =
    ap number_at shape ∙ number_at-word (length array) (array ++ (p.padding ++ rest)) f in
    let len : length front ≡ 4 + padded (length array) = let l = ap length e in omega (arith, l, p.len) in
    reading-is kinds.Array (Array array) (length front) (front ++ rest) (omega (arith, length-append front rest))
    (ap (λ (n : ℕ). 4 + padded n) number ∙ sym len) (array_found array (p.padding ++ rest) (front ++ rest) f shape)
reading-spelled {front = front} rest (is_descriptor e) =
    reading-is kinds.Fd (Fd tt) (length front) (front ++ rest) (omega (arith, length-append front rest))
    (sym (ap length e)) refl
