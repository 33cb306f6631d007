-- A reader reports the first fault.
use Rattle.std.proofs.Common.{◌≡◌, ℕ, ◌+◌, ◌-◌, ◌<◌, ◌≤◌, Bool, true, false, List, length, drop}
use Rattle.std.proofs.Common.{Some, None, refl, ap, subst, ◌∙◌, arith, inl, inr}
use Rattle.std.specs.Prelude.{slice_index, ◌==◌, ◌&&◌, if◌then◌else◌, Ok, Err, ◌↔◌, Option}
use Rattle.std.specs.List.{list_any}
use Rattle.std.proofs.lemmas.Bool.{lt-ltb, ne_eqb, eq-eqb, and_right}
use Rattle.std.proofs.lemmas.List.{length-take}
use Rattle.std.proofs.lemmas.List.Folds.{list_any_at}
use Rattle.wl_wire.specs.declared.kind.Kind.{Kind}
use Rattle.wl_wire.specs.declared.kind.Kind.TheVariants as kinds
use Rattle.wl_wire.specs.declared.kind.ArgFault.{ArgFault}
use Rattle.wl_wire.specs.declared.kind.ArgFault.TheVariants.{Short, NullNotAllowed, NoEndingNul, InnerNul}
use Rattle.wl_wire.specs.declared.kind.Iface.{Iface}
use Rattle.wl_wire.specs.Word.{number_at}
use Rattle.wl_wire.specs.Argument.{Str, NewNamed}
use Rattle.wl_wire.specs.Spelling.{padded}
use Rattle.wl_wire.specs.Faults.{BeginsWithWord, HoldsCounted, LacksCounted, LacksEndingNul, HasInnerNul, IsFirstFault}
use Rattle.wl_wire.specs.Reading.{asked, counted_bytes, text_of, map_found, argument_of, reading}
use Rattle.wl_wire.proofs.Numbers.{Bytewise, number-from_word}
use Rattle.wl_wire.proofs.Fronts.{reading-there}
use Rattle.wl_wire.proofs.Answered.{IsAnswer, reading-answers}

short_read : (kind : Kind) (bytes : List ℕ) → length bytes < asked kind bytes → reading kind bytes ≡ Err Short
short_read kind bytes h = rw (lt-ltb (length bytes) (asked kind bytes) h) refl

fault_read : (kind : Kind) (bytes : List ℕ) (fault : ArgFault) → asked kind bytes ≤ length bytes
    → argument_of kind bytes ≡ Err fault → reading kind bytes ≡ Err fault
fault_read kind bytes fault h e = reading-there kind bytes h ∙ ap (map_found (λ value. (value, asked kind bytes))) e

begins_number : (n : ℕ) (bytes : List ℕ) → BeginsWithWord n bytes → number_at bytes ≡ n
begins_number n bytes b = number-from_word n bytes b.0 b.1

begins_long : (n : ℕ) (bytes : List ℕ) → BeginsWithWord n bytes → 4 ≤ length bytes
begins_long n bytes b = let l = ap length b.1 in omega (arith, l, length-take 4 bytes)

lacking : (more : ℕ) (bytes : List ℕ) → LacksCounted more bytes → length bytes < 4 + padded (number_at bytes) + more
lacking more bytes h =
    elim h [
      | inl s ↦ omega arith
      | inr s ↦ let e = begins_number s.0 bytes s.1.0 in omega (arith, e, s.1.1)
    ]

held : (more n : ℕ) (bytes : List ℕ) → HoldsCounted more n bytes → 4 + padded (number_at bytes) + more ≤ length bytes
held more n bytes h = let e = begins_number n bytes h.0 in omega (arith, e, h.1)

null_text : (bytes : List ℕ) → number_at bytes ≡ 0 → text_of (number_at bytes) bytes ≡ Err NullNotAllowed
null_text bytes e = ap (λ (n : ℕ). text_of n bytes) e

unended : (n : ℕ) (bytes : List ℕ) → (n == 0) ≡ false → (slice_index bytes (n + 3) == 0) ≡ false
    → text_of n bytes ≡ Err NoEndingNul
unended n bytes a b = rw (a, b) refl

inner : (n : ℕ) (bytes : List ℕ) → (n == 0) ≡ false → (slice_index bytes (n + 3) == 0) ≡ true
    → list_any (λ b. b == 0) (counted_bytes (n - 1) bytes) ≡ true → text_of n bytes ≡ Err InnerNul
inner n bytes a b c = rw (a, b, c) refl

unended_text : (more : ℕ) (bytes : List ℕ) → LacksEndingNul more bytes
    → text_of (number_at bytes) bytes ≡ Err NoEndingNul
unended_text more bytes h = ap (λ (n : ℕ). text_of n bytes) (begins_number h.0 bytes h.2.0)
    ∙ unended h.0 bytes (ne_eqb h.0 0 (λ z. let p = h.1 in omega arith)) (ne_eqb _ 0 h.3)

inner_text : (more : ℕ) (bytes : List ℕ) → HasInnerNul more bytes → text_of (number_at bytes) bytes ≡ Err InnerNul
inner_text more bytes h = ap (λ (n : ℕ). text_of n bytes) (begins_number h.0 bytes h.2.0)
    ∙ inner h.0 bytes (ne_eqb h.0 0 (λ z. let p = h.1 in omega arith)) (eq-eqb _ 0 h.3)
    (list_any_at (λ (b : ℕ). b == 0) (counted_bytes (h.0 - 1) bytes) h.4.0 0 h.4.1 (eq-eqb _ 0 h.4.2))

-- a string that is not null, or may not be null
string_read : (null : Bool) (bytes : List ℕ) (fault : ArgFault) → ((number_at bytes == 0) && null) ≡ false
    → text_of (number_at bytes) bytes ≡ Err fault → argument_of (kinds.Str null) bytes ≡ Err fault
string_read null bytes fault n e = ap (λ (b : Bool). if b then Ok (Str None)
    else map_found (λ text. Str (Some text)) (text_of (number_at bytes) bytes)) n
    ∙ ap (map_found (λ text. Str (Some text))) e

not_null : (null : Bool) (more n : ℕ) (bytes : List ℕ) → 0 < n → HoldsCounted more n bytes
    → ((number_at bytes == 0) && null) ≡ false
not_null null more n bytes p h = let e = begins_number n bytes h.0
    in ap (λ (b : Bool). b && null) (ne_eqb (number_at bytes) 0 (λ z. omega arith))

name_read : (bytes : List ℕ) (fault : ArgFault) → text_of (number_at bytes) bytes ≡ Err fault
    → argument_of (kinds.New None) bytes ≡ Err fault
name_read bytes fault e = ap (map_found (λ name. NewNamed name (number_at (drop (4 + padded (number_at bytes)) bytes))
    (number_at (drop 4 (drop (4 + padded (number_at bytes)) bytes))))) e

null_object : (null : Bool) (iface : Option Iface) (bytes : List ℕ) → null ≡ false → number_at bytes ≡ 0
    → argument_of (kinds.Obj null iface) bytes ≡ Err NullNotAllowed
null_object null iface bytes f e = rw (eq-eqb (number_at bytes) 0 e, f) refl

pub fault-reading : (kind : Kind) (fault : ArgFault) (bytes : List ℕ) → IsFirstFault kind bytes fault
    → reading kind bytes ≡ Err fault
fault-reading kinds.Int Short bytes h = short_read kinds.Int bytes h
fault-reading kinds.Uint Short bytes h = short_read kinds.Uint bytes h
fault-reading kinds.Fixed Short bytes h = short_read kinds.Fixed bytes h
fault-reading (kinds.Str null) Short bytes h = short_read (kinds.Str null) bytes
    (let l = lacking 0 bytes h in omega arith)
fault-reading (kinds.Obj null iface) Short bytes h = short_read (kinds.Obj null iface) bytes h
fault-reading (kinds.New (Some iface)) Short bytes h = short_read (kinds.New (Some iface)) bytes h
fault-reading (kinds.New None) Short bytes h = short_read (kinds.New None) bytes
    (let l = lacking 8 bytes h in omega arith)
fault-reading (kinds.NewByServer iface) Short bytes h = short_read (kinds.NewByServer iface) bytes h
fault-reading kinds.Array Short bytes h = short_read kinds.Array bytes (let l = lacking 0 bytes h in omega arith)
fault-reading (kinds.Str null) NullNotAllowed bytes h =
    let e = begins_number 0 bytes h.1 in
    fault_read (kinds.Str null) bytes NullNotAllowed (let l = begins_long 0 bytes h.1 in omega (arith, e))
    (string_read null bytes NullNotAllowed (ap (λ (b : Bool). (number_at bytes == 0) && b) h.0
    ∙ and_right (number_at bytes == 0) false refl) (null_text bytes e))
fault-reading (kinds.Obj null iface) NullNotAllowed bytes h =
    fault_read (kinds.Obj null iface) bytes NullNotAllowed (begins_long 0 bytes h.1)
    (null_object null iface bytes h.0 (begins_number 0 bytes h.1))
fault-reading (kinds.New None) NullNotAllowed bytes h =
    fault_read (kinds.New None) bytes NullNotAllowed (let l = held 8 0 bytes h in omega arith)
    (name_read bytes NullNotAllowed (null_text bytes (begins_number 0 bytes h.0)))
fault-reading (kinds.Str null) NoEndingNul bytes h =
    fault_read (kinds.Str null) bytes NoEndingNul (let l = held 0 h.0 bytes h.2 in omega arith)
    (string_read null bytes NoEndingNul (not_null null 0 h.0 bytes h.1 h.2) (unended_text 0 bytes h))
fault-reading (kinds.New None) NoEndingNul bytes h =
    fault_read (kinds.New None) bytes NoEndingNul (let l = held 8 h.0 bytes h.2 in omega arith)
    (name_read bytes NoEndingNul (unended_text 8 bytes h))
fault-reading (kinds.Str null) InnerNul bytes h =
    fault_read (kinds.Str null) bytes InnerNul (let l = held 0 h.0 bytes h.2 in omega arith)
    (string_read null bytes InnerNul (not_null null 0 h.0 bytes h.1 h.2) (inner_text 0 bytes h))
fault-reading (kinds.New None) InnerNul bytes h =
    fault_read (kinds.New None) bytes InnerNul (let l = held 8 h.0 bytes h.2 in omega arith)
    (name_read bytes InnerNul (inner_text 8 bytes h))
fault-reading kinds.Fd Short bytes h = absurd h
fault-reading kind NullNotAllowed bytes h = absurd h
fault-reading kind NoEndingNul bytes h = absurd h
fault-reading kind InnerNul bytes h = absurd h

-- a reader reports a fault if and only if it is the first one
pub reading-fault : (kind : Kind) (fault : ArgFault) (bytes : List ℕ) → Bytewise bytes
    → (reading kind bytes ≡ Err fault) ↔ IsFirstFault kind bytes fault
reading-fault kind fault bytes w = (
  λ e. subst (IsAnswer kind bytes) e
      (reading-answers kind bytes w),
  fault-reading kind fault bytes,
)
