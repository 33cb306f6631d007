-- The contracts of the readers, from their result as a function of the bytes.
use Rattle.std.proofs.Common.{◌≡◌, ℕ, ◌≤◌, List, length, take, drop, sym, ap, subst, ◌∙◌}
use Rattle.std.specs.Prelude.{Result, Ok, Err, IfOk, IfErr}
use Rattle.std.proofs.lemmas.List.{take-append-drop, length-take-le}
use Rattle.wl_wire.specs.declared.kind.Kind.{Kind}
use Rattle.wl_wire.specs.declared.kind.ArgFault.{ArgFault}
use Rattle.wl_wire.specs.declared.value.ValueRef.{ValueRef}
use Rattle.wl_wire.specs.Argument.{Argument, lent}
use Rattle.wl_wire.specs.Spelling.{Spells}
use Rattle.wl_wire.specs.Faults.{IsFirstFault}
use Rattle.wl_wire.specs.Reading.{reading, seen}
use Rattle.wl_wire.proofs.Numbers.{Bytewise}
use Rattle.wl_wire.proofs.Fronts.{reading-spelled}
use Rattle.wl_wire.proofs.Answered.{IsAnswer, reading-answers}

-- a reader finds the value that the first bytes spell
pub reading-front : (kind : Kind) (bytes : List ℕ) (value : Argument) (len : ℕ) → len ≤ length bytes
    → Spells kind value (take len bytes) → reading kind bytes ≡ Ok (value, len)
reading-front kind bytes value len h s = ap (reading kind) (sym (take-append-drop len bytes))
    ∙ reading-spelled (drop len bytes) s ∙ ap (λ (n : ℕ). Ok (value, n)) (length-take-le len bytes h)

pub only_from : (kind : Kind) (bytes : List ℕ) (r : Result (ValueRef × ℕ) ArgFault) → seen r ≡ reading kind bytes
    → (value : Argument) (len : ℕ) → len ≤ length bytes → Spells kind value (take len bytes) → seen r ≡ Ok (value, len)
only_from kind bytes r e value len h s = e ∙ reading-front kind bytes value len h s

pub found_from : (kind : Kind) (bytes : List ℕ) (r : Result (ValueRef × ℕ) ArgFault) → Bytewise bytes
    → seen r ≡ reading kind bytes → IfOk r (λ x. (x.1 ≤ length bytes) × Spells kind (lent x.0) (take x.1 bytes))
found_from kind bytes (Ok x) w e = subst (IsAnswer kind bytes) (sym e) (reading-answers kind bytes w)
found_from kind bytes (Err fault) w e = tt

pub fault_from : (kind : Kind) (bytes : List ℕ) (r : Result (ValueRef × ℕ) ArgFault) → Bytewise bytes
    → seen r ≡ reading kind bytes → IfErr r (IsFirstFault kind bytes)
fault_from kind bytes (Ok x) w e = tt
fault_from kind bytes (Err fault) w e = subst (IsAnswer kind bytes) (sym e) (reading-answers kind bytes w)

pub reading-found : (kind : Kind) (value : Argument) (len : ℕ) (bytes : List ℕ) → Bytewise bytes
    → reading kind bytes ≡ Ok (value, len) → (len ≤ length bytes) × Spells kind value (take len bytes)
reading-found kind value len bytes w e = subst (IsAnswer kind bytes) e (reading-answers kind bytes w)
