-- What a look-up that finds something says about the tables.
use Rattle.std.proofs.Common.{◌≡◌, ℕ, ◌<◌, List, [], ◌∷◌, length, Bool, true, false, refl, ◌∙◌, ap}
use Rattle.std.proofs.Common.{zero, suc, ◌+◌, cond, not, arith, get_or, slice_get, Option, Some}
use Rattle.std.proofs.Common.{None, bytes_eq}
use Rattle.std.specs.Prelude.{option_and_then, option_map, position}
use Rattle.std.specs.List.{position_or_len}
use Rattle.std.proofs.lemmas.List.Quantifiers.{position-Some}
use Rattle.std.proofs.lemmas.Option.{slice_get-get_or}
use Rattle.std.proofs.lemmas.Bool.Decides.{Decides-ltb}
use Rattle.std.proofs.lemmas.Slice.Eq.{bytes_eq-Decides}
use Rattle.wl_wire.specs.declared.kind.Iface.{Iface}
use Rattle.wl_sigs.specs.Side.{Side}
use Rattle.wl_sigs.specs.Tables.{MessageSignature, Interface, interface_at, message_of, signature_at, place_of}
use Rattle.wl_sigs.specs.Valid.{Valid}

pub then_some : {X Y : Type 0} (f : X → Option Y) (o : Option X) (y : Y) → option_and_then f o ≡ Some y
    → (x : X) × (o ≡ Some x) × (f x ≡ Some y)
then_some f None y h = cc
then_some f (Some x) y h = (x, refl, h)

-- the interface that a message was found in
pub record Found (tables : List Interface) (place : ℕ) (side : Side) (opcode : ℕ) (m : MessageSignature) : Type 0 where
  pub interface : Interface
  pub at : interface_at tables place ≡ Some interface
  pub of : message_of side opcode interface ≡ Some m

pub found : (tables : List Interface) (place : ℕ) (side : Side) (opcode : ℕ) (m : MessageSignature)
    → signature_at tables place side opcode ≡ Some m → Found tables place side opcode m
found tables place side opcode m h =
    let witness = then_some (message_of side opcode) (interface_at tables place) m h
    in record { interface = witness.0; at = witness.1; of = witness.2 }

pub signature_from : (tables : List Interface) (place : ℕ) (side : Side) (opcode : ℕ) (i : Interface)
    (m : MessageSignature)
    → interface_at tables place ≡ Some i → message_of side opcode i ≡ Some m
    → signature_at tables place side opcode ≡ Some m
signature_from tables place side opcode i m at of = ap (option_and_then (message_of side opcode)) at ∙ of

-- the interface with a name
pub record IsNamed (tables : List Interface) (name : List ℕ) (place : ℕ) : Type 0 where
  pub interface : Interface
  pub at : interface_at tables place ≡ Some interface
  pub same : interface.name ≡ name

abbrev has_name : List ℕ → Interface → Bool
has_name name i = bytes_eq i.name name

position_of : (o : Option ℕ) (iface : Iface) → option_map (λ place. let witness : Iface = record { 0 = place } in witness) o
    ≡ Some iface → o ≡ Some iface.0
position_of None iface h = cc
position_of (Some p) iface h = ap (option_map (λ (i : Iface). i.0)) h

-- if `place_of` finds a place, an interface with that name is there
pub named : (tables : List Interface) (name : List ℕ) (iface : Iface) → place_of tables name ≡ Some iface
    → IsNamed tables name iface.0
named [] name iface h = cc
named (first ∷ more) name iface h =
    let tables = first ∷ more in
    let p = position-Some (has_name name) tables iface.0 first
    (position_of (position (has_name name) tables) iface h) in
    let i = get_or tables iface.0 first in
    record {
      interface = i;
      at = slice_get-get_or tables iface.0 first p.0;
      same = (bytes_eq-Decides i.name name).0 p.1;
    }

stops_within : (b : Bool) (m n : ℕ) → (b ≡ false → m < n) → cond (not b) (1 + m) 0 < suc n
stops_within true m n h = omega arith
stops_within false m n h = omega (arith, h refl)

pub passes_within : {X : Type 0} (p : X → Bool) (xs : List X) (k : ℕ) (x : X) → slice_get xs k ≡ Some x → p x ≡ true
    → position_or_len p xs < length xs
passes_within p [] k x at passes = cc
passes_within p (y ∷ ys) zero x at passes =
    let same : y ≡ x = cc in
    stops_within (p y) (position_or_len p ys) (length ys) (λ fails. let e = ap p same in cc)
passes_within p (y ∷ ys) (suc k) x at passes = stops_within (p y) (position_or_len p ys) (length ys)
    (λ _. passes_within p ys k x at passes)

pub position_within : {X : Type 0} (p : X → Bool) (xs : List X) → position_or_len p xs < length xs
    → position p xs ≡ Some (position_or_len p xs)
position_within p xs within = ap (λ b. cond b (Some (position_or_len p xs)) None)
    ((Decides-ltb (position_or_len p xs) (length xs)).1 within)

as_iface : ℕ → Iface
as_iface place = record { 0 = place }

-- in valid tables each interface is the first with its name
pub place_of_its_name : (tables : List Interface) → Valid tables → (place : ℕ) (i : Interface)
    → interface_at tables place ≡ Some i → place_of tables i.name ≡ Some (record { 0 = place })
unfolding as_iface
place_of_its_name tables valid place i at =
    let first = position_or_len (has_name i.name) tables in
    let within = passes_within (has_name i.name) tables place i at ((bytes_eq-Decides i.name i.name).1 refl) in
    let answer : place_of tables i.name ≡ Some (as_iface first) =
    ap (option_map as_iface) (position_within (has_name i.name) tables within) in
    let witness = named tables i.name (as_iface first) answer in
    let same : first ≡ place = valid.names_distinct.interfaces_distinct first place witness.interface i witness.at at witness.same in
    answer ∙ ap (λ p. Some (as_iface p)) same
