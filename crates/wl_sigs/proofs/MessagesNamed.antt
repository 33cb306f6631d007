-- The opcode of a message by its name.
use Rattle.std.proofs.Common.{◌≡◌, ℕ, List, [], ◌∷◌, Bool, sym, ◌∙◌, ap, get_or, slice_get, Option, Some, bytes_eq}
use Rattle.std.specs.Prelude.{option_and_then, position, ◌↔◌}
use Rattle.std.specs.List.{position_or_len}
use Rattle.std.proofs.lemmas.List.Quantifiers.{position-Some}
use Rattle.std.proofs.lemmas.Option.{slice_get-get_or}
use Rattle.std.proofs.lemmas.Slice.Eq.{bytes_eq-Decides}
use Rattle.wl_sigs.specs.Side.{Side}
use Rattle.wl_sigs.specs.Tables.{MessageSignature, Interface, interface_at, messages_of, signature_at}
use Rattle.wl_sigs.specs.ByName.{opcode_of}
use Rattle.wl_sigs.specs.Valid.{Valid}
use Rattle.wl_sigs.proofs.Lookups.{then_some, found, signature_from, passes_within, position_within}

-- the message with this opcode has this name
abbrev Named : List Interface → ℕ → Side → List ℕ → ℕ → Type 0
Named tables place side name opcode = (m : MessageSignature) × (signature_at tables place side opcode ≡ Some m)
    × (m.name ≡ name)

abbrev has_name : List ℕ → MessageSignature → Bool
has_name name m = bytes_eq m.name name

at_position : (ms : List MessageSignature) (name : List ℕ) (opcode : ℕ) → position (has_name name) ms ≡ Some opcode
    → (m : MessageSignature) × (slice_get ms opcode ≡ Some m) × (m.name ≡ name)
at_position [] name opcode h = cc h
at_position (first ∷ more) name opcode h =
    let ms = first ∷ more in
    let p = position-Some (has_name name) ms opcode first h in
    let m = get_or ms opcode first in
    (m, slice_get-get_or ms opcode first p.0, (bytes_eq-Decides m.name name).0 p.1)

named_there : (tables : List Interface) (place : ℕ) (side : Side) (name : List ℕ) (opcode : ℕ)
    → opcode_of tables place side name ≡ Some opcode → Named tables place side name opcode
named_there tables place side name opcode h =
    let witness = then_some (λ i. position (has_name name) (messages_of side i)) (interface_at tables place) opcode h in
    let m = at_position (messages_of side witness.0) name opcode witness.2 in
    (m.0, signature_from tables place side opcode witness.0 m.0 witness.1 m.1, m.2)

there_named : (tables : List Interface) → Valid tables → (place : ℕ) (side : Side) (name : List ℕ) (opcode : ℕ)
    → Named tables place side name opcode → opcode_of tables place side name ≡ Some opcode
there_named tables valid place side name opcode h =
    let m = h.0 in
    let witness = found tables place side opcode m h.1 in
    let ms = messages_of side witness.interface in
    let within = passes_within (has_name name) ms opcode m witness.of ((bytes_eq-Decides m.name name).1 h.2) in
    let first = position_or_len (has_name name) ms in
    let answer : opcode_of tables place side name ≡ Some first =
    ap (option_and_then (λ i. position (has_name name) (messages_of side i))) witness.at
    ∙ position_within (has_name name) ms within in
    let other = named_there tables place side name first answer in
    let same : first ≡ opcode = valid.names_distinct.messages_distinct place side first opcode other.0 m other.1 h.1
    (other.2 ∙ sym h.2) in
    answer ∙ ap (λ (o : ℕ). Some o) same

-- the opcode that is found is that of a message with this name
pub opcode_named : (tables : List Interface) → Valid tables → (place : ℕ) (side : Side) (name : List ℕ) (o : Option ℕ)
    → o ≡ opcode_of tables place side name
    → (opcode : ℕ) → (o ≡ Some opcode) ↔ ((m : MessageSignature) × (signature_at tables place side opcode ≡ Some m)
    × (m.name ≡ name))
opcode_named tables valid place side name o is opcode = (
  λ e. named_there tables place side name opcode (sym is ∙ e),
  λ h. is
      ∙ there_named tables valid place side name opcode h,
)
