-- The first line of a text that extends interfaces and breaks a rule, in the words of the rules.
use Rattle.std.proofs.Common.{◌≡◌, ℕ, ◌+◌, ◌≤◌, inl, inr, List, [], length, map, refl, sym, ap, ◌∙◌}
use Rattle.std.proofs.Common.{subst, Some, None, Option, slice_get, arith}
use Rattle.std.specs.Prelude.{option_map, ◌↔◌}
use Rattle.std.proofs.lemmas.Option.{slice_get-map}
use Rattle.wl_sigs.specs.Side.{Side}
use Rattle.wl_sigs.specs.Tables.{MessageSignature, Interface, interface_at, messages_of, message_of}
use Rattle.wl_text.specs.Text.{WrittenMessage, WrittenInterface}
use Rattle.wl_sigs.specs.Joined.{all_names, first_place, message_placed}
use Rattle.wl_sigs.specs.Broken.{Broken}
use Rattle.wl_sigs.specs.FirstBroken.{written_of, MessageBreaks, BreaksRule}
use Rattle.wl_sigs.specs.Extended.{Gathered, gathered_from, gathered, interface_grown, grown}
use Rattle.wl_sigs.specs.Extended.{whole_of, extended}
use Rattle.wl_sigs.specs.Extending.{behind_own_messages, first_line_broken}
use Rattle.wl_sigs.specs.FirstLineBroken.{ExtensionBreaks, AddsMessage, Clashes, LineBreaks}
use Rattle.wl_sigs.specs.FirstLineBroken.{by_declared, by_added, by_clash, by_extension}
use Rattle.wl_sigs.specs.FirstLineBroken.{IsFirstBrokenLine}
use Rattle.wl_sigs.proofs.JoinedLookup.{in_front, placing, placing_message}
use Rattle.wl_sigs.proofs.ValidKeeps.{behind}
use Rattle.wl_sigs.proofs.FirstLine.{NotBefore, IsLeast, like, Either, of_either}
use Rattle.wl_sigs.proofs.FirstWords.{some_same, declared_least}
use Rattle.wl_sigs.proofs.Grown.{grown_at, names_grown, grown_messages, same_names, same_many}
use Rattle.wl_sigs.proofs.LikeInterface.{like_interface}
use Rattle.wl_sigs.proofs.AddedLines.{AddedBreaks, InAdded, added_least}
use Rattle.wl_sigs.proofs.ExtensionLines.{InExtensions, extensions_least}

-- an added message in the form that it has in the tables
abbrev placed_of : List Interface → Gathered → WrittenMessage → MessageSignature
placed_of tables g = let names = all_names tables g.declared in message_placed (first_place names) (length names)

abbrev grown_of : List Interface → Gathered → Interface → WrittenInterface → Interface
grown_of tables g = let names = all_names tables g.declared in interface_grown (first_place names) (length names)

same_message : (tables : List Interface) (g : Gathered) (m : WrittenMessage)
    → placing_message (grown tables g) g.declared m ≡ placed_of tables g m
same_message tables g m =
    ap (λ (names : List (List ℕ)). message_placed (first_place names) (length names) m) (names_grown tables g)

pub stands_at : (tables : List Interface) (g : Gathered) (place : ℕ) (old : Interface) (more : WrittenInterface)
    → interface_at tables place ≡ Some old → slice_get g.added place ≡ Some more
    → interface_at (whole_of tables g) place ≡ Some (grown_of tables g old more)
stands_at tables g place old more there said =
    let names = all_names tables g.declared in
    in_front (grown tables g) (map (placing (grown tables g) g.declared) g.declared) place (grown_of tables g old more)
    (grown_at (first_place names) (length names) tables g.added place old more there said)

pub listed_at : (tables : List Interface) (g : Gathered) (old : Interface) (more : WrittenInterface) (side : Side)
    (k : ℕ) (m : WrittenMessage) → slice_get (written_of side more) k ≡ Some m
    → message_of side (length (messages_of side old) + k) (grown_of tables g old more) ≡ Some (placed_of tables g m)
listed_at tables g old more side k m at =
    let names = all_names tables g.declared in
    rw (grown_messages (first_place names) (length names) old more side)
    (behind (messages_of side old) (map (placed_of tables g) (written_of side more)) k _ (placed_of tables g m) refl
    (slice_get-map (placed_of tables g) (written_of side more) k ∙ ap (option_map (placed_of tables g)) at))

added_words : (tables : List Interface) (written : List WrittenInterface) (line rule : ℕ)
    → InAdded tables (gathered tables written) 0 tables (gathered tables written).added line rule
    → LineBreaks tables written line rule
added_words tables written line rule witness = elim witness.breaks.breaks [
  | inl message ↦ by_added witness.index witness.old (grown_of tables g witness.old witness.more) witness.side opcode
      (placed_of tables g witness.breaks.message) declares
      (like_interface (extended tables written)
      (placing (grown tables g) g.declared (behind_own_messages witness.old witness.more))
      (grown_of tables g witness.old witness.more) witness.side opcode (placed_of tables g witness.breaks.message) rule
      (same_names (first_place names) (length names) (grown tables g) g.declared witness.old witness.more witness.side)
      (same_many (first_place names) (length names) (grown tables g) g.declared witness.old witness.more) refl
      (subst (λ (m : MessageSignature). MessageBreaks (extended tables written)
      (placing (grown tables g) g.declared (behind_own_messages witness.old witness.more)) witness.side opcode m rule)
      (same_message tables g witness.breaks.message) message))
  | inr clash ↦ by_clash witness.index witness.old (grown_of tables g witness.old witness.more) witness.side opcode
      (placed_of tables g witness.breaks.message) declares
      (subst (λ (m : MessageSignature). Clashes tables witness.index witness.old witness.side m rule)
      (same_message tables g witness.breaks.message)
      (subst (λ (p : ℕ). Clashes tables p witness.old witness.side (placing_message (grown tables g) g.declared witness.breaks.message)
      rule) from_zero clash))
]
  where
    g : Gathered
    g = gathered tables written

    names : List (List ℕ)
    names = all_names tables g.declared

    opcode : ℕ
    opcode = length (messages_of witness.side witness.old) + witness.breaks.place

    from_zero : 0 + witness.index ≡ witness.index
    from_zero = omega arith

    declares : AddsMessage tables written line witness.index witness.old (grown_of tables g witness.old witness.more) witness.side opcode
        (placed_of tables g witness.breaks.message)
    declares = record {
      index = witness.breaks.place;
      more = witness.more;
      own = witness.breaks.message;
      there = witness.at;
      said = witness.said;
      of = witness.breaks.at;
      line_is = witness.breaks.line_is;
      opcode_is = refl;
      stands = stands_at tables g witness.index witness.old witness.more witness.at witness.said;
      listed = listed_at tables g witness.old witness.more witness.side witness.breaks.place witness.breaks.message witness.breaks.at;
    }

-- what is declared is what was added
record IsAdded (tables : List Interface) (written : List WrittenInterface) (old i : Interface) (more : WrittenInterface)
    (m : MessageSignature) (own : WrittenMessage) : Type 0 where
  interface : i ≡ grown_of tables (gathered tables written) old more
  message : m ≡ placed_of tables (gathered tables written) own

is_added : (tables : List Interface) (written : List WrittenInterface) (line place : ℕ) (old i : Interface)
    (side : Side) (opcode : ℕ) (m : MessageSignature)
    → (d : AddsMessage tables written line place old i side opcode m)
    → IsAdded tables written old i d.more m d.own
is_added tables written line place old i side opcode m d =
    let g = gathered tables written in
    let same : i ≡ grown_of tables g old d.more =
    some_same i (grown_of tables g old d.more) (sym d.stands ∙ stands_at tables g place old d.more d.there d.said) in
    let listed : message_of side (length (messages_of side old) + d.index) (grown_of tables g old d.more) ≡ Some m =
    subst (λ (x : Interface). message_of side (length (messages_of side old) + d.index) x ≡ Some m) same
    (subst (λ (o : ℕ). message_of side o i ≡ Some m) d.opcode_is d.listed) in
    record {
      interface = same;
      message = some_same m (placed_of tables g d.own)
          (sym listed ∙ listed_at tables g old d.more side d.index d.own d.of);
    }

added_back : (tables : List Interface) (written : List WrittenInterface) (line rule place : ℕ) (old i : Interface)
    (side : Side) (opcode : ℕ) (m : MessageSignature)
    → (d : AddsMessage tables written line place old i side opcode m)
    → AddedBreaks tables (gathered tables written) place old d.more side (length (messages_of side old) + d.index)
    d.own rule
    → InAdded tables (gathered tables written) 0 tables (gathered tables written).added line rule
added_back tables written line rule place old i side opcode m d breaks = record {
  index = place;
  old = old;
  more = d.more;
  side = side;
  at = d.there;
  said = d.said;
  breaks = record {
    place = d.index;
    message = d.own;
    at = d.of;
    line_is = d.line_is;
    breaks = let on : place ≡ 0 + place = omega arith in
        subst (λ (p : ℕ). AddedBreaks tables (gathered tables written) p old d.more side
        (length (messages_of side old) + d.index) d.own rule) on breaks;
  };
}

message_back : (tables : List Interface) (written : List WrittenInterface) (line rule place : ℕ) (old i : Interface)
    (side : Side) (opcode : ℕ) (m : MessageSignature)
    → (d : AddsMessage tables written line place old i side opcode m)
    → MessageBreaks (extended tables written) i side opcode m rule
    → InAdded tables (gathered tables written) 0 tables (gathered tables written).added line rule
message_back tables written line rule place old i side opcode m d breaks =
    let g = gathered tables written in
    let names = all_names tables g.declared in
    let same = is_added tables written line place old i side opcode m d in
    let all = placing (grown tables g) g.declared (behind_own_messages old d.more) in
    let o = length (messages_of side old) + d.index in
    let at_opcode = subst (λ (n : ℕ). MessageBreaks (extended tables written) i side n m rule) d.opcode_is breaks in
    let of_grown = subst (λ (x : Interface). MessageBreaks (extended tables written) x side o m rule) same.interface
    at_opcode in
    let of_written = like_interface (extended tables written) (grown_of tables g old d.more) all side o m rule
    (sym (same_names (first_place names) (length names) (grown tables g) g.declared old d.more side))
    (sym (same_many (first_place names) (length names) (grown tables g) g.declared old d.more)) refl of_grown in
    added_back tables written line rule place old i side opcode m d
    (inl (subst (λ (x : MessageSignature). MessageBreaks (extended tables written) all side o x rule)
    (same.message ∙ sym (same_message tables g d.own)) of_written))

clash_back : (tables : List Interface) (written : List WrittenInterface) (line rule place : ℕ) (old i : Interface)
    (side : Side) (opcode : ℕ) (m : MessageSignature)
    → (d : AddsMessage tables written line place old i side opcode m)
    → Clashes tables place old side m rule
    → InAdded tables (gathered tables written) 0 tables (gathered tables written).added line rule
clash_back tables written line rule place old i side opcode m d clash =
    let g = gathered tables written in
    let same = is_added tables written line place old i side opcode m d in
    added_back tables written line rule place old i side opcode m d
    (inr (subst (λ (x : MessageSignature). Clashes tables place old side x rule)
    (same.message ∙ sym (same_message tables g d.own)) clash))

abbrev Found : List Interface → List WrittenInterface → ℕ → ℕ → Type 0
Found tables written =
    let g = gathered tables written in
    Either (InExtensions (gathered tables []) written)
    (Either (InAdded tables g 0 tables g.added) (BreaksRule (grown tables g) g.declared))

in_words : (tables : List Interface) (written : List WrittenInterface) (line rule : ℕ)
    → Found tables written line rule → LineBreaks tables written line rule
in_words tables written line rule (inl witness) =
    by_extension (gathered_from (gathered tables []) witness.before) witness.own (record {
      before = witness.before;
      after = witness.after;
      whole = witness.whole;
      extends = witness.extends;
      below = refl;
      line_is = witness.line_is;
    }) witness.breaks
in_words tables written line rule (inr (inl witness)) = added_words tables written line rule witness
in_words tables written line rule (inr (inr witness)) = by_declared witness

from_words : (tables : List Interface) (written : List WrittenInterface) (line rule : ℕ)
    → LineBreaks tables written line rule → Found tables written line rule
from_words tables written line rule (by_declared witness) = inr (inr witness)
from_words tables written line rule (by_added place old i side opcode m d breaks) =
    inr (inl (message_back tables written line rule place old i side opcode m d breaks))
from_words tables written line rule (by_clash place old i side opcode m d clash) =
    inr (inl (clash_back tables written line rule place old i side opcode m d clash))
from_words tables written line rule (by_extension g own d breaks) = inl (record {
  before = d.before;
  own = own;
  after = d.after;
  whole = d.whole;
  extends = d.extends;
  line_is = d.line_is;
  breaks = subst (λ (x : Gathered). ExtensionBreaks x own rule) d.below breaks;
})

pub line_least : (tables : List Interface) (written : List WrittenInterface)
    → IsLeast (LineBreaks tables written) (first_line_broken tables written)
line_least tables written =
    let g = gathered tables written in
    like (Found tables written) (LineBreaks tables written) (in_words tables written) (from_words tables written)
    (first_line_broken tables written)
    (of_either _ _ _ _ (extensions_least (gathered tables []) written)
    (of_either _ _ _ _ (added_least tables g 0 tables g.added) (declared_least (grown tables g) g.declared)))

-- the first line that breaks a rule, and the lowest rule that it breaks
pub first_line : (tables : List Interface) (written : List WrittenInterface) (witness : Broken)
    → (first_line_broken tables written ≡ Some witness) ↔ IsFirstBrokenLine tables written witness
first_line tables written witness = (to, λ first. back first (first_line_broken tables written) refl)
  where
    least_at : (line rule : ℕ) → NotBefore witness line rule → witness.line ≤ line
    least_at line rule (inl lt) = omega (arith, lt)
    least_at line rule (inr same) = let is = same.0 in omega (arith, is)

    rule_at : (rule : ℕ) → NotBefore witness witness.line rule → witness.rule ≤ rule
    rule_at rule (inl lt) = absurd (omega (arith, lt))
    rule_at rule (inr same) = same.1

    to : first_line_broken tables written ≡ Some witness → IsFirstBrokenLine tables written witness
    to is =
        let least = line_least tables written in
        record {
          breaks = least.found witness is;
          least = λ rule breaks. rule_at rule (least.below witness is witness.line rule breaks);
          first = λ line rule breaks. least_at line rule (least.below witness is line rule breaks);
        }

    broken_of : ℕ → ℕ → Broken
    broken_of line rule = record { line = line; rule = rule }

    one : (other : Broken) → NotBefore other witness.line witness.rule → witness.line ≤ other.line
        → (witness.line ≡ other.line → witness.rule ≤ other.rule) → other ≡ witness
    one other (inl lt) le rules = absurd (omega (arith, lt, le))
    one other (inr same) le rules =
        let lines = same.0 in
        let le' = same.1 in
        let ge = rules (sym lines) in
        let at_rule : other.rule ≡ witness.rule = omega (arith, le', ge) in
        ap (λ (l : ℕ). broken_of l other.rule) lines ∙ ap (λ (r : ℕ). broken_of witness.line r) at_rule

    back : IsFirstBrokenLine tables written witness → (o : Option Broken) → first_line_broken tables written ≡ o
        → o ≡ Some witness
    back first None none = absurd ((line_least tables written).none none witness.line witness.rule first.breaks)
    back first (Some other) is =
        let least = line_least tables written in
        let there = least.found other is in
        ap (λ (b : Broken). Some b) (one other (least.below other is witness.line witness.rule first.breaks)
        (first.first other.line other.rule there)
        (λ lines. first.least other.rule (subst (λ (l : ℕ). LineBreaks tables written l other.rule) (sym lines) there)))
