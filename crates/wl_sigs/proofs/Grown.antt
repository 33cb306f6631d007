-- What is at each place of tables to which a text adds messages.
use Rattle.std.proofs.Common.{◌≡◌, ℕ, zero, suc, List, [], ◌∷◌, ◌++◌, length}
use Rattle.std.proofs.Common.{map, refl, sym, ap, ◌∙◌, Some, Option, slice_get, arith}
use Rattle.std.specs.Prelude.{◌&&◌}
use Rattle.std.proofs.lemmas.List.{map-append, length-append, length-map}
use Rattle.wl_sigs.specs.Side.{Side}
use Rattle.wl_sigs.specs.Side.TheVariants.{Request, Event}
use Rattle.wl_sigs.specs.Rules.{is_empty}
use Rattle.wl_sigs.specs.Tables.{MessageSignature, Interface, messages_of}
use Rattle.wl_text.specs.Text.{WrittenMessage, WrittenInterface}
use Rattle.wl_sigs.specs.Joined.{all_names, first_place, message_placed}
use Rattle.wl_sigs.specs.FirstBroken.{written_of}
use Rattle.wl_sigs.specs.Extended.{Gathered, interface_grown, all_grown, grown}
use Rattle.wl_sigs.specs.Extending.{named_message, behind_own_messages}
use Rattle.wl_sigs.proofs.JoinedLookup.{placing, placing_message, placed_messages}

-- an interface to which something is added
pub grown_at : (place : List ℕ → Option ℕ) (past : ℕ) (tables : List Interface) (added : List WrittenInterface) (p : ℕ)
    (i : Interface) (more : WrittenInterface) → slice_get tables p ≡ Some i → slice_get added p ≡ Some more
    → slice_get (all_grown place past tables added) p ≡ Some (interface_grown place past i more)
grown_at place past [] added p i more at said = cc at
grown_at place past (x ∷ tables) [] p i more at said = cc said
grown_at place past (x ∷ tables) (w ∷ added) zero i more at said =
    let same : x ≡ i = cc at in
    let same' : w ≡ more = cc said in
    ap (λ (j : Interface). Some (interface_grown place past j w)) same
    ∙ ap (λ (v : WrittenInterface). Some (interface_grown place past i v)) same'
grown_at place past (x ∷ tables) (w ∷ added) (suc p) i more at said = grown_at place past tables added p i more at said

-- names stay
names_of_grown : (place : List ℕ → Option ℕ) (past : ℕ) (tables : List Interface) (added : List WrittenInterface)
    → map (λ i. i.name) (all_grown place past tables added) ≡ map (λ i. i.name) tables
names_of_grown place past [] added = refl
names_of_grown place past (x ∷ tables) [] = refl
names_of_grown place past (x ∷ tables) (w ∷ added) =
    ap (λ (names : List (List ℕ)). x.name ∷ names) (names_of_grown place past tables added)

pub names_grown : (tables : List Interface) (g : Gathered)
    → all_names (grown tables g) g.declared ≡ all_names tables g.declared
names_grown tables g =
    let names = all_names tables g.declared in
    ap (λ (front : List (List ℕ)). front ++ map (λ (i : WrittenInterface). i.name) g.declared)
    (names_of_grown (first_place names) (length names) tables g.added)

pub length_grown : (place : List ℕ → Option ℕ) (past : ℕ) (tables : List Interface) (added : List WrittenInterface)
    → length (all_grown place past tables added) ≡ length tables
length_grown place past [] added = refl
length_grown place past (x ∷ tables) [] = refl
length_grown place past (x ∷ tables) (w ∷ added) = ap suc (length_grown place past tables added)

-- what is added to an interface
pub record Grows (place : List ℕ → Option ℕ) (past : ℕ) (tables : List Interface) (added : List WrittenInterface)
    (p : ℕ) (j : Interface) : Type 0 where
  pub old : Interface
  pub more : WrittenInterface
  pub at : slice_get tables p ≡ Some old
  pub said : slice_get added p ≡ Some more
  pub is : j ≡ interface_grown place past old more

pub from_grown : (place : List ℕ → Option ℕ) (past : ℕ) (tables : List Interface) (added : List WrittenInterface)
    → length added ≡ length tables → (p : ℕ) (j : Interface)
    → slice_get (all_grown place past tables added) p ≡ Some j → Grows place past tables added p j
from_grown place past [] added len p j at = cc at
from_grown place past (x ∷ tables) [] len p j at = absurd (omega (arith, len))
from_grown place past (x ∷ tables) (w ∷ added) len zero j at = record {
  old = x;
  more = w;
  at = refl;
  said = refl;
  is = let same : interface_grown place past x w ≡ j = cc at in sym same;
}
from_grown place past (x ∷ tables) (w ∷ added) len (suc p) j at =
    let witness = from_grown place past tables added (omega (arith, len)) p j at in
    record { old = witness.old; more = witness.more; at = witness.at; said = witness.said; is = witness.is }

-- the messages of a side
pub grown_messages : (place : List ℕ → Option ℕ) (past : ℕ) (i : Interface) (more : WrittenInterface) (side : Side)
    → messages_of side (interface_grown place past i more)
    ≡ messages_of side i ++ map (message_placed place past) (written_of side more)
grown_messages place past i more Request = refl
grown_messages place past i more Event = refl

pub empty_behind : (i : Interface) (more : WrittenInterface)
    → is_empty (behind_own_messages i more).requests ≡ is_empty i.requests && is_empty more.requests
empty_behind i more = by_cases i.requests more.requests
  where
    by_cases : (old : List MessageSignature) (new : List WrittenMessage)
        → is_empty (map named_message old ++ new) ≡ is_empty old && is_empty new
    by_cases [] new = refl
    by_cases (m ∷ old) new = refl

pub written_behind : (i : Interface) (more : WrittenInterface) (side : Side)
    → written_of side (behind_own_messages i more) ≡ map named_message (messages_of side i) ++ written_of side more
written_behind i more Request = refl
written_behind i more Event = refl

-- the names of an interface's messages, followed by the names of those that a text adds
names_by_name : (ms : List MessageSignature)
    → map (λ n. n.name) (map named_message ms) ≡ map (λ n. n.name) ms
names_by_name [] = refl
names_by_name (m ∷ ms) = ap (λ (names : List (List ℕ)). m.name ∷ names) (names_by_name ms)

placed_message_names : (place : List ℕ → Option ℕ) (past : ℕ) (ms : List WrittenMessage)
    → map (λ n. n.name) (map (message_placed place past) ms) ≡ map (λ n. n.name) ms
placed_message_names place past [] = refl
placed_message_names place past (m ∷ ms) =
    ap (λ (names : List (List ℕ)). m.name ∷ names) (placed_message_names place past ms)

pub names_behind : (i : Interface) (more : WrittenInterface) (side : Side)
    → map (λ n. n.name) (written_of side (behind_own_messages i more))
    ≡ map (λ n. n.name) (messages_of side i) ++ map (λ n. n.name) (written_of side more)
names_behind i more side =
    ap (λ (ms : List WrittenMessage). map (λ n. n.name) ms) (written_behind i more side)
    ∙ map-append (λ (n : WrittenMessage). n.name) (map named_message (messages_of side i)) (written_of side more)
    ∙ ap (λ (names : List (List ℕ)). names ++ map (λ n. n.name) (written_of side more))
    (names_by_name (messages_of side i))

pub names_of_messages : (place : List ℕ → Option ℕ) (past : ℕ) (i : Interface) (more : WrittenInterface) (side : Side)
    → map (λ n. n.name) (messages_of side (interface_grown place past i more))
    ≡ map (λ n. n.name) (messages_of side i) ++ map (λ n. n.name) (written_of side more)
names_of_messages place past i more side =
    ap (λ (ms : List MessageSignature). map (λ n. n.name) ms) (grown_messages place past i more side)
    ∙ map-append (λ (n : MessageSignature). n.name) (messages_of side i)
    (map (message_placed place past) (written_of side more))
    ∙ ap (λ (names : List (List ℕ)). map (λ n. n.name) (messages_of side i) ++ names)
    (placed_message_names place past (written_of side more))

-- an interface to which messages are added has the same names in both forms: that of a text and
-- that of the tables
pub same_names : (place : List ℕ → Option ℕ) (past : ℕ) (tables : List Interface) (written : List WrittenInterface)
    (i : Interface) (more : WrittenInterface) (side : Side)
    → map (λ n. n.name) (messages_of side (placing tables written (behind_own_messages i more)))
    ≡ map (λ n. n.name) (messages_of side (interface_grown place past i more))
same_names place past tables written i more side =
    ap (λ (ms : List MessageSignature). map (λ n. n.name) ms)
    (placed_messages tables written side (behind_own_messages i more))
    ∙ placed_message_names (first_place (all_names tables written)) (length (all_names tables written))
    (written_of side (behind_own_messages i more))
    ∙ names_behind i more side ∙ sym (names_of_messages place past i more side)

pub same_many : (place : List ℕ → Option ℕ) (past : ℕ) (tables : List Interface) (written : List WrittenInterface)
    (i : Interface) (more : WrittenInterface)
    → length (placing tables written (behind_own_messages i more)).requests
    ≡ length (interface_grown place past i more).requests
same_many place past tables written i more =
    omega (
      arith,
      length-map (behind_own_messages i more).requests (placing_message tables written),
      length-append (map named_message i.requests) more.requests,
      length-map i.requests named_message,
      length-append i.requests (map (message_placed place past) more.requests),
      length-map more.requests (message_placed place past),
    )
