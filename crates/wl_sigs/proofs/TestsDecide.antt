-- Tests of lists, sides and messages decide what they say.
use Rattle.std.proofs.Common.{◌≡◌, ℕ, ◌≤◌, List, [], ◌∷◌, Bool, refl, subst, get_or, nat_le, slice_get, Some}
use Rattle.std.specs.List.{All, list_all}
use Rattle.std.specs.Bool.{Decides}
use Rattle.std.proofs.lemmas.Bool.{leb-true, le-leb}
use Rattle.std.proofs.lemmas.Bool.Decides.{Decides-by_and, Decides-like, Decides-and}
use Rattle.std.proofs.lemmas.Option.{slice_get_within, get_or_from_slice_get, slice_get-get_or}
use Rattle.wl_sigs.specs.Side.{Side}
use Rattle.wl_sigs.specs.Side.TheVariants.{Request, Event}
use Rattle.wl_sigs.specs.Tables.{MessageSignature, Interface, messages_of}
use Rattle.wl_sigs.specs.Valid.{EachMessage}
use Rattle.wl_sigs.proofs.Lookups.{found, signature_from}
use Rattle.wl_sigs.specs.Rules.{both_sides, each_message, is_empty}

pub Decides-le : (a b : ℕ) → Decides (nat_le a b) (a ≤ b)
Decides-le a b = (leb-true a b, le-leb a b)

pub Decides-empty : {X : Type 0} (xs : List X) → Decides (is_empty xs) (xs ≡ [])
Decides-empty [] = (λ _. refl, λ _. refl)
Decides-empty (x ∷ xs) = (λ h. cc, λ h. cc)

pub Decides-list_all : {X : Type 0} (test : X → Bool) (P : X → Type 0) → ((x : X) → Decides (test x) (P x))
    → (xs : List X) → Decides (list_all test xs) (All P xs)
Decides-list_all test P each xs = Decides-by_and test P (list_all test) each refl (λ _ _. refl) xs

-- what holds for all elements holds for the one at each place
each_from : {X : Type 0} (P : X → Type 0) (xs : List X) → All P xs → (k : ℕ) (x : X) → slice_get xs k ≡ Some x → P x
each_from P xs all k x at = subst P (get_or_from_slice_get xs k x x at) (all k x (slice_get_within xs k x at))

pub all_from_each : {X : Type 0} (P : X → Type 0) (xs : List X) → ((k : ℕ) (x : X) → slice_get xs k ≡ Some x → P x)
    → All P xs
all_from_each P xs each k d within = each k (get_or xs k d) (slice_get-get_or xs k d within)

pub Decides-each : {X : Type 0} (test : X → Bool) (P : X → Type 0) → ((x : X) → Decides (test x) (P x)) → (xs : List X)
    → Decides (list_all test xs) ((k : ℕ) (x : X) → slice_get xs k ≡ Some x → P x)
Decides-each test P each xs = Decides-like (list_all test xs) (each_from P xs) (all_from_each P xs)
    (Decides-list_all test P each xs)

by_side : (P : Side → Type 0) → P Request → P Event → (side : Side) → P side
by_side P request event Request = request
by_side P request event Event = event

pub Decides-both : (test : Side → Bool) (P : Side → Type 0) → ((side : Side) → Decides (test side) (P side))
    → Decides (both_sides test) ((side : Side) → P side)
Decides-both test P each =
    Decides-like (both_sides test) (λ both. by_side P both.0 both.1) (λ all. (all Request, all Event))
    (Decides-and (test Request) (test Event) (each Request) (each Event))

pub Decides-message : (test : MessageSignature → Bool) (P : MessageSignature → Type 0)
    → ((m : MessageSignature) → Decides (test m) (P m))
    → (tables : List Interface) (side : Side) → Decides (each_message test tables side) (EachMessage tables side P)
Decides-message test P each tables side =
    Decides-like (each_message test tables side)
    (λ all place opcode m h. let witness = found tables place side opcode m h in all place witness.interface witness.at opcode m witness.of)
    (λ all place i at opcode m of. all place opcode m (signature_from tables place side opcode i m at of))
    (Decides-each (λ i. list_all test (messages_of side i))
    (λ i. (opcode : ℕ) (m : MessageSignature) → slice_get (messages_of side i) opcode ≡ Some m → P m)
    (λ i. Decides-each test P each (messages_of side i)) tables)
