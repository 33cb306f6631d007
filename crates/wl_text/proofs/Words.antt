-- The words of a line.
use Rattle.std.proofs.Common.{◌≡◌, ℕ, Bool, ◌==◌, true, false, cond, List, [], ◌∷◌, ◌++◌, refl, ap, Some, None}
use Rattle.std.specs.Prelude.{option_map}
use Rattle.std.specs.List.{onto_first}
use Rattle.wl_text.proofs.Cuts.{onto_first_some}
use Rattle.wl_text.specs.Lines.{words}
use Rattle.wl_text.specs.Text.{WrittenMessage, WrittenInterface, since_of, interface_of}
use Rattle.wl_text.specs.Text.{with_written_message, message_added}

-- each line has at least one word
pub words_some : (line : List ℕ) → (first : List ℕ) × (more : List (List ℕ)) × (words line ≡ first ∷ more)
words_some [] = ([], [], refl)
words_some (b ∷ line) = elim (b == 32) as (λ t. (first : List ℕ) × (more : List (List ℕ))
    × (cond t ([] ∷ words line) (onto_first b (words line)) ≡ first ∷ more)) [
      | true ↦ ([], words line, refl)
      | false ↦ onto_first_some b (words line)
    ]

-- a since number is a line's last word
pub since_alone : (word line : List ℕ) → since_of (word ∷ words line) ≡ None
since_alone word line = let w = words_some line in rw w.2 refl

-- a version is a line's last word
pub version_alone : (extends : Bool) (n : ℕ) (name digits line : List ℕ)
    → interface_of extends n (name ∷ digits ∷ words line) ≡ None
version_alone extends n name digits line = let w = words_some line in rw w.2 refl

-- a message is added to the last interface
pub added_last : (is_request : Bool) (m : WrittenMessage) (xs : List WrittenInterface) (i : WrittenInterface)
    → message_added is_request m (xs ++ i ∷ []) ≡ Some (xs ++ with_written_message is_request m i ∷ [])
added_last side m [] i = refl
added_last side m (x ∷ []) i = refl
added_last side m (x ∷ y ∷ xs) i = ap (option_map (λ all. x ∷ all)) (added_last side m (y ∷ xs) i)
