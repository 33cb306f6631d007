-- Cutting a text into lines, and a line into words.
use Rattle.std.proofs.Common.{◌≡◌, ◌≢◌, ℕ, ◌-◌, ◌<◌, ◌≤◌, ◌==◌, true, false, cond, List, [], ◌∷◌}
use Rattle.std.proofs.Common.{◌++◌, length, take, drop, slice_index, refl, arith}
use Rattle.std.specs.List.{All, slice_split, onto_first}
use Rattle.std.specs.Str.Lines.{lines, strip_carriage_return}
use Rattle.std.proofs.lemmas.List.Splits.{slice_split_at, slice_split_none}
use Rattle.wl_text.specs.Lines.{words}
use Rattle.std.proofs.lemmas.Bool.{ne_eqb}
use Rattle.std.proofs.lemmas.Grind.{common_steps}

-- the parts of a text between line feeds: at least one
abbrev pub parts : List ℕ → List (List ℕ)
parts text = slice_split (λ b. b == 10) text

pub onto_first_some : (b : ℕ) (ps : List (List ℕ)) → (first : List ℕ) × (more : List (List ℕ))
    × (onto_first b ps ≡ first ∷ more)
onto_first_some b [] = (b ∷ [], [], refl)
onto_first_some b (p ∷ ps) = (b ∷ p, ps, refl)

pub parts_some : (text : List ℕ) → (first : List ℕ) × (more : List (List ℕ)) × (parts text ≡ first ∷ more)
parts_some [] = ([], [], refl)
parts_some (b ∷ text) = elim (b == 10) as (λ t. (first : List ℕ) × (more : List (List ℕ))
    × (cond t ([] ∷ parts text) (onto_first b (parts text)) ≡ first ∷ more)) [
      | true ↦ ([], parts text, refl)
      | false ↦ onto_first_some b (parts text)
    ]

-- a text that begins with a line and its line feed
pub lines_ended : (line rest : List ℕ) → All (λ b. b ≢ 10) line
    → lines (line ++ 10 ∷ rest) ≡ strip_carriage_return line ∷ lines rest
lines_ended line rest clean =
    let p = parts_some rest in
    let clean' : All (λ b. (b == 10) ≡ false) line = λ k d lt. ne_eqb _ _ (clean k d lt) in
    let e = slice_split_at (λ b. b == 10) line 10 rest clean' refl in
    rw (e, p.2) refl

-- a text without a line feed
pub lines_last : (line : List ℕ) → 0 < length line → All (λ b. b ≢ 10) line → lines line ≡ line ∷ []
lines_last line some clean =
    let clean' : All (λ b. (b == 10) ≡ false) line = λ k d lt. ne_eqb _ _ (clean k d lt) in
    let e = slice_split_none (λ b. b == 10) line clean' in
    rw e (grind (arith, common_steps))

-- the first line of a text: the part before the first line feed
pub first_last : (text line rest : List ℕ) → 0 < length text → text ≡ line ++ rest → All (λ b. b ≢ 10) line
    → length rest < 1
    → lines text ≡ line ∷ lines rest
first_last text line [] some whole clean none =
    let e : text ≡ line = grind (arith, common_steps) in
    rw e (lines_last line (rw e at some) clean)
first_last text line (b ∷ rest) some whole clean none = absurd (omega arith)

pub first_ended : (text line rest stripped : List ℕ) → text ≡ line ++ rest → All (λ b. b ≢ 10) line
    → (0 < length rest → slice_index rest 0 ≡ 10) → 1 ≤ length rest → stripped ≡ strip_carriage_return line
    → lines text ≡ stripped ∷ lines (take (length rest - 1) (drop 1 rest))
first_ended text line [] stripped whole clean feed some strips = absurd (omega arith)
first_ended text line (b ∷ rest) stripped whole clean feed some strips =
    let is_feed : b ≡ 10 = feed (omega arith) in
    let e : text ≡ line ++ 10 ∷ rest = rw (← is_feed) whole in
    let r : take (length (b ∷ rest) - 1) (drop 1 (b ∷ rest)) ≡ rest = grind (arith, common_steps) in
    rw (e, r, strips) (lines_ended line rest clean)

-- the first word of a line: the part before the first space
pub word_last : (line word rest : List ℕ) → line ≡ word ++ rest → All (λ b. b ≢ 32) word → length rest < 1
    → words line ≡ word ∷ []
word_last line word [] whole clean none =
    let e : line ≡ word = grind (arith, common_steps) in
    let clean' : All (λ b. (b == 32) ≡ false) word = λ k d lt. ne_eqb _ _ (clean k d lt) in
    rw e (slice_split_none (λ b. b == 32) word clean')
word_last line word (b ∷ rest) whole clean none = absurd (omega arith)

pub word_ended : (line word rest : List ℕ) → line ≡ word ++ rest → All (λ b. b ≢ 32) word
    → (0 < length rest → slice_index rest 0 ≡ 32) → 1 ≤ length rest
    → words line ≡ word ∷ words (take (length rest - 1) (drop 1 rest))
word_ended line word [] whole clean space some = absurd (omega arith)
word_ended line word (b ∷ rest) whole clean space some =
    let is_space : b ≡ 32 = space (omega arith) in
    let e : line ≡ word ++ 32 ∷ rest = rw (← is_space) whole in
    let r : take (length (b ∷ rest) - 1) (drop 1 (b ∷ rest)) ≡ rest = grind (arith, common_steps) in
    let clean' : All (λ b. (b == 32) ≡ false) word = λ k d lt. ne_eqb _ _ (clean k d lt) in
    rw (e, r) (slice_split_at (λ b. b == 32) word 32 rest clean' refl)
