-- The copy that a reader keeps of what it reads.
use Rattle.std.specs.Prelude.{◌≡◌, ℕ, ◌-◌, List, [], ◌++◌, length, take, Result, MatchResult}

-- the bytes that were copied, and how many may be
pub record Copy : Type 0 where
  pub bytes : List ℕ
  pub room : ℕ

-- how many more bytes may be copied
abbrev pub room_left : Copy → ℕ
room_left c = c.room - length c.bytes

-- the copy with these bytes appended
abbrev pub with_copied : Copy → List ℕ → Copy
with_copied c bytes = record c { bytes = c.bytes ++ bytes }

-- the copy after it was emptied
abbrev pub emptied : Copy → Copy
emptied c = record c { bytes = [] }

-- A read copies the bytes that it returns; a read that fails copies none.
abbrev pub Copies : {E : Type 0} → Copy → Result ℕ E → List ℕ → Copy → Type 0
Copies before result given after =
    MatchResult result (λ n. after ≡ with_copied before (take n given)) (λ _. after ≡ before)
