-- Hashes of names.
use Rattle.std.specs.Prelude.{ℕ, List}
use Rattle.std.specs.Hash.FoldHasher.{initial, write, finish}

-- the hash of a name by std's FoldHasher
abbrev pub name_hash : List ℕ → ℕ
name_hash name = finish (write initial name)
