-- Names for which a registry is owed nothing.
use Rattle.std.specs.Prelude.{◌≡◌, ℕ, ◌+◌, ◌<◌, Bool, false, not, ◌&&◌, List, length}
use Rattle.std.specs.Prelude.{slice_index_or}
use Rattle.wl_server.specs.State.{Global, Registry, has_name}

-- among the names of globals, the set has exactly those of withdrawn ones
abbrev pub AreWithdrawn : List Global → List Bool → Type 0
AreWithdrawn globals names = (k : ℕ) (x : Global) → k < length globals
    → x ≡ slice_index_or globals k x
    → has_name names (k + 1) ≡ not x.present

-- between two places, every announced and withdrawn name has had its removal sent
abbrev pub OwesNoRemoval : Registry → List Bool → ℕ → ℕ → Type 0
OwesNoRemoval r withdrawn place next = (k : ℕ) → place < k → k < next
    → ((has_name r.told (k + 1) && has_name withdrawn (k + 1)) && not (has_name r.removed (k + 1)))
    ≡ false

-- between two places, every name was announced or is withdrawn
abbrev pub OwesNoTelling : Registry → List Bool → ℕ → ℕ → Type 0
OwesNoTelling r withdrawn place next = (k : ℕ) → place < k → k < next
    → (not (has_name withdrawn (k + 1)) && not (has_name r.told (k + 1))) ≡ false
