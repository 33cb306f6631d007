-- Padding of zeros.
use Rattle.std.proofs.Common.{◌≡◌, ℕ, zero, suc, ◌≤◌, [], ◌∷◌, take, refl, arith}
use Rattle.wl_wire.specs.Spelling.{zeros}

pub zeros_front : (k : ℕ) → k ≤ 4 → take k (0 ∷ 0 ∷ 0 ∷ 0 ∷ []) ≡ zeros k
zeros_front zero h = refl
zeros_front (suc zero) h = refl
zeros_front (suc (suc zero)) h = refl
zeros_front (suc (suc (suc zero))) h = refl
zeros_front (suc (suc (suc (suc zero)))) h = refl
zeros_front (suc (suc (suc (suc (suc k))))) h = absurd (omega arith)
