use Rattle.std.proofs.Common.{◌≡◌, ◌-◌, length, take, append_assoc, ℕ, [], ◌∷◌, arith}
use Rattle.wl_wire.specs.Spelling.{padded, zeros}
use Rattle.wl_wire.proofs.Zeros.{zeros_front}
use Rattle.wl_wire.proofs.writing.append_padded.Goals as goal

pub returns-clause-items : goal.returns-clause-items
returns-clause-items g c =
    let k : ℕ = padded c.args.len - length c.args.bytes.now in
    let e : take k (0 ∷ 0 ∷ 0 ∷ 0 ∷ []) ≡ zeros k = zeros_front k (omega arith) in
    rw (c.append-2.ensures.items, c.append.ensures.items, c.append_word.ensures.items, c.padded_len.ensures, e)
    (simp append_assoc)
