use Rattle.std.proofs.Common.{◌≡◌, ℕ, ◌+◌, ◌≤◌, List, length, drop, take, ap, ◌∙◌, arith}
use Rattle.std.proofs.lemmas.List.{length-take-le, length-drop}
use Rattle.wl_wire.specs.Spelling.{has_nul}
use Rattle.wl_wire.proofs.Lanes.{nul_least, least_len}
use Rattle.wl_wire.proofs.text.least_of_2.Goals as goal

loaded : (text xs : List ℕ) (at : ℕ) → at + 64 ≤ length text → xs ≡ take 64 (drop at text) → length xs ≡ 64
loaded text xs at room is = ap length is ∙ length-take-le 64 (drop at text) (omega (arith, length-drop at text))

pub returns-clause-nul : goal.returns-clause-nul
returns-clause-nul c =
    nul_least c.args.text.now c.load.result c.load-2.result c.args.at 64
    (loaded c.args.text.now c.load.result c.args.at (omega arith) c.load.ensures)
    (loaded c.args.text.now c.load-2.result (c.args.at + 64) (omega arith) c.load-2.ensures)
    (ap has_nul c.load.ensures) (ap has_nul c.load-2.ensures)

pub returns-clause-len : goal.returns-clause-len
returns-clause-len c =
    least_len c.load.result c.load-2.result (loaded c.args.text.now c.load.result c.args.at
    (omega arith) c.load.ensures) (loaded c.args.text.now c.load-2.result (c.args.at + 64)
    (omega arith) c.load-2.ensures)
