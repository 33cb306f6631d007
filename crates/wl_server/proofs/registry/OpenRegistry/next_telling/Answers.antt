use Rattle.std.proofs.Common.{◌≡◌, ◌+◌, ◌-◌, ◌*◌, ◌/◌, ◌<◌, ap, sym, ◌∙◌, ℕ, arith}
use Rattle.std.specs.Prelude.{not, ◌&&◌}
use Rattle.wl_server.specs.State.{Registry, has_name}
use Rattle.wl_server.proofs.WordByWord.{no-telling}
use Rattle.wl_server.proofs.registry.OpenRegistry.next_telling.Goals as goal

pub returns-clause-none : goal.returns-clause-none
returns-clause-none c k after before =
    let word : ℕ = c.args.place / 64 in
    let bit : ℕ = k - 64 * word in
    let at : k + 1 ≡ 64 * word + bit + 1 = omega (arith, after) in
    let l : bit < 64 = omega (arith, after, before, c.next_in.ensures.within) in
    ap (λ (n : ℕ). not (has_name c.args.withdrawn.now n) && not (has_name c.args.self.now.told n)) at
    ∙ ((λ i. not (sym (c.word-2.ensures bit l) i)
    && not (sym (c.word.ensures bit l
    ∙ ap (λ (r : Registry). has_name r.told (64 * word + bit + 1)) c.self.view_is) i))
    ∙ no-telling c.word.result c.word-2.result bit c.word.type_inv c.word-2.type_inv l
    (c.next_in.ensures.none bit (omega (arith, after)) (omega (arith, after, before))))
