use Rattle.std.proofs.Common.{◌≡◌, ◌+◌, ◌-◌, ◌*◌, ◌/◌, ◌<◌, ap, sym, ◌∙◌, ℕ, arith}
use Rattle.std.specs.Prelude.{not, ◌&&◌}
use Rattle.wl_server.specs.State.{Registry, has_name}
use Rattle.wl_server.proofs.WordByWord.{no-removal}
use Rattle.wl_server.proofs.registry.OpenRegistry.next_removal.Goals as goal

pub returns-clause-none : goal.returns-clause-none
returns-clause-none c k after before =
    let word : ℕ = c.args.place / 64 in
    let bit : ℕ = k - 64 * word in
    let at : k + 1 ≡ 64 * word + bit + 1 = omega (arith, after) in
    let l : bit < 64 = omega (arith, after, before, c.next_in.ensures.within) in
    ap (λ (n : ℕ). (has_name c.args.self.now.told n && has_name c.args.withdrawn.now n)
    && not (has_name c.args.self.now.removed n)) at
    ∙ ((λ i. ((sym (c.word.ensures bit l ∙ ap (λ (r : Registry). has_name r.told (64 * word + bit + 1)) c.self.view_is) i)
    && (sym (c.word-2.ensures bit l) i))
    && not (sym (c.word-3.ensures bit l
    ∙ ap (λ (r : Registry). has_name r.removed (64 * word + bit + 1)) c.self.view_is) i))
    ∙ no-removal c.word.result c.word-2.result c.word-3.result bit c.word-3.type_inv l
    (c.next_in.ensures.none bit (omega (arith, after)) (omega (arith, after, before))))
