use Rattle.std.proofs.Common.{◌-◌, ◌≤◌, ℕ, List, length, map, ap, drop, sym, ◌∙◌, arith}
use Rattle.std.specs.List.{drop-map}
use Rattle.std.proofs.lemmas.List.{length-map}
use Rattle.circular_buffer.specs.Buffer.{Buffer, buffer}
use Rattle.wl_message.specs.declared.boundaries.Boundary.{Boundary}
use Rattle.wl_message.specs.Boundaries.{boundary_in_word}
use Rattle.wl_message.proofs.Fronts.{keep_rest}
use Rattle.wl_message.proofs.boundaries.Boundaries.remove_first.Goals as goal

pub returns : goal.returns
returns g c =
    let words = c.self.inside.words in
    let n : ℕ = c.args.n in
    let there : n ≤ length words.items = omega (
      arith,
      c.requires,
      ap (λ (b : Buffer Boundary). length b.items) c.self.view_is,
      length-map words.items boundary_in_word,
    ) in
    rw (c.truncate_front.ensures) (
    ap (λ (boundaries : List Boundary). buffer boundaries words.capacity)
    (ap (map boundary_in_word) (keep_rest words.items n _ (ap (λ (k : ℕ). k - n) c.len.ensures.len) there)
    ∙ sym (drop-map boundary_in_word n words.items))
    ∙ ap (λ (b : Buffer Boundary). buffer (drop n b.items) b.capacity) c.self.view_is)
