use Rattle.std.proofs.Common.{length, sym, ap, ◌∙◌}
use Rattle.std.proofs.lemmas.List.{length-map}
use Rattle.circular_buffer.specs.Buffer.{Buffer}
use Rattle.wl_message.specs.declared.boundaries.Boundary.{Boundary}
use Rattle.wl_message.specs.Boundaries.{boundary_in_word}
use Rattle.wl_message.proofs.boundaries.Boundaries.len.Goals as goal

pub returns : goal.returns
returns g c = c.len.ensures.len ∙ sym (length-map c.self.inside.words.items boundary_in_word)
    ∙ ap (λ (b : Buffer Boundary). length b.items) c.self.view_is
