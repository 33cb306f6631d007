use Rattle.std.proofs.Common.{◌++◌, ◌∷◌, [], List, sym, ap, ◌∙◌}
use Rattle.std.proofs.Math.Path.{ap₂}
use Rattle.std.proofs.lemmas.List.{map_more}
use Rattle.wl_text.specs.Text.{WrittenInterface}
use Rattle.wl_sigs.specs.Extended.{unsaid}
use Rattle.wl_sigs.proofs.tables.Tables.unsaid.Goals as goal

pub loop-entry-preserved : goal.loop-entry-preserved
loop-entry-preserved g c =
    let entries = c.deref-entry-items.result.now in
    c.in_ok-push.ensures.items
    ∙ ap₂ (λ (l : List WrittenInterface) (w : WrittenInterface). l ++ w ∷ []) c.loop-entry.invariant
    (c.in_ok-unsaid.ensures ∙ ap unsaid c.entry-item.is)
    ∙ sym (map_more unsaid entries c.loop-entry.entry-index c.entry-item.result c.loop-entry-test.true)
