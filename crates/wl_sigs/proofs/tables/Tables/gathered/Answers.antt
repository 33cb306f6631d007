use Rattle.std.proofs.Common.{◌≡◌, List, true, not, sym, ap, ◌∙◌}
use Rattle.std.specs.List.{list_all}
use Rattle.wl_text.specs.Text.{WrittenInterface}
use Rattle.wl_sigs.specs.Extended.{Gathered, whole_of}
use Rattle.wl_sigs.specs.Extending.{messages_or_declared_broken}
use Rattle.wl_sigs.proofs.Unsaid.{extended_declaring, first_declaring}
use Rattle.wl_sigs.proofs.tables.Tables.gathered.Goals as goal

pub returns-clause-whole : goal.returns-clause-whole
returns-clause-whole g c =
    let tables = c.args.self.now in
    let written = c.args.written.items in
    let none : list_all (λ (i : WrittenInterface). not i.extends) written ≡ true =
    ap (list_all (λ (i : WrittenInterface). not i.extends)) (sym c.as_slice.ensures.value)
    ∙ sym c.none_extends.ensures ∙ c.if-not-none_extends.false in
    ap (λ (more : List WrittenInterface). let x : Gathered = record { added = more; declared = written }
    in whole_of tables x) c.new-added.ensures.items
    ∙ extended_declaring tables written none

pub returns-clause-first : goal.returns-clause-first
returns-clause-first g c =
    let tables = c.args.self.now in
    let written = c.args.written.items in
    let none : list_all (λ (i : WrittenInterface). not i.extends) written ≡ true =
    ap (list_all (λ (i : WrittenInterface). not i.extends)) (sym c.as_slice.ensures.value)
    ∙ sym c.none_extends.ensures ∙ c.if-not-none_extends.false in
    ap (λ (more : List WrittenInterface). let x : Gathered = record { added = more; declared = written }
    in messages_or_declared_broken tables x) c.new-added.ensures.items
    ∙ first_declaring tables written none
