use Rattle.std.proofs.Common.{◌≡◌, List, sym, ap, ◌∙◌, Some, None}
use Rattle.std.proofs.Math.Path.{ap₂}
use Rattle.std.specs.Prelude.{position, bytes_eq}
use Rattle.std.specs.List.{insert}
use Rattle.wl_text.specs.Text.{WrittenInterface}
use Rattle.wl_rules.proofs.Extensions.{extend_none, extend_some}
use Rattle.wl_rules.proofs.extending.extend_first.Goals as goal

pub returns-in-Some : goal.returns-in-Some
returns-in-Some g c =
    let name : c.more.inside.name.now ≡ c.args.more.name = ap (λ (x : WrittenInterface). x.name) c.more.view_is in
    let at : position (λ i. bytes_eq i.name c.args.more.name) c.args.written.items ≡ Some c.in-Some.place =
    rw (← name, ← c.as_slice.ensures.value) (sym c.place_named.ensures ∙ c.in-Some.is) in
    c.in_ok-insert-in-Some.ensures.items
    ∙ ap₂ (λ (l : List WrittenInterface) (e : WrittenInterface). insert l c.in-Some.place e)
    c.remove-interface.ensures.items c.in_ok-extended-in-Some.ensures
    ∙ sym (extend_some c.args.more c.args.written.items c.in-Some.place c.remove-interface.result at
    c.remove-interface.ensures.value)

pub returns : goal.returns
returns g c =
    let name : c.more.inside.name.now ≡ c.args.more.name = ap (λ (x : WrittenInterface). x.name) c.more.view_is in
    let at : position (λ i. bytes_eq i.name c.args.more.name) c.args.written.items ≡ None =
    rw (← name, ← c.as_slice.ensures.value) (sym c.place_named.ensures ∙ c.in-None.is) in
    sym (extend_none c.args.more c.args.written.items at)
