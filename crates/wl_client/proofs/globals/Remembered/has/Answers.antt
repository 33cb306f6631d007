use Rattle.std.proofs.Common.{sym, ap, ◌∙◌}
use Rattle.std.specs.Prelude.{is_some}
use Rattle.std.specs.Option.{option_copied}
use Rattle.wl_client.specs.State.{global_of}
use Rattle.wl_client.proofs.globals.Remembered.has.Goals as goal
use Rattle.wl_client.proofs.NamedUpTo.{found_at, none_above}

pub returns-then-self-name : goal.returns-then-self-name
returns-then-self-name g c =
    sym (ap is_some (ap (λ l. global_of l c.args.name) (sym c.self.view_is)
    ∙ none_above c.self.inside.greatest c.args.name c.self.inside.items.items c.self.invariant.named
    c.if-self-name.true))

pub returns-in-Some : goal.returns-in-Some
returns-in-Some g c =
    let at = sym c.last.ensures.value ∙ ap option_copied c.in-Some.is in
    sym (ap (λ l. is_some (global_of l c.args.name)) (sym c.self.view_is ∙ sym c.deref.ensures.value)
    ∙ found_at c.deref.result.now _ c.args.name c.in-Some.last.now at c.if-last-name.true)
