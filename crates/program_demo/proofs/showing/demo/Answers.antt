use Rattle.std.proofs.Common.{refl, ap₂, ◌∙◌}
use Rattle.wl_message.specs.declared.amounts.Sizes.{Sizes}
use Rattle.wl_message.specs.declared.limit.Limit.{Limit}
use Rattle.wl_message.specs.Limits.{usual}
use Rattle.wl_message.proofs.Limits.{same_limit}
use Rattle.theory_connection.specs.Pair.{new_pair}
use Rattle.program_demo.specs.Moves.{sizes}
use Rattle.program_demo.proofs.Shown.{shown_of_new}
use Rattle.program_demo.proofs.showing.demo.Goals as goal

-- the queues of the demonstration, with this limit
abbrev sizes_by : Limit → Sizes
sizes_by limit = record sizes { limit = limit }

pub returns : goal.returns
returns g c =
    let new = c.in_ok-pair.ensures in
    let begins = new.begins ∙ ap₂ (λ (client server : Limit). new_pair c.args.tables.now (sizes_by client)
    (sizes_by server)) (same_limit _ usual refl) (same_limit _ usual refl) in
    shown_of_new (λ text. text.items) c.args.tables.now c.args.piece c.in_ok-pair.pair
    c.shown.result begins new.stands c.shown.ensures
