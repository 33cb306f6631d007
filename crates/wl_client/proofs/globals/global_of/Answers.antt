use Rattle.std.proofs.Common.{◌∙◌, rules, tests}
use Rattle.std.proofs.lemmas.Iterator.{YieldsList-from_slice}
use Rattle.std.proofs.lemmas.Iterator.Search.{find_from_yields_List}
use Rattle.wl_client.specs.State.{is_named}
use Rattle.wl_client.proofs.globals.global_of.Goals as goal

pub returns : goal.returns
returns c =
    c.copied.ensures
    ∙ find_from_yields_List (is_named c.args.name) _ _ c.find.result c.find.ensures.ran
    (YieldsList-from_slice c.args.globals.now (cc)) (λ x b q k. search (rules, tests))
