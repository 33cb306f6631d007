use Rattle.wl_text.proofs.Cuts.{first_last, first_ended}
use Rattle.wl_text.proofs.lines.first_line.Goals as goal

pub returns-in-empty-clause-line : goal.returns-in-empty-clause-line
returns-in-empty-clause-line c =
    first_last c.args.text.now _ _ c.requires c.split_before.ensures.whole c.split_before.ensures.front
    c.in-empty.len_below

pub returns-in-len1-up-clause-line : goal.returns-in-len1-up-clause-line
returns-in-len1-up-clause-line c =
    first_ended c.args.text.now _ _ _ c.split_before.ensures.whole c.split_before.ensures.front
    c.split_before.ensures.rest
    c.in-len1-up.len_at_least c.without_return.ensures
