use Rattle.wl_text.proofs.Cuts.{word_last, word_ended}
use Rattle.wl_text.proofs.lines.first_word.Goals as goal

pub returns-in-empty-clause-word : goal.returns-in-empty-clause-word
returns-in-empty-clause-word c =
    word_last c.args.line.now _ _ c.split_before.ensures.whole c.split_before.ensures.front c.in-empty.len_below

pub returns-in-len1-up-clause-word : goal.returns-in-len1-up-clause-word
returns-in-len1-up-clause-word c =
    word_ended c.args.line.now _ _ c.split_before.ensures.whole c.split_before.ensures.front c.split_before.ensures.rest
    c.in-len1-up.len_at_least
