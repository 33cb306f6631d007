use Rattle.wl_text.proofs.Texts.{text_lists}
use Rattle.wl_text.proofs.laws.what_a_text_lists_is_read.Goals as goal

pub returns : goal.returns
returns c = text_lists
