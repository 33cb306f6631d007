use Rattle.wl_text.proofs.Texts.{one_list}
use Rattle.wl_text.proofs.laws.one_text_one_list.Goals as goal

pub returns : goal.returns
returns c = one_list
