use Rattle.wl_message.proofs.Waiting.{gives_all}
use Rattle.wl_message.proofs.laws.no_token_is_lost.Goals as goal

pub returns : goal.returns
returns c = gives_all
