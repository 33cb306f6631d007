use Rattle.wl_check.proofs.LastBytes.{cut_messages}
use Rattle.wl_check.proofs.MergedOrder.{ends_with}
use Rattle.wl_check.proofs.laws.a_stream_has_its_messages.Goals as goal

pub returns : goal.returns
returns c = record { messages = cut_messages; bad_size = ends_with }
