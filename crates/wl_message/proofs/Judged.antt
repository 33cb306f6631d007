-- What the judgement of the first message rests on.
use Rattle.wl_message.proofs.Fronts.{size_is, parts_of}

pub ruleset judged = (size_is, parts_of)
