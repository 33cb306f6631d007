-- What was printed, if the last call did not fail.
use Rattle.std.proofs.Common.{Result, Ok, Err, OnOk}

pub after : {T E P Q : Type 0} (r : Result T E) → (P → Q) → OnOk r P → OnOk r Q
after (Ok x) f p = f p
after (Err e) f p = tt
