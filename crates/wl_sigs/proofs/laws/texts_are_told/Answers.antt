use Rattle.wl_sigs.proofs.TextOutcome.{texts_told, texts_bad, texts_broken}
use Rattle.wl_sigs.proofs.laws.texts_are_told.Goals as goal

pub returns : goal.returns
returns c = record { told = texts_told; bad = texts_bad; broken = texts_broken }
