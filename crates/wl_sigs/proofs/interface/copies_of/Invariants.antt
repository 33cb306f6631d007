use Rattle.std.proofs.Common.{◌≡◌, take}
use Rattle.wl_sigs.proofs.interface.copies_of.Given as goal

abbrev pub invariant-signatures : goal.invariant-signatures
invariant-signatures g l = l.copies.items ≡ take l.signature-index l.signatures
