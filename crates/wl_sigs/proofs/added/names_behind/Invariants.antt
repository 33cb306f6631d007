use Rattle.std.proofs.Common.{◌≡◌, ◌++◌, map, take}
use Rattle.wl_sigs.proofs.added.names_behind.Given as goal

abbrev pub invariant-loop-signature : goal.invariant-loop-signature
invariant-loop-signature g l = l.names.items ≡ map (λ m. m.name) (take l.signature-index l.signatures)

abbrev pub invariant-loop-message : goal.invariant-loop-message
invariant-loop-message g l = l.names.items
    ≡ map (λ m. m.name) l.signatures ++ map (λ m. m.name) (take l.message-index l.messages)
