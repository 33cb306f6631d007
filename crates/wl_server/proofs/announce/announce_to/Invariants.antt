use Rattle.std.proofs.Common.{◌≡◌, ◌-◌, [], ◌∷◌, length}
use Rattle.wl_server.specs.Announcing.{due_to, owes_removal, owes_telling}
use Rattle.wl_server.proofs.Settled.{NoneOf}
use Rattle.wl_server.proofs.Tells.{Adding, Removing}
use Rattle.wl_server.proofs.announce.announce_to.Given as goal

abbrev pub invariant-removals : goal.invariant-removals
invariant-removals g l = record {
  object : l.registry.object ≡ l.fn.registry.object;
  progress : Removing l.fn.core (l.fn.registry ∷ [])
      (due_to l.globals l.fn.registry) l.fn.registry.object l.globals l.place l.count l.core l.registry;
  clear : NoneOf (owes_removal l.registry) l.globals l.place;
}

abbrev pub invariant-tellings : goal.invariant-tellings
invariant-tellings g l = record {
  object : l.registry.object ≡ l.fn.registry.object;
  progress : Adding l.fn.core (l.fn.registry ∷ [])
      (due_to l.globals l.fn.registry) l.fn.registry.object l.globals l.place l.count l.core l.registry;
  clear : NoneOf (owes_removal l.registry) l.globals (length l.globals);
  told : NoneOf (owes_telling l.registry) l.globals l.place;
}

abbrev pub decreases-removals : goal.decreases-removals
decreases-removals g l = length l.globals - l.place

abbrev pub decreases-tellings : goal.decreases-tellings
decreases-tellings g l = length l.globals - l.place
