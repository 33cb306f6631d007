use Rattle.std.proofs.Common.{◌≡◌, true, arith}
use Rattle.std.proofs.lemmas.Bool.Decides.{nat_tests}
use Rattle.wl_message.proofs.PartedQueue.{nothing_waits, nothing_left, no_bytes, no_messages_bytes}
use Rattle.wl_message.proofs.outbox.Outbox.is_empty.Goals as goal

pub returns-clause-waits : goal.returns-clause-waits
returns-clause-waits g c =
    rw (← c.self.view_is) (
      (λ t. nothing_waits _ c.self.invariant.kept
          (let e : c.is_empty.result ≡ true = t in grind (arith, nat_tests, c.is_empty.ensures, e))),
      (λ w. let z = no_bytes _ c.self.invariant.kept w.0 in grind (arith, nat_tests, c.is_empty.ensures, z)),
    )

pub returns-clause-messages : goal.returns-clause-messages
returns-clause-messages g c =
    rw (← c.self.view_is) (
      (λ t. nothing_left _ c.self.invariant.kept (let e : c.is_empty.result ≡ true = t
          in grind (arith, nat_tests, c.is_empty.ensures, e))),
      (λ w. let z = no_messages_bytes _ c.self.invariant.kept w.0 w.1
          in grind (arith, nat_tests, c.is_empty.ensures, z)),
    )

pub returns-clause-bytes : goal.returns-clause-bytes
returns-clause-bytes g c =
    rw (← c.self.view_is) (
      (λ t. (nothing_waits _ c.self.invariant.kept
          (let e : c.is_empty.result ≡ true = t in grind (arith, nat_tests, c.is_empty.ensures, e))).0),
      (λ w. let z = no_bytes _ c.self.invariant.kept w in grind (arith, nat_tests, c.is_empty.ensures, z)),
    )
