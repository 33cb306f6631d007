use Rattle.std.proofs.Common.{[], refl}
use Rattle.wl_check.proofs.inspector.Inspector.new.Goals as goal

pub invariant_of-result : goal.invariant_of-result
invariant_of-result g c = record { begun = ∣ ([], c.in_ok-new.ensures.none c.args.limit.bytes) ∣₁ }

pub returns-clause-passed : goal.returns-clause-passed
returns-clause-passed g c = record {
  limit_is = refl;
  tables_are = refl;
  after = c.in_ok-new.ensures.none c.args.limit.bytes;
}
