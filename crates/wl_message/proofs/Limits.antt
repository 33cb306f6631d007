-- Two limits with the same number of bytes are equal.
use Rattle.std.proofs.Common.{◌≡◌}
use Rattle.std.proofs.Props.{props}
use mathlib.Core.HLevel.{is_prop→PathP}
use Rattle.wl_message.specs.declared.limit.Limit.{Limit}
use Rattle.wl_message.specs.Cut.{IsLimit}

pub same_limit : (a b : Limit) → a.bytes ≡ b.bytes → a ≡ b
same_limit a b e = λ i. record {
  bytes = e i;
  in_range = is_prop→PathP (λ j. IsLimit (e j))
      (λ j. hlevel props) a.in_range b.in_range i;
}
