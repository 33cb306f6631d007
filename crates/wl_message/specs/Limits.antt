-- The limit if no other is chosen.
use Rattle.std.specs.Prelude.{refl}
use Rattle.std.proofs.Common.{lit≤}
use Rattle.wl_message.specs.declared.limit.Limit.{Limit}
use Rattle.wl_message.specs.Cut.{usual_limit}

abbrev pub usual : Limit
usual = record { bytes = usual_limit; in_range = (lit≤ tt, lit≤ tt, refl) }
