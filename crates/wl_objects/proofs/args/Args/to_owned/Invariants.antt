use Rattle.std.proofs.Common.{◌≡◌, ◌++◌, length}
use Rattle.wl_objects.specs.Seen.{got_values}
use Rattle.wl_objects.specs.Parsed.{seen_args}
use Rattle.wl_objects.proofs.args.Args.to_owned.Given as goal

-- the arguments copied so far, and those still to copy
abbrev pub invariant-left : goal.invariant-left
invariant-left g l = got_values l.items.items ++ seen_args l.left ≡ seen_args l.self

abbrev pub decreases-left : goal.decreases-left
decreases-left g l = length (seen_args l.left)
