use Rattle.std.proofs.Common.{◌≡◌, length, map, take, drop}
use Rattle.wl_objects.specs.Parsed.{seen_args}
use Rattle.waywire_c.specs.Reports.{arg_told, arg_told_by}
use Rattle.waywire_c.proofs.reports.put_shown.Given as goal

-- the arguments so far are written; the other arguments are left, and the other slots stay
abbrev pub invariant-places : goal.invariant-places
invariant-places l =
    (length l.slots ≡ length l.fn.slots)
    × (seen_args l.args ≡ drop l.place (seen_args l.fn.args))
    × (map arg_told_by (take l.place l.slots) ≡ map arg_told (take l.place (seen_args l.fn.args)))
    × (drop l.place l.slots ≡ drop l.place l.fn.slots)
