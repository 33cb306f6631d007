use Rattle.std.proofs.Common.{◌≡◌, drop}
use Rattle.wl_objects.specs.Messages.{made}
use Rattle.wl_objects.proofs.new_object.made_among.Given as goal

-- the arguments so far make nothing
abbrev pub invariant-kinds : goal.invariant-kinds
invariant-kinds l = made l.tables l.version (drop l.place l.kinds) (drop l.place l.values)
    ≡ made l.tables l.version l.kinds l.values
