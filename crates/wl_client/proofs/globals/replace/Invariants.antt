use Rattle.std.proofs.Common.{◌≡◌, ◌++◌, take, drop}
use Rattle.wl_client.specs.Reports.{with_replaced}
use Rattle.wl_client.proofs.globals.replace.Given as goal

-- those up to here are replaced, and those from here on are to be
abbrev pub invariant-globals : goal.invariant-globals
invariant-globals l = take l.other-index l.globals ++ with_replaced l.global (drop l.other-index l.globals)
    ≡ with_replaced l.global l.fn.globals
