use Rattle.std.proofs.Common.{◌∙◌, ap, sym}
use Rattle.std.specs.BTreeMap.{is_at}
use Rattle.wl_check.specs.Held.{pair_cmp}
use Rattle.wl_check.proofs.Undone.{none_set}
use Rattle.wl_check.proofs.holdings.set_version.Goals as goal

pub returns-in_default : goal.returns-in_default
returns-in_default g c =
    ap (λ m. m.entries) c.get_mut.follows.holds-at-none
    ∙ sym (none_set (is_at (pair_cmp c.args.key)) c.args.globals.now.entries c.args.version (sym c.in_default.ensures.value))
