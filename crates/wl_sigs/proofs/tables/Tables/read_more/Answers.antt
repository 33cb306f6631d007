use Rattle.wl_sigs.specs.Valid.{Valid}
use Rattle.wl_sigs.proofs.ReadTables.{still_valid}
use Rattle.wl_sigs.proofs.tables.Tables.read_more.Goals as goal

pub extended-requires-clause-valid : goal.extended-requires-clause-valid
extended-requires-clause-valid g c =
    let valid : Valid c.args.self.now = rw c.self.view_is at c.self.invariant in
    still_valid c.args.self.now c.in_ok-written.written.items _ _ _ _ valid c.in_ok-gathered.ensures.whole
    c.in_ok-gathered.ensures.first c.in_ok-of_others.ensures c.earlier.ensures c.in_default.not-Some
