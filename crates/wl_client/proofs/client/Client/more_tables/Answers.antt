use Rattle.std.proofs.Common.{subst, sym}
use Rattle.wl_connection.specs.MoreTables.{Extend}
use Rattle.wl_client.specs.State.{State}
use Rattle.wl_client.proofs.SoundClients.{sound_extended}
use Rattle.wl_client.proofs.client.Client.more_tables.Goals as goal

pub invariant_of-self : goal.invariant_of-self
invariant_of-self g c =
    let e = c.more_tables.ensures in
    let tables = c.args.tables.now in
    sound_extended c.self.inside.end.core c.more_tables.new.self tables c.more_tables.result e.ok e.err e.valid
    (subst (λ (s : State). Extend s.core.tables tables) (sym c.self.view_is) c.requires) c.self.invariant
