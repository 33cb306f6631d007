use Rattle.std.proofs.Common.{◌≤◌, subst, sym}
use Rattle.wl_object_map.specs.Objects.{Objects}
use Rattle.wl_connection.specs.MoreTables.{Extend}
use Rattle.wl_server.specs.Registries.{HasRegistries}
use Rattle.wl_server.specs.State.{State}
use Rattle.wl_server.proofs.LastingObjects.{by_some_more, lasting_more, view_more}
use Rattle.wl_server.proofs.server.Server.more_tables.Goals as goal

pub invariant_of-self : goal.invariant_of-self
invariant_of-self g c =
    let core = c.self.inside.end.core in
    let now = c.more_tables.new.self in
    let e = c.more_tables.ensures in
    let tables = c.args.tables.now in
    let extend = subst (λ (s : State). Extend s.core.tables tables) (sym c.self.view_is) c.requires in
    let view = view_more core now tables c.more_tables.result e.ok e.err in
    let kept = c.self.inside.role.registries in
    record {
      few = c.self.invariant.few;
      registries = subst (λ (v : Objects). HasRegistries v kept.list) (sym view) c.self.invariant.registries;
      past = subst (λ (v : Objects). kept.past ≤ v.client.births) (sym view) c.self.invariant.past;
      settled = c.self.invariant.settled;
      lasting = lasting_more core now tables c.more_tables.result e.ok e.err e.valid extend c.self.invariant.lasting
          c.self.invariant.by_some;
      by_some = by_some_more core now tables c.more_tables.result e.ok e.err extend c.self.invariant.by_some;
    }
