use Rattle.std.proofs.Common.{ap, subst}
use Rattle.wl_object_map.specs.View.{Sound}
use Rattle.wl_object_map.specs.Objects.{server_view}
use Rattle.wl_object_map.proofs.ObjectsCalls.{opened_at_or_same}
use Rattle.wl_object_map.proofs.objects.Objects.open_at.Goals as goal
use Rattle.wl_object_map.proofs.objects.Objects.open_at.Goals.{in-Some+in_ok-object-in-Some, in-None, in-None-2}

pub invariant_of-self : goal.invariant_of-self
invariant_of-self g c = let e = c.open_at.ensures in record {
  client = opened_at_or_same c.open_at.result (g.T.Table.view c.self.inside.client) (g.T.Table.view c.open_at.new.self)
      c.args.id c.args.iface c.args.version c.self.invariant.client e.ok e.err e.in_use.1 e.not_next.1 e.no_ids.1;
  server = c.self.invariant.server;
}

pub invariant_of-self-in-Server : goal.invariant_of-self-in-Server
invariant_of-self-in-Server g c = elim c.match-self.branch [
  | in-Some+in_ok-object-in-Some w ↦ rw w.self-inside-is (let e = w.open_at-in-Some.ensures in record {
    client = c.self.invariant.client;
    server = opened_at_or_same w.open_at-in-Some.result _ (g.T.Table.view w.open_at-in-Some.new.self) w.table_id.result
        c.args.iface c.args.version
        (subst Sound (ap (server_view g.T.Table.view) w.in-Some.is) c.self.invariant.server)
        e.ok e.err e.in_use.1 e.not_next.1 e.no_ids.1;
  })
  | in-None w ↦ rw w.self-inside-is c.self.invariant
  | in-None-2 w ↦ rw w.self-inside-is c.self.invariant
]
