use Rattle.std.proofs.Common.{ap, subst}
use Rattle.wl_object_map.specs.View.{Sound}
use Rattle.wl_object_map.specs.Objects.{server_view}
use Rattle.wl_object_map.proofs.ObjectsCalls.{opened_or_same}
use Rattle.wl_object_map.proofs.objects.Objects.open_next_of_server.Goals as goal

pub invariant_of-self-2 : goal.invariant_of-self-2
invariant_of-self-2 g c = record {
  client = c.self.invariant.client;
  server = opened_or_same c.open_next.result _ (g.T.Table.view c.open_next.new.self) c.args.iface c.args.version
      (subst Sound (ap (server_view g.T.Table.view) c.in-Some.is) c.self.invariant.server)
      c.open_next.ensures.ok c.open_next.ensures.err c.open_next.ensures.no_ids.1;
}
