use Rattle.wl_object_map.proofs.ObjectsCalls.{opened_or_same}
use Rattle.wl_object_map.proofs.objects.Objects.open_next.Goals as goal

pub invariant_of-self : goal.invariant_of-self
invariant_of-self g c = record {
  client = opened_or_same c.open_next.result (g.T.Table.view c.self.inside.client) (g.T.Table.view c.open_next.new.self)
      c.args.iface c.args.version c.self.invariant.client c.open_next.ensures.ok c.open_next.ensures.err
      c.open_next.ensures.no_ids.1;
  server = c.self.invariant.server;
}
