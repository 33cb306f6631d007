use Rattle.std.proofs.Common.{is_some, sym, ap, subst}
use Rattle.wl_object_map.specs.View as table
use Rattle.wl_object_map.specs.Objects.{Objects, ObjectsAreSound, server_view}
use Rattle.wl_object_map.specs.ObjectsLaws.{ObjectsAreSound-zombied}
use Rattle.wl_object_map.proofs.ObjectsCalls.{client_changed, server_changed}
use Rattle.wl_object_map.proofs.objects.Objects.make_zombie.Goals as goal

pub invariant_of-self : goal.invariant_of-self
invariant_of-self g c =
    let o : Objects = record {
      client = g.T.Table.view c.self.inside.client;
      server = server_view g.T.Table.view c.self.inside.server;
      has_server_range = is_some c.self.inside.server;
    } in
    subst ObjectsAreSound (sym (client_changed table.zombied o c.args.id c.of.ensures c.in-Client.is c.make_zombie.ensures))
    (ObjectsAreSound-zombied o c.args.id c.self.invariant c.requires.not_display)

pub invariant_of-self-in-Some : goal.invariant_of-self-in-Some
invariant_of-self-in-Some g c =
    let o : Objects = record {
      client = g.T.Table.view c.self.inside.client;
      server = server_view g.T.Table.view c.self.inside.server;
      has_server_range = is_some c.self.inside.server;
    } in
    subst ObjectsAreSound (sym (server_changed table.zombied o c.args.id c.of.ensures c.in-Server.is
    (ap (server_view g.T.Table.view) c.in-Some.is) (ap is_some c.in-Some.is) c.table_id.ensures c.make_zombie-in-Some.ensures))
    (ObjectsAreSound-zombied o c.args.id c.self.invariant c.requires.not_display)
