use Rattle.std.proofs.Common.{◌≡◌, true, is_some, sym, ap, subst}
use Rattle.wl_object_map.specs.View as table
use Rattle.wl_object_map.specs.Objects.{Objects, ObjectsAreSound, server_view, is_held}
use Rattle.wl_object_map.specs.ObjectsLaws.{ObjectsAreSound-closed}
use Rattle.wl_object_map.proofs.ObjectsCalls.{client_changed, server_changed}
use Rattle.wl_object_map.proofs.objects.Objects.close.Goals as goal

pub invariant_of-self : goal.invariant_of-self
invariant_of-self g c =
    let o : Objects = record {
      client = g.T.Table.view c.self.inside.client;
      server = server_view g.T.Table.view c.self.inside.server;
      has_server_range = is_some c.self.inside.server;
    } in
    subst ObjectsAreSound (sym (client_changed table.closed o c.args.id c.of.ensures c.in-Client.is c.close.ensures))
    (ObjectsAreSound-closed o c.args.id c.self.invariant
    (subst (λ (x : Objects). is_held x c.args.id ≡ true) (sym c.self.view_is) c.requires.held) c.requires.not_display)

pub invariant_of-self-in-Some : goal.invariant_of-self-in-Some
invariant_of-self-in-Some g c =
    let o : Objects = record {
      client = g.T.Table.view c.self.inside.client;
      server = server_view g.T.Table.view c.self.inside.server;
      has_server_range = is_some c.self.inside.server;
    } in
    subst ObjectsAreSound (sym (server_changed table.closed o c.args.id c.of.ensures c.in-Server.is
    (ap (server_view g.T.Table.view) c.in-Some.is) (ap is_some c.in-Some.is) c.table_id.ensures c.close-in-Some.ensures))
    (ObjectsAreSound-closed o c.args.id c.self.invariant
    (subst (λ (x : Objects). is_held x c.args.id ≡ true) (sym c.self.view_is) c.requires.held) c.requires.not_display)
