use Rattle.std.proofs.Common.{◌≡◌, true, is_some, sym, ap, subst}
use Rattle.wl_object_map.specs.View as table
use Rattle.wl_object_map.specs.Objects.{Objects, ObjectsAreSound, server_view, is_held, has_room}
use Rattle.wl_object_map.specs.ObjectsLaws.{ObjectsAreSound-reopened}
use Rattle.wl_object_map.proofs.ObjectsCalls.{client_changed, server_changed}
use Rattle.wl_object_map.proofs.objects.Objects.reopen.Goals as goal
use Rattle.wl_object_map.proofs.objects.Objects.reopen.Goals.{in-Some, in-None}

pub invariant_of-self : goal.invariant_of-self
invariant_of-self g c =
    let o : Objects = record {
      client = g.T.Table.view c.self.inside.client;
      server = server_view g.T.Table.view c.self.inside.server;
      has_server_range = is_some c.self.inside.server;
    } in
    subst ObjectsAreSound (sym (client_changed (λ view place. table.opened_at view place c.args.iface c.args.version) o c.args.id
    c.of.ensures c.in-Client.is c.reopen.ensures.table))
    (ObjectsAreSound-reopened o c.args.id c.args.iface c.args.version c.self.invariant
    (subst (λ (x : Objects). is_held x c.args.id ≡ true) (sym c.self.view_is) c.requires.held) c.requires.not_display
    (subst (λ (x : Objects). has_room x c.args.id ≡ true) (sym c.self.view_is) c.requires.room))

pub invariant_of-self-in-Server : goal.invariant_of-self-in-Server
invariant_of-self-in-Server g c =
    let o : Objects = record {
      client = g.T.Table.view c.self.inside.client;
      server = server_view g.T.Table.view c.self.inside.server;
      has_server_range = is_some c.self.inside.server;
    } in
    elim c.match-self.branch [
      | in-Some w ↦
          rw w.self-inside-is
          (subst ObjectsAreSound (sym (server_changed (λ view place. table.opened_at view place c.args.iface c.args.version)
          o c.args.id c.of.ensures c.in-Server.is
          (ap (server_view g.T.Table.view) w.in-Some.is) (ap is_some w.in-Some.is) w.table_id.ensures
          w.reopen-object.ensures.table))
          (ObjectsAreSound-reopened o c.args.id c.args.iface c.args.version c.self.invariant
          (subst (λ (x : Objects). is_held x c.args.id ≡ true) (sym c.self.view_is) c.requires.held) c.requires.not_display
          (subst (λ (x : Objects). has_room x c.args.id ≡ true) (sym c.self.view_is) c.requires.room)))
      | in-None w ↦ rw w.self-inside-is c.self.invariant
    ]
