use Rattle.std.proofs.Common.{rules, sym, ap, subst, ◌∙◌, arith, []}
use Rattle.wl_object_map.specs.Objects.{Objects}
use Rattle.wl_sigs.specs.Rules.{has_server_objects}
use Rattle.wl_connection.specs.Core.{Core}
use Rattle.wl_connection.specs.ServerRange.{EventsMakeMade, IsMadeBySome, NoEventEnds, NoEventEndsMade}
use Rattle.wl_connection.proofs.ServerRange.{made_opening}
use Rattle.wl_server.specs.Announcing.{owed_in}
use Rattle.wl_server.specs.Registries.{HasRegistries}
use Rattle.wl_server.proofs.Registries.{has_none}
use Rattle.wl_server.proofs.server.Server.new.Goals as goal

pub returns : goal.returns
returns c = search rules

pub invariant_of-result : goal.invariant_of-result
invariant_of-result g c =
    let view = ap (λ (k : Core). k.view) (c.new-2.ensures ∙ c.in_ok-core.ensures) in
    let range = has_server_objects c.args.tables.now in
    record {
      few = grind (arith, c.new-globals.ensures.items);
      registries = subst (HasRegistries c.new-2.result.core.view) (sym c.new-registries.ensures.list)
          (subst (λ (v : Objects). HasRegistries v []) (sym view) (has_none range));
      past = omega (arith, c.new-registries.ensures.past);
      settled = ap (owed_in c.new-globals.result.items) c.new-registries.ensures.settled;
      lasting = subst (NoEventEndsMade c.new-2.result.core.tables) (sym view)
          (made_opening (NoEventEnds c.new-2.result.core.tables) range);
      by_some = subst (EventsMakeMade c.new-2.result.core.tables) (sym view)
          (made_opening (IsMadeBySome c.new-2.result.core.tables) range);
    }
