use Rattle.std.proofs.Common.{◌≡◌, sym, ◌∙◌, arith}
use Rattle.std.proofs.lemmas.Grind.{common_steps}
use Rattle.std.proofs.lemmas.Bool.Decides.{nat_tests}
use Rattle.wl_object_map.specs.declared.object.Maker.TheVariants.{Server}
use Rattle.wl_object_map.specs.Objects.{next_birth}
use Rattle.wl_session.proofs.SameObjects.{same_of_server, rows_of_server}
use Rattle.wl_session.proofs.agreeing.same_of_server.Goals as goal

pub returns : goal.returns
returns g c =
    let client = c.args.client.now in
    let server = c.args.server.now in
    let used : c.used_ids-used.result ≡ c.used_ids.result =
    grind (arith, common_steps, nat_tests, c.if-used-used_ids.false) in
    let counted : c.births.result ≡ c.births-2.result =
    grind (arith, common_steps, nat_tests, c.if-births.false) in
    let births : next_birth Server client ≡ next_birth Server server =
    sym c.births.ensures ∙ counted ∙ c.births-2.ensures in (
      λ t. same_of_server client server c.used_ids-used.result c.used_ids-used.ensures.sound c.used_ids.ensures.sound
          c.used_ids-used.ensures.used (used ∙ c.used_ids.ensures.used) births (c.same_by_server.ensures.0 t),
      λ a. c.same_by_server.ensures.1 (rows_of_server client server c.used_ids-used.result c.used_ids.ensures.sound
          c.used_ids-used.ensures.used a),
    )
