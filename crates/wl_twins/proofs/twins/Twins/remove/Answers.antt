use Rattle.std.proofs.Common.{◌≡◌, ◌∙◌, None, Some, sym}
use Rattle.wl_twins.specs.Twins.{twin_of}
use Rattle.wl_twins.proofs.ToldApart.{at_object, none_for_found, not_found, others_keep}
use Rattle.wl_twins.proofs.twins.Twins.remove.Goals as goal

pub returns-clause-gone_with_it : goal.returns-clause-gone_with_it
returns-clause-gone_with_it g c =
    let found : Some c.in_ok-twin.twin ≡ twin_of c.args.self.now.at_server c.args.of_client =
    c.in_ok-twin.ensures.value ∙ at_object c.args.self.now.at_server c.key_of.result c.args.of_client c.key_of.ensures in
    let gone : twin_of c.remove-2.new.self c.in_ok-twin.twin ≡ None =
    sym (at_object c.remove-2.new.self c.key_of-2.result c.in_ok-twin.twin c.key_of-2.ensures)
    ∙ c.remove-2.ensures.updates.1 in
    none_for_found _ c.in_ok-twin.twin c.remove-2.new.self found gone

pub returns-clause-others_at_server : goal.returns-clause-others_at_server
returns-clause-others_at_server g c other differs = others_keep c.args.self.now.at_server c.remove.new.self
    c.key_of.result c.args.of_client other c.key_of.ensures c.remove.ensures.updates.2 differs

pub returns-clause-others_at_client : goal.returns-clause-others_at_client
returns-clause-others_at_client g c other differs =
    let found : Some c.in_ok-twin.twin ≡ twin_of c.args.self.now.at_server c.args.of_client =
    c.in_ok-twin.ensures.value ∙ at_object c.args.self.now.at_server c.key_of.result c.args.of_client c.key_of.ensures in
    others_keep c.args.self.now.at_client c.remove-2.new.self c.key_of-2.result c.in_ok-twin.twin other
    c.key_of-2.ensures c.remove-2.ensures.updates.2 (not_found _ c.in_ok-twin.twin other found differs)
