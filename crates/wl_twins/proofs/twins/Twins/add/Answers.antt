use Rattle.std.proofs.Common.{◌∙◌, sym}
use Rattle.wl_twins.proofs.ToldApart.{at_object, others_keep}
use Rattle.wl_twins.proofs.twins.Twins.add.Goals as goal

pub returns-in_err-insert-2-clause-others_at_client : goal.returns-in_err-insert-2-clause-others_at_client
returns-in_err-insert-2-clause-others_at_client g c other differs = others_keep c.args.self.now.at_client
    c.insert.new.self c.key_of.result c.args.at_server other c.key_of.ensures c.in_ok-insert.ensures.updates.2 differs

pub returns-clause-client : goal.returns-clause-client
returns-clause-client g c = sym (at_object c.insert.new.self c.key_of.result c.args.at_server c.key_of.ensures)
    ∙ c.in_ok-insert.ensures.updates.1

pub returns-clause-others_at_client : goal.returns-clause-others_at_client
returns-clause-others_at_client g c other differs = others_keep c.args.self.now.at_client
    c.insert.new.self c.key_of.result c.args.at_server other c.key_of.ensures c.in_ok-insert.ensures.updates.2 differs

pub returns-clause-others_at_server : goal.returns-clause-others_at_server
returns-clause-others_at_server g c other differs = others_keep c.args.self.now.at_server c.insert-2.new.self
    c.key_of-2.result c.args.at_client other c.key_of-2.ensures c.in_ok-insert-2.ensures.updates.2 differs
