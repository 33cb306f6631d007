use Rattle.wl_sigs.proofs.ServerObjectsTold.{told_by}
use Rattle.wl_sigs.proofs.tables.Tables.has_server_objects.Goals as goal

pub returns-clause-told : goal.returns-clause-told
returns-clause-told g c = told_by c.args.self.now _ c.lists_server_objects.ensures.answer
