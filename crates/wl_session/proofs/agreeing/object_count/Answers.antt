use Rattle.std.proofs.Common.{ap, ◌∙◌, ◌+◌}
use Rattle.wl_object_map.specs.declared.object.Maker.TheVariants.{Client, Server}
use Rattle.wl_object_map.specs.Objects.{row_count}
use Rattle.wl_session.proofs.SameObjects.{counts_client}
use Rattle.wl_session.proofs.agreeing.object_count.Goals as goal

pub returns-clause-of_client : goal.returns-clause-of_client
returns-clause-of_client g c = λ none.
    (λ i. (c.len.ensures ∙ ap (row_count Client) c.objects_of.ensures.client) i
    + (c.len-2.ensures ∙ ap (row_count Server) c.objects_of.ensures.server) i)
    ∙ counts_client c.args.client.now.core.view c.args.server.now.core.view
    (c.objects_of.ensures.server_range none)
