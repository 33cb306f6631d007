use Rattle.std.proofs.Common.{sym, ◌∙◌, ap}
use Rattle.wl_object_map.specs.View.{View, look}
use Rattle.wl_object_map.proofs.Rows.{get_rows}
use Rattle.wl_object_map.proofs.map_table.MapTableTable.look.Goals as goal

pub returns-clause-entry : goal.returns-clause-entry
returns-clause-entry g c = c.copied.ensures ∙ c.get.ensures.value ∙ sym (get_rows _ _)
    ∙ ap (λ (v : View). look v c.args.id) c.self.view_is
