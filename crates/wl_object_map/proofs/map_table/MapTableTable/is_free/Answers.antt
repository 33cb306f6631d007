use Rattle.std.proofs.Common.{◌≡◌, sym, ◌∙◌, ap, subst, arith, is_some}
use Rattle.std.proofs.lemmas.Grind.{common_steps}
use Rattle.std.proofs.lemmas.Bool.Decides.{nat_tests}
use Rattle.wl_object_map.specs.View.{View, Sound, is_held}
use Rattle.wl_object_map.specs.Views.{free_or_next-rows}
use Rattle.wl_object_map.proofs.Rows.{get_rows}
use Rattle.wl_object_map.proofs.map_table.MapTableTable.is_free.Goals as goal

pub returns-then-id-self : goal.returns-then-id-self
returns-then-id-self g c =
    let law = free_or_next-rows c.args.self.now c.args.id (subst Sound c.self.view_is c.self.invariant.0) in
    let held : c.contains_key.result ≡ is_held c.args.self.now c.args.id =
    c.contains_key.ensures ∙ ap is_some (sym (get_rows _ _))
    ∙ ap (λ (v : View). is_held v c.args.id) c.self.view_is in
    let used : c.self.inside.used ≡ c.args.self.now.used = ap (λ (v : View). v.used) c.self.view_is in
    grind (arith, common_steps, nat_tests, law, held, used, c.if-id-self.true)
