use Rattle.std.proofs.Common.{◌≡◌, false, inl, inr, sym, subst, ◌∙◌, rules}
use Rattle.std.proofs.lemmas.Bool.{cases_Bool}
use Rattle.wl_sigs.specs.Rules.{has_server_objects}
use Rattle.wl_connection.specs.Core.{Core}
use Rattle.wl_connection.specs.MoreTables.{Extend}
use Rattle.wl_connection.proofs.MoreTables.{has_more}
use Rattle.wl_connection.proofs.shared.Core.more_tables.Goals.{else-has_server_objects-via-then-has_server_objects+else-not-has_server_range, else-has_server_objects-via-else-has_server_objects}
use Rattle.wl_connection.proofs.shared.Core.more_tables.Goals as goal

pub invariant_of-self : goal.invariant_of-self
invariant_of-self g c =
    let old = c.self.inside.tables.now in
    let more = c.args.tables.now in
    let extend : Extend old more = subst (λ (k : Core). Extend k.tables more) (sym c.self.view_is) c.requires in
    let range : c.self.inside.objects.has_server_range ≡ has_server_objects old = c.self.invariant.range in
    record {
      store = c.self.invariant.store;
      room = c.self.invariant.room;
      display = c.self.invariant.display;
      range = elim c.else-has_server_objects.branch [
        | else-has_server_objects-via-then-has_server_objects+else-not-has_server_range w ↦
            (let some = w.if-has_server_objects in
            let answer = c.has_server_objects.ensures.answer in
            let has = w.has_server_range.ensures in
            let not_none = w.if-not-has_server_range in
            search rules)
        | else-has_server_objects-via-else-has_server_objects w ↦
            (let none : has_server_objects more ≡ false =
            sym c.has_server_objects.ensures.answer ∙ w.if-has_server_objects.false in
            elim (cases_Bool (has_server_objects old)) [
              | inl some ↦ (let e = has_more old more extend some in absurd (cc (e, none)))
              | inr old_none ↦ range ∙ old_none ∙ sym none
            ])
      ];
      no_error = c.self.invariant.no_error;
      whole = c.self.invariant.whole;
    }
