use Rattle.std.proofs.Common.{◌≡◌, ◌≤◌, ℕ, List, sym, subst}
use Rattle.std.specs.Prelude.{Result, OnOk, OnErr}
use Rattle.std.specs.declared.result.Result.TheVariants.{Ok, Err}
use Rattle.wl_objects.specs.declared.error.SendError.{SendError}
use Rattle.wl_object_map.specs.declared.object.Object.{Object}
use Rattle.wl_connection.specs.Core.{Core}
use Rattle.wl_connection.specs.Outcomes.{refusal_in}
use Rattle.wl_connection.specs.ServerRange.{IsMadeBySome, NoEventEnds}
use Rattle.wl_server.specs.Calls.{after_end, end_refusal}
use Rattle.wl_server.specs.State.{Registry}
use Rattle.wl_server.specs.Registries.{HasRegistries}
use Rattle.wl_server.proofs.LastingObjects.{kept_end}
use Rattle.wl_server.proofs.Registries.{births_left, has_ended}
use Rattle.wl_server.proofs.server.Server.end_object.Goals as goal

has_by : {X : Type 0} (rs : List Registry) (object : Object) (r : Result X SendError) (before now : Core)
    → refusal_in r ≡ end_refusal before object → OnOk r (now ≡ after_end before object) → OnErr r (now ≡ before)
    → HasRegistries before.view rs → HasRegistries now.view rs
has_by rs object (Ok x) before now a ok err h =
    subst (λ (k : Core). HasRegistries k.view rs) (sym ok) (has_ended before rs object a h)
has_by rs object (Err why) before now a ok err h = subst (λ (k : Core). HasRegistries k.view rs) (sym err) h

past_by : {X E : Type 0} (past : ℕ) (object : Object) (r : Result X E) (before now : Core)
    → OnOk r (now ≡ after_end before object) → OnErr r (now ≡ before) → past ≤ before.view.client.births
    → past ≤ now.view.client.births
past_by past object (Ok x) before now ok err h =
    subst (λ (k : Core). past ≤ k.view.client.births) (sym ok)
    (subst (λ (n : ℕ). past ≤ n) (sym (births_left before object)) h)
past_by past object (Err why) before now ok err h = subst (λ (k : Core). past ≤ k.view.client.births) (sym err) h

pub invariant_of-self : goal.invariant_of-self
invariant_of-self g c =
    let e = c.close_ended.ensures in
    record {
      few = c.self.invariant.few;
      registries = has_by c.self.inside.role.registries.list c.args.object c.close_ended.result c.self.inside.end.core
          c.close_ended.new.core e.answer e.ok e.err c.self.invariant.registries;
      past = past_by c.self.inside.role.registries.past c.args.object c.close_ended.result c.self.inside.end.core
          c.close_ended.new.core e.ok e.err c.self.invariant.past;
      settled = c.self.invariant.settled;
      lasting = kept_end NoEventEnds c.self.inside.end.core c.close_ended.new.core c.args.object
          c.close_ended.result e.ok e.err c.self.invariant.lasting;
      by_some = kept_end IsMadeBySome c.self.inside.end.core c.close_ended.new.core c.args.object
          c.close_ended.result e.ok e.err c.self.invariant.by_some;
    }
