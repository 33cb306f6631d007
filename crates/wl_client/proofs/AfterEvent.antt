-- `next` runs out of memory only if there is a message to report, as the reading of streams needs.
use Rattle.std.proofs.Common.{◌≡◌, ◌≢◌, true, false, Some, None, refl, sym, ◌∙◌, inl, inr}
use Rattle.std.specs.Prelude.{Option, ◌||◌, IsOk}
use Rattle.std.specs.declared.result.Result.{Result}
use Rattle.std.specs.declared.result.Result.TheVariants.{Ok, Err}
use Rattle.wl_sigs.specs.Side.TheVariants.{Event as event_side}
use Rattle.wl_objects.specs.declared.error.Fault.{Fault}
use Rattle.wl_objects.specs.declared.error.NextError.TheVariants as errors
use Rattle.wl_connection.specs.Core.{Core}
use Rattle.wl_connection.specs.Receiving.{Found, found}
use Rattle.wl_connection.specs.Outcomes.{AnswersOrMemory, answers_with}
use Rattle.wl_connection.specs.Reads.{Answer}
use Rattle.wl_connection.specs.Roles.{front_answer, role_answer}
use Rattle.wl_connection.proofs.Roles.{answers}
use Rattle.wl_client.specs.State.{State}
use Rattle.wl_client.specs.Reports.{Report, IsClientNext, client_role, needs_memory, event_opens, next_answer}

opens_found : (core : Core) (x : Result (Option Found) Fault) → event_opens core x ≡ true
    → front_answer client_role core x ≢ Ok None
opens_found core (Err fault) o e = cc o
opens_found core (Ok None) o e = cc o
opens_found core (Ok (Some f)) o e = cc e

reports_one : (state : State) (answer : Answer Report) → state.core.failed ≡ false → next_answer state ≡ answer
    → (answers_with needs_memory answer || event_opens state.core (found state.core event_side)) ≡ true
    → IsOk answer → answers_with (λ (r : Report). true) answer ≡ true
reports_one state (Ok (Some r)) s e w o = refl
reports_one state (Ok None) s e w o =
    absurd (opens_found state.core (found state.core event_side) w (sym (answers client_role state s) ∙ e))
reports_one state (Err why) s e w o = absurd (cc o)

pub in_place_of_one : (state : State) (result : Answer Report) → state.core.failed ≡ false → IsClientNext state result
    → AnswersOrMemory errors.Memory (answers_with (λ (r : Report). true) (role_answer client_role state))
    (role_answer client_role state) result
in_place_of_one state result s (inl e) = inl e
in_place_of_one state result s (inr w) =
    inr (w.0, reports_one state (next_answer state) s refl w.1 w.2, w.2)
