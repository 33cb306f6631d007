-- Which reports need memory, and when there is a report.
use Rattle.std.proofs.Common.{◌≡◌, false, ap, ◌∙◌}
use Rattle.std.specs.declared.option.Option.TheVariants.{Some}
use Rattle.std.specs.declared.result.Result.TheVariants.{Ok}
use Rattle.wl_sigs.specs.Side.TheVariants.{Event as event_side}
use Rattle.wl_connection.specs.Receiving.{Found, found}
use Rattle.wl_client.specs.State.{State}
use Rattle.wl_client.specs.Reports.{report, client_role}
use Rattle.wl_connection.specs.Reads.{HasReport}
use Rattle.wl_connection.specs.Roles.{front_answer}
use Rattle.wl_connection.proofs.Roles.{answers}
use Rattle.wl_client.specs.Streams.{client_reading}

-- a message that is found is reported
pub has_one : (state : State) (f : Found) → state.core.failed ≡ false → found state.core event_side ≡ Ok (Some f)
    → HasReport client_reading state
has_one state f s e = (report state.core f, answers client_role state s ∙ ap (front_answer client_role state.core) e)
