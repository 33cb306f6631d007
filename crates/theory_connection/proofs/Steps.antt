-- After each move, a pair that represents its world represents the next.
use Rattle.std.proofs.Common.{◌≡◌, ℕ, List, [], ◌∷◌, ap, subst, ◌∙◌}
use Rattle.std.specs.declared.option.Option.{Option}
use Rattle.std.specs.declared.result.Result.{Result}
use Rattle.std.specs.declared.result.Result.TheVariants.{Err}
use Rattle.wl_objects.specs.declared.error.Fault.{Fault}
use Rattle.wl_objects.specs.declared.error.NextError.{NextError}
use Rattle.wl_objects.specs.declared.error.NextError.TheVariants as errors
use Rattle.wl_client.specs.Reports.{next_answer, after_next}
use Rattle.wl_client.specs.Reports as events
use Rattle.wl_server.specs.Requests as requests
use Rattle.theory_connection.specs.World.{World, Each}
use Rattle.theory_connection.specs.Pair.{PairState, Move, Reply, ClientSend, ClientBind, ServerSend}
use Rattle.theory_connection.specs.Pair.{ServerDrop, PostError, AddGlobal, Withdraw, Announce}
use Rattle.theory_connection.specs.Pair.{CarryToServer, CarryToClient, ClientNext, ServerNext, Does}
use Rattle.theory_connection.specs.Pair.{with_client, with_server, answered}
use Rattle.theory_connection.specs.Answers.{ReadsAtClient, ReadsAtServer}
use Rattle.theory_connection.specs.Meant.{Known, Message, Coming}
use Rattle.theory_connection.specs.Stands.{Stands, stands, over, StandsBy}
use Rattle.theory_connection.specs.World.{has_error}
use Rattle.theory_connection.specs.Runs.{Keeps, IsMove, Runs, DoesAll}
use Rattle.theory_connection.proofs.ClientSendMove.{client_send_keeps}
use Rattle.theory_connection.proofs.ClientBindMove.{client_bind_keeps}
use Rattle.theory_connection.proofs.ServerSendMoves.{server_send_keeps, server_drop_keeps, post_error_keeps}
use Rattle.theory_connection.proofs.Globals.{add_global_keeps, withdraw_keeps}
use Rattle.theory_connection.proofs.Announces.{announce_keeps}
use Rattle.theory_connection.proofs.Carries.{carry_to_server_keeps, carry_to_client_keeps}
use Rattle.theory_connection.proofs.ClientNextMove.{client_next_keeps}
use Rattle.theory_connection.proofs.ServerNextMove.{server_next_keeps}
use Rattle.theory_connection.proofs.Errors.{not_over}
use Rattle.theory_connection.proofs.Refused.{at_stage, refused_keeps, carry_refused, over_keeps}
use Rattle.theory_connection.proofs.Refused.{server_send_refused, server_drop_refused, post_error_refused}
use Rattle.theory_connection.proofs.Refused.{add_global_refused, withdraw_refused, announce_refused}
use Rattle.theory_connection.proofs.Refused.{server_next_refused}
use Rattle.theory_connection.proofs.Moves.{Moves, forget}

-- each move of a pair that represents a world is a step of that world
pub does_moves : (p : PairState) (w : World) (asked : List (Message Known)) (told : List (Coming Known))
    → StandsBy p w asked told → (move : Move) (reply : Reply) (p' : PairState) → IsMove move
    → Does p move reply p'
    → Moves p w asked told move reply p'
does_moves p w asked told s (ClientSend target opcode given) (ClientSend reply) p' m d =
    client_send_keeps p w asked told s (not_over s) target opcode given m reply p' d
does_moves p w asked told s (ClientBind target name iface version) (ClientBind reply) p' m d =
    client_bind_keeps p w asked told s (not_over s) target name iface version reply p' d
does_moves p w asked told s (ServerSend target opcode given) (ServerSend reply) p' m d =
    at_stage s (λ z. server_send_keeps p w asked told s z target opcode given m reply p' d)
    (λ e z. refused_keeps p w asked told s e z (ServerSend target opcode given) (ServerSend reply) p' d
    (server_send_refused p w (s.server.lives ∙ ap has_error z) (ap has_error z) target opcode given reply p' d))
does_moves p w asked told s (ServerDrop object) (ServerDrop reply) p' m d =
    at_stage s (λ z. server_drop_keeps p w asked told s z object reply p' d)
    (λ e z. refused_keeps p w asked told s e z (ServerDrop object) (ServerDrop reply) p' d
    (server_drop_refused p w (s.server.lives ∙ ap has_error z) (ap has_error z) object reply p' d))
does_moves p w asked told s (PostError object code text) (PostError reply) p' m d =
    at_stage s (λ z. post_error_keeps p w asked told s z object code text m reply p' d)
    (λ e z. refused_keeps p w asked told s e z (PostError object code text) (PostError reply) p' d
    (post_error_refused p w (s.server.lives ∙ ap has_error z) (ap has_error z) object code text reply p' d))
does_moves p w asked told s (AddGlobal iface version) (AddGlobal reply) p' m d =
    at_stage s (λ z. add_global_keeps p w asked told s z iface version m reply p' d)
    (λ e z. refused_keeps p w asked told s e z (AddGlobal iface version) (AddGlobal reply) p' d
    (add_global_refused p w (s.server.lives ∙ ap has_error z) (ap has_error z) iface version reply p' d))
does_moves p w asked told s (Withdraw name) (Withdraw reply) p' m d =
    at_stage s (λ z. withdraw_keeps p w asked told s z name reply p' d)
    (λ e z. refused_keeps p w asked told s e z (Withdraw name) (Withdraw reply) p' d
    (withdraw_refused p w (s.server.lives ∙ ap has_error z) (ap has_error z) name reply p' d))
does_moves p w asked told s Announce (Announce reply) p' m d =
    at_stage s (λ z. announce_keeps p w asked told s z reply p' d)
    (λ e z. refused_keeps p w asked told s e z Announce (Announce reply) p' d
    (announce_refused p w (s.server.lives ∙ ap has_error z) (ap has_error z) reply p' d))
does_moves p w asked told s ServerNext (ServerNext reply) p' m d =
    at_stage s (λ z. server_next_keeps p w asked told s z reply p' d)
    (λ e z. refused_keeps p w asked told s e z ServerNext (ServerNext reply) p' d
    (server_next_refused p w (s.server.lives ∙ ap has_error z) (ap has_error z) reply p' d))
does_moves p w asked told s (CarryToServer most) (CarryToServer reply) p' m d =
    at_stage s (λ z. carry_to_server_keeps p w asked told s z most reply p' d)
    (λ e z. carry_refused p w asked told s e z (s.server.lives ∙ ap has_error z) most reply p' d)
does_moves p w asked told s (CarryToClient most) (CarryToClient reply) p' m d =
    carry_to_client_keeps p w asked told s (not_over s) most reply p' d
does_moves p w asked told s ClientNext (ClientNext reply) p' m d =
    client_next_keeps p w asked told s (not_over s) reply p' d
does_moves p w asked told s _ _ p' m d = absurd d

-- a pair that represents a world represents the next one after a step
pub step_keeps : (p : PairState) (w : World) → Stands p w → (move : Move) (reply : Reply) (p' : PairState) → IsMove move
    → Does p move reply p' → Keeps p w move reply p'
step_keeps p w (over asked o) move reply p' m d = over_keeps p w asked o move reply p' d
step_keeps p w (stands asked told s) move reply p' m d = forget (does_moves p w asked told s move reply p' m d)

-- the same for lists of moves
pub run_keeps : (p : PairState) (w : World) (moves : List Move) (replies : List Reply) (last : PairState) → Stands p w
    → Each IsMove moves → DoesAll p moves replies last → Runs p w moves replies last
run_keeps p w [] [] last s m d = d
run_keeps p w [] (reply ∷ replies) last s m d = absurd d
run_keeps p w (move ∷ moves) [] last s m d = absurd d
run_keeps p w (move ∷ moves) (reply ∷ replies) last s m d =
    let k = step_keeps p w s move reply d.0 m.0 d.1 in
    (d.0, k.world, k.answers, k.stands, run_keeps d.0 k.world moves replies last k.stands m.1 d.2)

-- ---- no faults

fault_at : (p : PairState) (w world : World) (reply : Result (Option events.Report) NextError) (what : Fault)
    (offset : ℕ) → ReadsAtClient p.client.core.tables p w reply world
    → reply ≡ Err (errors.Fault what offset) → ⊥
fault_at p w world reply what offset m h = subst (λ r. ReadsAtClient p.client.core.tables p w r world) h m

-- the client of a pair that represents a world meets no fault
pub client_meets_none : (p : PairState) (w : World) (what : Fault) (offset : ℕ) → Stands p w
    → next_answer p.client ≡ Err (errors.Fault what offset) → ⊥
client_meets_none p w what offset s h =
    let k = step_keeps p w s ClientNext (ClientNext (next_answer p.client))
    (with_client p (after_next p.client)) tt answered in
    fault_at p w k.world (next_answer p.client) what offset k.answers.means h

fault_in : (p : PairState) (w world : World) (reply : Result (Option requests.Report) NextError) (what : Fault)
    (offset : ℕ) → ReadsAtServer p.server.core.tables p w reply world
    → reply ≡ Err (errors.Fault what offset) → ⊥
fault_in p w world reply what offset m h = subst (λ r. ReadsAtServer p.server.core.tables p w r world) h m

-- the server of a pair that represents a world meets no fault
pub server_meets_none : (p : PairState) (w : World) (what : Fault) (offset : ℕ) → Stands p w
    → requests.next_answer p.server ≡ Err (errors.Fault what offset) → ⊥
server_meets_none p w what offset s h =
    let k = step_keeps p w s ServerNext (ServerNext (requests.next_answer p.server))
    (with_server p (requests.after_next p.server)) tt answered in
    fault_in p w k.world (requests.next_answer p.server) what offset k.answers.means h
