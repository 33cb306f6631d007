-- Each move keeps a linked pair linked.
use Rattle.std.proofs.Common.{◌≡◌, true, false, List, [], ◌∷◌, refl, sym, ap, subst, ◌∙◌}
use Rattle.theory_connection.specs.Meant.{Known, Message, Coming}
use Rattle.theory_connection.specs.World.{World, Stage, Running, Failing, Over, has_error, Each}
use Rattle.theory_connection.specs.Pair.{PairState, Move, Reply, Does, carries}
use Rattle.theory_connection.specs.Pair.{after_carry_to_server, after_carry_to_client}
use Rattle.theory_connection.specs.Stands.{Stands, stands, over, StandsBy}
use Rattle.theory_connection.specs.Runs.{IsMove, DoesAll}
use Rattle.theory_connection.proofs.Carries.{to_server_stands, to_client_stands}
use Rattle.theory_connection.proofs.Errors.{server_lives}
use Rattle.theory_connection.proofs.Moves.{LeadsTo, stays, giving, asking, telling, reading_request}
use Rattle.theory_connection.proofs.Moves.{reading_event, reading_delete, carrying_to_server}
use Rattle.theory_connection.proofs.Moves.{carrying_to_client, Outcome, goes_on, posts_it, ends_it}
use Rattle.theory_connection.proofs.Steps.{does_moves, step_keeps}
use Rattle.theory_recording.specs.Linked.{Linked, linked, posted, LinkedBy, RecordsToEnd, LinksOn, RunsLinked}
use Rattle.theory_recording.proofs.LinkedWithoutCarry.{again, given_links, asked_links, told_links}
use Rattle.theory_recording.proofs.LinkedWithoutCarry.{request_links, event_links, delete_links}
use Rattle.theory_recording.proofs.LinkedCarry.{carry_to_server_links, carry_to_client_links}
use Rattle.theory_recording.proofs.LastRecorded.{post_records}
use Rattle.theory_recording.proofs.KeptByAnyMove.{records_on}

by_happening : (p : PairState) (w w' : World) (asked : List (Message Known)) (told : List (Coming Known))
    → w.stage ≡ Running → LinkedBy p w asked told
    → (p' : PairState) (asked' : List (Message Known)) (told' : List (Coming Known)) → LeadsTo p asked told p' asked' told' → StandsBy p' w' asked' told' → LinkedBy p' w' asked' told'
by_happening p w w' asked told z l p' asked' told' stays s = again p w w' asked told l s
by_happening p w w' asked told z l p' asked' told' (giving more) s = given_links p w w' asked told more l s
by_happening p w w' asked told z l p' asked' told' (asking m c b) s = asked_links p w w' asked told m c b l s
by_happening p w w' asked told z l p' asked' told' (telling view outbox registries news e h) s =
    told_links p w w' asked told view outbox registries news e h l s
by_happening p w w' asked told z l p' asked' told' (reading_request m ms n e whole there) s =
    request_links p w w' m ms told n whole there (subst (λ (x : List (Message Known)). LinkedBy p w x told) e l) s
by_happening p w w' asked told z l p' asked' told' (reading_event m cs n entry e whole) s =
    event_links p w w' asked m cs n entry z whole (subst (λ (x : List (Coming Known)). LinkedBy p w asked x) e l) s
by_happening p w w' asked told z l p' asked' told' (reading_delete x cs n e whole) s =
    delete_links p w w' asked x cs n z whole (subst (λ (y : List (Coming Known)). LinkedBy p w asked y) e l) s
by_happening p w w' asked told z l p' asked' told' (carrying_to_server most) s =
    again (after_carry_to_server p (carries p.client.core p.server.core most)) w w' asked told
    (carry_to_server_links p w asked told most l (to_server_stands p w asked told most l.stands)) s
by_happening p w w' asked told z l p' asked' told' (carrying_to_client most) s =
    again (after_carry_to_client p (carries p.server.core p.client.core most)) w w' asked told
    (carry_to_client_links p w asked told most z l (to_client_stands p w asked told most l.stands)) s

-- none of these moves makes the server fail
still_lives : (p : PairState) (asked : List (Message Known)) (told : List (Coming Known)) (p' : PairState)
    (asked' : List (Message Known)) (told' : List (Coming Known)) → LeadsTo p asked told p' asked' told'
    → p'.server.core.failed ≡ p.server.core.failed
still_lives p asked told p' asked' told' stays = refl
still_lives p asked told p' asked' told' (giving more) = refl
still_lives p asked told p' asked' told' (asking m c b) = refl
still_lives p asked told p' asked' told' (telling view outbox registries news e h) = refl
still_lives p asked told p' asked' told' (reading_request m ms n e whole there) = refl
still_lives p asked told p' asked' told' (reading_event m cs n entry e whole) = refl
still_lives p asked told p' asked' told' (reading_delete x cs n e whole) = refl
still_lives p asked told p' asked' told' (carrying_to_server most) = refl
still_lives p asked told p' asked' told' (carrying_to_client most) = refl

running : (x : Stage) → has_error x ≡ false → x ≡ Running
running Running h = refl
running (Failing e) h = absurd (cc h)
running (Over e) h = absurd (cc h)

by_outcome : (p : PairState) (w : World) (asked : List (Message Known)) (told : List (Coming Known))
    → w.stage ≡ Running → LinkedBy p w asked told → (p' : PairState) (w' : World) → Outcome p asked told p' w'
    → Linked p' w'
by_outcome p w asked told z l p' w' (goes_on asked' told' s h) =
    linked asked' told'
    (running w'.stage (sym s.server.lives ∙ still_lives p asked told p' asked' told' h ∙ server_lives l.stands z))
    (by_happening p w w' asked told z l p' asked' told' h s)
by_outcome p w asked told z l p' w' (posts_it object code text e s) =
    posted (stands asked told s) (subst RecordsToEnd (sym e) (post_records p w w' asked told object code text l
    (subst (λ (q : PairState). StandsBy q w' asked told) e s)))
by_outcome p w asked told z l p' w' (ends_it left f o) = absurd (let k = server_lives l.stands z in cc (f, k))

-- ---- all moves

-- an error was posted
error_posted : (p : PairState) (w : World) → Stands p w → p.server.core.failed ≡ true → has_error w.stage ≡ true
error_posted p w (stands asked told s) f = sym s.server.lives ∙ f
error_posted p w (over asked o) f = ap has_error o.stage

-- a step of a linked pair: the world allows the reply, and the pair is linked again
pub step_links : (p : PairState) (w : World) → Linked p w → (move : Move) (reply : Reply) (p' : PairState) → IsMove move
    → Does p move reply p' → LinksOn p w move reply p'
step_links p w (posted s r) move reply p' m d =
    let k = step_keeps p w s move reply p' m d in
    record {
      world = k.world;
      answers = k.answers;
      links = posted k.stands (records_on p w (error_posted p w s r.failed) move reply p' d r);
    }
step_links p w (linked asked told z l) move reply p' m d =
    let s = does_moves p w asked told l.stands move reply p' m d in
    record { world = s.world; answers = s.answers; links = by_outcome p w asked told z l p' s.world s.outcome }

-- the same for each step of a run
pub run_links : (p : PairState) (w : World) (moves : List Move) (replies : List Reply) (last : PairState) → Linked p w
    → Each IsMove moves → DoesAll p moves replies last → RunsLinked p w moves replies last
run_links p w [] [] last l m d = d
run_links p w [] (reply ∷ replies) last l m d = absurd d
run_links p w (move ∷ moves) [] last l m d = absurd d
run_links p w (move ∷ moves) (reply ∷ replies) last l m d =
    let k = step_links p w l move reply d.0 m.0 d.1 in
    (d.0, k.world, k.answers, k.links, run_links d.0 k.world moves replies last k.links m.1 d.2)
