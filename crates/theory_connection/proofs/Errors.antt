-- What is known of an error on its way.
use Rattle.std.proofs.Common.{◌≡◌, false, List, [], ap, sym, subst, ◌∙◌}
use Rattle.std.specs.declared.option.Option.TheVariants.{None}
use Rattle.theory_connection.specs.Meant.{Known, Message, Coming}
use Rattle.theory_connection.specs.World.{World, Stage, Running, Failing, Over, has_error, is_over}
use Rattle.theory_connection.specs.Pair.{PairState, Move, Reply, Does}
use Rattle.theory_connection.specs.Flight.{server_rows}
use Rattle.theory_connection.specs.Answers.{Answers, Means, IsRefusedIn, IsRefusedAtServer}
use Rattle.theory_connection.specs.Stands.{StandsBy, ErrorComes, quiet, comes}

module _ {p : PairState} {w : World} {asked : List (Message Known)} {told : List (Coming Known)}
    (s : StandsBy p w asked told) where
  -- the client has not read an error
  pub not_over : is_over w.stage ≡ false
  not_over = by_error s.error
    where
      by_error : ErrorComes w.stage p.ended_at (server_rows p.server.core.view) s.behind → is_over w.stage ≡ false
      by_error (quiet z m b) = ap is_over z
      by_error (comes e id z m b a) = ap is_over z

  -- while no error was posted, the server has not failed
  pub server_lives : w.stage ≡ Running → p.server.core.failed ≡ false
  server_lives z = s.server.lives ∙ ap has_error z

  -- and nothing is in flight behind the events
  pub nothing_behind : w.stage ≡ Running → s.behind ≡ []
  nothing_behind z = by_error s.error
    where
      by_error : ErrorComes w.stage p.ended_at (server_rows p.server.core.view) s.behind → s.behind ≡ []
      by_error (quiet y m b) = b
      by_error (comes e id y m b a) = absurd (cc (z, y))

  -- and the recording has no mark
  pub no_mark : w.stage ≡ Running → p.ended_at ≡ None
  no_mark z = by_error s.error
    where
      by_error : ErrorComes w.stage p.ended_at (server_rows p.server.core.view) s.behind → p.ended_at ≡ None
      by_error (quiet y m b) = m
      by_error (comes e id y m b a) = absurd (cc (z, y))

-- the reply to a move while no error was posted
pub before : {p p' : PairState} {w w' : World} {move : Move} {reply : Reply} → w.stage ≡ Running
    → Does p move reply p' → Means p w move reply w' → Answers p w move reply p' w'
before {reply = reply} z d m =
    record { does = d; means = m; refused = subst (λ (x : Stage). IsRefusedIn x reply) (sym z) tt }

of_client : (x : Stage) (reply : Reply) → is_over x ≡ false → IsRefusedAtServer reply → IsRefusedIn x reply
of_client Running reply l h = tt
of_client (Failing e) reply l h = h
of_client (Over e) reply l h = absurd (cc l)

-- the reply to a move that is none of the server, until the client has read an error
pub client_does : {p p' : PairState} {w w' : World} {move : Move} {reply : Reply} → is_over w.stage ≡ false
    → IsRefusedAtServer reply → Does p move reply p' → Means p w move reply w' → Answers p w move reply p' w'
client_does {w = w} {reply = reply} l h d m = record { does = d; means = m; refused = of_client w.stage reply l h }
