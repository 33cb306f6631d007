-- A checker follows a client through any run.
use Rattle.std.proofs.Common.{ℕ, List, [], ◌∷◌, ◌++◌, sym, subst}
use Rattle.wl_sigs.specs.Tables.{Interface}
use Rattle.wl_sigs.specs.Valid.{Valid}
use Rattle.wl_client.specs.declared.globals.Global.{Global}
use Rattle.wl_check.specs.Session.{Judged}
use Rattle.theory_connection.specs.Meant.{Known, Message}
use Rattle.theory_connection.specs.World.{Row}
use Rattle.theory_connection.specs.Flight.{Rows}
use Rattle.theory_peers.specs.AcceptedEvent.{ServerMessage}
use Rattle.theory_peers.specs.FollowsClient.{FollowsClient}
use Rattle.theory_peers.specs.ClientRun.{ClientRun, asks, comes, new, passes, takes}
use Rattle.theory_peers.proofs.ClientAtOpening.{follows_new_client}
use Rattle.theory_peers.proofs.ClientMoves.{asks_one, passes_one, takes_one}
use Rattle.theory_peers.proofs.RecordedForClient.{comes_one}

pub client_run_follows : (limit : ℕ) (tables : List Interface) (e : List Judged)
    (asked : List (Message Known)) (told : List ServerMessage) (client : Rows Row) (remembered : List Global)
    → Valid tables → ClientRun limit tables e asked told client remembered
    → FollowsClient tables e asked told client remembered
client_run_follows limit tables _ _ _ _ _ v (new sizes) = follows_new_client tables sizes v
client_run_follows limit tables _ _ _ _ _ v (comes {e} {asked} {told} {client} {remembered} run call is) =
    comes_one limit tables e asked told client remembered call v
    (client_run_follows limit tables e asked told client remembered v run) is
client_run_follows limit tables _ _ _ _ _ v (takes {e} {asked} {s} {told} {client} {remembered} run) =
    takes_one tables e asked s told client remembered v
    (client_run_follows limit tables e asked (s ∷ told) client remembered v run)
client_run_follows limit tables _ _ _ _ _ v (asks {e} {asked} {told} {client} {remembered} run m may) =
    asks_one tables e asked told client remembered m v
    (client_run_follows limit tables e asked told client remembered v run) may
client_run_follows limit tables _ _ _ _ _ v
    (passes {e} {m} {asked} {told} {client} {remembered} run stream place tokens at) =
    let keeps = passes_one limit tables e m asked told client remembered stream place tokens v
    (client_run_follows limit tables e (m ∷ asked) told client remembered v run) at in
    subst (λ (j : Judged). FollowsClient tables (e ++ j ∷ []) asked told client remembered) (sym keeps.is) keeps.next
