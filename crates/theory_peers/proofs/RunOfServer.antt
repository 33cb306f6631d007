-- A checker follows a server through any run.
use Rattle.std.proofs.Common.{ℕ, List, [], ◌∷◌, ◌++◌, sym, subst}
use Rattle.wl_sigs.specs.Tables.{Interface}
use Rattle.wl_sigs.specs.Valid.{Valid}
use Rattle.wl_check.specs.Session.{Judged}
use Rattle.theory_connection.specs.Meant.{Born, Known, Message, Coming}
use Rattle.theory_connection.specs.Flight.{Rows}
use Rattle.theory_peers.specs.FollowsServer.{FollowsServer}
use Rattle.theory_peers.specs.ServerRun.{ServerRun, accepts, asks, begun, drops, reads, records, writes}
use Rattle.theory_peers.specs.AcceptedRequest.{asked_as}
use Rattle.theory_peers.proofs.AcceptedIsAsked.{asked_by}
use Rattle.theory_peers.proofs.RecordedOfServer.{coming_one, request_one}
use Rattle.theory_peers.proofs.ServerAtOpening.{follows_new}
use Rattle.theory_peers.proofs.ServerMoves.{drops_one, reads_one, writes_one}

pub run_follows : (limit : ℕ) (tables : List Interface) (e : List Judged)
    (asked : List (Message Known)) (told : List (Coming Known)) (server : Rows Born) → Valid tables
    → ServerRun limit tables e asked told server → FollowsServer tables e asked told server
run_follows limit tables _ _ _ _ v (begun sizes) = follows_new tables sizes v
run_follows limit tables _ _ _ _ v (accepts {e} {asked} {told} {server} run call is) =
    let f = run_follows limit tables e asked told server v run in
    request_one tables e asked told server call (asked_as tables e call) v f
    (asked_by limit tables e f.here call v f.known_as is)
run_follows limit tables _ _ _ _ v (asks {e} {asked} {told} {server} run call m is) =
    let f = run_follows limit tables e asked told server v run in
    request_one tables e asked told server call m v f (is f.here f.known_as)
run_follows limit tables _ _ _ _ v (reads {e} {m} {asked} {told} {server} run) =
    (reads_one tables e m asked told server (run_follows limit tables e (m ∷ asked) told server v run)).follows
run_follows limit tables _ _ _ _ v (writes {e} {asked} {told} {server} run m may) =
    writes_one tables e asked told server m v (run_follows limit tables e asked told server v run) may
run_follows limit tables _ _ _ _ v (drops {e} {asked} {told} {server} run x may) =
    drops_one tables e asked told server x v (run_follows limit tables e asked told server v run) may
run_follows limit tables _ _ _ _ v (records {e} {asked} {coming} {told} {server} run stream place tokens at) =
    let keeps = coming_one limit tables e asked coming told server stream place tokens v
    (run_follows limit tables e asked (coming ∷ told) server v run) at in
    subst (λ (j : Judged). FollowsServer tables (e ++ j ∷ []) asked told server) (sym keeps.is) keeps.follows
