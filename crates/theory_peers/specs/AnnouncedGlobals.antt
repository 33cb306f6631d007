-- The globals that a server announces in a run.
use Rattle.std.specs.Prelude.{◌≡◌, ℕ, ◌≤◌, true, List, Some}
use Rattle.wl_sigs.specs.Side.TheVariants.{Event as event_side}
use Rattle.wl_sigs.specs.Tables.{Interface}
use Rattle.wl_server.specs.State.{Global, global_of}
use Rattle.wl_check.specs.Changes.{is_global}
use Rattle.wl_check.specs.Places.{KnownAtPlace as Knows}
use Rattle.wl_check.specs.Session.{Judged}
use Rattle.theory_connection.specs.Meant.{Born, Known, Message, Coming, Event, Delete}
use Rattle.theory_connection.specs.Flight.{Rows}
use Rattle.theory_connection.specs.Stands.{TellsGiven}
use Rattle.theory_peers.specs.ServerRun.{ServerRun, accepts, asks, begun, drops, reads, records}
use Rattle.theory_peers.specs.ServerRun.{writes}

-- if this is wl_registry.global, it announces one of these globals, as the server added it
abbrev pub AnnouncesAdded : List Interface → List Global → Coming Known → Type 0
AnnouncesAdded tables given (Event m) = is_global event_side m.target.born.iface m.opcode ≡ true
    → TellsGiven tables given m.args
AnnouncesAdded tables given (Delete x) = Unit {0}

-- In this run the server announces only these globals. It may add one when it likes.
abbrev pub AnnouncesOnly : {limit : ℕ} {tables : List Interface} {e : List Judged}
    {asked : List (Message Known)} {told : List (Coming Known)} {server : Rows Born}
    → List Global → ServerRun limit tables e asked told server → Type 0
AnnouncesOnly given (begun sizes) = Unit {0}
AnnouncesOnly given (accepts run call is) = AnnouncesOnly given run
AnnouncesOnly given (asks run call m is) = AnnouncesOnly given run
AnnouncesOnly given (reads run) = AnnouncesOnly given run
AnnouncesOnly {tables = tables} given (writes run m may) =
    AnnouncesOnly given run × AnnouncesAdded tables given (Event m)
AnnouncesOnly given (drops run x may) = AnnouncesOnly given run
AnnouncesOnly given (records run stream place tokens at) = AnnouncesOnly given run

-- One of these globals has this name, this interface, and this version or a later one.
pub record IsAdded (given : List Global) (name iface version : ℕ) : Type 0 where
  pub global : Global
  pub there : global_of given name ≡ Some global
  pub iface_is : global.iface.0 ≡ iface
  pub within : version ≤ global.version

-- each version that the checker knows as advertised is that of one of these globals, or an earlier
-- one
abbrev pub KnowsAdded : List Global → Knows → Type 0
KnowsAdded given k = (name iface : ℕ) → 1 ≤ k.advertised_version name iface
    → IsAdded given name iface (k.advertised_version name iface)
