-- Each object of a server has a version of at least 1.
use Rattle.std.proofs.Common.{◌≡◌, ℕ, ◌≤◌, Bool, true, false, cond, List, ◌∷◌, inl, inr, sym, ap, ◌∙◌, arith}
use Rattle.std.specs.Prelude.{nat_eq, option_map}
use Rattle.std.specs.declared.option.Option.{Option}
use Rattle.std.specs.declared.option.Option.TheVariants.{None, Some}
use Rattle.wl_sigs.specs.Rules.{has_server_objects}
use Rattle.wl_sigs.specs.Fixed.{display}
use Rattle.wl_sigs.specs.Tables.{Interface}
use Rattle.wl_sigs.specs.Valid.{Valid}
use Rattle.wl_object_map.specs.Objects.{opening as opening_view}
use Rattle.wl_object_map.specs.ObjectsLaws.{look-opening}
use Rattle.wl_check.specs.Session.{Judged}
use Rattle.theory_connection.specs.Meant.{Born, Coming, Known, Message, born_of_entry, live_entry, made_in}
use Rattle.theory_connection.specs.World.{IfThere, display_born}
use Rattle.theory_connection.specs.Flight.{Rows, server_rows}
use Rattle.theory_connection.proofs.Flight.{put_row_tells}
use Rattle.theory_connection.proofs.WholeInFlight.{server_ends, server_makes, server_told}
use Rattle.theory_peers.specs.ServerRun.{HasVersions, ServerRun, accepts, asks, begun, drops, reads, records, writes}
use Rattle.theory_peers.proofs.RunOfServer.{run_follows}

version_of : (x y : Born) → Some x ≡ Some y → 1 ≤ x.version → 1 ≤ y.version
version_of x y e some = let same : x ≡ y = cc e in let v = ap (λ (b : Born). b.version) same in omega (arith, some, v)

makes_versions : (s : Rows Born) (n : Option Known) → IfThere (λ x. 1 ≤ x.born.version) n → HasVersions s
    → HasVersions (server_makes s n)
makes_versions s None some h = h
makes_versions s (Some y) some h = λ id x there. elim (put_row_tells s.rows y.id (Some y.born) id) [
  | inl q ↦ version_of y.born x (sym q.1 ∙ there) some
  | inr q ↦ h id x (sym q.1 ∙ there)
]

tells_versions : (s : Rows Born) (n : Option Known) → IfThere (λ x. 1 ≤ x.born.version) n → HasVersions s
    → HasVersions (server_told s n)
tells_versions s None some h = h
tells_versions s (Some y) some h = λ id x there. elim (put_row_tells s.rows y.id (Some y.born) id) [
  | inl q ↦ version_of y.born x (sym q.1 ∙ there) some
  | inr q ↦ h id x (sym q.1 ∙ there)
]

ends_versions : (s : Rows Born) (o : Option Known) → HasVersions s → HasVersions (server_ends o s)
ends_versions s None h = h
ends_versions s (Some y) h = λ id x there. elim (put_row_tells s.rows y.id None id) [
  | inl q ↦ absurd (cc (q.1, there))
  | inr q ↦ h id x (sym q.1 ∙ there)
]

first_version : (id : ℕ) (b : Bool) (x : Born)
    → option_map (born_of_entry id) (cond b (Some (live_entry display_born)) None) ≡ Some x → 1 ≤ x.version
first_version id true x h = version_of (born_of_entry id (live_entry display_born)) x h (omega arith)
first_version id false x h = absurd (cc h)

opening_versions : (range : Bool) → HasVersions (server_rows (opening_view display range))
opening_versions range id x there =
    first_version id (nat_eq id 1) x (sym (ap (option_map (born_of_entry id)) (look-opening display range id)) ∙ there)

pub run_versions : (limit : ℕ) (tables : List Interface) (e : List Judged) (asked : List (Message Known))
    (told : List (Coming Known)) (server : Rows Born) → Valid tables
    → ServerRun limit tables e asked told server → HasVersions server
run_versions limit tables _ _ _ _ v (begun sizes) = opening_versions (has_server_objects tables)
run_versions limit tables _ _ _ _ v (accepts {e} {asked} {told} {server} run call is) =
    run_versions limit tables e asked told server v run
run_versions limit tables _ _ _ _ v (asks {e} {asked} {told} {server} run call m is) =
    run_versions limit tables e asked told server v run
run_versions limit tables _ _ _ _ v (reads {e} {m} {asked} {told} {server} run) =
    let follows = run_follows limit tables e (m ∷ asked) told server v run in
    ends_versions (server_makes server (made_in m.args)) m.ends
    (makes_versions server (made_in m.args) follows.asks_fit.0.new_version
    (run_versions limit tables e (m ∷ asked) told server v run))
run_versions limit tables _ _ _ _ v (writes {e} {asked} {told} {server} run m may) =
    ends_versions (server_told server (made_in m.args)) m.ends
    (tells_versions server (made_in m.args) may.event.fits.new_version
    (run_versions limit tables e asked told server v run))
run_versions limit tables _ _ _ _ v (drops {e} {asked} {told} {server} run x may) =
    ends_versions server (Some x) (run_versions limit tables e asked told server v run)
run_versions limit tables _ _ _ _ v (records {e} {asked} {coming} {told} {server} run stream place tokens at) =
    run_versions limit tables e asked (coming ∷ told) server v run
