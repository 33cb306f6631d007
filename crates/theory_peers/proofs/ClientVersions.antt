-- Each object that is open at the client has a version of at least 1.
use Rattle.std.proofs.Common.{◌≡◌, ℕ, ◌≤◌, Bool, true, false, cond, List, ◌∷◌, inl, inr, sym, ap, ◌∙◌}
use Rattle.std.proofs.Common.{arith}
use Rattle.std.specs.Prelude.{nat_eq, option_map}
use Rattle.std.specs.declared.option.Option.{Option}
use Rattle.std.specs.declared.option.Option.TheVariants.{None, Some}
use Rattle.wl_sigs.specs.Fixed.{display}
use Rattle.wl_sigs.specs.Tables.{Interface}
use Rattle.wl_sigs.specs.Valid.{Valid}
use Rattle.wl_object_map.specs.ObjectsLaws.{look-opening}
use Rattle.wl_client.specs.declared.globals.Global.{Global}
use Rattle.wl_check.specs.Session.{Judged}
use Rattle.theory_connection.specs.Meant.{Born, Known, Message, born_of_entry, live_entry, made_in}
use Rattle.theory_connection.specs.World.{IfThere, Row, Open, Ending, display_born}
use Rattle.theory_connection.specs.Flight.{Rows, put_row, row_of_entry}
use Rattle.theory_connection.proofs.Flight.{put_row_tells}
use Rattle.theory_connection.proofs.WholeInFlight.{client_ends, client_makes, client_told}
use Rattle.theory_peers.specs.AcceptedEvent.{ServerMessage}
use Rattle.theory_peers.specs.FollowsClient.{without_taken}
use Rattle.theory_peers.specs.ClientRun.{ClientRun, HasVersionsAtClient, asks, comes, new, passes, takes}
use Rattle.theory_peers.proofs.RunOfClient.{client_run_follows}

-- the rows with another one at an id
put_versions : (v : Rows Row) (id : ℕ) (o : Option Row) → HasVersionsAtClient v
    → ((x : Born) → o ≡ Some (Open x) → 1 ≤ x.version)
    → (other : ℕ) (x : Born) → put_row v.rows id o other ≡ Some (Open x) → 1 ≤ x.version
put_versions v id o h own other x e = elim (put_row_tells v.rows id o other) [
  | inl p ↦ own x (sym p.1 ∙ e)
  | inr p ↦ h other x (sym p.1 ∙ e)
]

opened : (y : Known) → 1 ≤ y.born.version → (x : Born) → Some (Open y.born) ≡ Some (Open x) → 1 ≤ x.version
opened y least x e =
    let same : y.born ≡ x = cc e in
    let version = ap (λ (b : Born). b.version) same in
    omega (arith, least, version)

ended : (y : Known) (x : Born) → Some (Ending y.born) ≡ Some (Open x) → 1 ≤ x.version
ended y x e = absurd (cc e)

gone : (x : Born) → None ≡ Some (Open x) → 1 ≤ x.version
gone x e = absurd (cc e)

makes_versions : (v : Rows Row) (n : Option Known) → IfThere (λ x. 1 ≤ x.born.version) n → HasVersionsAtClient v
    → HasVersionsAtClient (client_makes v n)
makes_versions v None l h = h
makes_versions v (Some y) l h = put_versions v y.id (Some (Open y.born)) h (opened y l)

told_versions : (v : Rows Row) (n : Option Known) → IfThere (λ x. 1 ≤ x.born.version) n → HasVersionsAtClient v
    → HasVersionsAtClient (client_told v n)
told_versions v None l h = h
told_versions v (Some y) l h = put_versions v y.id (Some (Open y.born)) h (opened y l)

ends_versions : (v : Rows Row) (o : Option Known) → HasVersionsAtClient v → HasVersionsAtClient (client_ends o v)
ends_versions v None h = h
ends_versions v (Some y) h = put_versions v y.id (Some (Ending y.born)) h (ended y)

taken_versions : (v : Rows Row) (o : Option Known) → HasVersionsAtClient v → HasVersionsAtClient (without_taken o v)
taken_versions v None h = h
taken_versions v (Some y) h = put_versions v y.id None h gone

first_version : (id : ℕ) (b : Bool) (x : Born)
    → option_map (row_of_entry id) (cond b (Some (live_entry display_born)) None) ≡ Some (Open x) → 1 ≤ x.version
first_version id true x e =
    let same : born_of_entry id (live_entry display_born) ≡ x = cc e in
    let version : 1 ≡ x.version = ap (λ (y : Born). y.version) same in
    omega (arith, version)
first_version id false x e = absurd (cc e)

pub client_run_versions : (limit : ℕ) (tables : List Interface) (e : List Judged)
    (asked : List (Message Known)) (told : List ServerMessage) (client : Rows Row) (remembered : List Global)
    → Valid tables → ClientRun limit tables e asked told client remembered → HasVersionsAtClient client
client_run_versions limit tables _ _ _ _ _ v (new sizes) = λ id x e.
    first_version id (nat_eq id 1) x (sym (ap (option_map (row_of_entry id)) (look-opening display true id)) ∙ e)
client_run_versions limit tables _ _ _ _ _ v (comes {e} {asked} {told} {client} {remembered} run call is) =
    client_run_versions limit tables e asked told client remembered v run
client_run_versions limit tables _ _ _ _ _ v (takes {e} {asked} {s} {told} {client} {remembered} run) =
    let f = client_run_follows limit tables e asked (s ∷ told) client remembered v run in
    let new = made_in s.event.args in
    taken_versions (client_ends s.event.ends (client_told client new)) s.takes_back
    (ends_versions (client_told client new) s.event.ends
    (told_versions client new f.tells_fit.0.fits.new_version
    (client_run_versions limit tables e asked (s ∷ told) client remembered v run)))
client_run_versions limit tables _ _ _ _ _ v (asks {e} {asked} {told} {client} {remembered} run m may) =
    ends_versions (client_makes client (made_in m.args)) m.ends
    (makes_versions client (made_in m.args) may.fits.new_version
    (client_run_versions limit tables e asked told client remembered v run))
client_run_versions limit tables _ _ _ _ _ v
    (passes {e} {m} {asked} {told} {client} {remembered} run stream place tokens at) =
    client_run_versions limit tables e (m ∷ asked) told client remembered v run
