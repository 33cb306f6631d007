-- A request is recorded.
use Rattle.std.proofs.Common.{◌≡◌, ℕ, ◌+◌, ◌≤◌, List, [], ◌∷◌, ◌++◌, length, map, drop, inl, refl, ap, ◌∙◌}
use Rattle.std.specs.Prelude.{option_map}
use Rattle.std.specs.declared.result.Result.TheVariants.{Ok}
use Rattle.wl_sigs.specs.Tables.{Interface}
use Rattle.wl_sigs.specs.Valid.{Valid}
use Rattle.wl_message.specs.Cut.{IsMessage}
use Rattle.wl_objects.specs.Messages.{made}
use Rattle.wl_client.specs.declared.globals.Global.{Global as Remembered}
use Rattle.wl_server.specs.State.{Global}
use Rattle.wl_recording.specs.declared.piece.Direction.TheVariants.{ToServer}
use Rattle.wl_check.specs.Changes.{changes, side_of}
use Rattle.wl_check.specs.Rules.{reader_by}
use Rattle.wl_check.specs.Session.{Judged}
use Rattle.theory_connection.specs.Meant.{Known, Message, Coming, objects, made_in, wire, tokens, spelled_meant}
use Rattle.theory_connection.specs.World.{Row, Each}
use Rattle.theory_connection.specs.Flight.{Rows, IsHeldInRows}
use Rattle.theory_connection.specs.Stands.{AsksFitly, IsGlobal}
use Rattle.wl_sigs.specs.Side.TheVariants.{Request}
use Rattle.theory_connection.proofs.MadeFor.{made_for}
use Rattle.theory_connection.proofs.WholeInFlight.{OpenRow, each_by, client_makes, client_ends}
use Rattle.theory_connection.proofs.ReadAsMeant.{HasObject, made_of, made_read}
use Rattle.theory_recording.specs.Follows.{Follows, knowledge, birth_places}
use Rattle.theory_recording.proofs.LeadsByMessage.{ask_recorded}
use Rattle.theory_recording.proofs.JudgedAsMeant.{all_found, call_as, frame_called}
use Rattle.theory_recording.proofs.CheckerOfRows.{open_known, news_free}
use Rattle.theory_recording.proofs.AdvertisedGlobals.{no_bad_bind, remembers_on, tells_on, binds_on}
use Rattle.theory_recording.proofs.CalledAsMeant.{One, go_on_more, goes_on_as, own_taken}
use Rattle.theory_recording.proofs.CalledAsMeant.{other_taken, call_grows, known_call}

-- the session goes on after a request is recorded, and the checker then follows the ends
pub ask_one : (limit : ℕ) (tables : List Interface) (given : List Global) (told_seen : List (Coming Known))
    (client : Rows Row) (remembered : List Remembered) (stream more : List ℕ) (t p : ℕ) (e : List Judged)
    (m : Message Known) (ms : List (Message Known))
    → Valid tables → Each (IsGlobal tables) given
    → Follows tables e (m ∷ ms) told_seen client remembered → AsksFitly tables given m
    → IsMessage limit (spelled_meant m).bytes → drop p stream ≡ (spelled_meant m).bytes ++ more
    → (knowledge tables e).taken ToServer + length (tokens m.args) ≤ t
    → One limit tables ToServer stream t p (spelled_meant m) e (λ e'. Follows tables e' ms told_seen client remembered)
ask_one limit tables given told_seen client remembered stream more t p e m ms valid globals f fit whole bytes enough =
    let k = knowledge tables e in
    let a = f.known_as in
    let r = ask_recorded m.target (objects m.args) (made_in m.args) m.ends f.joins.leads in
    let o = open_known tables k (birth_places tables e) f.here m.target a r.target in
    let names = each_by (OpenRow f.here) (HasObject (reader_by tables k ToServer))
    (λ x h. open_known tables k (birth_places tables e) f.here x a h) (objects m.args) r.args in
    let args = all_found Request (reader_by tables k ToServer) m.args names
    (news_free tables k (birth_places tables e) f.here m.args m.args a r.new fit.fits.new_is) in
    let good = no_bad_bind tables given k m o.entry fit valid globals o.iface o.version f.binds.0 in
    let call = call_as ToServer m o.entry fit.fits.signature in
    let e' = e ++ Ok call ∷ [] in
    let kinds = fit.fits.signature.kinds in
    let made_is : (changes tables call).made ≡ option_map made_of (made_in m.args) =
    ap (λ (n : ℕ). made tables n kinds (map wire m.args)) o.version
    ∙ made_read tables m.target.born.version kinds m.args fit.fits.args in
    let grows = call_grows tables e call in
    record {
      call = call;
      is = frame_called limit tables k ToServer m stream more p t o fit.fits
          (made_for tables valid m.target.born.iface.0 (side_of ToServer) m.opcode fit.fits.signature
          fit.fits.there) whole bytes args enough good;
      own = own_taken tables e ToServer m o.entry fit.fits;
      other = λ x apart. other_taken tables e call x apart;
      next = record {
        passed = go_on_more e (Ok call) f.passed (goes_on_as tables ToServer m o.entry fit.fits o.iface);
        here = client_ends m.ends (client_makes f.here (made_in m.args));
        known_as = known_call tables e f.here ToServer m o.entry fit.fits (made_in m.args) valid a r.new (inl r.target)
            (each_by (OpenRow f.here) (IsHeldInRows f.here) (λ x h. inl h) (objects m.args) r.args) made_is refl;
        joins = record { common = f.joins.common; leads = r.rest; reads = f.joins.reads };
        remembers = remembers_on k (knowledge tables e') grows remembered f.remembers;
        tells = tells_on tables k (knowledge tables e') grows told_seen f.tells;
        binds = binds_on k (knowledge tables e') grows ms f.binds.1;
      };
    }
