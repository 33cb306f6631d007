-- What the checker knows as advertised, the server added.
use Rattle.std.proofs.Common.{◌≡◌, ℕ, ◌≤◌, Bool, true, false, cond, List, [], ◌∷◌, ◌++◌, length, map, inl, refl}
use Rattle.std.proofs.Common.{sym, ap, subst, ◌∙◌, arith, inr}
use Rattle.std.specs.Prelude.{codes, max, nat_eq, option_map}
use Rattle.std.specs.declared.option.Option.{Option}
use Rattle.std.specs.declared.option.Option.TheVariants.{None, Some}
use Rattle.std.specs.declared.result.Result.TheVariants.{Ok}
use Rattle.std.proofs.lemmas.Bool.{and_parts, cases_lt, eqb-true}
use Rattle.wl_wire.specs.declared.kind.Iface.{Iface}
use Rattle.wl_sigs.specs.Side.TheVariants.{Event as event_side}
use Rattle.wl_sigs.specs.Destroys.TheVariants.{Nothing}
use Rattle.wl_sigs.specs.Fixed as fixed
use Rattle.wl_sigs.specs.Tables.{Interface, signature_at}
use Rattle.wl_sigs.specs.Valid.{Valid}
use Rattle.wl_recording.specs.declared.piece.Direction.TheVariants.{ToServer, ToClient}
use Rattle.wl_server.specs.State.{Global}
use Rattle.wl_check.specs.declared.changes.AdvertisedGlobal.{AdvertisedGlobal}
use Rattle.wl_check.specs.Changes.{Call, advertised, changes, is_global, side_of}
use Rattle.wl_check.specs.Merged.{framed, span}
use Rattle.wl_check.specs.Places.{advertised_by, advertised_version, advertises}
use Rattle.wl_check.specs.Rules.{judged, reader_by}
use Rattle.wl_check.specs.Session.{Judged}
use Rattle.wl_check.proofs.LongerRecording.{behind_one}
use Rattle.theory_connection.specs.Meant.{Arg, Born, Coming, Delete, Event, Known, Message, made_in, objects, spelled_coming}
use Rattle.theory_connection.specs.Meant.{spelled_meant, wire}
use Rattle.theory_connection.specs.World.{Each, answer, delete}
use Rattle.theory_connection.specs.Flight.{IsHeldInRows, Rows}
use Rattle.theory_connection.specs.Stands.{TellsGiven}
use Rattle.theory_connection.proofs.EventRead.{delete_signature, deleting}
use Rattle.theory_connection.proofs.MadeFor.{made_for}
use Rattle.theory_connection.proofs.ReadAsMeant.{HasObject}
use Rattle.theory_connection.proofs.RequestRead.{answer_is}
use Rattle.theory_connection.proofs.WholeInFlight.{each_by, each_more, id_maker, tells_at}
use Rattle.theory_recording.specs.Follows.{birth_places, knowledge}
use Rattle.theory_recording.proofs.CheckerOfRows.{held_known, news_told}
use Rattle.theory_recording.proofs.JudgedAsMeant.{all_found, call_as, frame_called}
use Rattle.theory_peers.specs.AnnouncedGlobals.{AnnouncesAdded, AnnouncesOnly, IsAdded, KnowsAdded}
use Rattle.theory_peers.specs.FollowsServer.{EventFits, FollowsServer, IsPlacedIn}
use Rattle.theory_peers.specs.ServerRun.{ServerRun, accepts, asks, begun, drops, reads, records, writes}
use Rattle.theory_peers.proofs.AcceptedIsAsked.{asked_by}
use Rattle.theory_peers.proofs.RunOfServer.{run_follows}

-- ---- one more judged message

-- what a call advertises, if anything, is one of these globals
abbrev pub IsOfAdded : List Global → Option AdvertisedGlobal → Type 0
IsOfAdded given None = Unit {0}
IsOfAdded given (Some a) = IsAdded given a.name a.iface.0 a.version

same_global : (given : List Global) (name iface v w : ℕ) → IsAdded given name iface v
    → (1 ≤ w → IsAdded given name iface w) → IsAdded given name iface (max v w)
same_global given name iface v w a before = elim (cases_lt 0 w) [
  | inl some ↦ (
      let b = before some in
      let both : Some b.global ≡ Some a.global = sym b.there ∙ a.there in
      let same : b.global ≡ a.global = cc both in
      let one : b.global.version ≡ a.global.version = ap (λ (g : Global). g.version) same in
      let left = a.within in
      let right = b.within in
      record { global = a.global; there = a.there; iface_is = a.iface_is; within = omega (arith, left, right, one) }
      )
  | inr none ↦ (
      let left = a.within in
      record { global = a.global; there = a.there; iface_is = a.iface_is; within = omega (arith, left, none) }
      )
]

-- a version that is advertised after the message is that of one of these globals
after_one : (given : List Global) (o : Option AdvertisedGlobal) (name iface version : ℕ) → IsOfAdded given o
    → (1 ≤ version → IsAdded given name iface version) → 1 ≤ advertised_by o name iface version
    → IsAdded given name iface (advertised_by o name iface version)
after_one given None name iface version of before least = before least
after_one given (Some a) name iface version of before least = by_test (advertises name iface a) refl least
  where
    by_test : (b : Bool) → advertises name iface a ≡ b → 1 ≤ cond b (max a.version version) version
        → IsAdded given name iface (cond b (max a.version version) version)
    by_test false is l = before l
    by_test true is l =
        let parts = and_parts (nat_eq a.name name) (nat_eq a.iface.0 iface) is in
        let name_is = eqb-true a.name name parts.0 in
        let iface_is = eqb-true a.iface.0 iface parts.1 in
        same_global given name iface a.version version
        (subst (λ (i : ℕ). IsAdded given name i a.version) iface_is
        (subst (λ (n : ℕ). IsAdded given n a.iface.0 a.version) name_is of)) before

added_after : (tables : List Interface) (given : List Global) (e : List Judged) (call : Call)
    → KnowsAdded given (knowledge tables e) → IsOfAdded given (changes tables call).advertised
    → KnowsAdded given (knowledge tables (e ++ Ok call ∷ []))
added_after tables given e call known of = λ name iface least.
    (let is = (behind_one tables e call).advertised_is name iface in
    subst (IsAdded given name iface) (sym is)
    (after_one given (changes tables call).advertised name iface ((knowledge tables e).advertised_version name iface) of
    (known name iface) (subst (λ (n : ℕ). 1 ≤ n) is least)))

-- a request advertises nothing
request_adds : (tables : List Interface) (given : List Global) (call : Call) → call.direction ≡ ToServer
    → IsOfAdded given (changes tables call).advertised
request_adds tables given call is =
    let none : (changes tables call).advertised ≡ None = rw is refl in
    subst (IsOfAdded given) (sym none) tt

-- ---- an event

-- an event that announces one of these globals advertises that one
event_adds : (tables : List Interface) (given : List Global) (args : List (Arg Known)) (b : Bool)
    → (b ≡ true → TellsGiven tables given args) → IsOfAdded given (cond b (advertised tables (map wire args)) None)
event_adds tables given args false tells = tt
event_adds tables given args true tells =
    let t = tells refl in
    let was = t.was_given in
    let is : advertised tables (map wire args)
    ≡ Some (record { name = t.name; iface = t.iface; version = t.version }) =
    ap (λ (l : List (Arg Known)). advertised tables (map wire l)) t.args_are
    ∙ ap (option_map (λ (place : Iface). let a : AdvertisedGlobal = record {
      name = t.name;
      iface = place;
      version = t.version;
    } in a)) t.known in
    subst (IsOfAdded given) (sym is) (record {
      global = was.global;
      there = was.there;
      iface_is = ap (λ (i : Iface). i.0) was.iface_is;
      within = (let version = was.version_is in omega (arith, version));
    })

-- what a server wrote is judged as a call that advertises only these globals
record JudgedAdds (limit : ℕ) (tables : List Interface) (given : List Global) (e : List Judged) (stream : List ℕ)
    (place tokens size : ℕ) : Type 0 where
  call : Call
  is : judged limit tables (knowledge tables e) stream (framed ToClient tokens (span place size)) ≡ Ok call
  of : IsOfAdded given (changes tables call).advertised

event_judged : (limit : ℕ) (tables : List Interface) (given : List Global) (e : List Judged)
    (asked : List (Message Known)) (m : Message Known) (told : List (Coming Known)) (server : Rows Born)
    (stream : List ℕ) (p t : ℕ) → Valid tables → FollowsServer tables e asked (Event m ∷ told) server
    → EventFits tables m → IsPlacedIn limit stream p ((knowledge tables e).taken ToClient) t (spelled_meant m)
    → AnnouncesAdded tables given (Event m)
    → JudgedAdds limit tables given e stream p t (length (spelled_meant m).bytes)
event_judged limit tables given e asked m told server stream p t valid f fit s tells =
    let k = knowledge tables e in
    let ps = birth_places tables e in
    let there = tells_at m.target (objects m.args) (made_in m.args) m.ends f.meet.reads in
    let o = held_known tables k ps f.here m.target f.known_as there.target in
    let names = each_by (IsHeldInRows f.here) (HasObject (reader_by tables k ToClient))
    (λ x h. held_known tables k ps f.here x f.known_as h) (objects m.args) there.args in
    let args = all_found event_side (reader_by tables k ToClient) m.args names
    (news_told tables k ps f.here m.args m.args f.known_as there.new fit.fits.new_is) in
    record {
      call = call_as ToClient m o.entry fit.fits.signature;
      is = frame_called limit tables k ToClient m stream s.more p t o fit.fits
          (made_for tables valid m.target.born.iface.0 (side_of ToClient) m.opcode fit.fits.signature
          fit.fits.there) s.whole s.bytes args s.enough refl;
      of = event_adds tables given m.args (is_global event_side o.entry.iface m.opcode)
          (λ h. tells (ap (λ (i : Iface). is_global event_side i m.opcode) (sym o.iface) ∙ h));
    }

delete_judged : (limit : ℕ) (tables : List Interface) (given : List Global) (e : List Judged)
    (asked : List (Message Known)) (x : Known) (told : List (Coming Known)) (server : Rows Born) (stream : List ℕ)
    (p t : ℕ) → Valid tables → FollowsServer tables e asked (Delete x ∷ told) server → x.id ≤ 1048576
    → IsPlacedIn limit stream p ((knowledge tables e).taken ToClient) t (spelled_coming (Delete x))
    → JudgedAdds limit tables given e stream p t (length (spelled_coming (Delete x)).bytes)
delete_judged limit tables given e asked x told server stream p t valid f low s =
    let k = knowledge tables e in
    let display_there : signature_at tables 0 event_side 1
    ≡ Some (fixed.message (codes "delete_id") 1 (fixed.uint ∷ []) Nothing) = rw valid.fixed_four.display refl in
    let fits = delete_signature tables display_there x low in
    let o = held_known tables k (birth_places tables e) f.here (deleting x).target f.known_as (inl f.display) in
    let no : is_global event_side o.entry.iface 1 ≡ false =
    ap (λ (i : Iface). is_global event_side i 1) o.iface in
    record {
      call = call_as ToClient (deleting x) o.entry fits.signature;
      is = frame_called limit tables k ToClient (deleting x) stream s.more p t o fits
          (made_for tables valid 0 (side_of ToClient) 1 fits.signature fits.there) s.whole s.bytes (tt, tt) s.enough
          refl;
      of = rw no tt;
    }

coming_judged : (limit : ℕ) (tables : List Interface) (given : List Global) (e : List Judged)
    (asked : List (Message Known)) (c : Coming Known) (told : List (Coming Known)) (server : Rows Born)
    (stream : List ℕ) (p t : ℕ) → Valid tables → FollowsServer tables e asked (c ∷ told) server
    → IsPlacedIn limit stream p ((knowledge tables e).taken ToClient) t (spelled_coming c)
    → AnnouncesAdded tables given c → JudgedAdds limit tables given e stream p t (length (spelled_coming c).bytes)
coming_judged limit tables given e asked (Event m) told server stream p t valid f s tells =
    event_judged limit tables given e asked m told server stream p t valid f f.fit.0 s tells
coming_judged limit tables given e asked (Delete x) told server stream p t valid f s tells =
    delete_judged limit tables given e asked x told server stream p t valid f f.fit.0 s

-- ---- a run

-- what the checker knows as advertised, and what the server has written and is not recorded
pub record KeepsAdded (tables : List Interface) (given : List Global) (e : List Judged) (told : List (Coming Known))
    : Type 0 where
  pub known : KnowsAdded given (knowledge tables e)
  pub told_are : Each (AnnouncesAdded tables given) told

delete_announces : (tables : List Interface) (given : List Global) (o : Option Known)
    → Each (AnnouncesAdded tables given) (delete o)
delete_announces tables given None = tt
delete_announces tables given (Some x) = (tt, tt)

none_known : (tables : List Interface) (name iface : ℕ) → 1 ≤ (knowledge tables []).advertised_version name iface → ⊥
unfolding advertised_version
none_known tables name iface least = omega (arith, least)

pub run_adds : (limit : ℕ) (tables : List Interface) (given : List Global) (e : List Judged)
    (asked : List (Message Known)) (told : List (Coming Known)) (server : Rows Born) → Valid tables
    → (run : ServerRun limit tables e asked told server) → AnnouncesOnly given run → KeepsAdded tables given e told
run_adds limit tables given _ _ _ _ v (begun sizes) only = record {
  known = λ name iface least. absurd (none_known tables name iface least);
  told_are = tt;
}
run_adds limit tables given _ _ _ _ v (accepts {e} {asked} {told} {server} run call is) only =
    let r = run_adds limit tables given e asked told server v run only in
    let f = run_follows limit tables e asked told server v run in
    let direction = ap (λ (c : Call). c.direction) (asked_by limit tables e f.here call v f.known_as is).call_is in
    record {
      known = added_after tables given e call r.known (request_adds tables given call direction);
      told_are = r.told_are;
    }
run_adds limit tables given _ _ _ _ v (asks {e} {asked} {told} {server} run call m is) only =
    let r = run_adds limit tables given e asked told server v run only in
    let f = run_follows limit tables e asked told server v run in
    let direction = ap (λ (c : Call). c.direction) (is f.here f.known_as).call_is in
    record {
      known = added_after tables given e call r.known (request_adds tables given call direction);
      told_are = r.told_are;
    }
run_adds limit tables given _ _ _ _ v (reads {e} {m} {asked} {told} {server} run) only =
    let r = run_adds limit tables given e (m ∷ asked) told server v run only in
    record {
      known = r.known;
      told_are = each_more (AnnouncesAdded tables given) told (answer id_maker m.ends) r.told_are
          (answer_is (Each (AnnouncesAdded tables given)) m.ends tt (λ x is client. (tt, tt)));
    }
run_adds limit tables given _ _ _ _ v (writes {e} {asked} {told} {server} run m may) only =
    let r = run_adds limit tables given e asked told server v run only.0 in
    record {
      known = r.known;
      told_are = each_more (AnnouncesAdded tables given) told (Event m ∷ delete m.ends) r.told_are
          (only.1, delete_announces tables given m.ends);
    }
run_adds limit tables given _ _ _ _ v (drops {e} {asked} {told} {server} run x may) only =
    let r = run_adds limit tables given e asked told server v run only in
    record {
      known = r.known;
      told_are = each_more (AnnouncesAdded tables given) told (Delete x ∷ []) r.told_are (tt, tt);
    }
run_adds limit tables given _ _ _ _ v (records {e} {asked} {coming} {told} {server} run stream place tokens at) only =
    let r = run_adds limit tables given e asked (coming ∷ told) server v run only in
    let f = run_follows limit tables e asked (coming ∷ told) server v run in
    let j = coming_judged limit tables given e asked coming told server stream place tokens v f at r.told_are.0 in
    record {
      known = subst (λ (one : Judged). KnowsAdded given (knowledge tables (e ++ one ∷ []))) (sym j.is)
          (added_after tables given e j.call r.known j.of);
      told_are = r.told_are.1;
    }
