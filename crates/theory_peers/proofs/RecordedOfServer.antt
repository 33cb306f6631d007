-- What a server wrote is recorded, and a request to it is.
use Rattle.std.proofs.Common.{◌≡◌, ◌≢◌, ℕ, suc, ◌≤◌, false, cond, List, [], ◌∷◌, ◌++◌, length, map, inl, refl}
use Rattle.std.proofs.Common.{sym, ap, subst, ◌∙◌, append-nil}
use Rattle.std.specs.Prelude.{codes, option_map}
use Rattle.std.specs.declared.option.Option.{Option}
use Rattle.std.specs.declared.option.Option.TheVariants.{None, Some}
use Rattle.std.specs.declared.result.Result.TheVariants.{Ok}
use Rattle.wl_wire.specs.declared.kind.Iface.{Iface}
use Rattle.wl_sigs.specs.Side.TheVariants.{Request, Event as event_side}
use Rattle.wl_sigs.specs.Destroys.TheVariants.{Nothing}
use Rattle.wl_sigs.specs.Tables as sigs
use Rattle.wl_sigs.specs.Tables.{Interface, signature_at, destroys_one}
use Rattle.wl_sigs.specs.Fixed as fixed
use Rattle.wl_sigs.specs.Valid.{Valid}
use Rattle.wl_object_map.specs.declared.object.Entry.{Entry}
use Rattle.wl_object_map.specs.declared.object.Maker.{Maker}
use Rattle.wl_object_map.specs.declared.object.State.TheVariants.{Live}
use Rattle.wl_objects.specs.Messages.{NewObject, made, is_delete_id, ended_id}
use Rattle.wl_recording.specs.declared.piece.Direction.TheVariants.{ToServer, ToClient}
use Rattle.wl_check.specs.Changes.{Call, changes, side_of, destroyed_id, first_number}
use Rattle.wl_check.specs.Places.{is_id, is_made, made_entry, new_or_null, used_by, server_used_by, unless_deleted, frees_id}
use Rattle.wl_check.specs.Rules.{reader_by}
use Rattle.wl_check.specs.Session.{Judged}
use Rattle.wl_check.proofs.LongerRecording.{behind_one}
use Rattle.theory_connection.specs.Meant.{Born, Known, Message, Coming, Event, Delete, objects, made_in, wire}
use Rattle.theory_connection.specs.Meant.{spelled_meant, spelled_coming}
use Rattle.theory_connection.specs.World.{Row, IfThere, display_born}
use Rattle.theory_connection.specs.Flight.{Rows, at, IsHeldInRows, MeetInMiddle, all_tells}
use Rattle.theory_connection.specs.Stands.{FitsSignature, by_event}
use Rattle.theory_connection.proofs.MadeFor.{made_for}
use Rattle.theory_connection.proofs.EndedObject.{ends_have}
use Rattle.theory_connection.proofs.EventRead.{deleting, delete_signature}
use Rattle.theory_connection.proofs.ReadAsMeant.{HasObject, made_of, made_read}
use Rattle.theory_connection.proofs.WholeInFlight.{OpenRow, client_ends, client_makes, client_told, each_by}
use Rattle.theory_connection.proofs.WholeInFlight.{all_asks_more, ask_meets, deletes_at, each_more, tells_at}
use Rattle.theory_recording.specs.Follows.{KnownAs, birth_places, knowledge}
use Rattle.theory_recording.proofs.CalledAsMeant.{go_on_more, goes_on_as, known_call, known_told, other_taken, own_taken}
use Rattle.theory_recording.proofs.CheckerOfRows.{held_known, news_told}
use Rattle.theory_recording.proofs.JudgedAsMeant.{all_found, call_as, frame_called}
use Rattle.theory_recording.proofs.KnownBehindMessage.{known_deleted, places_behind, grown}
use Rattle.theory_connection.proofs.Rules.{target_plain}
use Rattle.theory_peers.specs.FollowsServer.{EventFits, FollowsServer, IsAskedAs, KeepsRules, IsPlacedIn}
use Rattle.theory_peers.proofs.DisplayStays.{deleted_display, ended_display, ends_mortal, made_display, told_display}
use Rattle.theory_peers.proofs.MessageRules.{objects_last, request_mortal}

-- ---- an event

event_one : (limit : ℕ) (tables : List Interface) (e : List Judged)
    (asked : List (Message Known)) (m : Message Known) (told : List (Coming Known)) (server : Rows Born)
    (stream : List ℕ) (p t : ℕ) → Valid tables → FollowsServer tables e asked (Event m ∷ told) server
    → EventFits tables m
    → IsPlacedIn limit stream p ((knowledge tables e).taken ToClient) t (spelled_meant m)
    → KeepsRules limit tables stream p t (spelled_meant m) e asked told server
event_one limit tables e asked m told server stream p t valid f fit s =
    let k = knowledge tables e in
    let a = f.known_as in
    let ps = birth_places tables e in
    let new = made_in m.args in
    let there = tells_at m.target (objects m.args) new m.ends f.meet.reads in
    let o = held_known tables k ps f.here m.target a there.target in
    let names = each_by (IsHeldInRows f.here) (HasObject (reader_by tables k ToClient))
    (λ x h. held_known tables k ps f.here x a h) (objects m.args) there.args in
    let args = all_found event_side (reader_by tables k ToClient) m.args names
    (news_told tables k ps f.here m.args m.args a there.new fit.fits.new_is) in
    let made_is : made tables o.entry.version fit.fits.signature.kinds (map wire m.args) ≡ option_map made_of new =
    ap (λ (n : ℕ). made tables n fit.fits.signature.kinds (map wire m.args)) o.version
    ∙ made_read tables m.target.born.version fit.fits.signature.kinds m.args fit.fits.args in
    let call = call_as ToClient m o.entry fit.fits.signature in
    let deletes : is_delete_id event_side o.entry.iface m.opcode ≡ false =
    ap (λ (i : Iface). is_delete_id event_side i m.opcode) o.iface ∙ fit.no_delete_id in
    let deleted_is : (changes tables call).deleted ≡ None = rw deletes refl in
    let held : IfThere (IsHeldInRows f.here) m.ends =
    ends_have (IsHeldInRows f.here) tables event_side m fit.fits there.target there.args in
    let mortal = ends_mortal tables f.here m.ends valid f.display held there.ends_it in
    record {
      call = call;
      is = frame_called limit tables k ToClient m stream s.more p t o fit.fits
          (made_for tables valid m.target.born.iface.0 (side_of ToClient) m.opcode fit.fits.signature
          fit.fits.there) s.whole s.bytes args s.enough refl;
      own = own_taken tables e ToClient m o.entry fit.fits;
      other = other_taken tables e call ToServer refl;
      follows = record {
        passed = go_on_more e (Ok call) f.passed (goes_on_as tables ToClient m o.entry fit.fits o.iface);
        here = client_ends m.ends (client_told f.here new);
        known_as = known_told tables e f.here ToClient m o.entry fit.fits new valid a there.new there.target there.args
            there.range made_is deleted_is;
        meet = record { middle = f.meet.middle; reads = there.rest; tied = f.meet.tied };
        display = ended_display (client_told f.here new) m.ends mortal (told_display f.here new there.new f.display);
        asks_fit = f.asks_fit;
        fit = f.fit.1;
        server_display = f.server_display;
        low = f.low;
        plain = f.plain;
      };
    }

-- ---- a delete

-- a delete_id makes nothing and ends nothing
delete_makes : (tables : List Interface) (version : ℕ) (s : sigs.MessageSignature) (x : Known)
    → s ≡ fixed.message (codes "delete_id") 1 (fixed.uint ∷ []) Nothing
    → made tables version s.kinds (map wire (deleting x).args) ≡ None
delete_makes tables version s x is = rw is refl

known_delete : (tables : List Interface) (e : List Judged) (here : Rows Row) (x : Known) (entry : Entry)
    (signature : sigs.MessageSignature) → KnownAs (knowledge tables e) (birth_places tables e) here → x.id ≢ 1
    → x.id ≤ 1048576 → entry.iface ≡ display_born.iface
    → signature ≡ fixed.message (codes "delete_id") 1 (fixed.uint ∷ []) Nothing
    → KnownAs (knowledge tables (e ++ Ok (call_as ToClient (deleting x) entry signature) ∷ []))
    (birth_places tables (e ++ Ok (call_as ToClient (deleting x) entry signature) ∷ [])) (at here x.id None)
known_delete tables e here x entry signature a mortal low iface is =
    let call = call_as ToClient (deleting x) entry signature in
    let k = knowledge tables e in
    let k' = knowledge tables (e ++ Ok call ∷ []) in
    let p = suc (length e) in
    let b = behind_one tables e call in
    let made_is : (changes tables call).made ≡ None = delete_makes tables entry.version signature x is in
    let deleted_is : (changes tables call).deleted ≡ Some x.id =
    ap (λ (i : Iface). cond (is_delete_id event_side i 1) (first_number (map wire (deleting x).args)) None)
    iface in
    let destroyed_is : (changes tables call).destroyed ≡ None =
    ap (λ (s : sigs.MessageSignature). destroyed_id (destroys_one s.destroys)
    (ended_id s.destroys 1 (map wire (deleting x).args))) is in
    let known = known_deleted k k' (birth_places tables e) here x a mortal low
    (λ id. b.objects id ∙ (λ i. cond (is_made (made_is i) id) (Some (made_entry p Live (new_or_null (made_is i))))
    (unless_deleted (frees_id (deleted_is i) id) (is_id (destroyed_is i) id) (k.object id))))
    (b.used_is ∙ ap (λ (o : Option NewObject). used_by o k.used) made_is)
    (b.server_used_is ∙ ap (λ (o : Option NewObject). server_used_by o k.server_used) made_is) in
    let there : birth_places tables (e ++ Ok call ∷ []) ≡ birth_places tables e =
    places_behind tables e call ∙ ap (λ (o : Option NewObject). grown (birth_places tables e) o p) made_is
    ∙ (λ i by. append-nil (birth_places tables e by) i) in
    subst (λ (ps : Maker → List ℕ). KnownAs k' ps (at here x.id None)) (sym there) known

delete_one : (limit : ℕ) (tables : List Interface) (e : List Judged) (asked : List (Message Known)) (x : Known)
    (told : List (Coming Known)) (server : Rows Born) (stream : List ℕ) (p t : ℕ) → Valid tables
    → FollowsServer tables e asked (Delete x ∷ told) server → x.id ≤ 1048576
    → IsPlacedIn limit stream p ((knowledge tables e).taken ToClient) t (spelled_coming (Delete x))
    → KeepsRules limit tables stream p t (spelled_coming (Delete x)) e asked told server
delete_one limit tables e asked x told server stream p t valid f low s =
    let k = knowledge tables e in
    let a = f.known_as in
    let now = deletes_at x f.meet.reads in
    let display_there : signature_at tables 0 event_side 1
    ≡ Some (fixed.message (codes "delete_id") 1 (fixed.uint ∷ []) Nothing) = rw valid.fixed_four.display refl in
    let fits = delete_signature tables display_there x low in
    let both : Some fits.signature ≡ Some (fixed.message (codes "delete_id") 1 (fixed.uint ∷ []) Nothing) =
    sym fits.there ∙ display_there in
    let same : fits.signature ≡ fixed.message (codes "delete_id") 1 (fixed.uint ∷ []) Nothing = cc both in
    let o = held_known tables k (birth_places tables e) f.here (deleting x).target a (inl f.display) in
    let call = call_as ToClient (deleting x) o.entry fits.signature in
    record {
      call = call;
      is = frame_called limit tables k ToClient (deleting x) stream s.more p t o fits
          (made_for tables valid 0 (side_of ToClient) 1 fits.signature fits.there) s.whole s.bytes (tt, tt) s.enough
          refl;
      own = own_taken tables e ToClient (deleting x) o.entry fits;
      other = other_taken tables e call ToServer refl;
      follows = record {
        passed = go_on_more e (Ok call) f.passed (goes_on_as tables ToClient (deleting x) o.entry fits o.iface);
        here = at f.here x.id None;
        known_as = known_delete tables e f.here x o.entry fits.signature a now.mortal low o.iface same;
        meet = record { middle = f.meet.middle; reads = now.rest; tied = f.meet.tied };
        display = deleted_display f.here x now.mortal f.display;
        asks_fit = f.asks_fit;
        fit = f.fit.1;
        server_display = f.server_display;
        low = f.low;
        plain = f.plain;
      };
    }

-- either
pub coming_one : (limit : ℕ) (tables : List Interface) (e : List Judged)
    (asked : List (Message Known)) (c : Coming Known) (told : List (Coming Known)) (server : Rows Born)
    (stream : List ℕ) (p t : ℕ) → Valid tables → FollowsServer tables e asked (c ∷ told) server
    → IsPlacedIn limit stream p ((knowledge tables e).taken ToClient) t (spelled_coming c)
    → KeepsRules limit tables stream p t (spelled_coming c) e asked told server
coming_one limit tables e asked (Event m) told server stream p t valid f s =
    event_one limit tables e asked m told server stream p t valid f f.fit.0 s
coming_one limit tables e asked (Delete x) told server stream p t valid f s =
    delete_one limit tables e asked x told server stream p t valid f f.fit.0 s

-- ---- a request

pub request_one : (tables : List Interface) (e : List Judged) (asked : List (Message Known))
    (told : List (Coming Known)) (server : Rows Born) (call : Call) (m : Message Known) → Valid tables
    → (f : FollowsServer tables e asked told server) → IsAskedAs tables f.here call m
    → FollowsServer tables (e ++ Ok call ∷ []) (asked ++ m ∷ []) told server
request_one tables e asked told server call m valid f i =
    let new = made_in m.args in
    let own = call_as ToServer m i.entry i.fits.signature in
    let made_is : (changes tables own).made ≡ option_map made_of new =
    ap (λ (n : ℕ). made tables n i.fits.signature.kinds (map wire m.args)) i.version
    ∙ made_read tables m.target.born.version i.fits.signature.kinds m.args i.fits.args in
    let held = each_by (OpenRow f.here) (IsHeldInRows f.here) (λ x h. inl h) (objects m.args) i.args in
    let ends_open : IfThere (OpenRow f.here) m.ends =
    ends_have (OpenRow f.here) tables Request m i.fits i.target i.args in
    let target_lasts = target_plain tables valid m.target.born m.opcode i.fits.signature i.fits.there in
    let args_last = objects_last tables m i.fits valid in
    let ends_last : IfThere (λ x. by_event tables x.born ≡ false) m.ends =
    ends_have (λ x. by_event tables x.born ≡ false) tables Request m i.fits target_lasts args_last in
    let mortal = request_mortal tables f.here m i.fits valid f.display i.target i.args in
    let after = client_ends m.ends (client_makes f.here new) in
    let follows : FollowsServer tables (e ++ Ok own ∷ []) (asked ++ m ∷ []) told server = record {
      passed = go_on_more e (Ok own) f.passed (goes_on_as tables ToServer m i.entry i.fits i.iface);
      here = after;
      known_as = known_call tables e f.here ToServer m i.entry i.fits new valid f.known_as i.new (inl i.target) held
          made_is refl;
      meet = subst (λ (qs : List _). MeetInMiddle (by_event tables) (all_tells told) qs after server)
          (sym (all_asks_more asked m))
          (ask_meets m.target (objects m.args) new m.ends f.meet i.target target_lasts i.args args_last i.new
          ends_open ends_last mortal);
      display = ended_display (client_makes f.here new) m.ends mortal (made_display f.here new i.new f.display);
      asks_fit = each_more (FitsSignature tables Request) asked (m ∷ []) f.asks_fit (i.fits, tt);
      fit = f.fit;
      server_display = f.server_display;
      low = f.low;
      plain = f.plain;
    } in
    subst (λ (c : Call). FollowsServer tables (e ++ Ok c ∷ []) (asked ++ m ∷ []) told server) (sym i.call_is) follows
