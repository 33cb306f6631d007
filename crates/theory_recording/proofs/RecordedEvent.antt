-- An event or a delete is recorded.
use Rattle.std.proofs.Common.{◌≡◌, ◌≢◌, ℕ, suc, ◌+◌, ◌≤◌, true, false, cond, None, Some, List, []}
use Rattle.std.proofs.Common.{◌∷◌, ◌++◌, length, map, drop, inl, refl, sym, ap, subst, ◌∙◌, arith}
use Rattle.std.proofs.Common.{append-nil}
use Rattle.std.specs.Prelude.{codes, Option}
use Rattle.std.specs.declared.result.Result.TheVariants.{Ok}
use Rattle.wl_wire.specs.declared.kind.Iface.{Iface}
use Rattle.wl_wire.specs.declared.kind.Kind.{Kind}
use Rattle.wl_wire.specs.declared.kind.Kind.TheVariants as kinds
use Rattle.wl_wire.specs.Argument.{New, NewNamed}
use Rattle.wl_sigs.specs.Side.TheVariants.{Event as event_side}
use Rattle.wl_sigs.specs.Destroys.{Destroys}
use Rattle.wl_sigs.specs.Destroys.TheVariants.{Nothing}
use Rattle.wl_sigs.specs.Tables as sigs
use Rattle.wl_sigs.specs.Tables.{Interface, signature_at, destroys_one}
use Rattle.wl_sigs.specs.Fixed as fixed
use Rattle.wl_sigs.specs.Valid.{Valid}
use Rattle.wl_message.specs.Cut.{IsMessage}
use Rattle.wl_object_map.specs.declared.object.Entry.{Entry}
use Rattle.wl_object_map.specs.declared.object.State.TheVariants.{Live}
use Rattle.wl_objects.specs.Messages.{NewObject, made, made_by, is_delete_id, ended_id, or_else}
use Rattle.wl_client.specs.declared.globals.Global.{Global as Remembered}
use Rattle.wl_server.specs.State.{Global}
use Rattle.wl_recording.specs.declared.piece.Direction.TheVariants.{ToClient}
use Rattle.wl_check.specs.Changes.{changes, side_of, destroyed_id, is_global, first_number}
use Rattle.wl_check.specs.Places.{is_id, is_made, made_entry, new_or_null, used_by, server_used_by}
use Rattle.wl_check.specs.Places.{unless_deleted, frees_id}
use Rattle.wl_check.specs.Rules.{reader_by}
use Rattle.wl_check.specs.Session.{Judged}
use Rattle.wl_check.proofs.LongerRecording.{behind_one, advertised_own}
use Rattle.theory_connection.specs.Meant.{IsAmongFirst, Born, Known, Arg, Message, Coming, Event, Delete, objects}
use Rattle.theory_connection.specs.Meant.{made_in, new_object_in, wire, tokens, spelled_meant, spelled_coming}
use Rattle.theory_connection.specs.World.{Row, Open, Ending, Each, IfThere, display_born}
use Rattle.theory_connection.proofs.MadeFor.{made_for}
use Rattle.theory_connection.proofs.EndedObject.{ends_have}
use Rattle.theory_connection.specs.Flight.{IsBelow, births_in, Rows, at, Tell, Name, make_tell, ends, tells}
use Rattle.theory_connection.specs.Flight.{all_tells}
use Rattle.theory_connection.specs.Flight.{all_asks, IsHeldInRows, ReadsInFlight, MeetInMiddle}
use Rattle.theory_connection.specs.Stands.{ComesFitly, TellsFitly, by_event, birth_in}
use Rattle.theory_connection.specs.Plain.{ask_id}
use Rattle.theory_connection.proofs.Flight.{live_after, free_after, put_row_same}
use Rattle.theory_connection.proofs.WholeInFlight.{client_ends, client_told, each_by, each_more, each_front}
use Rattle.theory_connection.proofs.WholeInFlight.{each_rest, all_tells_more, deletes_at, tells_at}
use Rattle.theory_connection.proofs.Plain.{free_asks}
use Rattle.theory_connection.proofs.EventRead.{deleting, delete_signature}
use Rattle.theory_connection.proofs.ReadAsMeant.{HasObject, made_of, made_read}
use Rattle.theory_recording.specs.Follows.{Follows, knowledge, birth_places, TellsAdvertised, KnownAs}
use Rattle.theory_recording.proofs.LeadsByAction.{held_here, leads_by, reads_parted, reads_one_way}
use Rattle.theory_recording.proofs.LeadsByMessage.{Counted, unasked_event, event_recorded, delete_recorded}
use Rattle.theory_recording.proofs.JudgedAsMeant.{all_found, call_as, frame_called}
use Rattle.theory_recording.proofs.CheckerOfRows.{held_known, news_told}
use Rattle.theory_recording.proofs.AdvertisedGlobals.{remembers_on, tells_on, binds_on}
use Rattle.theory_recording.proofs.KnownBehindMessage.{known_deleted, places_behind, grown, some_place}
use Rattle.theory_recording.proofs.RequestBirths.{recorded_first}
use Rattle.theory_recording.proofs.CalledAsMeant.{One, go_on_more, goes_on_as, own_taken}
use Rattle.theory_recording.proofs.CalledAsMeant.{other_taken, call_grows, known_told}
use Rattle.std.proofs.Common.{◌<◌, Bool, inr}
use Rattle.std.specs.Prelude.{option_map}
use Rattle.wl_object_map.specs.declared.object.Maker.{Maker}
use Rattle.wl_object_map.specs.declared.object.Maker.TheVariants.{Client, Server}
use Rattle.wl_object_map.specs.Objects.{maker_of}

-- ---- what holds when the client will read the event

-- what is in flight, and which of it was recorded
pub record Whereabouts (tables : List Interface) (asked_seen asked_later : List (Message Known))
    (told : List (Coming Known)) (client : Rows Row) (server : Rows Born) : Type 0 where
  pub meet : MeetInMiddle (by_event tables) (all_tells told) (all_asks asked_seen ++ all_asks asked_later) client server
  pub counted : Each (IsBelow (births_in server)) (all_tells told)
  pub made_by : (id : ℕ) (x : Born) → server.rows id ≡ Some x → x.birth.maker ≡ maker_of id
  pub display : client.rows 1 ≡ Some (Open display_born)

-- the checker has counted an object of the client's range if the server has counted it and it is
-- held in the rows that the checker and the client both reach
counted_here : (here common : Rows Row) (server : Rows Born)
    → ((id : ℕ) (r : Row) → common.rows id ≡ Some r → (birth_in r).maker ≡ maker_of id) → server.births ≤ here.births
    → (x : Known) → IsHeldInRows common x → IsAmongFirst (births_in server) x.born.birth → Counted here x
counted_here here common server by first x h c l =
    let maker : x.born.birth.maker ≡ Client = elim h [
      | inl p ↦ by x.id (Open x.born) p ∙ ap (λ (b : Bool). cond b Server Client) l
      | inr p ↦ by x.id (Ending x.born) p ∙ ap (λ (b : Bool). cond b Server Client) l
    ] in
    let k : x.born.birth.number < server.births =
    subst (λ (m : Maker). x.born.birth.number < births_in server m) maker c in
    omega (arith, k, first)

all_counted : (here common : Rows Row) (server : Rows Born)
    → ((id : ℕ) (r : Row) → common.rows id ≡ Some r → (birth_in r).maker ≡ maker_of id) → server.births ≤ here.births
    → (xs : List Known) → Each (IsHeldInRows common) xs → Each (IsBelow (births_in server)) (map Name xs)
    → Each (Counted here) xs
all_counted here common server by first [] h c = tt
all_counted here common server by first (x ∷ xs) h c =
    (counted_here here common server by first x h.0 c.0, all_counted here common server by first xs h.1 c.1)

-- what comes next, from the rows that the checker and the client both reach
pub record NextRead (tables : List Interface) (c : Coming Known) (later : List (Coming Known))
    (common middle : Rows Row) (births : Maker → ℕ) : Type 0 where
  pub reads : ReadsInFlight (by_event tables) (tells c ++ all_tells later) common middle
  pub counted : Each (IsBelow births) (tells c)

next_read : (tables : List Interface) (asked_seen asked_later : List (Message Known))
    (told seen later : List (Coming Known)) (c : Coming Known) (client common : Rows Row) (server : Rows Born)
    (w : Whereabouts tables asked_seen asked_later told client server) → told ≡ seen ++ c ∷ later
    → ReadsInFlight (by_event tables) (all_tells seen) client common
    → NextRead tables c later common w.meet.middle (births_in server)
next_read tables asked_seen asked_later told seen later c client common server w is r =
    let parts : all_tells told ≡ all_tells seen ++ (tells c ++ all_tells later) =
    ap all_tells is ∙ all_tells_more seen (c ∷ later) in
    let p = reads_parted (all_tells seen) (subst (λ (es : List Tell). ReadsInFlight (by_event tables) es client
    w.meet.middle)
    parts w.meet.reads) in
    let same : p.between ≡ common = reads_one_way p.first r in
    let n = each_rest (IsBelow (births_in server)) (all_tells seen) (tells c ++ all_tells later)
    (subst (Each (IsBelow (births_in server))) parts w.counted) in
    record {
      reads = subst (λ (v : Rows Row). ReadsInFlight (by_event tables) (tells c ++ all_tells later) v w.meet.middle)
          same
          p.then;
      counted = each_front (IsBelow (births_in server)) (tells c) (all_tells later) n;
    }

seen_more : (seen : List (Coming Known)) (c : Coming Known) → all_tells (seen ++ c ∷ []) ≡ all_tells seen ++ tells c
seen_more seen c = all_tells_more seen (c ∷ []) ∙ ap (λ (es : List Tell). all_tells seen ++ es) (append-nil (tells c))

-- ---- an event

-- a delete makes no object
makes_none : (tables : List Interface) (version : ℕ) (kind : Kind) (a : Arg Known) → new_object_in a ≡ None
    → made_by tables version kind (wire a) ≡ None
makes_none tables version (kinds.New (Some iface)) (New x) e = absurd (cc e)
makes_none tables version (kinds.New None) (NewNamed name own x) e = absurd (cc e)
makes_none tables version (kinds.NewByServer iface) (New x) e = absurd (cc e)
makes_none tables version kind a e = refl

both_none : (a b : Option Known) → or_else a b ≡ None → (a ≡ None) × (b ≡ None)
both_none None b e = (refl, e)
both_none (Some x) b e = absurd (cc e)

makes_nothing : (tables : List Interface) (version : ℕ) (ks : List Kind) (args : List (Arg Known))
    → made_in args ≡ None → made tables version ks (map wire args) ≡ None
makes_nothing tables version [] args e = refl
makes_nothing tables version (kind ∷ ks) [] e = refl
makes_nothing tables version (kind ∷ ks) (a ∷ args) e =
    let none = both_none (new_object_in a) (made_in args) e in
    rw (makes_none tables version kind a none.0, makes_nothing tables version ks args none.1) refl

-- the global that the event advertises
own_global : (tables : List Interface) (e : List Judged) (m : Message Known) (entry : Entry)
    (signature : sigs.MessageSignature)
    → entry.iface ≡ m.target.born.iface
    → TellsAdvertised tables (knowledge tables (e ++ Ok (call_as ToClient m entry signature) ∷ [])) (Event m)
own_global tables e m entry signature same is name version text iface args place =
    let call = call_as ToClient m entry signature in
    let k = knowledge tables e in
    let global : is_global event_side entry.iface m.opcode ≡ true =
    ap (λ (i : Iface). is_global event_side i m.opcode) same ∙ is in
    let told : (changes tables call).advertised ≡ Some (record { name = name; iface = iface; version = version }) =
    rw (global, args, place) refl in
    let own = advertised_own (changes tables call) name iface version (k.advertised_version name iface.0) told in
    let next = (behind_one tables e call).advertised_is name iface.0 in
    omega (arith, own, next)

event_one : (limit : ℕ) (tables : List Interface) (given : List Global) (asked_seen asked_later : List (Message Known))
    (told : List (Coming Known)) (client : Rows Row) (server : Rows Born) (remembered : List Remembered)
    (stream more : List ℕ) (t p : ℕ) (e : List Judged) (seen later : List (Coming Known)) (m : Message Known)
    → Valid tables → Whereabouts tables asked_seen asked_later told client server
    → told ≡ seen ++ Event m ∷ later
    → Follows tables e asked_later seen client remembered → TellsFitly tables given m
    → IsMessage limit (spelled_meant m).bytes → drop p stream ≡ (spelled_meant m).bytes ++ more
    → (knowledge tables e).taken ToClient + length (tokens m.args) ≤ t
    → One limit tables ToClient stream t p (spelled_meant m) e
    (λ e'. Follows tables e' asked_later (seen ++ Event m ∷ []) client remembered)
event_one limit tables given asked_seen asked_later told client server remembered stream more t p e seen later m valid
    w is f fit whole bytes enough =
    let k = knowledge tables e in
    let a = f.known_as in
    let ps = birth_places tables e in
    let new = made_in m.args in
    let next = next_read tables asked_seen asked_later told seen later
    (Event m) client f.joins.common server w is f.joins.reads in
    let first : server.births ≤ f.here.births = recorded_first (all_asks asked_seen)
    (all_asks asked_later) f.joins.leads f.joins.reads w.meet in
    let by = leads_by f.joins.leads a.made_by in
    let there = tells_at m.target (objects m.args) new m.ends next.reads in
    let counted = each_front (IsBelow (births_in server)) (map Name (objects m.args)) (make_tell new ++ ends m.ends)
    next.counted.1 in
    let target = counted_here f.here f.joins.common server by first m.target there.target next.counted.0 in
    let args_counted = all_counted f.here f.joins.common server by first (objects m.args) there.args counted in
    let ended : IfThere (Counted f.here) m.ends = ends_have (Counted f.here) tables event_side m fit.fits target args_counted in
    let unasked = unasked_event (all_asks asked_seen) (all_asks asked_later) (all_tells later) m.target (objects m.args) new m.ends
    f.joins.leads w.meet.tied next.reads a.below
    (λ id x l h. w.made_by id x h ∙ ap (λ (b : Bool). cond b Server Client) l) in
    let r = event_recorded m.target (objects m.args) new m.ends f.joins next.reads unasked target args_counted ended in
    let o = held_known tables k ps f.here m.target a r.target in
    let names = each_by (IsHeldInRows f.here) (HasObject (reader_by tables k ToClient)) (λ x h. held_known tables k ps f.here x a h)
    (objects m.args) r.args in
    let args = all_found event_side (reader_by tables k ToClient) m.args names
    (news_told tables k ps f.here m.args m.args a r.new fit.fits.new_is) in
    let made_is : made tables o.entry.version fit.fits.signature.kinds (map wire m.args) ≡ option_map made_of new =
    ap (λ (n : ℕ). made tables n fit.fits.signature.kinds (map wire m.args)) o.version
    ∙ made_read tables m.target.born.version fit.fits.signature.kinds m.args fit.fits.args in
    let call = call_as ToClient m o.entry fit.fits.signature in
    let e' = e ++ Ok call ∷ [] in
    let k' = knowledge tables e' in
    let deletes : is_delete_id event_side o.entry.iface m.opcode ≡ false =
    ap (λ (i : Iface). is_delete_id event_side i m.opcode) o.iface ∙ fit.no_delete_id in
    let deleted_is : (changes tables call).deleted ≡ None = rw deletes refl in
    let grows = call_grows tables e call in
    record {
      call = call;
      is = frame_called limit tables k ToClient m stream more p t o fit.fits
          (made_for tables valid m.target.born.iface.0 (side_of ToClient) m.opcode fit.fits.signature
          fit.fits.there) whole bytes args enough refl;
      own = own_taken tables e ToClient m o.entry fit.fits;
      other = λ x apart. other_taken tables e call x apart;
      next = record {
        passed = go_on_more e (Ok call) f.passed (goes_on_as tables ToClient m o.entry fit.fits o.iface);
        here = client_ends m.ends (client_told f.here new);
        known_as = known_told tables e f.here ToClient m o.entry fit.fits new valid a r.new r.target r.args
            there.range made_is deleted_is;
        joins = record {
          common = r.joins.common;
          leads = r.joins.leads;
          reads = subst (λ (es : List Tell). ReadsInFlight (by_event tables) es client r.joins.common)
              (sym (seen_more seen (Event m))) r.joins.reads;
        };
        remembers = remembers_on k k' grows remembered f.remembers;
        tells = each_more (TellsAdvertised tables k') seen (Event m ∷ []) (tells_on tables k k' grows seen f.tells)
            (own_global tables e m o.entry fit.fits.signature o.iface, tt);
        binds = binds_on k k' grows asked_later f.binds;
      };
    }

-- ---- a delete

-- the checker has wl_display
pub display_held : (tables : List Interface) (e : List Judged) (asked_later : List (Message Known))
    (seen : List (Coming Known)) (client : Rows Row) (remembered : List Remembered)
    (f : Follows tables e asked_later seen client remembered)
    → Valid tables → client.rows 1 ≡ Some (Open display_born)
    → IsHeldInRows f.here (record { id = 1; born = display_born })
display_held tables e asked_later seen client remembered f valid there =
    let plain : by_event tables display_born ≡ false = rw valid.fixed_four.display refl in
    let there_still = live_after 1 display_born f.joins.reads there plain in
    held_here (record { id = 1; born = display_born }) f.joins.leads (inl there_still)
    (λ l. (let s = some_place tables e in let b = f.known_as.births Client in omega (arith, s, b)))

-- what is known after a delete
known_delete : (tables : List Interface) (e : List Judged) (here : Rows Row) (x : Known) (entry : Entry)
    (signature : sigs.MessageSignature) → KnownAs (knowledge tables e) (birth_places tables e) here → x.id ≢ 1
    → x.id ≤ 1048576 → entry.iface ≡ display_born.iface → signature.destroys ≡ Nothing
    → KnownAs (knowledge tables (e ++ Ok (call_as ToClient (deleting x) entry signature) ∷ []))
    (birth_places tables (e ++ Ok (call_as ToClient (deleting x) entry signature) ∷ [])) (at here x.id None)
known_delete tables e here x entry signature a mortal low iface keeps =
    let call = call_as ToClient (deleting x) entry signature in
    let k = knowledge tables e in
    let k' = knowledge tables (e ++ Ok call ∷ []) in
    let p = suc (length e) in
    let b = behind_one tables e call in
    let made_is : (changes tables call).made ≡ None =
    makes_nothing tables entry.version signature.kinds (deleting x).args refl in
    let deleted_is : (changes tables call).deleted ≡ Some x.id =
    ap (λ (i : Iface). cond (is_delete_id event_side i 1) (first_number (map wire (deleting x).args)) None)
    iface in
    let destroyed_is : (changes tables call).destroyed ≡ None =
    ap (λ (d : Destroys). destroyed_id (destroys_one d) (ended_id d 1 (map wire (deleting x).args))) keeps in
    let known = known_deleted k k' (birth_places tables e) here x a mortal low
    (λ id. b.objects id ∙ (λ i. cond (is_made (made_is i) id) (Some (made_entry p Live (new_or_null (made_is i))))
    (unless_deleted (frees_id (deleted_is i) id) (is_id (destroyed_is i) id) (k.object id))))
    (b.used_is ∙ ap (λ (o : Option NewObject). used_by o k.used) made_is)
    (b.server_used_is ∙ ap (λ (o : Option NewObject). server_used_by o k.server_used) made_is) in
    let there : birth_places tables (e ++ Ok call ∷ []) ≡ birth_places tables e =
    places_behind tables e call ∙ ap (λ (o : Option NewObject). grown (birth_places tables e) o p) made_is
    ∙ (λ i by. append-nil (birth_places tables e by) i) in
    subst (λ (ps : Maker → List ℕ). KnownAs k' ps (at here x.id None)) (sym there) known

delete_one : (limit : ℕ) (tables : List Interface) (asked_seen asked_later : List (Message Known))
    (told : List (Coming Known)) (client : Rows Row) (server : Rows Born) (remembered : List Remembered)
    (stream more : List ℕ) (t p : ℕ) (e : List Judged) (seen later : List (Coming Known)) (x : Known) → Valid tables
    → Whereabouts tables asked_seen asked_later told client server → told ≡ seen ++ Delete x ∷ later
    → Follows tables e asked_later seen client remembered → x.id ≤ 1048576
    → IsMessage limit (spelled_coming (Delete x)).bytes → drop p stream ≡ (spelled_coming (Delete x)).bytes ++ more
    → (knowledge tables e).taken ToClient + 0 ≤ t
    → One limit tables ToClient stream t p (spelled_coming (Delete x)) e
    (λ e'. Follows tables e' asked_later (seen ++ Delete x ∷ []) client remembered)
delete_one limit tables asked_seen asked_later told client server remembered stream more t p e seen later x valid w
    is f low whole bytes enough =
    let k = knowledge tables e in
    let a = f.known_as in
    let ps = birth_places tables e in
    let next = next_read tables asked_seen asked_later told seen later
    (Delete x) client f.joins.common server w is f.joins.reads in
    let first : server.births ≤ f.here.births = recorded_first (all_asks asked_seen)
    (all_asks asked_later) f.joins.leads f.joins.reads w.meet in
    let now = deletes_at x next.reads in
    let free : w.meet.middle.rows x.id ≡ None =
    free_after x.id now.rest now.range (put_row_same f.joins.common.rows x.id None) in
    let unnamed = each_rest (λ q. ask_id q ≢ x.id) (all_asks asked_seen) (all_asks asked_later)
    (free_asks x.id w.meet.tied free) in
    let by = leads_by f.joins.leads a.made_by in
    let r = delete_recorded x f.joins next.reads
    (counted_here f.here f.joins.common server by first x now.held next.counted.0) unnamed in
    let display_there : signature_at tables 0 event_side 1
    ≡ Some (fixed.message (codes "delete_id") 1 (fixed.uint ∷ []) Nothing) = rw valid.fixed_four.display refl in
    let fits = delete_signature tables display_there x low in
    let both : Some fits.signature ≡ Some (fixed.message (codes "delete_id") 1 (fixed.uint ∷ []) Nothing) =
    sym fits.there ∙ display_there in
    let same : fits.signature ≡ fixed.message (codes "delete_id") 1 (fixed.uint ∷ []) Nothing = cc both in
    let o = held_known tables k ps f.here (deleting x).target a
    (display_held tables e asked_later seen client remembered f valid w.display) in
    let call = call_as ToClient (deleting x) o.entry fits.signature in
    let k' = knowledge tables (e ++ Ok call ∷ []) in
    let grows = call_grows tables e call in
    record {
      call = call;
      is = frame_called limit tables k ToClient (deleting x) stream more p t o fits
          (made_for tables valid 0 (side_of ToClient) 1 fits.signature fits.there) whole bytes (tt, tt) enough
          refl;
      own = own_taken tables e ToClient (deleting x) o.entry fits;
      other = λ y apart. other_taken tables e call y apart;
      next = record {
        passed = go_on_more e (Ok call) f.passed (goes_on_as tables ToClient (deleting x) o.entry fits o.iface);
        here = at f.here x.id None;
        known_as = known_delete tables e f.here x o.entry fits.signature a now.mortal low o.iface
            (ap (λ (s : sigs.MessageSignature). s.destroys) same);
        joins = record {
          common = r.joins.common;
          leads = r.joins.leads;
          reads = subst (λ (es : List Tell). ReadsInFlight (by_event tables) es client r.joins.common)
              (sym (seen_more seen (Delete x))) r.joins.reads;
        };
        remembers = remembers_on k k' grows remembered f.remembers;
        tells = each_more (TellsAdvertised tables k') seen (Delete x ∷ []) (tells_on tables k k' grows seen f.tells)
            (tt, tt);
        binds = binds_on k k' grows asked_later f.binds;
      };
    }

-- ---- either

-- the session goes on after what comes to the client is recorded, and the checker then follows the
-- ends
pub tell_one : (limit : ℕ) (tables : List Interface) (given : List Global)
    (asked_seen asked_later : List (Message Known)) (told : List (Coming Known)) (client : Rows Row)
    (server : Rows Born) (remembered : List Remembered)
    (stream more : List ℕ) (t p : ℕ) (e : List Judged) (seen later : List (Coming Known)) (c : Coming Known)
    → Valid tables → Whereabouts tables asked_seen asked_later told client server
    → told ≡ seen ++ c ∷ later
    → Follows tables e asked_later seen client remembered → ComesFitly tables given c
    → IsMessage limit (spelled_coming c).bytes → drop p stream ≡ (spelled_coming c).bytes ++ more
    → (knowledge tables e).taken ToClient + length (spelled_coming c).tokens ≤ t
    → One limit tables ToClient stream t p (spelled_coming c) e
    (λ e'. Follows tables e' asked_later (seen ++ c ∷ []) client remembered)
tell_one limit tables given asked_seen asked_later told client server remembered stream more t p e seen later
    (Event m) valid w is f fit whole bytes enough =
    event_one limit tables given asked_seen asked_later told client server remembered stream more t p e seen later m
    valid w is f fit whole bytes enough
tell_one limit tables given asked_seen asked_later told client server remembered stream more t p e seen later
    (Delete x) valid w is f fit whole bytes enough =
    delete_one limit tables asked_seen asked_later told client server remembered stream more t p e seen later x valid
    w is f fit whole bytes enough
