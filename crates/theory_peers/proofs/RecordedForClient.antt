-- An event that the checker accepts is recorded, and so is a request that the client wrote.
use Rattle.std.proofs.Common.{◌≡◌, ◌≢◌, ℕ, suc, ◌+◌, ◌⊎◌, Bool, true, false, cond, List, [], ◌∷◌, ◌++◌, length}
use Rattle.std.proofs.Common.{map, inl, inr, refl, sym, ap, subst, ◌∙◌, append-nil, arith}
use Rattle.std.specs.Prelude.{◌&&◌, codes, nat_eq, not, option_map}
use Rattle.std.specs.declared.option.Option.{Option}
use Rattle.std.specs.declared.option.Option.TheVariants.{None, Some}
use Rattle.std.specs.declared.result.Result.TheVariants.{Ok}
use Rattle.std.proofs.lemmas.Bool.{and_parts, cases_Bool, eqb-true}
use Rattle.std.proofs.lemmas.List.{append_assoc}
use Rattle.wl_wire.specs.declared.kind.Iface.{Iface}
use Rattle.wl_wire.specs.declared.kind.Kind.{Kind}
use Rattle.wl_wire.specs.declared.kind.Kind.TheVariants as kinds
use Rattle.wl_wire.specs.Argument.{Uint}
use Rattle.wl_sigs.specs.Side.TheVariants.{Event as event_side}
use Rattle.wl_sigs.specs.Destroys.{Destroys}
use Rattle.wl_sigs.specs.Destroys.TheVariants.{Nothing}
use Rattle.wl_sigs.specs.Fixed as fixed
use Rattle.wl_sigs.specs.Rules.{is_ended_by_event}
use Rattle.wl_sigs.specs.Tables as sigs
use Rattle.wl_sigs.specs.Tables.{Interface, destroys_one, interface_at, signature_at}
use Rattle.wl_sigs.specs.Valid.{Valid}
use Rattle.wl_object_map.specs.declared.object.Entry.{Entry}
use Rattle.wl_object_map.specs.declared.object.Maker.{Maker}
use Rattle.wl_object_map.specs.declared.object.State.{State}
use Rattle.wl_object_map.specs.declared.object.State.TheVariants.{Live, Zombie}
use Rattle.wl_object_map.specs.Ranges.{is_of_server}
use Rattle.wl_objects.specs.Messages.{NewObject, ended_id, is_delete_id, made}
use Rattle.wl_client.specs.declared.globals.Global.{Global as Remembered}
use Rattle.wl_recording.specs.declared.piece.Direction.TheVariants.{ToClient}
use Rattle.wl_check.specs.Changes.{Call, changes, destroyed_id, first_number, is_global}
use Rattle.wl_check.specs.Deserved.{Deserved}
use Rattle.wl_check.specs.Places.{KnownAtPlace as Knows, frees_id, is_id, is_made, made_entry, new_or_null, server_used_by}
use Rattle.wl_check.specs.Places.{unless_deleted, used_by}
use Rattle.wl_check.specs.Session.{Judged}
use Rattle.wl_check.proofs.LongerRecording.{advertised_own, behind_one}
use Rattle.theory_connection.specs.Meant.{Arg, Born, Event, Known, Message, ended_by, made_in, objects, wire}
use Rattle.theory_connection.specs.World.{Each, IfThere, Open, Ending, Row, display_born}
use Rattle.theory_connection.specs.Flight.{IsHeldInRows, Rows, Tell, all_asks, at, tells}
use Rattle.theory_connection.specs.Stands.{FitsSignature, SuitKinds, by_event}
use Rattle.theory_connection.proofs.EndedObject.{Mortal, both_if, ends_have, if_by}
use Rattle.theory_connection.proofs.ReadAsMeant.{made_of, made_read}
use Rattle.theory_connection.proofs.Rules.{display_plain}
use Rattle.theory_connection.proofs.WholeInFlight.{OfClient, client_ends, client_told, each_by, each_more, held_told_if}
use Rattle.theory_recording.specs.Leads.{Joins}
use Rattle.theory_recording.specs.Follows.{KnownAs, TellsAdvertised, birth_places, entry_at, knowledge}
use Rattle.theory_recording.proofs.AdvertisedGlobals.{Grows, binds_on, remembers_on, tells_on}
use Rattle.theory_recording.proofs.CalledAsMeant.{call_grows, go_on_more, goes_on_as, known_told}
use Rattle.theory_recording.proofs.JudgedAsMeant.{call_as}
use Rattle.theory_recording.proofs.KnownBehindMessage.{grown, known_deleted, places_behind}
use Rattle.theory_peers.specs.AcceptedRequest.{known_by_place}
use Rattle.theory_peers.specs.AcceptedEvent.{IsAcceptedEvent, ServerMessage, object_taken, told_as}
use Rattle.theory_peers.specs.FollowsClient.{ComesRightly, FollowsClient, HeldLow, HeldPlain, IsToldAs}
use Rattle.theory_peers.specs.FollowsClient.{all_tells_of, tells_of}
use Rattle.theory_peers.proofs.AcceptedIsTold.{told_by}
use Rattle.theory_peers.proofs.BirthsByPlace.{number_found}
use Rattle.theory_peers.proofs.ClientRowsStay.{deleted_low, deleted_plain, ended_low, ended_plain, held_low, told_low, told_plain}
use Rattle.theory_peers.proofs.DisplayStays.{deleted_display, ended_display, ends_mortal, told_display}
use Rattle.theory_peers.proofs.EventArguments.{held_by_place}
use Rattle.theory_peers.proofs.EventBeforeRequests.{delete_joins, event_joins}
use Rattle.theory_peers.proofs.MessageRules.{event_ends, event_makes}

-- ---- lists of messages

-- the actions of two lists of messages
pub tells_more : (told more : List ServerMessage) → all_tells_of (told ++ more) ≡ all_tells_of told ++ all_tells_of more
tells_more [] more = refl
tells_more (s ∷ told) more =
    ap (λ (l : List Tell). tells_of s ++ l) (tells_more told more)
    ∙ sym (append_assoc (tells_of s) (all_tells_of told) (all_tells_of more))

-- the global that an event advertises
own_global : (tables : List Interface) (e : List Judged) (m : Message Known) (entry : Entry)
    (signature : sigs.MessageSignature)
    → entry.iface ≡ m.target.born.iface
    → TellsAdvertised tables (knowledge tables (e ++ Ok (call_as ToClient m entry signature) ∷ [])) (Event m)
own_global tables e m entry signature same is name version text iface args place =
    let call = call_as ToClient m entry signature in
    let k = knowledge tables e in
    let global : is_global event_side entry.iface m.opcode ≡ true =
    ap (λ (i : Iface). is_global event_side i m.opcode) same ∙ is in
    let told : (changes tables call).advertised ≡ Some (record { name = name; iface = iface; version = version }) =
    rw (global, args, place) refl in
    let own = advertised_own (changes tables call) name iface version (k.advertised_version name iface.0) told in
    let next = (behind_one tables e call).advertised_is name iface.0 in
    omega (arith, own, next)

-- what stays advertised, and what the new event advertises
pub still_advertised : (tables : List Interface) (k k' : Knows) → Grows k k' → (told : List ServerMessage)
    → Each (λ s. TellsAdvertised tables k (Event s.event)) told
    → Each (λ s. TellsAdvertised tables k' (Event s.event)) told
still_advertised tables k k' grows told h =
    each_by (λ (s : ServerMessage). TellsAdvertised tables k (Event s.event))
    (λ (s : ServerMessage). TellsAdvertised tables k' (Event s.event))
    (λ s a. (tells_on tables k k' grows (Event s.event ∷ []) (a, tt)).0) told h

-- ---- the rows that follow

-- the rows that a checker knows after an event, and how they fit the client
record RowsFollow (tables : List Interface) (e : List Judged) (asked : List (Message Known)) (told : List ServerMessage)
    (client : Rows Row) : Type 0 where
  here : Rows Row
  known_as : KnownAs (knowledge tables e) (birth_places tables e) here
  joins : Joins (by_event tables) (all_asks asked) (all_tells_of told) here client
  display : here.rows 1 ≡ Some (Open display_born)
  low : HeldLow here
  plain : HeldPlain tables here

follows_by : (tables : List Interface) (e : List Judged) (asked : List (Message Known)) (told : List ServerMessage)
    (client : Rows Row) (remembered : List Remembered) (m : Message Known) (takes_back : Option Known) (entry : Entry)
    (fits : FitsSignature tables event_side m) → entry.iface ≡ m.target.born.iface
    → FollowsClient tables e asked told client remembered
    → ComesRightly tables (record { event = m; takes_back = takes_back })
    → RowsFollow tables (e ++ Ok (call_as ToClient m entry fits.signature) ∷ []) asked
    (told ++ record { event = m; takes_back = takes_back } ∷ []) client
    → FollowsClient tables (e ++ Ok (call_as ToClient m entry fits.signature) ∷ []) asked
    (told ++ record { event = m; takes_back = takes_back } ∷ []) client remembered
follows_by tables e asked told client remembered m takes_back entry fits iface f comes r =
    let call = call_as ToClient m entry fits.signature in
    let k = knowledge tables e in
    let k' = knowledge tables (e ++ Ok call ∷ []) in
    let grows = call_grows tables e call in
    let s : ServerMessage = record { event = m; takes_back = takes_back } in
    record {
      passed = go_on_more e (Ok call) f.passed (goes_on_as tables ToClient m entry fits iface);
      here = r.here;
      known_as = r.known_as;
      joins = r.joins;
      remembers = remembers_on k k' grows remembered f.remembers;
      advertises = each_more (λ (s : ServerMessage). TellsAdvertised tables k' (Event s.event)) told (s ∷ [])
          (still_advertised tables k k' grows told f.advertises)
          (own_global tables e m entry fits.signature iface, tt);
      binds = binds_on k k' grows asked f.binds;
      asks_fit = f.asks_fit;
      tells_fit = each_more (ComesRightly tables) told (s ∷ []) f.tells_fit (comes, tt);
      display = r.display;
      low = r.low;
      plain = r.plain;
      client_display = f.client_display;
    }

-- ---- an event that takes back nothing

-- no event ends an object of the server
ends_client : (tables : List Interface) (v : Rows Row) → HeldPlain tables v → (x : Known) → IsHeldInRows v x
    → by_event tables x.born ≡ true → OfClient x
ends_client tables v plain x held t = elim (cases_Bool (is_of_server x.id)) [
  | inl l ↦ (let no = plain x l held in absurd (cc (no, t)))
  | inr l ↦ l
]

-- what valid tables say of an event that names what is held
record EventRules (tables : List Interface) (here : Rows Row) (m : Message Known) : Type 0 where
  lasts : IfThere (λ x. by_event tables x.born ≡ false) (made_in m.args)
  ends_it : IfThere (λ x. by_event tables x.born ≡ true) m.ends
  held : IfThere (IsHeldInRows here) m.ends
  client : IfThere OfClient m.ends
  mortal : IfThere Mortal m.ends

event_rules : (tables : List Interface) (here : Rows Row) (call : Call) (m : Message Known) → Valid tables
    → here.rows 1 ≡ Some (Open display_born) → HeldPlain tables here → IsToldAs tables here call m
    → EventRules tables here m
event_rules tables here call m valid display plain t =
    let held : IfThere (IsHeldInRows here) m.ends =
    ends_have (IsHeldInRows here) tables event_side m t.fits t.target t.args in
    let ends_it = event_ends tables m t.fits valid in
    record {
      lasts = if_by (λ x r. r.lasting) (made_in m.args) (event_makes tables m t.fits valid);
      ends_it = ends_it;
      held = held;
      client = both_if (ends_client tables here plain) m.ends held ends_it;
      mortal = ends_mortal tables here m.ends valid display held ends_it;
    }

-- the rows after any event, as far as it makes and ends objects
told_joins : (tables : List Interface) (asked : List (Message Known)) (told : List ServerMessage) (here client : Rows Row)
    (call : Call) (m : Message Known) → IsToldAs tables here call m → EventRules tables here m
    → Joins (by_event tables) (all_asks asked) (all_tells_of told) here client
    → Joins (by_event tables) (all_asks asked) (all_tells_of told ++ tells (Event m))
    (client_ends m.ends (client_told here (made_in m.args))) client
told_joins tables asked told here client call m t r j =
    event_joins m.target (objects m.args) (made_in m.args) m.ends j t.target t.args t.new r.lasts r.held r.ends_it
    r.client

last_tells : (told : List ServerMessage) (m : Message Known) (takes_back : Option Known)
    → all_tells_of told ++ (tells_of (record { event = m; takes_back = takes_back }))
    ≡ all_tells_of (told ++ record { event = m; takes_back = takes_back } ∷ [])
last_tells told m takes_back =
    let s : ServerMessage = record { event = m; takes_back = takes_back } in
    ap (λ (l : List Tell). all_tells_of told ++ l) (sym (append-nil (tells_of s))) ∙ sym (tells_more told (s ∷ []))

plain_event : (tables : List Interface) (e : List Judged) (asked : List (Message Known)) (told : List ServerMessage)
    (client : Rows Row) (remembered : List Remembered) (call : Call) (m : Message Known) → Valid tables
    → (f : FollowsClient tables e asked told client remembered) → (t : IsToldAs tables f.here call m)
    → is_delete_id event_side m.target.born.iface m.opcode ≡ false
    → FollowsClient tables (e ++ Ok (call_as ToClient m t.entry t.fits.signature) ∷ []) asked
    (told ++ record { event = m; takes_back = None } ∷ []) client remembered
plain_event tables e asked told client remembered call m valid f t other =
    let own = call_as ToClient m t.entry t.fits.signature in
    let new = made_in m.args in
    let r = event_rules tables f.here call m valid f.display f.plain t in
    let made_is : (changes tables own).made ≡ option_map made_of new =
    ap (λ (n : ℕ). made tables n t.fits.signature.kinds (map wire m.args)) t.version
    ∙ made_read tables m.target.born.version t.fits.signature.kinds m.args t.fits.args in
    let deletes : is_delete_id event_side t.entry.iface m.opcode ≡ false =
    ap (λ (i : Iface). is_delete_id event_side i m.opcode) t.iface ∙ other in
    let deleted_is : (changes tables own).deleted ≡ None = rw deletes refl in
    let after = client_ends m.ends (client_told f.here new) in
    let held_after = held_told_if f.here new m.ends t.new r.client r.held in
    let joins = told_joins tables asked told f.here client call m t r f.joins in
    follows_by tables e asked told client remembered m None t.entry t.fits t.iface f
    (record { fits = t.fits; deletes = λ is. absurd (cc (is, other)); keeps = λ is. refl })
    (record {
      here = after;
      known_as = known_told tables e f.here ToClient m t.entry t.fits new valid f.known_as t.new t.target t.args r.client
          made_is deleted_is;
      joins = subst (λ (es : List Tell). Joins (by_event tables) (all_asks asked) es after client)
          (ap (λ (l : List Tell). all_tells_of told ++ l) (sym (append-nil (tells (Event m)))) ∙ last_tells told m None)
          joins;
      display = ended_display (client_told f.here new) m.ends r.mortal (told_display f.here new t.new f.display);
      low = ended_low (client_told f.here new) m.ends held_after (told_low f.here new t.new f.low);
      plain = ended_plain tables (client_told f.here new) m.ends held_after (told_plain tables f.here new r.lasts f.plain);
    })

-- ---- a delete_id

-- the arguments of a delete_id; it makes and ends nothing
pub record IsDelete (m : Message Known) (signature : sigs.MessageSignature) : Type 0 where
  pub id : ℕ
  pub args_are : m.args ≡ Uint id ∷ []
  pub ends_are : m.ends ≡ None
  pub keeps : signature.destroys ≡ Nothing

abbrev the_delete : sigs.MessageSignature
the_delete = fixed.message (codes "delete_id") 1 (fixed.uint ∷ []) Nothing

one_number : (tables : List Interface) (version : ℕ) (args : List (Arg Known))
    → SuitKinds tables version (fixed.uint ∷ []) args → (id : ℕ) × (args ≡ Uint id ∷ [])
one_number tables version [] s = absurd s
one_number tables version (Uint id ∷ []) s = (id, refl)
one_number tables version (a ∷ []) s = absurd s.0.0
one_number tables version (a ∷ b ∷ args) s = absurd s.1

pub is_delete : (tables : List Interface) (m : Message Known) (fits : FitsSignature tables event_side m) → Valid tables
    → is_delete_id event_side m.target.born.iface m.opcode ≡ true → IsDelete m fits.signature
is_delete tables m fits valid is =
    let parts = and_parts (nat_eq m.target.born.iface.0 0) (nat_eq m.opcode 1) is in
    let iface = eqb-true m.target.born.iface.0 0 parts.0 in
    let opcode = eqb-true m.opcode 1 parts.1 in
    let own : signature_at tables 0 event_side 1 ≡ Some the_delete = rw valid.fixed_four.display refl in
    let both : Some fits.signature ≡ Some the_delete =
    sym fits.there ∙ (λ i. signature_at tables (iface i) event_side (opcode i)) ∙ own in
    let same : fits.signature ≡ the_delete = cc both in
    let one = one_number tables m.target.born.version m.args
    (subst (λ (s : sigs.MessageSignature). SuitKinds tables m.target.born.version s.kinds m.args) same fits.args) in
    record {
      id = one.0;
      args_are = one.1;
      ends_are = fits.ends ∙ ap (λ (s : sigs.MessageSignature). ended_by s.destroys m.target m.args) same;
      keeps = ap (λ (s : sigs.MessageSignature). s.destroys) same;
    }

-- what the checker knows after a delete_id
record BehindDelete (tables : List Interface) (e : List Judged) (call : Call) (id : ℕ) : Type 0 where
  deleted_is : (changes tables call).deleted ≡ Some id
  objects : (other : ℕ) → (knowledge tables (e ++ Ok call ∷ [])).object other
      ≡ unless_deleted (frees_id (Some id) other) false ((knowledge tables e).object other)
  used : (knowledge tables (e ++ Ok call ∷ [])).used ≡ (knowledge tables e).used
  server_used : (knowledge tables (e ++ Ok call ∷ [])).server_used ≡ (knowledge tables e).server_used
  places : birth_places tables (e ++ Ok call ∷ []) ≡ birth_places tables e

behind_delete : (tables : List Interface) (e : List Judged) (m : Message Known) (entry : Entry)
    (fits : FitsSignature tables event_side m) → entry.iface ≡ m.target.born.iface
    → entry.version ≡ m.target.born.version
    → is_delete_id event_side m.target.born.iface m.opcode ≡ true → (d : IsDelete m fits.signature)
    → BehindDelete tables e (call_as ToClient m entry fits.signature) d.id
behind_delete tables e m entry fits iface version is d =
    let call = call_as ToClient m entry fits.signature in
    let k = knowledge tables e in
    let p = suc (length e) in
    let b = behind_one tables e call in
    let made_is : (changes tables call).made ≡ None =
    ap (λ (n : ℕ). made tables n fits.signature.kinds (map wire m.args)) version
    ∙ made_read tables m.target.born.version fits.signature.kinds m.args fits.args
    ∙ ap (λ (l : List (Arg Known)). option_map made_of (made_in l)) d.args_are in
    let deletes : is_delete_id event_side entry.iface m.opcode ≡ true =
    ap (λ (i : Iface). is_delete_id event_side i m.opcode) iface ∙ is in
    let number : first_number (map wire m.args) ≡ Some d.id =
    ap (λ (l : List (Arg Known)). first_number (map wire l)) d.args_are in
    let deleted_is : (changes tables call).deleted ≡ Some d.id = rw deletes number in
    let destroyed_is : (changes tables call).destroyed ≡ None =
    ap (λ (w : Destroys). destroyed_id (destroys_one w) (ended_id w m.target.id (map wire m.args))) d.keeps in
    record {
      deleted_is = deleted_is;
      objects = λ id. b.objects id
          ∙ (λ i. cond (is_made (made_is i) id) (Some (made_entry p Live (new_or_null (made_is i))))
          (unless_deleted (frees_id (deleted_is i) id) (is_id (destroyed_is i) id) (k.object id)));
      used = b.used_is ∙ ap (λ (o : Option NewObject). used_by o k.used) made_is;
      server_used = b.server_used_is ∙ ap (λ (o : Option NewObject). server_used_by o k.server_used) made_is;
      places = places_behind tables e call ∙ ap (λ (o : Option NewObject). grown (birth_places tables e) o p) made_is
          ∙ (λ i by. append-nil (birth_places tables e by) i);
    }

-- a delete_id of an id of the server frees no id
both_tests : (one server same : Bool) → (same ≡ true → server ≡ true) → not one && not server && same ≡ false
both_tests true server same h = refl
both_tests false true same h = refl
both_tests false false true h = absurd (let no = h refl in cc no)
both_tests false false false h = refl

frees_none : (id other : ℕ) → is_of_server id ≡ true → frees_id (Some id) other ≡ false
frees_none id other l =
    both_tests (nat_eq other 1) (is_of_server other) (nat_eq id other)
    (λ same. ap is_of_server (sym (eqb-true id other same)) ∙ l)

known_same : (k k' : Knows) (places : Maker → List ℕ) (here : Rows Row) (id : ℕ) → KnownAs k places here
    → is_of_server id ≡ true
    → ((other : ℕ) → k'.object other ≡ unless_deleted (frees_id (Some id) other) false (k.object other))
    → k'.used ≡ k.used → k'.server_used ≡ k.server_used → KnownAs k' places here
known_same k k' places here id a l objects used server_used = record {
  objects = λ other. objects other
      ∙ ap (λ (b : Bool). unless_deleted b false (k.object other)) (frees_none id other l) ∙ a.objects other;
  used = used ∙ a.used;
  next = ap (λ (n : ℕ). 4278190080 + n) server_used ∙ a.next;
  births = a.births;
  below = a.below;
  made_by = a.made_by;
}

-- ---- a deserved delete

live_no : (a : State) → a ≡ Live → a ≡ Zombie → ⊥
live_no a l z = let no : Live ≡ Zombie = sym l ∙ z in cc no

-- the delete of a deserved id concerns an object of the client that is not wl_display
record Taken (tables : List Interface) (here : Rows Row) (x : Known) : Type 0 where
  held : IsHeldInRows here x
  mortal : x.id ≢ 1
  given_up : (by_event tables x.born ≡ true) ⊎ (here.rows x.id ≡ Some (Ending x.born))

taken_one : (tables : List Interface) (e : List Judged) (here : Rows Row) (id : ℕ) → Valid tables
    → KnownAs (knowledge tables e) (birth_places tables e) here → here.rows 1 ≡ Some (Open display_born)
    → (d : Deserved tables (knowledge tables e) id)
    → Taken tables here (known_by_place (birth_places tables e) id d.entry)
taken_one tables e here id valid a display d =
    let k = knowledge tables e in
    let places = birth_places tables e in
    let x = known_by_place places id d.entry in
    let held = held_by_place k places here a (number_found tables e) id d.entry d.named in
    record { held = held; mortal = mortal; given_up = by_held held }
  where
    entry_is : (b : Born) → here.rows id ≡ Some (Open b) → entry_at (birth_places tables e) (Open b) ≡ d.entry
    entry_is b h =
        let both : Some (entry_at (birth_places tables e) (Open b)) ≡ Some d.entry =
        sym (a.objects id ∙ ap (option_map (entry_at (birth_places tables e))) h) ∙ d.named in
        cc both

    lives : (b : Born) → here.rows id ≡ Some (Open b) → d.entry.state ≡ Zombie → ⊥
    lives b h z = live_no d.entry.state (sym (ap (λ (x : Entry). x.state) (entry_is b h))) z

    mortal : id ≢ 1
    mortal one =
        let there : here.rows id ≡ Some (Open display_born) = ap here.rows one ∙ display in
        elim d.given_up [
          | inl z ↦ lives display_born there z
          | inr t ↦ (
              let same : 0 ≡ d.entry.iface.0 = ap (λ (x : Entry). x.iface.0) (entry_is display_born there) in
              let no : true ≡ false = sym t ∙ ap (λ (n : ℕ). is_ended_by_event (interface_at tables n)) (sym same)
              ∙ display_plain tables valid in
              cc no
              )
        ]

    by_held : IsHeldInRows here (known_by_place (birth_places tables e) id d.entry)
        → (by_event tables (known_by_place (birth_places tables e) id d.entry).born ≡ true)
        ⊎ (here.rows id ≡ Some (Ending (known_by_place (birth_places tables e) id d.entry).born))
    by_held (inr h) = inr h
    by_held (inl h) = elim d.given_up [
      | inl z ↦ absurd (lives (known_by_place (birth_places tables e) id d.entry).born h z)
      | inr t ↦ inl t
    ]

delete_event : (tables : List Interface) (e : List Judged) (asked : List (Message Known)) (told : List ServerMessage)
    (client : Rows Row) (remembered : List Remembered) (call : Call) (m : Message Known) → Valid tables
    → (f : FollowsClient tables e asked told client remembered) → (t : IsToldAs tables f.here call m)
    → is_delete_id event_side m.target.born.iface m.opcode ≡ true → (d : IsDelete m t.fits.signature)
    → (is_of_server d.id ≡ false → Deserved tables (knowledge tables e) d.id) → (b : Bool) → is_of_server d.id ≡ b
    → FollowsClient tables (e ++ Ok (call_as ToClient m t.entry t.fits.signature) ∷ []) asked
    (told ++ record {
      event = m;
      takes_back = cond b None (option_map (known_by_place (birth_places tables e) d.id) ((knowledge tables e).object d.id));
    } ∷ []) client remembered
delete_event tables e asked told client remembered call m valid f t is d deserved true range =
    let r = event_rules tables f.here call m valid f.display f.plain t in
    let own = call_as ToClient m t.entry t.fits.signature in
    let k = knowledge tables e in
    let k' = knowledge tables (e ++ Ok own ∷ []) in
    let b = behind_delete tables e m t.entry t.fits t.iface t.version is d in
    let same : client_ends m.ends (client_told f.here (made_in m.args)) ≡ f.here =
    λ i. client_ends (d.ends_are i) (client_told f.here (made_in (d.args_are i))) in
    let joins = told_joins tables asked told f.here client call m t r f.joins in
    follows_by tables e asked told client remembered m None t.entry t.fits t.iface f
    (record {
      fits = t.fits;
      deletes = λ h. record { id = d.id; args_are = d.args_are; takes = range };
      keeps = λ h. refl;
    })
    (record {
      here = f.here;
      known_as = subst (λ (ps : Maker → List ℕ). KnownAs k' ps f.here) (sym b.places)
          (known_same k k' (birth_places tables e) f.here d.id f.known_as range b.objects b.used b.server_used);
      joins = subst (λ (es : List Tell). Joins (by_event tables) (all_asks asked) es f.here client)
          (ap (λ (l : List Tell). all_tells_of told ++ l) (sym (append-nil (tells (Event m)))) ∙ last_tells told m None)
          (subst (λ (v : Rows Row). Joins (by_event tables) (all_asks asked) (all_tells_of told ++ tells (Event m)) v client)
          same joins);
      display = f.display;
      low = f.low;
      plain = f.plain;
    })
delete_event tables e asked told client remembered call m valid f t is d deserved false range =
    let r = event_rules tables f.here call m valid f.display f.plain t in
    let own = call_as ToClient m t.entry t.fits.signature in
    let k = knowledge tables e in
    let places = birth_places tables e in
    let k' = knowledge tables (e ++ Ok own ∷ []) in
    let b = behind_delete tables e m t.entry t.fits t.iface t.version is d in
    let why = deserved range in
    let x = known_by_place places d.id why.entry in
    let taken = taken_one tables e f.here d.id valid f.known_as f.display why in
    let low = held_low f.here x f.low taken.held range in
    let same : client_ends m.ends (client_told f.here (made_in m.args)) ≡ f.here =
    λ i. client_ends (d.ends_are i) (client_told f.here (made_in (d.args_are i))) in
    let joins = subst
    (λ (v : Rows Row). Joins (by_event tables) (all_asks asked) (all_tells_of told ++ tells (Event m)) v client)
    same (told_joins tables asked told f.here client call m t r f.joins) in
    let after = delete_joins x joins taken.mortal range taken.held taken.given_up in
    let takes : option_map (known_by_place places d.id) (k.object d.id) ≡ Some x =
    ap (option_map (known_by_place places d.id)) why.named in
    subst (λ (o : Option Known). FollowsClient tables (e ++ Ok own ∷ []) asked
    (told ++ record { event = m; takes_back = o } ∷ []) client remembered) (sym takes)
    (follows_by tables e asked told client remembered m (Some x) t.entry t.fits t.iface f
    (record {
      fits = t.fits;
      deletes = λ h. record { id = d.id; args_are = d.args_are; takes = refl };
      keeps = λ h. absurd (cc (is, h));
    })
    (record {
      here = at f.here d.id None;
      known_as = subst (λ (ps : Maker → List ℕ). KnownAs k' ps (at f.here d.id None)) (sym b.places)
          (known_deleted k k' places f.here x f.known_as taken.mortal low b.objects b.used b.server_used);
      joins = subst (λ (es : List Tell). Joins (by_event tables) (all_asks asked) es (at f.here d.id None) client)
          (append_assoc (all_tells_of told) (tells (Event m)) _ ∙ last_tells told m (Some x)) after;
      display = deleted_display f.here x taken.mortal f.display;
      low = deleted_low f.here d.id f.low;
      plain = deleted_plain tables f.here d.id f.plain;
    }))

-- ---- either

by_deleted : (tables : List Interface) (e : List Judged) (asked : List (Message Known)) (told : List ServerMessage)
    (client : Rows Row) (remembered : List Remembered) (call : Call) (m : Message Known) → Valid tables
    → (f : FollowsClient tables e asked told client remembered) → (t : IsToldAs tables f.here call m)
    → ((id : ℕ) → (changes tables (call_as ToClient m t.entry t.fits.signature)).deleted ≡ Some id
    → Deserved tables (knowledge tables e) id)
    → (b : Bool) → is_delete_id event_side m.target.born.iface m.opcode ≡ b
    → FollowsClient tables (e ++ Ok (call_as ToClient m t.entry t.fits.signature) ∷ []) asked
    (told ++ record {
      event = m;
      takes_back = object_taken (birth_places tables e) (knowledge tables e)
          (changes tables (call_as ToClient m t.entry t.fits.signature)).deleted;
    } ∷ []) client remembered
by_deleted tables e asked told client remembered call m valid f t deserved false is =
    let own = call_as ToClient m t.entry t.fits.signature in
    let no : is_delete_id event_side t.entry.iface m.opcode ≡ false =
    ap (λ (i : Iface). is_delete_id event_side i m.opcode) t.iface ∙ is in
    let none : (changes tables own).deleted ≡ None = rw no refl in
    subst (λ (o : Option ℕ). FollowsClient tables (e ++ Ok own ∷ []) asked
    (told ++ record { event = m; takes_back = object_taken (birth_places tables e) (knowledge tables e) o } ∷ []) client
    remembered) (sym none) (plain_event tables e asked told client remembered call m valid f t is)
by_deleted tables e asked told client remembered call m valid f t deserved true is =
    let own = call_as ToClient m t.entry t.fits.signature in
    let d = is_delete tables m t.fits valid is in
    let b = behind_delete tables e m t.entry t.fits t.iface t.version is d in
    subst (λ (o : Option ℕ). FollowsClient tables (e ++ Ok own ∷ []) asked
    (told ++ record { event = m; takes_back = object_taken (birth_places tables e) (knowledge tables e) o } ∷ []) client
    remembered) (sym b.deleted_is)
    (delete_event tables e asked told client remembered call m valid f t is d (λ range. deserved d.id b.deleted_is)
    (is_of_server d.id) refl)

-- an event that the checker accepts is recorded
pub comes_one : (limit : ℕ) (tables : List Interface) (e : List Judged) (asked : List (Message Known))
    (told : List ServerMessage) (client : Rows Row) (remembered : List Remembered) (call : Call) → Valid tables
    → FollowsClient tables e asked told client remembered → IsAcceptedEvent limit tables e call
    → FollowsClient tables (e ++ Ok call ∷ []) asked (told ++ told_as tables e call ∷ []) client remembered
comes_one limit tables e asked told client remembered call valid f c =
    let t = told_by limit tables e f.here call valid f.known_as c in
    let m = (told_as tables e call).event in
    let own = call_as ToClient m t.entry t.fits.signature in
    subst (λ (one : Call). FollowsClient tables (e ++ Ok one ∷ []) asked
    (told ++ record {
      event = m;
      takes_back = object_taken (birth_places tables e) (knowledge tables e) (changes tables one).deleted;
    } ∷ []) client remembered) (sym t.call_is)
    (by_deleted tables e asked told client remembered call m valid f t
    (λ id is. c.deserved id (ap (λ (one : Call). (changes tables one).deleted) t.call_is ∙ is))
    (is_delete_id event_side m.target.born.iface m.opcode) refl)
