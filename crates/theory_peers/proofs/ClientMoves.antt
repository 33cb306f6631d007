-- The client reads what came, or writes a request; and a request of its own is recorded.
use Rattle.std.proofs.Common.{◌≡◌, ℕ, ◌+◌, ◌≤◌, Bool, true, false, cond, List, [], ◌∷◌, ◌++◌, map, inl, refl}
use Rattle.std.proofs.Common.{sym, ap, subst, ◌∙◌, arith}
use Rattle.std.specs.Prelude.{◌&&◌, codes, nat_eq, nat_le, not, option_map}
use Rattle.std.specs.declared.option.Option.{Option}
use Rattle.std.specs.declared.option.Option.TheVariants.{None, Some}
use Rattle.std.specs.declared.result.Result.TheVariants.{Ok}
use Rattle.std.proofs.lemmas.Bool.{eq-eqb, eqb-true}
use Rattle.std.proofs.lemmas.Bool.Decides.{nat_tests}
use Rattle.std.proofs.lemmas.List.{append_assoc}
use Rattle.wl_wire.specs.declared.kind.Iface.{Iface}
use Rattle.wl_wire.specs.declared.kind.Kind.{Kind}
use Rattle.wl_wire.specs.Argument.{Str, Uint}
use Rattle.wl_sigs.specs.Side.TheVariants.{Request, Event as event_side}
use Rattle.wl_sigs.specs.Destroys.TheVariants.{Nothing}
use Rattle.wl_sigs.specs.Fixed as fixed
use Rattle.wl_sigs.specs.Tables as sigs
use Rattle.wl_sigs.specs.Tables.{Interface, place_of, signature_at}
use Rattle.wl_sigs.specs.Valid.{Valid}
use Rattle.wl_object_map.specs.declared.object.Entry.{Entry}
use Rattle.wl_objects.specs.Messages.{is_bind, made}
use Rattle.wl_client.specs.declared.globals.Global.{Global as Remembered}
use Rattle.wl_client.specs.Reports.{argument, forgotten, globals_told, number_in, remembered_as, text_in}
use Rattle.wl_client.specs.State.{is_named}
use Rattle.wl_recording.specs.declared.piece.Direction.TheVariants.{ToServer}
use Rattle.wl_check.specs.Changes.{changes, first_number, side_of}
use Rattle.wl_check.specs.Places.{KnownAtPlace as Knows}
use Rattle.wl_check.specs.Rules.{allows_bind, is_disallowed_bind, reader_by, version_of}
use Rattle.wl_check.specs.Session.{Judged}
use Rattle.theory_connection.specs.Meant.{Arg, Event, Known, Message, made_in, objects, spelled_meant, wire}
use Rattle.theory_connection.specs.World.{Each, IfThere, Row, is_open_row, is_registry}
use Rattle.theory_connection.specs.Flight.{IsHeldInRows, ReadsInFlight, Rows, Tell, tells}
use Rattle.theory_connection.specs.Stands.{FitsSignature, SuitKinds, by_event}
use Rattle.theory_connection.proofs.ClientBindMove.{find_at}
use Rattle.theory_connection.proofs.ClientGlobals.{each_filter, each_remembered}
use Rattle.theory_connection.proofs.EndedObject.{Mortal, ends_have, if_by}
use Rattle.theory_connection.proofs.MadeFor.{made_for}
use Rattle.theory_connection.proofs.ReadAsMeant.{HasObject, made_of, made_read}
use Rattle.theory_connection.proofs.Rules.{target_plain}
use Rattle.theory_connection.proofs.WholeInFlight.{OfClient, OpenRow, TellsAt, all_asks_more, client_ends, client_makes}
use Rattle.theory_connection.proofs.WholeInFlight.{client_told, deletes_at, each_by, each_more, live_made_if, tells_at}
use Rattle.theory_recording.specs.Follows.{BindsAdvertised, IsAdvertised, TellsAdvertised, birth_places, knowledge}
use Rattle.theory_recording.proofs.AdvertisedGlobals.{binds_on, remembers_on}
use Rattle.theory_recording.proofs.CalledAsMeant.{call_grows, go_on_more, goes_on_as, known_call}
use Rattle.theory_recording.proofs.CheckerOfRows.{news_free, open_known}
use Rattle.theory_recording.proofs.JudgedAsMeant.{all_found, call_as, frame_called}
use Rattle.theory_recording.proofs.LeadsByMessage.{ask_recorded, asks_more}
use Rattle.theory_peers.specs.AcceptedEvent.{ServerMessage}
use Rattle.theory_peers.specs.FollowsClient.{BindsKnown, ClientKeepsRules, FollowsClient, MayBeAsked}
use Rattle.theory_peers.specs.FollowsClient.{RequestFits, after_asking, after_learning, after_telling, all_tells_of}
use Rattle.theory_peers.specs.FollowsClient.{delete_tell, without_taken}
use Rattle.theory_peers.specs.FollowsServer.{IsPlacedIn}
use Rattle.theory_peers.proofs.ClientRowsStay.{ended_low, ended_plain, made_low, made_plain}
use Rattle.theory_peers.proofs.DisplayStays.{HasDisplay, deleted_display, ended_display, ends_mortal, made_display, told_display}
use Rattle.theory_peers.proofs.MessageRules.{objects_last, request_mortal}
use Rattle.theory_peers.proofs.RecordedForClient.{still_advertised}

-- ---- reading

-- the first of what came, when the client reads it
pub record TakesAt (tables : List Interface) (told : List ServerMessage) (client common : Rows Row) (s : ServerMessage)
    : Type 0 where
  pub event : TellsAt (by_event tables) (delete_tell s.takes_back ++ all_tells_of told) client common s.event.target
      (objects s.event.args) (made_in s.event.args) s.event.ends
  pub mortal : IfThere Mortal s.takes_back
  pub range : IfThere OfClient s.takes_back
  pub held : IfThere (IsHeldInRows (client_ends s.event.ends (client_told client (made_in s.event.args)))) s.takes_back
  pub rest : ReadsInFlight (by_event tables) (all_tells_of told) (after_telling client s) common

takes_by : (tables : List Interface) (told : List ServerMessage) (client common : Rows Row) (s : ServerMessage)
    (o : Option Known) → s.takes_back ≡ o
    → TellsAt (by_event tables) (delete_tell s.takes_back ++ all_tells_of told) client common s.event.target
    (objects s.event.args) (made_in s.event.args) s.event.ends
    → TakesAt tables told client common s
takes_by tables told client common s None is t =
    let after = client_ends s.event.ends (client_told client (made_in s.event.args)) in
    record {
      event = t;
      mortal = subst (IfThere Mortal) (sym is) tt;
      range = subst (IfThere OfClient) (sym is) tt;
      held = subst (IfThere (IsHeldInRows after)) (sym is) tt;
      rest = subst (λ (o : Option Known). ReadsInFlight (by_event tables) (all_tells_of told) (without_taken o after) common)
          (sym is)
          (subst (λ (o : Option Known). ReadsInFlight (by_event tables) (delete_tell o ++ all_tells_of told) after common)
          is t.rest);
    }
takes_by tables told client common s (Some x) is t =
    let after = client_ends s.event.ends (client_told client (made_in s.event.args)) in
    let d = deletes_at x (subst (λ (o : Option Known). ReadsInFlight (by_event tables)
    (delete_tell o ++ all_tells_of told) after common) is t.rest) in
    record {
      event = t;
      mortal = subst (IfThere Mortal) (sym is) d.mortal;
      range = subst (IfThere OfClient) (sym is) d.range;
      held = subst (IfThere (IsHeldInRows after)) (sym is) d.held;
      rest = subst (λ (o : Option Known). ReadsInFlight (by_event tables) (all_tells_of told) (without_taken o after) common)
          (sym is) d.rest;
    }

pub takes_at : (tables : List Interface) (told : List ServerMessage) (client common : Rows Row) (s : ServerMessage)
    → ReadsInFlight (by_event tables) (all_tells_of (s ∷ told)) client common → TakesAt tables told client common s
takes_at tables told client common s r =
    takes_by tables told client common s s.takes_back refl
    (tells_at s.event.target (objects s.event.args) (made_in s.event.args) s.event.ends
    (subst (λ (es : List Tell). ReadsInFlight (by_event tables) es client common)
    (append_assoc (tells (Event s.event)) (delete_tell s.takes_back) (all_tells_of told)) r))

taken_display : (v : Rows Row) (o : Option Known) → IfThere Mortal o → HasDisplay v → HasDisplay (without_taken o v)
taken_display v None m h = h
taken_display v (Some x) m h = deleted_display v x m h

-- ---- what the client learns

-- an argument in front of others
record NumberFirst (tables : List Interface) (version : ℕ) (ks : List Kind) (args : List (Arg Known)) : Type 0 where
  number : ℕ
  more : List (Arg Known)
  are : args ≡ Uint number ∷ more
  suits : SuitKinds tables version ks more

number_first : (tables : List Interface) (version : ℕ) (ks : List Kind) (args : List (Arg Known))
    → SuitKinds tables version (fixed.uint ∷ ks) args → NumberFirst tables version ks args
number_first tables version ks [] s = absurd s
number_first tables version ks (Uint n ∷ more) s = record { number = n; more = more; are = refl; suits = s.1 }
number_first tables version ks (a ∷ more) s = absurd s.0.0

record TextFirst (tables : List Interface) (version : ℕ) (ks : List Kind) (args : List (Arg Known)) : Type 0 where
  text : List ℕ
  more : List (Arg Known)
  are : args ≡ Str (Some text) ∷ more
  suits : SuitKinds tables version ks more

text_first : (tables : List Interface) (version : ℕ) (ks : List Kind) (args : List (Arg Known))
    → SuitKinds tables version (fixed.string ∷ ks) args → TextFirst tables version ks args
text_first tables version ks [] s = absurd s
text_first tables version ks (Str None ∷ more) s = absurd (let no = s.0.0 in cc no)
text_first tables version ks (Str (Some text) ∷ more) s =
    record { text = text; more = more; are = refl; suits = s.1 }
text_first tables version ks (a ∷ more) s = absurd s.0.0

-- the arguments of wl_registry.global
record AnnouncesOne (args : List (Arg Known)) : Type 0 where
  name : ℕ
  text : List ℕ
  version : ℕ
  args_are : args ≡ Uint name ∷ Str (Some text) ∷ Uint version ∷ []

abbrev the_global : sigs.MessageSignature
the_global = fixed.message (codes "global") 1 (fixed.uint ∷ fixed.string ∷ fixed.uint ∷ []) Nothing

none_left : (tables : List Interface) (version : ℕ) (args : List (Arg Known)) → SuitKinds tables version [] args
    → args ≡ []
none_left tables version [] s = refl
none_left tables version (a ∷ args) s = absurd s

announces_one : (tables : List Interface) (version : ℕ) (args : List (Arg Known))
    → SuitKinds tables version (fixed.uint ∷ fixed.string ∷ fixed.uint ∷ []) args → AnnouncesOne args
announces_one tables version args s =
    let a = number_first tables version (fixed.string ∷ fixed.uint ∷ []) args s in
    let b = text_first tables version (fixed.uint ∷ []) a.more a.suits in
    let c = number_first tables version [] b.more b.suits in
    record {
      name = a.number;
      text = b.text;
      version = c.number;
      args_are = a.are ∙ ap (λ (l : List (Arg Known)). Uint a.number ∷ l) (b.are
          ∙ ap (λ (l : List (Arg Known)). Str (Some b.text) ∷ l) (c.are
          ∙ ap (λ (l : List (Arg Known)). Uint c.number ∷ l) (none_left tables version c.more c.suits)));
    }

is_announcing : (tables : List Interface) (m : Message Known) (fits : FitsSignature tables event_side m) → Valid tables
    → is_registry m.target.born ≡ true → m.opcode ≡ 0 → AnnouncesOne m.args
is_announcing tables m fits valid registers opcode =
    let iface = eqb-true m.target.born.iface.0 1 registers in
    let own : signature_at tables 1 event_side 0 ≡ Some the_global = rw valid.fixed_four.registry refl in
    let both : Some fits.signature ≡ Some the_global =
    sym fits.there ∙ (λ i. signature_at tables (iface i) event_side (opcode i)) ∙ own in
    let same : fits.signature ≡ the_global = cc both in
    announces_one tables m.target.born.version m.args
    (subst (λ (s : sigs.MessageSignature). SuitKinds tables m.target.born.version s.kinds m.args) same fits.args)

module _ (tables : List Interface) (k : Knows) where
  abbrev WasAdvertised : Remembered → Type 0
  WasAdvertised g = IsAdvertised k g.name g.iface.0 g.version

  learns_as : (name version : ℕ) (o : Option Iface) (globals : List Remembered) → Each WasAdvertised globals
      → ((iface : Iface) → o ≡ Some iface → IsAdvertised k name iface.0 version)
      → Each WasAdvertised (remembered_as name version o globals)
  learns_as name version None globals h told = each_filter WasAdvertised (λ g. not (is_named name g)) globals h
  learns_as name version (Some iface) globals h told =
      each_remembered WasAdvertised (record { name = name; iface = iface; version = version }) globals (told iface refl) h

  learns_told : (globals : List Remembered) (opcode : ℕ) (args : List (Arg Known)) → Each WasAdvertised globals
      → (opcode ≡ 0 → AnnouncesOne args)
      → (opcode ≡ 0 → (name version : ℕ) (text : List ℕ) (iface : Iface)
      → map wire args ≡ Uint name ∷ Str (Some text) ∷ Uint version ∷ []
      → place_of tables text ≡ Some iface → IsAdvertised k name iface.0 version)
      → (b c : Bool) → nat_eq opcode 0 ≡ b → Each WasAdvertised
      (cond b (remembered_as (number_in (argument (map wire args) 0)) (number_in (argument (map wire args) 2))
      (place_of tables (text_in (argument (map wire args) 1))) globals)
      (cond c (forgotten (number_in (argument (map wire args) 0)) globals) globals))
  learns_told globals opcode args h one told true c e =
      let zero = eqb-true opcode 0 e in
      let n = one zero in
      rw n.args_are (learns_as n.name n.version (place_of tables n.text) globals h
      (λ iface there. told zero n.name n.version n.text iface (ap (map wire) n.args_are) there))
  learns_told globals opcode args h one told false true e =
      each_filter WasAdvertised (λ g. not (is_named (number_in (argument (map wire args) 0)) g)) globals h
  learns_told globals opcode args h one told false false e = h

  learns_if : (globals : List Remembered) (m : Message Known) (fits : FitsSignature tables event_side m) → Valid tables
      → Each WasAdvertised globals → TellsAdvertised tables k (Event m) → (registers live : Bool)
      → is_registry m.target.born ≡ registers
      → Each WasAdvertised (cond (registers && live) (globals_told tables globals m.opcode (map wire m.args)) globals)
  learns_if globals m fits valid h told false live is = h
  learns_if globals m fits valid h told true false is = h
  learns_if globals m fits valid h told true true is =
      learns_told globals m.opcode m.args h (is_announcing tables m fits valid is)
      (λ zero. told (rw (is, eq-eqb m.opcode 0 zero) refl)) (nat_eq m.opcode 0) (nat_eq m.opcode 1) refl

-- ---- the client reads

pub takes_one : (tables : List Interface) (e : List Judged) (asked : List (Message Known)) (s : ServerMessage)
    (told : List ServerMessage) (client : Rows Row) (remembered : List Remembered) → Valid tables
    → FollowsClient tables e asked (s ∷ told) client remembered
    → FollowsClient tables e asked told (after_telling client s) (after_learning tables client s.event remembered)
takes_one tables e asked s told client remembered valid f =
    let m = s.event in
    let t = takes_at tables told client f.joins.common s f.joins.reads in
    let fits = f.tells_fit.0.fits in
    let new = made_in m.args in
    let held = ends_have (IsHeldInRows client) tables event_side m fits t.event.target t.event.args in
    let mortal = ends_mortal tables client m.ends valid f.client_display held t.event.ends_it in
    record {
      passed = f.passed;
      here = f.here;
      known_as = f.known_as;
      joins = record { common = f.joins.common; leads = f.joins.leads; reads = t.rest };
      remembers = learns_if tables (knowledge tables e) remembered m fits valid f.remembers f.advertises.0
          (is_registry m.target.born) (is_open_row (client.rows m.target.id)) refl;
      advertises = f.advertises.1;
      binds = f.binds;
      asks_fit = f.asks_fit;
      tells_fit = f.tells_fit.1;
      display = f.display;
      low = f.low;
      plain = f.plain;
      client_display = taken_display (client_ends m.ends (client_told client new)) s.takes_back t.mortal
          (ended_display (client_told client new) m.ends mortal (told_display client new t.event.new f.client_display));
    }

-- ---- the client writes

bind_advertised : (tables : List Interface) (k : Knows) (remembered : List Remembered) (m : Message Known)
    → Each (λ g. IsAdvertised k g.name g.iface.0 g.version) remembered
    → (is_bind Request m.target.born.iface m.opcode ≡ true → BindsKnown tables remembered m.args) → BindsAdvertised k m
bind_advertised tables k remembered m h binds e name x named made =
    let known = binds e in
    let b = known.binds in
    let f = find_at (λ (g : Remembered). IsAdvertised k g.name g.iface.0 g.version)
    (is_named b.name) remembered known.global h known.there in
    let some_name : Some b.name ≡ Some name = sym
    (ap (λ (args : List (Arg Known)). first_number (map wire args)) b.args_are) ∙ named in
    let own : b.name ≡ name = cc some_name in
    let some_new : Some b.new ≡ Some x = sym (ap (λ (args : List (Arg Known)). made_in args) b.args_are) ∙ made in
    let new : b.new ≡ x = cc some_new in
    let same_name : known.global.name ≡ name = eqb-true known.global.name b.name f.1 ∙ own in
    let iface : known.global.iface ≡ x.born.iface = sym known.iface_is ∙ ap (λ (y : Known). y.born.iface) new in
    let version : b.new.born.version ≡ x.born.version = ap (λ (y : Known). y.born.version) new in
    let told : known.global.version ≤ k.advertised_version name x.born.iface.0 =
    subst (λ (i : Iface). known.global.version ≤ k.advertised_version name i.0) iface
    (subst (λ (n : ℕ). known.global.version ≤ k.advertised_version n known.global.iface.0) same_name f.0) in
    let most = known.most in
    omega (arith, most, told, version)

pub asks_one : (tables : List Interface) (e : List Judged) (asked : List (Message Known))
    (told : List ServerMessage) (client : Rows Row) (remembered : List Remembered) (m : Message Known) → Valid tables
    → FollowsClient tables e asked told client remembered → MayBeAsked tables client remembered m
    → FollowsClient tables e (asked ++ m ∷ []) told (after_asking client m) remembered
asks_one tables e asked told client remembered m valid f c =
    let test = by_event tables in
    let k = knowledge tables e in
    let new = made_in m.args in
    let opened : IfThere (OpenRow client) m.ends = ends_have (OpenRow client) tables Request m c.fits c.target c.args in
    let target_lasts = target_plain tables valid m.target.born m.opcode c.fits.signature c.fits.there in
    let args_last = objects_last tables m c.fits valid in
    let ends_last : IfThere (λ x. test x.born ≡ false) m.ends =
    ends_have (λ x. test x.born ≡ false) tables Request m c.fits target_lasts args_last in
    let mortal = request_mortal tables client m c.fits valid f.client_display c.target c.args in
    let more = asks_more m.target (objects m.args) new m.ends f.joins c.target target_lasts c.args args_last c.new opened
    ends_last mortal in
    record {
      passed = f.passed;
      here = f.here;
      known_as = f.known_as;
      joins = record {
        common = more.common;
        leads = rw (all_asks_more asked m) more.leads;
        reads = more.reads;
      };
      remembers = f.remembers;
      advertises = f.advertises;
      binds = each_more (BindsAdvertised k) asked (m ∷ []) f.binds
          (bind_advertised tables k remembered m f.remembers c.binds, tt);
      asks_fit = each_more (RequestFits tables) asked (m ∷ []) f.asks_fit
          (record { fits = c.fits; binds = λ h. (c.binds h).binds }, tt);
      tells_fit = f.tells_fit;
      display = f.display;
      low = f.low;
      plain = f.plain;
      client_display = ended_display (client_makes client new) m.ends mortal
          (made_display client new c.new f.client_display);
    }

-- ---- a request is recorded

fine_bind : (tables : List Interface) (k : Knows) (name : ℕ) (new : Known) → 1 ≤ new.born.version
    → new.born.version ≤ version_of tables new.born.iface
    → new.born.version ≤ k.advertised_version name new.born.iface.0
    → allows_bind tables k (Some name) (Some (made_of new)) ≡ true
fine_bind tables k name new a b c =
    let x : nat_le 1 new.born.version ≡ true = grind (arith, nat_tests) in
    let y : nat_le new.born.version (version_of tables new.born.iface) ≡ true = grind (arith, nat_tests) in
    let z : nat_le new.born.version (k.advertised_version name new.born.iface.0) ≡ true = grind (arith, nat_tests) in
    rw (x, y, z) refl

no_bad_bind : (tables : List Interface) (k : Knows) (m : Message Known) (entry : Entry)
    (fit : RequestFits tables m) (b : Bool) → entry.iface ≡ m.target.born.iface
    → entry.version ≡ m.target.born.version → BindsAdvertised k m → is_bind Request entry.iface m.opcode ≡ b
    → is_disallowed_bind tables k Request m.opcode (call_as ToServer m entry fit.fits.signature).received ≡ false
no_bad_bind tables k m entry fit false iface version told is = rw is refl
no_bad_bind tables k m entry fit true iface version told is =
    let f = fit.fits in
    let bind : is_bind Request m.target.born.iface m.opcode ≡ true =
    ap (λ (i : Iface). is_bind Request i m.opcode) (sym iface) ∙ is in
    let g = fit.binds bind in
    let first : first_number (map wire m.args) ≡ Some g.name =
    ap (λ (args : List (Arg Known)). first_number (map wire args)) g.args_are in
    let new : made_in m.args ≡ Some g.new = ap made_in g.args_are in
    let makes : made tables entry.version f.signature.kinds (map wire m.args) ≡ Some (made_of g.new) =
    ap (λ (n : ℕ). made tables n f.signature.kinds (map wire m.args)) version
    ∙ made_read tables m.target.born.version f.signature.kinds m.args f.args ∙ ap (option_map made_of) new in
    let low : 1 ≤ g.new.born.version = subst (IfThere (λ (x : Known). 1 ≤ x.born.version)) new f.new_version in
    let may = fine_bind tables k g.name g.new low g.within (told bind g.name g.new first new) in
    rw (is, first, makes, may) refl

pub passes_one : (limit : ℕ) (tables : List Interface) (e : List Judged) (m : Message Known)
    (asked : List (Message Known)) (told : List ServerMessage) (client : Rows Row) (remembered : List Remembered)
    (stream : List ℕ) (p t : ℕ) → Valid tables → FollowsClient tables e (m ∷ asked) told client remembered
    → IsPlacedIn limit stream p ((knowledge tables e).taken ToServer) t (spelled_meant m)
    → ClientKeepsRules limit tables stream p t (spelled_meant m) e asked told client remembered
passes_one limit tables e m asked told client remembered stream p t valid f s =
    let k = knowledge tables e in
    let a = f.known_as in
    let ps = birth_places tables e in
    let fit = f.asks_fit.0 in
    let new = made_in m.args in
    let r = ask_recorded m.target (objects m.args) new m.ends f.joins.leads in
    let o = open_known tables k ps f.here m.target a r.target in
    let names = each_by (OpenRow f.here) (HasObject (reader_by tables k ToServer))
    (λ x h. open_known tables k ps f.here x a h) (objects m.args) r.args in
    let args = all_found Request (reader_by tables k ToServer) m.args names
    (news_free tables k ps f.here m.args m.args a r.new fit.fits.new_is) in
    let good = no_bad_bind tables k m o.entry fit (is_bind Request o.entry.iface m.opcode) o.iface o.version f.binds.0
    refl in
    let call = call_as ToServer m o.entry fit.fits.signature in
    let k' = knowledge tables (e ++ Ok call ∷ []) in
    let made_is : (changes tables call).made ≡ option_map made_of new =
    ap (λ (n : ℕ). made tables n fit.fits.signature.kinds (map wire m.args)) o.version
    ∙ made_read tables m.target.born.version fit.fits.signature.kinds m.args fit.fits.args in
    let grows = call_grows tables e call in
    let opened : IfThere (OpenRow f.here) m.ends =
    ends_have (OpenRow f.here) tables Request m fit.fits r.target r.args in
    let held = if_by (λ x h. inl h) m.ends (live_made_if f.here new m.ends r.new opened) in
    record {
      call = call;
      is = frame_called limit tables k ToServer m stream s.more p t o fit.fits
          (made_for tables valid m.target.born.iface.0 (side_of ToServer) m.opcode fit.fits.signature
          fit.fits.there) s.whole s.bytes args s.enough good;
      next = record {
        passed = go_on_more e (Ok call) f.passed (goes_on_as tables ToServer m o.entry fit.fits o.iface);
        here = client_ends m.ends (client_makes f.here new);
        known_as = known_call tables e f.here ToServer m o.entry fit.fits new valid a r.new (inl r.target)
            (each_by (OpenRow f.here) (IsHeldInRows f.here) (λ x h. inl h) (objects m.args) r.args) made_is refl;
        joins = record { common = f.joins.common; leads = r.rest; reads = f.joins.reads };
        remembers = remembers_on k k' grows remembered f.remembers;
        advertises = still_advertised tables k k' grows told f.advertises;
        binds = binds_on k k' grows asked f.binds.1;
        asks_fit = f.asks_fit.1;
        tells_fit = f.tells_fit;
        display = ended_display (client_makes f.here new) m.ends r.mortal (made_display f.here new r.new f.display);
        low = ended_low (client_makes f.here new) m.ends held (made_low f.here new r.new f.low);
        plain = ended_plain tables (client_makes f.here new) m.ends held (made_plain tables f.here new r.new f.plain);
        client_display = f.client_display;
      };
    }
