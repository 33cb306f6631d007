-- The client reads an event or a delete.
use Rattle.std.proofs.Common.{◌≡◌, ◌≢◌, ℕ, ◌+◌, ◌<◌, ◌≤◌, Bool, true, false, cond, List, [], ◌∷◌}
use Rattle.std.proofs.Common.{◌++◌, map, length, refl, sym, ap, subst, ◌∙◌, arith, min}
use Rattle.std.specs.Prelude.{option_map, codes, nat_eq, not, ◌&&◌}
use Rattle.std.specs.declared.option.Option.{Option}
use Rattle.std.specs.declared.option.Option.TheVariants.{None, Some}
use Rattle.std.specs.declared.result.Result.TheVariants.{Ok}
use Rattle.std.proofs.lemmas.Bool.{ne_eqb, and_parts}
use Rattle.wl_wire.specs.declared.kind.Kind.{Kind}
use Rattle.wl_wire.specs.declared.kind.Kind.TheVariants as kinds
use Rattle.wl_wire.specs.Argument.{Uint}
use Rattle.wl_sigs.specs.Side.TheVariants.{Request as request_side, Event as event_side}
use Rattle.wl_sigs.specs.Destroys.TheVariants.{Nothing}
use Rattle.wl_sigs.specs.Tables.{Interface, signature_at, descriptors}
use Rattle.wl_sigs.specs.Valid.{Valid}
use Rattle.wl_sigs.specs.Tables as sigs
use Rattle.wl_sigs.specs.Fixed.{display, registry}
use Rattle.wl_sigs.specs.Fixed as fixed
use Rattle.wl_message.specs.Outgoing as boxes
use Rattle.wl_message.specs.Arrived.{without_first, in_front}
use Rattle.wl_message.specs.Cut.{Whole}
use Rattle.wl_object_map.specs.declared.object.Entry.{Entry}
use Rattle.wl_object_map.specs.declared.object.State.{State}
use Rattle.wl_object_map.specs.declared.object.State.TheVariants as states
use Rattle.wl_object_map.specs.Objects.{Objects, look, closed}
use Rattle.wl_objects.specs.Messages.{is_error, is_delete_id, same_iface, made, made_by, opens}
use Rattle.wl_objects.specs.Messages.{after, ended_id, after_delete_id}
use Rattle.wl_connection.specs.Core.{Core}
use Rattle.wl_connection.specs.Receiving.{found, is_empty_list}
use Rattle.wl_client.specs.declared.globals.Global.{Global as Remembered}
use Rattle.wl_client.specs.State as client
use Rattle.wl_client.specs.Reports.{state_past, globals_told, report, object_made, object_replaced}
use Rattle.wl_client.specs.Reports as reports
use Rattle.theory_connection.specs.Meant.{Birth, Born, Known, Message, Coming, Event, Delete, renamed, recoming}
use Rattle.theory_connection.specs.Meant.{rearg, born_of, birth_of, wire, tokens, spelled_meant, spelled_coming}
use Rattle.theory_connection.specs.Meant.{objects, made_in, born_of_entry, live_entry}
use Rattle.theory_connection.specs.World.{World, display_born, Row, Each, event_read, delete_read}
use Rattle.theory_connection.specs.World.{is_open_row, is_registry, learned, nameless, IfThere}
use Rattle.theory_connection.specs.Pair.{PairState, with_client}
use Rattle.theory_connection.specs.Flight.{Rows, IsHeldInRows, ReadsInFlight, all_tells, client_rows, row_of_entry}
use Rattle.theory_connection.specs.Flight.{IsAskedBelow, all_asks}
use Rattle.wl_object_map.specs.declared.object.Maker.{Maker}
use Rattle.theory_connection.proofs.Sets.{at_count}
use Rattle.theory_connection.proofs.AskedCounted.{below_told}
use Rattle.theory_connection.specs.Flight.{as_row, births_in}
use Rattle.theory_connection.proofs.TwoRanges.{row_of_client}
use Rattle.theory_connection.proofs.MadeFor.{made_for}
use Rattle.theory_connection.specs.Stands.{StandsBy, SuitKinds, FitsSignature, WasGiven, InFlight, ShowsBirths}
use Rattle.theory_connection.specs.Stands.{birth_in}
use Rattle.theory_connection.specs.Stands.{IsEndingOfServer}
use Rattle.wl_object_map.specs.View.{lives}
use Rattle.theory_connection.proofs.WholeInFlight.{client_ends, client_told, OfClient, held_told_if, TellsAt}
use Rattle.theory_connection.proofs.WholeInFlight.{tells_at, DeletesAt, deletes_at}
use Rattle.theory_connection.proofs.Bridges.{client_closed}
use Rattle.theory_connection.proofs.RowsAfterMessage.{held_row, client_after_event, made_map}
use Rattle.theory_connection.proofs.Stands.{client_event, client_delete, first_read}
use Rattle.theory_connection.proofs.ReadAsMeant.{HeldAt, AllMet, tokens_taken, made_of, made_read}
use Rattle.theory_connection.proofs.FoundInFront.{the_found, the_message, finds, all_met, news_told}
use Rattle.theory_connection.proofs.ClientGlobals.{told_same, learns}
use Rattle.theory_connection.proofs.RequestRead.{test_of}
use Rattle.theory_connection.proofs.EndedObject.{Mortal, ended_view, after_is, ends_as, ends_have, if_by, both_if}

-- ---- the objects that the client holds

birth_bare : (s : State) (b : Born) → birth_in (as_row s b) ≡ b.birth
birth_bare states.Live b = refl
birth_bare states.Zombie b = refl

pub record SeenAt (v : Objects) (sets : Birth → Option Row) (x : Known) : Type 0 where
  pub entry : Entry
  pub there : look v x.id ≡ Some entry
  pub same : born_of_entry x.id entry ≡ x.born
  pub shown : sets x.born.birth ≡ Some (row_of_entry x.id entry)

-- the births that are open or ending at the client
abbrev pub Showing : Objects → (Birth → Option Row) → Type 0
Showing v sets = ShowsBirths birth_in IsEndingOfServer (client_rows v).rows (births_in (client_rows v)) sets

pub seen_at : (v : Objects) (sets : Birth → Option Row) → Showing v sets → (x : Known)
    → IsHeldInRows (client_rows v) x → SeenAt v sets x
seen_at v sets s x h =
    let r = held_row v x h in
    let shown = s.shown x.id (row_of_entry x.id r.entry) (ap (option_map (row_of_entry x.id)) r.there) in
    let b : birth_in (row_of_entry x.id r.entry) ≡ x.born.birth = birth_bare r.entry.state (born_of_entry x.id r.entry)
    ∙ ap birth_of r.same in
    record { entry = r.entry; there = r.there; same = r.same; shown = ap sets (sym b) ∙ shown }

pub held_at_client : (v : Objects) (sets : Birth → Option Row) → Showing v sets
    → (x : Known) → 0 < x.id → IsHeldInRows (client_rows v) x → HeldAt v sets x
held_at_client v sets s x some h = let r = seen_at v sets s x h
    in record { some = some; entry = r.entry; there = r.there; same = r.same; shown = r.shown }

-- ---- an event

-- an event at the front: its objects are held, it is found, and the rest is in flight
pub record InEvent (p : PairState) (w : World) (m : Message Known) (cs : List (Coming Known))
    (asked : List (Message Known)) (s : StandsBy p w asked (Event m ∷ cs)) (n : ℕ) : Type 0 where
  pub target : SeenAt p.client.core.view w.client m.target
  pub met : AllMet p.server.core.tables event_side p.client.core.view w.client m.args
  pub finds_it : found p.client.core event_side ≡ Ok (Some (the_found n m target.entry s.events.fit.0.fits.signature))
  pub tells_it : TellsAt (test_of p) (all_tells cs) (client_rows p.client.core.view) s.meet.middle m.target
      (objects m.args) (made_in m.args) m.ends
  pub down : InFlight p.server.core.outbox (without_first p.client.core.inbox n (length (tokens m.args)))
      (map spelled_coming cs ++ s.behind)
  pub more : List ℕ
  pub tokens_are : p.client.core.inbox.tokens ≡ tokens m.args ++ more

-- the first of what comes, if it is an event and whole
pub in_event : (p : PairState) (w : World) (m : Message Known) (cs : List (Coming Known)) (asked : List (Message Known))
    (s : StandsBy p w asked (Event m ∷ cs)) (n : ℕ)
    → in_front p.client.core.inbox ≡ Whole n → InEvent p w m cs asked s n
in_event p w m cs asked s n e =
    let q = first_read p.server.core.outbox p.client.core.inbox (spelled_meant m)
    (map spelled_coming cs ++ s.behind) n s.events.in_boxes e in
    let t = tells_at m.target (objects m.args) (made_in m.args) m.ends s.meet.reads in
    let r = seen_at p.client.core.view w.client s.client.sets m.target t.target in
    let f = s.events.fit.0.fits in
    let none = made_for p.server.core.tables s.terms.valid m.target.born.iface.0 event_side
    m.opcode f.signature f.there in
    let met = all_met p.server.core.tables m.target.born.version event_side p.client.core.view w.client
    (IsHeldInRows (client_rows p.client.core.view)) (held_at_client p.client.core.view w.client s.client.sets)
    f.signature.kinds m.args f.args t.args (news_told p.server.core.tables p.client.core.view m.args m.args t.new
    f.new_is) in
    let core' : Core = record p.client.core { tables = p.server.core.tables } in
    let same_core : core' ≡ p.client.core = λ i. record p.client.core { tables = sym s.terms.same_tables i } in
    record {
      target = r;
      met = met;
      finds_it = ap (λ (c : Core). found c event_side) (sym same_core)
          ∙ finds core' event_side m n w.client r.entry f none e q.bytes r.there r.same met q.enough;
      tells_it = t;
      down = q.stay;
      more = q.more;
      tokens_are = q.tokens;
    }

-- the client as an event leaves it
abbrev pub after_event : client.State → Message Known → ℕ → Bool → client.State
after_event st m n teaches = record {
  core = record st.core {
    view = ended_view request_side (opens st.core.view (option_map made_of (made_in m.args))) m.ends;
    inbox = without_first st.core.inbox n (length (tokens m.args));
    read = min (st.core.read + n) 18446744073709551615;
    failed = false;
  };
  globals = cond teaches (globals_told st.core.tables st.globals m.opcode (map wire m.args)) st.globals;
  made = object_made st.core.view (option_map made_of (made_in m.args));
  replaced = object_replaced st.core.view (option_map made_of (made_in m.args));
}

-- an event of a live registry teaches the client
abbrev pub teaches : Message Known → Entry → Bool
teaches m entry = is_registry m.target.born && lives entry.state

-- the report of an event that is neither wl_display.error nor delete_id
pub record EventAnswer (p : PairState) (m : Message Known) (n : ℕ) (entry : Entry)
    (signature : sigs.MessageSignature) : Type 0 where
  pub tells_it : report p.client.core (the_found n m entry signature)
      ≡ reports.plain_report p.client.core m.opcode (the_message m entry signature) entry.state
  pub leaves : state_past p.client (the_found n m entry signature) ≡ after_event p.client m n (teaches m entry)
  pub makes : reports.made_by_event p.client.core (the_message m entry signature) ≡ option_map made_of (made_in m.args)

-- the client's report of an event, and the client after it
pub event_answer : (p : PairState) (m : Message Known) (n : ℕ) (entry : Entry) (tables : List Interface)
    (f : FitsSignature tables event_side m) → Valid tables → p.client.core.tables ≡ tables
    → is_delete_id event_side m.target.born.iface m.opcode ≡ false
    → born_of_entry m.target.id entry ≡ m.target.born
    → EventAnswer p m n entry f.signature
event_answer p m n entry tables f valid same d s =
    let error : is_error event_side entry.iface m.opcode ≡ false =
    ap (λ (b : Born). is_error event_side b.iface m.opcode) s ∙ f.no_error in
    let delete : is_delete_id event_side entry.iface m.opcode ≡ false =
    ap (λ (b : Born). is_delete_id event_side b.iface m.opcode) s ∙ d in
    let count : descriptors f.signature.kinds ≡ length (tokens m.args) =
    tokens_taken tables m.target.born.version f.signature.kinds m.args f.args in
    let registers : same_iface entry.iface registry ≡ is_registry m.target.born = ap is_registry s in
    let v = p.client.core.view in
    let new = option_map made_of (made_in m.args) in
    let a = after request_side v new f.signature.destroys
    (ended_id f.signature.destroys m.target.id (map wire m.args)) in
    let left : a ≡ ended_view request_side (opens v new) m.ends =
    after_is request_side v new f.signature.destroys _ m.ends (ends_as tables event_side m f valid) in
    let args : SuitKinds p.client.core.tables m.target.born.version f.signature.kinds m.args =
    subst (λ (t : List Interface). SuitKinds t m.target.born.version f.signature.kinds m.args) (sym same) f.args in
    let makes : reports.made_by_event p.client.core (the_message m entry f.signature) ≡ new =
    ap (λ (b : Born). made p.client.core.tables b.version f.signature.kinds (map wire m.args)) s
    ∙ made_read p.client.core.tables m.target.born.version f.signature.kinds m.args args in
    record {
      tells_it = rw (error, delete) refl;
      leaves = (λ i. record {
        core = record p.client.core {
          view = cond (error i) v (cond (delete i)
              (after_delete_id v (reports.deleted_id (the_found n m entry f.signature)))
              (after request_side v (makes i) f.signature.destroys
              (ended_id f.signature.destroys m.target.id (map wire m.args))));
          inbox = without_first p.client.core.inbox n (count i);
          read = min (p.client.core.read + n) 18446744073709551615;
          failed = error i;
        };
        globals = cond (registers i && lives entry.state)
            (globals_told p.client.core.tables p.client.globals m.opcode (map wire m.args)) p.client.globals;
        made = object_made v (makes i);
        replaced = object_replaced v (makes i);
      })
          ∙ (λ i. record {
            core = record p.client.core {
              view = left i;
              inbox = without_first p.client.core.inbox n (length (tokens m.args));
              read = min (p.client.core.read + n) 18446744073709551615;
              failed = false;
            };
            globals = cond (is_registry m.target.born && lives entry.state)
                (globals_told p.client.core.tables p.client.globals m.opcode (map wire m.args)) p.client.globals;
            made = object_made v new;
            replaced = object_replaced v new;
          });
      makes = makes;
    }

-- ---- the pair represents the next world

open_is : (s : State) (b : Born) → is_open_row (Some (as_row s b)) ≡ lives s
open_is states.Live b = refl
open_is states.Zombie b = refl

learned_is : (p : PairState) (w : World) (m : Message Known) (asked : List (Message Known)) (told : List (Coming Known))
    (s : StandsBy p w asked told) (t : SeenAt p.client.core.view w.client m.target)
    → learned p.client.core.tables w.client (renamed born_of m) w.remembered
    ≡ cond (teaches m t.entry) (globals_told p.client.core.tables p.client.globals m.opcode (map wire m.args))
    p.client.globals
learned_is p w m asked told s t =
    let live : is_open_row (w.client m.target.born.birth) ≡ lives t.entry.state =
    ap is_open_row t.shown ∙ open_is t.entry.state (born_of_entry m.target.id t.entry) in
    let same : globals_told p.client.core.tables p.client.globals m.opcode (map nameless (map (rearg born_of) m.args))
    ≡ globals_told p.client.core.tables p.client.globals m.opcode (map wire m.args) =
    sym (told_same p.client.core.tables p.client.globals m.opcode m.args) in
    (λ i. cond (is_registry m.target.born && live i)
    (globals_told p.client.core.tables (s.globals.remembered i) m.opcode
    (map nameless (map (rearg born_of) m.args))) (s.globals.remembered i))
    ∙ ap (λ (l : List Remembered). cond (teaches m t.entry) l p.client.globals) same

-- after the client has read an event the pair represents the next world
pub event_stands : (p : PairState) (w : World) (m : Message Known) (cs : List (Coming Known))
    (asked : List (Message Known)) (s : StandsBy p w asked (Event m ∷ cs)) (n : ℕ) (i : InEvent p w m cs asked s n)
    → IfThere Mortal m.ends
    → StandsBy (with_client p (after_event p.client m n (teaches m i.target.entry)))
    (event_read p.client.core.tables w (renamed born_of m) (map (recoming born_of) cs)) asked cs
event_stands p w m cs asked s n i y =
    let f = s.events.fit.0.fits in
    let v = p.client.core.view in
    let t = i.tells_it in
    let held : IfThere (IsHeldInRows (client_rows v)) m.ends =
    ends_have (IsHeldInRows (client_rows v)) p.server.core.tables event_side m f t.target t.args in
    let new = made_in m.args in
    let world_new : made_in (map (rearg born_of) m.args) ≡ option_map born_of new = made_map born_of m.args in
    let rows : client_rows (ended_view request_side (opens v (option_map made_of new)) m.ends)
    ≡ client_ends m.ends (client_told (client_rows v) new) =
    client_after_event v new m.ends t.new (if_by (held_row v) m.ends held) t.range in
    record {
      terms = s.terms;
      client = rw world_new (client_event s.client new m.ends t.new f.new_version held t.range
          (held_told_if (client_rows v) new m.ends t.new t.range held) y false refl);
      server = s.server;
      plain = s.plain;
      none_made = s.none_made;
      requests = s.requests;
      behind = s.behind;
      events = record { in_world = refl; in_boxes = i.down; fit = s.events.fit.1 };
      error = s.error;
      asks_counted = subst (λ (x : Rows Row). Each (IsAskedBelow (births_in x)) (all_asks asked)) (sym rows)
          (below_told (client_rows v) new m.ends (all_asks asked) s.asks_counted);
      deletes_follow = s.deletes_follow.1;
      meet = record {
        middle = s.meet.middle;
        reads = subst (λ (x : Rows Row). ReadsInFlight (test_of p) (all_tells cs) x s.meet.middle) (sym rows) t.rest;
        tied = s.meet.tied;
      };
      globals = record {
        remembered = learned_is p w m asked (Event m ∷ cs) s i.target;
        given = s.globals.given;
        remembers = learns (λ g. WasGiven p.server.globals g.name g.iface g.version) p.server.core.tables
            p.client.core.tables p.server.globals p.client.globals m s.terms.same_tables s.events.fit.0
            (λ h e t. t.was_given) s.globals.remembers (teaches m i.target.entry)
            (λ h. (and_parts (is_registry m.target.born) (lives i.target.entry.state) h).0);
        globals = s.globals.globals;
        few_globals = s.globals.few_globals;
      };
      registries = s.registries;
    }

-- ---- a delete

-- an object that ends by an event does not have id 1, since wl_display does not end by one
held_mortal : (p : PairState) (w : World) (asked : List (Message Known)) (told : List (Coming Known))
    → StandsBy p w asked told → (x : Known) → IsHeldInRows (client_rows p.client.core.view) x
    → test_of p x.born ≡ true → x.id ≢ 1
held_mortal p w asked told s x h d one =
    let r = held_row p.client.core.view x h in
    let e : Some r.entry ≡ Some (live_entry display_born) =
    sym r.there ∙ ap (look p.client.core.view) one ∙ s.client.display in
    let entry : r.entry ≡ live_entry display_born = cc e in
    let born : x.born ≡ display_born = sym r.same ∙ ap (born_of_entry x.id) entry
    ∙ ap (λ (i : ℕ). born_of_entry i (live_entry display_born)) one in
    let plain_display : test_of p display_born ≡ false = rw s.terms.valid.fixed_four.display refl in
    let no : true ≡ false = sym d ∙ ap (test_of p) born ∙ plain_display in
    cc no

-- no event ends wl_display
pub event_mortal : (p : PairState) (w : World) (m : Message Known) (cs : List (Coming Known))
    (asked : List (Message Known)) (s : StandsBy p w asked (Event m ∷ cs)) (n : ℕ) → InEvent p w m cs asked s n
    → IfThere Mortal m.ends
event_mortal p w m cs asked s n i =
    let t = i.tells_it in
    let f = s.events.fit.0.fits in
    both_if (held_mortal p w asked (Event m ∷ cs) s) m.ends
    (ends_have (IsHeldInRows (client_rows p.client.core.view)) p.server.core.tables event_side m f t.target t.args)
    t.ends_it

-- the event wl_display.delete_id of an object
abbrev pub deleting : Known → Message Known
deleting x = record { target = record { id = 1; born = display_born }; opcode = 1; args = Uint x.id ∷ []; ends = None }

-- this event fits the signature of wl_display.delete_id
pub delete_signature : (tables : List Interface) → signature_at tables 0 event_side 1
    ≡ Some (fixed.message (codes "delete_id") 1 (fixed.uint ∷ []) Nothing) → (x : Known) → x.id ≤ 1048576
    → FitsSignature tables event_side (deleting x)
delete_signature tables e x h = record {
  signature = fixed.message (codes "delete_id") 1 (fixed.uint ∷ []) Nothing;
  there = e;
  old_enough = omega arith;
  args = ((omega (arith, h), tt), tt);
  ends = refl;
  len = omega arith;
  word = omega arith;
  opcode = omega arith;
  new_version = tt;
  new_is = (tt, tt);
  no_error = refl;
}

-- a delete at the front: its object is held, it is found, and the rest is in flight
pub record InDelete (p : PairState) (x : Known) (cs : List (Coming Known)) (middle : Rows Row)
    (behind : List boxes.QueuedMessage) (n : ℕ) : Type 0 where
  pub entry : Entry
  pub there : look p.client.core.view x.id ≡ Some entry
  pub same : born_of_entry x.id entry ≡ x.born
  pub signature : sigs.MessageSignature
  pub some_kinds : not (is_empty_list signature.kinds) ≡ true
  pub finds_it : found p.client.core event_side ≡ Ok
      (Some (the_found n (deleting x) (live_entry display_born) signature))
  pub keeps_target : signature.destroys ≡ Nothing
  pub count : descriptors signature.kinds ≡ 0
  pub deletes_it : DeletesAt (test_of p) (all_tells cs) (client_rows p.client.core.view) middle x
  pub down : InFlight p.server.core.outbox (without_first p.client.core.inbox n 0) (map spelled_coming cs ++ behind)

-- the first of what comes, if it is a delete and whole
pub in_delete : (p : PairState) (w : World) (x : Known) (cs : List (Coming Known)) (asked : List (Message Known))
    (s : StandsBy p w asked (Delete x ∷ cs)) (n : ℕ)
    → in_front p.client.core.inbox ≡ Whole n → InDelete p x cs s.meet.middle s.behind n
unfolding delete_signature
in_delete p w x cs asked s n e =
    let q = first_read p.server.core.outbox p.client.core.inbox (spelled_meant (deleting x))
    (map spelled_coming cs ++ s.behind) n s.events.in_boxes e in
    let t = deletes_at x s.meet.reads in
    let r = held_row p.client.core.view x t.held in
    let display_there : signature_at p.server.core.tables 0 event_side 1
    ≡ Some (fixed.message (codes "delete_id") 1 (fixed.uint ∷ []) Nothing) =
    rw s.terms.valid.fixed_four.display refl in
    let f = delete_signature p.server.core.tables display_there x s.events.fit.0 in
    let core' : Core = record p.client.core { tables = p.server.core.tables } in
    let same_core : core' ≡ p.client.core = λ i. record p.client.core { tables = sym s.terms.same_tables i } in
    record {
      entry = r.entry;
      there = r.there;
      same = r.same;
      signature = f.signature;
      some_kinds = refl;
      finds_it = ap (λ (c : Core). found c event_side) (sym same_core)
          ∙ finds core' event_side (deleting x) n w.client (live_entry display_born) f (tt, tt) e q.bytes s.client.display refl
          (tt, tt) (omega arith);
      keeps_target = refl;
      count = refl;
      deletes_it = t;
      down = q.stay;
    }

-- the client as a delete leaves it
abbrev pub after_delete : client.State → Known → ℕ → client.State
after_delete st x n = record st {
  core = record st.core {
    view = closed st.core.view x.id;
    inbox = without_first st.core.inbox n 0;
    read = min (st.core.read + n) 18446744073709551615;
    failed = false;
  };
  made = None;
  replaced = None;
}

-- an id among the arguments makes no object
number_makes_none : (tables : List Interface) (version : ℕ) (ks : List Kind) (n : ℕ)
    → made tables version ks (Uint n ∷ []) ≡ None
number_makes_none tables version [] n = refl
number_makes_none tables version (kind ∷ ks) n = rw (one kind, rest ks) refl
  where
    one : (k : Kind) → made_by tables version k (Uint n) ≡ None
    one (kinds.New None) = refl
    one (kinds.New (Some iface)) = refl
    one k = refl

    rest : (l : List Kind) → made tables version l [] ≡ None
    rest [] = refl
    rest (k ∷ l) = refl

pub record DeleteAnswer (p : PairState) (x : Known) (n : ℕ) (entry : Entry) (signature : sigs.MessageSignature) : Type
    0 where
  pub tells_it : report p.client.core (the_found n (deleting x) (live_entry display_born) signature)
      ≡ reports.Deleted (record { id = x.id; birth = entry.birth })
  pub leaves : state_past p.client (the_found n (deleting x) (live_entry display_born) signature)
      ≡ after_delete p.client x n
  pub makes_none : reports.made_by_event p.client.core (the_message (deleting x) (live_entry display_born) signature)
      ≡ None

-- the client's report of a delete, and the client after it
pub delete_answer : (p : PairState) (x : Known) (n : ℕ) (entry : Entry) (signature : sigs.MessageSignature)
    → OfClient x → x.id ≢ 1
    → look p.client.core.view x.id ≡ Some entry → descriptors signature.kinds ≡ 0 → DeleteAnswer p x n entry signature
delete_answer p x n entry signature range y row c =
    let b : nat_eq x.id 1 ≡ false = ne_eqb x.id 1 y in
    let v = p.client.core.view in
    let l = row_of_client v x.id entry range row in
    let gone : after_delete_id v x.id ≡ closed v x.id = rw (l, b) refl in
    let none = number_makes_none p.client.core.tables 1 signature.kinds x.id in
    record {
      tells_it = rw (b, l) refl;
      leaves = λ i. record p.client {
        core = record p.client.core {
          view = gone i;
          inbox = without_first p.client.core.inbox n (c i);
          read = min (p.client.core.read + n) 18446744073709551615;
          failed = false;
        };
        made = reports.object_made v (none i);
        replaced = reports.object_replaced v (none i);
      };
      makes_none = none;
    }

-- after the client has read a delete the pair represents the next world
pub delete_stands : (p : PairState) (w : World) (x : Known) (cs : List (Coming Known)) (asked : List (Message Known))
    (s : StandsBy p w asked (Delete x ∷ cs)) (n : ℕ) (i : InDelete p x cs s.meet.middle s.behind n)
    → StandsBy (with_client p (after_delete p.client x n)) (delete_read w x.born (map (recoming born_of) cs)) asked cs
delete_stands p w x cs asked s n i =
    let t = i.deletes_it in
    record {
      terms = s.terms;
      client = client_delete s.client x t.held t.mortal t.range false refl;
      server = s.server;
      plain = s.plain;
      none_made = s.none_made;
      requests = s.requests;
      behind = s.behind;
      events = record { in_world = refl; in_boxes = i.down; fit = s.events.fit.1 };
      error = s.error;
      asks_counted = subst (λ (y : Rows Row). Each (IsAskedBelow (births_in y)) (all_asks asked))
          (sym (client_closed p.client.core.view x.id))
          (subst (λ (n : Maker → ℕ). Each (IsAskedBelow n) (all_asks asked))
          (sym (at_count (client_rows p.client.core.view) x.id None)) s.asks_counted);
      deletes_follow = s.deletes_follow;
      meet = record {
        middle = s.meet.middle;
        reads = subst (λ (y : Rows Row). ReadsInFlight (test_of p) (all_tells cs) y s.meet.middle)
            (sym (client_closed p.client.core.view x.id)) t.rest;
        tied = s.meet.tied;
      };
      globals = s.globals;
      registries = s.registries;
    }
