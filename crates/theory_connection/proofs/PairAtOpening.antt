-- A new pair, drained ends, and runs.
use Rattle.std.proofs.Common.{◌≡◌, ℕ, ◌≤◌, Bool, true, false, cond, List, [], ◌∷◌, ◌++◌, map, refl}
use Rattle.std.proofs.Common.{sym, ap, subst, ◌∙◌, arith, lit≤}
use Rattle.std.proofs.Common.{◌<◌, ◌-◌}
use Rattle.std.proofs.lemmas.Bool.{and_parts, ne_eqb}
use Rattle.std.specs.Prelude.{option_map, nat_eq, ◌&&◌, not, is_some, ltb}
use Rattle.std.specs.declared.option.Option.{Option}
use Rattle.std.specs.declared.option.Option.TheVariants.{None, Some}
use Rattle.wl_sigs.specs.Tables.{Interface}
use Rattle.wl_sigs.specs.Valid.{Valid}
use Rattle.wl_sigs.specs.Fixed.{display}
use Rattle.wl_message.specs.declared.amounts.Sizes.{Sizes}
use Rattle.wl_message.specs.Outgoing.{Outgoing, waiting_bytes, waiting_tokens}
use Rattle.wl_message.specs.Arrived.{Arrived}
use Rattle.wl_object_map.specs.declared.object.Entry.{Entry}
use Rattle.wl_object_map.specs.declared.object.State.{State}
use Rattle.wl_object_map.specs.declared.object.State.TheVariants as states
use Rattle.wl_object_map.specs.Ranges.{is_of_server, table_id}
use Rattle.wl_object_map.specs.View.{lives, lives_in, times}
use Rattle.wl_object_map.specs.Views.{place_of_id, in_row, in_list, at_null, unused}
use Rattle.wl_object_map.specs.Objects.{Objects, look, opening as opening_view}
use Rattle.wl_object_map.specs.Objects.{ObjectsAreSound}
use Rattle.wl_object_map.specs.View as table
use Rattle.wl_object_map.specs.declared.object.Maker.{Maker}
use Rattle.wl_object_map.specs.declared.object.Maker.TheVariants.{Client}
use Rattle.wl_object_map.specs.ObjectsLaws.{look-opening, is_from, in_range-server, ObjectsAreSound-opening}
use Rattle.wl_connection.specs.Core.{Core, is_drained}
use Rattle.wl_server.proofs.Registries.{has_none}
use Rattle.theory_connection.specs.Meant.{Born, Birth, server_birth, Known, Message, Coming, birth_of, spelled_meant}
use Rattle.theory_connection.specs.Meant.{spelled_coming, renamed, born_of}
use Rattle.theory_connection.specs.Meant.{IsAmongFirst, born_of_entry, live_entry}
use Rattle.theory_connection.specs.World.{World, Row, Open, put, nothing, display_born, opening_world}
use Rattle.theory_connection.specs.Pair.{PairState, Move, Reply, new_pair, drained}
use Rattle.theory_connection.specs.Answers.{Answers}
use Rattle.theory_connection.specs.Flight.{put_row, client_rows, server_rows, row_of_entry, as_row, at_client}
use Rattle.theory_connection.specs.Flight.{Counts, births_in, only_open, ReadsInFlight, done, Tied, drained as nothing_left, all_asks}
use Rattle.theory_connection.specs.Flight.{all_tells, Rows}
use Rattle.theory_connection.specs.Stands.{Stands, stands, over, quiet, StandsBy, InFlight, ShowsBirths, birth_in, by_event}
use Rattle.theory_connection.specs.Stands.{ClientStands, ServerStands, Travel}
use Rattle.theory_connection.specs.Stands.{IsEndingOfServer, NoneIsGone}
use Rattle.theory_connection.specs.Runs.{Runs, Agree, Keeps, is_freed, is_zombie}
use Rattle.wl_sigs.specs.Rules.{is_empty, has_server_objects}
use Rattle.theory_connection.proofs.WholeInFlight.{drained_rows}
use Rattle.theory_connection.proofs.Flight.{open_of}
use Rattle.theory_connection.proofs.Bridges.{map_put}
use Rattle.theory_connection.proofs.RowsAfterMessage.{map_some}
use Rattle.theory_connection.proofs.Sets.{shows_make, no_object}
use Rattle.theory_connection.proofs.Channels.{none_in_flight}
use Rattle.theory_connection.proofs.Stands.{none_behind}

is_nothing : {X : Type 0} (i : ℕ) → nothing {K = ℕ} {X = X} i ≡ None
unfolding nothing
is_nothing i = refl

opening_rows : (has_range : Bool) {X : Type 0} (f : ℕ → Entry → X) (q : ℕ)
    → option_map (f q) (look (opening_view display has_range) q) ≡ put_row nothing 1 (Some (f 1 (live_entry display_born))) q
unfolding put_row nothing
opening_rows has_range f q = map_put f (look (opening_view display has_range)) (λ i. None) 1 (Some (live_entry display_born))
    (look-opening display has_range) q

shows_opening : (has_range : Bool) {X : Type 0} (birth : X → Birth) (Gone : X → Type 0) (f : ℕ → Entry → X) (n : Maker → ℕ)
    → birth (f 1 (live_entry display_born)) ≡ display_born.birth → 0 < n Client
    → ShowsBirths birth Gone (λ q. option_map (f q) (look (opening_view display has_range) q)) n
    (put nothing display_born.birth (Some (f 1 (live_entry display_born))))
shows_opening has_range birth Gone f n e l =
    let first = f 1 (live_entry display_born) in
    let zero : Maker → ℕ = λ k. 0 in
    let k = shows_make birth Gone nothing zero n nothing 1 first (no_object birth Gone zero)
    (λ z h. absurd (cc (is_nothing 1, h))) (λ k. omega arith) (subst (IsAmongFirst n) (sym e) l)
    (λ c. absurd (omega (arith, c))) in
    let rows : (λ (q : ℕ). option_map (f q) (look (opening_view display has_range) q))
    ≡ put_row nothing 1 (Some first) = λ i q. opening_rows has_range f q i in
    subst (λ (g : ℕ → Option _). ShowsBirths birth Gone g n
    (put nothing display_born.birth (Some first))) (sym rows)
    (subst (λ (b : Birth). ShowsBirths birth Gone (put_row nothing 1 (Some first)) n
    (put nothing b (Some first))) e k)

opening_live : (b : Bool) (e : Entry) → cond b (Some (live_entry display_born)) None ≡ Some e → e.state ≡ states.Live
opening_live true e h = let q : live_entry display_born ≡ e = cc h in ap (λ (x : Entry). x.state) (sym q)
opening_live false e h = absurd (cc h)

opening_aged : (b : Bool) (e : Entry) → cond b (Some (live_entry display_born)) None ≡ Some e → 1 ≤ e.version
opening_aged true e h = let q : live_entry display_born ≡ e = cc h in let k = ap (λ (x : Entry). x.version) q
    in omega (arith, k)
opening_aged false e h = absurd (cc h)

nothing_flies : (from : Outgoing) (to : Arrived) → from.left ≡ [] → from.messages ≡ [] → to.bytes ≡ [] → to.tokens ≡ []
    → InFlight from to []
nothing_flies from to a b c d = record { begun = []; all = sym b; bytes = rw (c, a) refl; tokens = d; whole = tt }

-- at the beginning the client holds nothing that the server made
opening_holds : (number : ℕ)
    → is_some (put nothing display_born.birth (Some (Open display_born)) (server_birth number)) ≡ false
unfolding put nothing
opening_holds number = refl

-- a new pair represents its world, with nothing in flight
pub new_stands_by : (tables : List Interface) (client_sizes server_sizes : Sizes)
    → client_sizes.limit.bytes ≡ server_sizes.limit.bytes → Valid tables
    → StandsBy (new_pair tables client_sizes server_sizes) opening_world [] []
new_stands_by tables client_sizes server_sizes one v = let has_range = has_server_objects tables in record {
  terms = record {
    same_tables = refl;
    valid = v;
    up_limit = one;
    down_limit = sym one;
    one_limit = one;
  };
  client = record {
    sets = shows_opening has_range birth_in IsEndingOfServer row_of_entry (births_in (client_rows (opening_view display has_range))) refl
        (omega arith);
    births = refl;
    holds_counted = λ number. (λ h. absurd (let k = opening_holds number in cc (h, k)), λ h. absurd (omega (arith, h.0, h.1)));
    sound = ObjectsAreSound-opening display has_range;
    never_freed = refl;
    display = look-opening display has_range 1;
    versions = λ id e h. opening_aged (nat_eq id 1) e (sym (look-opening display has_range id) ∙ h);
    lives = refl;
  };
  server = record {
    sets = shows_opening has_range birth_of NoneIsGone born_of_entry (births_in (server_rows (opening_view display has_range))) refl
        (omega arith);
    births = refl;
    sound = ObjectsAreSound-opening display has_range;
    display = look-opening display has_range 1;
    versions = λ id e h. opening_aged (nat_eq id 1) e (sym (look-opening display has_range id) ∙ h);
    live = λ id e h. opening_live (nat_eq id 1) e (sym (look-opening display has_range id) ∙ h);
    lives = refl;
  };
  plain = λ id x range h. absurd (let low = is_from id range in
      let other : nat_eq id 1 ≡ false = ne_eqb id 1 (λ e. omega (arith, low, e)) in
      let gone : look (opening_view display has_range) id ≡ None = look-opening display has_range id ∙ rw other refl in
      let none = ap (option_map (born_of_entry id)) gone in cc (none, h));
  none_made = λ none. refl;
  requests = record { in_world = refl; in_boxes = nothing_flies _ _ refl refl refl refl; fit = tt };
  behind = [];
  events = record { in_world = refl; in_boxes = nothing_flies _ _ refl refl refl refl; fit = tt };
  error = quiet refl refl refl;
  asks_counted = tt;
  deletes_follow = tt;
  meet = record {
    middle = client_rows (opening_view display has_range);
    reads = done;
    tied = nothing_left (λ id. opened id (look (opening_view display has_range) id)
        (λ e h. opening_live (nat_eq id 1) e (sym (look-opening display has_range id) ∙ h)))
        (λ id range. both id (look (opening_view display has_range) id)
        (λ e h. opening_live (nat_eq id 1) e (sym (look-opening display has_range id) ∙ h))) refl refl refl;
  };
  globals = record { remembered = refl; given = refl; remembers = tt; globals = tt; few_globals = lit≤ tt };
  registries = record { told = refl; open_registries = has_none has_range };
}
  where
    live_row : (id : ℕ) (e : Entry) (s : State) → s ≡ states.Live
        → as_row s (born_of_entry id e) ≡ Open (born_of_entry id e)
    live_row id e states.Live h = refl
    live_row id e states.Zombie h = absurd (cc h)

    both : (id : ℕ) (o : Option Entry) → ((e : Entry) → o ≡ Some e → e.state ≡ states.Live)
        → option_map (row_of_entry id) o ≡ at_client (option_map (born_of_entry id) o)
    both id None h = refl
    both id (Some e) h = ap Some (live_row id e e.state (h e refl))

    opened : (id : ℕ) (o : Option Entry) → ((e : Entry) → o ≡ Some e → e.state ≡ states.Live)
        → only_open (option_map (row_of_entry id) o) ≡ option_map (born_of_entry id) o
    opened id None h = refl
    opened id (Some e) h = ap (λ (r : Row). only_open (Some r)) (live_row id e e.state (h e refl))

-- a new pair represents the opening world
pub new_stands : (tables : List Interface) (client_sizes server_sizes : Sizes)
    → client_sizes.limit.bytes ≡ server_sizes.limit.bytes → Valid tables
    → Stands (new_pair tables client_sizes server_sizes) opening_world
new_stands tables client_sizes server_sizes one v =
    stands [] [] (new_stands_by tables client_sizes server_sizes one v)

-- ---- drained ends

empty_is : (xs : List ℕ) → is_empty xs ≡ true → xs ≡ []
empty_is [] h = refl
empty_is (x ∷ xs) h = absurd (cc h)

pub record Empty (core : Core) : Type 0 where
  pub inbox : core.inbox.bytes ≡ []
  pub outbox : waiting_bytes core.outbox ≡ []

empty_boxes : (core : Core) → is_drained core ≡ true → Empty core
empty_boxes core h =
    let a = and_parts (is_empty core.inbox.bytes && is_empty core.inbox.tokens)
    (is_empty (waiting_bytes core.outbox) && is_empty (waiting_tokens core.outbox)) h in
    let b = and_parts (is_empty core.inbox.bytes) (is_empty core.inbox.tokens) a.0 in
    let c = and_parts (is_empty (waiting_bytes core.outbox)) (is_empty (waiting_tokens core.outbox)) a.1 in
    record { inbox = empty_is core.inbox.bytes b.0; outbox = empty_is (waiting_bytes core.outbox) c.0 }

none_of : {A B : Type 0} (f : A → B) (l : List A) → map f l ≡ [] → l ≡ []
none_of f [] h = refl
none_of f (x ∷ xs) h = absurd (cc h)

entry_of : (id : ℕ) (d e : Entry) → e.state ≡ states.Live → row_of_entry id d ≡ Open (born_of_entry id e) → d ≡ e
entry_of id d e l h = same d.state h
  where
    same : (s : State) → as_row s (born_of_entry id d) ≡ Open (born_of_entry id e)
        → record { birth = d.birth; iface = d.iface; version = d.version; state = s } ≡ e
    same states.Live k = let q : born_of_entry id d ≡ born_of_entry id e = cc k
        in λ i. record { birth = (q i).birth.number; iface = (q i).iface; version = (q i).version; state = sym l i }
    same states.Zombie k = absurd (cc k)

rows_same : (id : ℕ) (c o : Option Entry) → ((e : Entry) → o ≡ Some e → e.state ≡ states.Live)
    → option_map (row_of_entry id) c ≡ at_client (option_map (born_of_entry id) o) → c ≡ o
rows_same id None None l h = refl
rows_same id None (Some e) l h = absurd (cc h)
rows_same id (Some d) None l h = absurd (cc h)
rows_same id (Some d) (Some e) l h = ap Some (entry_of id d e (l e refl) (cc h))

-- an object that the server has is open at the client
open_there : (id : ℕ) (c o : Option Entry) → only_open (option_map (row_of_entry id) c) ≡ option_map (born_of_entry id) o
    → (e : Entry) → e.state ≡ states.Live → o ≡ Some e → c ≡ Some e
open_there id c o h e l k =
    let row = open_of (option_map (row_of_entry id) c) (born_of_entry id e) (h ∙ ap (option_map (born_of_entry id)) k) in
    let m = map_some (row_of_entry id) c (Open (born_of_entry id e)) row in
    m.1 ∙ ap Some (entry_of id m.0 e l m.2)

-- the server has an object that is open at the client
open_here : (id : ℕ) (c o : Option Entry) → only_open (option_map (row_of_entry id) c) ≡ option_map (born_of_entry id) o
    → ((e : Entry) → o ≡ Some e → e.state ≡ states.Live) → (e : Entry) → e.state ≡ states.Live → c ≡ Some e → o ≡ Some e
open_here id c o h live e l k =
    let row : row_of_entry id e ≡ Open (born_of_entry id e) = ap (λ (s : State). as_row s (born_of_entry id e)) l in
    let there = sym h ∙ ap (λ (q : Option Entry). only_open (option_map (row_of_entry id) q)) k
    ∙ ap (λ (r : Row). only_open (Some r)) row in
    let m = map_some (born_of_entry id) o (born_of_entry id e) there in
    m.1 ∙ ap Some (sym (entry_of id e m.0 (live m.0 m.1) (row ∙ ap Open (sym m.2))))

-- In the server's range of drained ends, an id has a zombie at the client if and only if the
-- server has freed it.
freed_so : (client there : Objects) (id : ℕ) → ObjectsAreSound client → ObjectsAreSound there
    → client.server.freed ≡ [] → client.server.used ≡ there.server.used → is_of_server id ≡ true
    → ((e : Entry) → look there id ≡ Some e → e.state ≡ states.Live)
    → only_open (option_map (row_of_entry id) (look client id)) ≡ option_map (born_of_entry id) (look there id)
    → is_zombie client id ≡ is_freed there id
freed_so client there id s t none used range live h =
    elim (place_of_id client.server s.server (table_id id)) [
      | in_row d l a b c ↦ by_state d.state d (in_range-server table.look client id range ∙ l) refl (omega (arith, c, used))
      | in_list l a b c ↦ absurd (let k = ap (times (table_id id)) none in omega (arith, a, k))
      | at_null l a e ↦ absurd (let low = is_from id range in omega (arith, low, e))
      | unused l a b ↦ no_zombie client id (in_range-server table.look client id range ∙ l)
          ∙ sym (freed ∙ not_used (omega (arith, b, used)))
    ]
  where
    freed : is_freed there id ≡ ltb 0 (times (table_id id) there.server.freed)
    freed = in_range-server (λ view place. ltb 0 (times place view.freed)) there id range

    not_used : there.server.used < table_id id → ltb 0 (times (table_id id) there.server.freed) ≡ false
    not_used far = elim (place_of_id there.server t.server (table_id id)) [
      | in_row d l a b c ↦ absurd (omega (arith, far, c))
      | in_list l a b c ↦ absurd (omega (arith, far, c))
      | at_null l a e ↦ ap (λ (n : ℕ). ltb 0 n) a
      | unused l a b ↦ ap (λ (n : ℕ). ltb 0 n) a
    ]

    row_not_freed : (e : Entry) → look there id ≡ Some e → ltb 0 (times (table_id id) there.server.freed) ≡ false
    row_not_freed e k = elim (place_of_id there.server t.server (table_id id)) [
      | in_row d l a b c ↦ ap (λ (n : ℕ). ltb 0 n) a
      | in_list l a b c ↦ absurd (let q = sym (in_range-server table.look there id range) ∙ k in cc (l, q))
      | at_null l a e ↦ ap (λ (n : ℕ). ltb 0 n) a
      | unused l a b ↦ ap (λ (n : ℕ). ltb 0 n) a
    ]

    no_row_freed : look there id ≡ None → table_id id ≤ there.server.used
        → ltb 0 (times (table_id id) there.server.freed) ≡ true
    no_row_freed k near = elim (place_of_id there.server t.server (table_id id)) [
      | in_row d l a b c ↦ absurd (let q = sym (in_range-server table.look there id range) ∙ k in cc (l, q))
      | in_list l a b c ↦ ap (λ (n : ℕ). ltb 0 n) a
      | at_null l a e ↦ absurd (let low = is_from id range in omega (arith, low, e))
      | unused l a b ↦ absurd (omega (arith, near, b))
    ]

    not_there : (d : Entry) → look client id ≡ Some d → d.state ≡ states.Zombie → look there id ≡ None
    not_there d l z = by_row (look there id) refl
      where
        by_row : (o : Option Entry) → look there id ≡ o → o ≡ None
        by_row None k = refl
        by_row (Some e) k =
            let c = open_there id (look client id) (look there id) h e (live e k) k in
            let same : d ≡ e = cc (l, c) in
            let st : states.Zombie ≡ states.Live = sym z ∙ ap (λ (x : Entry). x.state) same ∙ live e k in
            absurd (cc st)

    by_state : (st : State) (d : Entry) → look client id ≡ Some d → d.state ≡ st → table_id id ≤ there.server.used
        → is_zombie client id ≡ is_freed there id
    by_state states.Live d l z near =
        ap (λ (o : Option Entry). is_some o && not (lives_in o)) l ∙ ap (λ (x : State). not (lives x)) z
        ∙ sym (freed ∙ row_not_freed d (open_here id (look client id) (look there id) h live d z l))
    by_state states.Zombie d l z near =
        ap (λ (o : Option Entry). is_some o && not (lives_in o)) l ∙ ap (λ (x : State). not (lives x)) z
        ∙ sym (freed ∙ no_row_freed (not_there d l z) near)

    no_zombie : (view : Objects) (id : ℕ) → look view id ≡ None → is_zombie view id ≡ false
    no_zombie view id h = ap (λ (o : Option Entry). is_some o && not (lives_in o)) h

front_none_of : {X : Type 0} (xs ys : List X) → xs ++ ys ≡ [] → xs ≡ []
front_none_of [] ys h = refl
front_none_of (x ∷ xs) ys h = cc

-- once all is read, both ends have the same objects
agree_from : {test : Born → Bool} {client there : Objects} {gone failed posted : Bool} {births made : ℕ}
    {held : Birth → Option Row} {set : Birth → Option Born} {middle : Rows Row}
    → ClientStands client gone births held → ServerStands there failed posted made set
    → ReadsInFlight test [] (client_rows client) middle → Tied test [] (server_rows there) middle → Agree client there
agree_from {client = client} {there = there} c v reads tied =
    let rows = drained_rows reads tied in
    let same : (id : ℕ) → is_of_server id ≡ false → look client id ≡ look there id =
    λ id range. rows_same id (look client id) (look there id) (v.live id) (rows.of_client id range) in
    let next = ap (λ (c : Counts). c.next) rows.counts in
    let used : client.server.used ≡ there.server.used = omega (arith, next) in
    record {
      by_client = record {
        same = same;
        live = λ id e range h. v.live id e (sym (same id range) ∙ h);
      };
      by_server = record {
        same = λ id e range. (
          λ h. (
            open_there id (look client id) (look there id) (rows.same id) e (v.live id e h) h,
            v.live id e h,
          ),
          λ h. open_here id (look client id) (look there id) (rows.same id) (v.live id) e h.1 h.0,
        );
        freed = λ id range. freed_so client there id c.sound v.sound c.never_freed used range
            (v.live id) (rows.same id);
        used = ap (λ (n : ℕ). n - 1) used;
        births = ap (λ (c : Counts). c.births) rows.counts;
      };
    }

-- nothing of the requests is on the way between drained ends
none_asked : {P : Message Known → Type 0} (p : PairState) (requests : List (Message Born)) (asked : List (Message Known))
    → Travel (renamed born_of) spelled_meant P p.client.core.outbox p.server.core.inbox requests asked []
    → drained p → asked ≡ []
none_asked p requests asked t d =
    let c = empty_boxes p.client.core d.0 in
    let v = empty_boxes p.server.core d.1 in
    none_of spelled_meant asked (none_in_flight p.client.core.outbox p.server.core.inbox
    (map spelled_meant asked) (none_behind p.client.core.outbox p.server.core.inbox (map spelled_meant asked) []
    t.in_boxes refl) v.inbox c.outbox)

agree_by : (p : PairState) (w : World) (asked : List (Message Known)) (told : List (Coming Known))
    → StandsBy p w asked told → drained p → Agree p.client.core.view p.server.core.view
agree_by p w asked told s d =
    let c = empty_boxes p.client.core d.0 in
    let v = empty_boxes p.server.core d.1 in
    let t = none_of spelled_coming told (front_none_of (map spelled_coming told) s.behind
    (none_in_flight p.server.core.outbox p.client.core.inbox
    (map spelled_coming told ++ s.behind) s.events.in_boxes c.inbox v.outbox)) in
    agree_from s.client s.server
    (subst (λ (l : List (Coming Known)). ReadsInFlight (by_event p.server.core.tables)
    (all_tells l)
    (client_rows p.client.core.view) s.meet.middle) t s.meet.reads)
    (subst (λ (l : List (Message Known)). Tied (by_event p.server.core.tables) (all_asks l)
    (server_rows p.server.core.view) s.meet.middle) (none_asked p w.requests asked s.requests d) s.meet.tied)

-- drained ends of a pair that represents a world have the same objects
pub agree_drained : (p : PairState) (w : World) → Stands p w → drained p
    → Agree p.client.core.view p.server.core.view
agree_drained p w (over asked o) d = agree_from o.client o.server o.meet.reads
    (subst (λ (l : List (Message Known)). Tied (by_event p.server.core.tables) (all_asks l)
    (server_rows p.server.core.view) o.meet.middle) (none_asked p w.requests asked o.requests d) o.meet.tied)
agree_drained p w (stands asked told s) d = agree_by p w asked told s d

-- ---- runs

-- one more step at the end of a run
pub record Extended (p : PairState) (w : World) (moves : List Move) (replies : List Reply)
    (last : PairState) : Type 0 where
  pub world : World
  pub stands : Stands last world
  pub extends : (move : Move) (reply : Reply) (next : PairState) → Keeps last world move reply next
      → Runs p w (moves ++ move ∷ []) (replies ++ reply ∷ []) next

-- a run can be followed by one more step
pub run_more : (p : PairState) (w : World) (moves : List Move) (replies : List Reply) (last : PairState) → Stands p w
    → Runs p w moves replies last → Extended p w moves replies last
run_more p w [] [] last s r = record {
  world = w;
  stands = subst (λ (q : PairState). Stands q w) r s;
  extends = λ move reply next k. (
    next,
    k.world,
    subst (λ (q : PairState). Answers q w move reply next k.world)
        (sym r) k.answers,
    k.stands,
    refl,
  );
}
run_more p w [] (reply ∷ replies) last s r = absurd r
run_more p w (move ∷ moves) [] last s r = absurd r
run_more p w (move ∷ moves) (reply ∷ replies) last s r =
    let e = run_more r.0 r.1 moves replies last r.3 r.4 in
    record { world = e.world; stands = e.stands; extends = λ m n next k. (r.0, r.1, r.2, r.3, e.extends m n next k) }
