-- Each move that carries nothing keeps a pair linked.
use Rattle.std.proofs.Common.{◌≡◌, ℕ, ◌≤◌, Bool, true, false, List, [], ◌∷◌, ◌++◌, map, inl, inr}
use Rattle.std.proofs.Common.{refl, sym, ap, subst, ◌∙◌, arith, ◌+◌, min, length}
use Rattle.std.specs.Prelude.{option_map, Option}
use Rattle.std.specs.declared.option.Option.TheVariants.{None, Some}
use Rattle.std.proofs.lemmas.Bool.{eqb-true, eq-eqb, and_parts}
use Rattle.std.proofs.lemmas.List.{append_assoc}
use Rattle.wl_wire.specs.declared.kind.Iface.{Iface}
use Rattle.wl_sigs.specs.Side.TheVariants.{Request as request_side, Event as event_side}
use Rattle.wl_sigs.specs.Tables.{Interface}
use Rattle.wl_message.specs.Arrived.{without_first, in_front}
use Rattle.wl_message.specs.Cut.{Whole}
use Rattle.wl_message.specs.Outgoing.{Outgoing}
use Rattle.wl_object_map.specs.declared.object.Entry.{Entry}
use Rattle.wl_object_map.specs.Objects.{Objects, closed}
use Rattle.wl_objects.specs.Messages.{opens, is_bind}
use Rattle.wl_client.specs.declared.globals.Global.{Global as Remembered}
use Rattle.wl_client.specs.State as client
use Rattle.wl_client.specs.State.{is_named}
use Rattle.wl_server.specs.State.{Global, Registry}
use Rattle.wl_server.specs.Announcing.{name_at}
use Rattle.wl_recording.specs.declared.piece.Direction.TheVariants.{ToServer, ToClient}
use Rattle.wl_check.specs.Changes.{first_number}
use Rattle.wl_check.specs.Places.{KnownAtPlace as Knows}
use Rattle.theory_connection.specs.Meant.{IsAmongFirst, Born, Known, Message, Coming, Event, Delete, Arg, made_in}
use Rattle.theory_connection.specs.Meant.{objects, wire, spelled_meant, spelled_coming}
use Rattle.theory_connection.specs.World.{World, Row, Each, IfThere, is_registry}
use Rattle.theory_connection.proofs.EndedObject.{ended_view, ends_have, if_by}
use Rattle.theory_connection.specs.Pair.{PairState, with_client, with_server}
use Rattle.theory_connection.specs.Flight.{about, IsBelow, Rows, Tell, tells, all_asks, all_tells, ReadsInFlight}
use Rattle.theory_connection.specs.Flight.{IsHeldInRows, client_rows}
use Rattle.theory_connection.specs.Stands.{StandsBy, FitsSignature, TellsGiven, by_event}
use Rattle.theory_connection.proofs.WholeInFlight.{OpenRow, client_ends, client_told, id_maker, tells_at, deletes_at}
use Rattle.theory_connection.proofs.WholeInFlight.{all_asks_more, all_tells_more, each_more}
use Rattle.theory_connection.proofs.WholeInFlight.{each_rest, each_by}
use Rattle.theory_connection.proofs.Bridges.{client_closed}
use Rattle.theory_connection.proofs.RowsAfterMessage.{held_row, client_after, client_after_event}
use Rattle.theory_connection.proofs.ReadAsMeant.{made_of}
use Rattle.theory_connection.proofs.ClientGlobals.{learns}
use Rattle.theory_connection.proofs.RequestRead.{left_state, answer_is}
use Rattle.theory_connection.proofs.EventRead.{after_event, after_delete, teaches}
use Rattle.theory_connection.proofs.RequestWritten.{CanAsk, asked_pair}
use Rattle.theory_connection.proofs.ClientBindMove.{find_at}
use Rattle.theory_connection.proofs.Moves.{BindsRemembered, told_pair}
use Rattle.std.proofs.lemmas.Bool.{cases_Bool}
use Rattle.wl_object_map.specs.declared.object.Maker.{Maker}
use Rattle.wl_object_map.specs.declared.object.Maker.TheVariants.{Client, Server}
use Rattle.wl_object_map.specs.declared.object.Object.{Object}
use Rattle.wl_object_map.specs.Ranges.{is_of_server}
use Rattle.wl_object_map.specs.Objects.{opened_at}
use Rattle.wl_object_map.specs.ObjectsLaws.{births-rise, births-closed}
use Rattle.theory_connection.specs.World.{answer}
use Rattle.theory_connection.specs.Flight.{Counts, server_rows, births_in}
use Rattle.theory_connection.proofs.TwoRanges.{counts_by_server, counts_by_client, counts_closed}
use Rattle.theory_recording.specs.Leads.{Joins}
use Rattle.theory_recording.specs.Follows.{IsAdvertised, TellsAdvertised, BindsAdvertised}
use Rattle.theory_recording.specs.Linked.{LinkedBy, knows, pair_limit}
use Rattle.theory_recording.proofs.LeadsByMessage.{asks_more}
use Rattle.theory_recording.proofs.ReadIsRecorded.{rest_seen}
use Rattle.theory_connection.proofs.Births.{counted_more}
use Rattle.theory_connection.specs.World.{Running}
use Rattle.theory_connection.proofs.Errors.{nothing_behind}
use Rattle.theory_connection.proofs.Stands.{none_behind}

-- ---- nothing in flight changes

-- a pair stays linked if only its world changes
pub again : (p : PairState) (w w' : World) (asked : List (Message Known)) (told : List (Coming Known))
    → LinkedBy p w asked told → StandsBy p w' asked told → LinkedBy p w' asked told
again p w w' asked told l s = record {
  stands = s;
  requests = l.requests;
  events = l.events;
  follows = l.follows;
  counted = l.counted;
}

-- a pair stays linked when globals are given or withdrawn
pub given_links : (p : PairState) (w w' : World) (asked : List (Message Known)) (told : List (Coming Known))
    (more : List Global) → LinkedBy p w asked told
    → StandsBy (with_server p (record p.server { globals = more })) w' asked told
    → LinkedBy (with_server p (record p.server { globals = more })) w' asked told
given_links p w w' asked told more l s = record {
  stands = s;
  requests = l.requests;
  events = l.events;
  follows = l.follows;
  counted = l.counted;
}

-- ---- the client writes a request

bind_advertised : (k : Knows) (globals : List Remembered) (m : Message Known)
    → Each (λ g. IsAdvertised k g.name g.iface.0 g.version) globals
    → (is_bind request_side m.target.born.iface m.opcode ≡ true → BindsRemembered globals m.args) → BindsAdvertised k m
bind_advertised k globals m h binds e name x named made =
    let b = binds e in
    let f = find_at (λ (g : Remembered). IsAdvertised k g.name g.iface.0 g.version)
    (is_named b.name) globals b.global h b.there in
    let some_name : Some b.name ≡ Some name = sym
    (ap (λ (args : List (Arg Known)). first_number (map wire args)) b.args_are) ∙ named in
    let own : b.name ≡ name = cc some_name in
    let some_new : Some b.new ≡ Some x = sym (ap (λ (args : List (Arg Known)). made_in args) b.args_are) ∙ made in
    let new : b.new ≡ x = cc some_new in
    let same_name : b.global.name ≡ name = eqb-true b.global.name b.name f.1 ∙ own in
    let iface : b.global.iface ≡ x.born.iface = sym b.iface_is ∙ ap (λ (y : Known). y.born.iface) new in
    let version : b.new.born.version ≡ x.born.version = ap (λ (y : Known). y.born.version) new in
    let told : b.global.version ≤ k.advertised_version name x.born.iface.0 =
    subst (λ (i : Iface). b.global.version ≤ k.advertised_version name i.0) iface
    (subst (λ (n : ℕ). b.global.version ≤ k.advertised_version n b.global.iface.0) same_name f.0) in
    let most = b.most in
    omega (arith, most, told, version)

asked_joins : (p : PairState) (m : Message Known) (c : CanAsk p m) (asked_later : List (Message Known))
    (told_seen : List (Coming Known)) (here : Rows Row)
    → Joins (by_event p.server.core.tables) (all_asks asked_later) (all_tells told_seen) here
    (client_rows p.client.core.view)
    → Joins (by_event p.server.core.tables) (all_asks (asked_later ++ m ∷ [])) (all_tells told_seen) here
    (client_rows (asked_pair p m).client.core.view)
asked_joins p m c asked_later told_seen here j =
    let test = by_event p.server.core.tables in
    let v = p.client.core.view in
    let f = c.fitly.fits in
    let new = made_in m.args in
    let opened : IfThere (OpenRow (client_rows v)) m.ends =
    ends_have (OpenRow (client_rows v)) p.server.core.tables request_side m f c.target c.args in
    let no_event : IfThere (λ x. test x.born ≡ false) m.ends =
    ends_have (λ x. test x.born ≡ false) p.server.core.tables request_side m f c.target_plain c.args_plain in
    let rows = client_after v new m.ends c.new (if_by (λ x h. held_row v x (inl h)) m.ends opened) in
    let more = asks_more m.target (objects m.args) new m.ends j c.target c.target_plain c.args c.args_plain c.new opened
    no_event c.mortal in
    record {
      common = more.common;
      leads = rw (all_asks_more asked_later m) more.leads;
      reads = subst (λ (x : Rows Row). ReadsInFlight test (all_tells told_seen) x more.common) (sym rows) more.reads;
    }

-- a pair stays linked when the client writes a request; it is not yet recorded
pub asked_links : (p : PairState) (w w' : World) (asked : List (Message Known)) (told : List (Coming Known))
    (m : Message Known) (c : CanAsk p m)
    → (is_bind request_side m.target.born.iface m.opcode ≡ true → BindsRemembered p.client.globals m.args)
    → LinkedBy p w asked told
    → StandsBy (asked_pair p m) w' (asked ++ m ∷ []) told → LinkedBy (asked_pair p m) w' (asked ++ m ∷ []) told
asked_links p w w' asked told m c binds l s =
    let f = l.follows in
    record {
      stands = s;
      requests = record {
        seen = l.requests.seen;
        later = l.requests.later ++ m ∷ [];
        is = ap (λ (x : List (Message Known)). x ++ m ∷ []) l.requests.is
            ∙ append_assoc l.requests.seen l.requests.later (m ∷ []);
        recorded = l.requests.recorded;
      };
      events = l.events;
      follows = record {
        passed = f.passed;
        here = f.here;
        known_as = f.known_as;
        joins = asked_joins p m c l.requests.later l.events.seen f.here f.joins;
        remembers = f.remembers;
        tells = f.tells;
        binds = each_more (BindsAdvertised (knows p)) l.requests.later (m ∷ []) f.binds
            (bind_advertised (knows p) p.client.globals m f.remembers binds, tt);
      };
      counted = l.counted;
    }

-- ---- the server writes

more_counted : (births : Maker → ℕ) (told news : List (Coming Known)) → Each (IsBelow births) (all_tells told)
    → Each (IsBelow births) (all_tells news) → Each (IsBelow births) (all_tells (told ++ news))
more_counted births told news h below =
    rw (all_tells_more told news) (each_more (IsBelow births) (all_tells told) (all_tells news) h below)

below_more : (few many : Maker → ℕ) → ((k : Maker) → few k ≤ many k) → (t : Tell) → IsBelow few t → IsBelow many t
below_more few many h t l = counted_more (about t).born.birth few many l h

-- how many births an end has counted, from its rows
abbrev counted_at : Objects → Maker → ℕ
counted_at v = births_in (server_rows v)

-- a pair stays linked when the server writes; nothing of this is recorded yet
pub told_links : (p : PairState) (w w' : World) (asked : List (Message Known)) (told : List (Coming Known))
    (view : Objects) (outbox : Outgoing) (registries : List Registry) (news : List (Coming Known))
    → ((k : Maker) → births_in (server_rows p.server.core.view) k ≤ births_in (server_rows view) k)
    → Each (IsBelow (births_in (server_rows view))) (all_tells news)
    → LinkedBy p w asked told
    → StandsBy (told_pair p view outbox registries) w' asked (told ++ news)
    → LinkedBy (told_pair p view outbox registries) w' asked (told ++ news)
told_links p w w' asked told view outbox registries news rise below l s = record {
  stands = s;
  requests = l.requests;
  events = record {
    seen = l.events.seen;
    later = l.events.later ++ news;
    is = ap (λ (x : List (Coming Known)). x ++ news) l.events.is ∙ append_assoc l.events.seen l.events.later news;
    recorded = l.events.recorded;
  };
  follows = l.follows;
  counted = more_counted (counted_at view) told news
      (each_by (IsBelow (counted_at p.server.core.view)) (IsBelow (counted_at view))
      (below_more (counted_at p.server.core.view) (counted_at view) rise) (all_tells told) l.counted) below;
}

-- ---- the server reads

-- opening an object lowers no count
opened_rise : (v : Objects) (id : ℕ) (iface : Iface) (version : ℕ) (k : Maker)
    → counted_at v k ≤ counted_at (opened_at v id iface version) k
opened_rise v id iface version Client = births-rise v id iface version
opened_rise v id iface version Server = elim (cases_Bool (is_of_server id)) [
  | inl h ↦ (let e = ap (λ (c : Counts). c.births) (counts_by_server v id iface version h) in omega (arith, e))
  | inr h ↦ (let e = ap (λ (c : Counts). c.births) (counts_by_client v id iface version h) in omega (arith, e))
]

closed_rise : (v : Objects) (id : ℕ) (k : Maker) → counted_at v k ≤ counted_at (closed v id) k
closed_rise v id Client = let e = births-closed v id in omega (arith, e)
closed_rise v id Server = let e = ap (λ (c : Counts). c.births) (counts_closed v id) in omega (arith, e)

-- a message that makes n and ends o lowers no count
births_kept : (v : Objects) (n o : Option Known) (k : Maker)
    → counted_at v k ≤ counted_at (ended_view event_side (opens v (option_map made_of n)) o) k
births_kept v None None k = omega arith
births_kept v None (Some x) k = closed_rise v x.id k
births_kept v (Some y) None k = opened_rise v y.id y.born.iface y.born.version k
births_kept v (Some y) (Some x) k =
    let more = opened_rise v y.id y.born.iface y.born.version k in
    let same = closed_rise (opened_at v y.id y.born.iface y.born.version) x.id k in omega (arith, more, same)

-- a pair stays linked when the server reads the first request
pub request_links : (p : PairState) (w w' : World) (m : Message Known) (ms : List (Message Known))
    (told : List (Coming Known)) (n : ℕ)
    → in_front p.server.core.inbox ≡ Whole n
    → IfThere (λ x. IsAmongFirst (births_in (server_rows p.server.core.view)) x.born.birth) m.ends
    → LinkedBy p w (m ∷ ms) told
    → StandsBy (with_server p (left_state p.server m n)) w' ms (told ++ answer id_maker m.ends)
    → LinkedBy (with_server p (left_state p.server m n)) w' ms (told ++ answer id_maker m.ends)
request_links p w w' m ms told n whole there l s =
    let seen = rest_seen spelled_meant (pair_limit p) ToServer p.recording p.client.core.outbox p.server.core.inbox
    ((knows p).taken ToServer) n m ms (none_behind p.client.core.outbox p.server.core.inbox (map spelled_meant (m ∷ ms)) []
    l.stands.requests.in_boxes refl) whole l.requests in
    let births = counted_at p.server.core.view in
    let now = counted_at (ended_view event_side (opens p.server.core.view (option_map made_of (made_in m.args))) m.ends) in
    let dead = answer id_maker m.ends in
    let counted = more_counted births told dead l.counted
    (answer_is (λ cs. Each (IsBelow births) (all_tells cs)) m.ends tt
    (λ x e r. (subst (IfThere (λ y. IsAmongFirst births y.born.birth)) e there, tt))) in
    record {
      stands = s;
      requests = record { seen = seen.rest; later = l.requests.later; is = seen.others; recorded = seen.recorded };
      events = record {
        seen = l.events.seen;
        later = l.events.later ++ dead;
        is = ap (λ (x : List (Coming Known)). x ++ dead) l.events.is ∙ append_assoc l.events.seen l.events.later dead;
        recorded = l.events.recorded;
      };
      follows = l.follows;
      counted = each_by (IsBelow births) (IsBelow now)
          (below_more births now (births_kept p.server.core.view (made_in m.args) m.ends))
          (all_tells (told ++ dead)) counted;
    }

-- ---- the client reads

-- a recorded event advertised the global
abbrev Advertised : PairState → Remembered → Type 0
Advertised p g = IsAdvertised (knows p) g.name g.iface.0 g.version

-- the global of an event was advertised by it
told_advertised : (tables : List Interface) (given : List Global) (k : Knows) (m : Message Known)
    → TellsAdvertised tables k (Event m) → is_registry m.target.born ≡ true → m.opcode ≡ 0
    → (t : TellsGiven tables given m.args) → IsAdvertised k t.name t.iface.0 t.version
told_advertised tables given k m a r e t = a (rw (r, eq-eqb m.opcode 0 e) refl) t.name t.version
    (name_at tables t.iface) t.iface (ap (map wire) t.args_are) t.known

event_joins : (test : Born → Bool) (m : Message Known) (asked_later : List (Message Known)) (rest : List (Coming Known))
    (here : Rows Row) (v : Objects) (tables : List Interface) (f : FitsSignature tables event_side m)
    → Joins test (all_asks asked_later) (all_tells (Event m ∷ rest)) here (client_rows v)
    → Joins test (all_asks asked_later) (all_tells rest) here
    (client_rows (ended_view request_side (opens v (option_map made_of (made_in m.args))) m.ends))
event_joins test m asked_later rest here v tables f j =
    let new = made_in m.args in
    let t = tells_at m.target (objects m.args) new m.ends j.reads in
    let held : IfThere (IsHeldInRows (client_rows v)) m.ends =
    ends_have (IsHeldInRows (client_rows v)) tables event_side m f t.target t.args in
    let rows : client_rows (ended_view request_side (opens v (option_map made_of new)) m.ends)
    ≡ client_ends m.ends (client_told (client_rows v) new) =
    client_after_event v new m.ends t.new (if_by (held_row v) m.ends held) t.range in
    record {
      common = j.common;
      leads = j.leads;
      reads = subst
          (λ (x : Rows Row). ReadsInFlight test (all_tells rest) x j.common) (sym rows) t.rest;
    }

-- the client after it read the first of what comes, with this view and these globals
abbrev read_client : client.State → Coming Known → ℕ → Objects → List Remembered → Option Object → Option Object
    → client.State
read_client st c n view globals made replaced = record {
  core = record st.core {
    view = view;
    inbox = without_first st.core.inbox n (length (spelled_coming c).tokens);
    read = min (st.core.read + n) 18446744073709551615;
    failed = false;
  };
  globals = globals;
  made = made;
  replaced = replaced;
}

-- A pair stays linked when the client reads the first of what comes, if its rows still join and the
-- globals that it remembers are advertised.
coming_links : (p : PairState) (w w' : World) (asked : List (Message Known)) (c : Coming Known)
    (cs : List (Coming Known)) (n : ℕ) (view : Objects) (globals : List Remembered)
    (made replaced : Option Object)
    → w.stage ≡ Running → in_front p.client.core.inbox ≡ Whole n → (l : LinkedBy p w asked (c ∷ cs))
    → ((here : Rows Row) (rest : List (Coming Known))
    → Joins (by_event p.server.core.tables) (all_asks l.requests.later) (all_tells (c ∷ rest)) here
    (client_rows p.client.core.view)
    → Joins (by_event p.server.core.tables) (all_asks l.requests.later) (all_tells rest) here (client_rows view))
    → (TellsAdvertised p.server.core.tables (knows p) c → Each (Advertised p) globals)
    → StandsBy (with_client p (read_client p.client c n view globals made replaced)) w' asked cs
    → LinkedBy (with_client p (read_client p.client c n view globals made replaced)) w' asked cs
coming_links p w w' asked c cs n view globals made replaced z whole l joins learned s =
    let f = l.follows in
    let tables = p.server.core.tables in
    let seen = rest_seen spelled_coming (pair_limit p) ToClient p.recording p.server.core.outbox p.client.core.inbox
    ((knows p).taken ToClient) n c cs (none_behind p.server.core.outbox p.client.core.inbox (map spelled_coming (c ∷ cs)) l.stands.behind
    l.stands.events.in_boxes (nothing_behind l.stands z)) whole l.events in
    let told = subst (λ (x : List (Coming Known)). Each (TellsAdvertised tables (knows p)) x) seen.seen_is f.tells in
    record {
      stands = s;
      requests = l.requests;
      events = record { seen = seen.rest; later = l.events.later; is = seen.others; recorded = seen.recorded };
      follows = record {
        passed = f.passed;
        here = f.here;
        known_as = f.known_as;
        joins = joins f.here seen.rest (subst (λ (x : List (Coming Known)). Joins (by_event tables)
            (all_asks l.requests.later) (all_tells x) f.here (client_rows p.client.core.view)) seen.seen_is f.joins);
        remembers = learned told.0;
        tells = told.1;
        binds = f.binds;
      };
      counted = each_rest (IsBelow (counted_at p.server.core.view)) (tells c) (all_tells cs) l.counted;
    }

-- a pair stays linked when the client reads an event
pub event_links : (p : PairState) (w w' : World) (asked : List (Message Known)) (m : Message Known)
    (cs : List (Coming Known)) (n : ℕ) (entry : Entry) → w.stage ≡ Running
    → in_front p.client.core.inbox ≡ Whole n → LinkedBy p w asked (Event m ∷ cs)
    → StandsBy (with_client p (after_event p.client m n (teaches m entry))) w' asked cs
    → LinkedBy (with_client p (after_event p.client m n (teaches m entry))) w' asked cs
event_links p w w' asked m cs n entry z whole l s =
    let tables = p.server.core.tables in
    let fit = l.stands.events.fit.0 in
    coming_links p w w' asked (Event m) cs n
    (ended_view request_side (opens p.client.core.view (option_map made_of (made_in m.args))) m.ends)
    (after_event p.client m n (teaches m entry)).globals (after_event p.client m n (teaches m entry)).made
    (after_event p.client m n (teaches m entry)).replaced z whole l
    (λ here rest j. event_joins (by_event tables) m l.requests.later rest here p.client.core.view tables fit.fits j)
    (λ told. learns (Advertised p) tables p.client.core.tables p.server.globals p.client.globals m
    l.stands.terms.same_tables fit (told_advertised tables p.server.globals (knows p) m told) l.follows.remembers
    (teaches m entry) (λ h. (and_parts (is_registry m.target.born) _ h).0)) s

delete_joins : (test : Born → Bool) (x : Known) (asked_later : List (Message Known)) (rest : List (Coming Known))
    (here : Rows Row) (p : PairState) (n : ℕ)
    → Joins test (all_asks asked_later) (all_tells (Delete x ∷ rest)) here (client_rows p.client.core.view)
    → Joins test (all_asks asked_later) (all_tells rest) here (client_rows (after_delete p.client x n).core.view)
delete_joins test x asked_later rest here p n j =
    let t = deletes_at x j.reads in
    record {
      common = j.common;
      leads = j.leads;
      reads = subst
          (λ (y : Rows Row). ReadsInFlight test (all_tells rest) y j.common)
          (sym (client_closed p.client.core.view x.id)) t.rest;
    }

-- a pair stays linked when the client reads a delete
pub delete_links : (p : PairState) (w w' : World) (asked : List (Message Known)) (x : Known) (cs : List (Coming Known))
    (n : ℕ) → w.stage ≡ Running → in_front p.client.core.inbox ≡ Whole n
    → LinkedBy p w asked (Delete x ∷ cs) → StandsBy (with_client p (after_delete p.client x n)) w' asked cs
    → LinkedBy (with_client p (after_delete p.client x n)) w' asked cs
delete_links p w w' asked x cs n z whole l s =
    coming_links p w w' asked (Delete x) cs n (closed p.client.core.view x.id) p.client.globals None None z whole l
    (λ here rest j. delete_joins (by_event p.server.core.tables) x l.requests.later rest here p n j)
    (λ told. l.follows.remembers) s
