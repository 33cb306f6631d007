-- The calls of a server make only steps of a run.
use Rattle.std.proofs.Common.{◌≡◌, ℕ, Bool, true, false, cond, List, [], ◌∷◌, ◌++◌, drop, length, map, take, refl, sym, ap}
use Rattle.std.proofs.Common.{subst, ◌∙◌}
use Rattle.std.specs.declared.option.Option.{Option}
use Rattle.std.specs.declared.option.Option.TheVariants.{None, Some}
use Rattle.std.specs.declared.result.Result.{Result}
use Rattle.std.specs.declared.result.Result.TheVariants.{Err, Ok}
use Rattle.std.proofs.lemmas.List.{append-nil, append_assoc, append_cancel_left}
use Rattle.wl_wire.specs.Argument.{Argument, NewNamed, Uint}
use Rattle.wl_sigs.specs.Side.TheVariants.{Event as event_side, Request}
use Rattle.wl_sigs.specs.Tables.{Interface, MessageSignature}
use Rattle.wl_sigs.specs.Valid.{Valid}
use Rattle.wl_message.specs.Arrived.{in_front}
use Rattle.wl_message.specs.Cut.{Whole}
use Rattle.wl_message.specs.Outgoing.{QueuedMessage}
use Rattle.wl_object_map.specs.declared.object.Object.{Object}
use Rattle.wl_object_map.specs.Objects.{ObjectsAreSound}
use Rattle.wl_objects.specs.declared.error.SendError.{SendError}
use Rattle.wl_objects.specs.declared.error.SendError.TheVariants as refusals
use Rattle.wl_objects.specs.Messages.{checked, is_bind}
use Rattle.wl_objects.specs.Writing.{Given}
use Rattle.wl_connection.specs.Core.{Core}
use Rattle.wl_connection.specs.Receiving.{Found, header_of}
use Rattle.wl_connection.specs.Sending.{after_checked, after_send, answer_of, with_following}
use Rattle.wl_server.specs.declared.globals.GlobalError.TheVariants as global_errors
use Rattle.wl_server.specs.Announcing.{after_announce, owed}
use Rattle.wl_server.specs.Calls.{after_drop, can_be_global, without_at}
use Rattle.wl_server.specs.Requests.{is_good_bind_of, request, state_past}
use Rattle.wl_server.specs.State.{Global, State, global_of, with_core}
use Rattle.wl_recording.specs.declared.piece.Direction.TheVariants.{ToClient}
use Rattle.wl_check.specs.Changes.{Call}
use Rattle.wl_check.specs.Merged.{framed, span}
use Rattle.wl_check.specs.Rules.{judged}
use Rattle.wl_check.specs.Session.{Judged}
use Rattle.theory_connection.specs.Meant.{Born, Coming, Delete, Event, Known, Message, spelled_coming, wire}
use Rattle.theory_connection.specs.World.{Each, answer, delete}
use Rattle.theory_connection.specs.Flight.{Rows, server_rows}
use Rattle.theory_connection.specs.Stands.{IsGlobal}
use Rattle.theory_connection.proofs.Announces.{only_sent}
use Rattle.theory_connection.proofs.Globals.{Grows, binds_at, can_add, each_without, grows_more, grows_without}
use Rattle.theory_connection.proofs.Globals.{was_given}
use Rattle.theory_connection.proofs.WholeInFlight.{each_by, each_more, id_maker}
use Rattle.theory_recording.specs.Follows.{AllGoOn, knowledge}
use Rattle.theory_peers.specs.AcceptedRequest.{IsAcceptedRequest, asked_as}
use Rattle.theory_peers.specs.AnnouncedGlobals.{AnnouncesAdded, AnnouncesOnly}
use Rattle.theory_peers.specs.FollowsServer.{FollowsServer, IsPlacedIn, MayBeDropped, MayBeTold, after_event}
use Rattle.theory_peers.specs.FollowsServer.{after_request}
use Rattle.theory_peers.specs.ServerCalls as calls
use Rattle.theory_peers.specs.ServerCalls.{MakesRun, ServerCalls}
use Rattle.theory_peers.specs.ServerRun.{ServerRun, accepts, asks, begun, drops, reads, records, writes}
use Rattle.theory_peers.specs.ReadByServer.{IsSpelledBy, ReadsAsStep}
use Rattle.theory_peers.specs.WrittenByServer.{AnnouncesAsSteps, DropsAsStep, MayBeToldInTurn, SendsAsStep, after_events}
use Rattle.theory_peers.specs.WrittenByServer.{all_written}
use Rattle.theory_peers.proofs.AcceptedBinds.{good_bind}
use Rattle.theory_peers.proofs.AcceptedIsAsked.{asked_by}
use Rattle.theory_peers.proofs.RunOfServer.{run_follows}
use Rattle.theory_peers.proofs.ServerSteps.{reads_step}
use Rattle.theory_peers.proofs.ServerVersions.{run_versions}
use Rattle.theory_peers.proofs.ServerWrites.{announces_steps, drops_step, not_failed, sends_step}

-- ---- globals that stay

added_still : (tables : List Interface) (given more : List Global) → Grows given more → (c : Coming Known)
    → AnnouncesAdded tables given c → AnnouncesAdded tables more c
added_still tables given more grows (Event m) h = λ is. let t = h is in record {
  name = t.name;
  iface = t.iface;
  version = t.version;
  args_are = t.args_are;
  was_given = was_given given more grows t.name t.iface t.version t.was_given;
  known = t.known;
}
added_still tables given more grows (Delete x) h = tt

only_still : (limit : ℕ) (tables : List Interface) (given more : List Global) → Grows given more → (e : List Judged)
    (asked : List (Message Known)) (told : List (Coming Known)) (server : Rows Born)
    → (run : ServerRun limit tables e asked told server) → AnnouncesOnly given run → AnnouncesOnly more run
only_still limit tables given more grows _ _ _ _ (begun sizes) h = tt
only_still limit tables given more grows _ _ _ _ (accepts {e} {asked} {told} {server} run call is) h =
    only_still limit tables given more grows e asked told server run h
only_still limit tables given more grows _ _ _ _ (asks {e} {asked} {told} {server} run call m is) h =
    only_still limit tables given more grows e asked told server run h
only_still limit tables given more grows _ _ _ _ (reads {e} {m} {asked} {told} {server} run) h =
    only_still limit tables given more grows e (m ∷ asked) told server run h
only_still limit tables given more grows _ _ _ _ (writes {e} {asked} {told} {server} run m may) h =
    (only_still limit tables given more grows e asked told server run h.0, added_still tables given more grows (Event m) h.1)
only_still limit tables given more grows _ _ _ _ (drops {e} {asked} {told} {server} run x may) h =
    only_still limit tables given more grows e asked told server run h
only_still limit tables given more grows _ _ _ _ (records {e} {asked} {coming} {told} {server} run stream place tokens at) h =
    only_still limit tables given more grows e asked (coming ∷ told) server run h

good_still : (tables : List Interface) (given more : List Global) → Grows given more → (values : List Argument)
    → is_good_bind_of tables given values ≡ true → is_good_bind_of tables more values ≡ true
good_still tables given more grows (Uint name ∷ NewNamed iface version id ∷ []) h =
    binds_at given more grows tables iface version name (global_of given name) refl h
good_still tables given more grows _ h = absurd (cc h)

-- a request that is a bind is a good one
abbrev pub BindsWell : List Interface → List Global → Message Known → Type 0
BindsWell tables given m = is_bind Request m.target.born.iface m.opcode ≡ true
    → is_good_bind_of tables given (map wire m.args) ≡ true

-- ---- a run, and what else holds

abbrev pub RunOnly : ℕ → List Interface → List Global → List Judged → List (Message Known) → List (Coming Known)
    → Rows Born → Type 0
RunOnly limit tables given e asked told server =
    (run : ServerRun limit tables e asked told server) × AnnouncesOnly given run

pub record GoesOn (limit : ℕ) (tables : List Interface) (e : List Judged) (asked : List (Message Known))
    (written : List QueuedMessage) (state : State) : Type 0 where
  pub told : List (Coming Known)
  pub run : RunOnly limit tables state.globals e asked told (server_rows state.core.view)
  pub spelled : map spelled_coming told ≡ written
  pub tables_are : state.core.tables ≡ tables
  pub globals : Each (IsGlobal tables) state.globals
  pub binds : Each (BindsWell tables state.globals) asked

spelled_join : (xs ys : List (Coming Known)) → map spelled_coming (xs ++ ys) ≡ map spelled_coming xs ++ map spelled_coming ys
spelled_join [] ys = refl
spelled_join (x ∷ xs) ys = ap (λ (l : List QueuedMessage). spelled_coming x ∷ l) (spelled_join xs ys)

-- what the state has in addition is what the run says
news_spelled : (told news : List (Coming Known)) (written more before after : List QueuedMessage)
    → map spelled_coming told ≡ written → after ≡ before ++ map spelled_coming news → after ≡ before ++ more
    → map spelled_coming (told ++ news) ≡ written ++ more
news_spelled told news written more before after s a b =
    spelled_join told news ∙ ap (λ (l : List QueuedMessage). l ++ map spelled_coming news) s
    ∙ ap (λ (l : List QueuedMessage). written ++ l)
    (append_cancel_left before (map spelled_coming news) more (sym a ∙ b))

announced_run : (limit : ℕ) (tables : List Interface) (given : List Global) (e : List Judged)
    (asked : List (Message Known)) (told : List (Coming Known)) (server : Rows Born) (events : List (Message Known))
    → MayBeToldInTurn tables server events → Each (λ m. AnnouncesAdded tables given (Event m)) events
    → RunOnly limit tables given e asked told server
    → RunOnly limit tables given e asked (told ++ all_written events) (after_events server events)
announced_run limit tables given e asked told server [] may added r =
    subst (λ (l : List (Coming Known)). RunOnly limit tables given e asked l server) (sym (append-nil told)) r
announced_run limit tables given e asked told server (m ∷ events) may added r =
    subst (λ (l : List (Coming Known)). RunOnly limit tables given e asked l (after_events (after_event server m) events))
    (append_assoc told (Event m ∷ delete m.ends) (all_written events))
    (announced_run limit tables given e asked (told ++ (Event m ∷ delete m.ends)) (after_event server m) events may.1 added.1
    (writes r.0 m may.0, (r.1, added.0)))

-- ---- the tables stay

follow_tables : (b : Bool) (id : ℕ) (core : Core) → (with_following b id core).tables ≡ core.tables
follow_tables true id core = refl
follow_tables false id core = refl

sent_tables : (core : Core) (target : Object) (opcode : ℕ) (given : List Given) (r : Result MessageSignature SendError)
    → (after_checked core event_side target opcode given r).tables ≡ core.tables
sent_tables core target opcode given (Err why) = refl
sent_tables core target opcode given (Ok signature) = follow_tables _ _ _

past_tables : (state : State) (found : Found) → (state_past state found).core.tables ≡ state.core.tables
past_tables state found = follow_tables _ _ _

announced_tables : (state : State) (count : ℕ) → (after_announce state count).core.tables ≡ state.core.tables
announced_tables state count = ap (λ (c : Core). c.tables) (only_sent state.core (take count (owed state)))

lives_on : {X : Type 0} (b : Bool) (o : Result X SendError) (x : X) → cond b (Err refusals.Failed) o ≡ Ok x → b ≡ false
lives_on true o x h = absurd (cc h)
lives_on false o x h = refl

-- ---- each call

module _ (limit : ℕ) (tables : List Interface) (e : List Judged) where
  recorded_one : (asked : List (Message Known)) (sent : QueuedMessage) (written : List QueuedMessage) (state : State)
      (stream : List ℕ) (place tokens : ℕ) → GoesOn limit tables e asked (sent ∷ written) state
      → IsPlacedIn limit stream place ((knowledge tables e).taken ToClient) tokens sent
      → GoesOn limit tables
      (e ++ judged limit tables (knowledge tables e) stream (framed ToClient tokens (span place (length sent.bytes))) ∷ [])
      asked written state
  recorded_one asked sent written state stream place tokens g at = by_told g.told g.run g.spelled
    where
      by_told : (told : List (Coming Known))
          → RunOnly limit tables state.globals e asked told (server_rows state.core.view)
          → map spelled_coming told ≡ sent ∷ written
          → GoesOn limit tables (e ++ judged limit tables (knowledge tables e) stream
          (framed ToClient tokens (span place (length sent.bytes))) ∷ []) asked written state
      by_told [] run h = absurd (cc h)
      by_told (coming ∷ told) run h =
          let first : spelled_coming coming ≡ sent = cc h in
          let rest : map spelled_coming told ≡ written = cc h in
          record {
            told = told;
            run = subst (λ (q : QueuedMessage). RunOnly limit tables state.globals
                (e ++ judged limit tables (knowledge tables e) stream
                (framed ToClient tokens (span place (length q.bytes))) ∷ []) asked told (server_rows state.core.view))
                first (
                  records run.0 stream place tokens (subst (λ (q : QueuedMessage). IsPlacedIn limit stream place
                      ((knowledge tables e).taken ToClient) tokens q) (sym first) at),
                  run.1,
                );
            spelled = rest;
            tables_are = g.tables_are;
            globals = g.globals;
            binds = g.binds;
          }

  grown : (asked : List (Message Known)) (written : List QueuedMessage) (state : State) (more : List Global)
      → Grows state.globals more → Each (IsGlobal tables) more → GoesOn limit tables e asked written state
      → GoesOn limit tables e asked written (record state { globals = more })
  grown asked written state more grows globals g = record {
    told = g.told;
    run = (
      g.run.0,
      only_still limit tables state.globals more grows e asked g.told (server_rows state.core.view) g.run.0 g.run.1,
    );
    spelled = g.spelled;
    tables_are = g.tables_are;
    globals = globals;
    binds = each_by (BindsWell tables state.globals) (BindsWell tables more)
        (λ m h is. good_still tables state.globals more grows (map wire m.args) (h is)) asked g.binds;
  }

  accepted_one : (asked : List (Message Known)) (written : List QueuedMessage) (state : State) (call : Call) → Valid tables
      → GoesOn limit tables e asked written state → IsAcceptedRequest limit tables e call
      → GoesOn limit tables (e ++ Ok call ∷ []) (asked ++ asked_as tables e call ∷ []) written state
  accepted_one asked written state call v g is =
      let f = run_follows limit tables e asked g.told (server_rows state.core.view) v g.run.0 in
      let a = asked_by limit tables e f.here call v f.known_as is in
      let m = asked_as tables e call in
      let iface = ap (λ (x : Call). x.received.entry.iface) a.call_is ∙ a.iface in
      let opcode = ap (λ (x : Call). x.opcode) a.call_is in
      let values = ap (λ (x : Call). x.received.values) a.call_is in
      record {
        told = g.told;
        run = (accepts g.run.0 call is, g.run.1);
        spelled = g.spelled;
        tables_are = g.tables_are;
        globals = g.globals;
        binds = each_more (BindsWell tables state.globals) asked (m ∷ []) g.binds (
          λ h. ap (is_good_bind_of tables state.globals) (sym values)
              ∙ good_bind limit tables state.globals e asked g.told (server_rows state.core.view) call v g.run.0 g.run.1 is
              ((λ i. is_bind Request (iface i) (opcode i)) ∙ h),
          tt,
        );
      }

  withdrawn_one : (asked : List (Message Known)) (written : List QueuedMessage) (state : State) (name : ℕ)
      (o : Option Global) → global_of state.globals name ≡ o → GoesOn limit tables e asked written state
      → GoesOn limit tables e asked written (record state { globals = without_at state.globals name o })
  withdrawn_one asked written state name None is g = g
  withdrawn_one asked written state name (Some x) is g =
      grown asked written state _ (grows_without state.globals name x is)
      (each_without (IsGlobal tables) (λ y h. record { can_be = h.can_be; word = h.word }) state.globals name x is
      g.globals) g

-- ---- calls that read or write

-- the server reads a request
read_is : (limit : ℕ) (tables : List Interface) (e : List Judged) (m : Message Known) (asked : List (Message Known))
    (written : List QueuedMessage) (state : State) (n : ℕ) → Valid tables
    → GoesOn limit tables e (m ∷ asked) written state → ObjectsAreSound state.core.view
    → in_front state.core.inbox ≡ Whole n
    → IsSpelledBy state.core.tables m (header_of state.core.inbox.bytes) (drop 8 (take n state.core.inbox.bytes))
    (length state.core.inbox.tokens)
    → ReadsAsStep state m
read_is limit tables e m asked written state n v g sound front s =
    let own = sym g.tables_are in
    let follows = run_follows limit tables e (m ∷ asked) g.told (server_rows state.core.view) v g.run.0 in
    reads_step state e m asked g.told n (subst Valid own v) sound
    (subst (λ (t : List Interface). FollowsServer t e (m ∷ asked) g.told (server_rows state.core.view)) own follows) front s
    (λ h. ap (λ (t : List Interface). is_good_bind_of t state.globals (map wire m.args)) g.tables_are ∙ g.binds.0 h)

read_one : (limit : ℕ) (tables : List Interface) (e : List Judged) (m : Message Known) (asked : List (Message Known))
    (written : List QueuedMessage) (state : State) (found : Found) (news : List QueuedMessage)
    → GoesOn limit tables e (m ∷ asked) written state → ReadsAsStep state m → request state ≡ Ok (Some found)
    → calls.Appends state news (state_past state found)
    → GoesOn limit tables e asked (written ++ news) (state_past state found)
read_one limit tables e m asked written state found news g r is adds =
    let both = sym r.finds ∙ is in
    let same : r.found ≡ found = cc both in
    let rows : server_rows (state_past state found).core.view ≡ after_request (server_rows state.core.view) m =
    ap (λ (f : Found). server_rows (state_past state f).core.view) (sym same) ∙ r.rows in
    let left : (state_past state found).core.outbox.messages
    ≡ state.core.outbox.messages ++ map spelled_coming (answer id_maker m.ends) =
    ap (λ (f : Found). (state_past state f).core.outbox.messages) (sym same) ∙ r.writes in
    record {
      told = g.told ++ answer id_maker m.ends;
      run = subst (RunOnly limit tables state.globals e asked (g.told ++ answer id_maker m.ends)) (sym rows)
          (reads g.run.0, g.run.1);
      spelled = news_spelled g.told (answer id_maker m.ends) written news state.core.outbox.messages _ g.spelled left adds;
      tables_are = past_tables state found ∙ g.tables_are;
      globals = g.globals;
      binds = g.binds.1;
    }

sent_one : (limit : ℕ) (tables : List Interface) (e : List Judged) (asked : List (Message Known))
    (written : List QueuedMessage) (state : State) (target : Object) (opcode : ℕ) (given : List Given)
    (news : List QueuedMessage) → GoesOn limit tables e asked written state → SendsAsStep state.core target opcode given
    → calls.Appends state news (with_core state (after_send state.core event_side target opcode given))
    → GoesOn limit tables e asked (written ++ news)
    (with_core state (after_send state.core event_side target opcode given))
sent_one limit tables e asked written state target opcode given news g s adds =
    let m = s.message in
    let more = Event m ∷ delete m.ends in
    let may = subst (λ (t : List Interface). MayBeTold t (server_rows state.core.view) m) g.tables_are s.may in
    record {
      told = g.told ++ more;
      run = subst (RunOnly limit tables state.globals e asked (g.told ++ more)) (sym s.rows)
          (writes g.run.0 m may, (g.run.1, λ h. absurd (let no = s.no_global in cc (no, h))));
      spelled = news_spelled g.told more written news state.core.outbox.messages _ g.spelled s.writes adds;
      tables_are = sent_tables state.core target opcode given _ ∙ g.tables_are;
      globals = g.globals;
      binds = g.binds;
    }

dropped_one : (limit : ℕ) (tables : List Interface) (e : List Judged) (asked : List (Message Known))
    (written : List QueuedMessage) (state : State) (object : Object) (news : List QueuedMessage)
    → GoesOn limit tables e asked written state → DropsAsStep state.core object
    → calls.Appends state news (with_core state (after_drop state.core object))
    → GoesOn limit tables e asked (written ++ news) (with_core state (after_drop state.core object))
dropped_one limit tables e asked written state object news g d adds =
    let x = d.dropped in
    let may = subst (λ (t : List Interface). MayBeDropped t (server_rows state.core.view) x) g.tables_are d.may in
    record {
      told = g.told ++ Delete x ∷ [];
      run = subst (RunOnly limit tables state.globals e asked (g.told ++ Delete x ∷ [])) (sym d.rows)
          (drops g.run.0 x may, g.run.1);
      spelled = news_spelled g.told (Delete x ∷ []) written news state.core.outbox.messages _ g.spelled d.writes adds;
      tables_are = g.tables_are;
      globals = g.globals;
      binds = g.binds;
    }

announced_one : (limit : ℕ) (tables : List Interface) (e : List Judged) (asked : List (Message Known))
    (written : List QueuedMessage) (state : State) (count : ℕ) (news : List QueuedMessage)
    → GoesOn limit tables e asked written state → AnnouncesAsSteps state count
    → calls.Appends state news (after_announce state count)
    → GoesOn limit tables e asked (written ++ news) (after_announce state count)
announced_one limit tables e asked written state count news g a adds =
    let may = subst (λ (t : List Interface). MayBeToldInTurn t (server_rows state.core.view) a.events) g.tables_are a.may in
    let added = subst (λ (t : List Interface). Each (λ m. AnnouncesAdded t state.globals (Event m)) a.events) g.tables_are
    a.added in
    record {
      told = g.told ++ all_written a.events;
      run = subst (RunOnly limit tables state.globals e asked (g.told ++ all_written a.events)) (sym a.rows)
          (announced_run limit tables state.globals e asked g.told (server_rows state.core.view) a.events may added g.run);
      spelled = news_spelled g.told (all_written a.events) written news state.core.outbox.messages _ g.spelled a.writes adds;
      tables_are = announced_tables state count ∙ g.tables_are;
      globals = g.globals;
      binds = g.binds;
    }

-- ---- all calls

pub calls_go_on : (limit : ℕ) (tables : List Interface) (e : List Judged) (asked : List (Message Known))
    (written : List QueuedMessage) (state : State) → Valid tables
    → ServerCalls limit tables e asked written state → GoesOn limit tables e asked written state
calls_go_on limit tables _ _ _ _ v (calls.begun sizes) = record {
  told = [];
  run = (begun sizes, tt);
  spelled = refl;
  tables_are = refl;
  globals = tt;
  binds = tt;
}
calls_go_on limit tables _ _ _ _ v (calls.accepts {e} {asked} {written} {state} c call is) =
    accepted_one limit tables e asked written state call v (calls_go_on limit tables e asked written state v c) is
calls_go_on limit tables _ _ _ _ v (calls.records {e} {asked} {sent} {written} {state} c stream place tokens at) =
    recorded_one limit tables e asked sent written state stream place tokens
    (calls_go_on limit tables e asked (sent ∷ written) state v c) at
calls_go_on limit tables _ _ _ _ v (calls.carries {e} {asked} {written} {state} c inbox outbox) =
    let g = calls_go_on limit tables e asked written state v c in
    record {
      told = g.told;
      run = g.run;
      spelled = g.spelled;
      tables_are = g.tables_are;
      globals = g.globals;
      binds = g.binds;
    }
calls_go_on limit tables _ _ _ _ v (calls.reads {e} {m} {asked} {written} {state} c sound n front s found is news adds) =
    let g = calls_go_on limit tables e (m ∷ asked) written state v c in
    read_one limit tables e m asked written state found news g
    (read_is limit tables e m asked written state n v g sound.objects front s) is adds
calls_go_on limit tables _ _ _ _ v
    (calls.sends {e} {asked} {written} {state} c sound target opcode given new fits is news adds) =
    let g = calls_go_on limit tables e asked written state v c in
    let lives = lives_on state.core.failed (answer_of state.core event_side target given
    (checked state.core.outbox.limit.bytes state.core.tables event_side state.core.view target opcode given)) new is in
    sent_one limit tables e asked written state target opcode given news g
    (sends_step state.core target opcode given new (subst Valid (sym g.tables_are) v) sound.objects lives fits is) adds
calls_go_on limit tables _ _ _ _ v (calls.drops {e} {asked} {written} {state} c object is news adds) =
    dropped_one limit tables e asked written state object news (calls_go_on limit tables e asked written state v c)
    (drops_step state.core object is) adds
calls_go_on limit tables _ _ _ _ v (calls.announces {e} {asked} {written} {state} c sound count news adds) =
    let g = calls_go_on limit tables e asked written state v c in
    announced_one limit tables e asked written state count news g
    (announces_steps state count (subst Valid (sym g.tables_are) v) sound.objects
    (run_versions limit tables e asked g.told (server_rows state.core.view) v g.run.0) sound.few
    (subst (λ (t : List Interface). Each (IsGlobal t) state.globals) (sym g.tables_are) g.globals) sound.registries) adds
calls_go_on limit tables _ _ _ _ v (calls.adds {e} {asked} {written} {state} c iface version word is) =
    let g = calls_go_on limit tables e asked written state v c in
    let new : Global = record { iface = iface; version = version; present = true } in
    let lives = not_failed state.core.failed global_errors.Failed _ is in
    let can = can_add state iface version state.core.failed _ _ lives refl refl is in
    grown limit tables e asked written state (state.globals ++ new ∷ []) (grows_more state.globals (new ∷ []))
    (each_more (IsGlobal tables) state.globals (new ∷ []) g.globals (
      record {
        can_be = ap (λ (t : List Interface). can_be_global t iface version) (sym g.tables_are) ∙ can.can;
        word = word;
      },
      tt,
    )) g
calls_go_on limit tables _ _ _ _ v (calls.withdraws {e} {asked} {written} {state} c name is) =
    withdrawn_one limit tables e asked written state name (global_of state.globals name) refl
    (calls_go_on limit tables e asked written state v c)

pub calls_run : (limit : ℕ) (tables : List Interface) (e : List Judged) (asked : List (Message Known))
    (written : List QueuedMessage) (state : State) → Valid tables
    → ServerCalls limit tables e asked written state → MakesRun limit tables e asked written state
calls_run limit tables e asked written state v c =
    let g = calls_go_on limit tables e asked written state v c in
    record { told = g.told; run = g.run.0; only = g.run.1; spelled = g.spelled }

pub calls_keep : (limit : ℕ) (tables : List Interface) (e : List Judged) (asked : List (Message Known))
    (written : List QueuedMessage) (state : State) → Valid tables
    → ServerCalls limit tables e asked written state → AllGoOn e
calls_keep limit tables e asked written state v c =
    let g = calls_go_on limit tables e asked written state v c in
    (run_follows limit tables e asked g.told (server_rows state.core.view) v g.run.0).passed

pub calls_read : (limit : ℕ) (tables : List Interface) (e : List Judged) (m : Message Known) (asked : List (Message Known))
    (written : List QueuedMessage) (state : State) (n : ℕ) → Valid tables
    → ServerCalls limit tables e (m ∷ asked) written state → ObjectsAreSound state.core.view
    → in_front state.core.inbox ≡ Whole n
    → IsSpelledBy state.core.tables m (header_of state.core.inbox.bytes) (drop 8 (take n state.core.inbox.bytes))
    (length state.core.inbox.tokens)
    → ReadsAsStep state m
calls_read limit tables e m asked written state n v c sound front s =
    read_is limit tables e m asked written state n v (calls_go_on limit tables e (m ∷ asked) written state v c) sound front s
