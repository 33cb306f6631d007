-- The calls of a client make a run.
use Rattle.std.proofs.Common.{◌≡◌, ℕ, Bool, true, false, cond, List, [], ◌∷◌, ◌++◌, drop, length, map, take, refl}
use Rattle.std.proofs.Common.{sym, ap, subst, ◌∙◌}
use Rattle.std.specs.declared.option.Option.TheVariants.{Some}
use Rattle.std.specs.declared.result.Result.{Result}
use Rattle.std.specs.declared.result.Result.TheVariants.{Ok, Err}
use Rattle.std.proofs.lemmas.List.{append_cancel_left}
use Rattle.wl_sigs.specs.Side.TheVariants.{Request, Event as event_side}
use Rattle.wl_sigs.specs.Tables.{Interface, MessageSignature}
use Rattle.wl_sigs.specs.Valid.{Valid}
use Rattle.wl_message.specs.Arrived.{in_front}
use Rattle.wl_message.specs.Cut.{Whole}
use Rattle.wl_message.specs.Outgoing.{QueuedMessage}
use Rattle.wl_object_map.specs.declared.object.Object.{Object}
use Rattle.wl_object_map.specs.Objects.{ObjectsAreSound}
use Rattle.wl_objects.specs.declared.error.SendError.{SendError}
use Rattle.wl_objects.specs.declared.error.SendError.TheVariants as refusals
use Rattle.wl_objects.specs.Writing.{Given}
use Rattle.wl_connection.specs.Core.{Core}
use Rattle.wl_connection.specs.Receiving.{Found, found, header_of}
use Rattle.wl_connection.specs.Sending.{after_checked, after_send}
use Rattle.wl_client.specs.Calls.{after_bind, bind_at}
use Rattle.wl_client.specs.declared.globals.Global.{Global}
use Rattle.wl_client.specs.Reports.{state_past}
use Rattle.wl_client.specs.State.{State, with_core}
use Rattle.wl_objects.specs.Messages.{live_row}
use Rattle.wl_recording.specs.declared.piece.Direction.TheVariants.{ToServer}
use Rattle.wl_check.specs.Merged.{framed, span}
use Rattle.wl_check.specs.Rules.{judged}
use Rattle.wl_check.specs.Session.{Judged}
use Rattle.theory_connection.specs.Meant.{Known, Message, spelled_meant}
use Rattle.theory_connection.specs.World.{Row}
use Rattle.theory_connection.specs.Flight.{Rows, client_rows}
use Rattle.theory_recording.specs.Follows.{AllGoOn, knowledge}
use Rattle.theory_peers.specs.AcceptedEvent.{ServerMessage}
use Rattle.theory_peers.specs.ClientCalls.{AppendsRequests, ClientCalls, MakesClientRun}
use Rattle.theory_peers.specs.ClientCalls as calls
use Rattle.theory_peers.specs.ClientRun.{ClientRun}
use Rattle.theory_peers.specs.ClientRun as runs
use Rattle.theory_peers.specs.FollowsClient.{FollowsClient, MayBeAsked, after_telling, after_learning}
use Rattle.theory_peers.specs.FollowsServer.{IsPlacedIn}
use Rattle.theory_peers.specs.ReadByClient.{ReadsAsClientStep, SpellsEvent}
use Rattle.theory_peers.specs.WrittenByClient.{BindsAsStep, SendsRequestAsStep}
use Rattle.theory_peers.proofs.ClientSteps.{client_reads_step}
use Rattle.theory_peers.proofs.ClientVersions.{client_run_versions}
use Rattle.theory_peers.proofs.ClientWrites.{binds_step, sends_request_step}
use Rattle.theory_peers.proofs.RunOfClient.{client_run_follows}

-- a run, and what else holds
record GoesOnCalling (limit : ℕ) (tables : List Interface) (e : List Judged) (told : List ServerMessage)
    (written : List QueuedMessage) (state : State) : Type 0 where
  asked : List (Message Known)
  run : ClientRun limit tables e asked told (client_rows state.core.view) state.globals
  spelled : map spelled_meant asked ≡ written
  tables_are : state.core.tables ≡ tables

spelled_more : (asked : List (Message Known)) (m : Message Known)
    → map spelled_meant (asked ++ m ∷ []) ≡ map spelled_meant asked ++ spelled_meant m ∷ []
spelled_more [] m = refl
spelled_more (x ∷ asked) m = ap (λ (l : List QueuedMessage). spelled_meant x ∷ l) (spelled_more asked m)

-- what the state has in addition is what the run says
news_spelled : (asked : List (Message Known)) (m : Message Known) (written news before after : List QueuedMessage)
    → map spelled_meant asked ≡ written → after ≡ before ++ spelled_meant m ∷ [] → after ≡ before ++ news
    → map spelled_meant (asked ++ m ∷ []) ≡ written ++ news
news_spelled asked m written news before after s a b =
    spelled_more asked m ∙ ap (λ (l : List QueuedMessage). l ++ spelled_meant m ∷ []) s
    ∙ ap (λ (l : List QueuedMessage). written ++ l) (append_cancel_left before (spelled_meant m ∷ []) news (sym a ∙ b))

lives_on : {X : Type 0} (b : Bool) (o : Result X SendError) (x : X) → cond b (Err refusals.Failed) o ≡ Ok x → b ≡ false
lives_on true o x h = absurd (cc h)
lives_on false o x h = refl

sent_tables : (core : Core) (target : Object) (opcode : ℕ) (given : List Given) (r : Result MessageSignature SendError)
    → (after_checked core Request target opcode given r).tables ≡ core.tables
sent_tables core target opcode given (Err why) = refl
sent_tables core target opcode given (Ok signature) = refl

-- ---- each call

module _ (limit : ℕ) (tables : List Interface) (e : List Judged) where
  passed_one : (told : List ServerMessage) (sent : QueuedMessage) (written : List QueuedMessage) (state : State)
      (stream : List ℕ) (place tokens : ℕ) → GoesOnCalling limit tables e told (sent ∷ written) state
      → IsPlacedIn limit stream place ((knowledge tables e).taken ToServer) tokens sent
      → GoesOnCalling limit tables
      (e ++ judged limit tables (knowledge tables e) stream (framed ToServer tokens (span place (length sent.bytes))) ∷ [])
      told written state
  passed_one told sent written state stream place tokens g at = by_asked g.asked g.run g.spelled
    where
      by_asked : (asked : List (Message Known))
          → ClientRun limit tables e asked told (client_rows state.core.view) state.globals
          → map spelled_meant asked ≡ sent ∷ written
          → GoesOnCalling limit tables (e ++ judged limit tables (knowledge tables e) stream
          (framed ToServer tokens (span place (length sent.bytes))) ∷ []) told written state
      by_asked [] run h = absurd (cc h)
      by_asked (m ∷ asked) run h =
          let first : spelled_meant m ≡ sent = cc h in
          let rest : map spelled_meant asked ≡ written = cc h in
          record {
            asked = asked;
            run = subst (λ (q : QueuedMessage). ClientRun limit tables
                (e ++ judged limit tables (knowledge tables e) stream
                (framed ToServer tokens (span place (length q.bytes))) ∷ []) asked told (client_rows state.core.view)
                state.globals) first
                (runs.passes run stream place tokens (subst (λ (q : QueuedMessage). IsPlacedIn limit stream place
                ((knowledge tables e).taken ToServer) tokens q) (sym first) at));
            spelled = rest;
            tables_are = g.tables_are;
          }

-- the client reads an event
read_is : (limit : ℕ) (tables : List Interface) (e : List Judged) (s : ServerMessage) (told : List ServerMessage)
    (written : List QueuedMessage) (state : State) (n : ℕ) → Valid tables
    → GoesOnCalling limit tables e (s ∷ told) written state → ObjectsAreSound state.core.view
    → in_front state.core.inbox ≡ Whole n
    → SpellsEvent state.core.tables s.event (header_of state.core.inbox.bytes) (drop 8 (take n state.core.inbox.bytes))
    (length state.core.inbox.tokens)
    → ReadsAsClientStep state s
read_is limit tables e s told written state n v g sound front p =
    let own = sym g.tables_are in
    let follows = client_run_follows limit tables e g.asked (s ∷ told) (client_rows state.core.view) state.globals v g.run in
    client_reads_step state e g.asked s told n (subst Valid own v) sound
    (subst (λ (t : List Interface). FollowsClient t e g.asked (s ∷ told) (client_rows state.core.view) state.globals) own
    follows) front p

read_one : (limit : ℕ) (tables : List Interface) (e : List Judged) (s : ServerMessage) (told : List ServerMessage)
    (written : List QueuedMessage) (state : State) (it : Found)
    → GoesOnCalling limit tables e (s ∷ told) written state → ReadsAsClientStep state s
    → found state.core event_side ≡ Ok (Some it)
    → GoesOnCalling limit tables e told written (state_past state it)
read_one limit tables e s told written state it g r is =
    let both : Ok (Some r.it) ≡ Ok (Some it) = sym r.finds ∙ is in
    let same : r.it ≡ it = cc both in
    let rows : client_rows (state_past state it).core.view ≡ after_telling (client_rows state.core.view) s =
    ap (λ (f : Found). client_rows (state_past state f).core.view) (sym same) ∙ r.rows in
    let globals : (state_past state it).globals ≡ after_learning tables (client_rows state.core.view) s.event state.globals =
    ap (λ (f : Found). (state_past state f).globals) (sym same) ∙ r.globals
    ∙ ap (λ (t : List Interface). after_learning t (client_rows state.core.view) s.event state.globals) g.tables_are in
    record {
      asked = g.asked;
      run = subst (λ (v : Rows Row). ClientRun limit tables e g.asked told v (state_past state it).globals) (sym rows)
          (subst (λ (l : List Global). ClientRun limit tables e g.asked told (after_telling (client_rows state.core.view) s) l)
          (sym globals) (runs.takes g.run));
      spelled = g.spelled;
      tables_are = g.tables_are;
    }

sent_one : (limit : ℕ) (tables : List Interface) (e : List Judged) (told : List ServerMessage)
    (written : List QueuedMessage) (state : State) (target : Object) (opcode : ℕ) (given : List Given)
    (news : List QueuedMessage) → GoesOnCalling limit tables e told written state
    → SendsRequestAsStep state target opcode given
    → AppendsRequests state news (with_core state (after_send state.core Request target opcode given))
    → GoesOnCalling limit tables e told (written ++ news)
    (with_core state (after_send state.core Request target opcode given))
sent_one limit tables e told written state target opcode given news g s adds =
    let m = s.request in
    let may = subst (λ (t : List Interface). MayBeAsked t (client_rows state.core.view) state.globals m) g.tables_are s.may in
    record {
      asked = g.asked ++ m ∷ [];
      run = subst (λ (v : Rows Row). ClientRun limit tables e (g.asked ++ m ∷ []) told v state.globals) (sym s.rows)
          (runs.asks g.run m may);
      spelled = news_spelled g.asked m written news state.core.outbox.messages _ g.spelled s.writes adds;
      tables_are = sent_tables state.core target opcode given _ ∙ g.tables_are;
    }

bound_one : (limit : ℕ) (tables : List Interface) (e : List Judged) (told : List ServerMessage)
    (written : List QueuedMessage) (state : State) (target : Object) (name : ℕ) (iface : List ℕ) (version : ℕ)
    (news : List QueuedMessage) → GoesOnCalling limit tables e told written state
    → BindsAsStep state target name iface version
    → AppendsRequests state news (after_bind state target name iface version)
    → GoesOnCalling limit tables e told (written ++ news) (after_bind state target name iface version)
bound_one limit tables e told written state target name iface version news g s adds =
    let m = s.request in
    let may = subst (λ (t : List Interface). MayBeAsked t (client_rows state.core.view) state.globals m) g.tables_are s.may in
    record {
      asked = g.asked ++ m ∷ [];
      run = subst (λ (v : Rows Row). ClientRun limit tables e (g.asked ++ m ∷ []) told v state.globals) (sym s.rows)
          (runs.asks g.run m may);
      spelled = news_spelled g.asked m written news state.core.outbox.messages _ g.spelled s.writes adds;
      tables_are = g.tables_are;
    }

-- ---- any calls

goes_on_calling : (limit : ℕ) (tables : List Interface) (e : List Judged) (told : List ServerMessage)
    (written : List QueuedMessage) (state : State) → Valid tables → ClientCalls limit tables e told written state
    → GoesOnCalling limit tables e told written state
goes_on_calling limit tables _ _ _ _ v (calls.new sizes) =
    record { asked = []; run = runs.new sizes; spelled = refl; tables_are = refl }
goes_on_calling limit tables _ _ _ _ v (calls.comes {e} {told} {written} {state} c call is) =
    let g = goes_on_calling limit tables e told written state v c in
    record { asked = g.asked; run = runs.comes g.run call is; spelled = g.spelled; tables_are = g.tables_are }
goes_on_calling limit tables _ _ _ _ v (calls.passes {e} {told} {sent} {written} {state} c stream place tokens at) =
    passed_one limit tables e told sent written state stream place tokens
    (goes_on_calling limit tables e told (sent ∷ written) state v c) at
goes_on_calling limit tables _ _ _ _ v (calls.carries {e} {told} {written} {state} c inbox outbox) =
    let g = goes_on_calling limit tables e told written state v c in
    record { asked = g.asked; run = g.run; spelled = g.spelled; tables_are = g.tables_are }
goes_on_calling limit tables _ _ _ _ v
    (calls.takes {e} {s} {told} {written} {state} c sound n front p it is) =
    let g = goes_on_calling limit tables e (s ∷ told) written state v c in
    read_one limit tables e s told written state it g
    (read_is limit tables e s told written state n v g sound front p) is
goes_on_calling limit tables _ _ _ _ v
    (calls.sends {e} {told} {written} {state} c sound target opcode given new_object fit is news adds) =
    let g = goes_on_calling limit tables e told written state v c in
    let lives = lives_on state.core.failed _ new_object is in
    sent_one limit tables e told written state target opcode given news g
    (sends_request_step state target opcode given new_object (subst Valid (sym g.tables_are) v) sound lives fit is) adds
goes_on_calling limit tables _ _ _ _ v
    (calls.binds {e} {told} {written} {state} c sound target name iface version new_object low small is news adds) =
    let g = goes_on_calling limit tables e told written state v c in
    let lives = lives_on state.core.failed (bind_at state name iface version (live_row state.core.view target)) new_object
    is in
    let versions = client_run_versions limit tables e g.asked told (client_rows state.core.view) state.globals v g.run in
    bound_one limit tables e told written state target name iface version news g
    (binds_step state target name iface version new_object (subst Valid (sym g.tables_are) v) sound versions lives low small
    is) adds

pub client_calls_run : (limit : ℕ) (tables : List Interface) (e : List Judged) (told : List ServerMessage)
    (written : List QueuedMessage) (state : State) → Valid tables → ClientCalls limit tables e told written state
    → MakesClientRun limit tables e told written state
client_calls_run limit tables e told written state v c =
    let g = goes_on_calling limit tables e told written state v c in
    record { asked = g.asked; run = g.run; spelled = g.spelled }

pub client_calls_keep : (limit : ℕ) (tables : List Interface) (e : List Judged) (told : List ServerMessage)
    (written : List QueuedMessage) (state : State) → Valid tables → ClientCalls limit tables e told written state
    → AllGoOn e
client_calls_keep limit tables e told written state v c =
    let g = goes_on_calling limit tables e told written state v c in
    (client_run_follows limit tables e g.asked told (client_rows state.core.view) state.globals v g.run).passed

pub client_calls_read : (limit : ℕ) (tables : List Interface) (e : List Judged) (s : ServerMessage)
    (told : List ServerMessage) (written : List QueuedMessage) (state : State) (n : ℕ) → Valid tables
    → ClientCalls limit tables e (s ∷ told) written state → ObjectsAreSound state.core.view
    → in_front state.core.inbox ≡ Whole n
    → SpellsEvent state.core.tables s.event (header_of state.core.inbox.bytes) (drop 8 (take n state.core.inbox.bytes))
    (length state.core.inbox.tokens)
    → ReadsAsClientStep state s
client_calls_read limit tables e s told written state n v c sound front p =
    read_is limit tables e s told written state n v
    (goes_on_calling limit tables e (s ∷ told) written state v c) sound front p
