-- After an error was posted, the server refuses each call; after the client has read it, so does the
-- client.
use Rattle.std.proofs.Common.{◌≡◌, ◌≢◌, ℕ, Bool, true, List, [], ◌++◌, map, min, refl, sym, ap, subst, ◌∙◌, arith}
use Rattle.std.specs.Prelude.{IsOk}
use Rattle.std.specs.declared.option.Option.{Option}
use Rattle.std.specs.declared.option.Option.TheVariants.{Some}
use Rattle.std.specs.declared.result.Result.{Result}
use Rattle.std.specs.declared.result.Result.TheVariants.{Err}
use Rattle.wl_message.specs.declared.amounts.Amounts.{Amounts}
use Rattle.wl_object_map.specs.declared.object.Object.{Object}
use Rattle.wl_objects.specs.declared.error.SendError.{SendError}
use Rattle.wl_objects.specs.declared.error.SendError.TheVariants as refusals
use Rattle.wl_wire.specs.declared.kind.Iface.{Iface}
use Rattle.wl_objects.specs.Writing.{Given}
use Rattle.wl_objects.specs.declared.error.NextError.{NextError}
use Rattle.wl_objects.specs.declared.error.NextError.TheVariants as errors
use Rattle.wl_connection.specs.Core.{Core, in_room, no_room}
use Rattle.wl_client.specs.Reports as events
use Rattle.wl_server.specs.declared.globals.GlobalError.{GlobalError}
use Rattle.wl_server.specs.declared.globals.GlobalError.TheVariants as global_errors
use Rattle.wl_server.specs.Requests as requests
use Rattle.theory_connection.specs.Meant.{Known, Message, Coming, spelled_meant}
use Rattle.theory_connection.specs.World.{World, Posted, Stage, Running, Failing, has_error, is_over}
use Rattle.theory_connection.specs.Pair.{PairState, Move, Reply, ClientSend, ClientBind, ServerSend}
use Rattle.theory_connection.specs.Pair.{ServerDrop, PostError, AddGlobal, Withdraw, Announce}
use Rattle.theory_connection.specs.Pair.{CarryToServer, CarryToClient, ClientNext, ServerNext, Does}
use Rattle.theory_connection.specs.Pair.{Writes, Calls, Adds, Announces, Nexts, Carries, CarryOutcome, Moved, carries}
use Rattle.theory_connection.specs.Pair.{accepted, refused, no_memory, no_memory_to_open, done, added, announced}
use Rattle.theory_connection.specs.Pair.{answered, moved, with_client, with_server}
use Rattle.theory_connection.specs.Answers.{Means, IsRefusedIn, IsRefusedAtServer, IsRefusedAtClient}
use Rattle.theory_connection.specs.Stands.{Stands, over, StandsBy, StandsOver, ErrorComes, quiet, comes}
use Rattle.theory_connection.specs.Flight.{server_rows}
use Rattle.theory_connection.specs.Runs.{Keeps}
use Rattle.theory_connection.proofs.Carries.{carry_fits, flies, to_server_stands}
use Rattle.theory_connection.proofs.Moves.{Moves, Outcome, goes_on, stays, carrying_to_server}

-- ---- what a failed end returns

by_write : (answer : Result (Option Object) SendError) (opens : Bool) (p q : PairState)
    (reply : Result (Option Object) SendError) (p' : PairState) → answer ≡ Err refusals.Failed
    → Writes answer opens p q reply p' → (reply ≡ Err refusals.Failed) × (p' ≡ p)
by_write answer opens p q reply p' f (accepted h) = absurd (cc (f, h))
by_write answer opens p q reply p' f (refused h) = (sym h ∙ f, refl)
by_write answer opens p q reply p' f (no_memory h o) = absurd (cc (f, h))

by_call : {E : Type 0} (refusal : Option E) (failed : E) (p q : PairState) (reply : Result (Unit {0}) E)
    (p' : PairState) → refusal ≡ Some failed → Calls refusal p q reply p' → (reply ≡ Err failed) × (p' ≡ p)
by_call refusal failed p q reply p' f (done h) = absurd (cc (f, h))
by_call refusal failed p q reply p' f (refused {why = why} h) =
    (let e : why ≡ failed = cc (f, h) in ap Err e, refl)

by_add : (refusal : Option GlobalError) (name : ℕ) (p q : PairState) (reply : Result ℕ GlobalError) (p' : PairState)
    → refusal ≡ Some global_errors.Failed → Adds refusal name p q reply p'
    → (reply ≡ Err global_errors.Failed) × (p' ≡ p)
by_add refusal name p q reply p' f (added h) = absurd (cc (f, h))
by_add refusal name p q reply p' f (refused {why = why} h) =
    (let e : why ≡ global_errors.Failed = cc (f, h) in ap Err e, refl)
by_add refusal name p q reply p' f (no_memory h) = absurd (cc (f, h))

by_announce : (p : PairState) (reply : Result ℕ SendError) (p' : PairState) → p.server.core.failed ≡ true
    → Announces p reply p' → (reply ≡ Err refusals.Failed) × (p' ≡ p)
by_announce p reply p' f (announced l k) = absurd (cc (f, l))
by_announce p reply p' f (refused l) = (refl, refl)

by_next : {R : Type 0} (needs : R → Bool) (opens : Bool) (answer : Result (Option R) NextError) (p q : PairState)
    (reply : Result (Option R) NextError) (p' : PairState) → answer ≡ Err errors.Failed → q ≡ p
    → Nexts needs opens answer p q reply p' → (reply ≡ Err errors.Failed) × (p' ≡ p)
by_next needs opens answer p q reply p' f e answered = (f, e)
by_next needs opens answer p q reply p' f e (no_memory h o) = absurd (cc (f, h))
by_next needs opens answer p q reply p' f e (no_memory_to_open h o) = absurd (let k = subst IsOk f h in cc k)

-- a failed end takes nothing
pub carries_none : (from to : Core) (most : ℕ) → to.failed ≡ true → carries from to most ≡ no_room
carries_none from to most f =
    let k = carry_fits from to most in
    let room : in_room to ≡ no_room = rw f refl in
    let bytes : (carries from to most).bytes ≡ 0 =
    (let h = k.bytes in let r = ap (λ (a : Amounts). a.bytes) room in omega (arith, h, r)) in
    let tokens : (carries from to most).tokens ≡ 0 =
    (let h = k.tokens in let r = ap (λ (a : Amounts). a.tokens) room in omega (arith, h, r)) in
    λ i. record { bytes = bytes i; tokens = tokens i }

by_carry : (taken : Amounts) (p q : PairState) (reply : CarryOutcome) (p' : PairState) → taken ≡ no_room
    → Carries taken p q reply p' → (reply ≡ Moved no_room) × (p' ≡ q)
by_carry taken p q reply p' f moved = (ap Moved f, refl)
by_carry taken p q reply p' f (no_memory h) =
    absurd (let l = ap (λ (a : Amounts). a.bytes) f in omega (arith, h, l))

-- a failed end refused a call, which left the pair as it was
pub record Refused (p : PairState) (w : World) (move : Move) (reply : Reply) (p' : PairState) : Type 0 where
  pub at_server : IsRefusedAtServer reply
  pub at_client : IsRefusedAtClient reply
  pub means : Means p w move reply w
  pub stays_so : p' ≡ p

not_running : (w : World) → has_error w.stage ≡ true → w.stage ≢ Running
not_running w f e = absurd (let k = ap has_error e in cc (k, f))

-- each call of a failed server
module _ (p : PairState) (w : World) (f : p.server.core.failed ≡ true) (z : has_error w.stage ≡ true) where
  pub server_send_refused : (target : Object) (opcode : ℕ) (given : List Given) (reply : Result (Option Object) SendError) (p' : PairState)
      → Does p (ServerSend target opcode given) (ServerSend reply) p' → Refused p w (ServerSend target opcode given) (ServerSend reply) p'
  server_send_refused target opcode given reply p' d =
      let e = by_write _ _ p _ reply p' (rw f refl) d in
      record {
        at_server = e.0;
        at_client = tt;
        means = subst (λ r. Means p w (ServerSend target opcode given) (ServerSend r) w) (sym e.0) refl;
        stays_so = e.1;
      }

  pub server_drop_refused : (object : Object) (reply : Result (Unit {0}) SendError) (p' : PairState)
      → Does p (ServerDrop object) (ServerDrop reply) p' → Refused p w (ServerDrop object) (ServerDrop reply) p'
  server_drop_refused object reply p' d =
      let e = by_call _ refusals.Failed p _ reply p' (rw f refl) d in
      record {
        at_server = e.0;
        at_client = tt;
        means = subst (λ r. Means p w (ServerDrop object) (ServerDrop r) w) (sym e.0) refl;
        stays_so = e.1;
      }

  pub post_error_refused : (object : Object) (code : ℕ) (text : List ℕ) (reply : Result (Unit {0}) SendError) (p' : PairState)
      → Does p (PostError object code text) (PostError reply) p' → Refused p w (PostError object code text) (PostError reply) p'
  post_error_refused object code text reply p' d =
      let e = by_call _ refusals.Failed p _ reply p' (rw f refl) d in
      record {
        at_server = e.0;
        at_client = tt;
        means = subst (λ r. Means p w (PostError object code text) (PostError r) w) (sym e.0) refl;
        stays_so = e.1;
      }

  pub add_global_refused : (iface : Iface) (version : ℕ) (reply : Result ℕ GlobalError) (p' : PairState)
      → Does p (AddGlobal iface version) (AddGlobal reply) p' → Refused p w (AddGlobal iface version) (AddGlobal reply) p'
  add_global_refused iface version reply p' d =
      let e = by_add _ _ p _ reply p' (rw f refl) d in
      record {
        at_server = e.0;
        at_client = tt;
        means = subst (λ r. Means p w (AddGlobal iface version) (AddGlobal r) w) (sym e.0) refl;
        stays_so = e.1;
      }

  pub withdraw_refused : (name : ℕ) (reply : Result (Unit {0}) GlobalError) (p' : PairState)
      → Does p (Withdraw name) (Withdraw reply) p' → Refused p w (Withdraw name) (Withdraw reply) p'
  withdraw_refused name reply p' d =
      let e = by_call _ global_errors.Failed p _ reply p' (rw f refl) d in
      record {
        at_server = e.0;
        at_client = tt;
        means = subst (λ r. Means p w (Withdraw name) (Withdraw r) w) (sym e.0) refl;
        stays_so = e.1;
      }

  pub announce_refused : (reply : Result ℕ SendError) (p' : PairState)
      → Does p Announce (Announce reply) p' → Refused p w Announce (Announce reply) p'
  announce_refused reply p' d =
      let e = by_announce p reply p' f d in
      record {
        at_server = e.0;
        at_client = tt;
        means = subst (λ r. Means p w Announce (Announce r) w) (sym e.0) refl;
        stays_so = e.1;
      }

  pub server_next_refused : (reply : Result (Option requests.Report) NextError) (p' : PairState)
      → Does p ServerNext (ServerNext reply) p' → Refused p w ServerNext (ServerNext reply) p'
  server_next_refused reply p' d =
      let e = by_next _ _ _ p _ reply p' (rw f refl) (ap (with_server p) (rw f refl)) d in
      record {
        at_server = e.0;
        at_client = tt;
        means = subst (λ r. Means p w ServerNext (ServerNext r) w) (sym e.0) (not_running w z, refl);
        stays_so = e.1;
      }

-- each call of a failed client
module _ (p : PairState) (w : World) (f : p.client.core.failed ≡ true) (z : is_over w.stage ≡ true) where
  pub client_send_refused : (target : Object) (opcode : ℕ) (given : List Given) (reply : Result (Option Object) SendError) (p' : PairState)
      → Does p (ClientSend target opcode given) (ClientSend reply) p' → Refused p w (ClientSend target opcode given) (ClientSend reply) p'
  client_send_refused target opcode given reply p' d =
      let e = by_write _ _ p _ reply p' (rw f refl) d in
      record {
        at_server = tt;
        at_client = e.0;
        means = subst (λ r. Means p w (ClientSend target opcode given) (ClientSend r) w) (sym e.0) refl;
        stays_so = e.1;
      }

  pub client_bind_refused : (target : Object) (name : ℕ) (iface : List ℕ) (version : ℕ) (reply : Result (Option Object) SendError) (p' : PairState)
      → Does p (ClientBind target name iface version) (ClientBind reply) p' → Refused p w (ClientBind target name iface version) (ClientBind reply) p'
  client_bind_refused target name iface version reply p' d =
      let e = by_write _ _ p _ reply p' (rw f refl) d in
      record {
        at_server = tt;
        at_client = e.0;
        means = subst (λ r. Means p w (ClientBind target name iface version) (ClientBind r) w) (sym e.0) refl;
        stays_so = e.1;
      }

  pub client_next_refused : (reply : Result (Option events.Report) NextError) (p' : PairState)
      → Does p ClientNext (ClientNext reply) p' → Refused p w ClientNext (ClientNext reply) p'
  client_next_refused reply p' d =
      let e = by_next _ _ _ p _ reply p' (rw f refl) (ap (with_client p) (rw f refl)) d in
      record {
        at_server = tt;
        at_client = e.0;
        means = subst (λ r. Means p w ClientNext (ClientNext r) w) (sym e.0) (z, refl);
        stays_so = e.1;
      }

-- ---- the moves after an error was posted

-- by whether an error was posted
pub at_stage : {A : Type 0} {p : PairState} {w : World} {asked : List (Message Known)} {told : List (Coming Known)}
    → StandsBy p w asked told → (w.stage ≡ Running → A) → ((e : Posted) → w.stage ≡ Failing e → A) → A
at_stage {A} {p} {w} s f g = by_error s.error
  where
    by_error : ErrorComes w.stage p.ended_at (server_rows p.server.core.view) s.behind → A
    by_error (quiet z m b) = f z
    by_error (comes e id z m b a) = g e z

-- a call that the failed server refused
pub refused_keeps : (p : PairState) (w : World) (asked : List (Message Known)) (told : List (Coming Known))
    → StandsBy p w asked told → (e : Posted) → w.stage ≡ Failing e → (move : Move) (reply : Reply) (p' : PairState)
    → Does p move reply p' → Refused p w move reply p' → Moves p w asked told move reply p'
refused_keeps p w asked told s e z move reply p' d r = record {
  world = w;
  answers = record {
    does = d;
    means = r.means;
    refused = subst (λ (x : Stage). IsRefusedIn x reply) (sym z) r.at_server;
  };
  outcome = subst (λ (q : PairState). Outcome p asked told q w) (sym r.stays_so) (goes_on asked told s stays);
}

-- a carry to the failed server
pub carry_refused : (p : PairState) (w : World) (asked : List (Message Known)) (told : List (Coming Known))
    → StandsBy p w asked told → (e : Posted) → w.stage ≡ Failing e → p.server.core.failed ≡ true
    → (most : ℕ) (reply : CarryOutcome) (p' : PairState) → Does p (CarryToServer most) (CarryToServer reply) p'
    → Moves p w asked told (CarryToServer most) (CarryToServer reply) p'
carry_refused p w asked told s e z f most reply p' d =
    let r = by_carry _ p _ reply p' (carries_none p.client.core p.server.core most f) d in
    record {
      world = w;
      answers = record {
        does = d;
        means = refl;
        refused = subst (λ (x : Stage). IsRefusedIn x (CarryToServer reply)) (sym z) r.0;
      };
      outcome = subst (λ (q : PairState). Outcome p asked told q w) (sym r.1)
          (goes_on asked told (to_server_stands p w asked told most s) (carrying_to_server most));
    }

-- ---- the moves after the client has read the error

over_refused : (p : PairState) (w : World) (asked : List (Message Known)) → StandsOver p w asked → (move : Move) (reply : Reply) (p' : PairState)
    → Does p move reply p' → Refused p w move reply p' → Keeps p w move reply p'
over_refused p w asked o move reply p' d r =
    let stage = o.stage in
    record {
      world = w;
      answers = record {
        does = d;
        means = r.means;
        refused = subst (λ (x : Stage). IsRefusedIn x reply) (sym stage) (r.at_server, r.at_client);
      };
      stands = subst (λ (q : PairState). Stands q w) (sym r.stays_so) (over asked o);
    }

-- after the client has read the error, each move is refused
pub over_keeps : (p : PairState) (w : World) (asked : List (Message Known)) → StandsOver p w asked → (move : Move) (reply : Reply) (p' : PairState)
    → Does p move reply p' → Keeps p w move reply p'
over_keeps p w asked o (ClientSend target opcode given) (ClientSend reply) p' d =
    over_refused p w asked o (ClientSend target opcode given) (ClientSend reply) p' d
    (client_send_refused p w o.client_failed (ap is_over o.stage) target opcode given reply p' d)
over_keeps p w asked o (ClientBind target name iface version) (ClientBind reply) p' d =
    over_refused p w asked o (ClientBind target name iface version) (ClientBind reply) p' d
    (client_bind_refused p w o.client_failed (ap is_over o.stage) target name iface version reply p' d)
over_keeps p w asked o ClientNext (ClientNext reply) p' d =
    over_refused p w asked o ClientNext (ClientNext reply) p' d
    (client_next_refused p w o.client_failed (ap is_over o.stage) reply p' d)
over_keeps p w asked o (ServerSend target opcode given) (ServerSend reply) p' d =
    over_refused p w asked o (ServerSend target opcode given) (ServerSend reply) p' d
    (server_send_refused p w o.server_failed (ap has_error o.stage) target opcode given reply p' d)
over_keeps p w asked o (ServerDrop object) (ServerDrop reply) p' d =
    over_refused p w asked o (ServerDrop object) (ServerDrop reply) p' d
    (server_drop_refused p w o.server_failed (ap has_error o.stage) object reply p' d)
over_keeps p w asked o (PostError object code text) (PostError reply) p' d =
    over_refused p w asked o (PostError object code text) (PostError reply) p' d
    (post_error_refused p w o.server_failed (ap has_error o.stage) object code text reply p' d)
over_keeps p w asked o (AddGlobal iface version) (AddGlobal reply) p' d =
    over_refused p w asked o (AddGlobal iface version) (AddGlobal reply) p' d
    (add_global_refused p w o.server_failed (ap has_error o.stage) iface version reply p' d)
over_keeps p w asked o (Withdraw name) (Withdraw reply) p' d =
    over_refused p w asked o (Withdraw name) (Withdraw reply) p' d
    (withdraw_refused p w o.server_failed (ap has_error o.stage) name reply p' d)
over_keeps p w asked o Announce (Announce reply) p' d =
    over_refused p w asked o Announce (Announce reply) p' d
    (announce_refused p w o.server_failed (ap has_error o.stage) reply p' d)
over_keeps p w asked o ServerNext (ServerNext reply) p' d =
    over_refused p w asked o ServerNext (ServerNext reply) p' d
    (server_next_refused p w o.server_failed (ap has_error o.stage) reply p' d)
over_keeps p w asked o (CarryToServer most) (CarryToServer reply) p' d =
    let r = by_carry _ p _ reply p' (carries_none p.client.core p.server.core most o.server_failed) d in
    let stage = o.stage in
    record {
      world = w;
      answers = record {
        does = d;
        means = refl;
        refused = subst (λ (x : Stage). IsRefusedIn x (CarryToServer reply)) (sym stage) (r.0, tt);
      };
      stands = subst (λ (q : PairState). Stands q w) (sym r.1) (over asked (record {
        error = o.error;
        stage = o.stage;
        mark = o.mark;
        client_failed = o.client_failed;
        server_failed = o.server_failed;
        client = o.client;
        server = o.server;
        requests = record {
          in_world = o.requests.in_world;
          in_boxes = flies p.client.core.outbox p.server.core.inbox (map spelled_meant asked ++ [])
              (min most (in_room p.server.core).bytes) (in_room p.server.core).tokens o.requests.in_boxes;
          fit = o.requests.fit;
        };
        meet = o.meet;
      }));
    }
over_keeps p w asked o (CarryToClient most) (CarryToClient reply) p' d =
    let r = by_carry _ p _ reply p' (carries_none p.server.core p.client.core most o.client_failed) d in
    let stage = o.stage in
    record {
      world = w;
      answers = record {
        does = d;
        means = refl;
        refused = subst (λ (x : Stage). IsRefusedIn x (CarryToClient reply)) (sym stage) (tt, r.0);
      };
      stands = subst (λ (q : PairState). Stands q w) (sym r.1) (over asked (record {
        error = o.error;
        stage = o.stage;
        mark = o.mark;
        client_failed = o.client_failed;
        server_failed = o.server_failed;
        client = o.client;
        server = o.server;
        requests = o.requests;
        meet = o.meet;
      }));
    }
over_keeps p w asked o _ _ p' d = absurd d
