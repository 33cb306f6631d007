-- The result of an end's call, and what it leaves, as a call of the pair. f puts the end into it.
use Rattle.std.proofs.Common.{◌≡◌, ℕ, Bool, true, false, cond, inl, inr, refl, sym, ap, ◌∙◌, subst}
use Rattle.std.proofs.Common.{List, length, OnOk, OnErr, IsOk, IfOk, IfErr, IsErrAnd, is_some}
use Rattle.std.specs.declared.option.Option.{Option}
use Rattle.std.specs.declared.option.Option.TheVariants.{None, Some}
use Rattle.std.specs.declared.result.Result.{Result}
use Rattle.std.specs.declared.result.Result.TheVariants.{Ok, Err}
use Rattle.wl_object_map.specs.declared.object.Object.{Object}
use Rattle.wl_objects.specs.declared.error.SendError.{SendError}
use Rattle.wl_objects.specs.declared.error.SendError.TheVariants as refusals
use Rattle.wl_objects.specs.declared.error.NextError.{NextError}
use Rattle.wl_objects.specs.declared.error.NextError.TheVariants as errors
use Rattle.wl_objects.specs.declared.error.Fault.{Fault}
use Rattle.wl_sigs.specs.Side.TheVariants.{Event as event_side}
use Rattle.wl_connection.specs.Core.{Core}
use Rattle.wl_connection.specs.Receiving.{Found, found}
use Rattle.wl_connection.specs.Roles.{front_answer}
use Rattle.wl_connection.specs.Outcomes.{AnswersOrMemory, answers_with, unless_memory, refusal_in, some_object}
use Rattle.wl_client.specs.State as client
use Rattle.wl_client.specs.Reports as events
use Rattle.wl_server.specs.State as server
use Rattle.wl_server.specs.Requests as requests
use Rattle.wl_server.specs.declared.globals.GlobalError.{GlobalError}
use Rattle.wl_server.specs.declared.globals.GlobalError.TheVariants as global_errors
use Rattle.wl_server.specs.Calls.{ok_unless_refused, error_refusal, after_error}
use Rattle.wl_server.specs.Announcing.{Fitting, after_announce}
use Rattle.wl_server.specs.declared.announce.Announced.{Announced}
use Rattle.wl_connection.proofs.ReceivedMessage.{some_report}
use Rattle.theory_connection.specs.Pair.{PairState, with_server, ended_mark, after_post, Writes, Calls}
use Rattle.std.specs.Prelude.{◌||◌}
use Rattle.std.proofs.lemmas.Bool.{or_left}
use Rattle.theory_connection.specs.Pair.{Adds, Announces, Nexts, accepted, refused, no_memory, no_memory_to_open, done}
use Rattle.wl_session.specs.Meaning.{counted}
use Rattle.theory_connection.specs.Pair.{added, announced, answered}

-- ---- a write

accepts : {S : Type 0} (f : S → PairState) (answer : Result (Option Object) SendError) (opens : Bool)
    (before after now : S) (new : Option Object)
    → AnswersOrMemory refusals.Memory opens answer (Ok new) → now ≡ after
    → Writes answer opens (f before) (f after) (Ok new) (f now)
accepts {S = S} f answer opens before after now new (inl e) h =
    subst (λ (s : S). Writes answer opens (f before) (f after) (Ok new) (f s)) (sym h) (accepted (sym e))
accepts f answer opens before after now new (inr k) h = absurd (cc k.0)

wants : (answer : Result (Option Object) SendError) (opens : Bool) (p after : PairState) → opens ≡ true → IsOk answer
    → Writes answer opens p after (Err refusals.Memory) p
wants (Ok new) opens p after o k = no_memory refl o
wants (Err why) opens p after o k = absurd (cc k)

refuses : {S : Type 0} (f : S → PairState) (answer : Result (Option Object) SendError) (opens : Bool)
    (before after now : S) (why : SendError)
    → AnswersOrMemory refusals.Memory opens answer (Err why) → now ≡ before
    → Writes answer opens (f before) (f after) (Err why) (f now)
refuses {S = S} f answer opens before after now why (inl e) h =
    subst (λ (s : S). Writes answer opens (f before) (f after) (Err why) (f s)) (sym h) (refused (sym e))
refuses {S = S} f answer opens before after now why (inr k) h =
    let same : refusals.Memory ≡ why = cc k.0 in
    subst (λ (s : S). Writes answer opens (f before) (f after) (Err why) (f s)) (sym h)
    (subst (λ (r : SendError). Writes answer opens (f before) (f after) (Err r) (f before)) same
    (wants answer opens (f before) (f after) k.1 k.2))

pub writes : {S : Type 0} (f : S → PairState) (answer : Result (Option Object) SendError) (opens : Bool)
    (before after now : S) (result : Result (Option Object) SendError)
    → AnswersOrMemory refusals.Memory opens answer result → OnOk result (now ≡ after) → OnErr result (now ≡ before)
    → Writes answer opens (f before) (f after) result (f now)
writes f answer opens before after now (Ok new) g ok err = accepts f answer opens before after now new g ok
writes f answer opens before after now (Err why) g ok err = refuses f answer opens before after now why g err

pub binds : {S : Type 0} (f : S → PairState) (answer : Result (Option Object) SendError) (before after now : S)
    (result : Result Object SendError)
    → AnswersOrMemory refusals.Memory true answer (some_object result) → OnOk result (now ≡ after)
    → OnErr result (now ≡ before) → Writes answer true (f before) (f after) (some_object result) (f now)
binds f answer before after now (Ok new) g ok err = accepts f answer true before after now (Some new) g ok
binds f answer before after now (Err why) g ok err = refuses f answer true before after now why g err

-- ---- a call that returns no value

pub calls : {S E : Type 0} (f : S → PairState) (refusal : Option E) (before after now : S)
    (result : Result (Unit {0}) E)
    → refusal_in result ≡ refusal → OnOk result (now ≡ after) → OnErr result (now ≡ before)
    → Calls refusal (f before) (f after) result (f now)
calls {S = S} {E = E} f refusal before after now (Ok x) a ok err =
    subst (λ (s : S). Calls {E = E} refusal (f before) (f after) (Ok x) (f s)) (sym ok) (done (sym a))
calls {S = S} {E = E} f refusal before after now (Err why) a ok err =
    subst (λ (s : S). Calls {E = E} refusal (f before) (f after) (Err why) (f s)) (sym err) (refused (sym a))

-- ---- a global

why_refused : (refusal : Option GlobalError) (name : ℕ) (why : GlobalError) → ok_unless_refused refusal name ≡ Err why
    → refusal ≡ Some why
why_refused None name why h = absurd (cc h)
why_refused (Some other) name why h = let e : other ≡ why = cc h in cc e

not_refused : (refusal : Option GlobalError) (name : ℕ) → IsOk (ok_unless_refused refusal name) → refusal ≡ None
not_refused None name h = refl
not_refused (Some why) name h = absurd (cc h)

name_given : (refusal : Option GlobalError) (name given : ℕ) → ok_unless_refused refusal name ≡ Ok given
    → (refusal ≡ None) × (name ≡ given)
name_given None name given h = (refl, cc h)
name_given (Some why) name given h = absurd (cc h)

pub adds : {S : Type 0} (f : S → PairState) (refusal : Option GlobalError) (name : ℕ) (before after now : S)
    (result : Result ℕ GlobalError)
    → AnswersOrMemory global_errors.Memory true (ok_unless_refused refusal name) result → OnOk result (now ≡ after)
    → OnErr result (now ≡ before) → Adds refusal name (f before) (f after) result (f now)
adds {S = S} f refusal name before after now (Ok given) (inl e) ok err =
    let k = name_given refusal name given (sym e) in
    subst (λ (s : S). Adds refusal name (f before) (f after) (Ok given) (f s)) (sym ok)
    (subst (λ (n : ℕ). Adds refusal name (f before) (f after) (Ok n) (f after)) k.1 (added k.0))
adds f refusal name before after now (Ok given) (inr k) ok err = absurd (cc k.0)
adds {S = S} f refusal name before after now (Err why) (inl e) ok err =
    subst (λ (s : S). Adds refusal name (f before) (f after) (Err why) (f s)) (sym err)
    (refused (why_refused refusal name why (sym e)))
adds {S = S} f refusal name before after now (Err why) (inr k) ok err =
    let same : global_errors.Memory ≡ why = cc k.0 in
    subst (λ (s : S). Adds refusal name (f before) (f after) (Err why) (f s)) (sym err)
    (subst (λ (r : GlobalError). Adds refusal name (f before) (f after) (Err r) (f before)) same
    (no_memory (not_refused refusal name k.2)))

-- ---- announcing

pub announces : (p : PairState) (now : server.State) (result : Result Announced SendError)
    → IfOk result (λ told. (p.server.core.failed ≡ false) × Fitting p.server told.count
    × (now ≡ after_announce p.server told.count))
    → IfErr result (λ why. (why ≡ refusals.Failed) × (p.server.core.failed ≡ true) × (now ≡ p.server))
    → Announces p (counted result) (with_server p now)
announces p now (Ok told) ok err =
    subst (λ (s : server.State). Announces p (Ok told.count) (with_server p s)) (sym ok.2) (announced ok.0 ok.1)
announces p now (Err why) ok err =
    subst (λ (s : server.State). Announces p (Err why) (with_server p s)) (sym err.2)
    (subst (λ (r : SendError). Announces p (Err r) p) (sym err.0) (refused err.1))

-- ---- an error

pub posts : (p : PairState) (object : Object) (code : ℕ) (text : List ℕ) (now : server.State) (mark : Option ℕ)
    → None ≡ error_refusal p.server.core object text
    → now ≡ server.with_core p.server (after_error p.server.core object code text)
    → mark ≡ ended_mark p.ended_at (length p.recording)
    → Calls (error_refusal p.server.core object text) p (after_post p object code text) (Ok tt)
    (record { client = p.client; server = now; recording = p.recording; ended_at = mark })
posts p object code text now mark a e m =
    subst (λ (s : server.State). Calls (error_refusal p.server.core object text) p (after_post p object code text)
    (Ok tt) (record { client = p.client; server = s; recording = p.recording; ended_at = mark })) (sym e)
    (subst (λ (o : Option ℕ). Calls (error_refusal p.server.core object text) p (after_post p object code text) (Ok tt)
    (record {
      client = p.client;
      server = server.with_core p.server (after_error p.server.core object code text);
      recording = p.recording;
      ended_at = o;
    })) (sym m)
    (done (sym a)))

pub fails : {S E : Type 0} (f : S → PairState) (refusal : Option E) (before now : S) (after : PairState) (why : E)
    (result : Result (Unit {0}) E)
    → Some why ≡ refusal → now ≡ before → IsErrAnd result (λ e. e ≡ why) → Calls refusal (f before) after result (f now)
fails f refusal before now after why (Ok x) a e r = absurd r
fails {S = S} {E = E} f refusal before now after why (Err other) a e r =
    subst (λ (s : S). Calls {E = E} refusal (f before) after (Err other) (f s)) (sym e)
    (subst (λ (x : E). Calls {E = E} refusal (f before) after (Err x) (f before)) (sym r) (refused (sym a)))

pub marks_first : (o : Option ℕ) (count : ℕ) → is_some o ≡ false → Some count ≡ ended_mark o count
marks_first None count h = refl
marks_first (Some first) count h = absurd (cc h)

pub marks_no_more : (o : Option ℕ) (count : ℕ) → is_some o ≡ true → o ≡ ended_mark o count
marks_no_more None count h = absurd (cc h)
marks_no_more (Some first) count h = refl

-- ---- a read

left_is : {S R : Type 0} (before after : S) (r : Result (Option R) NextError) → (r ≡ Err errors.Memory → ⊥)
    → unless_memory before after r ≡ after
left_is before after (Ok x) h = refl
left_is before after (Err (errors.Fault what offset)) h = refl
left_is before after (Err errors.Failed) h = refl
left_is before after (Err errors.Memory) h = absurd (h refl)
left_is before after (Err errors.OutFull) h = refl

-- memory was needed: for the report, or to open an object
wanted : {R : Type 0} (needs : R → Bool) (reports opens : Bool) (answer : Result (Option R) NextError)
    (before after : PairState) → answers_with needs answer ≡ reports → IsOk answer → (reports || opens) ≡ true
    → Nexts needs opens answer before after (Err errors.Memory) before
wanted needs true opens answer before after e ok w =
    let some = some_report needs answer e in no_memory some.1 some.2
wanted needs false opens answer before after e ok w = no_memory_to_open ok w

pub nexts : {S R : Type 0} (f : S → PairState) (needs : R → Bool) (opens : Bool) (answer : Result (Option R) NextError)
    (before after now : S) (result : Result (Option R) NextError)
    → (answer ≡ Err errors.Memory → ⊥)
    → AnswersOrMemory errors.Memory (answers_with needs answer || opens) answer result
    → now ≡ unless_memory before after result → Nexts needs opens answer (f before) (f after) result (f now)
nexts {S = S} {R = R} f needs opens answer before after now result never (inl e) h =
    let l : now ≡ after = h ∙ ap (unless_memory before after) e ∙ left_is before after answer never in
    subst (λ (s : S). Nexts needs opens answer (f before) (f after) result (f s)) (sym l)
    (subst (λ (r : Result (Option R) NextError). Nexts needs opens answer (f before) (f after) r (f after)) (sym e)
    answered)
nexts {S = S} {R = R} f needs opens answer before after now result never (inr k) h =
    let l : now ≡ before = h ∙ ap (unless_memory before after) k.0 in
    subst (λ (s : S). Nexts needs opens answer (f before) (f after) result (f s)) (sym l)
    (subst (λ (r : Result (Option R) NextError). Nexts needs opens answer (f before) (f after) r (f before)) (sym k.0)
    (wanted needs (answers_with needs answer) opens answer (f before) (f after) refl k.2 k.1))

-- if nothing is opened, memory was needed for the report
pub reports_alone : {R : Type 0} (needs : R → Bool) (answer result : Result (Option R) NextError)
    → AnswersOrMemory errors.Memory (answers_with needs answer) answer result
    → AnswersOrMemory errors.Memory (answers_with needs answer || false) answer result
reports_alone needs answer result (inl e) = inl e
reports_alone needs answer result (inr k) = inr (k.0, or_left (answers_with needs answer) false k.1, k.2)

-- ---- the results of a client's and a server's read

client_found : (core : Core) (r : Result (Option Found) Fault) → front_answer events.client_role core r ≡ Err errors.Memory → ⊥
client_found core (Err fault) h = cc h
client_found core (Ok None) h = cc h
client_found core (Ok (Some f)) h = cc h

client_at : (core : Core) (r : Result (Option Found) Fault) (b : Bool)
    → cond b (Err errors.Failed) (front_answer events.client_role core r) ≡ Err errors.Memory → ⊥
client_at core r true h = cc h
client_at core r false h = client_found core r h

pub client_never : (state : client.State) → events.next_answer state ≡ Err errors.Memory → ⊥
client_never state = client_at state.core (found state.core event_side) state.core.failed

server_full : (core : Core) (f : Found) (b : Bool)
    → cond b (Err errors.OutFull) (Ok (Some (requests.report core f))) ≡ Err errors.Memory → ⊥
server_full core f true h = cc h
server_full core f false h = cc h

server_found : (core : Core) (r : Result (Option Found) Fault) → front_answer requests.server_role core r ≡ Err errors.Memory → ⊥
server_found core (Err fault) h = cc h
server_found core (Ok None) h = cc h
server_found core (Ok (Some f)) h = server_full core f (requests.is_out_full core f) h

server_at : (core : Core) (r : Result (Option Found) Fault) (b : Bool)
    → cond b (Err errors.Failed) (front_answer requests.server_role core r) ≡ Err errors.Memory → ⊥
server_at core r true h = cc h
server_at core r false h = server_found core r h

pub server_never : (state : server.State) → requests.next_answer state ≡ Err errors.Memory → ⊥
server_never state = server_at state.core (requests.request state) state.core.failed
