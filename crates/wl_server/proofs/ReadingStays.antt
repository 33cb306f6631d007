-- What a server reads does not change when more arrives behind it.
use Rattle.std.proofs.Common.{◌≡◌, ◌≢◌, ℕ, zero, suc, Bool, true, false, cond, List, [], ◌∷◌, ◌++◌, refl, sym, ap}
use Rattle.std.proofs.Common.{◌∙◌}
use Rattle.std.specs.Prelude.{◌&&◌, not, nat_lt, slice_get}
use Rattle.std.specs.declared.option.Option.{Option}
use Rattle.std.specs.declared.option.Option.TheVariants.{None, Some}
use Rattle.std.specs.declared.result.Result.{Result}
use Rattle.std.specs.declared.result.Result.TheVariants.{Ok, Err}
use Rattle.wl_sigs.specs.Side.TheVariants.{Request as request_side, Event as event_side}
use Rattle.wl_sigs.specs.Destroys.{Destroys}
use Rattle.wl_sigs.specs.Destroys.TheVariants.{Nothing, Target, Arg}
use Rattle.wl_message.specs.Arrived.{Arrived}
use Rattle.wl_message.specs.Outgoing.{room_of}
use Rattle.wl_wire.specs.Argument.{Argument, Int, Uint, Fixed, Str, Obj, New, NewNamed, Array, Fd}
use Rattle.wl_objects.specs.Reading.{Reader, head_or, reported_argument, reports_of, tokens_after}
use Rattle.wl_objects.specs.declared.error.Fault.{Fault}
use Rattle.wl_objects.specs.declared.error.Fault.TheVariants as faults
use Rattle.wl_objects.specs.declared.error.NextError.{NextError}
use Rattle.wl_object_map.specs.declared.object.Object.{Object}
use Rattle.wl_object_map.specs.Objects.{Objects}
use Rattle.wl_object_map.specs.Ranges.{is_of_server}
use Rattle.wl_objects.specs.Messages.{after}
use Rattle.wl_connection.specs.Core.{Core, with_arrived, with_view}
use Rattle.wl_connection.specs.Receiving.{Found, found, past_found, reader_in}
use Rattle.wl_connection.specs.Sending.{with_following}
use Rattle.wl_connection.specs.Reads.{with_arrivals, Reads, none, fault, full, last, next, ReadsUntil}
use Rattle.wl_connection.proofs.FoundStays.{IsFound, is_found, reported_stays, past_stays}
use Rattle.wl_connection.proofs.Roles.{IsRole, FrontFault, own, of_found, sound_none}
use Rattle.wl_server.specs.State.{State}
use Rattle.wl_server.specs.Requests.{Report, report, unless_bad_bind, request, made_by_request}
use Rattle.wl_server.specs.Requests.{destroys_it, ended, ended_object, owes_delete_id, registries_after, core_after}
use Rattle.wl_server.specs.Requests.{state_past, server_role, reported_object}
use Rattle.wl_server.specs.Streams.{server_reading}
use Rattle.wl_server.specs.Registries.{without_object}

-- ---- one message

report_stays : (core : Core) (f : Found) (bytes tokens : List ℕ) → IsFound core request_side f
    → report (with_arrived core bytes tokens) f ≡ report core f
report_stays core f bytes tokens h = ap (λ l. record { target = f.message.target; opcode = f.opcode; args = l })
    (reported_stays core request_side f bytes tokens h)

following_arrived : (b : Bool) (id : ℕ) (core : Core) (bytes tokens : List ℕ)
    → with_following b id (with_arrived core bytes tokens) ≡ with_arrived (with_following b id core) bytes tokens
following_arrived true id core bytes tokens = refl
following_arrived false id core bytes tokens = refl

-- which object an argument names does not depend on the tokens
named_stays : (r : Reader) (a b : List ℕ) (values : List Argument) (place : ℕ)
    → reported_object (slice_get (reports_of r a values) place) ≡ reported_object (slice_get (reports_of r b values) place)
named_stays r a b [] place = refl
named_stays r a b (value ∷ values) zero = by_value value
  where
    by_value : (x : Argument) → reported_object (Some (reported_argument r (head_or a 0) x))
        ≡ reported_object (Some (reported_argument r (head_or b 0) x))
    by_value (Int z) = refl
    by_value (Uint n) = refl
    by_value (Fixed z) = refl
    by_value (Str text) = refl
    by_value (Obj id) = refl
    by_value (New id) = refl
    by_value (NewNamed name version id) = refl
    by_value (Array bytes) = refl
    by_value (Fd token) = refl
named_stays r a b (value ∷ values) (suc place) =
    named_stays r (tokens_after value a) (tokens_after value b) values place

ended_stays : (core : Core) (f : Found) (bytes tokens : List ℕ) → ended (with_arrived core bytes tokens) f ≡ ended core f
ended_stays core f bytes tokens = by_what f.message.signature.destroys
  where
    by_what : (what : Destroys) → ended_object what (report (with_arrived core bytes tokens) f)
        ≡ ended_object what (report core f)
    by_what Nothing = refl
    by_what Target = refl
    by_what (Arg place) = named_stays (reader_in core request_side) (core.inbox.tokens ++ tokens) core.inbox.tokens
        f.message.values place

core_arrived : (core : Core) (f : Found) (bytes tokens : List ℕ) → IsFound core request_side f
    → core_after (with_arrived core bytes tokens) f ≡ with_arrived (core_after core f) bytes tokens
core_arrived core f bytes tokens h =
    let id = (ended core f).id in
    let view : ℕ → Objects = λ n. after event_side core.view (made_by_request core f.message) f.message.signature.destroys n in
    ap (λ (o : Object). with_following (destroys_it f.message && not (is_of_server o.id)) o.id
    (with_view (past_found (with_arrived core bytes tokens) f) (view o.id))) (ended_stays core f bytes tokens)
    ∙ (ap (λ (c : Core). with_following (owes_delete_id core f) id (with_view c (view id)))
    (past_stays core request_side f bytes tokens h)
    ∙ following_arrived (owes_delete_id core f) id (with_view (past_found core f) (view id)) bytes tokens)

past_arrived : (state : State) (f : Found) (bytes tokens : List ℕ) → IsFound state.core request_side f
    → state_past (with_arrivals server_reading state bytes tokens) f
    ≡ with_arrivals server_reading (state_past state f) bytes tokens
past_arrived state f bytes tokens h = λ i. record (state_past state f) {
  core = core_arrived state.core f bytes tokens h i;
  registries = without_object (destroys_it f.message) (ended_stays state.core f bytes tokens i)
      (registries_after state.core state.registries (made_by_request state.core f.message));
}

-- ---- what is at the front

judged_bad : (f g : Found) (b : Bool) → cond b (Err faults.BadBind) (Ok (Some f)) ≡ Ok (Some g) → f ≡ g
judged_bad f g true j = absurd (cc j)
judged_bad f g false j = cc j

judged : (state : State) (g : Found) (x : Result (Option Found) Fault) → found state.core request_side ≡ x
    → unless_bad_bind state x ≡ Ok (Some g) → found state.core request_side ≡ Ok (Some g)
judged state g (Err what) e j = absurd (cc j)
judged state g (Ok None) e j = absurd (cc j)
judged state g (Ok (Some f)) e j = e ∙ ap (λ (h : Found). Ok (Some h)) (judged_bad f g _ j)

good_none : (f : Found) (b : Bool) → cond b (Err faults.BadBind) (Ok (Some f)) ≢ Ok None
good_none f true h = cc h
good_none f false h = cc h

unjudged : (state : State) (x : Result (Option Found) Fault) → found state.core request_side ≡ x
    → unless_bad_bind state x ≡ Ok None → found state.core request_side ≡ Ok None
unjudged state (Err what) e j = absurd (cc j)
unjudged state (Ok None) e j = e
unjudged state (Ok (Some f)) e j = absurd (good_none f _ j)

there : (state : State) (f : Found) → request state ≡ Ok (Some f) → found state.core request_side ≡ Ok (Some f)
there state f e = judged state f (found state.core request_side) refl e

front_stays : (state : State) (f : Found) (bytes tokens : List ℕ) → request state ≡ Ok (Some f)
    → request (with_arrivals server_reading state bytes tokens) ≡ Ok (Some f)
front_stays state f bytes tokens e =
    let t = there state f e in
    ap (unless_bad_bind (with_arrivals server_reading state bytes tokens))
    ((is_found state.core request_side f t).stays bytes tokens)
    ∙ sym (ap (unless_bad_bind state) t) ∙ e

-- a fault at the front stays; it can be a bind of what was never advertised
fault_stays : (state : State) (what : Fault) (x : Result (Option Found) Fault) → found state.core request_side ≡ x
    → unless_bad_bind state x ≡ Err what → FrontFault server_role state what
fault_stays state what (Err other) e j = of_found (e ∙ j)
    (λ bytes tokens h. ap (unless_bad_bind (with_arrivals server_reading state bytes tokens)) h)
fault_stays state what (Ok None) e j = absurd (cc j)
fault_stays state what (Ok (Some f)) e j =
    own (λ bytes tokens. ap (unless_bad_bind (with_arrivals server_reading state bytes tokens))
    ((is_found state.core request_side f e).stays bytes tokens) ∙ j)

-- ---- the state that is left

-- writing a delete_id does not change the inbox
pub inbox_kept : (b : Bool) (id : ℕ) (core : Core) → (with_following b id core).inbox ≡ core.inbox
inbox_kept true id core = refl
inbox_kept false id core = refl

failed_kept : (b : Bool) (id : ℕ) (core : Core) → (with_following b id core).failed ≡ core.failed
failed_kept true id core = refl
failed_kept false id core = refl

-- the end with its objects as they are after a request
abbrev viewed : State → Found → Core
viewed state f = with_view (past_found state.core f) (after event_side state.core.view
    (made_by_request state.core f.message) f.message.signature.destroys (ended state.core f).id)

inbox_past : (state : State) (f : Found) → (state_past state f).core.inbox ≡ (past_found state.core f).inbox
inbox_past state f = inbox_kept (owes_delete_id state.core f) (ended state.core f).id (viewed state f)

failed_past : (state : State) (f : Found) → (state_past state f).core.failed ≡ state.core.failed
failed_past state f = failed_kept (owes_delete_id state.core f) (ended state.core f).id (viewed state f)

-- ---- the laws of a role hold for a server

pub is_role : IsRole server_role
is_role = record {
  laws = record { kept = λ state. refl; new = λ state c. refl; again = λ state c d. refl };
  none_found = λ state e. unjudged state (found state.core request_side) refl e;
  is_there = there;
  front_stays = front_stays;
  fault_stays = λ state what e. fault_stays state what (found state.core request_side) refl e;
  room_stays = λ state f bytes tokens.
      ap (λ (o : Object). (destroys_it f.message && not (is_of_server o.id)) && nat_lt (room_of state.core.outbox) 12)
      (ended_stays state.core f bytes tokens);
  report_stays = λ state f bytes tokens h. report_stays state.core f bytes tokens h;
  past_stays = past_arrived;
  failing_stays = λ state what bytes tokens. refl;
  past_waits = λ state f. ap (λ (b : Arrived). record { bytes = b.bytes; tokens = b.tokens }) (inbox_past state f);
  past_limit = λ state f. ap (λ (b : Arrived). b.limit) (inbox_past state f);
  failing_waits = λ state what. refl;
  past_failed = λ state f s. failed_past state f ∙ s;
}

-- a server has no last report: without a stop it has not failed
pub sound_at_end : {state end : State} {reports : List Report} {stop : Option NextError}
    → Reads server_reading state reports stop end → stop ≡ None → end.core.failed ≡ false
sound_at_end (none {state = state} e) n = sound_none server_role state e
sound_at_end (fault e) n = absurd (cc n)
sound_at_end (full e) n = absurd (cc n)
sound_at_end (last e l) n = absurd (cc l)
sound_at_end (next e l h) n = sound_at_end h n

pub sound_until : (state end : State) (reports : List Report) (stop : Option NextError)
    → ReadsUntil server_reading state reports stop end → stop ≡ None → end.core.failed ≡ false
sound_until state end reports None h n = sound_at_end h refl
sound_until state end reports (Some why) h n = absurd (cc n)
