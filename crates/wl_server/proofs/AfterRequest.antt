-- The state of a server after it read a request.
use Rattle.std.proofs.Common.{◌≡◌, ◌≢◌, ℕ, ◌+◌, ◌<◌, length, take, drop, get_or, Bool, true, false, List, [], ◌∷◌, ◌++◌}
use Rattle.std.proofs.Common.{Some, None, map, refl, sym, ap, subst, ◌∙◌, inl, inr, arith}
use Rattle.std.specs.Prelude.{Option, ◌||◌, not, if◌then◌else◌, IsOk, is_some}
use Rattle.std.specs.declared.result.Result.{Result}
use Rattle.std.specs.declared.result.Result.TheVariants.{Ok, Err}
use Rattle.wl_sigs.specs.Destroys.{Destroys}
use Rattle.wl_sigs.specs.Destroys.TheVariants.{Nothing, Target, Arg}
use Rattle.wl_sigs.specs.Side.TheVariants.{Request as request_side}
use Rattle.wl_sigs.specs.Tables.{Interface}
use Rattle.wl_wire.specs.declared.kind.Kind.{Kind}
use Rattle.wl_objects.specs.declared.error.Fault.{Fault}
use Rattle.wl_objects.specs.declared.error.NextError.{NextError}
use Rattle.wl_objects.specs.declared.error.NextError.TheVariants as errors
use Rattle.wl_object_map.specs.declared.object.Object.{Object}
use Rattle.wl_object_map.specs.Objects.{Objects, closed}
use Rattle.wl_object_map.specs.Ranges.{is_of_server}
use Rattle.wl_object_map.specs.ObjectsLaws.{opened_at-client}
use Rattle.wl_objects.specs.declared.parsed.ParsedArg.{ParsedArg}
use Rattle.wl_objects.specs.Parsed.{reported_of}
use Rattle.wl_objects.specs.Messages.{NewObject, made, opens, same_iface}
use Rattle.wl_sigs.specs.Fixed.{registry}
use Rattle.wl_message.specs.Arrived.{Arrived, in_front, without_first}
use Rattle.wl_message.specs.Cut.{message_size}
use Rattle.wl_connection.specs.Core.{Core, past, with_view}
use Rattle.wl_connection.specs.Receiving.{Found, is_empty_list, reader_in}
use Rattle.wl_connection.specs.Outcomes.{answers_with}
use Rattle.wl_connection.specs.Reads.{Answer}
use Rattle.wl_connection.specs.Roles.{IsNext, front_answer, front_left}
use Rattle.wl_connection.proofs.Frames.{same-body, same-tokens}
use Rattle.wl_connection.proofs.ReceivedMessage.{some_reported}
use Rattle.wl_server.specs.State.{State, Global, Registry, RiseFrom, untold}
use Rattle.wl_server.specs.Requests.{Report, report, request, made_by_request, is_out_full, next_answer}
use Rattle.wl_server.specs.Requests.{after_next, server_role, state_past}
use Rattle.wl_server.specs.Requests.{registries_after, needs_memory, request_opens, IsServerNext}
use Rattle.wl_server.specs.declared.pending.PendingRequest.{PendingRequest}
use Rattle.wl_server.specs.Steps.{CanApply, Step, ended_by_request, pending_in, outlined, applied_report}
use Rattle.wl_server.specs.Steps.{step_of, step_found, front_step, checked_front, after_front}
use Rattle.wl_server.specs.Steps.{after_step, report_of_step, core_by, core_without, front_report}
use Rattle.wl_server.specs.Steps.{registries_by, server_state, whole_state}
use Rattle.wl_server.specs.Registries.{IsFreshId}
use Rattle.wl_server.proofs.RisingBirths.{rise-below, rise-new}
use Rattle.wl_server.proofs.ReadingStays.{inbox_kept}

-- ---- the registries

pub rise-opened : (core : Core) (registries : List Registry) (made : Option NewObject)
    → IsFreshId core.view made
    → RiseFrom 0 core.view.client.births registries → RiseFrom 0 (opens core.view made).client.births
    (registries_after core registries made)
rise-opened core registries None f r = r
rise-opened core registries (Some m) f r =
    subst (λ (v : Objects). RiseFrom 0 v.client.births (registries_after core registries (Some m)))
    (sym (opened_at-client core.view m.id m.iface m.version f.1)) (by_test (same_iface m.iface registry))
  where
    by_test : (b : Bool) → RiseFrom 0 (core.view.client.births + 1)
        (if b then registries ++ untold (record { id = m.id; birth = core.view.client.births }) ∷ [] else registries)
    by_test true = rise-new 0 m.id core.view.client.births registries r
    by_test false = rise-below 0 core.view.client.births (core.view.client.births + 1) registries (omega arith) r

-- ---- the target is still there

-- ---- the result, and the state that is left, from the step at the front

answer-by : (core : Core) (f : Found) (b : Bool) → is_out_full core f ≡ b
    → report_of_step (step_found core (Ok (Some f))) ≡ front_answer server_role core (Ok (Some f))
answer-by core f true e = rw (e) refl
answer-by core f false e = rw (e) refl

answer-found : (core : Core) (x : Result (Option Found) Fault)
    → report_of_step (step_found core x) ≡ front_answer server_role core x
answer-found core (Err fault) = refl
answer-found core (Ok None) = refl
answer-found core (Ok (Some f)) = answer-by core f (is_out_full core f) refl

pub answer-checked : (state : State) → next_answer state ≡ report_of_step (checked_front state)
answer-checked state = by_failed state.core.failed
  where
    by_failed : (b : Bool) → (if b then Err errors.Failed else front_answer server_role state.core (request state))
        ≡ report_of_step (if b then Err errors.Failed else front_step state)
    by_failed true = refl
    by_failed false = sym (answer-found state.core (request state))

left-by : (state : State) (f : Found) (b : Bool) → is_out_full state.core f ≡ b
    → after_front state (step_found state.core (Ok (Some f))) ≡ front_left server_role state (Ok (Some f))
left-by state f true e = rw (e) refl
left-by state f false e = rw (e) (after-past state f)
  where
    after-past : (state : State) (f : Found) → after_step state (step_of state.core f) ≡ state_past state f
    after-past state f = by_case f.message.signature.destroys
      where
        by_case : (d : Destroys) → after_step state
            (record (step_of state.core f) { ended = ended_by_request d (report state.core f) })
            ≡ state_past state (record f {
              message =
                  record f.message { signature = record f.message.signature { destroys = d } };
            })
        by_case Nothing = refl
        by_case Target = refl
        by_case (Arg place) = refl

left-found : (state : State) (x : Result (Option Found) Fault)
    → after_front state (step_found state.core x) ≡ front_left server_role state x
left-found state (Err fault) = refl
left-found state (Ok None) = refl
left-found state (Ok (Some f)) = left-by state f (is_out_full state.core f) refl

pub left-checked : (state : State) → after_next state ≡ after_front state (checked_front state)
left-checked state = by_failed state.core.failed
  where
    by_failed : (b : Bool) → (if b then state else front_left server_role state (request state))
        ≡ after_front state (if b then Err errors.Failed else front_step state)
    by_failed true = refl
    by_failed false = sym (left-found state (request state))

-- ---- each way that a read can end

pub after-is : (state : State) (x : Result (Option Step) NextError) → x ≡ checked_front state
    → after_front state x ≡ after_next state
after-is state x e = ap (after_front state) e ∙ sym (left-checked state)

pub answer-is : (state : State) (x : Result (Option Step) NextError) → x ≡ checked_front state
    → report_of_step x ≡ next_answer state
answer-is state x e = ap report_of_step e ∙ sym (answer-checked state)

-- what is at the front does not depend on the registries
pub seen-by : (state : State) (globals : List Global) (x : Result (Option Step) NextError) → state.core.failed ≡ false
    → globals ≡ state.globals → x ≡ front_step (server_state state.core globals) → x ≡ checked_front state
seen-by state globals x h e g =
    subst (λ (l : List Global). x ≡ front_step (server_state state.core l)) e g
    ∙ sym (ap (λ (b : Bool). if b then Err errors.Failed else front_step state) h)

-- ---- if memory can be refused

-- a request that opens an object has arguments
made-nothing : (tables : List Interface) (version : ℕ) (ks : List Kind) → made tables version ks [] ≡ None
made-nothing tables version [] = refl
made-nothing tables version (k ∷ ks) = refl

made-some : (core : Core) (f : Found) → made_by_request core f.message ≢ None → f.message.values ≢ []
made-some core f m none = m (ap (made core.tables f.message.entry.version f.message.signature.kinds) none
    ∙ made-nothing core.tables f.message.entry.version f.message.signature.kinds)

not_none : (o : Option NewObject) → is_some o ≡ true → o ≢ None
not_none None h e = cc h
not_none (Some m) h e = cc e

some-args : {X Y : Type 0} (f : X → Y) (xs : List X) → xs ≢ [] → not (is_empty_list (map f xs)) ≡ true
some-args f [] h = absurd (h refl)
some-args f (x ∷ xs) h = refl

made-wants : (core : Core) (f : Found) → is_some (made_by_request core f.message) ≡ true
    → needs_memory (report core f) ≡ true
made-wants core f m = some_reported (reader_in core request_side) core.inbox.tokens f.message.values
    (made-some core f (not_none (made_by_request core f.message) m))

-- if taking the request needs memory, its report does, too
either : (a b : Bool) → (b ≡ true → a ≡ true) → (a || b) ≡ true → a ≡ true
either true b h o = refl
either false b h o = h o

wants-full : (core : Core) (f : Found) (full : Bool)
    → (answers_with needs_memory (if full then Err errors.OutFull else Ok (Some (report core f)))
    || is_some (made_by_request core f.message)) ≡ true
    → IsOk (let answer : Answer Report = if full then Err errors.OutFull else Ok (Some (report core f)) in answer)
    → answers_with needs_memory (if full then Err errors.OutFull else Ok (Some (report core f))) ≡ true
wants-full core f true w o = absurd (cc o)
wants-full core f false w o = either (needs_memory (report core f)) _ (made-wants core f) w

wants-found : (core : Core) (x : Result (Option Found) Fault)
    → (answers_with needs_memory (front_answer server_role core x) || request_opens core x) ≡ true
    → IsOk (front_answer server_role core x) → answers_with needs_memory (front_answer server_role core x) ≡ true
wants-found core (Err fault) w o = absurd (cc o)
wants-found core (Ok None) w o = absurd (cc w)
wants-found core (Ok (Some f)) w o = wants-full core f (is_out_full core f) w o

wants-one : (state : State) (failed : Bool)
    → (answers_with needs_memory (if failed then Err errors.Failed else front_answer server_role state.core (request state))
    || request_opens state.core (request state)) ≡ true
    → IsOk (if failed then Err errors.Failed else front_answer server_role state.core (request state))
    → answers_with needs_memory
    (if failed then Err errors.Failed else front_answer server_role state.core (request state)) ≡ true
wants-one state true w o = absurd (cc o)
wants-one state false w o = wants-found state.core (request state) w o

pub owned-next : (state : State) (result : Answer Report) → IsNext server_role state result → IsServerNext state result
owned-next state result (inl e) = inl e
owned-next state result (inr w) = inr (w.0, wants-one state state.core.failed w.1 w.2, w.2)

-- an owned report needs memory if there are arguments
pub copy-wants : (core : Core) (args : List ParsedArg) (p : PendingRequest) → args ≢ []
    → needs_memory (front_report core args p) ≡ true
copy-wants core args p h = some-args (reported_of _ p.outline.birth _) args h

-- ---- the inbox after a request was taken

inbox-without : (ended : Option Object) (core : Core) → (core_without ended core).inbox ≡ core.inbox
inbox-without None core = refl
inbox-without (Some object) core = inbox_kept (not (is_of_server object.id)) object.id
    (with_view core (closed core.view object.id))

pub inbox-taken : (core : Core) (step : Step) → (core_by core step).inbox
    ≡ without_first core.inbox step.size step.tokens
inbox-taken core step = inbox-without step.ended (past
    (with_view core (opens core.view step.made)) step.size step.tokens)

-- ---- the borrowed report

pub applied-is : (core now : Core) (args : List ParsedArg) (p : PendingRequest)
    → now ≡ core_by core (pending_in core args p) → applied_report now args p ≡ (pending_in core args p).report
applied-is core now args p e = ap (λ (k : Core). applied_report k args p) e
    ∙ ap (λ (b : Arrived). outlined b.last args b.last_tokens p.outline) (inbox-taken core (pending_in core args p))

-- ---- the owned report

-- the body and the tokens of the first request, as the code read them
pub front-told : (core inner : Core) (args held : List ParsedArg) (p : PendingRequest) (body tokens : List ℕ)
    → inner ≡ core → held ≡ args → CanApply core (pending_in core args p)
    → body ≡ drop 8 (take (message_size (in_front inner.inbox)) inner.inbox.bytes) → length tokens ≡ 20
    → ((place : ℕ) → place < p.tokens → place < 20 → get_or tokens place 0 ≡ get_or inner.inbox.tokens place 0)
    → outlined body held (take p.tokens tokens) p.outline ≡ (pending_in core args p).report
front-told core inner args held p body tokens same kept can b all first =
    let told = b ∙ same-body core inner p.size same can.whole in
    let own = same-tokens core inner p.tokens tokens same can.few can.tokens all first in
    λ i. outlined (told i) (kept i) (own i) p.outline

-- ---- a message that was taken

pub applied-left : (allowed : ℕ) (core now : Core) (globals : List Global) (rs ms : List Registry) (step : Step)
    → Ok (Some step) ≡ checked_front (whole_state allowed core globals rs) → now ≡ core_by core step
    → ms ≡ registries_by core rs step → whole_state allowed now globals ms
    ≡ after_next (whole_state allowed core globals rs)
applied-left allowed core now globals rs ms step e n m = (λ i. whole_state allowed (n i) globals (m i))
    ∙ after-is (whole_state allowed core globals rs) (Ok (Some step)) e
