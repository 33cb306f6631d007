-- What a client finds at the front of its inbox.
use Rattle.std.proofs.Common.{◌≡◌, ℕ, ◌<◌, ◌≤◌, false, List, length, take, drop, get_or, refl, sym, ap, ◌∙◌}
use Rattle.std.proofs.Common.{inl, inr, subst, arith}
use Rattle.std.proofs.lemmas.List.{take-take}
use Rattle.std.specs.Prelude.{if◌then◌else◌, IfSome}
use Rattle.std.specs.declared.option.Option.{Option}
use Rattle.std.specs.declared.option.Option.TheVariants.{Some, None}
use Rattle.std.specs.declared.result.Result.{Result}
use Rattle.std.specs.declared.result.Result.TheVariants.{Ok, Err}
use Rattle.wl_sigs.specs.Side.TheVariants.{Event as event_side}
use Rattle.wl_sigs.specs.Valid.{Valid}
use Rattle.wl_message.specs.Arrived.{in_front}
use Rattle.wl_message.specs.Cut.{Whole, message_size}
use Rattle.wl_object_map.specs.declared.object.State.{State as ObjectState}
use Rattle.wl_object_map.specs.declared.object.State.TheVariants.{Live, Zombie}
use Rattle.wl_objects.specs.declared.error.Fault.{Fault}
use Rattle.wl_objects.specs.declared.error.NextError.{NextError}
use Rattle.wl_objects.specs.declared.parsed.ParsedArg.{ParsedArg}
use Rattle.wl_connection.specs.Core.{Core}
use Rattle.wl_connection.specs.FirstMessage.{HasParsed, IsFrontMeaning, body_of}
use Rattle.wl_connection.specs.Outcomes.{read_as}
use Rattle.wl_connection.specs.Receiving.{Found, found, header_of, takes, own_tokens, reader_in}
use Rattle.wl_connection.specs.Roles.{front_answer, role_answer}
use Rattle.wl_connection.specs.ServerRange.{IsMadeBySome, NoEventEnds, OpensHolding, OpensLasting, OpensMadeBySome}
use Rattle.wl_connection.proofs.MadeByEvent.{IsMadeByEvent}
use Rattle.wl_connection.proofs.Roles.{answers}
use Rattle.wl_connection.proofs.ServerRange.{opens_by, opens_made}
use Rattle.wl_client.specs.declared.pending.PendingEvent.{PendingEvent}
use Rattle.wl_client.specs.State.{State}
use Rattle.wl_client.specs.Reports.{Report, report, Event, Discarded, client_role, is_error_event}
use Rattle.wl_client.specs.Reports.{is_delete_event, deleted_id, error_report, delete_report}
use Rattle.wl_client.specs.Reports.{plain_report, event_opens, opens_row}
use Rattle.wl_client.specs.Steps.{CanOpen, end_with, made_by_found, report_by}
use Rattle.wl_connection.proofs.ReceivedMessage.{is_received}
use Rattle.wl_client.specs.Reading.{CanApply, IsPending, IsPendingOf, IsAhead, IsNextEvent, front_report}
use Rattle.wl_client.specs.Outlines.{outlined}
use Rattle.wl_client.proofs.Makings.{can_open, event_makes_none}
use Rattle.wl_connection.proofs.FoundStays.{IsFound, is_found, reported_own}
use Rattle.wl_connection.proofs.Frames.{descriptors-le, read_at_front, same-body, same-tokens}

-- ---- a message's own tokens are enough for its report

plain_own : (core : Core) (f : Found) (s : ObjectState) → IsFound core event_side f
    → plain_report (end_with core.tables core.view (own_tokens core f.message)) f.opcode f.message s
    ≡ plain_report core f.opcode f.message s
plain_own core f Live h = ap (λ l. Event f.message.target f.opcode l) (reported_own core event_side f h)
plain_own core f Zombie h = ap (λ (l : List ℕ). Discarded f.message.target f.opcode l)
    (take-take (takes f.message) (takes f.message) core.inbox.tokens (omega arith))

report_own : (core : Core) (f : Found) → IsFound core event_side f
    → report_by core.tables core.view (own_tokens core f.message) f ≡ report core f
report_own core f h =
    ap (λ (x : Report). if is_error_event f then error_report core f.message.values else if is_delete_event f
    then delete_report core (deleted_id f) else x)
    (plain_own core f f.message.entry.state h)

-- the tokens that the message takes are enough for its report
own_reported : (core : Core) (body : List ℕ) (args : List ParsedArg) (f : Found) (event : PendingEvent)
    → found core event_side ≡ Ok (Some f) → IsPending core.tables core.view body args f event
    → outlined body args (take event.tokens core.inbox.tokens) event.outline ≡ report core f
own_reported core body args f event e s =
    ap (λ (k : ℕ). outlined body args (take k core.inbox.tokens) event.outline) s.tokens_taken
    ∙ (s.report (own_tokens core f.message) ∙ report_own core f (is_found core event_side f e))

-- ---- the first event can be taken

ahead : (core : Core) (args : List ParsedArg) (f : Found) (event : PendingEvent) → HasParsed event_side core args f
    → IsPending core.tables core.view (body_of core f.size) args f event → IsAhead core args f event
ahead core args f event h s =
    let z = read_at_front core event_side f h.is_found in
    let header = header_of core.inbox.bytes in
    let body = body_of core f.size in
    let waiting = length core.inbox.tokens in
    let m = f.message in
    let v : Valid core.tables = h.valid in
    let p = is_received core.tables event_side (reader_in core event_side) header body waiting m z.2 in
    let few : length m.signature.kinds ≤ 20 = v.small.arguments event_side m.entry.iface.0 header.opcode m.signature
    p.signature in
    let new = made_by_found core.tables f in
    let opens : OpensHolding (IsMadeByEvent core.tables) new = opens_made core.tables v m.entry.iface.0 header.opcode
    m.entry.version m.signature m.values new p.signature refl in
    record {
      can_apply = record {
        message = z.0 ∙ ap Whole (sym s.bytes);
        few = omega (arith, few, descriptors-le m.signature.kinds, s.tokens_taken);
        waiting = omega (arith, p.tokens, s.tokens_taken);
        made = subst (CanOpen core.tables core.view) (sym s.made)
            (can_open core.tables core.view header body waiting m new v z.2 refl);
        lasting = subst (OpensLasting core.tables) (sym s.made)
            (opens_by (IsMadeByEvent core.tables) (NoEventEnds core.tables) (λ iface i. i.lasting) new opens);
        by_some = subst (OpensMadeBySome core.tables) (sym s.made)
            (opens_by (IsMadeByEvent core.tables) (IsMadeBySome core.tables) (λ iface i. i.by_some) new opens);
        change = s.can;
        entry = s.entry;
        wants = ap (event_opens core) h.is_found ∙ ap (opens_row core.view) (sym s.made);
        none = λ none. s.made
            ∙ event_makes_none core.tables m.entry.iface.0 header.opcode m.entry.version m.signature m.values v none
            p.signature;
      };
      is_pending = s;
      is_reported =
          ap (λ (k : ℕ). outlined (body_of core k) args (take event.tokens core.inbox.tokens) event.outline) s.bytes
          ∙ own_reported core body args f event h.is_found s;
    }

-- ---- what `find` returns and leaves

pub fault_found : (core : Core) (args : List ParsedArg) (fault : Fault)
    → IsFrontMeaning event_side IsPendingOf core args (Err fault) → found core event_side ≡ Err fault
fault_found core args fault (inl e) = e
fault_found core args fault (inr w) = absurd w.2

pub answer_found : (state : State) (args : List ParsedArg) (event : Option PendingEvent) → state.core.failed ≡ false
    → IsFrontMeaning event_side IsPendingOf state.core args (Ok event)
    → read_as (front_report state.core args) (Ok event) ≡ role_answer client_role state
answer_found state args None lives s =
    sym (answers client_role state lives ∙ ap (front_answer client_role state.core) s)
answer_found state args (Some event) lives s =
    ap (λ (r : Report). let answer : Result (Option Report) NextError = Ok (Some r) in answer)
    (ahead state.core args s.0 event s.1 s.2).is_reported
    ∙ sym (answers client_role state lives ∙ ap (front_answer client_role state.core) s.1.is_found)

pub next_if_some : (core : Core) (args : List ParsedArg) (event : Option PendingEvent) → core.failed ≡ false
    → IsFrontMeaning event_side IsPendingOf core args (Ok event) → IfSome event (λ e. IsNextEvent core args e)
next_if_some core args None lives s = tt
next_if_some core args (Some event) lives s =
    record { lives = lives; message = s.0; is_found = s.1.is_found; ahead = ahead core args s.0 event s.1 s.2 }

-- ---- the owned report

-- the body and the tokens of the first event, as the code read them
pub front_told : (core inner : Core) (args held : List ParsedArg) (event : PendingEvent) (body tokens : List ℕ)
    → inner ≡ core → held ≡ args → CanApply core event
    → body ≡ drop 8 (take (message_size (in_front inner.inbox)) inner.inbox.bytes) → length tokens ≡ 20
    → ((place : ℕ) → place < event.tokens → place < 20 → get_or tokens place 0 ≡ get_or inner.inbox.tokens place 0)
    → outlined body held (take event.tokens tokens) event.outline ≡ front_report core args event
front_told core inner args held event body tokens same kept can b all first =
    let told = b ∙ same-body core inner event.size same can.message in
    let own = same-tokens core inner event.tokens tokens same can.few can.waiting all first in
    λ i. outlined (told i) (kept i) (own i) event.outline
