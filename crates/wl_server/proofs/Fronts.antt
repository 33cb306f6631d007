-- What is at the front of a server's waiting bytes. A request there can be taken.
use Rattle.std.proofs.Common.{◌≡◌, ◌≢◌, ℕ, zero, suc, ◌≤◌, Bool, true, false, List, [], ◌∷◌, length}
use Rattle.std.proofs.Common.{take, drop, Some, None, refl, sym, ap, subst, ◌∙◌, inl, inr, arith}
use Rattle.std.specs.Prelude.{Option, ◌&&◌, not, nat_lt, nat_eq, slice_get, IsTrue}
use Rattle.std.specs.Option.{option_and_then}
use Rattle.std.specs.declared.result.Result.{Result}
use Rattle.std.specs.declared.result.Result.TheVariants.{Ok, Err}
use Rattle.std.proofs.lemmas.List.{take-append-drop, length-take-le}
use Rattle.std.proofs.lemmas.Bool.Decides.{nat_tests}
use Rattle.std.proofs.lemmas.Grind.{common_steps}
use Rattle.wl_wire.specs.declared.header.Header.{Header}
use Rattle.wl_wire.specs.declared.kind.Iface.{Iface}
use Rattle.wl_sigs.specs.Side.TheVariants.{Request as request_side}
use Rattle.wl_sigs.specs.Destroys.{Destroys}
use Rattle.wl_sigs.specs.Destroys.TheVariants.{Nothing, Target, Arg}
use Rattle.wl_sigs.specs.Tables.{Interface, MessageSignature, signature_at, message_of, destroys_one}
use Rattle.wl_sigs.specs.Fixed.{wl_display, display}
use Rattle.wl_sigs.specs.Valid.{Valid}
use Rattle.wl_message.specs.Outgoing.{room_of}
use Rattle.wl_server.specs.declared.pending.PendingRequest.{PendingRequest}
use Rattle.wl_objects.specs.declared.error.Fault.{Fault}
use Rattle.wl_objects.specs.declared.error.Fault.TheVariants as faults
use Rattle.wl_objects.specs.declared.error.NextError.{NextError}
use Rattle.wl_objects.specs.declared.error.NextError.TheVariants as errors
use Rattle.wl_object_map.specs.declared.object.Entry.{Entry}
use Rattle.wl_object_map.specs.declared.object.Object.{Object}
use Rattle.wl_object_map.specs.declared.object.State.{State}
use Rattle.wl_object_map.specs.declared.object.State.TheVariants.{Live, Zombie}
use Rattle.wl_wire.specs.Argument.{Obj}
use Rattle.wl_object_map.specs.View.{free_or_next, has_room}
use Rattle.wl_object_map.specs.Objects.{Objects, look}
use Rattle.wl_object_map.specs.Ranges.{is_of_server}
use Rattle.wl_objects.specs.declared.parsed.ParsedArg.{ParsedArg}
use Rattle.wl_objects.specs.Parsed.{reported_in}
use Rattle.wl_objects.specs.Reading.{Reader, in_state, reports_of, Reported}
use Rattle.wl_objects.specs.Messages.{NewObject}
use Rattle.wl_connection.specs.Core.{Core, HasDisplay}
use Rattle.wl_connection.specs.FirstMessage.{HasParsed, IsFrontMeaning, body_of}
use Rattle.wl_connection.specs.Receiving.{Found, found, header_of, reported, takes, reader_in}
use Rattle.wl_connection.specs.Sending.{delete_id_len, fits}
use Rattle.wl_connection.proofs.ReceivedMessage.{IsReceived, is_received}
use Rattle.wl_connection.proofs.FoundStays.{is_found}
use Rattle.wl_connection.proofs.Frames.{descriptors-le, read_at_front}
use Rattle.wl_connection.proofs.Ends.{argument_received}
use Rattle.wl_connection.proofs.NewIds.{new_free_at_server}
use Rattle.wl_connection.proofs.Descriptors.{fds, reports_stay}
use Rattle.wl_server.specs.State.{Global}
use Rattle.wl_server.specs.Requests.{Report, made_by_request, report, request, unless_bad_bind, reported_object}
use Rattle.wl_server.specs.Requests.{ended_object, is_out_full, owes_delete_id}
use Rattle.wl_server.specs.Steps.{Step, step_of, step_found, front_step, server_state, pending_in}
use Rattle.wl_server.specs.Steps.{pending_of, ended_by_request, report_with, HasFreeId, HasRow, CanApply, IsEndedBy}
use Rattle.wl_server.specs.Steps.{IsPendingOf, is_bad_bind, needs_delete_id}

-- ---- the result of reading

request_is : (core : Core) (globals : List Global) (x : Result (Option Found) Fault) → found core request_side ≡ x
    → request (server_state core globals) ≡ unless_bad_bind (server_state core globals) x
request_is core globals x e = ap (unless_bad_bind (server_state core globals)) e

abbrev pub Answers : Core → List Global → Result (Option Step) NextError → Type 0
Answers core globals result = result ≡ front_step (server_state core globals)

answers_as : (core : Core) (globals : List Global) (x : Result (Option Found) Fault)
    (result : Result (Option Step) NextError) → request (server_state core globals) ≡ x → result ≡ step_found core x
    → Answers core globals result
answers_as core globals x result e h = h ∙ sym (ap (step_found core) e)

answers_bad : (core : Core) (globals : List Global) (f : Found) → found core request_side ≡ Ok (Some f)
    → is_bad_bind core.tables globals f.opcode f.message ≡ true
    → Answers core globals (Err (errors.Fault faults.BadBind core.read))
answers_bad core globals f e b =
    answers_as core globals (Err faults.BadBind) _ (request_is core globals (Ok (Some f)) e ∙ rw b refl) refl

request_some : (core : Core) (globals : List Global) (f : Found) → found core request_side ≡ Ok (Some f)
    → is_bad_bind core.tables globals f.opcode f.message ≡ false → request (server_state core globals) ≡ Ok (Some f)
request_some core globals f e b = request_is core globals (Ok (Some f)) e ∙ rw b refl

answers_full : (core : Core) (globals : List Global) (f : Found) → found core request_side ≡ Ok (Some f)
    → is_bad_bind core.tables globals f.opcode f.message ≡ false → is_out_full core f ≡ true
    → Answers core globals (Err errors.OutFull)
answers_full core globals f e b full =
    answers_as core globals (Ok (Some f)) _ (request_some core globals f e b) (rw full refl)

front_ok : (core : Core) (globals : List Global) (f : Found) → found core request_side ≡ Ok (Some f)
    → is_bad_bind core.tables globals f.opcode f.message ≡ false → is_out_full core f ≡ false
    → front_step (server_state core globals) ≡ Ok (Some (step_of core f))
front_ok core globals f e b fits = ap (step_found core) (request_some core globals f e b) ∙ rw fits refl

-- ---- facts about a request that was read

pub few_kinds : (tables : List Interface) → Valid tables → (place opcode : ℕ) (m : MessageSignature)
    → signature_at tables place request_side opcode ≡ Some m → length m.kinds ≤ 20
few_kinds tables v place opcode m s = v.small.arguments request_side place opcode m s

-- no request destroys wl_display
nothing_of : (opcode : ℕ) (m : MessageSignature) → slice_get wl_display.requests opcode ≡ Some m → m.destroys ≢ Target
nothing_of zero m h t = cc (h, t)
nothing_of (suc zero) m h t = cc (h, t)
nothing_of (suc (suc n)) m h t = cc h

display_lasts : (tables : List Interface) → Valid tables → (view : Objects) → HasDisplay view
    → (id opcode : ℕ) (entry : Entry) (m : MessageSignature) → look view id ≡ Some entry
    → signature_at tables entry.iface.0 request_side opcode ≡ Some m → m.destroys ≡ Target → id ≢ 1
display_lasts tables v view d id opcode entry m r s t e =
    let row : Some entry ≡ look view 1 = sym r ∙ ap (look view) e in
    let iface : entry.iface ≡ display = let both = row ∙ d in cc both in
    let first : signature_at tables 0 request_side opcode ≡ slice_get wl_display.requests opcode =
    ap (option_and_then (message_of request_side opcode)) v.fixed_four.display in
    nothing_of opcode m (sym first ∙ (ap (λ (i : Iface). signature_at tables i.0 request_side opcode) (sym iface) ∙ s))
    t

room_for : (core : Core) (owes : Bool) → (owes && nat_lt (room_of core.outbox) delete_id_len) ≡ false
    → owes ≡ true → IsTrue (fits core.outbox delete_id_len 0)
room_for core false f t = absurd (cc t)
room_for core true f t = grind (arith, common_steps, nat_tests, f)

-- the reported object does not depend on the state of its row
in_either : (s : State) (object : Object) → reported_object (Some (Obj (in_state s object))) ≡ object
in_either Live object = refl
in_either Zombie object = refl

-- the object that a request's argument names, as it is reported
pub named_object : (r : Reader) (tokens : List ℕ) (id : ℕ) (entry : Entry) → nat_eq id 0 ≡ false
    → r.object id ≡ Some entry
    → reported_object (slice_get (reports_of r tokens (Obj id ∷ [])) 0) ≡ record { id = id; birth = entry.birth }
named_object r tokens id entry z e = rw (z, e) (in_either entry.state (record { id = id; birth = entry.birth }))

-- facts about the object that a request destroys
record IsEnded (core : Core) (object : Object) : Type 0 where
  row : HasRow core.view object
  other : object.id ≢ 1

-- the first message, as it was received
abbrev header_in : Core → Header
header_in core = header_of core.inbox.bytes

received_first : (core : Core) (f : Found) → found core request_side ≡ Ok (Some f)
    → IsReceived core.tables request_side (reader_in core request_side) (header_in core) (length core.inbox.tokens)
    f.message
received_first core f e =
    is_received core.tables request_side (reader_in core request_side) (header_in core) (body_of core f.size)
    (length core.inbox.tokens) f.message (read_at_front core request_side f e).2

target_row : (core : Core) (f : Found) → found core request_side ≡ Ok (Some f)
    → look core.view f.message.target.id ≡ Some f.message.entry
target_row core f e = let r = received_first core f e in ap (look core.view) r.id ∙ r.row

ended_target : (core : Core) (f : Found) → Valid core.tables → HasDisplay core.view
    → found core request_side ≡ Ok (Some f) → f.message.signature.destroys ≡ Target → IsEnded core f.message.target
ended_target core f v d e t =
    let m = f.message in
    let r = received_first core f e in
    let row = target_row core f e in
    record {
      row = record { entry = m.entry; row = row; birth = sym r.birth };
      other = display_lasts core.tables v core.view d m.target.id (header_in core).opcode m.entry m.signature row
          r.signature t;
    }

-- a registry is not wl_display
registry_lasts : (view : Objects) (id : ℕ) (entry : Entry) → HasDisplay view → look view id ≡ Some entry
    → entry.iface.0 ≡ 1 → id ≢ 1
registry_lasts view id entry d row is e =
    let one = sym row ∙ (ap (look view) e ∙ d) in
    let iface : entry.iface ≡ display = cc one in
    let no : 1 ≡ 0 = sym is ∙ ap (λ (i : Iface). i.0) iface in
    cc no

ended_argument : (core : Core) (f : Found) (k : ℕ) → Valid core.tables → HasDisplay core.view
    → found core request_side ≡ Ok (Some f) → f.message.signature.destroys ≡ Arg k
    → IsEnded core (reported_object (slice_get (reported core request_side f.message) k))
ended_argument core f k v d e t =
    let m = f.message in
    let a = argument_received core.tables (reader_in core request_side) (header_in core) (body_of core f.size)
    (length core.inbox.tokens) m k v (read_at_front core request_side f e).2 t in
    let n = a.1 in
    let object : Object = record { id = n.id; birth = n.entry.birth } in
    let same : reported_object (slice_get (reports_of (reader_in core request_side) core.inbox.tokens m.values) k) ≡ object =
    (λ i. reported_object (slice_get (reports_of (reader_in core request_side) core.inbox.tokens (n.are i)) (a.0 i)))
    ∙ named_object (reader_in core request_side) core.inbox.tokens n.id n.entry n.some n.there in
    subst (IsEnded core) (sym same) (record {
      row = record { entry = n.entry; row = n.there; birth = refl };
      other = registry_lasts core.view n.id n.entry d n.there n.registers;
    })

inside : {x y : Object} → Some x ≡ Some y → x ≡ y
inside e = cc e

ended_there : (core : Core) (f : Found) → Valid core.tables → HasDisplay core.view
    → found core request_side ≡ Ok (Some f)
    → (object : Object) → ended_by_request f.message.signature.destroys (report core f) ≡ Some object
    → IsEnded core object
ended_there core f v d e object is = by_what f.message.signature.destroys refl is
  where
    by_what : (what : Destroys) → f.message.signature.destroys ≡ what
        → ended_by_request what (report core f) ≡ Some object → IsEnded core object
    by_what Nothing t k = absurd (cc k)
    by_what Target t k = subst (IsEnded core) (inside k) (ended_target core f v d e t)
    by_what (Arg place) t k = subst (IsEnded core) (inside k) (ended_argument core f place v d e t)

-- whether a delete_id must follow the request
owes_is : (what : Destroys) (report : Report) → needs_delete_id (ended_by_request what report)
    ≡ (destroys_one what && not (is_of_server (ended_object what report).id))
owes_is Nothing report = refl
owes_is Target report = refl
owes_is (Arg place) report = refl

-- it must if the client made the object
owes_one : (core : Core) (f : Found) (object : Object)
    → ended_by_request f.message.signature.destroys (report core f) ≡ Some object
    → is_of_server object.id ≡ false → owes_delete_id core f ≡ true
owes_one core f object is client =
    sym (owes_is f.message.signature.destroys (report core f)) ∙ (ap needs_delete_id is ∙ ap not client)

ended_is : (core : Core) (args : List ParsedArg) (f : Found) (ended : Option Object)
    → HasParsed request_side core args f → IsEndedBy f.message args ended
    → ended ≡ ended_by_request f.message.signature.destroys (report core f)
ended_is core args f ended a k =
    k f.opcode core.view.client.births (body_of core f.size) core.inbox.tokens
    ∙ ap (λ (l : List Reported). ended_by_request f.message.signature.destroys
    (report_with f.message.target f.opcode l))
    (a.parsed.reported core.inbox.tokens)

-- whether there is room for the delete_id
full_by : (core : Core) (args : List ParsedArg) (f : Found) (ended : Option Object) (b : Bool)
    → HasParsed request_side core args f → IsEndedBy f.message args ended
    → (needs_delete_id ended && nat_lt (room_of core.outbox) delete_id_len) ≡ b
    → is_out_full core f ≡ b
full_by core args f ended b a k e =
    ap (λ (x : Bool). x && nat_lt (room_of core.outbox) delete_id_len)
    (sym (ap needs_delete_id (ended_is core args f ended a k)
    ∙ owes_is f.message.signature.destroys (report core f))) ∙ e

-- the object that a request makes can be opened
has_free : (view : Objects) (o : Option NewObject)
    → ((new : NewObject) → o ≡ Some new → (free_or_next view.client new.id ≡ true) × (has_room view.client new.id ≡ true))
    → HasFreeId view o
has_free view None h = tt
has_free view (Some new) h = h new refl

can_apply_found : (core : Core) (f : Found) → Valid core.tables → HasDisplay core.view
    → found core request_side ≡ Ok (Some f) → is_out_full core f ≡ false
    → CanApply core (step_of core f)
can_apply_found core f v d e fits =
    let z = read_at_front core request_side f e in
    let r = received_first core f e in
    let m = f.message in
    record {
      whole = z.0;
      tokens = r.tokens;
      few = omega (
        arith,
        descriptors-le m.signature.kinds,
        few_kinds core.tables v m.entry.iface.0 (header_in core).opcode m.signature
            r.signature,
      );
      birth = refl;
      made = has_free core.view (made_by_request core m)
          (λ new is. new_free_at_server core.tables core.view (header_in core) (body_of core f.size)
          (length core.inbox.tokens) m new v z.2 is);
      ended = λ object is.
          let there = ended_there core f v d e object is in
          record {
            row = there.row;
            not_display = there.other;
            room = λ client. room_for core (owes_delete_id core f) fits (owes_one core f object is client);
          };
    }

-- ---- the request that was read is the one at the front

-- its own tokens are enough for its report
tokens_enough : (core : Core) (f : Found) → found core request_side ≡ Ok (Some f)
    → reports_of (reader_in core request_side) (take (takes f.message) core.inbox.tokens) f.message.values
    ≡ reports_of (reader_in core request_side) core.inbox.tokens f.message.values
tokens_enough core f e =
    let n = takes f.message in
    let tokens = core.inbox.tokens in
    let is = is_found core request_side f e in
    let enough : fds f.message.values ≤ length (take n tokens) = let l = length-take-le n tokens is.enough
    in omega (arith, l, is.count) in
    sym (reports_stay (reader_in core request_side) (take n tokens) (drop n tokens) f.message.values enough)
    ∙ ap (λ (l : List ℕ). reports_of (reader_in core request_side) l f.message.values) (take-append-drop n tokens)

same_step : (core : Core) (args : List ParsedArg) (f : Found) (ended : Option Object)
    → HasParsed request_side core args f → IsEndedBy f.message args ended
    → pending_in core args (pending_of core.tables core.view.client.births ended f) ≡ step_of core f
same_step core args f ended a k =
    let tokens = take (takes f.message) core.inbox.tokens in
    let same : reported_in (body_of core f.size) core.view.client.births tokens args
    ≡ reported core request_side f.message =
    a.parsed.reported tokens ∙ tokens_enough core f a.is_found in
    let ends = ended_is core args f ended a k in
    (λ i. let step = step_of core f in let next : Step =
    record step { report = record step.report { args = same i }; ended = ends i } in next)

-- ---- what `find` returns

-- whether there is too little room for the delete_id of what a pending request destroys
abbrev pub is_full_for : Core → PendingRequest → Bool
is_full_for core p = needs_delete_id p.change.ended && nat_lt (room_of core.outbox) delete_id_len

-- a fault of the first message
pub fault_told : (core : Core) (globals : List Global) (args : List ParsedArg) (fault : Fault)
    → IsFrontMeaning request_side (IsPendingOf globals) core args (Err fault)
    → Answers core globals (Err (errors.Fault fault core.read))
fault_told core globals args fault (inl e) =
    answers_as core globals (Err fault) _ (request_is core globals (Err fault) e) refl
fault_told core globals args fault (inr w) =
    subst (λ (x : Fault). Answers core globals (Err (errors.Fault x core.read))) (sym w.2.0)
    (answers_bad core globals w.0 w.1.is_found w.2.1)

-- the meaning of the first message, if there is one
abbrev pub Meant : Core → List Global → List ParsedArg → Option PendingRequest → Type 0
Meant core globals args request = IsFrontMeaning request_side (IsPendingOf globals) core args (Ok request)

pub none_told : (core : Core) (globals : List Global) → found core request_side ≡ Ok None
    → Answers core globals (Ok None)
none_told core globals e = answers_as core globals (Ok None) _ (request_is core globals (Ok None) e) refl

-- a request that destroys an object, but there is no room for its delete_id
pub full_told : (core : Core) (globals : List Global) (args : List ParsedArg) (p : PendingRequest)
    → IsFrontMeaning request_side (IsPendingOf globals) core args (Ok (Some p)) → is_full_for core p ≡ true
    → Answers core globals (Err errors.OutFull)
full_told core globals args p s full =
    answers_full core globals s.0 s.1.is_found s.2.0
    (full_by core args s.0 p.change.ended true s.1 s.2.1.ended full)

-- the step of a request that can be taken
step_told : (core : Core) (globals : List Global) (args : List ParsedArg) (p : PendingRequest)
    → (s : IsFrontMeaning request_side (IsPendingOf globals) core args (Ok (Some p)))
    → pending_in core args p ≡ step_of core s.0
step_told core globals args p s =
    ap (pending_in core args) s.2.1.same ∙ same_step core args s.0 p.change.ended s.1 s.2.1.ended

pub request_told : (core : Core) (globals : List Global) (args : List ParsedArg) (p : PendingRequest)
    → IsFrontMeaning request_side (IsPendingOf globals) core args (Ok (Some p)) → is_full_for core p ≡ false
    → Answers core globals (Ok (Some (pending_in core args p)))
request_told core globals args p s fits =
    ap (λ (x : Step). let answer : Result (Option Step) NextError = Ok (Some x) in answer)
    (step_told core globals args p s)
    ∙ sym (front_ok core globals s.0 s.1.is_found s.2.0
    (full_by core args s.0 p.change.ended false s.1 s.2.1.ended fits))

pub can_apply_told : (core : Core) (globals : List Global) (args : List ParsedArg) (p : PendingRequest)
    → HasDisplay core.view
    → IsFrontMeaning request_side (IsPendingOf globals) core args (Ok (Some p)) → is_full_for core p ≡ false
    → CanApply core (pending_in core args p)
can_apply_told core globals args p d s fits =
    subst (CanApply core) (sym (step_told core globals args p s))
    (can_apply_found core s.0 s.1.valid d s.1.is_found
    (full_by core args s.0 p.change.ended false s.1 s.2.1.ended fits))

pub entry_told : (core : Core) (globals : List Global) (args : List ParsedArg) (p : PendingRequest)
    → IsFrontMeaning request_side (IsPendingOf globals) core args (Ok (Some p))
    → look core.view p.outline.target.id ≡ Some p.entry
entry_told core globals args p s =
    subst (λ (q : PendingRequest). look core.view q.outline.target.id ≡ Some q.entry) (sym s.2.1.same)
    (target_row core s.0 s.1.is_found)
