-- An object that a message replaced was live, no request could end it, and its id has a later birth.
use Rattle.std.proofs.Common.{◌≡◌, ℕ, ◌+◌, ◌<◌, Bool, true, false, cond, not, ◌&&◌, Some, None, refl, sym, ap, subst, ◌∙◌}
use Rattle.std.proofs.Common.{inl, inr}
use Rattle.std.specs.Prelude.{Option, nat_eq, nat_le, if◌then◌else◌}
use Rattle.std.specs.declared.result.Result.{Result}
use Rattle.std.specs.declared.result.Result.TheVariants.{Ok, Err}
use Rattle.std.proofs.lemmas.Bool.{and_parts}
use Rattle.wl_sigs.specs.Side.TheVariants.{Request as request_side}
use Rattle.wl_sigs.specs.Side.TheVariants.{Event as event_side}
use Rattle.wl_sigs.specs.Fixed.{display}
use Rattle.wl_sigs.specs.Rules.{is_ended_by_request}
use Rattle.wl_sigs.specs.Tables.{interface_at}
use Rattle.wl_sigs.specs.Valid.{Valid}
use Rattle.wl_sigs.specs.Destroys.{Destroys}
use Rattle.wl_sigs.specs.Destroys.TheVariants.{Nothing, Target, Arg}
use Rattle.wl_object_map.specs.declared.object.Object.{Object}
use Rattle.wl_object_map.specs.declared.object.Entry.{Entry}
use Rattle.wl_object_map.specs.Ranges.{is_of_server, table_id}
use Rattle.wl_object_map.specs.View as table
use Rattle.wl_object_map.specs.View.{View, lives, zombie}
use Rattle.wl_object_map.specs.Objects.{Objects, ObjectsAreSound, births, look, opened_at, zombied}
use Rattle.wl_object_map.specs.ObjectsLaws.{in_range-server, row-opened_at, row-zombied}
use Rattle.wl_objects.specs.declared.error.Fault.{Fault}
use Rattle.wl_objects.specs.declared.error.NextError.TheVariants as errors
use Rattle.wl_objects.specs.Messages.{NewObject, after, ended_id, same_iface, waits_for_request}
use Rattle.wl_connection.specs.Receiving.{Found, found, header_of, reader_in}
use Rattle.wl_connection.specs.Roles.{front_answer, front_left}
use Rattle.wl_connection.proofs.Frames.{read_at_front}
use Rattle.wl_connection.proofs.NewIds.{new_free_at_client}
use Rattle.wl_connection.proofs.ReceivedMessage.{is_received}
use Rattle.wl_client.specs.State.{State}
use Rattle.wl_client.specs.Replacing.{IsReplaced}
use Rattle.wl_client.specs.Reports.{Report, after_next, client_role, is_delete_event, is_error_event, live_object}
use Rattle.wl_client.specs.Reports.{made_by_event, next_answer, object_made, object_replaced, state_past, view_after}
use Rattle.wl_client.proofs.Makings.{display_makes_none}

-- ---- the row at the id after the message

at_opening : (view : Objects) (m : NewObject) (e : Entry)
    → look (opened_at view m.id m.iface m.version) m.id ≡ Some e → e.birth ≡ births view m.id
at_opening view m e h = elim (row-opened_at view m.id m.iface m.version m.id e h) [
  | inl new ↦ ap (λ (x : Entry). x.birth) new.1
  | inr old ↦ absurd (old.0 refl)
]

zombie_birth : (b : Bool) (d : Entry) → (cond b (zombie d) d).birth ≡ d.birth
zombie_birth true d = refl
zombie_birth false d = refl

at_ending : (view : Objects) (m : NewObject) (target : ℕ) (e : Entry)
    → look (zombied (opened_at view m.id m.iface m.version) target) m.id ≡ Some e → e.birth ≡ births view m.id
at_ending view m target e h =
    let z = row-zombied (opened_at view m.id m.iface m.version) target m.id e h in
    ap (λ (x : Entry). x.birth) z.1.1 ∙ zombie_birth _ z.0 ∙ at_opening view m z.0 z.1.0

at_message : (view : Objects) (m : NewObject) (what : Destroys) (target : ℕ) (e : Entry)
    → look (after request_side view (Some m) what target) m.id ≡ Some e → e.birth ≡ births view m.id
at_message view m Nothing target e h = at_opening view m e h
at_message view m Target target e h = at_ending view m target e h
at_message view m (Arg place) target e h = at_ending view m target e h

-- ---- one message

not_waiting : (a b : Bool) → a ≡ true → not (a && b) ≡ true → b ≡ false
not_waiting true false a n = refl
not_waiting true true a n = absurd (cc n)
not_waiting false b a n = absurd (cc a)

-- a message of wl_display makes no object
not_display : (state : State) (f : Found) (m : NewObject) → Valid state.core.tables
    → found state.core event_side ≡ Ok (Some f) → made_by_event state.core f.message ≡ Some m
    → same_iface f.message.entry.iface display ≡ false
not_display state f m v e is = by_test (same_iface f.message.entry.iface display) refl
  where
    by_test : (b : Bool) → same_iface f.message.entry.iface display ≡ b
        → same_iface f.message.entry.iface display ≡ false
    by_test false t = t
    by_test true t =
        let front = read_at_front state.core event_side f e in
        let p = is_received state.core.tables event_side (reader_in state.core event_side)
        (header_of state.core.inbox.bytes) _ _ f.message front.2 in
        let none : made_by_event state.core f.message ≡ None =
        display_makes_none state.core.tables f.message.entry (header_of state.core.inbox.bytes).opcode
        f.message.entry.version f.message.signature f.message.values v p.signature t in
        absurd (let no = sym is ∙ none in cc no)

left : (state : State) (f : Found) (m : NewObject) → Valid state.core.tables
    → found state.core event_side ≡ Ok (Some f) → made_by_event state.core f.message ≡ Some m
    → view_after state.core f ≡ after request_side state.core.view (Some m) f.message.signature.destroys
    (ended_id f.message.signature.destroys f.message.target.id f.message.values)
left state f m v e is =
    let other = not_display state f m v e is in
    let error : is_error_event f ≡ false = ap (λ (b : Bool). b && nat_eq f.opcode 0) other in
    let delete : is_delete_event f ≡ false = ap (λ (b : Bool). b && nat_eq f.opcode 1) other in
    rw (error, delete, is) refl

over_row : (state : State) (f : Found) (m : NewObject) (entry : Entry) → Valid state.core.tables
    → ObjectsAreSound state.core.view → found state.core event_side ≡ Ok (Some f)
    → made_by_event state.core f.message ≡ Some m → look state.core.view m.id ≡ Some entry
    → lives entry.state ≡ true
    → IsReplaced state (state_past state f) (record { id = m.id; birth = entry.birth })
over_row state f m entry v s e is row live =
    let front = read_at_front state.core event_side f e in
    let free = new_free_at_client state.core.tables state.core.view (header_of state.core.inbox.bytes) _ _ f.message m
    v front.2 is in
    let may = and_parts (is_of_server m.id && not (waits_for_request state.core.tables (look state.core.view m.id)))
    (nat_le (table_id m.id) (state.core.view.server.used + 1)) free.0 in
    let ids = and_parts (is_of_server m.id) (not (waits_for_request state.core.tables (look state.core.view m.id)))
    may.0 in
    let unwaited : not (waits_for_request state.core.tables (Some entry)) ≡ true =
    ap (λ (o : Option Entry). not (waits_for_request state.core.tables o)) (sym row) ∙ ids.1 in
    let born : entry.birth < state.core.view.server.births =
    s.server.born (table_id m.id) entry (sym (in_range-server table.look state.core.view m.id ids.0) ∙ row) in
    let of_range : births state.core.view m.id ≡ state.core.view.server.births =
    in_range-server (λ (w : View) (place : ℕ). w.births) state.core.view m.id ids.0 in
    record {
      entry = entry;
      was = row;
      birth = refl;
      live = live;
      unended = not_waiting (lives entry.state)
          (is_ended_by_request entry.version (interface_at state.core.tables entry.iface.0)) live unwaited;
      new = record { id = m.id; birth = births state.core.view m.id };
      made = ap (object_made state.core.view) is;
      same_id = refl;
      later = subst (λ (n : ℕ). entry.birth < n) (sym of_range) born;
      gone = λ last there. at_message state.core.view m f.message.signature.destroys
          (ended_id f.message.signature.destroys f.message.target.id f.message.values) last
          (ap (λ (o : Objects). look o m.id) (sym (left state f m v e is)) ∙ there);
    }

over_message : (state : State) (f : Found) (old : Object) (new : Option NewObject) → Valid state.core.tables
    → ObjectsAreSound state.core.view → found state.core event_side ≡ Ok (Some f)
    → made_by_event state.core f.message ≡ new → object_replaced state.core.view new ≡ Some old
    → IsReplaced state (state_past state f) old
over_message state f old None v s e is h = absurd (cc h)
over_message state f old (Some m) v s e is h = by_row (look state.core.view m.id) refl h
  where
    by_life : (entry : Entry) (b : Bool) → look state.core.view m.id ≡ Some entry → lives entry.state ≡ b
        → (if b then Some (record { id = m.id; birth = entry.birth }) else None) ≡ Some old
        → IsReplaced state (state_past state f) old
    by_life entry false row l k = absurd (cc k)
    by_life entry true row l k =
        let same : record { id = m.id; birth = entry.birth } ≡ old = cc k in
        subst (λ (o : Object). IsReplaced state (state_past state f) o) same (over_row state f m entry v s e is row l)

    by_row : (o : Option Entry) → look state.core.view m.id ≡ o → live_object m.id o ≡ Some old
        → IsReplaced state (state_past state f) old
    by_row None row k = absurd (cc k)
    by_row (Some entry) row k = by_life entry (lives entry.state) row refl k

-- ---- `next`

pub replaced_over : (state : State) (report : Report) (old : Object) → Valid state.core.tables
    → ObjectsAreSound state.core.view → next_answer state ≡ Ok (Some report)
    → (after_next state).replaced ≡ Some old → IsReplaced state (after_next state) old
replaced_over state report old v s e h =
    by_front state.core.failed (found state.core event_side) refl e h
  where
    by_front : (b : Bool) (x : Result (Option Found) Fault) → found state.core event_side ≡ x
        → (if b then Err errors.Failed else front_answer client_role state.core x) ≡ Ok (Some report)
        → (if b then state else front_left client_role state x).replaced ≡ Some old
        → IsReplaced state (if b then state else front_left client_role state x) old
    by_front true x is k r = absurd (cc k)
    by_front false (Err fault) is k r = absurd (cc k)
    by_front false (Ok None) is k r = absurd (cc k)
    by_front false (Ok (Some f)) is k r =
        over_message state f old (made_by_event state.core f.message) v s is refl r
