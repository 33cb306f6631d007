-- What a client reads does not change when more arrives behind it.
use Rattle.std.proofs.Common.{◌≡◌, ℕ, Bool, true, false, cond, List, refl, sym, ap}
use Rattle.std.specs.declared.option.Option.{Option}
use Rattle.std.specs.declared.option.Option.TheVariants.{None, Some}
use Rattle.wl_sigs.specs.Side.TheVariants.{Event as event_side}
use Rattle.wl_object_map.specs.declared.object.Entry.{Entry}
use Rattle.wl_object_map.specs.declared.object.State.{State as ObjectState}
use Rattle.wl_object_map.specs.declared.object.State.TheVariants.{Live, Zombie}
use Rattle.wl_object_map.specs.View as table
use Rattle.wl_connection.specs.Core.{Core, with_arrived, with_view}
use Rattle.wl_connection.specs.Receiving.{Found}
use Rattle.wl_connection.specs.Reads.{with_arrivals}
use Rattle.wl_connection.proofs.FoundStays.{IsFound, is_found, reported_stays, own_stay, past_stays}
use Rattle.wl_connection.proofs.Roles.{IsRole, of_found}
use Rattle.wl_client.specs.State.{State}
use Rattle.wl_client.specs.Reports.{Report, Event, Discarded, Stray, report, plain_report, error_report}
use Rattle.wl_client.specs.Reports.{delete_report, deleted, deleted_id, is_error_event, is_delete_event}
use Rattle.wl_client.specs.Reports.{view_after, globals_after, object_made, object_replaced, made_by_event, state_past, is_last}
use Rattle.wl_client.specs.Reports.{client_role}
use Rattle.wl_client.specs.Streams.{client_reading}

-- ---- one message

plain_stays : (core : Core) (f : Found) (bytes tokens : List ℕ) (state : ObjectState) → IsFound core event_side f
    → plain_report (with_arrived core bytes tokens) f.opcode f.message state
    ≡ plain_report core f.opcode f.message state
plain_stays core f bytes tokens Live h = ap (λ l. Event f.message.target f.opcode l)
    (reported_stays core event_side f bytes tokens h)
plain_stays core f bytes tokens Zombie h = ap (λ (l : List ℕ). Discarded f.message.target f.opcode l)
    (own_stay core event_side f bytes tokens h)

report_stays : (core : Core) (f : Found) (bytes tokens : List ℕ) → IsFound core event_side f
    → report (with_arrived core bytes tokens) f ≡ report core f
report_stays core f bytes tokens h =
    ap (λ (r : Report). cond (is_error_event f) (error_report core f.message.values)
    (cond (is_delete_event f) (delete_report core (deleted_id f)) r))
    (plain_stays core f bytes tokens f.message.entry.state h)

past_arrived : (state : State) (f : Found) (bytes tokens : List ℕ) → IsFound state.core event_side f
    → state_past (with_arrivals client_reading state bytes tokens) f
    ≡ with_arrivals client_reading (state_past state f) bytes tokens
past_arrived state f bytes tokens h =
    ap (λ (c : Core). record {
      core = record (with_view c (view_after state.core f)) { failed = is_error_event f };
      globals = globals_after state f;
      made = object_made state.core.view (made_by_event state.core f.message);
      replaced = object_replaced state.core.view (made_by_event state.core f.message);
    })
    (past_stays state.core event_side f bytes tokens h)

-- ---- which report is the last

plain_not_last : (core : Core) (f : Found) (state : ObjectState)
    → is_last (plain_report core f.opcode f.message state) ≡ false
plain_not_last core f Live = refl
plain_not_last core f Zombie = refl

deleted_not_last : (id : ℕ) (entry : Option Entry) → is_last (deleted id entry) ≡ false
deleted_not_last id None = refl
deleted_not_last id (Some entry) = refl

either_not_last : (b : Bool) (r q : Report) → is_last r ≡ false → is_last q ≡ false → is_last (cond b r q) ≡ false
either_not_last true r q h g = h
either_not_last false r q h g = g

last_by : (b : Bool) (core : Core) (f : Found) → is_last
    (cond b (error_report core f.message.values) (cond (is_delete_event f) (delete_report core (deleted_id f))
    (plain_report core f.opcode f.message f.message.entry.state))) ≡ b
last_by true core f = refl
last_by false core f =
    either_not_last (is_delete_event f) (delete_report core (deleted_id f))
    (plain_report core f.opcode f.message f.message.entry.state)
    (either_not_last _ (Stray 1) (deleted (deleted_id f) (table.look core.view.client (deleted_id f))) refl
    (deleted_not_last (deleted_id f) (table.look core.view.client (deleted_id f))))
    (plain_not_last core f f.message.entry.state)

-- ---- the laws of a role hold for a client

pub is_role : IsRole client_role
is_role = record {
  laws = record { kept = λ state. refl; new = λ state c. refl; again = λ state c d. refl };
  none_found = λ state e. e;
  is_there = λ state f e. e;
  front_stays = λ state f bytes tokens e. (is_found state.core event_side f e).stays bytes tokens;
  fault_stays = λ state what e. of_found e (λ bytes tokens h. h);
  room_stays = λ state f bytes tokens. refl;
  report_stays = λ state f bytes tokens h. report_stays state.core f bytes tokens h;
  past_stays = past_arrived;
  failing_stays = λ state what bytes tokens. refl;
  past_waits = λ state f. refl;
  past_limit = λ state f. refl;
  failing_waits = λ state what. refl;
  past_failed = λ state f s. sym (last_by (is_error_event f) state.core f);
}
