-- The client's read of an event is a step of a run.
use Rattle.std.proofs.Common.{◌≡◌, ℕ, Bool, true, false, cond, List, [], ◌∷◌, length, map, take, drop, refl, sym}
use Rattle.std.proofs.Common.{ap, subst, ◌∙◌, arith}
use Rattle.std.specs.Prelude.{◌&&◌, nat_eq, option_map}
use Rattle.std.specs.declared.option.Option.{Option}
use Rattle.std.specs.declared.option.Option.TheVariants.{None, Some}
use Rattle.std.specs.declared.result.Result.TheVariants.{Ok}
use Rattle.std.proofs.lemmas.Bool.{and_parts, eqb-true, ne_eqb}
use Rattle.wl_sigs.specs.Side.TheVariants.{Event}
use Rattle.wl_sigs.specs.Fixed.{registry}
use Rattle.wl_sigs.specs.Valid.{Valid}
use Rattle.wl_message.specs.Arrived.{in_front}
use Rattle.wl_message.specs.declared.amounts.Sizes.{Sizes}
use Rattle.wl_message.specs.Cut.{Whole}
use Rattle.wl_object_map.specs.declared.object.Entry.{Entry}
use Rattle.wl_object_map.specs.declared.object.State.{State as ObjectState}
use Rattle.wl_object_map.specs.declared.object.State.TheVariants as states
use Rattle.wl_object_map.specs.Objects.{Objects, ObjectsAreSound, closed, look}
use Rattle.wl_object_map.specs.ObjectsLaws.{is_from}
use Rattle.wl_object_map.specs.Ranges.{is_of_server}
use Rattle.wl_object_map.specs.View as table
use Rattle.wl_object_map.specs.Views.{at_null, in_list, in_row, place_of_id, unused}
use Rattle.wl_object_map.specs.View.{lives}
use Rattle.wl_objects.specs.Messages.{after_delete_id, is_delete_id, is_error, same_iface}
use Rattle.wl_connection.specs.Receiving.{Found, found, found_at, found_in, header_of}
use Rattle.wl_client.specs.Reports as reports
use Rattle.wl_client.specs.Reports.{deleted_id, delete_report, report, view_after}
use Rattle.wl_client.specs.State.{State}
use Rattle.wl_server.specs.State as server
use Rattle.wl_check.specs.Session.{Judged}
use Rattle.theory_connection.specs.Meant.{Arg, Born, Known, Message, born_of_entry, made_in, objects, wire}
use Rattle.theory_connection.specs.World.{IfThere, Row, is_open_row, is_registry}
use Rattle.theory_connection.specs.Flight.{IsHeldInRows, Rows, as_row, at, client_rows, row_of_entry}
use Rattle.theory_connection.specs.Pair.{PairState}
use Rattle.theory_connection.specs.Stands.{FitsSignature}
use Rattle.theory_connection.proofs.Bridges.{client_closed}
use Rattle.theory_connection.proofs.EndedObject.{Mortal, ends_have, if_by}
use Rattle.theory_connection.proofs.EventRead.{event_answer, teaches}
use Rattle.theory_connection.proofs.FoundInFront.{the_found, the_message}
use Rattle.theory_connection.proofs.RowsAfterMessage.{client_after_event, held_row}
use Rattle.theory_connection.proofs.TwoRanges.{row_of_client}
use Rattle.theory_connection.proofs.WholeInFlight.{OfClient, client_ends, client_told}
use Rattle.theory_peers.specs.AcceptedEvent.{ServerMessage}
use Rattle.theory_peers.specs.FollowsClient.{ComesRightly, Deletes, FollowsClient, TakesId, after_learning}
use Rattle.theory_peers.specs.FollowsClient.{without_taken}
use Rattle.theory_peers.specs.ReadByClient.{IsReadByClient, ReadsAsClientStep, SpellsEvent}
use Rattle.theory_peers.proofs.ClientMoves.{TakesAt, takes_at}
use Rattle.theory_peers.proofs.ClientReads.{read_by_client}
use Rattle.theory_peers.proofs.RecordedForClient.{is_delete}

open_is : (s : ObjectState) (b : Born) → is_open_row (Some (as_row s b)) ≡ lives s
open_is states.Live b = refl
open_is states.Zombie b = refl

-- what the client learns is the same by its objects and by its rows
learned_same : (state : State) (m : Message Known) (entry : Entry) → look state.core.view m.target.id ≡ Some entry
    → cond (teaches m entry) (reports.globals_told state.core.tables state.globals m.opcode (map wire m.args)) state.globals
    ≡ after_learning state.core.tables (client_rows state.core.view) m state.globals
learned_same state m entry there =
    let live : is_open_row ((client_rows state.core.view).rows m.target.id) ≡ lives entry.state =
    ap (λ (o : Option Entry). is_open_row (option_map (row_of_entry m.target.id) o)) there
    ∙ open_is entry.state (born_of_entry m.target.id entry) in
    λ i. cond (is_registry m.target.born && sym live i)
    (reports.globals_told state.core.tables state.globals m.opcode (map wire m.args)) state.globals

-- ---- the client's table has no id of the server

none_of_server : (v : Objects) (id : ℕ) → ObjectsAreSound v → is_of_server id ≡ true → table.look v.client id ≡ None
none_of_server v id s range =
    let top = s.client.ids_end in
    let from = is_from id range in
    elim (place_of_id v.client s.client id) [
      | in_row d l t a b ↦ absurd (omega (arith, b, top, from))
      | in_list l t a b ↦ l
      | at_null l t z ↦ l
      | unused l t a ↦ l
    ]

-- ---- a delete_id

-- what a delete_id does at the client
record DeleteLeaves (state : State) (s : ServerMessage) (id : ℕ) : Type 0 where
  takes_back : IfThere (λ x. delete_report state.core id
      ≡ reports.Deleted (record { id = x.id; birth = x.born.birth.number })) s.takes_back
  rows : client_rows (after_delete_id state.core.view id)
      ≡ without_taken s.takes_back (client_rows state.core.view)

delete_leaves : (state : State) (s : ServerMessage) (id : ℕ) (o : Option Known) → ObjectsAreSound state.core.view
    → s.takes_back ≡ o → TakesId id o → IfThere Mortal o → IfThere OfClient o
    → IfThere (IsHeldInRows (client_rows state.core.view)) o → DeleteLeaves state s id
delete_leaves state s id None sound is takes mortal range held =
    let none = none_of_server state.core.view id sound takes in
    record {
      takes_back = subst (IfThere (λ x. delete_report state.core id
          ≡ reports.Deleted (record { id = x.id; birth = x.born.birth.number }))) (sym is) tt;
      rows = (let same : after_delete_id state.core.view id ≡ state.core.view = rw none refl in ap client_rows same)
          ∙ ap (λ (t : Option Known). without_taken t (client_rows state.core.view)) (sym is);
    }
delete_leaves state s id (Some x) sound is takes mortal range held =
    let v = state.core.view in
    let r = held_row v x held in
    let b : nat_eq x.id 1 ≡ false = ne_eqb x.id 1 mortal in
    let l = row_of_client v x.id r.entry range r.there in
    let gone : after_delete_id v x.id ≡ closed v x.id = rw (l, b) refl in
    let number : r.entry.birth ≡ x.born.birth.number = ap (λ (y : Born). y.birth.number) r.same in
    let tells : delete_report state.core x.id ≡ reports.Deleted (record { id = x.id; birth = r.entry.birth }) =
    rw (b, l) refl in
    record {
      takes_back = subst (IfThere (λ y. delete_report state.core id
          ≡ reports.Deleted (record { id = y.id; birth = y.born.birth.number }))) (sym is)
          (ap (delete_report state.core) (sym takes) ∙ tells
          ∙ ap (λ (n : ℕ). reports.Deleted (record { id = x.id; birth = n })) number);
      rows = ap (λ (n : ℕ). client_rows (after_delete_id v n)) (sym takes) ∙ ap client_rows gone ∙ client_closed v x.id
          ∙ ap (λ (t : Option Known). without_taken t (client_rows v)) (sym is);
    }

delete_step : (state : State) (s : ServerMessage) (n : ℕ) (r : IsReadByClient state.core.tables state.core.view
    s.event (header_of state.core.inbox.bytes) (drop 8 (take n state.core.inbox.bytes)) (length state.core.inbox.tokens))
    (fits : FitsSignature state.core.tables Event s.event) (told : List ServerMessage) (common : Rows Row)
    → found state.core Event ≡ Ok (Some (the_found n s.event r.entry fits.signature))
    → Valid state.core.tables → ObjectsAreSound state.core.view
    → TakesAt state.core.tables told (client_rows state.core.view) common s
    → is_delete_id Event s.event.target.born.iface s.event.opcode ≡ true → Deletes s.event.args s.takes_back
    → ReadsAsClientStep state s
delete_step state s n r fits told common finds valid sound t is takes =
    let core = state.core in
    let m = s.event in
    let d = is_delete core.tables m fits valid is in
    let one = the_found n m r.entry fits.signature in
    let iface : m.target.born.iface.0 ≡ 0 =
    eqb-true m.target.born.iface.0 0 (and_parts (nat_eq m.target.born.iface.0 0) (nat_eq m.opcode 1) is).0 in
    let own : r.entry.iface.0 ≡ 0 = ap (λ (b : Born). b.iface.0) r.same ∙ iface in
    let deletes : is_delete_id Event r.entry.iface m.opcode ≡ true =
    ap (λ (b : Born). is_delete_id Event b.iface m.opcode) r.same ∙ is in
    let error : is_error Event r.entry.iface m.opcode ≡ false =
    ap (λ (b : Born). is_error Event b.iface m.opcode) r.same ∙ fits.no_error in
    let no_registry : is_registry m.target.born ≡ false = rw iface refl in
    let own_registry : same_iface r.entry.iface registry ≡ false = rw own refl in
    let id_is : deleted_id one ≡ takes.id =
    ap (λ (l : List (Arg Known)). reports.number_in (reports.argument (map wire l) 0)) takes.args_are in
    let same : client_ends m.ends (client_told (client_rows core.view) (made_in m.args)) ≡ client_rows core.view =
    λ i. client_ends (d.ends_are i) (client_told (client_rows core.view) (made_in (takes.args_are i))) in
    let held = subst (λ (v : Rows Row). IfThere (IsHeldInRows v) s.takes_back) same t.held in
    let l = delete_leaves state s takes.id s.takes_back sound refl takes.takes t.mortal t.range held in
    let view_is : view_after core one ≡ after_delete_id core.view takes.id =
    rw (error, deletes) (ap (after_delete_id core.view) id_is) in
    let report_is : report core one ≡ delete_report core takes.id =
    rw (error, deletes) (ap (delete_report core) id_is) in
    record {
      it = one;
      finds = finds;
      entry = r.entry;
      there = r.there;
      same = r.same;
      target = refl;
      opcode = refl;
      values = refl;
      named = r.named;
      reports = λ h. absurd (cc (is, h));
      takes_back = if_by (λ x h. report_is ∙ h) s.takes_back l.takes_back;
      rows = ap client_rows view_is ∙ l.rows
          ∙ ap (without_taken s.takes_back) (sym same);
      globals = rw (own_registry, no_registry) refl;
      writes = refl;
      goes_on = error;
    }

-- ---- any other event

event_step : (state : State) (s : ServerMessage) (n : ℕ) (r : IsReadByClient state.core.tables state.core.view
    s.event (header_of state.core.inbox.bytes) (drop 8 (take n state.core.inbox.bytes)) (length state.core.inbox.tokens))
    (fits : FitsSignature state.core.tables Event s.event) (told : List ServerMessage) (common : Rows Row)
    → found state.core Event ≡ Ok (Some (the_found n s.event r.entry fits.signature))
    → Valid state.core.tables
    → TakesAt state.core.tables told (client_rows state.core.view) common s
    → is_delete_id Event s.event.target.born.iface s.event.opcode ≡ false → s.takes_back ≡ None
    → ReadsAsClientStep state s
event_step state s n r fits told common finds valid t other none =
    let core = state.core in
    let m = s.event in
    let sizes : Sizes = record { out_bytes = 0; out_tokens = 0; in_bytes = 0; in_tokens = 0; limit = core.inbox.limit } in
    let p : PairState = record {
      client = state;
      server = server.new_state core.tables sizes;
      recording = [];
      ended_at = None;
    } in
    let a = event_answer p m n r.entry core.tables fits valid refl other r.same in
    let new = made_in m.args in
    let held : IfThere (IsHeldInRows (client_rows core.view)) m.ends =
    ends_have (IsHeldInRows (client_rows core.view)) core.tables Event m fits t.event.target t.event.args in
    let rows = client_after_event core.view new m.ends t.event.new (if_by (held_row core.view) m.ends held) t.event.range in
    record {
      it = the_found n m r.entry fits.signature;
      finds = finds;
      entry = r.entry;
      there = r.there;
      same = r.same;
      target = refl;
      opcode = refl;
      values = refl;
      named = r.named;
      reports = λ h. a.tells_it;
      takes_back = subst (IfThere (λ x. report core (the_found n m r.entry fits.signature)
          ≡ reports.Deleted (record { id = x.id; birth = x.born.birth.number }))) (sym none) tt;
      rows = ap (λ (st : State). client_rows st.core.view) a.leaves ∙ rows
          ∙ ap (λ (o : Option Known). without_taken o (client_ends m.ends (client_told (client_rows core.view) new)))
          (sym none);
      globals = ap (λ (st : State). st.globals) a.leaves ∙ learned_same state m r.entry r.there;
      writes = refl;
      goes_on = ap (λ (st : State). st.core.failed) a.leaves;
    }

-- ---- either

pub client_reads_step : (state : State) (e : List Judged) (asked : List (Message Known)) (s : ServerMessage)
    (told : List ServerMessage) (n : ℕ) → Valid state.core.tables → ObjectsAreSound state.core.view
    → FollowsClient state.core.tables e asked (s ∷ told) (client_rows state.core.view) state.globals
    → in_front state.core.inbox ≡ Whole n
    → SpellsEvent state.core.tables s.event (header_of state.core.inbox.bytes)
    (drop 8 (take n state.core.inbox.bytes)) (length state.core.inbox.tokens)
    → ReadsAsClientStep state s
client_reads_step state e asked s told n v sound f front p =
    let core = state.core in
    let m = s.event in
    let c = f.tells_fit.0 in
    let fits = c.fits in
    let bytes = core.inbox.bytes in
    let r = read_by_client core.tables e asked s told core.view state.globals (header_of bytes) (drop 8 (take n bytes))
    (length core.inbox.tokens) v f p in
    let both : Some r.signature ≡ Some fits.signature = sym r.signed ∙ fits.there in
    let same : r.signature ≡ fits.signature = cc both in
    let found_is : found core Event ≡ Ok (Some (the_found n m r.entry fits.signature)) =
    ap (found_at core Event) front ∙ ap (found_in n (header_of bytes).opcode) r.is
    ∙ (λ i. Ok (Some (let one : Found = record {
      size = n;
      opcode = p.opcode i;
      message = the_message m r.entry (same i);
    } in one))) in
    let t = takes_at core.tables told (client_rows core.view) f.joins.common s f.joins.reads in
    by_kind (is_delete_id Event m.target.born.iface m.opcode) refl r fits found_is t c
  where
    by_kind : (b : Bool) → is_delete_id Event s.event.target.born.iface s.event.opcode ≡ b
        → (r : IsReadByClient state.core.tables state.core.view s.event (header_of state.core.inbox.bytes)
        (drop 8 (take n state.core.inbox.bytes)) (length state.core.inbox.tokens))
        → (fits : FitsSignature state.core.tables Event s.event)
        → found state.core Event ≡ Ok (Some (the_found n s.event r.entry fits.signature))
        → TakesAt state.core.tables told (client_rows state.core.view) f.joins.common s
        → ComesRightly state.core.tables s → ReadsAsClientStep state s
    by_kind true is r fits finds t c =
        delete_step state s n r fits told f.joins.common finds v sound t is (c.deletes is)
    by_kind false is r fits finds t c =
        event_step state s n r fits told f.joins.common finds v t is (c.keeps is)
