-- The server's calls that write are steps of a run.
use Rattle.std.proofs.Common.{◌≡◌, ℕ, ◌≤◌, Bool, true, false, cond, List, [], ◌∷◌, ◌++◌, length, map, take, refl}
use Rattle.std.proofs.Common.{sym, ap, subst, ◌∙◌}
use Rattle.std.specs.Prelude.{option_map, nat_eq, ◌&&◌, ◌||◌}
use Rattle.std.specs.declared.option.Option.{Option}
use Rattle.std.specs.declared.option.Option.TheVariants.{None, Some}
use Rattle.std.specs.declared.result.Result.TheVariants.{Ok}
use Rattle.std.proofs.lemmas.List.{append-nil, append_assoc}
use Rattle.std.proofs.lemmas.Bool.{eqb-true}
use Rattle.wl_sigs.specs.Fixed.{display, registry}
use Rattle.wl_sigs.specs.Side.TheVariants.{Event as event_side}
use Rattle.wl_sigs.specs.Tables.{Interface}
use Rattle.wl_sigs.specs.Valid.{Valid}
use Rattle.wl_message.specs.Outgoing.{QueuedMessage}
use Rattle.wl_object_map.specs.declared.object.Maker.TheVariants.{Server}
use Rattle.wl_object_map.specs.declared.object.Object.{Object}
use Rattle.wl_object_map.specs.Objects.{Objects, ObjectsAreSound, can_open}
use Rattle.wl_objects.specs.declared.error.SendError.TheVariants as refusals
use Rattle.wl_objects.specs.Messages.{NewObject, live_row, same_iface}
use Rattle.wl_objects.specs.Writing.{Given}
use Rattle.wl_connection.specs.Core.{Core}
use Rattle.wl_connection.specs.Sending.{made_at, send_answer, with_sent}
use Rattle.wl_server.specs.Announcing.{Due, Owing, Removal, Telling, owed, owed_opcode, values_of, with_dues}
use Rattle.wl_server.specs.Calls.{drop_at, drop_refusal}
use Rattle.wl_server.specs.Registries.{HasRegistries}
use Rattle.wl_server.specs.State.{Global, State, most_globals}
use Rattle.theory_connection.specs.Meant.{Born, Event, Known, Message, born_of_entry, made_in, objects, spelled_coming}
use Rattle.theory_connection.specs.Meant.{spelled_meant}
use Rattle.theory_connection.specs.World.{Each, IfThere, delete}
use Rattle.theory_connection.specs.Flight.{Rows, server_rows}
use Rattle.theory_connection.specs.Runs.{FitsWords}
use Rattle.theory_connection.specs.Stands.{IsGlobal}
use Rattle.theory_connection.proofs.Announces.{IsDue, all_due, core_is, due_args, due_fits, due_message, due_none, each_take}
use Rattle.theory_connection.proofs.Announces.{only_sent}
use Rattle.theory_connection.proofs.Bridges.{server_closed}
use Rattle.theory_connection.proofs.Calls.{LiveAt, is_checked}
use Rattle.theory_connection.proofs.ClientSendMove.{if_map, made_same}
use Rattle.theory_connection.proofs.ReadAsMeant.{made_of}
use Rattle.theory_connection.proofs.RowsAfterMessage.{Aged, server_after_event, there_row}
use Rattle.theory_connection.proofs.ServerSendMoves.{droppable, left_by, there_live, told_fits}
use Rattle.theory_connection.proofs.TwoRanges.{row_word}
use Rattle.theory_connection.proofs.WholeInFlight.{FreshTold, ThereRow, each_by, server_told}
use Rattle.theory_connection.proofs.Written.{accepted_call, call_is, new_birth, new_id, no_delete, opens}
use Rattle.theory_connection.proofs.Written.{the_args, the_call, the_made, the_new}
use Rattle.theory_peers.specs.AnnouncedGlobals.{AnnouncesAdded}
use Rattle.theory_peers.specs.FollowsServer.{after_event}
use Rattle.theory_peers.specs.ServerRun.{HasVersions}
use Rattle.theory_peers.specs.WrittenByServer.{AnnouncesAsSteps, DropsAsStep, MayBeToldInTurn, SendsAsStep, after_events}
use Rattle.theory_peers.specs.WrittenByServer.{all_written}

-- ---- sending

-- an event that is not of wl_display or wl_registry is not wl_registry.global
no_global_of : (of_display of_registry first : Bool) → (of_display || of_registry) ≡ false
    → (of_registry && first) ≡ false
no_global_of true of_registry first h = absurd (cc h)
no_global_of false true first h = absurd (cc h)
no_global_of false false first h = refl

pub sends_step : (core : Core) (target : Object) (opcode : ℕ) (given : List Given) (new : Option Object)
    → Valid core.tables → ObjectsAreSound core.view → core.failed ≡ false → Each FitsWords given
    → send_answer core event_side target opcode given ≡ Ok new → SendsAsStep core target opcode given
sends_step core target opcode given new v sound lives g h =
    let a = accepted_call core event_side target opcode given new lives h in
    let c = is_checked core.outbox.limit.bytes core.tables event_side core.view target opcode given a.signature a.checks in
    let k = call_is core event_side target opcode given a.signature v sound g c in
    let o = opens core Server (made_at core event_side target a.signature given) new a.opens_it in
    let args = the_args core event_side c.entry given a.signature in
    let n = if_map (can_open Server core.view ≡ true) made_of (made_in args)
    (subst (IfThere (λ (x : NewObject). can_open Server core.view ≡ true))
    (made_same core event_side target given a.signature c.entry c.there ∙ k.made_is) o.can) in
    let m = the_call core event_side c.entry target opcode given a.signature in
    let mk = the_made core event_side c.entry given a.signature in
    let fresh = told_fits core.view (the_new core event_side c.entry given a.signature) (made_in m.args) sound
    (new_id Server core.view mk) (new_birth Server core.view mk) k.new n in
    let left = left_by core target opcode given a.signature v a.checks c k in
    record {
      message = m;
      may = record {
        event = record { fits = k.fits_it; no_delete_id = no_delete event_side c.entry.iface opcode c.hidden };
        target = there_live core.view m.target
            (record { entry = c.entry; there = c.there; same = refl; live = c.live });
        args = each_by (LiveAt core.view) (ThereRow (server_rows core.view)) (there_live core.view) (objects m.args)
            k.live;
        new = fresh;
      };
      no_global = no_global_of (same_iface c.entry.iface display) (same_iface c.entry.iface registry) (nat_eq opcode 0)
          c.hidden;
      rows = ap (λ (x : Core). server_rows x.view) left ∙ server_after_event core.view (made_in m.args) m.ends fresh;
      writes = ap (λ (x : Core). x.outbox.messages) left
          ∙ append_assoc core.outbox.messages (spelled_meant m ∷ []) (map spelled_coming (delete m.ends));
    }

-- ---- dropping

pub not_failed : {E : Type 0} (b : Bool) (why : E) (o : Option E) → cond b (Some why) o ≡ None → b ≡ false
not_failed true why o h = absurd (cc h)
not_failed false why o h = refl

pub drops_step : (core : Core) (object : Object) → drop_refusal core object ≡ None → DropsAsStep core object
drops_step core object h =
    let lives = not_failed core.failed refusals.Failed (drop_at core (live_row core.view object)) h in
    let d = droppable core object lives h in
    record {
      dropped = record { id = object.id; born = born_of_entry object.id d.entry };
      may = record { there = ap (option_map (born_of_entry object.id)) d.there; by_event_alone = d.by };
      rows = server_closed core.view object.id;
      writes = refl;
    }

-- ---- announcing

no_objects : (tables : List Interface) (server : Rows Born) (o : Owing) → Each (ThereRow server) (objects (due_args tables o))
no_objects tables server (Removal name) = tt
no_objects tables server (Telling name g) = tt

-- an announcement makes and ends no object
same_rows : (tables : List Interface) (server : Rows Born) (d : Due) (version : ℕ)
    → after_event server (due_message tables d version) ≡ server
same_rows tables server d version = ap (server_told server) (due_none tables d.owing)

-- what the server writes when it announces these
record Announcing (core : Core) (given : List Global) (view : Objects) (dues : List Due) : Type 0 where
  events : List (Message Known)
  may : MayBeToldInTurn core.tables (server_rows view) events
  added : Each (λ m. AnnouncesAdded core.tables given (Event m)) events
  rows : server_rows view ≡ after_events (server_rows view) events
  writes : (with_dues core dues).outbox.messages ≡ core.outbox.messages ++ map spelled_coming (all_written events)

announcing : (core : Core) (given : List Global) (view : Objects) (dues : List Due) → Valid core.tables
    → ObjectsAreSound view → Each (IsDue core.tables given (server_rows view)) dues → Announcing core given view dues
announcing core given view [] v sound i = record {
  events = [];
  may = tt;
  added = tt;
  rows = refl;
  writes = sym (append-nil core.outbox.messages);
}
announcing core given view (d ∷ dues) v sound i =
    let server = server_rows view in
    let due = i.0 in
    let m = due_message core.tables d due.version in
    let one = with_sent core d.object.id (owed_opcode d.owing) (values_of core.tables d.owing) [] in
    let rest = announcing one given view dues v sound i.1 in
    let x : Known = m.target in
    let row = there_row view x due.there in
    let low = (row_word view d.object.id row.entry sound row.there).1 in
    let fitly = due_fits core.tables v given d due.version due.some low d.owing due.owing refl in
    let same = same_rows core.tables server d due.version in
    record {
      events = m ∷ rest.events;
      may = (
        record {
          event = record { fits = fitly.fits; no_delete_id = fitly.no_delete_id };
          target = due.there;
          args = no_objects core.tables server d.owing;
          new = subst (IfThere (FreshTold server)) (sym (due_none core.tables d.owing)) tt;
        },
        subst (λ (r : Rows Born). MayBeToldInTurn core.tables r rest.events) (sym same) rest.may,
      );
      added = (λ h. fitly.tells refl (eqb-true (owed_opcode d.owing) 0 h), rest.added);
      rows = rest.rows ∙ ap (λ (r : Rows Born). after_events r rest.events) (sym same);
      writes = rest.writes
          ∙ ap (λ (l : List QueuedMessage). l ++ map spelled_coming (all_written rest.events))
          (sym (ap (λ (c : Core). c.outbox.messages) (core_is core d due.version))
          ∙ append-nil (core.outbox.messages ++ spelled_meant m ∷ []))
          ∙ append_assoc core.outbox.messages (spelled_meant m ∷ []) (map spelled_coming (all_written rest.events));
    }

pub announces_steps : (state : State) (count : ℕ) → Valid state.core.tables → ObjectsAreSound state.core.view
    → HasVersions (server_rows state.core.view) → length state.globals ≤ most_globals
    → Each (IsGlobal state.core.tables) state.globals
    → HasRegistries state.core.view state.registries → AnnouncesAsSteps state count
announces_steps state count v sound versions few globals registries =
    let view = state.core.view in
    let aged : Aged view = λ id e h. versions id (born_of_entry id e) (ap (option_map (born_of_entry id)) h) in
    let due = each_take (IsDue state.core.tables state.globals (server_rows view)) count (owed state)
    (all_due state.core.tables state.globals view state.registries few globals aged registries.only) in
    let all = announcing state.core state.globals view (take count (owed state)) v sound due in
    record {
      events = all.events;
      may = all.may;
      added = all.added;
      rows = ap (λ (c : Core). server_rows c.view) (only_sent state.core (take count (owed state))) ∙ all.rows;
      writes = all.writes;
    }
