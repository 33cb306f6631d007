-- The server writes an event, or ends an object without one.
use Rattle.std.proofs.Common.{◌≡◌, ◌≢◌, ◌≤◌, ℕ, true, false, List, [], ◌∷◌, ◌++◌, map, refl, sym, ap, subst, ◌∙◌}
use Rattle.std.proofs.Common.{inl, inr}
use Rattle.std.specs.Prelude.{option_map}
use Rattle.std.proofs.lemmas.Bool.{cases_Bool}
use Rattle.std.specs.declared.option.Option.TheVariants.{None, Some}
use Rattle.wl_sigs.specs.Fixed.{registry}
use Rattle.wl_object_map.specs.Ranges.{is_of_server}
use Rattle.wl_objects.specs.Messages.{opens as opens_view}
use Rattle.theory_connection.specs.Meant.{made_in, rearg}
use Rattle.theory_connection.specs.Stands.{MadePlain}
use Rattle.theory_connection.proofs.ReadAsMeant.{made_of}
use Rattle.theory_connection.proofs.RequestRead.{plain_after, plain_event}
use Rattle.std.proofs.lemmas.List.{append_assoc}
use Rattle.wl_sigs.specs.Side.TheVariants.{Event as event_side}
use Rattle.wl_objects.specs.Writing.{message_len}
use Rattle.wl_object_map.specs.Objects.{look, closed}
use Rattle.wl_connection.specs.Core.{Core}
use Rattle.wl_connection.proofs.Messages.{whole_within}
use Rattle.wl_server.proofs.Registries.{has_fewer}
use Rattle.theory_connection.specs.Meant.{Born, Known, Message, Coming, Event, Delete, renamed}
use Rattle.theory_connection.specs.Meant.{born_of, wire, spelled_meant, spelled_coming, objects, born_of_entry}
use Rattle.theory_connection.specs.Meant.{live_entry}
use Rattle.theory_connection.specs.World.{World, display_born, Each, delete, event_written, dropped, IfThere}
use Rattle.theory_connection.specs.Pair.{PairState, with_server_core}
use Rattle.theory_connection.specs.Flight.{Rows, MeetInMiddle, tells, all_asks, all_tells, client_rows, server_rows}
use Rattle.theory_connection.proofs.NoneMade.{tells_none}
use Rattle.theory_connection.specs.Stands.{StandsBy, TellsFitly}
use Rattle.theory_connection.proofs.WholeInFlight.{ThereRow, OfClient, FreshTold, server_told, server_ends, tell_meets}
use Rattle.theory_connection.proofs.WholeInFlight.{drop_meets, all_tells_more}
use Rattle.theory_connection.proofs.Bridges.{server_closed}
use Rattle.theory_connection.proofs.RowsAfterMessage.{there_row, server_after_event, made_map}
use Rattle.theory_connection.proofs.Stands.{server_message, server_event, travel_more}
use Rattle.theory_connection.proofs.Registries.{no_registry, has_told}
use Rattle.theory_connection.proofs.Rules.{display_plain}
use Rattle.theory_connection.proofs.RequestRead.{follow_more, follow_delete, begins_delete, test_of}
use Rattle.theory_connection.proofs.RequestRead.{delete_whole, map_delete, delete_fits, low_there}
use Rattle.theory_connection.proofs.EndedObject.{Mortal, ended_view, ends_have, both_if}
use Rattle.theory_connection.specs.World.{Running}
use Rattle.theory_connection.specs.Stands.{quiet}
use Rattle.theory_connection.proofs.Errors.{nothing_behind, no_mark}

-- An event that the server can write: it fits, its objects are open there, its new object is fresh,
-- and it is not too long.
pub record CanTell (p : PairState) (m : Message Known) : Type 0 where
  pub fitly : TellsFitly p.server.core.tables p.server.globals m
  pub target : ThereRow (server_rows p.server.core.view) m.target
  pub args : Each (ThereRow (server_rows p.server.core.view)) (objects m.args)
  pub new : IfThere (FreshTold (server_rows p.server.core.view)) (made_in m.args)
  pub new_plain : IfThere (λ x. test_of p x.born ≡ false) (made_in m.args)
  pub new_other : IfThere (λ x. x.born.iface ≢ registry) (made_in m.args)
  pub ends : IfThere (λ x. test_of p x.born ≡ true) m.ends
  pub short : message_len (map wire m.args) ≤ p.server.core.outbox.limit.bytes

-- an object that ends by an event is not wl_display
pub there_mortal : (p : PairState) (w : World) (asked : List (Message Known)) (told : List (Coming Known))
    → StandsBy p w asked told → (x : Known) → ThereRow (server_rows p.server.core.view) x → test_of p x.born ≡ true
    → x.id ≢ 1
there_mortal p w asked told s x h e one =
    let r = there_row p.server.core.view x h in
    let q : Some r.entry ≡ Some (live_entry display_born) =
    sym r.there ∙ ap (look p.server.core.view) one ∙ s.server.display in
    let same : r.entry ≡ live_entry display_born = cc q in
    let born : x.born ≡ display_born = sym r.same ∙ ap (born_of_entry x.id) same
    ∙ ap (λ (i : ℕ). born_of_entry i (live_entry display_born)) one in
    let no : true ≡ false = sym e ∙ ap (test_of p) born ∙ display_plain p.server.core.tables s.terms.valid in
    cc no

-- an object that ends by an event was made by the client
pub there_client : (p : PairState) (w : World) (asked : List (Message Known)) (told : List (Coming Known))
    → StandsBy p w asked told → (x : Known) → ThereRow (server_rows p.server.core.view) x → test_of p x.born ≡ true
    → OfClient x
there_client p w asked told s x h e = elim (cases_Bool (is_of_server x.id)) [
  | inl l ↦ (let no = (s.plain x.id x.born l h).0 in absurd (cc (no, e)))
  | inr l ↦ l
]

-- the server's core after the event
abbrev pub told_core : Core → Message Known → Core
told_core c m = record c {
  view = ended_view event_side (opens_view c.view (option_map made_of (made_in m.args))) m.ends;
  outbox = record c.outbox {
    messages = (c.outbox.messages ++ spelled_meant m ∷ [])
        ++ map spelled_coming (delete m.ends);
  };
}

-- after the server has written an event the pair represents the next world
pub tell_stands : (p : PairState) (w : World) (asked : List (Message Known)) (told : List (Coming Known))
    (s : StandsBy p w asked told) (m : Message Known) (c : CanTell p m) → w.stage ≡ Running
    → StandsBy (with_server_core p (told_core p.server.core m)) (event_written w (renamed born_of m)) asked
    (told ++ (Event m ∷ delete m.ends))
tell_stands p w asked told s m c z =
    let f = c.fitly.fits in
    let v = p.server.core.view in
    let there : IfThere (ThereRow (server_rows v)) m.ends =
    ends_have (ThereRow (server_rows v)) p.server.core.tables event_side m f c.target c.args in
    let mortal : IfThere Mortal m.ends = both_if (there_mortal p w asked told s) m.ends there c.ends in
    let range : IfThere OfClient m.ends = both_if (there_client p w asked told s) m.ends there c.ends in
    let new = made_in m.args in
    let world_new : made_in (map (rearg born_of) m.args) ≡ option_map born_of new = made_map born_of m.args in
    let rows : server_rows (ended_view event_side (opens_view v (option_map made_of new)) m.ends)
    ≡ server_ends m.ends (server_told (server_rows v) new) =
    server_after_event v new m.ends c.new in
    let news = Event m ∷ delete m.ends in
    record {
      terms = s.terms;
      client = s.client;
      server = rw world_new (server_event s.server new m.ends c.new f.new_version there mortal);
      plain = subst (MadePlain (test_of p)) (sym rows)
          (plain_event (test_of p) (server_rows v) new m.ends c.new_plain c.new_other s.plain);
      none_made = λ none. rw (world_new, tells_none p.server.core.tables s.terms.valid none m f) (s.none_made none);
      requests = s.requests;
      behind = s.behind;
      events = travel_more p.server.core.outbox (told_core p.server.core m).outbox p.client.core.inbox w.events _ told
          news s.events (nothing_behind s z)
          (ap (λ (l : List (Coming Born)). w.events ++ (Event (renamed born_of m) ∷ l)) (sym (map_delete m.ends))) refl
          (append_assoc p.server.core.outbox.messages (spelled_meant m ∷ []) (map spelled_coming (delete m.ends))) (
            whole_within p.client.core.inbox.limit m.target.id m.opcode (map wire m.args) f.opcode
                (subst (λ (l : ℕ). message_len (map wire m.args) ≤ l) s.terms.down_limit c.short),
            delete_whole
                p.client.core.inbox.limit m.ends,
          )
          (c.fitly, delete_fits p m.ends (both_if (low_there v s.server.sound) m.ends there range));
      error = quiet z (no_mark s z) (nothing_behind s z);
      asks_counted = s.asks_counted;
      deletes_follow = follow_more told news s.deletes_follow (begins_delete m.ends, follow_delete m.ends);
      meet = rw (all_tells_more told news) (subst
          (λ (r : Rows Born). MeetInMiddle (test_of p)
          (all_tells told ++ (tells (Event m) ++ all_tells (delete m.ends)))
          (all_asks asked) (client_rows p.client.core.view) r) (sym rows)
          (tell_meets m.target (objects m.args) new m.ends s.meet c.target c.args c.new c.new_plain c.ends mortal range there));
      globals = s.globals;
      registries = record {
        told = s.registries.told;
        open_registries = has_told v p.server.registries new m.ends c.new c.new_other
            (both_if (no_registry p.server.core.tables s.terms.valid v) m.ends there c.ends)
            s.registries.open_registries;
      };
    }

-- ---- an object is dropped

-- the server's core with an object closed and its delete written
abbrev pub dropped_core : Core → Known → Core
dropped_core c x = record c {
  view = closed c.view x.id;
  outbox = record c.outbox { messages = c.outbox.messages ++ spelled_coming (Delete x) ∷ [] };
}

-- after the server has dropped an object the pair represents the next world
pub drop_stands : (p : PairState) (w : World) (asked : List (Message Known)) (told : List (Coming Known))
    (s : StandsBy p w asked told) (x : Known) → ThereRow (server_rows p.server.core.view) x → test_of p x.born ≡ true
    → x.id ≤ 1048576 → w.stage ≡ Running
    → StandsBy (with_server_core p (dropped_core p.server.core x)) (dropped w x.born) asked (told ++ Delete x ∷ [])
drop_stands p w asked told s x h e low z =
    let v = p.server.core.view in
    let mortal = there_mortal p w asked told s x h e in
    let rows = server_closed v x.id in
    let news = Delete x ∷ [] in
    record {
      terms = s.terms;
      client = s.client;
      server = server_message s.server None (Some x) tt tt h mortal;
      plain = subst (MadePlain (test_of p)) (sym rows) (plain_after (test_of p) (server_rows v) None (Some x) tt s.plain);
      none_made = s.none_made;
      requests = s.requests;
      behind = s.behind;
      events = travel_more p.server.core.outbox (dropped_core p.server.core x).outbox p.client.core.inbox w.events _
          told news s.events (nothing_behind s z) refl refl refl (delete_whole p.client.core.inbox.limit (Some x)) (low, tt);
      error = quiet z (no_mark s z) (nothing_behind s z);
      asks_counted = s.asks_counted;
      deletes_follow = follow_more told news s.deletes_follow tt;
      meet = rw (all_tells_more told news) (subst
          (λ (r : Rows Born). MeetInMiddle (test_of p) (all_tells told ++ all_tells news) (all_asks asked)
          (client_rows p.client.core.view) r) (sym rows)
          (drop_meets x s.meet mortal (there_client p w asked told s x h e) h e));
      globals = s.globals;
      registries = record {
        told = s.registries.told;
        open_registries = has_fewer v p.server.registries x.id
            (no_registry p.server.core.tables s.terms.valid v x h e) s.registries.open_registries;
      };
    }
