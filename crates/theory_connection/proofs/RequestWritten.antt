-- The client writes a request.
use Rattle.std.proofs.Common.{◌≡◌, ◌≤◌, ℕ, true, false, List, [], ◌∷◌, ◌++◌, map, inl, refl, sym, subst}
use Rattle.std.specs.Prelude.{option_map}
use Rattle.std.specs.declared.option.Option.{Option}
use Rattle.std.specs.declared.option.Option.TheVariants.{None, Some}
use Rattle.wl_objects.specs.Writing.{message_len}
use Rattle.wl_object_map.specs.View.{next_id, can_open}
use Rattle.wl_object_map.specs.Objects.{Objects, ObjectsAreSound, opened_at}
use Rattle.wl_object_map.specs.declared.object.Maker.TheVariants.{Client}
use Rattle.wl_object_map.specs.ObjectsLaws.{ObjectsAreSound-opened}
use Rattle.wl_objects.specs.Messages.{opens as opens_view}
use Rattle.wl_connection.specs.Core.{Core}
use Rattle.wl_connection.proofs.Messages.{whole_within}
use Rattle.theory_connection.specs.Meant.{Known, Message, Coming, renamed, rearg, born_of, wire}
use Rattle.theory_connection.specs.Meant.{spelled_meant, made_in, objects}
use Rattle.theory_connection.specs.World.{World, Row, Each, IfThere, request_written}
use Rattle.theory_connection.specs.Pair.{PairState, with_client_core}
use Rattle.theory_connection.specs.Flight.{Rows, Fresh, MeetInMiddle, asks, all_asks, all_tells, client_rows}
use Rattle.theory_connection.specs.Flight.{births_in, IsAskedBelow}
use Rattle.theory_connection.proofs.AskedCounted.{below_asked}
use Rattle.theory_connection.specs.Flight.{server_rows}
use Rattle.theory_connection.specs.Stands.{StandsBy, AsksFitly}
use Rattle.theory_connection.proofs.WholeInFlight.{OpenRow, client_makes, client_ends, ask_meets}
use Rattle.theory_connection.proofs.WholeInFlight.{all_asks_more, live_made_if}
use Rattle.theory_connection.proofs.RowsAfterMessage.{held_row, client_after, made_map}
use Rattle.theory_connection.proofs.Stands.{client_message, travel_more}
use Rattle.theory_connection.proofs.ReadAsMeant.{made_of}
use Rattle.theory_connection.proofs.RequestRead.{test_of}
use Rattle.wl_sigs.specs.Side.TheVariants.{Request}
use Rattle.theory_connection.proofs.EndedObject.{Mortal, ended_view, ends_have, if_by}

-- ---- any request that fits, with open objects

-- a request that fits, whose objects are open at the client and whose new object is fresh
pub record CanAsk (p : PairState) (m : Message Known) : Type 0 where
  pub fitly : AsksFitly p.server.core.tables p.server.globals m
  pub target : OpenRow (client_rows p.client.core.view) m.target
  pub target_plain : test_of p m.target.born ≡ false
  pub args : Each (OpenRow (client_rows p.client.core.view)) (objects m.args)
  pub args_plain : Each (λ x. test_of p x.born ≡ false) (objects m.args)
  pub new : IfThere (Fresh (client_rows p.client.core.view)) (made_in m.args)
  pub new_next : IfThere (λ x. x.id ≡ next_id p.client.core.view.client) (made_in m.args)
  pub new_can : IfThere (λ x. can_open p.client.core.view.client ≡ true) (made_in m.args)
  pub mortal : IfThere Mortal m.ends
  pub short : message_len (map wire m.args) ≤ p.client.core.outbox.limit.bytes

-- the client's core after the request
abbrev pub asked_core : Core → Message Known → Core
asked_core c m = record c {
  view = ended_view Request (opens_view c.view (option_map made_of (made_in m.args))) m.ends;
  outbox = record c.outbox { messages = c.outbox.messages ++ spelled_meant m ∷ [] };
}

-- the pair after the request
abbrev pub asked_pair : PairState → Message Known → PairState
asked_pair p m = with_client_core p (asked_core p.client.core m)

opens_sound : (v : Objects) (n : Option Known) → ObjectsAreSound v → IfThere (λ x. x.id ≡ next_id v.client) n
    → IfThere (λ (x : Known). can_open v.client ≡ true) n → ObjectsAreSound (opens_view v (option_map made_of n))
opens_sound v None s e c = s
opens_sound v (Some x) s e c =
    subst (λ (i : ℕ). ObjectsAreSound (opened_at v i x.born.iface x.born.version)) (sym e)
    (ObjectsAreSound-opened Client v x.born.iface x.born.version s c)

-- after the client has written a request the pair represents the next world
pub ask_stands : (p : PairState) (w : World) (asked : List (Message Known)) (told : List (Coming Known))
    (s : StandsBy p w asked told) (m : Message Known) (c : CanAsk p m)
    → StandsBy (asked_pair p m) (request_written w (renamed born_of m)) (asked ++ m ∷ []) told
ask_stands p w asked told s m c =
    let f = c.fitly.fits in
    let v = p.client.core.view in
    let new = made_in m.args in
    let world_new : made_in (map (rearg born_of) m.args) ≡ option_map born_of new = made_map born_of m.args in
    let opened : IfThere (OpenRow (client_rows v)) m.ends =
    ends_have (OpenRow (client_rows v)) p.server.core.tables Request m f c.target c.args in
    let no_event : IfThere (λ x. test_of p x.born ≡ false) m.ends =
    ends_have (λ x. test_of p x.born ≡ false) p.server.core.tables Request m f c.target_plain c.args_plain in
    let rows : client_rows (ended_view Request (opens_view v (option_map made_of new)) m.ends)
    ≡ client_ends m.ends (client_makes (client_rows v) new) =
    client_after v new m.ends c.new (if_by (λ x h. held_row v x (inl h)) m.ends opened) in
    let objects_stand = client_message s.client new m.ends
    (opens_sound v new s.client.sound c.new_next c.new_can) c.new f.new_version
    (if_by (λ x h. inl h) m.ends opened)
    (if_by (λ x h. inl h) m.ends (live_made_if (client_rows v) new m.ends c.new opened)) c.mortal p.client.core.failed
    s.client.lives in
    record {
      terms = s.terms;
      client = rw world_new objects_stand;
      server = s.server;
      plain = s.plain;
      none_made = s.none_made;
      requests = travel_more p.client.core.outbox
          (asked_core p.client.core m).outbox p.server.core.inbox w.requests _ asked (m ∷ []) s.requests refl refl refl refl (
            whole_within p.server.core.inbox.limit m.target.id m.opcode (map wire m.args) f.opcode
                (subst (λ (l : ℕ). message_len (map wire m.args) ≤ l) s.terms.up_limit c.short),
            tt,
          ) (c.fitly, tt);
      behind = s.behind;
      events = s.events;
      error = s.error;
      asks_counted = rw (all_asks_more asked m) (subst (λ (x : Rows Row). Each (IsAskedBelow (births_in x))
          (all_asks asked ++ asks m)) (sym rows)
          (below_asked (client_rows v) s.client.sets m c.target c.args c.new opened (all_asks asked) s.asks_counted));
      deletes_follow = s.deletes_follow;
      meet = rw (all_asks_more asked m) (subst (λ (x : Rows Row). MeetInMiddle (test_of p) (all_tells told)
          (all_asks asked ++ asks m) x (server_rows p.server.core.view)) (sym rows)
          (ask_meets m.target (objects m.args) new m.ends s.meet c.target c.target_plain c.args c.args_plain c.new
          opened no_event c.mortal));
      globals = s.globals;
      registries = s.registries;
    }
