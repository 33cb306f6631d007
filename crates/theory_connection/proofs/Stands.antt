-- How a move changes each part of the relation between a pair and its world.
use Rattle.std.proofs.Common.{◌≡◌, ◌≢◌, ℕ, Bool, true, false, cond, List, [], ◌∷◌, ◌++◌, map, length, take, ◌≤◌, ◌<◌}
use Rattle.std.proofs.Common.{refl, sym, ap, subst, ◌∙◌, arith}
use Rattle.std.specs.Prelude.{option_map, nat_eq, is_some}
use Rattle.std.specs.declared.option.Option.{Option}
use Rattle.std.specs.declared.option.Option.TheVariants.{None, Some}
use Rattle.std.proofs.lemmas.Bool.{ne_eqb}
use Rattle.std.proofs.lemmas.List.{append-nil, map-append}
use Rattle.wl_sigs.specs.Side.{Side}
use Rattle.wl_sigs.specs.Side.TheVariants.{Request, Event}
use Rattle.wl_message.specs.Arrived.{Arrived, without_first, in_front}
use Rattle.wl_message.specs.Cut.{Whole, IsMessage}
use Rattle.wl_message.specs.Outgoing as boxes
use Rattle.wl_message.specs.Outgoing.{Outgoing}
use Rattle.wl_object_map.specs.declared.object.Entry.{Entry}
use Rattle.wl_object_map.specs.declared.object.Maker.{Maker}
use Rattle.wl_object_map.specs.declared.object.Maker.TheVariants.{Client, Server}
use Rattle.wl_object_map.specs.declared.object.State.{State}
use Rattle.wl_object_map.specs.declared.object.State.TheVariants as states
use Rattle.wl_object_map.specs.Ranges.{is_of_server}
use Rattle.wl_object_map.specs.Objects.{Objects, ObjectsAreSound, look, closed, maker_of}
use Rattle.wl_object_map.specs.ObjectsLaws.{look-opened_at, look-closed, look-zombied}
use Rattle.wl_object_map.specs.ObjectsLaws.{births-closed, ObjectsAreSound-closed}
use Rattle.theory_connection.proofs.Flight.{range_apart}
use Rattle.wl_connection.proofs.ServerRange.{freed_closed}
use Rattle.wl_objects.specs.Messages.{opens}
use Rattle.theory_connection.specs.Meant.{Birth, Born, Known, born_of, birth_of, born_of_entry}
use Rattle.theory_connection.specs.World.{Row, Open, Each, IfThere, born_into, same, ending, gone, put, births_counted}
use Rattle.theory_connection.specs.Flight.{Rows, at, as_row, births_in, Fresh, NextTold, IsHeldInRows, client_rows}
use Rattle.theory_connection.specs.Flight.{server_rows, row_of_entry}
use Rattle.theory_connection.specs.Stands.{ClientStands, ServerStands, Travel, InFlight, ShowsBirths, birth_in}
use Rattle.theory_connection.specs.Stands.{IsEndingOfServer, NoneIsGone, HoldsServerObjects}
use Rattle.theory_connection.proofs.WholeInFlight.{ThereRow, client_makes, client_ends, client_told, server_makes}
use Rattle.theory_connection.proofs.WholeInFlight.{server_ends, server_told, FreshTold, OfClient, there_told_if}
use Rattle.theory_connection.proofs.WholeInFlight.{each_more, each_by}
use Rattle.theory_connection.proofs.Sets.{births_ends, births_makes, client_made, client_ended}
use Rattle.theory_connection.proofs.Sets.{client_deleted, client_learns, server_made, server_tells, server_ended}
use Rattle.theory_connection.proofs.Sets.{told_births, told_births_ends, told_births_makes, held_in, holds_ended}
use Rattle.theory_connection.proofs.Sets.{holds_made, holds_told, holds_other}
use Rattle.theory_connection.proofs.Sets.{there_kept, births_told, server_births_ends, server_births_makes}
use Rattle.theory_connection.proofs.Sets.{server_births_told, ends_count, gone_count, at_count}
use Rattle.theory_connection.proofs.Channels.{pops, pushed}
use Rattle.theory_connection.proofs.Bridges.{client_closed}
use Rattle.theory_connection.proofs.ReadAsMeant.{made_of}
use Rattle.theory_connection.proofs.RowsAfterMessage.{map_some, held_row, client_after, client_after_event}
use Rattle.theory_connection.proofs.RowsAfterMessage.{client_sound, client_event_sound, never_freed}
use Rattle.theory_connection.proofs.RowsAfterMessage.{server_after_event, server_event_sound}
use Rattle.theory_connection.proofs.RowsAfterMessage.{client_aged, server_after, server_sound}
use Rattle.theory_connection.proofs.RowsAfterMessage.{server_live, server_aged, closed_aged}
use Rattle.theory_connection.proofs.EndedObject.{Mortal, ended_view, if_by}

-- ---- wl_display keeps its row

-- the id of a new object has no row, so it is not that of wl_display
display_opens : {X : Type 0} (f : ℕ → Entry → X) (v : Objects) (n : Option Known) (e : Entry)
    → IfThere (λ x. option_map (f x.id) (look v x.id) ≡ None) n → look v 1 ≡ Some e
    → look (opens v (option_map made_of n)) 1 ≡ Some e
display_opens f v None e g h = h
display_opens {X = X} f v (Some x) e g h = look-opened_at v x.id x.born.iface x.born.version 1 ∙ rw (other x.id g) h
  where
    other : (i : ℕ) → option_map (f i) (look v i) ≡ None → nat_eq 1 i ≡ false
    other i g = ne_eqb 1 i (λ k. (let q : ◌≡◌ {A = Option X} (Some (f i e)) None = ap (option_map (f i))
        (sym h ∙ ap (look v) k) ∙ g in cc q))

-- the id of an object that an event makes is not that of wl_display
display_told : (v : Objects) (n : Option Known) (e : Entry) → IfThere (λ (x : Known). is_of_server x.id ≡ true) n
    → look v 1 ≡ Some e → look (opens v (option_map made_of n)) 1 ≡ Some e
display_told v None e g h = h
display_told v (Some x) e g h =
    look-opened_at v x.id x.born.iface x.born.version 1 ∙ rw (ne_eqb 1 x.id (range_apart 1 x.id refl g)) h

display_ends : (side : Side) (v : Objects) (o : Option Known) (e : Entry) → IfThere Mortal o → look v 1 ≡ Some e
    → look (ended_view side v o) 1 ≡ Some e
display_ends side v None e y h = h
display_ends Request v (Some x) e y h = let b : nat_eq 1 x.id ≡ false = ne_eqb 1 x.id (λ k. y (sym k))
    in look-zombied v x.id 1 ∙ rw b h
display_ends Event v (Some x) e y h = let b : nat_eq 1 x.id ≡ false = ne_eqb 1 x.id (λ k. y (sym k))
    in look-closed v x.id 1 ∙ rw b h

-- ---- the client's objects

counted_map : (f : Known → Born) (n : Option Known) (b : ℕ) → births_counted (option_map f n) b ≡ births_counted n b
counted_map f None b = refl
counted_map f (Some x) b = refl

-- the maker of a row's birth is that of its id
row_maker : (s : State) (b : Born) → (birth_in (as_row s b)).maker ≡ b.birth.maker
row_maker states.Live b = refl
row_maker states.Zombie b = refl

pub by_makers : (v : Objects) (id : ℕ) (r : Row) → (client_rows v).rows id ≡ Some r → (birth_in r).maker ≡ maker_of id
by_makers v id r h =
    let m = map_some (row_of_entry id) (look v id) r h in
    ap (λ (x : Row). (birth_in x).maker) (sym m.2) ∙ row_maker m.0.state (born_of_entry id m.0)

-- at least one birth of the server's range was counted: that of row 1, which has no meaning
pub some_births : (view : Objects) → ObjectsAreSound view → 0 < view.server.births
some_births view sound = sound.server.born 1 _ sound.server.display.1

module _ {view : Objects} {failed : Bool} {births : ℕ} {held : Birth → Option Row}
    (s : ClientStands view failed births held) where
  -- After a request that makes `new` and ends `ends`, the client's objects represent the next
  -- world.
  pub client_message : (new ends : Option Known) → ObjectsAreSound (opens view (option_map made_of new))
      → IfThere (Fresh (client_rows view)) new → IfThere (λ x. 1 ≤ x.born.version) new
      → IfThere (IsHeldInRows (client_rows view)) ends
      → IfThere (IsHeldInRows (client_makes (client_rows view) new)) ends
      → IfThere Mortal ends → (now : Bool) → now ≡ false
      → ClientStands (ended_view Request (opens view (option_map made_of new)) ends) now
      (births_counted (option_map born_of new) births) (ending (option_map born_of ends)
      (born_into Open (option_map born_of new) held))
  client_message new ends sound fresh version there still mortal now lives =
      let made = client_makes (client_rows view) new in
      let rows = client_after view new ends fresh (if_by (held_row view) ends there) in
      record {
        sets = subst (λ (x : Rows Row). ShowsBirths birth_in IsEndingOfServer x.rows (births_in x)
            (ending (option_map born_of ends) (born_into Open (option_map born_of new) held))) (sym rows)
            (subst (λ (n : Maker → ℕ). ShowsBirths birth_in IsEndingOfServer (client_ends ends made).rows n
            (ending (option_map born_of ends) (born_into Open (option_map born_of new) held))) (sym (ends_count ends made))
            (client_ended made _ ends (client_made (client_rows view) held new s.sets fresh) still));
        births = counted_map born_of new births ∙ ap (births_counted new) s.births
            ∙ sym (ap (λ (x : Rows Row). x.births) rows ∙ births_ends ends made ∙ births_makes (client_rows view) new);
        holds_counted = subst (λ (n : ℕ). HoldsServerObjects n (ending (option_map born_of ends)
            (born_into Open (option_map born_of new) held)))
            (sym (ap (λ (x : Rows Row). x.by_server.births) rows ∙ told_births_ends ends made
            ∙ told_births_makes (client_rows view) new))
            (holds_ended _ _ ends (holds_made view.server.births held (client_rows view) new fresh s.holds_counted)
            (held_in made _ ends (client_made (client_rows view) held new s.sets fresh) still));
        sound = client_sound (opens view (option_map made_of new)) ends sound mortal;
        never_freed = never_freed view new ends s.never_freed;
        display = display_ends Request (opens view (option_map made_of new)) ends _ mortal
            (display_opens row_of_entry view new _ (if_by (λ x f. f.free) new fresh) s.display);
        versions = client_aged view new ends version s.versions;
        lives = lives;
      }

  -- After an event that makes `new` and ends `ends`, the client's objects represent the next world.
  pub client_event : (new ends : Option Known) → IfThere (NextTold (client_rows view)) new
      → IfThere (λ x. 1 ≤ x.born.version) new
      → IfThere (IsHeldInRows (client_rows view)) ends → IfThere OfClient ends
      → IfThere (IsHeldInRows (client_told (client_rows view) new)) ends
      → IfThere Mortal ends → (now : Bool) → now ≡ false
      → ClientStands (ended_view Request (opens view (option_map made_of new)) ends) now
      births (ending (option_map born_of ends)
      (born_into Open (option_map born_of new) held))
  client_event new ends follows version there range still mortal now lives =
      let made = client_told (client_rows view) new in
      let rows = client_after_event view new ends follows (if_by (held_row view) ends there) range in
      record {
        sets = subst (λ (x : Rows Row). ShowsBirths birth_in IsEndingOfServer x.rows (births_in x)
            (ending (option_map born_of ends) (born_into Open (option_map born_of new) held))) (sym rows)
            (subst (λ (n : Maker → ℕ). ShowsBirths birth_in IsEndingOfServer (client_ends ends made).rows n
            (ending (option_map born_of ends) (born_into Open (option_map born_of new) held))) (sym (ends_count ends made))
            (client_ended made _ ends (client_learns (client_rows view) held new s.sets follows (by_makers view)) still));
        births = s.births
            ∙ sym (ap (λ (x : Rows Row). x.births) rows ∙ births_ends ends made ∙ births_told (client_rows view) new);
        holds_counted = subst (λ (n : ℕ). HoldsServerObjects n (ending (option_map born_of ends)
            (born_into Open (option_map born_of new) held)))
            (sym (ap (λ (x : Rows Row). x.by_server.births) rows ∙ told_births_ends ends made
            ∙ told_births (client_rows view) new))
            (holds_ended _ _ ends (holds_told held (client_rows view) new (some_births view s.sound) follows s.holds_counted)
            (held_in made _ ends (client_learns (client_rows view) held new s.sets follows (by_makers view)) still));
        sound = client_sound (opens view (option_map made_of new)) ends
            (client_event_sound view new s.sound follows) mortal;
        never_freed = never_freed view new ends s.never_freed;
        display = display_ends Request (opens view (option_map made_of new)) ends _ mortal
            (display_told view new _ (if_by (λ x f. f.range) new follows) s.display);
        versions = client_aged view new ends version s.versions;
        lives = lives;
      }

  -- After a delete of an object that the client has, its objects represent the next world.
  pub client_delete : (x : Known) → IsHeldInRows (client_rows view) x → x.id ≢ 1 → OfClient x → (now : Bool)
      → now ≡ false
      → ClientStands (closed view x.id) now births (put held x.born.birth None)
  client_delete x there mortal range now lives = record {
    sets = subst (λ (y : Rows Row). ShowsBirths birth_in IsEndingOfServer y.rows (births_in y)
        (put held x.born.birth None))
        (sym (client_closed view x.id))
        (subst (λ (n : Maker → ℕ). ShowsBirths birth_in IsEndingOfServer (at (client_rows view) x.id None).rows n
        (put held x.born.birth None)) (sym (at_count (client_rows view) x.id None))
        (client_deleted (client_rows view) held x s.sets there));
    births = s.births ∙ sym (births-closed view x.id);
    holds_counted = subst (λ (n : ℕ). HoldsServerObjects n (put held x.born.birth None))
        (sym (ap (λ (y : Rows Row). y.by_server.births) (client_closed view x.id)))
        (holds_other view.server.births held x.born.birth None
        (sym (ap (λ (b : Born). b.birth.maker) (held_row view x there).same)
        ∙ ap (λ (b : Bool). cond b Server Client) range) s.holds_counted);
    sound = ObjectsAreSound-closed view x.id s.sound (ap is_some (held_row view x there).there) mortal;
    never_freed = freed_closed view x.id range s.never_freed;
    display = display_ends Event view (Some x) _ mortal s.display;
    versions = closed_aged view x.id s.versions;
    lives = lives;
  }

-- ---- the server's objects

module _ {view : Objects} {failed posted : Bool} {births : ℕ} {there : Birth → Option Born}
    (s : ServerStands view failed posted births there) where
  -- After a request that makes `new` and ends `ends`, the server's objects represent the next
  -- world.
  pub server_message : (new ends : Option Known) → IfThere (Fresh (server_rows view)) new
      → IfThere (λ x. 1 ≤ x.born.version) new → IfThere (ThereRow (server_rows view)) ends → IfThere Mortal ends
      → ServerStands (ended_view Event (opens view (option_map made_of new)) ends) failed posted births
      (gone (option_map born_of ends) (born_into same (option_map born_of new) there))
  server_message new ends fresh version has mortal =
      let made = server_makes (server_rows view) new in
      let rows = server_after view new ends fresh in
      record {
        sets = subst (λ (r : Rows Born). ShowsBirths birth_of NoneIsGone r.rows (births_in r)
            (gone (option_map born_of ends) (born_into same (option_map born_of new) there)))
            (sym rows)
            (subst (λ (n : Maker → ℕ). ShowsBirths birth_of NoneIsGone (server_ends ends made).rows n
            (gone (option_map born_of ends) (born_into same (option_map born_of new) there))) (sym (gone_count ends made))
            (server_ended made _ ends
            (server_made (server_rows view) there new s.sets fresh)
            (if_by (λ x h. there_kept (server_rows view) new x fresh h) ends has)));
        births = s.births ∙ sym (ap (λ (r : Rows Born). r.by_server.births) rows ∙ server_births_ends ends made
            ∙ server_births_makes (server_rows view) new);
        sound = server_sound view new ends s.sound fresh has mortal;
        display = display_ends Event (opens view (option_map made_of new)) ends _ mortal
            (display_opens born_of_entry view new _ (if_by (λ x f. f.free) new fresh) s.display);
        versions = server_aged view new ends version s.versions;
        live = server_live view new ends s.live;
        lives = s.lives;
      }

  -- After an event that makes `new` and ends `ends`, the server's objects represent the next world.
  pub server_event : (new ends : Option Known) → IfThere (FreshTold (server_rows view)) new
      → IfThere (λ x. 1 ≤ x.born.version) new → IfThere (ThereRow (server_rows view)) ends → IfThere Mortal ends
      → ServerStands (ended_view Event (opens view (option_map made_of new)) ends) failed posted
      (births_counted (option_map born_of new) births)
      (gone (option_map born_of ends) (born_into same (option_map born_of new) there))
  server_event new ends fresh version has mortal =
      let made = server_told (server_rows view) new in
      let rows = server_after_event view new ends fresh in
      record {
        sets = subst (λ (r : Rows Born). ShowsBirths birth_of NoneIsGone r.rows (births_in r)
            (gone (option_map born_of ends) (born_into same (option_map born_of new) there)))
            (sym rows)
            (subst (λ (n : Maker → ℕ). ShowsBirths birth_of NoneIsGone (server_ends ends made).rows n
            (gone (option_map born_of ends) (born_into same (option_map born_of new) there))) (sym (gone_count ends made))
            (server_ended made _ ends
            (server_tells (server_rows view) there new s.sets fresh)
            (there_told_if (server_rows view) new ends fresh has)));
        births = counted_map born_of new births ∙ ap (births_counted new) s.births
            ∙ sym (ap (λ (r : Rows Born). r.by_server.births) rows ∙ server_births_ends ends made
            ∙ server_births_told (server_rows view) new);
        sound = server_event_sound view new ends s.sound fresh has mortal;
        display = display_ends Event (opens view (option_map made_of new)) ends _ mortal
            (display_told view new _ (if_by (λ x f. f.range) new fresh) s.display);
        versions = server_aged view new ends version s.versions;
        live = server_live view new ends s.live;
        lives = s.lives;
      }

-- ---- what is in flight in either direction

-- what a read of the first message finds, and what is in flight after it
pub record First (from : Outgoing) (to : Arrived) (first : boxes.QueuedMessage) (rest : List boxes.QueuedMessage)
    (n : ℕ) : Type 0 where
  pub size : n ≡ length first.bytes
  pub bytes : take n to.bytes ≡ first.bytes
  pub enough : length first.tokens ≤ length to.tokens
  pub more : List ℕ
  pub tokens : to.tokens ≡ first.tokens ++ more
  pub stay : InFlight from (without_first to n (length first.tokens)) rest

-- The first message in flight is read.
pub first_read : (from : Outgoing) (to : Arrived) (first : boxes.QueuedMessage) (rest : List boxes.QueuedMessage)
    (n : ℕ)
    → InFlight from to (first ∷ rest) → in_front to ≡ Whole n → First from to first rest n
first_read from to first rest n f e =
    let q = pops from to (first ∷ rest) n f e in
    let own : q.first ≡ first = cc q.is in
    let others : q.rest ≡ rest = cc q.is in
    let tokens : q.first.tokens ≡ first.tokens = ap (λ (x : boxes.QueuedMessage). x.tokens) own in
    record {
      size = q.size ∙ ap (λ (x : boxes.QueuedMessage). length x.bytes) own;
      bytes = q.bytes ∙ ap (λ (x : boxes.QueuedMessage). x.bytes) own;
      enough = let k = ap length tokens in omega (arith, q.enough, k);
      more = q.more;
      tokens = q.tokens ∙ ap (λ (l : List ℕ). l ++ q.more) tokens;
      stay = subst (λ (l : List boxes.QueuedMessage). InFlight from (without_first to n (length first.tokens)) l) others
          (subst (λ (l : List ℕ). InFlight from (without_first to n (length l)) q.rest) tokens q.stay);
    }

-- nothing is behind the messages in flight
pub none_behind : (from : Outgoing) (to : Arrived) (messages behind : List boxes.QueuedMessage)
    → InFlight from to (messages ++ behind) → behind ≡ [] → InFlight from to messages
none_behind from to messages behind f b = subst (InFlight from to)
    (ap (λ (l : List boxes.QueuedMessage). messages ++ l) b ∙ append-nil messages) f

module _ {M W : Type 0} {as_born : M → W} {as_sent : M → boxes.QueuedMessage} {Fitly : M → Type 0}
    {behind : List boxes.QueuedMessage} where
  -- More messages are written: they are appended to those in flight, if nothing is behind these.
  pub travel_more : (from after : Outgoing) (to : Arrived) (births now : List W) (messages more : List M)
      → Travel as_born as_sent Fitly from to births messages behind → behind ≡ []
      → now ≡ births ++ map as_born more
      → after.left ≡ from.left → after.messages ≡ from.messages ++ map as_sent more
      → Each (λ m. IsMessage to.limit.bytes m.bytes) (map as_sent more) → Each Fitly more
      → Travel as_born as_sent Fitly after to now (messages ++ more) behind
  travel_more from after to births now messages more t b n l e w f = record {
    in_world = n ∙ ap (λ (bs : List W). bs ++ map as_born more) t.in_world ∙ sym (map-append as_born messages more);
    in_boxes = subst (λ (ms : List boxes.QueuedMessage). InFlight after to ms)
        (sym (map-append as_sent messages more) ∙ sym (append-nil (map as_sent (messages ++ more)))
        ∙ ap (λ (x : List boxes.QueuedMessage). map as_sent (messages ++ more) ++ x) (sym b))
        (pushed from after to (map as_sent messages) (map as_sent more)
        (none_behind from to (map as_sent messages) behind t.in_boxes b) l e w);
    fit = each_more Fitly messages more t.fit f;
  }

  -- The messages in flight fit in another sense, if the first sense implies it.
  pub travel_by : {Other : M → Type 0} {from : Outgoing} {to : Arrived} {births : List W} {messages : List M}
      → ((m : M) → Fitly m → Other m)
      → Travel as_born as_sent Fitly from to births messages behind
      → Travel as_born as_sent Other from to births messages behind
  travel_by {Other = Other} {messages = messages} f t =
      record { in_world = t.in_world; in_boxes = t.in_boxes; fit = each_by Fitly Other f messages t.fit }
