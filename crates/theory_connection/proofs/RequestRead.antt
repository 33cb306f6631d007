-- The server reads a request.
use Rattle.std.proofs.Common.{◌≡◌, ℕ, ◌+◌, ◌<◌, ◌≤◌, Bool, true, false, List, [], ◌∷◌, ◌++◌, map}
use Rattle.std.proofs.Common.{◌≢◌, length, refl, sym, ap, subst, ◌∙◌, arith, min, cond, inl, inr}
use Rattle.std.proofs.lemmas.Bool.{ne_eqb}
use Rattle.std.specs.Prelude.{option_map, not, ◌&&◌, is_some, slice_get}
use Rattle.std.specs.declared.option.Option.{Option}
use Rattle.std.specs.declared.option.Option.TheVariants.{None, Some}
use Rattle.std.specs.declared.result.Result.TheVariants.{Ok}
use Rattle.std.proofs.lemmas.List.{append-nil}
use Rattle.wl_sigs.specs.Side.TheVariants.{Request as request_side, Event as event_side}
use Rattle.wl_sigs.specs.Destroys.{Destroys}
use Rattle.wl_sigs.specs.Destroys.TheVariants.{Nothing, Target, Arg as ends_arg}
use Rattle.wl_sigs.specs.Tables.{destroys_one, descriptors}
use Rattle.wl_sigs.specs.Fixed.{registry}
use Rattle.wl_sigs.specs.Valid.{Valid}
use Rattle.wl_message.specs.declared.limit.Limit.{Limit}
use Rattle.wl_message.specs.Arrived.{without_first, in_front}
use Rattle.wl_message.specs.Cut.{Whole, IsMessage}
use Rattle.wl_message.specs.Outgoing as boxes
use Rattle.wl_wire.specs.Argument.{Uint, Obj}
use Rattle.wl_object_map.specs.declared.object.Entry.{Entry}
use Rattle.wl_object_map.specs.Ranges.{is_of_server}
use Rattle.wl_object_map.specs.declared.object.Maker.{Maker}
use Rattle.wl_object_map.specs.declared.object.Maker.TheVariants.{Client, Server}
use Rattle.wl_object_map.specs.Objects.{Objects, ObjectsAreSound, look, maker_of}
use Rattle.wl_objects.specs.Messages.{opens, made as made_message, is_bind, reader_of, after}
use Rattle.wl_objects.specs.Reading.{reports_of}
use Rattle.wl_connection.specs.Core.{Core, past, with_view}
use Rattle.wl_connection.specs.Receiving.{Found, found}
use Rattle.wl_connection.specs.Sending.{with_following}
use Rattle.wl_server.specs.State as server
use Rattle.wl_server.specs.Requests.{unless_bad_bind, request, is_good_bind, made_by_request as made_by_message}
use Rattle.wl_server.specs.Requests.{state_past, registries_after, reported_object, ended_object, ended}
use Rattle.wl_server.specs.Requests.{report, owes_delete_id}
use Rattle.wl_server.specs.Registries.{without_object}
use Rattle.theory_connection.specs.Meant.{Event, Delete, Born, Known, Message, Coming, Arg}
use Rattle.theory_connection.specs.Meant.{renamed, recoming, rearg, born_of, birth_of, wire, tokens}
use Rattle.theory_connection.specs.Meant.{spelled_meant, spelled_coming, made_in, objects, born_of_entry}
use Rattle.theory_connection.specs.Meant.{ended_by}
use Rattle.theory_connection.specs.World.{World, Open, Each, IfThere, delete, answer, answer_by, born_maker}
use Rattle.theory_connection.specs.World.{request_read}
use Rattle.theory_connection.specs.World.{without_marks, marks_after}
use Rattle.theory_connection.specs.Pair.{PairState, with_server}
use Rattle.theory_connection.specs.Answers.{birth_at, rows_of_server}
use Rattle.theory_connection.specs.Flight.{Rows, Fresh, Tied, all_asks, server_rows, as_row}
use Rattle.theory_connection.specs.Flight.{births_in, IsAskedBelow, client_rows, asks}
use Rattle.theory_connection.proofs.WholeInFlight.{each_rest}
use Rattle.theory_connection.specs.Stands.{DeletesFollow, BeginsWithDelete, StandsBy, FitsSignature}
use Rattle.theory_connection.specs.Stands.{ComesFitly, InFlight, by_event, MadePlain}
use Rattle.theory_connection.proofs.Flight.{reads_more, fresh_range, range_apart, put_row_tells, put_row_other}
use Rattle.theory_connection.proofs.Bridges.{by_client}
use Rattle.theory_connection.proofs.WholeInFlight.{ThereRow, OfClient, asks_at, AsksAt, id_maker, all_tells_more}
use Rattle.theory_connection.proofs.WholeInFlight.{server_makes, server_told, server_ends}
use Rattle.theory_connection.proofs.RowsAfterMessage.{there_row, server_after, made_map}
use Rattle.theory_connection.proofs.Stands.{server_message, first_read, travel_more}
use Rattle.theory_connection.proofs.Registries.{marks_with, marks_left, left_are, registries_left, fresh_row, has_read}
use Rattle.theory_connection.proofs.ReadAsMeant.{HeldAt, AllMet, made_of, made_read, tokens_taken}
use Rattle.wl_object_map.specs.declared.object.Object.{Object}
use Rattle.wl_connection.proofs.Messages.{whole_within}
use Rattle.theory_connection.proofs.TwoRanges.{row_low}
use Rattle.theory_connection.proofs.MadeFor.{made_for}
use Rattle.theory_connection.proofs.FoundInFront.{the_found, the_message, finds, all_met, news_free}
use Rattle.theory_connection.proofs.EndedObject.{EndsAs, ended_view, after_is, argument_is, ends_have, if_by}
use Rattle.theory_connection.specs.World.{Running}
use Rattle.theory_connection.specs.Stands.{quiet}
use Rattle.theory_connection.proofs.Errors.{nothing_behind, no_mark}
use Rattle.wl_server.proofs.Fronts.{named_object}

-- ---- the request at the front

-- the first request is at the front: it is found, and its objects are there
pub record InFront (p : PairState) (w : World) (m : Message Known) (n : ℕ) : Type 0 where
  pub entry : Entry
  pub there : look p.server.core.view m.target.id ≡ Some entry
  pub same_target : born_of_entry m.target.id entry ≡ m.target.born
  pub met : AllMet p.server.core.tables request_side p.server.core.view (rows_of_server w) m.args

held_at_server : (p : PairState) (w : World) (asked : List (Message Known)) (told : List (Coming Known))
    → StandsBy p w asked told → (x : Known) → 0 < x.id → ThereRow (server_rows p.server.core.view) x
    → HeldAt p.server.core.view (rows_of_server w) x
held_at_server p w asked told s x some h =
    let r = there_row p.server.core.view x h in
    let shown = s.server.sets.shown x.id x.born h in
    let live = s.server.live x.id r.entry r.there in
    record {
      some = some;
      entry = r.entry;
      there = r.there;
      same = r.same;
      shown = ap (option_map Open) shown ∙ ap (λ (b : Born). Some (Open b)) (sym r.same)
          ∙ ap (λ st. Some (as_row st (born_of_entry x.id r.entry))) (sym live);
    }

-- the test for a destroying event, by the pair's tables
abbrev pub test_of : PairState → Born → Bool
test_of p = by_event p.server.core.tables

pub request_front : (p : PairState) (w : World) (m : Message Known) (ms : List (Message Known))
    (told : List (Coming Known)) (s : StandsBy p w (m ∷ ms) told) (n : ℕ)
    → AsksAt (test_of p) (all_asks ms) (server_rows p.server.core.view) s.meet.middle m.target (objects m.args)
    (made_in m.args) m.ends → InFront p w m n
request_front p w m ms told s n a =
    let r = there_row p.server.core.view m.target a.target in
    let f = s.requests.fit.0.fits in
    record {
      entry = r.entry;
      there = r.there;
      same_target = r.same;
      met = all_met p.server.core.tables m.target.born.version request_side p.server.core.view (rows_of_server w)
          (ThereRow (server_rows p.server.core.view)) (held_at_server p w (m ∷ ms) told s)
          f.signature.kinds m.args f.args a.args (news_free p.server.core.tables p.server.core.view m.args m.args s.server.sound a.new
          f.new_is);
    }

no_bad_bind : (b g : Bool) → (b ≡ true → g ≡ true) → (b && not g) ≡ false
no_bad_bind false g h = refl
no_bad_bind true g h = rw (h refl) refl

-- ---- the end after the request

-- whether the end of this object needs a delete
abbrev pub is_owed : Option Known → Bool
is_owed None = false
is_owed (Some x) = not (is_of_server x.id)

-- the end of an object is followed by its delete if the client made it, else by nothing
pub answer_is : (P : List (Coming Known) → Type 0) (o : Option Known) → P []
    → ((x : Known) → o ≡ Some x → OfClient x → P (Delete x ∷ [])) → P (answer id_maker o)
answer_is P None none some = none
answer_is P (Some x) none some = by_range (is_of_server x.id) refl
  where
    by_range : (b : Bool) → is_of_server x.id ≡ b → P (answer_by (cond b Server Client) x)
    by_range true t = none
    by_range false t = some x refl t

-- the delete of the object that ends is appended to the outbox
pub followed : (b : Bool) (id : ℕ) (o : Option Known) (c : Core) → b ≡ is_owed o → IfThere (λ x. x.id ≡ id) o
    → with_following b id c ≡ record c {
      outbox =
          record c.outbox { messages = c.outbox.messages ++ map spelled_coming (answer id_maker o) };
    }
followed b id None c f h = ap (λ (k : Bool). with_following k id c) f
    ∙ (λ i. record c { outbox = record c.outbox { messages = sym (append-nil c.outbox.messages) i } })
followed b id (Some x) c f h = by_range (is_of_server x.id) refl
  where
    by_range : (t : Bool) → is_of_server x.id ≡ t → with_following b id c ≡ record c {
      outbox = record c.outbox {
        messages = c.outbox.messages ++ map spelled_coming (answer_by (cond t Server Client) x);
      };
    }
    by_range true t = ap (λ (k : Bool). with_following k id c) (f ∙ ap not t)
        ∙ (λ i. record c { outbox = record c.outbox { messages = sym (append-nil c.outbox.messages) i } })
    by_range false t = λ i. with_following ((f ∙ ap not t) i) (sym h i) c

-- a delete is a whole message within the limit
pub delete_whole : (limit : Limit) (o : Option Known)
    → Each (λ (m : boxes.QueuedMessage). IsMessage limit.bytes m.bytes) (map spelled_coming (delete o))
delete_whole limit None = tt
delete_whole limit (Some x) = (
  whole_within limit 1 1 (Uint x.id ∷ []) (omega arith)
      (omega (arith, limit.in_range.0)),
  tt,
)

answer_whole : (limit : Limit) (o : Option Known)
    → Each (λ (m : boxes.QueuedMessage). IsMessage limit.bytes m.bytes) (map spelled_coming (answer id_maker o))
answer_whole limit o =
    answer_is (λ l. Each (λ (m : boxes.QueuedMessage). IsMessage limit.bytes m.bytes) (map spelled_coming l)) o tt
    (λ x e r. delete_whole limit (Some x))

-- the delete of an object that ends, by births
pub map_delete : (o : Option Known) → map (recoming born_of) (delete o) ≡ delete (option_map born_of o)
map_delete None = refl
map_delete (Some x) = refl

answer_born : (k : Maker) (x : Known) → map (recoming born_of) (answer_by k x) ≡ answer_by k x.born
answer_born Client x = refl
answer_born Server x = refl

-- what follows the end of an object that the server has, by births
pub map_answer : (v : Objects) (o : Option Known) → IfThere (ThereRow (server_rows v)) o
    → map (recoming born_of) (answer id_maker o) ≡ answer born_maker (option_map born_of o)
map_answer v None h = refl
map_answer v (Some x) h =
    let r = there_row v x h in
    answer_born (maker_of x.id) x
    ∙ ap (λ (k : Maker). answer_by k x.born) (ap (λ (b : Born). b.birth.maker) r.same)

births_of : (v : Objects) (n : Option Known) → IfThere (Fresh (server_rows v)) n
    → IfThere (λ x. x.born.birth ≡ birth_at (record { id = x.id; birth = v.client.births })) n
births_of v None g = tt
births_of v (Some x) g = g.birth ∙ sym (by_client x.id v.client.births (fresh_range g))

-- a delete fits if its id is within the limit
pub delete_fits : (p : PairState) (o : Option Known) → IfThere (λ x. x.id ≤ 1048576) o
    → Each (ComesFitly p.server.core.tables p.server.globals) (delete o)
delete_fits p None h = tt
delete_fits p (Some x) h = (h, tt)

-- the server's core after the request
abbrev pub left_core : Core → Message Known → ℕ → Core
left_core c m n = record c {
  view = ended_view event_side (opens c.view (option_map made_of (made_in m.args))) m.ends;
  inbox = without_first c.inbox n (length (tokens m.args));
  outbox = record c.outbox { messages = c.outbox.messages ++ map spelled_coming (answer id_maker m.ends) };
  read = min (c.read + n) 18446744073709551615;
}

-- the server after the request
abbrev pub left_state : server.State → Message Known → ℕ → server.State
left_state st m n = record st {
  core = left_core st.core m n;
  registries = registries_left m.ends (registries_after st.core st.registries (option_map made_of (made_in m.args)));
}

-- The object that the server ends is the one that the message means, by its id and by its birth.
record EndsRightly (what : Destroys) (object : Object) (o : Option Known) : Type 0 where
  ends : EndsAs what object.id o
  birth : IfThere (λ x. x.born.birth ≡ birth_at object) o

ends_named : (c : Core) (target : Known) (args : List (Arg Known)) (k : ℕ) (x : Known) (waiting : List ℕ) → k ≡ 0
    → args ≡ Obj (Some x) ∷ [] → 0 < x.id → ThereRow (server_rows c.view) x
    → EndsRightly (ends_arg k) (reported_object (slice_get (reports_of (reader_of c.tables request_side c.view) waiting (map wire args)) k))
    (ended_by (ends_arg k) target args)
ends_named c target args k x waiting z e some h =
    let r = there_row c.view x h in
    let named = named_object (reader_of c.tables request_side c.view) waiting x.id r.entry
    (ne_eqb x.id 0 (λ n. (omega (arith, n, some)))) r.there in
    subst (λ (l : List (Arg Known)). EndsRightly (ends_arg k)
    (reported_object (slice_get (reports_of (reader_of c.tables request_side c.view) waiting (map wire l)) k))
    (ended_by (ends_arg k) target l))
    (sym e)
    (subst (λ (n : ℕ). EndsRightly (ends_arg n) (reported_object
    (slice_get (reports_of (reader_of c.tables request_side c.view) waiting (map wire (Obj (Some x) ∷ []))) n))
    (ended_by (ends_arg n) target (Obj (Some x) ∷ []))) (sym z)
    (subst (λ (object : Object). EndsRightly (ends_arg 0) object (Some x)) (sym named)
    (record { ends = record { flag = refl; same = refl }; birth = sym (ap birth_of r.same) })))

ends_rightly : (st : server.State) (m : Message Known) (n : ℕ) (entry : Entry)
    (f : FitsSignature st.core.tables request_side m)
    → Valid st.core.tables → born_of_entry m.target.id entry ≡ m.target.born
    → ThereRow (server_rows st.core.view) m.target → Each (ThereRow (server_rows st.core.view)) (objects m.args)
    → EndsRightly f.signature.destroys (ended st.core (the_found n m entry f.signature)) m.ends
ends_rightly st m n entry f v s h hs = subst (EndsRightly f.signature.destroys
    (ended st.core (the_found n m entry f.signature))) (sym f.ends) (by_what f.signature.destroys refl)
  where
    by_what : (what : Destroys) → f.signature.destroys ≡ what
        → EndsRightly what (ended_object what (report st.core (the_found n m entry f.signature)))
        (ended_by what m.target m.args)
    by_what Nothing d = record { ends = record { flag = refl; same = tt }; birth = tt }
    by_what Target d = record { ends = record { flag = refl; same = refl }; birth = sym (ap birth_of s) }
    by_what (ends_arg k) d =
        let a = argument_is st.core.tables request_side m f k v d in
        let there : ThereRow (server_rows st.core.view) a.1.object =
        (subst (λ (l : List (Arg Known)). Each (ThereRow (server_rows st.core.view)) (objects l)) a.1.are hs).0
        in
        ends_named st.core m.target m.args k a.1.object st.core.inbox.tokens a.0 a.1.are a.1.some there

owed_by : (b : Bool) (id : ℕ) (o : Option Known) → b ≡ is_some o → IfThere (λ x. x.id ≡ id) o
    → (b && not (is_of_server id)) ≡ is_owed o
owed_by b id None f h = λ i. f i && not (is_of_server id)
owed_by b id (Some x) f h = λ i. f i && not (is_of_server (sym h i))

-- a request must be followed by a delete_id if it destroys an object of the client
pub owes_is : (st : server.State) (m : Message Known) (n : ℕ) (entry : Entry)
    (f : FitsSignature st.core.tables request_side m)
    → Valid st.core.tables → born_of_entry m.target.id entry ≡ m.target.born
    → ThereRow (server_rows st.core.view) m.target → Each (ThereRow (server_rows st.core.view)) (objects m.args)
    → owes_delete_id st.core (the_found n m entry f.signature) ≡ is_owed m.ends
owes_is st m n entry f v s h hs =
    let e = (ends_rightly st m n entry f v s h hs).ends in
    owed_by (destroys_one f.signature.destroys) (ended st.core (the_found n m entry f.signature)).id m.ends e.flag e.same

-- reading a request leaves the server in this state
pub left_is : (st : server.State) (m : Message Known) (n : ℕ) (entry : Entry)
    (f : FitsSignature st.core.tables request_side m)
    → Valid st.core.tables → born_of_entry m.target.id entry ≡ m.target.born
    → ThereRow (server_rows st.core.view) m.target → Each (ThereRow (server_rows st.core.view)) (objects m.args)
    → state_past st (the_found n m entry f.signature) ≡ left_state st m n
left_is st m n entry f v s h hs =
    let what = f.signature.destroys in
    let made : made_by_message st.core (the_message m entry f.signature) ≡ option_map made_of (made_in m.args) =
    ap (λ (b : Born). made_message st.core.tables b.version f.signature.kinds (map wire m.args)) s
    ∙ made_read st.core.tables m.target.born.version f.signature.kinds m.args f.args in
    let count : descriptors f.signature.kinds ≡ length (tokens m.args) =
    tokens_taken st.core.tables m.target.born.version f.signature.kinds m.args f.args in
    let object = ended st.core (the_found n m entry f.signature) in
    let e = ends_rightly st m n entry f v s h hs in
    let new = option_map made_of (made_in m.args) in
    let view = after_is event_side st.core.view new what object.id m.ends e.ends in
    let owes = owes_is st m n entry f v s h hs in
    (λ i. record st {
      core = with_following (owes i) object.id
          (with_view (past st.core n (count i)) (after event_side st.core.view (made i) what object.id));
      registries = without_object (destroys_one what) object
          (registries_after st.core st.registries (made i));
    })
    ∙ ((λ i. record st {
      core = with_following (is_owed m.ends) object.id
          (with_view (past st.core n (length (tokens m.args))) (view i));
      registries = left_are (destroys_one what) object m.ends (registries_after st.core st.registries new)
          e.ends.flag e.ends.same e.birth i;
    })
    ∙ ap (λ (c : Core). record st {
      core = c;
      registries = registries_left m.ends
          (registries_after st.core st.registries new);
    })
    (followed (is_owed m.ends) object.id m.ends
    (with_view (past st.core n (length (tokens m.args))) (ended_view event_side (opens st.core.view new) m.ends))
    refl e.ends.same))

-- ---- a delete follows the event that ends its object

begins_more : (x : Known) (cs ds : List (Coming Known)) → BeginsWithDelete x cs → BeginsWithDelete x (cs ++ ds)
begins_more x [] ds h = absurd h
begins_more x (Event m ∷ cs) ds h = absurd h
begins_more x (Delete y ∷ cs) ds h = h

-- this holds in a longer list
pub follow_more : (cs ds : List (Coming Known)) → DeletesFollow cs → DeletesFollow ds → DeletesFollow (cs ++ ds)
follow_more [] ds h k = k
follow_more (Event m ∷ cs) ds h k = (if_by (λ x. begins_more x cs ds) m.ends h.0, follow_more cs ds h.1 k)
follow_more (Delete x ∷ cs) ds h k = follow_more cs ds h k

-- this holds for a delete alone
pub follow_delete : (o : Option Known) → DeletesFollow (delete o)
follow_delete None = tt
follow_delete (Some x) = tt

-- this holds for what follows the end of an object
pub follow_answer : (o : Option Known) → DeletesFollow (answer id_maker o)
follow_answer o = answer_is DeletesFollow o tt (λ x e r. tt)

-- an object that ends is followed by its delete
pub begins_delete : (o : Option Known) → IfThere (λ x. BeginsWithDelete x (delete o)) o
begins_delete None = tt
begins_delete (Some x) = refl

-- ---- the pair represents the next world

-- an id of the client's range that has a row is at most 1,048,576
pub low_there : (v : Objects) → ObjectsAreSound v → (x : Known) → ThereRow (server_rows v) x → OfClient x
    → x.id ≤ 1048576
low_there v s x h l = let r = there_row v x h in (row_low v x.id r.entry s l r.there).1

-- objects that the server made still do not end by an event
plain_ends : (test : Born → Bool) (s : Rows Born) (o : Option Known) → MadePlain test s → MadePlain test (server_ends o s)
plain_ends test s None p = p
plain_ends test s (Some y) p = λ id x l h. elim (put_row_tells s.rows y.id None id) [
  | inl q ↦ absurd (cc (q.1, h))
  | inr q ↦ p id x l (sym q.1 ∙ h)
]

plain_makes : (test : Born → Bool) (s : Rows Born) (n : Option Known) → IfThere (Fresh s) n → MadePlain test s
    → MadePlain test (server_makes s n)
plain_makes test s None f p = p
plain_makes test s (Some y) f p = λ id x l h. p id x l
    (sym (put_row_other s.rows y.id _ id (range_apart y.id id (fresh_range f) l)) ∙ h)

pub plain_after : (test : Born → Bool) (s : Rows Born) (n o : Option Known) → IfThere (Fresh s) n → MadePlain test s
    → MadePlain test (server_ends o (server_makes s n))
plain_after test s n o f p = plain_ends test (server_makes s n) o (plain_makes test s n f p)

plain_tells : (test : Born → Bool) (s : Rows Born) (n : Option Known) → IfThere (λ x. test x.born ≡ false) n
    → IfThere (λ x. x.born.iface ≢ registry) n → MadePlain test s → MadePlain test (server_told s n)
plain_tells test s None f g p = p
plain_tells test s (Some y) f g p = λ id x l h. elim (put_row_tells s.rows y.id (Some y.born) id) [
  | inl q ↦ (let e : y.born ≡ x = cc (q.1, h) in
      (sym (ap test e) ∙ f, λ is. g (ap (λ (b : Born). b.iface) e ∙ is)))
  | inr q ↦ p id x l (sym q.1 ∙ h)
]

pub plain_event : (test : Born → Bool) (s : Rows Born) (n o : Option Known) → IfThere (λ x. test x.born ≡ false) n
    → IfThere (λ x. x.born.iface ≢ registry) n → MadePlain test s → MadePlain test (server_ends o (server_told s n))
plain_event test s n o f g p = plain_ends test (server_told s n) o (plain_tells test s n f g p)

-- after the server has read a request the pair represents the next world
pub server_read_stands : (p : PairState) (w : World) (m : Message Known) (ms : List (Message Known))
    (told : List (Coming Known)) (s : StandsBy p w (m ∷ ms) told) (n : ℕ) → w.stage ≡ Running
    → AsksAt (test_of p) (all_asks ms) (server_rows p.server.core.view) s.meet.middle m.target (objects m.args)
    (made_in m.args) m.ends
    → InFlight p.client.core.outbox (without_first p.server.core.inbox n (length (tokens m.args)))
    (map spelled_meant ms ++ [])
    → StandsBy (with_server p (left_state p.server m n))
    (request_read w (renamed born_of m) (map (renamed born_of) ms)) ms (told ++ answer id_maker m.ends)
server_read_stands p w m ms told s n z a up =
    let f = s.requests.fit.0.fits in
    let v = p.server.core.view in
    let new = made_in m.args in
    let rows = server_after v new m.ends a.new in
    let world_new : made_in (map (rearg born_of) m.args) ≡ option_map born_of new = made_map born_of m.args in
    let there : IfThere (ThereRow (server_rows v)) m.ends =
    ends_have (ThereRow (server_rows v)) p.server.core.tables request_side m f a.target a.args in
    record {
      terms = s.terms;
      client = s.client;
      server = rw world_new (server_message s.server new m.ends a.new f.new_version there a.mortal);
      plain = subst (MadePlain (test_of p)) (sym rows)
          (plain_after (test_of p) (server_rows v) new m.ends a.new s.plain);
      none_made = s.none_made;
      requests = record { in_world = refl; in_boxes = up; fit = s.requests.fit.1 };
      behind = s.behind;
      events = travel_more p.server.core.outbox (left_core p.server.core m n).outbox p.client.core.inbox w.events _ told
          (answer id_maker m.ends) s.events (nothing_behind s z)
          (ap (λ (l : List (Coming Born)). w.events ++ l) (sym (map_answer v m.ends there)))
          refl refl (answer_whole p.client.core.inbox.limit m.ends)
          (answer_is (Each (ComesFitly p.server.core.tables p.server.globals)) m.ends tt
          (λ x e l. (low_there v s.server.sound x (subst (IfThere (ThereRow (server_rows v))) e there) l, tt)));
      error = quiet z (no_mark s z) (nothing_behind s z);
      asks_counted = each_rest (IsAskedBelow (births_in (client_rows p.client.core.view))) (asks m) (all_asks ms)
          s.asks_counted;
      deletes_follow = follow_more told (answer id_maker m.ends) s.deletes_follow (follow_answer m.ends);
      meet = record {
        middle = a.past.middle;
        reads = rw (all_tells_more told (answer id_maker m.ends)) (reads_more s.meet.reads a.past.reads);
        tied = subst (λ (r : Rows Born). Tied (test_of p) (all_asks ms) r a.past.middle) (sym rows) a.past.tied;
      };
      globals = s.globals;
      registries = record {
        told = rw world_new (ap (λ (l : List _). without_marks (option_map born_of m.ends)
            (marks_after (option_map born_of new) l)) s.registries.told
            ∙ ap (without_marks (option_map born_of m.ends))
            (sym (marks_with p.server.core p.server.registries new (births_of v new a.new)))
            ∙ sym (marks_left p.server.core p.server.registries new m.ends w.server s.server.sets a.new
            there s.registries.open_registries));
        open_registries = has_read p.server.core p.server.registries new m.ends (fresh_row v new a.new)
            (if_by (there_row v) m.ends there) s.registries.open_registries;
      };
    }

-- ---- the result of the read

-- a request at the front: its objects are open, it is found, and the rest is in flight
pub record InRequest (p : PairState) (w : World) (m : Message Known) (ms : List (Message Known))
    (told : List (Coming Known)) (s : StandsBy p w (m ∷ ms) told) (n : ℕ) : Type 0 where
  pub entry : Entry
  pub same_target : born_of_entry m.target.id entry ≡ m.target.born
  pub met : AllMet p.server.core.tables request_side p.server.core.view (rows_of_server w) m.args
  pub finds_it : request p.server ≡ Ok (Some (the_found n m entry s.requests.fit.0.fits.signature))
  pub asks_it : AsksAt (test_of p) (all_asks ms) (server_rows p.server.core.view) s.meet.middle m.target
      (objects m.args) (made_in m.args) m.ends
  pub up : InFlight p.client.core.outbox (without_first p.server.core.inbox n (length (tokens m.args)))
      (map spelled_meant ms ++ [])
  pub more : List ℕ
  pub tokens_are : p.server.core.inbox.tokens ≡ tokens m.args ++ more

judge : (st : server.State) (f : Found) → (is_bind request_side f.message.entry.iface f.opcode
    && not (is_good_bind st f.message.values)) ≡ false → found st.core request_side ≡ Ok (Some f)
    → request st ≡ Ok (Some f)
judge st f h e = ap (unless_bad_bind st) e ∙ rw h refl

-- the first request, if it is whole
pub in_request : (p : PairState) (w : World) (m : Message Known) (ms : List (Message Known))
    (told : List (Coming Known)) (s : StandsBy p w (m ∷ ms) told) (n : ℕ)
    → in_front p.server.core.inbox ≡ Whole n → InRequest p w m ms told s n
in_request p w m ms told s n e =
    let q = first_read p.client.core.outbox p.server.core.inbox (spelled_meant m) (map spelled_meant ms ++ []) n
    s.requests.in_boxes e in
    let a = asks_at m.target (objects m.args) (made_in m.args) m.ends s.meet.tied in
    let i = request_front p w m ms told s n a in
    let f = s.requests.fit.0.fits in
    let none = made_for p.server.core.tables s.terms.valid m.target.born.iface.0 request_side
    m.opcode f.signature f.there in
    let there = finds p.server.core request_side m n
    (rows_of_server w) i.entry f none e q.bytes i.there i.same_target i.met q.enough in
    let binds : is_bind request_side i.entry.iface m.opcode ≡ true
    → is_good_bind p.server (map wire m.args) ≡ true = λ h. (
    let b = s.requests.fit.0.binds (sym (ap (λ (x : Born). is_bind request_side x.iface m.opcode) i.same_target) ∙ h) in
    ap (λ (l : List (Arg Known)). is_good_bind p.server (map wire l)) b.args_are ∙ b.was_given) in
    record {
      entry = i.entry;
      same_target = i.same_target;
      met = i.met;
      finds_it = judge p.server (the_found n m i.entry f.signature)
          (no_bad_bind (is_bind request_side i.entry.iface m.opcode) (is_good_bind p.server (map wire m.args)) binds)
          there;
      asks_it = a;
      up = q.stay;
      more = q.more;
      tokens_are = q.tokens;
    }
