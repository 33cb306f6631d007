-- The server announces globals.
use Rattle.std.proofs.Common.{◌≡◌, ◌≢◌, ℕ, zero, suc, ◌+◌, ◌<◌, ◌≤◌, ◌^◌, Bool, true, false, cond, List, [], ◌∷◌}
use Rattle.std.proofs.Common.{◌++◌, map, take, length, refl, sym, ap, subst, ◌∙◌, inl, inr, arith}
use Rattle.std.specs.Prelude.{option_map, nat_eq, ◌&&◌, slice_get, codes}
use Rattle.std.specs.declared.option.Option.{Option}
use Rattle.std.specs.declared.option.Option.TheVariants.{None, Some}
use Rattle.std.specs.declared.result.Result.{Result}
use Rattle.std.proofs.lemmas.List.{append-nil, append_assoc}
use Rattle.std.proofs.lemmas.Option.{slice_get_within}
use Rattle.wl_wire.specs.declared.kind.Iface.{Iface}
use Rattle.wl_wire.specs.Argument.{Uint, Str}
use Rattle.wl_wire.specs.Spelling.{IsText}
use Rattle.wl_sigs.specs.Side.TheVariants.{Event as event_side}
use Rattle.wl_sigs.specs.Destroys.TheVariants.{Nothing}
use Rattle.wl_sigs.specs.Tables.{Interface, interface_at, place_of}
use Rattle.wl_sigs.specs.Fixed.{registry}
use Rattle.wl_sigs.specs.Fixed as fixed
use Rattle.wl_sigs.specs.Valid.{Valid}
use Rattle.wl_message.specs.Outgoing.{queued}
use Rattle.wl_objects.specs.declared.error.SendError.{SendError}
use Rattle.wl_object_map.specs.declared.object.Object.{Object}
use Rattle.wl_object_map.specs.Objects.{Objects}
use Rattle.wl_objects.specs.Writing.{message_bytes, message_len}
use Rattle.wl_connection.specs.Core.{Core}
use Rattle.wl_connection.specs.Sending.{with_sent}
use Rattle.wl_server.specs.State as server
use Rattle.wl_server.specs.State.{Global, Registry, global_of, most_globals}
use Rattle.wl_server.specs.Calls.{can_be_global, version_in}
use Rattle.wl_server.specs.Announcing.{after_announce, Owing, Removal, Telling, owes_removal}
use Rattle.wl_server.specs.Announcing.{owes_telling, owings, owed_to, Due, due_to, owed_in, owed}
use Rattle.wl_server.specs.Announcing.{name_at, owed_opcode, values_of, with_dues, marked, marked_in}
use Rattle.wl_server.specs.Announcing.{all_marked}
use Rattle.wl_server.specs.Registries.{IsAmong, IsRegistry}
use Rattle.wl_server.proofs.Registries.{has_marked}
use Rattle.theory_connection.specs.Meant.{Born, Known, Message, Coming, Event, Arg, renamed, rearg}
use Rattle.theory_connection.specs.Meant.{born_of, birth_of, wire, tokens, made_in, objects, born_of_entry}
use Rattle.theory_connection.specs.World.{World, Each, event_written}
use Rattle.theory_connection.specs.Pair.{PairState, Announce, with_server, with_server_core}
use Rattle.theory_connection.specs.Pair.{Announces, announced, refused}
use Rattle.theory_connection.specs.Answers.{birth_at, mark_one, Owed, owed_by, mark_in, marks_of}
use Rattle.theory_connection.specs.Answers.{told_args, WritesThat, AnnouncesThose, none, more}
use Rattle.theory_connection.specs.Flight.{IsBelow, Rows, server_rows, tells, all_tells}
use Rattle.theory_connection.specs.Stands.{StandsBy, TellsFitly, IsGlobal}
use Rattle.theory_connection.proofs.WholeInFlight.{ThereRow, each_more}
use Rattle.theory_connection.proofs.RowsAfterMessage.{there_row, made_map, Aged}
use Rattle.theory_connection.proofs.TwoRanges.{row_word}
use Rattle.wl_objects.specs.Messages.{opens as opens_view}
use Rattle.std.proofs.lemmas.Bool.{cases_Bool}
use Rattle.wl_object_map.specs.Ranges.{is_of_server}
use Rattle.theory_connection.specs.Meant.{same_birth}
use Rattle.theory_connection.specs.Meant.{IsAmongFirst}
use Rattle.theory_connection.specs.World.{IfThere}
use Rattle.theory_connection.specs.Flight.{births_in}
use Rattle.theory_connection.proofs.ReadAsMeant.{made_of}
use Rattle.theory_connection.proofs.RequestRead.{test_of}
use Rattle.theory_connection.proofs.WholeInFlight.{FreshTold}
use Rattle.theory_connection.proofs.EndedObject.{born_ends}
use Rattle.theory_connection.proofs.EventWritten.{CanTell, told_core, tell_stands}
use Rattle.theory_connection.proofs.ServerSendMoves.{tells_world}
use Rattle.theory_connection.proofs.Places.{place_there, name_text}
use Rattle.theory_connection.proofs.Moves.{LeadsTo, Moves, goes_on, telling, event_below}
use Rattle.theory_connection.specs.World.{Running}
use Rattle.theory_connection.proofs.Errors.{before, server_lives}

-- ---- which events can be owed

abbrev pub IsOwing : List Interface → List Global → Owing → Type 0
IsOwing tables given (Removal name) = name ≤ most_globals
IsOwing tables given (Telling name g) = (name ≤ most_globals) × (global_of given name ≡ Some g) × IsGlobal tables g

each_if : (P : Owing → Type 0) (b : Bool) (o : Owing) (rest : List Owing) → P o → Each P rest
    → Each P (cond b (o ∷ rest) rest)
each_if P true o rest p r = (p, r)
each_if P false o rest p r = r

each_owing : (P : Owing → Type 0) (test : ℕ → Global → Bool) (owing : ℕ → Global → Owing) (from : ℕ) (gs : List Global)
    → ((k : ℕ) (g : Global) → slice_get gs k ≡ Some g → P (owing (from + k) g)) → Each P (owings test owing from gs)
each_owing P test owing from [] f = tt
each_owing P test owing from (g ∷ gs) f =
    let e : from + 0 ≡ from = omega arith in
    each_if P (test from g) (owing from g) (owings test owing (suc from) gs)
    (subst (λ (n : ℕ). P (owing n g)) e (f 0 g refl))
    (each_owing P test owing (suc from) gs (λ k h q.
    (let j : from + suc k ≡ suc from + k = omega arith in subst (λ (n : ℕ). P (owing n h)) j (f (suc k) h q))))

-- what holds for each element holds for the one at a place
pub each_get : {X : Type 0} (P : X → Type 0) (xs : List X) (k : ℕ) (x : X) → Each P xs → slice_get xs k ≡ Some x → P x
each_get P [] k x h e = absurd (cc e)
each_get P (y ∷ xs) zero x h e = subst P (cc e) h.0
each_get P (y ∷ xs) (suc k) x h e = each_get P xs k x h.1 e

owing_all : (tables : List Interface) (given : List Global) (r : Registry) → length given ≤ most_globals
    → Each (IsGlobal tables) given → Each (IsOwing tables given) (owed_to given r)
owing_all tables given r l g =
    each_more (IsOwing tables given) (owings (owes_removal r) (λ name _. Removal name) 1 given)
    (owings (owes_telling r) Telling 1 given)
    (each_owing (IsOwing tables given) (owes_removal r) (λ name _. Removal name) 1 given
    (λ k x h. (let n = slice_get_within given k x h in omega (arith, n, l))))
    (each_owing (IsOwing tables given) (owes_telling r) Telling 1 given (λ k x h.
    (let n = slice_get_within given k x h in let e : 1 + k ≡ suc k = omega arith in
    (omega (arith, n, l), ap (global_of given) e ∙ h, each_get (IsGlobal tables) given k x g h))))

-- an owed event is for an open registry
pub record IsDue (tables : List Interface) (given : List Global) (s : Rows Born) (d : Due) : Type 0 where
  pub version : ℕ
  pub some : 1 ≤ version
  pub there : s.rows d.object.id ≡ Some (record { birth = birth_at d.object; iface = registry; version = version })
  pub owing : IsOwing tables given d.owing

dues_of : (tables : List Interface) (given : List Global) (v : Objects) (o : Object) (os : List Owing) → Aged v
    → IsRegistry v o → Each (IsOwing tables given) os
    → Each (IsDue tables given (server_rows v)) (map (λ x. record { object = o; owing = x }) os)
dues_of tables given v o [] a i h = tt
dues_of tables given v o (x ∷ os) a i h = (
  record {
    version = i.entry.version;
    some = a o.id i.entry i.row;
    there = ap (option_map (born_of_entry o.id)) i.row ∙ (λ j. Some
        (record { birth = birth_at (record { id = o.id; birth = i.birth j }); iface = i.iface j; version = i.entry.version }));
    owing = h.0;
  },
  dues_of tables given v o os a i h.1,
)

pub all_due : (tables : List Interface) (given : List Global) (v : Objects) (rs : List Registry) → length given ≤ most_globals
    → Each (IsGlobal tables) given → Aged v → ((o : Object) → IsAmong o rs → IsRegistry v o)
    → Each (IsDue tables given (server_rows v)) (owed_in given rs)
all_due tables given v [] l g a i = tt
all_due tables given v (r ∷ rs) l g a i =
    each_more (IsDue tables given (server_rows v)) (due_to given r) (owed_in given rs)
    (dues_of tables given v r.object (owed_to given r) a (i r.object (inl refl)) (owing_all tables given r l g))
    (all_due tables given v rs l g a (λ o h. i o (inr h)))

pub each_take : {X : Type 0} (P : X → Type 0) (n : ℕ) (xs : List X) → Each P xs → Each P (take n xs)
each_take P zero xs h = tt
each_take P (suc n) [] h = tt
each_take P (suc n) (x ∷ xs) h = (h.0, each_take P n xs h.1)

-- ---- by births

abbrev pub owed_of : Due → Owed
owed_of d = record { birth = birth_at d.object; owing = d.owing }

map_join : {X Y : Type 0} (f : X → Y) (xs ys : List X) → map f (xs ++ ys) ≡ map f xs ++ map f ys
map_join f [] ys = refl
map_join f (x ∷ xs) ys = ap (λ (l : List _). f x ∷ l) (map_join f xs ys)

map_map : (r : Registry) (os : List Owing) → map owed_of (map (λ o. record { object = r.object; owing = o }) os)
    ≡ map (λ o. record { birth = birth_at r.object; owing = o }) os
map_map r [] = refl
map_map r (o ∷ os) = ap (λ (l : List Owed). record { birth = birth_at r.object; owing = o } ∷ l) (map_map r os)

pub owed_same : (given : List Global) (rs : List Registry)
    → owed_by given (map marks_of rs) ≡ map owed_of (owed_in given rs)
owed_same given [] = refl
owed_same given (r ∷ rs) =
    (λ i. sym (map_map r (owed_to given r)) i ++ owed_same given rs i)
    ∙ sym (map_join owed_of (due_to given r) (owed_in given rs))

take_map : {X Y : Type 0} (f : X → Y) (n : ℕ) (xs : List X) → take n (map f xs) ≡ map f (take n xs)
take_map f zero xs = refl
take_map f (suc n) [] = refl
take_map f (suc n) (x ∷ xs) = ap (λ (l : List _). f x ∷ l) (take_map f n xs)

-- marking a registry does not depend on its id
pick : (b : Bool) (o : Owing) (r : Registry)
    → marks_of (cond b (marked o r) r) ≡ cond b (mark_one o (marks_of r)) (marks_of r)
pick true (Removal name) r = refl
pick true (Telling name g) r = refl
pick false o r = refl

-- births of objects of the client's range are the same if their numbers are
same_numbers : (a b : Object) → is_of_server a.id ≡ false → is_of_server b.id ≡ false
    → nat_eq a.birth b.birth ≡ same_birth (birth_at a) (birth_at b)
same_numbers a b h k = rw (h, k) refl

-- marking by objects is marking by births, since all registries are the client's
pub marks_marked : (d : Due) (rs : List Registry) → is_of_server d.object.id ≡ false
    → ((o : Object) → IsAmong o rs → is_of_server o.id ≡ false)
    → map marks_of (marked_in d rs) ≡ mark_in (owed_of d) (map marks_of rs)
marks_marked d [] l f = refl
marks_marked d (r ∷ rs) l f =
    (λ i. pick (nat_eq r.object.birth d.object.birth) d.owing r i ∷ marks_marked d rs l (λ o a. f o (inr a)) i)
    ∙ (λ i. cond (same_numbers r.object d.object (f r.object (inl refl)) l i) (mark_one d.owing (marks_of r)) (marks_of r)
    ∷ mark_in (owed_of d) (map marks_of rs))

-- ---- the event

abbrev pub due_args : List Interface → Owing → List (Arg Known)
due_args tables (Removal name) = Uint name ∷ []
due_args tables (Telling name g) = Uint name ∷ Str (Some (name_at tables g.iface)) ∷ Uint g.version ∷ []

abbrev pub due_message : List Interface → Due → ℕ → Message Known
due_message tables d version = record {
  target = record {
    id = d.object.id;
    born = record { birth = birth_at d.object; iface = registry; version = version };
  };
  opcode = owed_opcode d.owing;
  args = due_args tables d.owing;
  ends = None;
}

due_wire : (tables : List Interface) (o : Owing) → map wire (due_args tables o) ≡ values_of tables o
due_wire tables (Removal name) = refl
due_wire tables (Telling name g) = refl

due_tokens : (tables : List Interface) (o : Owing) → tokens (due_args tables o) ≡ []
due_tokens tables (Removal name) = refl
due_tokens tables (Telling name g) = refl

due_births : (tables : List Interface) (o : Owing)
    → map (rearg birth_of) (map (rearg born_of) (due_args tables o)) ≡ told_args tables o
due_births tables (Removal name) = refl
due_births tables (Telling name g) = refl

pub due_none : (tables : List Interface) (o : Owing) → made_in (due_args tables o) ≡ None
due_none tables (Removal name) = refl
due_none tables (Telling name g) = refl

-- a global's interface is in the tables
pub record InTables (tables : List Interface) (iface : Iface) : Type 0 where
  pub interface : Interface
  pub there : interface_at tables iface.0 ≡ Some interface

and_right : (a b : Bool) → (a && b) ≡ true → b ≡ true
and_right true b h = h
and_right false b h = absurd (cc h)

in_tables_at : (tables : List Interface) (iface : Iface) (version : ℕ) (o : Option Interface)
    → interface_at tables iface.0 ≡ o → version_in version o ≡ true → InTables tables iface
in_tables_at tables iface version None e h = absurd (cc h)
in_tables_at tables iface version (Some i) e h = record { interface = i; there = e }

pub in_tables : (tables : List Interface) (g : Global) → can_be_global tables g.iface g.version ≡ true
    → InTables tables g.iface
in_tables tables g h = in_tables_at tables g.iface g.version (interface_at tables g.iface.0) refl (and_right _ _ h)

name_is : (tables : List Interface) (g : Global) (i : InTables tables g.iface)
    → name_at tables g.iface ≡ i.interface.name
name_is tables g i = rw i.there refl

pub record Named (tables : List Interface) (g : Global) : Type 0 where
  pub text : IsText (name_at tables g.iface)
  pub few : length (name_at tables g.iface) ≤ 256
  pub known : place_of tables (name_at tables g.iface) ≡ Some g.iface

pub named : (tables : List Interface) → Valid tables → (g : Global) → IsGlobal tables g → Named tables g
named tables v g h =
    let i = in_tables tables g h.can_be in
    let n = name_is tables g i in
    let is_name = v.names_distinct.interfaces_named g.iface.0 i.interface i.there in
    record {
      text = subst IsText (sym n) (name_text i.interface.name is_name);
      few = subst (λ (l : List ℕ). length l ≤ 256) (sym n) is_name.few;
      known = ap (place_of tables) n ∙ place_there tables v g.iface i.interface i.there;
    }

pub due_fits : (tables : List Interface) → Valid tables → (given : List Global) (d : Due) (version : ℕ) → 1 ≤ version
    → d.object.id < 2 ^ 32 → (o : Owing) → IsOwing tables given o → d.owing ≡ o
    → TellsFitly tables given (record {
      target = record {
        id = d.object.id;
        born = record {
          birth = birth_at d.object;
          iface = registry;
          version = version;
        };
      };
      opcode = owed_opcode o;
      args = due_args tables o;
      ends = None;
    })
due_fits tables v given d version w low (Removal name) h e = record {
  fits = record {
    signature = fixed.message (codes "global_remove") 1 (fixed.uint ∷ []) Nothing;
    there = rw v.fixed_four.registry refl;
    old_enough = w;
    args = ((omega (arith, h), tt), tt);
    ends = refl;
    len = omega arith;
    word = low;
    opcode = omega arith;
    new_version = tt;
    new_is = (tt, tt);
    no_error = refl;
  };
  no_delete_id = refl;
  tells = λ a b. absurd (omega (arith, b));
}
due_fits tables v given d version w low (Telling name g) h e =
    let n = named tables v g h.2 in
    record {
      fits = record {
        signature = fixed.message (codes "global") 1 (fixed.uint ∷ fixed.string ∷ fixed.uint ∷ []) Nothing;
        there = rw v.fixed_four.registry refl;
        old_enough = w;
        args = ((omega (arith, h.0), tt), ((n.text, tt), ((h.2.word, tt), tt)));
        ends = refl;
        len = omega (arith, n.few);
        word = low;
        opcode = omega arith;
        new_version = tt;
        new_is = (tt, (tt, (tt, tt)));
        no_error = refl;
      };
      no_delete_id = refl;
      tells = λ a b. record {
        name = name;
        iface = g.iface;
        version = g.version;
        args_are = refl;
        was_given = record { global = g; there = h.1; iface_is = refl; version_is = refl };
        known = n.known;
      };
    }

due_short : (tables : List Interface) → Valid tables → (given : List Global) (o : Owing) → IsOwing tables given o
    → message_len (map wire (due_args tables o)) ≤ 4096
due_short tables v given (Removal name) h = omega arith
due_short tables v given (Telling name g) h = let n = named tables v g h.2 in omega (arith, n.few)

-- ---- one event after another

due_can : (p : PairState) (w : World) (asked : List (Message Known)) (told : List (Coming Known))
    (s : StandsBy p w asked told) (d : Due) (i : IsDue p.server.core.tables p.server.globals
    (server_rows p.server.core.view) d)
    → CanTell p (due_message p.server.core.tables d i.version)
due_can p w asked told s d i =
    let x : Known = record {
      id = d.object.id;
      born =
          record { birth = birth_at d.object; iface = registry; version = i.version };
    } in
    let r = there_row p.server.core.view x i.there in
    let low = (row_word p.server.core.view d.object.id r.entry s.server.sound r.there).1 in
    record {
      fitly = due_fits p.server.core.tables s.terms.valid p.server.globals d i.version i.some low d.owing i.owing refl;
      target = i.there;
      args = no_objects p.server.core.tables d.owing;
      new = subst (IfThere (FreshTold (server_rows p.server.core.view))) (sym (due_none p.server.core.tables d.owing)) tt;
      new_plain = subst (IfThere (λ x. test_of p x.born ≡ false)) (sym (due_none p.server.core.tables d.owing)) tt;
      new_other = subst (IfThere (λ x. x.born.iface ≢ registry)) (sym (due_none p.server.core.tables d.owing)) tt;
      ends = tt;
      short = let l = due_short p.server.core.tables s.terms.valid p.server.globals d.owing i.owing
          in omega (arith, l, p.server.core.outbox.limit.in_range.0);
    }
  where
    no_objects : (tables : List Interface) (o : Owing)
        → Each (ThereRow (server_rows p.server.core.view)) (objects (due_args tables o))
    no_objects tables (Removal name) = tt
    no_objects tables (Telling name g) = tt

-- the server after one event
abbrev one_told : server.State → Due → server.State
one_told st d = record st {
  core = with_sent st.core d.object.id (owed_opcode d.owing) (values_of st.core.tables d.owing) [];
  registries = marked_in d st.registries;
}

pub core_is : (c : Core) (d : Due) (version : ℕ) → told_core c (due_message c.tables d version)
    ≡ with_sent c d.object.id (owed_opcode d.owing) (values_of c.tables d.owing) []
core_is c d version = λ i. record c {
  view = opens_view c.view (option_map made_of (due_none c.tables d.owing i));
  outbox = record c.outbox {
    messages = (append-nil (c.outbox.messages ++ queued
        (message_bytes d.object.id (owed_opcode d.owing) (map wire (due_args c.tables d.owing)))
        (tokens (due_args c.tables d.owing)) ∷ [])
        ∙ (λ j. c.outbox.messages ++ queued (message_bytes d.object.id (owed_opcode d.owing)
        (due_wire c.tables d.owing j)) (due_tokens c.tables d.owing j) ∷ [])) i;
  };
}

-- a registry has an id of the client's range
registry_client : (p : PairState) (w : World) (asked : List (Message Known)) (told : List (Coming Known))
    → StandsBy p w asked told → (o : Object) → IsRegistry p.server.core.view o → is_of_server o.id ≡ false
registry_client p w asked told s o r = elim (cases_Bool (is_of_server o.id)) [
  | inl l ↦ absurd ((s.plain o.id (born_of_entry o.id r.entry) l (ap (option_map (born_of_entry o.id)) r.row)).1 r.iface)
  | inr l ↦ l
]

due_client : (p : PairState) (w : World) (asked : List (Message Known)) (told : List (Coming Known))
    → StandsBy p w asked told → (d : Due) → IsDue p.server.core.tables p.server.globals
    (server_rows p.server.core.view) d → is_of_server d.object.id ≡ false
due_client p w asked told s d i = elim (cases_Bool (is_of_server d.object.id)) [
  | inl l ↦ absurd ((s.plain d.object.id _ l i.there).1 refl)
  | inr l ↦ l
]

marked_stands : (p : PairState) (w : World) (asked : List (Message Known)) (told : List (Coming Known))
    (s : StandsBy p w asked told) (d : Due) → is_of_server d.object.id ≡ false
    → StandsBy (with_server p (record p.server { registries = marked_in d p.server.registries }))
    (record w { registries = mark_in (owed_of d) w.registries }) asked told
marked_stands p w asked told s d range = record {
  terms = s.terms;
  client = s.client;
  server = s.server;
  plain = s.plain;
  none_made = s.none_made;
  requests = s.requests;
  behind = s.behind;
  events = s.events;
  error = s.error;
  asks_counted = s.asks_counted;
  deletes_follow = s.deletes_follow;
  meet = s.meet;
  globals = s.globals;
  registries = record {
    told = ap (mark_in (owed_of d)) s.registries.told ∙ sym (marks_marked d p.server.registries range
        (λ o a. registry_client p w asked told s o (s.registries.open_registries.only o a)));
    open_registries = has_marked p.server.core.view d p.server.registries s.registries.open_registries;
  };
}

pub record Told (p : PairState) (w : World) (asked : List (Message Known)) (earlier : List (Coming Known))
    (ds : List Due) (after_all : PairState) : Type 0 where
  pub world : World
  pub told : List (Coming Known)
  pub news : List (Coming Known)
  pub added : told ≡ earlier ++ news
  pub below : Each (IsBelow (births_in (server_rows p.server.core.view))) (all_tells news)
  pub announces : AnnouncesThose p.server.core.tables w (map owed_of ds) world
  pub stands_by : StandsBy after_all world asked told

one_stands : (p : PairState) (w : World) (asked : List (Message Known)) (told : List (Coming Known))
    (s : StandsBy p w asked told) (d : Due) (i : IsDue p.server.core.tables p.server.globals
    (server_rows p.server.core.view) d) → w.stage ≡ Running
    → let m = due_message p.server.core.tables d i.version in
    StandsBy (with_server p (one_told p.server d))
    (record (event_written w (renamed born_of m)) { registries = mark_in (owed_of d) w.registries }) asked
    (told ++ (Event m ∷ []))
one_stands p w asked told s d i z =
    let can = due_can p w asked told s d i in
    let m = due_message p.server.core.tables d i.version in
    let t = tell_stands p w asked told s m can z in
    let c = core_is p.server.core d i.version in
    marked_stands (with_server_core p (with_sent p.server.core d.object.id (owed_opcode d.owing)
    (values_of p.server.core.tables d.owing) [])) (event_written w (renamed born_of m)) asked
    (told ++ (Event m ∷ []))
    (subst (λ (x : Core). StandsBy (with_server_core p x) (event_written w (renamed born_of m)) asked
    (told ++ (Event m ∷ []))) c t) d (due_client p w asked told s d i)

writes_due : (p : PairState) (w : World) (asked : List (Message Known)) (told : List (Coming Known))
    (s : StandsBy p w asked told) (d : Due) (i : IsDue p.server.core.tables p.server.globals
    (server_rows p.server.core.view) d) → w.stage ≡ Running
    → WritesThat p.server.core.tables event_side w (birth_at d.object) (owed_opcode d.owing)
    (told_args p.server.core.tables d.owing) None
    (event_written w (renamed born_of (due_message p.server.core.tables d i.version)))
writes_due p w asked told s d i z =
    let can = due_can p w asked told s d i in
    let m = due_message p.server.core.tables d i.version in
    record {
      message = renamed born_of m;
      is = record {
        signature = can.fitly.fits.signature;
        there = can.fitly.fits.there;
        ends = born_ends m can.fitly.fits.signature.destroys can.fitly.fits.ends;
      };
      target_is = refl;
      opcode_is = refl;
      args_are = due_births p.server.core.tables d.owing;
      new_is = ap (option_map birth_of) (made_map born_of m.args
          ∙ ap (option_map born_of) (due_none p.server.core.tables d.owing));
      steps = tells_world p w asked told s m can z;
    }

pub tell_all : (p : PairState) (w : World) (asked : List (Message Known)) (told : List (Coming Known))
    → StandsBy p w asked told → w.stage ≡ Running → (ds : List Due)
    → Each (IsDue p.server.core.tables p.server.globals (server_rows p.server.core.view)) ds
    → Told p w asked told ds (with_server p (record
    p.server { core = with_dues p.server.core ds; registries = all_marked ds p.server.registries }))
tell_all p w asked told s z [] i = record {
  world = w;
  told = told;
  news = [];
  added = sym (append-nil told);
  below = tt;
  announces = none;
  stands_by = s;
}
tell_all p w asked told s z (d ∷ ds) i =
    let one = one_stands p w asked told s d i.0 z in
    let r = tell_all (with_server p (one_told p.server d)) _ asked _ one z ds i.1 in
    let can = due_can p w asked told s d i.0 in
    let m = due_message p.server.core.tables d i.0.version in
    record {
      world = r.world;
      told = r.told;
      news = Event m ∷ r.news;
      added = r.added ∙ append_assoc told (Event m ∷ []) r.news;
      below = each_more (IsBelow (births_in (server_rows p.server.core.view))) (tells (Event m)) (all_tells r.news)
          (event_below (server_rows p.server.core.view) (births_in (server_rows p.server.core.view))
          s.server.sets.below m can.target can.args
          (subst (IfThere (λ x. IsAmongFirst (births_in (server_rows p.server.core.view)) x.born.birth))
          (sym (due_none p.server.core.tables d.owing)) tt) tt) r.below;
      announces = more (writes_due p w asked told s d i.0 z) r.announces;
      stands_by = r.stands_by;
    }

-- of an end's core, only the outbox changes
pub only_sent : (c : Core) (ds : List Due) → with_dues c ds ≡ record c { outbox = (with_dues c ds).outbox }
only_sent c [] = refl
only_sent c (d ∷ ds) = only_sent (with_sent c d.object.id (owed_opcode d.owing) (values_of c.tables d.owing) []) ds

-- after an announcement the pair represents the next world
pub announce_keeps : (p : PairState) (w : World) (asked : List (Message Known)) (told : List (Coming Known))
    → StandsBy p w asked told → w.stage ≡ Running → (reply : Result ℕ SendError) (p' : PairState) → Announces p reply p'
    → Moves p w asked told Announce (Announce reply) p'
announce_keeps p w asked told s z reply p' (announced {count = count} l f) =
    let ds = take count (owed p.server) in
    let due = each_take (IsDue p.server.core.tables p.server.globals (server_rows p.server.core.view)) count
    (owed p.server)
    (all_due p.server.core.tables p.server.globals p.server.core.view p.server.registries s.globals.few_globals
    s.globals.globals s.server.versions s.registries.open_registries.only) in
    let r = tell_all p w asked told s z ds due in
    let owes : take count (owed_by w.given w.registries) ≡ map owed_of ds =
    ap (take count) ((λ i. owed_by (s.globals.given i) (s.registries.told i))
    ∙ owed_same p.server.globals p.server.registries) ∙ take_map owed_of count (owed p.server) in
    record {
      world = r.world;
      answers = before z (announced l f) (subst (λ (os : List Owed). AnnouncesThose p.server.core.tables w os r.world)
          (sym owes) r.announces);
      outcome = goes_on asked r.told r.stands_by
          (subst (λ (l : List (Coming Known)). LeadsTo p asked told
          (with_server p (after_announce p.server count)) asked l) (sym r.added)
          (subst (λ (c : Core). LeadsTo p asked told
          (with_server p (record p.server { core = c; registries = all_marked ds p.server.registries })) asked
          (told ++ r.news)) (sym (only_sent p.server.core ds))
          (telling p.server.core.view (with_dues p.server.core ds).outbox
          (all_marked ds p.server.registries) r.news (λ k. omega arith) r.below)));
    }
announce_keeps p w asked told s z reply p' (refused l) = absurd (cc (l, server_lives s z))
