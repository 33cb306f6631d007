-- An end's objects after a message.
use Rattle.std.proofs.Common.{◌≡◌, ◌≢◌, ℕ, ◌≤◌, Bool, true, false, cond, eqb, List, [], ◌∷◌, ◌++◌}
use Rattle.std.proofs.Common.{map, ◌⊎◌, inl, inr, refl, sym, ap, subst, ◌∙◌, arith, is_some, ⊎_elim}
use Rattle.std.specs.Prelude.{option_map}
use Rattle.std.specs.declared.option.Option.{Option}
use Rattle.std.specs.declared.option.Option.TheVariants.{None, Some}
use Rattle.std.proofs.lemmas.Bool.Decides.{nat_tests}
use Rattle.wl_wire.specs.Argument.{Obj}
use Rattle.wl_sigs.specs.Side.TheVariants.{Request, Event}
use Rattle.wl_object_map.specs.declared.object.Entry.{Entry}
use Rattle.wl_object_map.specs.declared.object.State.{State}
use Rattle.wl_object_map.specs.declared.object.State.TheVariants as states
use Rattle.wl_object_map.specs.View.{zombie}
use Rattle.wl_object_map.specs.Objects.{Objects, look, opened_at, closed}
use Rattle.wl_object_map.specs.Objects.{ObjectsAreSound}
use Rattle.wl_object_map.specs.ObjectsLaws.{look-opened_at, row-opened_at, row-closed, row-zombied}
use Rattle.wl_object_map.specs.ObjectsLaws.{free_of_client, room_of_client}
use Rattle.wl_object_map.specs.ObjectsLaws.{ObjectsAreSound-opened_at, ObjectsAreSound-closed}
use Rattle.wl_object_map.specs.ObjectsLaws.{ObjectsAreSound-zombied}
use Rattle.wl_objects.specs.Messages.{opens}
use Rattle.theory_connection.specs.Meant.{Born, Known, Arg, rearg, objects_in_arg, objects, new_object_in}
use Rattle.theory_connection.specs.Meant.{made_in, token_in, tokens, born_of_entry}
use Rattle.theory_connection.specs.World.{Row, Open, Ending, IfThere, Each}
use Rattle.theory_connection.specs.Flight.{Rows, at, row_of_entry, as_row, client_rows, server_rows, Fresh}
use Rattle.theory_connection.specs.Flight.{IsHeldInRows, NextTold}
use Rattle.wl_objects.specs.Messages.{or_else}
use Rattle.theory_connection.proofs.WholeInFlight.{ThereRow, client_makes, client_ends, server_makes, server_ends}
use Rattle.theory_connection.proofs.WholeInFlight.{client_told, server_told, FreshTold, OfClient, there_told_if}
use Rattle.theory_connection.proofs.Flight.{fresh_range, range_apart}
use Rattle.std.proofs.lemmas.Bool.{ne_eqb}
use Rattle.theory_connection.proofs.Sets.{there_kept}
use Rattle.theory_connection.proofs.Bridges.{map_none, client_opened, server_opened, server_closed}
use Rattle.theory_connection.proofs.Bridges.{client_zombied, fresh_free, fresh_room, client_told_rows}
use Rattle.theory_connection.proofs.Bridges.{server_told_rows}
use Rattle.wl_connection.proofs.ServerRange.{freed_opened, freed_zombied}
use Rattle.theory_connection.proofs.TwoRanges.{told_sound}
use Rattle.theory_connection.proofs.ReadAsMeant.{made_of}
use Rattle.theory_connection.proofs.EndedObject.{Mortal, ended_view}

-- ---- the object of a row

-- only something is mapped to something
pub map_some : {X Y : Type 0} (f : X → Y) (o : Option X) (y : Y) → option_map f o ≡ Some y
    → (x : X) × (o ≡ Some x) × (f x ≡ y)
map_some f None y h = absurd (cc h)
map_some f (Some x) y h = (x, refl, cc h)

some_is : {X : Type 0} (o : Option X) (x : X) → o ≡ Some x → is_some o ≡ true
some_is o x h = ap is_some h

row_born : (s : State) (b x : Born) → (as_row s b ≡ Open x) ⊎ (as_row s b ≡ Ending x) → b ≡ x
row_born states.Live b x h = elim h [ inl p ↦ cc | inr p ↦ absurd (cc p) ]
row_born states.Zombie b x h = elim h [ inl p ↦ absurd (cc p) | inr p ↦ cc ]

-- an object that the client holds
pub record HeldRow (v : Objects) (x : Known) : Type 0 where
  pub entry : Entry
  pub there : look v x.id ≡ Some entry
  pub same : born_of_entry x.id entry ≡ x.born

-- the entry of an object that the client holds
pub held_row : (v : Objects) (x : Known) → IsHeldInRows (client_rows v) x → HeldRow v x
held_row v x h = elim h [
  | inl p ↦ (let m = map_some (row_of_entry x.id) (look v x.id) (Open x.born) p
      in record { entry = m.0; there = m.1; same = row_born m.0.state (born_of_entry x.id m.0) x.born (inl m.2) })
  | inr p ↦ (let m = map_some (row_of_entry x.id) (look v x.id) (Ending x.born) p
      in record { entry = m.0; there = m.1; same = row_born m.0.state (born_of_entry x.id m.0) x.born (inr m.2) })
]

-- the entry of an object that is open at the server
pub there_row : (v : Objects) (x : Known) → ThereRow (server_rows v) x → HeldRow v x
there_row v x h = let m = map_some (born_of_entry x.id) (look v x.id) x.born h
    in record { entry = m.0; there = m.1; same = m.2 }

-- ---- the rows

-- the server's rows after a message that makes n and ends o
pub server_after : (v : Objects) (n o : Option Known) → IfThere (Fresh (server_rows v)) n
    → server_rows (ended_view Event (opens v (option_map made_of n)) o)
    ≡ server_ends o (server_makes (server_rows v) n)
server_after v None None g = refl
server_after v None (Some x) g = server_closed v x.id
server_after v (Some y) None g = server_opened v y g
server_after v (Some y) (Some x) g = server_closed (opened_at v y.id y.born.iface y.born.version) x.id
    ∙ ap (λ (r : Rows Born). at r x.id None) (server_opened v y g)

apart : (v : Objects) (y : Known) (id : ℕ) (e : Entry) → (client_rows v).rows y.id ≡ None → look v id ≡ Some e
    → look (opened_at v y.id y.born.iface y.born.version) id ≡ Some e
apart v y id e f h =
    let n = map_none (row_of_entry y.id) (look v y.id) f in
    let ne : id ≢ y.id = λ s. (let k = sym h ∙ ap (look v) s ∙ n in cc) in
    let b : eqb id y.id ≡ false = grind (arith, nat_tests) in
    look-opened_at v y.id y.born.iface y.born.version id ∙ rw b h

-- the client's rows after a message that makes n and ends o
pub client_after : (v : Objects) (n o : Option Known) → IfThere (Fresh (client_rows v)) n → IfThere (HeldRow v) o
    → client_rows (ended_view Request (opens v (option_map made_of n)) o)
    ≡ client_ends o (client_makes (client_rows v) n)
client_after v None None g h = refl
client_after v None (Some x) g h = client_zombied v x.id h.entry h.there
    ∙ ap (λ (b : Born). at (client_rows v) x.id (Some (Ending b))) h.same
client_after v (Some y) None g h = client_opened v y g
client_after v (Some y) (Some x) g h =
    client_zombied (opened_at v y.id y.born.iface y.born.version) x.id h.entry (apart v y x.id h.entry g.free h.there)
    ∙ ap (λ (b : Born). at (client_rows (opened_at v y.id y.born.iface y.born.version)) x.id (Some (Ending b))) h.same
    ∙ ap (λ (r : Rows Row). at r x.id (Some (Ending x.born))) (client_opened v y g)

-- the server's rows after an event that makes n and ends o
pub server_after_event : (v : Objects) (n o : Option Known) → IfThere (FreshTold (server_rows v)) n
    → server_rows (ended_view Event (opens v (option_map made_of n)) o)
    ≡ server_ends o (server_told (server_rows v) n)
server_after_event v None None g = refl
server_after_event v None (Some x) g = server_closed v x.id
server_after_event v (Some y) None g = server_told_rows v y g.range g.birth
server_after_event v (Some y) (Some x) g = server_closed (opened_at v y.id y.born.iface y.born.version) x.id
    ∙ ap (λ (r : Rows Born). at r x.id None) (server_told_rows v y g.range g.birth)

-- the client's rows after an event that makes n and ends o, if these have different ids
pub client_after_event : (v : Objects) (n o : Option Known) → IfThere (NextTold (client_rows v)) n
    → IfThere (HeldRow v) o → IfThere OfClient o
    → client_rows (ended_view Request (opens v (option_map made_of n)) o)
    ≡ client_ends o (client_told (client_rows v) n)
client_after_event v None None g h l = refl
client_after_event v None (Some x) g h l = client_zombied v x.id h.entry h.there
    ∙ ap (λ (b : Born). at (client_rows v) x.id (Some (Ending b))) h.same
client_after_event v (Some y) None g h l = client_told_rows v y g.range g.birth
client_after_event v (Some y) (Some x) g h l =
    let ne : eqb x.id y.id ≡ false = ne_eqb x.id y.id (range_apart x.id y.id l g.range) in
    let there = look-opened_at v y.id y.born.iface y.born.version x.id ∙ rw ne h.there in
    client_zombied (opened_at v y.id y.born.iface y.born.version) x.id h.entry there
    ∙ ap (λ (b : Born). at (client_rows (opened_at v y.id y.born.iface y.born.version)) x.id (Some (Ending b))) h.same
    ∙ ap (λ (r : Rows Row). at r x.id (Some (Ending x.born))) (client_told_rows v y g.range g.birth)

-- ---- soundness

server_opens_sound : (v : Objects) (n : Option Known) → ObjectsAreSound v → IfThere (Fresh (server_rows v)) n
    → ObjectsAreSound (opens v (option_map made_of n))
server_opens_sound v None s g = s
server_opens_sound v (Some y) s g =
    let range = fresh_range g in
    ObjectsAreSound-opened_at v y.id y.born.iface y.born.version s
    (free_of_client v y.id range ∙ fresh_free v y s g) (room_of_client v y.id range ∙ fresh_room v y g)

server_opens_rows : (v : Objects) (n : Option Known) → IfThere (Fresh (server_rows v)) n
    → server_rows (opens v (option_map made_of n)) ≡ server_makes (server_rows v) n
server_opens_rows v None g = refl
server_opens_rows v (Some y) g = server_opened v y g

-- closing an object that has a row keeps an end sound
closed_sound : (v : Objects) (o : Option Known) → ObjectsAreSound v → IfThere (ThereRow (server_rows v)) o
    → IfThere Mortal o → ObjectsAreSound (ended_view Event v o)
closed_sound v None s h y = s
closed_sound v (Some x) s h y = let r = there_row v x h in ObjectsAreSound-closed v x.id s (some_is _ r.entry r.there) y

there_then : (s t : Rows Born) (o : Option Known) → s ≡ t → IfThere (ThereRow t) o → IfThere (ThereRow s) o
there_then s t o e h = subst (λ (r : Rows Born). IfThere (ThereRow r) o) (sym e) h

there_kept_if : (s : Rows Born) (n o : Option Known) → IfThere (Fresh s) n → IfThere (ThereRow s) o
    → IfThere (ThereRow (server_makes s n)) o
there_kept_if s n None g h = tt
there_kept_if s n (Some x) g h = there_kept s n x g h

-- the server's objects are sound after a request
pub server_sound : (v : Objects) (n o : Option Known) → ObjectsAreSound v → IfThere (Fresh (server_rows v)) n
    → IfThere (ThereRow (server_rows v)) o → IfThere Mortal o
    → ObjectsAreSound (ended_view Event (opens v (option_map made_of n)) o)
server_sound v n o s g h y =
    closed_sound (opens v (option_map made_of n)) o (server_opens_sound v n s g)
    (there_then _ _ o (server_opens_rows v n g) (there_kept_if (server_rows v) n o g h)) y

server_tells_sound : (v : Objects) (n : Option Known) → ObjectsAreSound v → IfThere (FreshTold (server_rows v)) n
    → ObjectsAreSound (opens v (option_map made_of n))
server_tells_sound v None s g = s
server_tells_sound v (Some y) s g = told_sound v y.id y.born.iface y.born.version s g.range g.next g.low g.left

server_tells_rows : (v : Objects) (n : Option Known) → IfThere (FreshTold (server_rows v)) n
    → server_rows (opens v (option_map made_of n)) ≡ server_told (server_rows v) n
server_tells_rows v None g = refl
server_tells_rows v (Some y) g = server_told_rows v y g.range g.birth

-- the server's objects are sound after an event
pub server_event_sound : (v : Objects) (n o : Option Known) → ObjectsAreSound v
    → IfThere (FreshTold (server_rows v)) n → IfThere (ThereRow (server_rows v)) o → IfThere Mortal o
    → ObjectsAreSound (ended_view Event (opens v (option_map made_of n)) o)
server_event_sound v n o s g h y =
    closed_sound (opens v (option_map made_of n)) o (server_tells_sound v n s g)
    (there_then _ _ o (server_tells_rows v n g) (there_told_if (server_rows v) n o g h)) y

-- the client's objects are sound after an object ended
pub client_sound : (v : Objects) (o : Option Known) → ObjectsAreSound v → IfThere Mortal o
    → ObjectsAreSound (ended_view Request v o)
client_sound v None s y = s
client_sound v (Some x) s y = ObjectsAreSound-zombied v x.id s y

-- the client's objects are sound after an event made an object
pub client_event_sound : (v : Objects) (n : Option Known) → ObjectsAreSound v → IfThere (NextTold (client_rows v)) n
    → ObjectsAreSound (opens v (option_map made_of n))
client_event_sound v None s g = s
client_event_sound v (Some y) s g = told_sound v y.id y.born.iface y.born.version s g.range g.next g.low g.left

-- a message that makes n and ends o frees no id of the server's range at a client
pub never_freed : (v : Objects) (n o : Option Known) → v.server.freed ≡ []
    → (ended_view Request (opens v (option_map made_of n)) o).server.freed ≡ []
never_freed v n None h = freed_opened v (option_map made_of n) h
never_freed v n (Some x) h =
    freed_zombied (opens v (option_map made_of n)) x.id (freed_opened v (option_map made_of n) h)

-- ---- the server's rows are live

abbrev pub AllLive : Objects → Type 0
AllLive v = (id : ℕ) (e : Entry) → look v id ≡ Some e → e.state ≡ states.Live

opens_live : (v : Objects) (n : Option Known) → AllLive v → AllLive (opens v (option_map made_of n))
opens_live v None l = l
opens_live v (Some y) l = λ id e h. ⊎_elim (λ p. ap (λ (d : Entry). d.state) p.1) (λ p. l id e p.1)
    (row-opened_at v y.id y.born.iface y.born.version id e h)

-- the server's rows stay live
pub server_live : (v : Objects) (n o : Option Known) → AllLive v
    → AllLive (ended_view Event (opens v (option_map made_of n)) o)
server_live v n None l = opens_live v n l
server_live v n (Some x) l = λ id e h. opens_live v n l id e (row-closed (opens v (option_map made_of n)) x.id id e h).1

-- ---- messages with their objects renamed

module _ {A B : Type 0} (f : A → B) where
  or_map : (a b : Option A) → or_else (option_map f a) (option_map f b) ≡ option_map f (or_else a b)
  or_map None b = refl
  or_map (Some x) b = refl

  new_map : (a : Arg A) → new_object_in (rearg f a) ≡ option_map f (new_object_in a)
  new_map (Obj None) = refl
  new_map a = refl

  -- the object that arguments make, with objects renamed
  pub made_map : (args : List (Arg A)) → made_in (map (rearg f) args) ≡ option_map f (made_in args)
  made_map [] = refl
  made_map (a ∷ args) = rw (new_map a, made_map args) (or_map (new_object_in a) (made_in args))

  object_map : (a : Arg A) (xs : List A) → objects_in_arg (rearg f a) ++ map f xs ≡ map f (objects_in_arg a ++ xs)
  object_map (Obj None) xs = refl
  object_map a xs = refl

  -- the objects of arguments, renamed
  pub objects_map : (args : List (Arg A)) → objects (map (rearg f) args) ≡ map f (objects args)
  objects_map [] = refl
  objects_map (a ∷ args) = rw (objects_map args) (object_map a (objects args))

  token_map : (a : Arg A) (xs : List ℕ) → token_in (rearg f a) ++ xs ≡ token_in a ++ xs
  token_map (Obj None) xs = refl
  token_map a xs = refl

  -- the tokens do not depend on the names of objects
  pub tokens_map : (args : List (Arg A)) → tokens (map (rearg f) args) ≡ tokens args
  tokens_map [] = refl
  tokens_map (a ∷ args) = rw (tokens_map args) (token_map a (tokens args))

-- if P holds for f of each element, it holds for each element of the mapped list
pub each_map : {X Y : Type 0} (f : X → Y) (P : Y → Type 0) (xs : List X) → Each (λ x. P (f x)) xs → Each P (map f xs)
each_map f P [] h = tt
each_map f P (x ∷ xs) h = (h.0, each_map f P xs h.1)

-- ---- versions are 1 or above

-- each entry has version 1 or above
abbrev pub Aged : Objects → Type 0
Aged v = (id : ℕ) (e : Entry) → look v id ≡ Some e → 1 ≤ e.version

opens_aged : (v : Objects) (n : Option Known) → IfThere (λ x. 1 ≤ x.born.version) n → Aged v
    → Aged (opens v (option_map made_of n))
opens_aged v None g a = a
opens_aged v (Some y) g a = λ id e h. ⊎_elim (λ p. (let k = ap (λ (d : Entry). d.version) p.1 in omega (arith, k, g)))
    (λ p. a id e p.1) (row-opened_at v y.id y.born.iface y.born.version id e h)

kept_version : (b : Bool) (d : Entry) → (cond b (zombie d) d).version ≡ d.version
kept_version true d = refl
kept_version false d = refl

-- versions stay 1 or above at the client
pub client_aged : (v : Objects) (n o : Option Known) → IfThere (λ y. 1 ≤ y.born.version) n → Aged v
    → Aged (ended_view Request (opens v (option_map made_of n)) o)
client_aged v n None g a = opens_aged v n g a
client_aged v n (Some x) g a = λ id e h.
    let z = row-zombied (opens v (option_map made_of n)) x.id id e h in
    let k = opens_aged v n g a id z.0 z.1.0 in
    let q = ap (λ (d : Entry). d.version) z.1.1 ∙ kept_version (eqb id x.id) z.0 in
    omega (arith, k, q)

-- versions stay 1 or above at the server
pub server_aged : (v : Objects) (n o : Option Known) → IfThere (λ y. 1 ≤ y.born.version) n → Aged v
    → Aged (ended_view Event (opens v (option_map made_of n)) o)
server_aged v n None g a = opens_aged v n g a
server_aged v n (Some x) g a = λ id e h. opens_aged v n g a id e
    (row-closed (opens v (option_map made_of n)) x.id id e h).1

-- versions stay 1 or above after an id is closed
pub closed_aged : (v : Objects) (x : ℕ) → Aged v → Aged (closed v x)
closed_aged v x a = λ id e h. a id e (row-closed v x id e h).1
