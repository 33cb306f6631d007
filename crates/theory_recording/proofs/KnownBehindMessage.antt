-- What a checker knows after one message, from what it knew before it.
use Rattle.std.proofs.Common.{◌≡◌, ℕ, zero, suc, ◌<◌, Bool, true, false, cond, None, Some, List, []}
use Rattle.std.proofs.Common.{◌∷◌, ◌++◌, ◌⊎◌, inl, inr, length, length-append, get_or, refl, sym}
use Rattle.std.proofs.Common.{ap, ◌∙◌, arith, ◌≢◌, append-nil, ◌+◌, ◌-◌, subst}
use Rattle.std.proofs.lemmas.List.{get_or_append_left}
use Rattle.std.proofs.lemmas.Bool.{and_right, cases_lt, lt-ltb, le-ltb}
use Rattle.std.proofs.Math.Seq.{get_or-append_seam}
use Rattle.std.proofs.lemmas.Bool.Decides.{nat_tests}
use Rattle.std.specs.Prelude.{Option, option_map, not, ◌&&◌, ◌≤◌, nat_eq, max}
use Rattle.std.specs.declared.result.Result.TheVariants.{Ok}
use Rattle.wl_sigs.specs.Tables.{Interface}
use Rattle.wl_object_map.specs.declared.object.Entry.{Entry}
use Rattle.wl_object_map.specs.declared.object.State.TheVariants.{Live}
use Rattle.wl_object_map.specs.declared.object.Maker.{Maker}
use Rattle.wl_object_map.specs.declared.object.Maker.TheVariants.{Client, Server}
use Rattle.wl_object_map.specs.Ranges.{is_of_server, first_server_id}
use Rattle.wl_object_map.specs.Objects.{maker_of}
use Rattle.wl_object_map.specs.ObjectsLaws.{is_from}
use Rattle.wl_objects.specs.Messages.{NewObject}
use Rattle.wl_check.specs.Changes.{Call, changes}
use Rattle.wl_check.specs.Places.{KnownAtPlace as Knows, is_id, is_made, frees_id, made_entry, new_or_null, used_by}
use Rattle.wl_check.specs.Places.{unless_deleted, server_used_by}
use Rattle.wl_check.specs.Session.{Judged, changes_at}
use Rattle.wl_check.proofs.JudgedByPlaces.{changes_at_same}
use Rattle.wl_check.proofs.LongerRecording.{length_last, changes_last}
use Rattle.theory_connection.specs.Meant.{Birth, IsAmongFirst, same_maker, Known}
use Rattle.theory_connection.specs.World.{Row, Open, Ending, IfThere}
use Rattle.theory_connection.specs.Stands.{birth_in}
use Rattle.theory_connection.specs.Flight.{put_row, Rows, Counts, births_in, with_made, with_told, IsHeldInRows, Fresh}
use Rattle.theory_connection.specs.Flight.{NextTold, at, most}
use Rattle.theory_connection.proofs.Flight.{put_row_tells, held_other, held_some, fresh_range, range_apart}
use Rattle.theory_connection.proofs.Sets.{made_counts, told_counts, ends_count, at_count}
use Rattle.theory_connection.proofs.WholeInFlight.{client_makes, client_told, client_ends, OfClient, held_told_if}
use Rattle.theory_connection.proofs.EndedObject.{if_by}
use Rattle.theory_connection.proofs.ReadAsMeant.{made_of}
use Rattle.theory_recording.specs.Follows.{entry_at, place_of_making, places_of_making, birth_places, KnownAs}
use Rattle.theory_connection.proofs.Births.{maker_itself, counted_more, next_counted}

-- the places, with one more if the message makes an object
abbrev pub grown : (Maker → List ℕ) → Option NewObject → ℕ → Maker → List ℕ
grown places made p by = places by ++ place_of_making by made p

abbrev Below : (Maker → List ℕ) → Rows Row → Type 0
Below places here = (id : ℕ) (r : Row) → here.rows id ≡ Some r
    → (birth_in r).number < length (places (birth_in r).maker)

-- more places do not change what is known of an object
entry_more : (places more : Maker → List ℕ) (r : Row) → (birth_in r).number < length (places (birth_in r).maker)
    → entry_at (λ by. places by ++ more by) r ≡ entry_at places r
entry_more places more (Open x) h =
    let g = get_or_append_left (places x.birth.maker) (more x.birth.maker) 0 x.birth.number h
    in λ i. record (entry_at places (Open x)) { birth = g i }
entry_more places more (Ending x) h =
    let g = get_or_append_left (places x.birth.maker) (more x.birth.maker) 0 x.birth.number h
    in λ i. record (entry_at places (Ending x)) { birth = g i }

row_more : (places more : Maker → List ℕ) (o : Option Row)
    → ((r : Row) → o ≡ Some r → (birth_in r).number < length (places (birth_in r).maker))
    → option_map (entry_at (λ by. places by ++ more by)) o ≡ option_map (entry_at places) o
row_more places more None h = refl
row_more places more (Some r) h = ap (λ (e : Entry). Some e) (entry_more places more r (h r refl))

-- a new object is the next of its maker, and its id is in that maker's range
record IsNext (places : Maker → List ℕ) (x : Known) : Type 0 where
  number : x.born.birth.number ≡ length (places x.born.birth.maker)
  maker_is : maker_of x.id ≡ x.born.birth.maker

-- the new object is at its place
new_entry : (places : Maker → List ℕ) (p : ℕ) (x : Known) → IsNext places x
    → entry_at (grown places (Some (made_of x)) p) (Open x.born) ≡ made_entry p Live (made_of x)
new_entry places p x n =
    let by = x.born.birth.maker in
    let own : place_of_making by (Some (made_of x)) p ≡ p ∷ [] =
    ap (λ (m : Maker). cond (same_maker m by) (p ∷ []) []) n.maker_is
    ∙ ap (λ (b : Bool). cond b (p ∷ []) []) (maker_itself by) in
    let g : get_or (grown places (Some (made_of x)) p by) x.born.birth.number 0 ≡ p =
    ap (λ (l : List ℕ). get_or (places by ++ l) x.born.birth.number 0) own
    ∙ ap (λ n. get_or (places by ++ p ∷ []) n 0) n.number ∙ get_or-append_seam (places by) p [] 0 in
    λ i. record (made_entry p Live (made_of x)) { birth = g i }

-- ---- one id, after a message that makes an object, destroys one or deletes one

at_made : (places : Maker → List ℕ) (p : ℕ) (x : Known) (here : Rows Row) → IsNext places x
    → Below places here
    → (id : ℕ) (b : Bool) → is_made (Some (made_of x)) id ≡ b
    → cond b (Some (made_entry p Live (made_of x))) (option_map (entry_at places) (here.rows id))
    ≡ option_map (entry_at (grown places (Some (made_of x)) p)) (put_row here.rows x.id (Some (Open x.born)) id)
at_made places p x here e below id true t =
    let i : id ≡ x.id = grind (arith, nat_tests) in
    let there : put_row here.rows x.id (Some (Open x.born)) id ≡ Some (Open x.born) = grind (arith, put_row_tells) in
    rw there (ap (λ (y : Entry). Some y) (sym (new_entry places p x e)))
at_made places p x here e below id false t =
    let i : id ≢ x.id = grind (arith, nat_tests) in
    let there : put_row here.rows x.id (Some (Open x.born)) id ≡ here.rows id = grind (arith, put_row_tells) in
    rw there (sym (row_more places (λ by. place_of_making by (Some (made_of x)) p) (here.rows id) (below id)))

zombie_entry : (birth_places : Maker → List ℕ) (x : Known) (o : Option Row)
    → (o ≡ Some (Open x.born)) ⊎ (o ≡ Some (Ending x.born))
    → unless_deleted false true (option_map (entry_at birth_places) o) ≡ Some (entry_at birth_places (Ending x.born))
zombie_entry birth_places x o (inl h) = rw h refl
zombie_entry birth_places x o (inr h) = rw h refl

at_ended : (birth_places : Maker → List ℕ) (x : Known) (here : Rows Row) → IsHeldInRows here x → (id : ℕ) (b : Bool)
    → is_id (Some x.id) id ≡ b
    → unless_deleted false b (option_map (entry_at birth_places) (here.rows id))
    ≡ option_map (entry_at birth_places) (put_row here.rows x.id (Some (Ending x.born)) id)
at_ended birth_places x here h id true t =
    let i : id ≡ x.id = grind (arith, nat_tests) in
    let there : put_row here.rows x.id (Some (Ending x.born)) id ≡ Some (Ending x.born) =
    grind (arith, put_row_tells) in
    ap (λ n. unless_deleted false true (option_map (entry_at birth_places) (here.rows n))) i
    ∙ zombie_entry birth_places x (here.rows x.id) h ∙ ap (option_map (entry_at birth_places)) (sym there)
at_ended birth_places x here h id false t =
    let i : id ≢ x.id = grind (arith, nat_tests) in
    let there : put_row here.rows x.id (Some (Ending x.born)) id ≡ here.rows id = grind (arith, put_row_tells) in
    ap (option_map (entry_at birth_places)) (sym there)

at_deleted : (birth_places : Maker → List ℕ) (x : Known) (here : Rows Row) (id : ℕ) (b : Bool) → is_id (Some x.id) id ≡ b
    → unless_deleted b false (option_map (entry_at birth_places) (here.rows id))
    ≡ option_map (entry_at birth_places) (put_row here.rows x.id None id)
at_deleted birth_places x here id true t = let there : put_row here.rows x.id None id ≡ None =
    (let i : id ≡ x.id = grind (arith, nat_tests) in grind (arith, put_row_tells))
    in ap (option_map (entry_at birth_places)) (sym there)
at_deleted birth_places x here id false t = let there : put_row here.rows x.id None id ≡ here.rows id =
    (let i : id ≢ x.id = grind (arith, nat_tests) in grind (arith, put_row_tells))
    in ap (option_map (entry_at birth_places)) (sym there)

-- ---- a message that makes an object, or none, and destroys one, or none

frees_none : (id : ℕ) → frees_id None id ≡ false
frees_none id = and_right (not (nat_eq id 1) && not (is_of_server id)) false refl

-- an id of the client's range
of_client : (id : ℕ) → id ≤ 1048576 → is_of_server id ≡ false
of_client id low = grind (arith, nat_tests)

most_is : (a b : ℕ) → max b a ≡ most a b
most_is a b = elim (cases_lt a b) [
  | inl h ↦ rw (lt-ltb a b h) (omega (arith, h))
  | inr h ↦ rw (le-ltb a b h) (omega (arith, h))
]

makes_objects : (places : Maker → List ℕ) (p : ℕ) (here : Rows Row) (n : Option Known)
    → Below places here → IfThere (IsNext places) n → (id : ℕ)
    → cond (is_made (option_map made_of n) id) (Some (made_entry p Live (new_or_null (option_map made_of n))))
    (option_map (entry_at places) (here.rows id))
    ≡ option_map (entry_at (grown places (option_map made_of n) p)) ((client_makes here n).rows id)
makes_objects places p here None below f id = sym (row_more places (λ by. []) (here.rows id) (below id))
makes_objects places p here (Some y) below f id =
    at_made places p y here f below id (is_made (Some (made_of y)) id) refl

-- the id of what a message destroys
abbrev pub ended_ids : Option Known → Option ℕ
ended_ids o = option_map (λ x. x.id) o

ends_objects : (birth_places : Maker → List ℕ) (v : Rows Row) (o : Option Known) → IfThere (IsHeldInRows v) o → (id : ℕ)
    → unless_deleted (frees_id None id) (is_id (ended_ids o) id) (option_map (entry_at birth_places) (v.rows id))
    ≡ option_map (entry_at birth_places) ((client_ends o v).rows id)
ends_objects birth_places v None h id = rw (frees_none id) refl
ends_objects birth_places v (Some x) h id = rw (frees_none id)
    (at_ended birth_places x v h id (is_id (Some x.id) id) refl)

-- the object that a message destroys is not the one that it makes
abbrev Differ : Option Known → Option Known → Type 0
Differ n o = (y x : Known) → n ≡ Some y → o ≡ Some x → x.id ≢ y.id

apart : (n o : Option Known) → Differ n o → (id : ℕ)
    → is_made (option_map made_of n) id ≡ true → is_id (ended_ids o) id ≡ false
apart None o f id e = absurd (cc e)
apart (Some y) None f id e = refl
apart (Some y) (Some x) f id e = let ne = f y x refl refl in grind (arith, nat_tests)

swap : (made deleted ended : Bool) (new : Entry) (o : Option Entry) → deleted ≡ false → (made ≡ true → ended ≡ false)
    → cond made (Some new) (unless_deleted deleted ended o) ≡ unless_deleted deleted ended (cond made (Some new) o)
swap true deleted ended new o d e = rw (d, e refl) refl
swap false deleted ended new o d e = refl

held_made : (here : Rows Row) (n : Option Known) (x : Known) → IfThere (Fresh here) n → IsHeldInRows here x
    → IsHeldInRows (client_makes here n) x
held_made here None x f h = h
held_made here (Some y) x f h = held_other here x y.id (Some (Open y.born)) h (held_some here x y.id h f.free)

used_made : (here : Rows Row) (n : Option Known) (count : ℕ) → IfThere (Fresh here) n → count ≡ here.used
    → used_by (option_map made_of n) count ≡ (client_makes here n).used
used_made here None count f e = e
used_made here (Some y) count f e = rw (of_client y.id f.low) (ap (max y.id) e ∙ most_is here.used y.id)

births_made : (places : Maker → List ℕ) (p : ℕ) (here : Rows Row) (n : Option Known)
    → ((by : Maker) → length (places by) ≡ births_in here by) → IfThere (Fresh here) n
    → (by : Maker) → length (grown places (option_map made_of n) p by) ≡ births_in (client_makes here n) by
births_made places p here None e f by = ap length (append-nil (places by)) ∙ e by
births_made places p here (Some y) e f Client =
    let c = e Client in let range = fresh_range f in
    rw range (omega (arith, length-append (places Client) (p ∷ []), c))
births_made places p here (Some y) e f Server =
    let range = fresh_range f in rw range (ap length (append-nil (places Server)) ∙ e Server)

-- the same if an event makes the object
births_told : (places : Maker → List ℕ) (p : ℕ) (here : Rows Row) (n : Option Known)
    → ((by : Maker) → length (places by) ≡ births_in here by) → IfThere (NextTold here) n
    → (by : Maker) → length (grown places (option_map made_of n) p by) ≡ births_in (client_told here n) by
births_told places p here None e f by = ap length (append-nil (places by)) ∙ e by
births_told places p here (Some y) e f Client =
    rw f.range (ap length (append-nil (places Client)) ∙ e Client)
births_told places p here (Some y) e f Server =
    let c = e Server in rw f.range (omega (arith, length-append (places Server) (p ∷ []), c))

next_made : (here : Rows Row) (n : Option Known) (count : ℕ) → IfThere (Fresh here) n
    → first_server_id + count ≡ here.by_server.next
    → first_server_id + server_used_by (option_map made_of n) count ≡ (client_makes here n).by_server.next
next_made here None count f e = e
next_made here (Some y) count f e = let range = fresh_range f in rw range e

next_counted_by : (id count next : ℕ) → 4278190080 ≤ id → 4278190080 + count ≡ next
    → 4278190080 + max (id - 4278190080 + 1) count ≡ most next (id + 1)
next_counted_by id count next l e = grind (arith, nat_tests, l, e)

next_told : (here : Rows Row) (n : Option Known) (count : ℕ) → IfThere (NextTold here) n
    → first_server_id + count ≡ here.by_server.next
    → first_server_id + server_used_by (option_map made_of n) count ≡ (client_told here n).by_server.next
next_told here None count f e = e
next_told here (Some y) count f e =
    rw f.range (next_counted_by y.id count here.by_server.next (is_from y.id f.range) e)

used_told : (here : Rows Row) (n : Option Known) (count : ℕ) → IfThere (NextTold here) n → count ≡ here.used
    → used_by (option_map made_of n) count ≡ (client_told here n).used
used_told here None count f e = e
used_told here (Some y) count f e = rw f.range e

abbrev AllBelow : Rows Row → Type 0
AllBelow v = (id : ℕ) (r : Row) → v.rows id ≡ Some r → IsAmongFirst (births_in v) (birth_in r)

abbrev AllBy : Rows Row → Type 0
AllBy v = (id : ℕ) (r : Row) → v.rows id ≡ Some r → (birth_in r).maker ≡ maker_of id

below_made : (here : Rows Row) (n : Option Known) → IfThere (Fresh here) n → AllBelow here
    → AllBelow (client_makes here n)
below_made here None f below = below
below_made here (Some y) f below = λ id r e. elim (put_row_tells here.rows y.id (Some (Open y.born)) id) [
  | inl p ↦ (let q : Open y.born ≡ r = cc (p.1, e) in
      subst (λ (x : Row). IsAmongFirst (births_in (with_made here y.id (Open y.born))) (birth_in x)) q
      (next_counted y.born.birth Client here.births (births_in (with_made here y.id (Open y.born))) f.birth (omega arith)))
  | inr p ↦ counted_more (birth_in r) (births_in here) (births_in (with_made here y.id (Open y.born)))
      (below id r (sym p.1 ∙ e)) (made_counts here y.id (Open y.born))
]

below_told : (here : Rows Row) (n : Option Known) → IfThere (NextTold here) n → AllBelow here
    → AllBelow (client_told here n)
below_told here None f below = below
below_told here (Some y) f below = λ id r e. elim (put_row_tells here.rows y.id (Some (Open y.born)) id) [
  | inl p ↦ (let q : Open y.born ≡ r = cc (p.1, e) in
      subst (λ (x : Row). IsAmongFirst (births_in (with_told here y.id (Open y.born))) (birth_in x)) q
      (next_counted y.born.birth Server here.by_server.births (births_in (with_told here y.id (Open y.born))) f.birth
      (omega arith)))
  | inr p ↦ counted_more (birth_in r) (births_in here) (births_in (with_told here y.id (Open y.born)))
      (below id r (sym p.1 ∙ e)) (told_counts here y.id (Open y.born))
]

by_put : (here : Rows Row) (y : Known) → maker_of y.id ≡ y.born.birth.maker → AllBy here → (id : ℕ) (r : Row)
    → put_row here.rows y.id (Some (Open y.born)) id ≡ Some r → (birth_in r).maker ≡ maker_of id
by_put here y m by id r e = elim (put_row_tells here.rows y.id (Some (Open y.born)) id) [
  | inl p ↦ (let q : Open y.born ≡ r = cc (p.1, e) in
      ap (λ (x : Row). (birth_in x).maker) (sym q) ∙ sym m ∙ ap maker_of (sym p.0))
  | inr p ↦ by id r (sym p.1 ∙ e)
]

fresh_maker : (here : Rows Row) (y : Known) → Fresh here y → maker_of y.id ≡ y.born.birth.maker
fresh_maker here y f = ap (λ (b : Bool). cond b Server Client) (fresh_range f)
    ∙ sym (ap (λ (b : Birth). b.maker) f.birth)

told_maker : (here : Rows Row) (y : Known) → NextTold here y → maker_of y.id ≡ y.born.birth.maker
told_maker here y f = ap (λ (b : Bool). cond b Server Client) f.range
    ∙ sym (ap (λ (b : Birth). b.maker) f.birth)

by_made : (here : Rows Row) (n : Option Known) → IfThere (Fresh here) n → AllBy here → AllBy (client_makes here n)
by_made here None f by = by
by_made here (Some y) f by = by_put here y (fresh_maker here y f) by

by_told : (here : Rows Row) (n : Option Known) → IfThere (NextTold here) n → AllBy here → AllBy (client_told here n)
by_told here None f by = by
by_told here (Some y) f by = by_put here y (told_maker here y f) by

held_below : (v : Rows Row) (x : Known) → AllBelow v → IsHeldInRows v x → IsAmongFirst (births_in v) x.born.birth
held_below v x below (inl h) = below x.id (Open x.born) h
held_below v x below (inr h) = below x.id (Ending x.born) h

held_by : (v : Rows Row) (x : Known) → AllBy v → IsHeldInRows v x → x.born.birth.maker ≡ maker_of x.id
held_by v x by (inl h) = by x.id (Open x.born) h
held_by v x by (inr h) = by x.id (Ending x.born) h

below_ended : (v : Rows Row) (o : Option Known) → IfThere (IsHeldInRows v) o → AllBelow v → AllBelow (client_ends o v)
below_ended v None h below = below
below_ended v (Some x) h below = λ id r e.
    subst (λ (n : Maker → ℕ). IsAmongFirst n (birth_in r)) (sym (ends_count (Some x) v))
    (elim (put_row_tells v.rows x.id (Some (Ending x.born)) id) [
      | inl p ↦ (let q : Ending x.born ≡ r = cc (p.1, e)
          in subst (IsAmongFirst (births_in v)) (ap birth_in q) (held_below v x below h))
      | inr p ↦ below id r (sym p.1 ∙ e)
    ])

by_ended : (v : Rows Row) (o : Option Known) → IfThere (IsHeldInRows v) o → AllBy v → AllBy (client_ends o v)
by_ended v None h by = by
by_ended v (Some x) h by = λ id r e. elim (put_row_tells v.rows x.id (Some (Ending x.born)) id) [
  | inl p ↦ (let q : Ending x.born ≡ r = cc (p.1, e) in
      ap (λ (y : Row). (birth_in y).maker) (sym q) ∙ held_by v x by h ∙ ap maker_of (sym p.0))
  | inr p ↦ by id r (sym p.1 ∙ e)
]

same_used : (o : Option Known) (v : Rows Row)
    → ((client_ends o v).used ≡ v.used) × ((client_ends o v).by_server ≡ v.by_server)
same_used None v = (refl, refl)
same_used (Some x) v = (refl, refl)

-- the rows after a message made its object, before it ends one
record Made (places : Maker → List ℕ) (p : ℕ) (here v : Rows Row) (k' : Knows) (n o : Option Known) : Type 0 where
  rows : v.rows ≡ (client_makes here n).rows
  next : IfThere (IsNext places) n
  differ : Differ n o
  held : IfThere (IsHeldInRows v) o
  used : k'.used ≡ v.used
  server_used : first_server_id + k'.server_used ≡ v.by_server.next
  births : (by : Maker) → length (grown places (option_map made_of n) p by) ≡ births_in v by
  below : AllBelow v
  made_by : AllBy v

known_by : (k k' : Knows) (places : Maker → List ℕ) (p : ℕ) (here v : Rows Row) (n o : Option Known)
    → KnownAs k places here → Made places p here v k' n o
    → ((id : ℕ) → k'.object id
    ≡ cond (is_made (option_map made_of n) id) (Some (made_entry p Live (new_or_null (option_map made_of n))))
    (unless_deleted (frees_id None id) (is_id (ended_ids o) id) (k.object id)))
    → KnownAs k' (grown places (option_map made_of n) p) (client_ends o v)
known_by k k' places p here v n o a m objects =
    let below : Below places here = λ id r e. (let l = a.below id r e in
    let q = a.births (birth_in r).maker in omega (arith, l, q)) in
    let same = same_used o v in
    record {
      objects = λ id. objects id
          ∙ swap (is_made (option_map made_of n) id) (frees_id None id) (is_id (ended_ids o) id)
          (made_entry p Live (new_or_null (option_map made_of n))) (k.object id) (frees_none id) (apart n o m.differ id)
          ∙ ap (λ (row : Option Entry). unless_deleted (frees_id None id) (is_id (ended_ids o) id)
          (cond (is_made (option_map made_of n) id)
          (Some (made_entry p Live (new_or_null (option_map made_of n)))) row))
          (a.objects id)
          ∙ ap (unless_deleted (frees_id None id) (is_id (ended_ids o) id))
          (makes_objects places p here n below m.next id)
          ∙ ap (λ (f : ℕ → Option Row). unless_deleted (frees_id None id) (is_id (ended_ids o) id)
          (option_map (entry_at (grown places (option_map made_of n) p)) (f id))) (sym m.rows)
          ∙ ends_objects (grown places (option_map made_of n) p) v o m.held id;
      used = m.used ∙ sym same.0;
      next = m.server_used ∙ ap (λ (c : Counts). c.next) (sym same.1);
      births = λ by. m.births by ∙ ap (λ (n : Maker → ℕ). n by) (sym (ends_count o v));
      below = below_ended v o m.held m.below;
      made_by = by_ended v o m.held m.made_by;
    }

fresh_differ : (here : Rows Row) (n o : Option Known) → IfThere (Fresh here) n → IfThere (IsHeldInRows here) o
    → Differ n o
fresh_differ here n o f h y x e d =
    let g : Fresh here y = subst (IfThere (Fresh here)) e f in
    let k : IsHeldInRows here x = subst (IfThere (IsHeldInRows here)) d h in
    held_some here x y.id k g.free

told_differ : (here : Rows Row) (n o : Option Known) → IfThere (NextTold here) n → IfThere OfClient o → Differ n o
told_differ here n o f h y x e d =
    let g : NextTold here y = subst (IfThere (NextTold here)) e f in
    let l : OfClient x = subst (IfThere OfClient) d h in
    range_apart x.id y.id l g.range

-- A checker that knew the rows before a request knows those after it.
pub known_behind : (k k' : Knows) (places : Maker → List ℕ) (p : ℕ) (here : Rows Row) (n o : Option Known)
    → KnownAs k places here → IfThere (Fresh here) n → IfThere (IsHeldInRows here) o
    → ((id : ℕ) → k'.object id
    ≡ cond (is_made (option_map made_of n) id) (Some (made_entry p Live (new_or_null (option_map made_of n))))
    (unless_deleted (frees_id None id) (is_id (ended_ids o) id) (k.object id)))
    → k'.used ≡ used_by (option_map made_of n) k.used
    → k'.server_used ≡ server_used_by (option_map made_of n) k.server_used
    → KnownAs k' (grown places (option_map made_of n) p) (client_ends o (client_makes here n))
known_behind k k' places p here n o a f h objects used server_used =
    known_by k k' places p here (client_makes here n) n o a (record {
      rows = refl;
      next = if_by (λ x g. record {
        number = ap (λ (b : Birth). b.number) g.birth ∙ sym (a.births Client)
            ∙ ap (λ (b : Birth). length (places b.maker)) (sym g.birth);
        maker_is = fresh_maker here x g;
      }) n f;
      differ = fresh_differ here n o f h;
      held = if_by (λ x k. held_made here n x f k) o h;
      used = used ∙ used_made here n k.used f a.used;
      server_used = ap (λ (c : ℕ). first_server_id + c) server_used ∙ next_made here n k.server_used f a.next;
      births = births_made places p here n a.births f;
      below = below_made here n f a.below;
      made_by = by_made here n f a.made_by;
    }) objects

-- A checker that knew the rows before an event knows those after it.
pub known_event : (k k' : Knows) (places : Maker → List ℕ) (p : ℕ) (here : Rows Row) (n o : Option Known)
    → KnownAs k places here → IfThere (NextTold here) n → IfThere (IsHeldInRows here) o → IfThere OfClient o
    → ((id : ℕ) → k'.object id
    ≡ cond (is_made (option_map made_of n) id) (Some (made_entry p Live (new_or_null (option_map made_of n))))
    (unless_deleted (frees_id None id) (is_id (ended_ids o) id) (k.object id)))
    → k'.used ≡ used_by (option_map made_of n) k.used
    → k'.server_used ≡ server_used_by (option_map made_of n) k.server_used
    → KnownAs k' (grown places (option_map made_of n) p) (client_ends o (client_told here n))
known_event k k' places p here n o a f h l objects used server_used =
    known_by k k' places p here (client_told here n) n o a (record {
      rows = told_rows here n;
      next = if_by (λ x g. record {
        number = ap (λ (b : Birth). b.number) g.birth ∙ sym (a.births Server)
            ∙ ap (λ (b : Birth). length (places b.maker)) (sym g.birth);
        maker_is = told_maker here x g;
      }) n f;
      differ = told_differ here n o f l;
      held = held_told_if here n o f l h;
      used = used ∙ used_told here n k.used f a.used;
      server_used = ap (λ (c : ℕ). first_server_id + c) server_used ∙ next_told here n k.server_used f a.next;
      births = births_told places p here n a.births f;
      below = below_told here n f a.below;
      made_by = by_told here n f a.made_by;
    }) objects
  where
    told_rows : (here : Rows Row) (n : Option Known) → (client_told here n).rows ≡ (client_makes here n).rows
    told_rows here None = refl
    told_rows here (Some x) = refl

-- ---- a delete_id

frees_some : (i id : ℕ) (b : Bool) → is_id (Some i) id ≡ b → i ≢ 1 → i ≤ 1048576 → frees_id (Some i) id ≡ b
frees_some i id true e h low =
    let ne : nat_eq id 1 ≡ false = grind (arith, nat_tests) in
    let of : is_of_server id ≡ false = grind (arith, nat_tests) in
    rw (ne, of, e) refl
frees_some i id false e h low = rw e (and_right (not (nat_eq id 1) && not (is_of_server id)) false refl)

below_deleted : (v : Rows Row) (i : ℕ) → AllBelow v → AllBelow (at v i None)
below_deleted v i below = λ id r e.
    subst (λ (n : Maker → ℕ). IsAmongFirst n (birth_in r)) (sym (at_count v i None))
    (elim (put_row_tells v.rows i None id) [
      | inl p ↦ absurd (cc (p.1, e))
      | inr p ↦ below id r (sym p.1 ∙ e)
    ])

by_deleted : (v : Rows Row) (i : ℕ) → AllBy v → AllBy (at v i None)
by_deleted v i by = λ id r e. elim (put_row_tells v.rows i None id) [
  | inl p ↦ absurd (cc (p.1, e))
  | inr p ↦ by id r (sym p.1 ∙ e)
]

-- after the delete of an object the checker no longer knows it
pub known_deleted : (k k' : Knows) (birth_places : Maker → List ℕ) (here : Rows Row) (x : Known) → KnownAs k birth_places here
    → x.id ≢ 1 → x.id ≤ 1048576
    → ((id : ℕ) → k'.object id ≡ unless_deleted (frees_id (Some x.id) id) false (k.object id)) → k'.used ≡ k.used
    → k'.server_used ≡ k.server_used
    → KnownAs k' birth_places (at here x.id None)
known_deleted k k' birth_places here x a ne low objects used server_used = record {
  objects = λ id. objects id
      ∙ ap (λ (b : Bool). unless_deleted b false (k.object id)) (frees_some x.id id (is_id (Some x.id) id) refl ne low)
      ∙ ap (unless_deleted (is_id (Some x.id) id) false) (a.objects id)
      ∙ at_deleted birth_places x here id (is_id (Some x.id) id) refl;
  used = used ∙ a.used;
  next = ap (λ (c : ℕ). first_server_id + c) server_used ∙ a.next;
  births = λ by. a.births by ∙ ap (λ (n : Maker → ℕ). n by) (sym (at_count here x.id None));
  below = below_deleted here x.id a.below;
  made_by = by_deleted here x.id a.made_by;
}

-- ---- the places

makers_same : (f g : ℕ → Option NewObject) (n : ℕ) (by : Maker) → ((q : ℕ) → q < n → f q ≡ g q)
    → places_of_making f n by ≡ places_of_making g n by
unfolding places_of_making
makers_same f g zero by h = refl
makers_same f g (suc n) by h =
    let front = makers_same f g n by (λ q l. h q (omega (arith, l))) in
    let last = h n (omega arith) in
    λ i. front i ++ place_of_making by (last i) n

-- after one more message there is one more place, if it makes an object
pub places_behind : (tables : List Interface) (e : List Judged) (call : Call)
    → birth_places tables (e ++ Ok call ∷ []) ≡ grown (birth_places tables e) (changes tables call).made (suc (length e))
unfolding places_of_making
places_behind tables e call = λ i by. each by i
  where
    each : (by : Maker) → birth_places tables (e ++ Ok call ∷ []) by
        ≡ birth_places tables e by ++ place_of_making by (changes tables call).made (suc (length e))
    each by =
        let all = e ++ Ok call ∷ [] in
        let n : suc (length all) ≡ suc (suc (length e)) = ap suc (length_last e (Ok call)) in
        let last = changes_last tables e call in
        let front = makers_same (λ q. (changes_at tables all q).made) (λ q. (changes_at tables e q).made)
        (suc (length e)) by
        (λ q l. (let s = changes_at_same tables e (Ok call ∷ []) q l in λ i. (s i).made)) in
        ap (λ (k : ℕ). places_of_making (λ q. (changes_at tables all q).made) k by) n
        ∙ (λ i. front i ++ place_of_making by ((last i).made) (suc (length e)))

-- if the message at place 0 makes an object of the client, there is a place
makers_some : (made : ℕ → Option NewObject) (n : ℕ) (first : NewObject) → made 0 ≡ Some first
    → is_of_server first.id ≡ false → 0 < length (places_of_making made (suc n) Client)
unfolding places_of_making
makers_some made zero first e l = rw (e, l) (omega arith)
makers_some made (suc n) first e l = let r = makers_some made n first e l
    in omega (arith, r, length-append (places_of_making made (suc n) Client) (place_of_making Client (made (suc n)) (suc n)))

-- there is always a place, since wl_display is made
pub some_place : (tables : List Interface) (e : List Judged) → 0 < length (birth_places tables e Client)
some_place tables e = makers_some (λ place. (changes_at tables e place).made) (length e) _ refl refl
