-- What is in flight in a pair that represents its world, in the words of that world.
use Rattle.std.proofs.Common.{true, ◌++◌, ◌∷◌, [], ◌≡◌, ℕ, ◌+◌, ◌<◌, ◌≤◌, Bool, List, map, ◌⊎◌, inl, inr}
use Rattle.std.proofs.Common.{refl, sym, ◌∙◌, ap, subst, arith, ◌≢◌, false, cond}
use Rattle.std.specs.Prelude.{option_map, ◌↔◌}
use Rattle.std.specs.declared.option.Option.TheVariants.{Some}
use Rattle.std.proofs.lemmas.Bool.Decides.{nat_tests}
use Rattle.wl_sigs.specs.Fixed.{registry}
use Rattle.wl_object_map.specs.declared.object.Object.{Object}
use Rattle.wl_server.specs.State as server
use Rattle.wl_server.specs.Registries.{IsAmong}
use Rattle.theory_connection.specs.Meant.{Birth, Born, Known, Message, Coming, Event, Delete as delete_of}
use Rattle.theory_connection.specs.Meant.{renamed, recoming, born_of, birth_of, known_id, objects, made_in}
use Rattle.theory_connection.specs.Meant.{born_of_entry as plain_of}
use Rattle.theory_connection.specs.World.{World, Row, Open, Ending, IsOpen, IsEnding, IsThere, marks_birth}
use Rattle.wl_object_map.specs.declared.object.Maker.{Maker}
use Rattle.wl_object_map.specs.declared.object.Maker.TheVariants.{Client, Server}
use Rattle.wl_object_map.specs.Ranges.{is_of_server}
use Rattle.wl_object_map.specs.Objects.{maker_of}
use Rattle.theory_connection.specs.Flight.{Rows, births_in, most, Ask, Make, Destroy, Tell, Name, Made}
use Rattle.theory_connection.specs.Flight.{Delete, IsHeldInRows, ReadsInFlight, done, name, made, end, delete}
use Rattle.theory_connection.specs.Flight.{Tied, drained, use_, make, destroy, give_back, client_rows}
use Rattle.theory_connection.specs.Flight.{server_rows, make_tell, all_asks, all_tells, ends}
use Rattle.theory_connection.specs.Pair.{PairState}
use Rattle.theory_connection.specs.Answers.{birth_at, marks_of}
use Rattle.theory_connection.specs.Stands.{Stands, stands, over, StandsBy, by_event}
use Rattle.theory_connection.specs.Plain.{In, IsHeldAtClient, DeleteComes, MakeComes, DestroyComes}
use Rattle.theory_connection.specs.Plain.{IsSomewhere, NamesBirth, StandsIn, IsUnnamed, news, tell_id}
use Rattle.theory_connection.proofs.Flight.{counts_after}
use Rattle.theory_connection.proofs.WholeInFlight.{all_tells_more}
use Rattle.theory_connection.proofs.RowsAfterMessage.{map_some, made_map, objects_map, held_row, there_row}
use Rattle.theory_connection.proofs.Plain as plain
use Rattle.theory_connection.proofs.MessageActions.{in_left, in_right, in_map, from_map, each_in, parted}
use Rattle.theory_connection.proofs.MessageActions.{delete_of_tells, tells_in, asks_in, in_asks, make_asked}
use Rattle.theory_connection.proofs.MessageActions.{destroy_asked, asked_make, asked_destroy, made_news}
use Rattle.theory_connection.proofs.MessageActions.{news_made, comes_news, news_comes}

-- ---- more about what is read

module _ {test : Born → Bool} where
  -- the client holds an object that an event names, or an event on the way makes it
  pub named_held : {es : List Tell} (x : Known) {v w : Rows Row} → ReadsInFlight test es v w → In (Name x) es
      → IsHeldInRows v x ⊎ In (Made x) es
  named_held x done i = absurd i
  named_held x (name {v = v} a r) i = elim i [
    | inl p ↦ (let e : _ ≡ x = cc p in inl (subst (IsHeldInRows v) e a))
    | inr p ↦ elim (named_held x r p) [ inl q ↦ inl q | inr q ↦ inr (inr q) ]
  ]
  named_held x (made {v = v} {x = n} b g r) i = elim i [
    | inl p ↦ absurd (cc p)
    | inr p ↦ elim (named_held x r p) [
      | inl q ↦ elim (plain.kept_told v n x q) [ inl k ↦ inl k | inr k ↦ inr (inl (ap Made k)) ]
      | inr q ↦ inr (inr q)
    ]
  ]
  named_held x (end {v = v} {x = y} b l a r) i = elim i [
    | inl p ↦ absurd (cc p)
    | inr p ↦ elim (named_held x r p) [ inl q ↦ inl (plain.kept_end v x y a q) | inr q ↦ inr (inr q) ]
  ]
  named_held x (delete {v = v} {x = y} z l a b r) i = elim i [
    | inl p ↦ absurd (cc p)
    | inr p ↦ elim (named_held x r p) [ inl q ↦ inl (plain.kept_delete v x y.id q) | inr q ↦ inr (inr q) ]
  ]

  -- the server is the maker of an object that an event makes
  pub made_maker : {es : List Tell} (x : Known) {v w : Rows Row} → ReadsInFlight test es v w → In (Made x) es
      → x.born.birth.maker ≡ Server
  made_maker x done i = absurd i
  made_maker x (name a r) i = elim i [ inl p ↦ absurd (cc p) | inr p ↦ made_maker x r p ]
  made_maker x (made {x = n} b g r) i = elim i [
    | inl p ↦ (let e : x ≡ n = cc p in ap (λ (k : Known). k.born.birth.maker) e ∙ ap (λ (c : Birth). c.maker) g.birth)
    | inr p ↦ made_maker x r p
  ]
  made_maker x (end b l a r) i = elim i [ inl p ↦ absurd (cc p) | inr p ↦ made_maker x r p ]
  made_maker x (delete z l a b r) i = elim i [ inl p ↦ absurd (cc p) | inr p ↦ made_maker x r p ]

  -- the births and ids of the client's range that the client counted are those that the server
  -- counted and those made on the way
  births_tied : {qs : List Ask} {s : Rows Born} {m : Rows Row} (b : Birth) → Tied test qs s m → b.maker ≡ Client
      → b.number < m.births
      → (b.number < s.births) ⊎ ((x : Known) × (In (Make x) qs × (x.born.birth ≡ b)))
  births_tied b (drained same r u n k) c h = inl (omega (arith, h, n))
  births_tied b (use_ o f t) c h = elim (births_tied b t c h) [ inl p ↦ inl p | inr p ↦ inr (p.0, (inr p.1.0, p.1.1)) ]
  births_tied b (make {s = s} {x = x} f t) c h = elim (births_tied b t c h) [
    | inl p ↦ elim (less_or b.number s.births p) [
      | inl q ↦ inl q
      | inr q ↦ inr (x, (inl refl, f.birth ∙ (λ i. record { maker = sym c i; number = sym q i })))
    ]
    | inr p ↦ inr (p.0, (inr p.1.0, p.1.1))
  ]
    where
      less_or : (a n : ℕ) → a < n + 1 → (a < n) ⊎ (a ≡ n)
      less_or a n l = grind (arith, l)
  births_tied b (destroy z l o f e t) c h = elim (births_tied b t c h)
      [ inl p ↦ inl p | inr p ↦ inr (p.0, (inr p.1.0, p.1.1)) ]
  births_tied b (give_back l o f e t) c h = elim (births_tied b t c h)
      [ inl p ↦ inl p | inr p ↦ inr (p.0, (inr p.1.0, p.1.1)) ]

  tied_births : {qs : List Ask} {s : Rows Born} {m : Rows Row} → Tied test qs s m → s.births ≤ m.births
  tied_births (drained same r u n k) = omega (arith, n)
  tied_births (use_ o f t) = tied_births t
  tied_births (make f t) = let k = tied_births t in omega (arith, k)
  tied_births (destroy z l o f e t) = tied_births t
  tied_births (give_back l o f e t) = tied_births t

  made_births : {qs : List Ask} {s : Rows Born} {m : Rows Row} (x : Known) → Tied test qs s m → In (Make x) qs
      → x.born.birth.number < m.births
  made_births x (drained same r u n k) i = absurd i
  made_births x (use_ o f t) i = elim i [ inl p ↦ absurd (cc p) | inr p ↦ made_births x t p ]
  made_births x (make {s = s} {x = y} f t) i = elim i [
    | inl p ↦ (let e : x ≡ y = cc p in let b = ap (λ (k : Known). k.born.birth.number) e in
        let c = ap (λ (k : Birth). k.number) f.birth in let l = tied_births t in omega (arith, b, c, l))
    | inr p ↦ made_births x t p
  ]
  made_births x (destroy z l o f e t) i = elim i [ inl p ↦ absurd (cc p) | inr p ↦ made_births x t p ]
  made_births x (give_back l o f e t) i = elim i [ inl p ↦ absurd (cc p) | inr p ↦ made_births x t p ]

  used_tied : {qs : List Ask} {s : Rows Born} {m : Rows Row} (id : ℕ) → Tied test qs s m → id ≤ m.used
      → (id ≤ s.used) ⊎ ((x : Known) × (In (Make x) qs × (x.id ≡ id)))
  used_tied id (drained same r u n k0) h = inl (omega (arith, h, u))
  used_tied id (use_ o f t) h = elim (used_tied id t h) [ inl p ↦ inl p | inr p ↦ inr (p.0, (inr p.1.0, p.1.1)) ]
  used_tied id (make {s = s} {x = x} f t) h = elim (used_tied id t h) [
    | inl p ↦ elim (most_or id s.used x.id p f.next) [ inl q ↦ inl q | inr q ↦ inr (x, (inl refl, sym q)) ]
    | inr p ↦ inr (p.0, (inr p.1.0, p.1.1))
  ]
    where
      most_or : (a n i : ℕ) → a ≤ most n i → i ≤ n + 1 → (a ≤ n) ⊎ (a ≡ i)
      most_or a n i l k = grind (arith, nat_tests, l, k)
  used_tied id (destroy z l0 o f e t) h = elim (used_tied id t h) [ inl p ↦ inl p | inr p ↦ inr (p.0, (inr p.1.0, p.1.1)) ]
  used_tied id (give_back l0 o f e t) h = elim (used_tied id t h) [ inl p ↦ inl p | inr p ↦ inr (p.0, (inr p.1.0, p.1.1)) ]

  tied_used : {qs : List Ask} {s : Rows Born} {m : Rows Row} → Tied test qs s m → s.used ≤ m.used
  tied_used (drained same r u n k0) = omega (arith, u)
  tied_used (use_ o f t) = tied_used t
  tied_used (make {s = s} {x = x} f t) = let k = tied_used t in least s.used x.id k
    where
      least : (n i : ℕ) {u : ℕ} → most n i ≤ u → n ≤ u
      least n i {u} l = grind (arith, nat_tests, l)
  tied_used (destroy z l0 o f e t) = tied_used t
  tied_used (give_back l0 o f e t) = tied_used t

  made_used : {qs : List Ask} {s : Rows Born} {m : Rows Row} (x : Known) → Tied test qs s m → In (Make x) qs
      → (0 < x.id) × (x.id ≤ m.used)
  made_used x (drained same r u n k0) i = absurd i
  made_used x (use_ o f t) i = elim i [ inl p ↦ absurd (cc p) | inr p ↦ made_used x t p ]
  made_used x (make {s = s} {x = y} f t) i = elim i [
    | inl p ↦ (let e : x ≡ y = cc p in let b = ap (λ (k : Known). k.id) e in let k = least s.used y.id (tied_used t)
        in let some = f.some in (omega (arith, b, some), omega (arith, b, k)))
    | inr p ↦ made_used x t p
  ]
    where
      least : (n i : ℕ) {u : ℕ} → most n i ≤ u → i ≤ u
      least n i {u} l = grind (arith, nat_tests, l)
  made_used x (destroy z l0 o f e t) i = elim i [ inl p ↦ absurd (cc p) | inr p ↦ made_used x t p ]
  made_used x (give_back l0 o f e t) i = elim i [ inl p ↦ absurd (cc p) | inr p ↦ made_used x t p ]

-- ---- in the world

module _ (p : PairState) (w : World) (asked : List (Message Known)) (told : List (Coming Known))
    (s : StandsBy p w asked told) where
  abbrev v : Rows Row
  v = client_rows p.client.core.view

  abbrev o : Rows Born
  o = server_rows p.server.core.view

  delete_comes : (k : Known) → In (Delete k) (all_tells told) → DeleteComes w k.born
  delete_comes k h = subst (In (delete_of k.born)) (sym s.events.in_world)
      (in_map (recoming born_of) (delete_of k) told (delete_of_tells k told h))

  -- the object whose delete is on the way, with its id
  pub delete_known : (x : Born) → DeleteComes w x → (k : Known) × (In (Delete k) (all_tells told) × (k.born ≡ x))
  delete_known x h =
      let f = from_map (recoming born_of) (delete_of x) told (subst (In (delete_of x)) s.events.in_world h) in
      by_coming f.item f.there f.is
    where
      by_coming : (c : Coming Known) → In c told → recoming born_of c ≡ delete_of x
          → (k : Known) × (In (Delete k) (all_tells told) × (k.born ≡ x))
      by_coming (Event m) i e = absurd (cc e)
      by_coming (delete_of k) i e = (k, (tells_in (Delete k) (delete_of k) told i (inl refl), cc e))

  request_in : (m : Message Known) → In m asked → In (renamed born_of m) w.requests
  request_in m i = subst (In (renamed born_of m)) (sym s.requests.in_world) (in_map (renamed born_of) m asked i)

  pub make_comes : (k : Known) → In (Make k) (all_asks asked) → MakeComes w k.born
  make_comes k h =
      let a = asks_in (Make k) (λ m. made_in m.args ≡ Some k) (make_asked k) asked h in
      record {
        request = renamed born_of a.message;
        there = request_in a.message a.there;
        makes = made_map born_of a.message.args ∙ ap (option_map born_of) a.is;
      }

  pub make_known : (x : Born) → MakeComes w x → (k : Known) × (In (Make k) (all_asks asked) × (k.born ≡ x))
  make_known x h =
      let f = from_map (renamed born_of) h.request asked (subst (In h.request) s.requests.in_world h.there) in
      let m = f.item in
      let e : option_map born_of (made_in m.args) ≡ Some x =
      sym (made_map born_of m.args) ∙ ap (λ (r : Message Born). made_in r.args) f.is ∙ h.makes in
      let k = map_some born_of (made_in m.args) x e in
      (k.0, (in_asks (Make k.0) m asked f.there (asked_make k.0 m k.1), k.2))

  pub destroy_comes : (k : Known) → In (Destroy k) (all_asks asked) → DestroyComes w k.born
  destroy_comes k h =
      let a = asks_in (Destroy k) (λ m. m.ends ≡ Some k) (destroy_asked k) asked h in
      record {
        request = renamed born_of a.message;
        there = request_in a.message a.there;
        ends = ap (option_map born_of) a.is;
      }

  pub destroy_known : (x : Born) → DestroyComes w x → (k : Known) × (In (Destroy k) (all_asks asked) × (k.born ≡ x))
  destroy_known x h =
      let f = from_map (renamed born_of) h.request asked (subst (In h.request) s.requests.in_world h.there) in
      let m = f.item in
      let e : option_map born_of m.ends ≡ Some x = ap (λ (r : Message Born). r.ends) f.is ∙ h.ends in
      let k = map_some born_of m.ends x e in
      (k.0, (in_asks (Destroy k.0) m asked f.there (asked_destroy k.0 m k.1), k.2))

  -- ---- rows

  -- the maker of an object that has a row is that of its id
  pub row_by : (k : Known) → IsHeldInRows v k → maker_of k.id ≡ k.born.birth.maker
  row_by k h = let r = held_row p.client.core.view k h in ap (λ (b : Born). b.birth.maker) r.same

  pub there_by : (k : Known) → o.rows k.id ≡ Some k.born → maker_of k.id ≡ k.born.birth.maker
  there_by k h = let r = there_row p.server.core.view k h in ap (λ (b : Born). b.birth.maker) r.same

  client_range : (id : ℕ) → maker_of id ≡ Client → is_of_server id ≡ false
  client_range id h = by_range (is_of_server id) h
    where
      by_range : (b : Bool) → cond b Server Client ≡ Client → b ≡ false
      by_range true e = absurd (cc e)
      by_range false e = refl

  -- an object that the client holds has a row, if the client made it or it is open
  held_known : (x : Born) → IsHeldAtClient w x → (x.birth.maker ≡ Client) ⊎ IsOpen w.client x
      → (k : Known) × (IsHeldInRows v k × (k.born ≡ x))
  held_known x h c = elim h [
    | inl p ↦ open_known x p
    | inr p ↦ elim c [ inl q ↦ of_client p q | inr q ↦ open_known x q ]
  ]
    where
      open_known : (x : Born) → IsOpen w.client x → (k : Known) × (IsHeldInRows v k × (k.born ≡ x))
      open_known x p = elim (s.client.sets.only x.birth (Open x) p).1 [
        | inl r ↦ (record { id = r.0; born = x }, (inl r.1, refl))
        | inr g ↦ absurd g
      ]

      of_client : IsEnding w.client x → x.birth.maker ≡ Client → (k : Known) × (IsHeldInRows v k × (k.born ≡ x))
      of_client p q = elim (s.client.sets.only x.birth (Ending x) p).1 [
        | inl r ↦ (record { id = r.0; born = x }, (inr r.1, refl))
        | inr g ↦ absurd (cc (g, q))
      ]

  pub held_world : (k : Known) → IsHeldInRows v k → IsHeldAtClient w k.born
  held_world k h = elim h [
    | inl p ↦ inl (s.client.sets.shown k.id (Open k.born) p)
    | inr p ↦ inr
        (s.client.sets.shown k.id (Ending k.born) p)
  ]

  pub there_known : (x : Born) → IsThere w.server x → (k : Known) × ((o.rows k.id ≡ Some k.born) × (k.born ≡ x))
  there_known x h = elim (s.server.sets.only x.birth x h).1 [
    | inl r ↦ (record { id = r.0; born = x }, (r.1, refl))
    | inr g ↦ absurd g
  ]

  -- an object that the client holds has one id
  pub one_id : (j k : Known) → IsHeldInRows v j → IsHeldInRows v k → j.born ≡ k.born → j ≡ k
  one_id j k h i e =
      let b : j.born.birth ≡ k.born.birth = ap birth_of e in
      let q : j.id ≡ k.id = elim h [
        | inl a ↦ elim i [
          | inl c ↦ s.client.sets.one j.id k.id (Open j.born)
              (Open k.born) a c b
          | inr c ↦ s.client.sets.one j.id k.id (Open j.born) (Ending k.born) a c b
        ]
        | inr a ↦ elim i [
          | inl c ↦ s.client.sets.one j.id k.id (Ending j.born)
              (Open k.born) a c b
          | inr c ↦ s.client.sets.one j.id k.id (Ending j.born) (Ending k.born) a c b
        ]
      ] in
      λ n. record { id = q n; born = e n }

  -- ---- the laws

  pub deleted_is_held : (k : Known) → In (Delete k) (all_tells told) → IsHeldInRows v k
  deleted_is_held k a = plain.held_back_here k s.meet (plain.deleted_client k s.meet.reads a) (inl a)

  -- a delete on the way is for an object that the client made
  pub deleted_by : (x : Born) → DeleteComes w x → x.birth.maker ≡ Client
  deleted_by x h =
      let k = delete_known x h in
      let l = plain.deleted_client k.0 s.meet.reads k.1.0 in
      sym (ap (λ (b : Born). b.birth.maker) k.1.1) ∙ sym (row_by k.0 (deleted_is_held k.0 k.1.0))
      ∙ ap (λ (b : Bool). cond b Server Client) l

  -- an object that the client made and holds is on the way or at the server
  pub where_held : (x : Born) → x.birth.maker ≡ Client → IsHeldAtClient w x → IsSomewhere w x
  where_held x c h =
      let k = held_known x h (inl c) in
      let l = client_range k.0.id (row_by k.0 k.1.0 ∙ ap (λ (b : Born). b.birth.maker) k.1.1 ∙ c) in
      elim (plain.held_where k.0 s.meet l k.1.0) [
        | inl a ↦ inl (subst (DeleteComes w) k.1.1 (delete_comes k.0 a))
        | inr a ↦ elim a [
          | inl b ↦ inr (inl (subst (IsThere w.server) k.1.1 (s.server.sets.shown k.0.id k.0.born b)))
          | inr b ↦ inr (inr (subst (MakeComes w) k.1.1 (make_comes k.0 b)))
        ]
      ]

  make_client : (k : Known) → In (Make k) (all_asks asked) → is_of_server k.id ≡ false
  make_client k a = (plain.make_new k s.meet.tied a).1

  -- the client holds an object that it made and that is on the way or at the server
  pub back_held : (x : Born) → x.birth.maker ≡ Client → IsSomewhere w x → IsHeldAtClient w x
  back_held x c h = elim h [
    | inl a ↦ (let k = delete_known x a in subst (IsHeldAtClient w) k.1.1 (held_world k.0 (deleted_is_held k.0 k.1.0)))
    | inr a ↦ elim a [
      | inl b ↦ (let k = there_known x b in
          let l = client_range k.0.id (there_by k.0 k.1.0 ∙ ap (λ (b : Born). b.birth.maker) k.1.1 ∙ c) in
          subst (IsHeldAtClient w) k.1.1
          (held_world k.0 (plain.held_back_here k.0 s.meet l (inr (inl k.1.0)))))
      | inr b ↦ (let k = make_known x b in subst (IsHeldAtClient w) k.1.1
          (held_world k.0 (plain.held_back_here k.0 s.meet (make_client k.0 k.1.0) (inr (inr k.1.0)))))
    ]
  ]

  -- an object that is open at the server has no delete on the way
  pub open_not_deleted : (x : Born) → IsThere w.server x → DeleteComes w x → ⊥
  open_not_deleted x h i =
      let j = there_known x h in
      let k = delete_known x i in
      let l = client_range j.0.id (there_by j.0 j.1.0 ∙ ap (λ (b : Born). b.birth.maker) j.1.1 ∙ deleted_by x i) in
      let e = one_id k.0 j.0 (deleted_is_held k.0 k.1.0) (plain.held_back_here j.0 s.meet l (inr (inl j.1.0)))
      (k.1.1 ∙ sym j.1.1) in
      plain.not_open_deleted j.0 s.meet j.1.0 (subst (λ (n : Known). In (Delete n) (all_tells told)) e k.1.0)

  -- an object that is made on the way has no delete on the way
  pub made_not_deleted : (x : Born) → MakeComes w x → DeleteComes w x → ⊥
  made_not_deleted x h i =
      let j = make_known x h in
      let k = delete_known x i in
      let e = one_id k.0 j.0 (deleted_is_held k.0 k.1.0)
      (plain.held_back_here j.0 s.meet (make_client j.0 j.1.0) (inr (inr j.1.0))) (k.1.1 ∙ sym j.1.1) in
      plain.not_made_deleted j.0 s.meet j.1.0 (subst (λ (n : Known). In (Delete n) (all_tells told)) e k.1.0)

  -- a request makes objects of the client
  pub made_by : (x : Born) → MakeComes w x → x.birth.maker ≡ Client
  made_by x h =
      let j = make_known x h in
      let l = make_client j.0 j.1.0 in
      let held = plain.held_back_here j.0 s.meet l (inr (inr j.1.0)) in
      sym (ap (λ (b : Born). b.birth.maker) j.1.1) ∙ sym (row_by j.0 held) ∙ ap (λ (b : Bool). cond b Server Client) l

  -- an object that is made on the way is not yet open at the server
  pub made_not_open : (x : Born) → MakeComes w x → IsThere w.server x → ⊥
  made_not_open x h i =
      let j = make_known x h in
      let k = there_known x i in
      let maker : k.0.born.birth.maker ≡ Client = ap (λ (b : Born). b.birth.maker) k.1.1 ∙ made_by x h in
      plain.not_made_counted j.0 s.meet j.1.0 (let l = s.server.sets.below k.0.id k.0.born k.1.0
      in let c = subst (λ (m : Maker). k.0.born.birth.number < births_in o m) maker l
      in let b = ap (λ (x : Born). x.birth.number) (j.1.1 ∙ sym k.1.1) in omega (arith, c, b))

  -- the server has not counted an object that is made on the way
  pub made_not_counted : (x : Born) → MakeComes w x → x.birth.number < p.server.core.view.client.births → ⊥
  made_not_counted x h l =
      let k = make_known x h in
      plain.not_made_counted k.0 s.meet k.1.0
      (subst (λ (b : Born). b.birth.number < p.server.core.view.client.births) (sym k.1.1) l)

  -- an object that the client made and that is ending there is deleted or destroyed on the way
  pub where_ending : (x : Born) → x.birth.maker ≡ Client → w.client x.birth ≡ Some (Ending x)
      → DeleteComes w x ⊎ DestroyComes w x
  where_ending x c h = elim (s.client.sets.only x.birth (Ending x) h).1 [
    | inl r ↦ (let k : Known = record { id = r.0; born = x } in
        let l = client_range k.id (row_by k (inr r.1) ∙ c) in
        elim (plain.ending_where k s.meet l r.1) [ inl a ↦ inl (delete_comes k a) | inr a ↦ inr (destroy_comes k a) ])
    | inr g ↦ absurd (cc (g, c))
  ]

  pub open_row : (x : Born) → w.client x.birth ≡ Some (Open x) → (k : Known) × ((v.rows k.id ≡ Some (Open k.born)) × (k.born ≡ x))
  open_row x h = elim (s.client.sets.only x.birth (Open x) h).1 [
    | inl r ↦ (record { id = r.0; born = x }, (r.1, refl))
    | inr g ↦ absurd g
  ]

  -- no request on the way destroys an object that is open at the client
  pub open_not_destroyed : (x : Born) → w.client x.birth ≡ Some (Open x) → DestroyComes w x → ⊥
  open_not_destroyed x h i =
      let k = destroy_known x i in
      let r = open_row x h in
      elim (plain.destroyed_before k.0 s.meet k.1.0) [
        | inl held ↦ (let e = one_id r.0 k.0 (inl r.1.0) held (r.1.1 ∙ sym k.1.1) in
            plain.open_unasked k.0 s.meet (subst (λ (n : Known). v.rows n.id ≡ Some (Open n.born)) e r.1.0) k.1.0)
        | inr told_so ↦ (let below = s.client.sets.below r.0.id (Open r.0.born) r.1.0 in
            let maker = ap (λ (b : Born). b.birth.maker) (r.1.1 ∙ sym k.1.1) ∙ made_maker k.0 s.meet.reads told_so in
            let c = subst (λ (m : Maker). r.0.born.birth.number < births_in v m) maker below in
            let later = plain.made_later k.0 s.meet.reads told_so in
            let b = ap (λ (y : Born). y.birth.number) (r.1.1 ∙ sym k.1.1) in absurd (omega (arith, c, later, b)))
      ]

  -- no object is both deleted and destroyed on the way
  pub not_both : (x : Born) → DeleteComes w x → DestroyComes w x → ⊥
  not_both x h i =
      let j = delete_known x h in
      let k = destroy_known x i in
      elim (plain.destroyed_before k.0 s.meet k.1.0) [
        | inl held ↦ (let e = one_id j.0 k.0 (deleted_is_held j.0 j.1.0) held (j.1.1 ∙ sym k.1.1) in
            plain.not_destroyed_deleted k.0 s.meet k.1.0
            (subst (λ (n : Known). In (Delete n) (all_tells told)) e j.1.0))
        | inr told_so ↦ (let c = ap (λ (b : Born). b.birth.maker) k.1.1 ∙ deleted_by x h in
            let d = made_maker k.0 s.meet.reads told_so in absurd (cc (c, d)))
      ]

  -- an object that is open at the client and deleted on the way has a destroying event
  pub open_deleted : (x : Born) → w.client x.birth ≡ Some (Open x) → DeleteComes w x
      → by_event p.server.core.tables x ≡ true
  open_deleted x h i =
      let k = delete_known x i in
      let r = open_row x h in
      let e = one_id r.0 k.0 (inl r.1.0) (deleted_is_held k.0 k.1.0) (r.1.1 ∙ sym k.1.1) in
      subst (λ (b : Born). by_event p.server.core.tables b ≡ true) k.1.1
      (plain.open_deleted k.0 s.meet.reads (subst (λ (n : Known). v.rows n.id ≡ Some (Open n.born)) e r.1.0) k.1.0)

  -- nothing on the way is about an id after its delete
  pub last_of_id : (k : Known) (front rest : List (Coming Known)) → told ≡ front ++ delete_of k ∷ rest
      → IsUnnamed k.id rest
  last_of_id k front rest e =
      let all : all_tells told ≡ all_tells front ++ (Delete k ∷ all_tells rest) =
      ap all_tells e ∙ all_tells_more front (delete_of k ∷ rest) in
      plain.deleted_last (all_tells front) (all_tells rest) k
      (subst (λ (l : List Tell). ReadsInFlight (by_event p.server.core.tables) l v s.meet.middle) all s.meet.reads)

  -- no event names an object after its delete
  pub last_deleted : (before after : List (Coming Born)) (x : Born) → w.events ≡ before ++ delete_of x ∷ after
      → (c : Coming Born) → In c after → NamesBirth x c → ⊥
  last_deleted before after x h c i n =
      let t = parted (recoming born_of) told before (delete_of x) after (sym s.events.in_world ∙ h) in
      let f = from_map (recoming born_of) c t.rest (subst (In c) (sym t.rest_is) i) in
      at_delete t.front t.item t.rest t.whole t.item_is f.item f.there (subst (NamesBirth x) (sym f.is) n)
    where
      at_name : (front rest : List (Coming Known)) (k : Known) → told ≡ front ++ delete_of k ∷ rest → k.born ≡ x
          → (t : Tell) (j : Known) → (t ≡ Name j) ⊎ (t ≡ Delete j) → In t (all_tells rest) → j.born ≡ x → ⊥
      at_name front rest k e b t j is i same =
          let all : all_tells told ≡ all_tells front ++ (Delete k ∷ all_tells rest) =
          ap all_tells e ∙ all_tells_more front (delete_of k ∷ rest) in
          let later : In t (all_tells told) = subst (In t) (sym all)
          (in_right t (all_tells front) (Delete k ∷ all_tells rest) (inr i)) in
          let first : In (Delete k) (all_tells told) =
          subst (In (Delete k)) (sym all)
          (in_right (Delete k) (all_tells front) (Delete k ∷ all_tells rest) (inl refl)) in
          let held : IsHeldInRows v j = elim is [
            | inl a ↦ elim (named_held j s.meet.reads (subst (λ (u : Tell). In u (all_tells told)) a later)) [
              | inl p ↦ p
              | inr p ↦ (let l = plain.deleted_client k s.meet.reads first in
                  let c = ap (λ (b : Born). b.birth.maker) (same ∙ sym b) ∙ sym (row_by k (deleted_is_held k first))
                  ∙ ap (λ (b : Bool). cond b Server Client) l in
                  let d = made_maker j s.meet.reads p in absurd (cc (c, d)))
            ]
            | inr a ↦ deleted_is_held j (subst (λ (u : Tell). In u (all_tells told)) a later)
          ] in
          let one : j ≡ k = one_id j k held (deleted_is_held k first) (same ∙ sym b) in
          let id : tell_id t ≡ j.id = elim is [ inl a ↦ ap tell_id a | inr a ↦ ap tell_id a ] in
          each_in (λ u. tell_id u ≢ k.id) t (all_tells rest) (last_of_id k front rest e) i
          (id ∙ ap (λ (n : Known). n.id) one)

      at_coming : (front rest : List (Coming Known)) (k : Known) → told ≡ front ++ delete_of k ∷ rest → k.born ≡ x
          → (d : Coming Known) → In d rest → NamesBirth x (recoming born_of d) → ⊥
      at_coming front rest k e b (Event m) i n = elim n [
        | inl a ↦ at_name front rest k e b (Name m.target) m.target (inl refl)
            (tells_in (Name m.target) (Event m) rest i (inl refl)) a
        | inr a ↦ (let f = from_map born_of x (objects m.args) (subst (In x) (objects_map born_of m.args) a) in
            at_name front rest k e b (Name f.item) f.item (inl refl)
            (tells_in (Name f.item) (Event m) rest i
            (inr (in_left (Name f.item) (map Name (objects m.args)) (make_tell (made_in m.args) ++ ends m.ends)
            (in_map Name f.item (objects m.args) f.there)))) f.is)
      ]
      at_coming front rest k e b (delete_of y) i n =
          at_name front rest k e b (Delete y) y (inr refl) (tells_in (Delete y) (delete_of y) rest i (inl refl)) n

      at_delete : (front : List (Coming Known)) (item : Coming Known) (rest : List (Coming Known))
          → told ≡ front ++ item ∷ rest → recoming born_of item ≡ delete_of x → (d : Coming Known) → In d rest
          → NamesBirth x (recoming born_of d) → ⊥
      at_delete front (Event m) rest e b d i n = cc b
      at_delete front (delete_of k) rest e b d i n = at_coming front rest k e (cc b) d i n

  -- ---- what was counted

  make_news : (x : Known) → In (Make x) (all_asks asked) → In x (news asked)
  make_news x i = let a = asks_in (Make x) (λ m. made_in m.args ≡ Some x) (make_asked x) asked i
      in made_news x a.message asked a.there a.is

  -- the ids used at the client are those used at the server and those made on the way
  pub ids_counted : (id : ℕ) → 0 < id → (id ≤ p.client.core.view.client.used) ↔
      ((id ≤ p.server.core.view.client.used) ⊎ In id (map known_id (news asked)))
  ids_counted id some =
      let c = (counts_after s.meet.reads).0 in (
        λ h. elim (used_tied id s.meet.tied (omega (arith, h, c))) [
          | inl a ↦ inl a
          | inr a ↦ inr (subst (λ (n : ℕ). In n (map known_id (news asked))) a.1.1
              (in_map known_id a.0 (news asked) (make_news a.0 a.1.0)))
        ],
        λ h. elim h [
          | inl a ↦ (let k = tied_used s.meet.tied in omega (arith, a, k, c))
          | inr a ↦ (let f = from_map known_id id (news asked) a
              in let k = (made_used f.item s.meet.tied (news_made f.item asked f.there)).1 in let e = f.is
              in omega (arith, e, k, c))
        ],
      )

  -- the births of the client counted at the client are those counted at the server and those made on
  -- the way
  pub births_counted : (birth : Birth) → birth.maker ≡ Client
      → (birth.number < p.client.core.view.client.births) ↔
      ((birth.number < p.server.core.view.client.births) ⊎ In birth (map birth_of (news w.requests)))
  births_counted birth c =
      let n = (counts_after s.meet.reads).1 in (
        λ h. elim (births_tied birth s.meet.tied c (omega (arith, h, n))) [
          | inl a ↦ inl a
          | inr a ↦ inr (subst (λ (b : Birth). In b (map birth_of (news w.requests))) a.1.1
              (in_map birth_of a.0.born (news w.requests) (comes_news a.0.born (make_comes a.0 a.1.0))))
        ],
        λ h. elim h [
          | inl a ↦ (let k = tied_births s.meet.tied in omega (arith, a, k, n))
          | inr a ↦ (let f = from_map birth_of birth (news w.requests) a
              in let k = make_known f.item (news_comes f.item f.there) in
              let made = made_births k.0 s.meet.tied k.1.0 in
              let e = ap (λ (b : Born). b.birth.number) k.1.1 in let g = ap (λ (b : Birth). b.number) f.is in
              omega (arith, made, n, e, g))
        ],
      )

  -- ---- registries

  among_marks : (x : Object) (rs : List server.Registry) → IsAmong x rs
      → In (birth_at x) (map marks_birth (map marks_of rs))
  among_marks x [] h = absurd h
  among_marks x (r ∷ rs) h = elim h [
    | inl a ↦ inl (ap birth_at (sym a))
    | inr a ↦ inr
        (among_marks x rs a)
  ]

  -- globals are announced to a registry that is open at the server
  pub registry_told : (x : Born) → IsThere w.server x → x.iface ≡ registry → In x.birth (map marks_birth w.registries)
  registry_told x h i =
      let k = there_known x h in
      let r = there_row p.server.core.view k.0 k.1.0 in
      let same : plain_of k.0.id r.entry ≡ x = r.same ∙ k.1.1 in
      let at = s.registries.open_registries.all k.0.id r.entry r.there (ap (λ (b : Born). b.iface) same ∙ i) in
      subst (λ (l : List _). In x.birth (map marks_birth l)) (sym s.registries.told)
      (subst (λ (b : Birth). In b (map marks_birth (map marks_of p.server.registries))) (ap birth_of same)
      (among_marks (record { id = k.0.id; birth = r.entry.birth }) p.server.registries at))

-- ---- a pair that represents a world

-- what follows for each pair that represents a world follows in a world in which the client has read no error
pub in_world : {A : Type 0} (p : PairState) (w : World) → StandsIn p w
    → ((asked : List (Message Known)) (told : List (Coming Known)) → StandsBy p w asked told → A) → A
in_world {A} p w h f = by_stands h.stands
  where
    by_stands : Stands p w → A
    by_stands (over asked o) = absurd (let z = h.goes_on in let e = o.stage in cc (e, z))
    by_stands (stands asked told s) = f asked told s
