-- The messages in flight of a pair that represents its world, in plain words.
use Rattle.std.proofs.Common.{true, false, ◌++◌, ◌∷◌, [], ◌≡◌, ℕ, ◌<◌, ◌≤◌, Bool, List, ◌⊎◌, inl}
use Rattle.std.proofs.Common.{inr, sym, ◌∙◌, ap, subst, arith, ◌≢◌}
use Rattle.std.specs.declared.option.Option.{Option}
use Rattle.std.specs.declared.option.Option.TheVariants.{None, Some}
use Rattle.theory_connection.specs.Meant.{Birth, Born, Known}
use Rattle.theory_connection.specs.World.{Row, Open, Ending, Each}
use Rattle.wl_object_map.specs.Ranges.{is_of_server}
use Rattle.theory_connection.specs.Flight.{Rows, at, with_told, Ask, Make, Destroy, Tell, Made, Delete, at_client}
use Rattle.theory_connection.specs.Flight.{IsHeldInRows, NextTold, ReadsInFlight, done, name, made, end, delete}
use Rattle.theory_connection.specs.Flight.{Tied, drained, use_, make, destroy, give_back, MeetInMiddle}
use Rattle.theory_connection.specs.Plain.{tell_id, ask_id, In}
use Rattle.theory_connection.proofs.Flight.{put_row_tells, put_row_same, held_at_client, held_other, held_some}
use Rattle.theory_connection.proofs.Flight.{free_after, put_row_other, range_apart, fresh_range}
use Rattle.theory_connection.proofs.Flight.{told_apart, open_at_server}

-- an object that is held after another ends was held before
pub kept_end : (v : Rows Row) (x y : Known) → IsHeldInRows v y → IsHeldInRows (at v y.id (Some (Ending y.born))) x
    → IsHeldInRows v x
kept_end v x y a h = elim (put_row_tells v.rows y.id (Some (Ending y.born)) x.id) [
  | inl p ↦ (let e : x.born ≡ y.born = grind arith
      in let k : ◌≡◌ {A = Known} y x = λ i. record { id = sym p.0 i; born = sym e i } in subst (IsHeldInRows v) k a)
  | inr p ↦ elim h [ inl q ↦ inl (sym p.1 ∙ q) | inr q ↦ inr (sym p.1 ∙ q) ]
]

-- an object that is held after an id is closed was held before
pub kept_delete : (v : Rows Row) (x : Known) (i : ℕ) → IsHeldInRows (at v i None) x → IsHeldInRows v x
kept_delete v x i h = elim (put_row_tells v.rows i None x.id) [
  | inl p ↦ elim h [ inl q ↦ absurd (cc (p.1, q)) | inr q ↦ absurd (cc (p.1, q)) ]
  | inr p ↦ elim h [ inl q ↦ inl (sym p.1 ∙ q) | inr q ↦ inr (sym p.1 ∙ q) ]
]

held_some_row : (m : Rows Row) (x : Known) → IsHeldInRows m x → m.rows x.id ≡ None → ⊥
held_some_row m x h n = elim h [ inl p ↦ cc (p, n) | inr p ↦ cc (p, n) ]

-- ids of the client's range
abbrev pub IsOfClient : ℕ → Type 0
IsOfClient i = is_of_server i ≡ false

no_ending : (o : Option Born) (e : Born) → at_client o ≡ Some (Ending e) → ⊥
no_ending None e h = cc h
no_ending (Some x) e h = cc h

at_some : (o : Option Born) (e : Born) → (at_client o ≡ Some (Open e)) ⊎ (at_client o ≡ Some (Ending e))
    → o ≡ Some e
at_some None e h = elim h [ inl p ↦ absurd (cc p) | inr p ↦ absurd (cc p) ]
at_some (Some x) e h = elim h [ inl p ↦ cc | inr p ↦ absurd (cc p) ]

-- an object of the client's range stays held when an event makes an object
held_past : (v : Rows Row) (n x : Known) → NextTold v n → IsOfClient x.id → IsHeldInRows v x
    → IsHeldInRows (with_told v n.id (Open n.born)) x
held_past v n x g l h =
    let same = put_row_other v.rows n.id (Some (Open n.born)) x.id (λ q. range_apart x.id n.id l g.range (sym q)) in
    elim h [ inl p ↦ inl (same ∙ p) | inr p ↦ inr (same ∙ p) ]

-- an object that is held after an event made an object was held before, or is that object
pub kept_told : (v : Rows Row) (n x : Known) → IsHeldInRows (with_told v n.id (Open n.born)) x
    → IsHeldInRows v x ⊎ (x ≡ n)
kept_told v n x h = elim (put_row_tells v.rows n.id (Some (Open n.born)) x.id) [
  | inl p ↦ (let e : x.born ≡ n.born = elim h [ inl q ↦ cc (p.1, q) | inr q ↦ absurd (cc (p.1, q)) ]
      in let k : ◌≡◌ {A = Known} x n = λ i. record { id = p.0 i; born = e i } in inr k)
  | inr p ↦ inl (elim h [ inl q ↦ inl (sym p.1 ∙ q) | inr q ↦ inr (sym p.1 ∙ q) ])
]

-- the object is ending, and its interface has no destroying event
pub record Asked (test : Born → Bool) (m : Rows Row) (n : Known) : Type 0 where
  pub ending : m.rows n.id ≡ Some (Ending n.born)
  pub test_is : test n.born ≡ false

module _ {test : Born → Bool} where
  -- no event in flight is about a free id of the client's range
  free_tells : {es : List Tell} {v w : Rows Row} (i : ℕ) → ReadsInFlight test es v w → IsOfClient i → v.rows i ≡ None
      → Each (λ t. tell_id t ≢ i) es
  free_tells i done l h = tt
  free_tells i (name {v = v} {x = n} a r) l h = (held_some v n i a h, free_tells i r l h)
  free_tells i (made {v = v} {x = n} b g r) l h =
      let ne : i ≢ n.id = range_apart i n.id l g.range in
      ((λ q. ne (sym q)), free_tells i r l (put_row_other v.rows n.id _ i (λ q. ne (sym q)) ∙ h))
  free_tells i (end {v = v} {x = n} b q a r) l h =
      (held_some v n i a h, free_tells i r l (grind (arith, put_row_tells)))
  free_tells i (delete {v = v} {x = n} z q a b r) l h =
      (held_some v n i a h, free_tells i r l (grind (arith, put_row_tells)))

  -- no request in flight is about a free id
  pub free_asks : {qs : List Ask} {s : Rows Born} {m : Rows Row} (i : ℕ) → Tied test qs s m → m.rows i ≡ None
      → Each (λ a. ask_id a ≢ i) qs
  free_asks i (drained same r u b k) h = tt
  free_asks i (use_ {m = m} {x = n} a b t) h = (held_some m n i (held_at_client n t a) h, free_asks i t h)
  free_asks i (make {s = s} {m = m} {x = n} a t) h =
      (held_some m n i (held_at_client n t (put_row_same s.rows n.id (Some n.born))) h, free_asks i t h)
  free_asks i (destroy {m = m} {x = n} z q a b c t) h =
      (held_some m n i (inr c) h, free_asks i t (grind (arith, put_row_tells)))
  free_asks i (give_back {m = m} {x = n} q a b c t) h = (held_some m n i (inr c) h, free_asks i t h)

  -- nothing in flight is about an id of the client's range with no row at the client
  pub free_nowhere : {es : List Tell} {qs : List Ask} {v : Rows Row} {s : Rows Born} (i : ℕ)
      → MeetInMiddle test es qs v s
      → IsOfClient i → v.rows i ≡ None → Each (λ t. tell_id t ≢ i) es × Each (λ a. ask_id a ≢ i) qs
  free_nowhere i m l h = (free_tells i m.reads l h, free_asks i m.tied (free_after i m.reads l h))

  -- the delete of an object that the client holds in its range is in flight, or the object is still
  -- held once the events are read
  deleted_or : {es : List Tell} {v w : Rows Row} (n : Known) → ReadsInFlight test es v w → IsOfClient n.id
      → IsHeldInRows v n → In (Delete n) es ⊎ IsHeldInRows w n
  deleted_or n done l h = inr h
  deleted_or n (name a r) l h = elim (deleted_or n r l h) [ inl p ↦ inl (inr p) | inr p ↦ inr p ]
  deleted_or n (made {v = v} {x = x} b g r) l h =
      elim (deleted_or n r l (held_past v x n g l h)) [ inl p ↦ inl (inr p) | inr p ↦ inr p ]
  deleted_or n (end {v = v} {x = x} b q a r) l h =
      elim (deleted_or n r l (elim (put_row_tells v.rows x.id (Some (Ending x.born)) n.id)
      [ inl p ↦ grind arith | inr p ↦ held_other v n x.id _ h p.0 ]))
      [ inl p ↦ inl (inr p) | inr p ↦ inr p ]
  deleted_or n (delete {v = v} {x = x} z k a b r) l h = elim (put_row_tells v.rows x.id None n.id) [
    | inl p ↦ let e : n.born ≡ x.born = grind arith in
        let q : ◌≡◌ {A = Known} n x = λ i. record { id = p.0 i; born = e i } in
        inl (inl (ap Delete q))
    | inr p ↦ elim (deleted_or n r l (held_other v n x.id _ h p.0)) [ inl q ↦ inl (inr q) | inr q ↦ inr q ]
  ]

  -- an object that will be held in the client's range is open at the server or made on the way
  open_or_made : {qs : List Ask} {s : Rows Born} {m : Rows Row} (n : Known) → Tied test qs s m → IsOfClient n.id
      → IsHeldInRows m n → (s.rows n.id ≡ Some n.born) ⊎ In (Make n) qs
  open_or_made n (drained {s = s} same rows u b k) l h =
      inl (at_some (s.rows n.id) n.born (elim h
      [ inl p ↦ inl (sym (rows n.id l) ∙ p) | inr p ↦ inr (sym (rows n.id l) ∙ p) ]))
  open_or_made n (use_ a b t) l h = elim (open_or_made n t l h) [ inl p ↦ inl p | inr p ↦ inr (inr p) ]
  open_or_made n (make {s = s} {x = x} a t) l h = elim (open_or_made n t l h) [
    | inl p ↦ elim (put_row_tells s.rows x.id (Some x.born) n.id) [
      | inl q ↦ let e : n.born ≡ x.born = cc in
          let k : ◌≡◌ {A = Known} n x = λ i. record { id = q.0 i; born = e i } in
          inr (inl (ap Make k))
      | inr q ↦ inl (sym q.1 ∙ p)
    ]
    | inr p ↦ inr (inr p)
  ]
  open_or_made n (destroy {s = s} {m = m} {x = x} z k a b c t) l h = elim (put_row_tells m.rows x.id None n.id) [
    | inl q ↦ let e : n.born ≡ x.born = grind arith in inl (ap s.rows q.0 ∙ a ∙ ap Some (sym e))
    | inr q ↦ elim (open_or_made n t l (held_other m n x.id _ h q.0)) [
      | inl p ↦ inl (grind (arith, put_row_tells))
      | inr p ↦ inr (inr p)
    ]
  ]
  open_or_made n (give_back {s = s} {m = m} {x = x} k a b c t) l h =
      let ne : n.id ≢ x.id = range_apart n.id x.id l k in
      elim (open_or_made n t l h) [
        | inl p ↦ inl (sym (put_row_other s.rows x.id None n.id (λ q. ne (sym q))) ∙ p)
        | inr p ↦ inr (inr p)
      ]

  -- an object that the client holds in its range is deleted on the way, open at the server, or made
  -- on the way
  pub held_where : {es : List Tell} {qs : List Ask} {v : Rows Row} {s : Rows Born} (n : Known)
      → MeetInMiddle test es qs v s → IsOfClient n.id
      → IsHeldInRows v n → In (Delete n) es ⊎ (s.rows n.id ≡ Some n.born) ⊎ In (Make n) qs
  held_where n m l h = elim (deleted_or n m.reads l h) [ inl p ↦ inl p | inr p ↦ inr (open_or_made n m.tied l p) ]

  -- the server has an object that will be open in the server's range
  pub open_given : {qs : List Ask} {s : Rows Born} {m : Rows Row} (n : Known) → Tied test qs s m
      → is_of_server n.id ≡ true → m.rows n.id ≡ Some (Open n.born) → s.rows n.id ≡ Some n.born
  open_given n (drained {s = s} {m = m} same rows u b k) l h =
      open_at_server (m.rows n.id) (s.rows n.id) n.born (same n.id) h
  open_given n (use_ a b t) l h = open_given n t l h
  open_given n (make {s = s} {x = x} a t) l h =
      sym (put_row_other s.rows x.id _ n.id (range_apart x.id n.id (fresh_range a) l)) ∙ open_given n t l h
  open_given n (destroy {s = s} {m = m} {x = x} z k a b c t) l h =
      let ne = range_apart x.id n.id k l in
      sym (put_row_other s.rows x.id None n.id ne) ∙ open_given n t l (put_row_other m.rows x.id None n.id ne ∙ h)
  open_given n (give_back {s = s} {m = m} {x = x} k a b c t) l h =
      let ne : x.id ≢ n.id = λ q. (let d = sym c ∙ ap m.rows q ∙ h in cc d) in
      sym (put_row_other s.rows x.id None n.id ne) ∙ open_given n t l h

  -- nothing after a delete in flight is about its object's id
  pub deleted_last : (before after : List Tell) (x : Known) {v w : Rows Row}
      → ReadsInFlight test (before ++ (Delete x ∷ after)) v w → Each (λ t. tell_id t ≢ x.id) after
  deleted_last [] after x (delete {v = v} z l a b r) = free_tells x.id r l (grind (arith, put_row_tells))
  deleted_last (b ∷ bs) after x (name h r) = deleted_last bs after x r
  deleted_last (b ∷ bs) after x (made t g r) = deleted_last bs after x r
  deleted_last (b ∷ bs) after x (end t l h r) = deleted_last bs after x r
  deleted_last (b ∷ bs) after x (delete z l h c r) = deleted_last bs after x r

  -- ---- the converse, and that only one of these holds

  -- an object that will be held is held, or made by an event on the way
  pub held_before : {es : List Tell} (x : Known) {v w : Rows Row} → ReadsInFlight test es v w → IsHeldInRows w x
      → IsHeldInRows v x ⊎ In (Made x) es
  held_before x done h = inl h
  held_before x (name a r) h = elim (held_before x r h) [ inl p ↦ inl p | inr p ↦ inr (inr p) ]
  held_before x (made {v = v} {x = n} b g r) h = elim (held_before x r h) [
    | inl p ↦ elim (kept_told v n x p) [ inl q ↦ inl q | inr q ↦ inr (inl (ap Made q)) ]
    | inr p ↦ inr (inr p)
  ]
  held_before x (end {v = v} {x = y} b l a r) h =
      elim (held_before x r h) [ inl p ↦ inl (kept_end v x y a p) | inr p ↦ inr (inr p) ]
  held_before x (delete {v = v} {x = y} z l a b r) h =
      elim (held_before x r h) [ inl p ↦ inl (kept_delete v x y.id p) | inr p ↦ inr (inr p) ]

  -- an object that an event makes is in the server's range
  pub made_range : {es : List Tell} (x : Known) {v w : Rows Row} → ReadsInFlight test es v w → In (Made x) es
      → is_of_server x.id ≡ true
  made_range x done i = absurd i
  made_range x (name a r) i = elim i [ inl p ↦ absurd (cc p) | inr p ↦ made_range x r p ]
  made_range x (made {x = n} b g r) i = elim i [
    | inl p ↦ (let e : x ≡ n = cc p in ap (λ (k : Known). is_of_server k.id) e ∙ g.range)
    | inr p ↦ made_range x r p
  ]
  made_range x (end b l a r) i = elim i [ inl p ↦ absurd (cc p) | inr p ↦ made_range x r p ]
  made_range x (delete z l a b r) i = elim i [ inl p ↦ absurd (cc p) | inr p ↦ made_range x r p ]

  -- a delete on the way is for an object in the client's range
  pub deleted_client : {es : List Tell} (x : Known) {v w : Rows Row} → ReadsInFlight test es v w → In (Delete x) es
      → IsOfClient x.id
  deleted_client x done i = absurd i
  deleted_client x (name a r) i = elim i [ inl p ↦ absurd (cc p) | inr p ↦ deleted_client x r p ]
  deleted_client x (made b g r) i = elim i [ inl p ↦ absurd (cc p) | inr p ↦ deleted_client x r p ]
  deleted_client x (end b l a r) i = elim i [ inl p ↦ absurd (cc p) | inr p ↦ deleted_client x r p ]
  deleted_client x (delete {x = y} z l a b r) i = elim i [
    | inl p ↦ (let e : x ≡ y = cc p in ap (λ (k : Known). is_of_server k.id) e ∙ l)
    | inr p ↦ deleted_client x r p
  ]

  -- the client holds the object of a delete on the way, and frees its id when it reads the delete
  deleted_held : {es : List Tell} (x : Known) {v w : Rows Row} → ReadsInFlight test es v w → In (Delete x) es
      → IsHeldInRows v x × (w.rows x.id ≡ None)
  deleted_held x done i = absurd i
  deleted_held x (name a r) i = elim i [ inl p ↦ absurd (cc p) | inr p ↦ deleted_held x r p ]
  deleted_held x (made {v = v} {x = n} b g r) i = elim i [
    | inl p ↦ absurd (cc p)
    | inr p ↦ (let k = deleted_held x r p in let l = deleted_client x r p in (
      elim (kept_told v n x k.0) [
        | inl q ↦ q
        | inr q ↦ absurd (let e = ap (λ (y : Known). is_of_server y.id) q in let m = g.range in cc (l, e, m))
      ],
      k.1,
    ))
  ]
  deleted_held x (end {v = v} {x = y} b l a r) i = elim i
      [ inl p ↦ absurd (cc p) | inr p ↦ (let k = deleted_held x r p in (kept_end v x y a k.0, k.1)) ]
  deleted_held x (delete {v = v} {w = w} {x = y} z l a b r) i = elim i [
    | inl p ↦ (let e : y ≡ x = cc p in (
      subst (IsHeldInRows v) e a,
      subst (λ (k : Known). w.rows k.id ≡ None) e
          (free_after y.id r l (put_row_same v.rows y.id None)),
    ))
    | inr p ↦ (let k = deleted_held x r p in (kept_delete v x y.id k.0, k.1))
  ]

  make_held : {qs : List Ask} (x : Known) {s : Rows Born} {m : Rows Row} → Tied test qs s m → In (Make x) qs
      → IsHeldInRows m x
  make_held x (drained same r u b k) i = absurd i
  make_held x (use_ a b t) i = elim i [ inl p ↦ absurd (cc p) | inr p ↦ make_held x t p ]
  make_held x (make {s = s} {m = m} {x = y} a t) i = elim i [
    | inl p ↦ (let e : y ≡ x = cc p in subst (IsHeldInRows m) e
        (held_at_client y t (put_row_same s.rows y.id (Some y.born))))
    | inr p ↦ make_held x t p
  ]
  make_held x (destroy {m = m} {x = y} z l a b c t) i =
      elim i [ inl p ↦ absurd (cc p) | inr p ↦ kept_delete m x y.id (make_held x t p) ]
  make_held x (give_back l a b c t) i = elim i [ inl p ↦ absurd (cc p) | inr p ↦ make_held x t p ]

  -- an object that a request makes is in the client's range, and was not counted
  pub make_new : {qs : List Ask} (x : Known) {s : Rows Born} {m : Rows Row} → Tied test qs s m → In (Make x) qs
      → (s.births ≤ x.born.birth.number) × IsOfClient x.id
  make_new x (drained same r u b k) i = absurd i
  make_new x (use_ a b t) i = elim i [ inl p ↦ absurd (cc p) | inr p ↦ make_new x t p ]
  make_new x (make {s = s} {x = y} a t) i = elim i [
    | inl p ↦ (let e : x ≡ y = cc p in let k = ap (λ (n : Known). n.born.birth.number) e in
        let f = ap (λ (b : Birth). b.number) a.birth in
        (omega (arith, k, f), ap (λ (n : Known). is_of_server n.id) e ∙ fresh_range a))
    | inr p ↦ (let k = make_new x t p in let l = k.0 in (omega (arith, l), k.1))
  ]
  make_new x (destroy z l a b c t) i = elim i [ inl p ↦ absurd (cc p) | inr p ↦ make_new x t p ]
  make_new x (give_back l a b c t) i = elim i [ inl p ↦ absurd (cc p) | inr p ↦ make_new x t p ]

  -- the client holds an object that is deleted on the way, open at the server, or made by a request
  -- on the way; or an event on the way makes it
  pub held_back : {es : List Tell} {qs : List Ask} {v : Rows Row} {s : Rows Born} (x : Known)
      → MeetInMiddle test es qs v s
      → In (Delete x) es ⊎ (s.rows x.id ≡ Some x.born) ⊎ In (Make x) qs → IsHeldInRows v x ⊎ In (Made x) es
  held_back x m h = elim h [
    | inl p ↦ inl (deleted_held x m.reads p).0
    | inr p ↦ elim p [
      | inl q ↦ held_before x m.reads (held_at_client x m.tied q)
      | inr q ↦ held_before x m.reads
          (make_held x m.tied q)
    ]
  ]

  -- in the client's range, the client holds it
  pub held_back_here : {es : List Tell} {qs : List Ask} {v : Rows Row} {s : Rows Born} (x : Known)
      → MeetInMiddle test es qs v s → IsOfClient x.id
      → In (Delete x) es ⊎ (s.rows x.id ≡ Some x.born) ⊎ In (Make x) qs → IsHeldInRows v x
  held_back_here x m l h = elim (held_back x m h)
      [ inl p ↦ p | inr p ↦ absurd (let k = made_range x m.reads p in cc (l, k)) ]

  -- an object that is open at the server has no delete on the way
  pub not_open_deleted : {es : List Tell} {qs : List Ask} {v : Rows Row} {s : Rows Born} (x : Known)
      → MeetInMiddle test es qs v s → s.rows x.id ≡ Some x.born → In (Delete x) es → ⊥
  not_open_deleted x m h d = held_some_row m.middle x (held_at_client x m.tied h) (deleted_held x m.reads d).1

  -- an object that is made on the way has no delete on the way
  pub not_made_deleted : {es : List Tell} {qs : List Ask} {v : Rows Row} {s : Rows Born} (x : Known)
      → MeetInMiddle test es qs v s → In (Make x) qs → In (Delete x) es → ⊥
  not_made_deleted x m h d = held_some_row m.middle x (make_held x m.tied h) (deleted_held x m.reads d).1

  -- the server has not counted an object that is made on the way
  pub not_made_counted : {es : List Tell} {qs : List Ask} {v : Rows Row} {s : Rows Born} (x : Known)
      → MeetInMiddle test es qs v s → In (Make x) qs → x.born.birth.number < s.births → ⊥
  not_made_counted x m h l = let k = (make_new x m.tied h).0 in absurd (omega (arith, k, l))

  -- ---- ending objects

  ending_read : {es : List Tell} {v w : Rows Row} (n : Known) → ReadsInFlight test es v w → IsOfClient n.id
      → v.rows n.id ≡ Some (Ending n.born)
      → In (Delete n) es ⊎ (w.rows n.id ≡ Some (Ending n.born))
  ending_read n done l h = inr h
  ending_read n (name a r) l h = elim (ending_read n r l h) [ inl p ↦ inl (inr p) | inr p ↦ inr p ]
  ending_read n (made {v = v} {x = x} b g r) l h =
      let same = put_row_other v.rows x.id (Some (Open x.born)) n.id (λ q. range_apart n.id x.id l g.range (sym q)) in
      elim (ending_read n r l (same ∙ h)) [ inl p ↦ inl (inr p) | inr p ↦ inr p ]
  ending_read n (end {v = v} {x = x} b q a r) l h =
      elim (ending_read n r l (elim (put_row_tells v.rows x.id (Some (Ending x.born)) n.id) [
        | inl p ↦ (let e : n.born ≡ x.born = grind arith in p.1 ∙ ap (λ (k : Born). Some (Ending k)) (sym e))
        | inr p ↦ p.1 ∙ h
      ]))
      [ inl p ↦ inl (inr p) | inr p ↦ inr p ]
  ending_read n (delete {v = v} {x = x} z k a b r) l h = elim (put_row_tells v.rows x.id None n.id) [
    | inl p ↦ let e : n.born ≡ x.born = grind arith in
        let q : ◌≡◌ {A = Known} n x = λ i. record { id = p.0 i; born = e i } in
        inl (inl (ap Delete q))
    | inr p ↦ elim (ending_read n r l (p.1 ∙ h)) [ inl q ↦ inl (inr q) | inr q ↦ inr q ]
  ]

  ending_asked : {qs : List Ask} {s : Rows Born} {m : Rows Row} (n : Known) → Tied test qs s m → IsOfClient n.id
      → m.rows n.id ≡ Some (Ending n.born) → In (Destroy n) qs
  ending_asked n (drained {s = s} same rows u b k) l h =
      absurd (no_ending (s.rows n.id) n.born (sym (rows n.id l) ∙ h))
  ending_asked n (use_ a b t) l h = inr (ending_asked n t l h)
  ending_asked n (make a t) l h = inr (ending_asked n t l h)
  ending_asked n (destroy {m = m} {x = x} z k a b c t) l h = elim (put_row_tells m.rows x.id None n.id) [
    | inl p ↦ let e : n.born ≡ x.born = grind arith in
        let q : ◌≡◌ {A = Known} n x = λ i. record { id = p.0 i; born = e i } in
        inl (ap Destroy q)
    | inr p ↦ inr (ending_asked n t l (p.1 ∙ h))
  ]
  ending_asked n (give_back k a b c t) l h = inr (ending_asked n t l h)

  -- an object in the client's range that is ending at the client is deleted or destroyed on the way
  pub ending_where : {es : List Tell} {qs : List Ask} {v : Rows Row} {s : Rows Born} (n : Known)
      → MeetInMiddle test es qs v s → IsOfClient n.id
      → v.rows n.id ≡ Some (Ending n.born) → In (Delete n) es ⊎ In (Destroy n) qs
  ending_where n m l h = elim (ending_read n m.reads l h) [ inl p ↦ inl p | inr p ↦ inr (ending_asked n m.tied l p) ]

  pub asked_ending : {qs : List Ask} {s : Rows Born} {m : Rows Row} (n : Known) → Tied test qs s m → In (Destroy n) qs
      → Asked test m n
  asked_ending n (drained same r u b k) i = absurd i
  asked_ending n (use_ a b t) i = elim i [ inl p ↦ absurd (cc p) | inr p ↦ asked_ending n t p ]
  asked_ending n (make a t) i = elim i [ inl p ↦ absurd (cc p) | inr p ↦ asked_ending n t p ]
  asked_ending n (destroy {m = m} {x = x} z l a b c t) i = elim i [
    | inl p ↦ (let e : x ≡ n = cc p in subst (Asked test m) e (record { ending = c; test_is = b }))
    | inr p ↦ (let k = asked_ending n t p in record {
      ending = elim (put_row_tells m.rows x.id None n.id)
          [ inl q ↦ absurd (cc (q.1, k.ending)) | inr q ↦ sym q.1 ∙ k.ending ];
      test_is = k.test_is;
    })
  ]
  asked_ending n (give_back {m = m} {x = x} l a b c t) i = elim i [
    | inl p ↦ (let e : x ≡ n = cc p in subst (Asked test m) e (record { ending = c; test_is = b }))
    | inr p ↦ asked_ending n t p
  ]

  open_read : {es : List Tell} {v w : Rows Row} (n : Known) → ReadsInFlight test es v w
      → v.rows n.id ≡ Some (Open n.born)
      → w.rows n.id ≡ Some (Ending n.born) → test n.born ≡ true
  open_read n done h k = absurd (cc (h, k))
  open_read n (name a r) h k = open_read n r h k
  open_read n (made {v = v} {x = x} b g r) h k =
      open_read n r (put_row_other v.rows x.id _ n.id (told_apart v x n.id n.born g h) ∙ h) k
  open_read n (end {v = v} {x = x} b l a r) h k = elim (put_row_tells v.rows x.id (Some (Ending x.born)) n.id) [
    | inl p ↦ let e : n.born ≡ x.born = elim a [ inl q ↦ cc (h, q, p.0) | inr q ↦ absurd (cc (h, q, p.0)) ]
        in ap test e ∙ b
    | inr p ↦ open_read n r (p.1 ∙ h) k
  ]
  open_read n (delete {v = v} {x = x} z l a b r) h k = elim (put_row_tells v.rows x.id None n.id) [
    | inl p ↦ absurd (let f = free_after n.id r (ap is_of_server p.0 ∙ l) p.1 in cc (f, k))
    | inr p ↦ open_read n r (p.1 ∙ h) k
  ]

  -- no request on the way destroys an object that is open at the client
  pub open_unasked : {es : List Tell} {qs : List Ask} {v : Rows Row} {s : Rows Born} (n : Known)
      → MeetInMiddle test es qs v s
      → v.rows n.id ≡ Some (Open n.born) → In (Destroy n) qs → ⊥
  open_unasked n m h i = let k = asked_ending n m.tied i in cc (open_read n m.reads h k.ending, k.test_is)

  -- if the delete of an open object is on the way, its interface has a destroying event
  pub open_deleted : {es : List Tell} {v w : Rows Row} (n : Known) → ReadsInFlight test es v w
      → v.rows n.id ≡ Some (Open n.born) → In (Delete n) es → test n.born ≡ true
  open_deleted n done h i = absurd i
  open_deleted n (name a r) h i = elim i [ inl p ↦ absurd (cc p) | inr p ↦ open_deleted n r h p ]
  open_deleted n (made {v = v} {x = x} b g r) h i = elim i [
    | inl p ↦ absurd (cc p)
    | inr p ↦ open_deleted n r (put_row_other v.rows x.id _ n.id (told_apart v x n.id n.born g h) ∙ h) p
  ]
  open_deleted n (end {v = v} {x = x} b l a r) h i = elim i [
    | inl p ↦ absurd (cc p)
    | inr p ↦ elim (put_row_tells v.rows x.id (Some (Ending x.born)) n.id) [
      | inl q ↦ let e : n.born ≡ x.born = elim a [ inl k ↦ cc (h, k, q.0) | inr k ↦ absurd (cc (h, k, q.0)) ]
          in ap test e ∙ b
      | inr q ↦ open_deleted n r (q.1 ∙ h) p
    ]
  ]
  open_deleted n (delete {v = v} {x = x} z l a b r) h i = elim i [
    | inl p ↦ (let e : n ≡ x = cc p in elim b [
      | inl q ↦ ap (λ (k : Known). test k.born) e ∙ q
      | inr q ↦ absurd (let k : v.rows n.id ≡ v.rows x.id = ap (λ (m : Known). v.rows m.id) e in cc (h, q, k))
    ])
    | inr p ↦ elim (put_row_tells v.rows x.id None n.id) [
      | inl q ↦ absurd (held_some_row (at v x.id None) n (deleted_held n r p).0 q.1)
      | inr q ↦ open_deleted n r (q.1 ∙ h) p
    ]
  ]

  -- the client has not counted an object that an event makes
  pub made_later : {es : List Tell} {v w : Rows Row} (x : Known) → ReadsInFlight test es v w → In (Made x) es
      → v.by_server.births ≤ x.born.birth.number
  made_later x done i = absurd i
  made_later x (name a r) i = elim i [ inl p ↦ absurd (cc p) | inr p ↦ made_later x r p ]
  made_later x (made {x = n} b g r) i = elim i [
    | inl p ↦ (let e : x ≡ n = cc p in let k = ap (λ (y : Known). y.born.birth.number) e in
        let f = ap (λ (c : Birth). c.number) g.birth in omega (arith, k, f))
    | inr p ↦ (let k = made_later x r p in omega (arith, k))
  ]
  made_later x (end b l a r) i = elim i [ inl p ↦ absurd (cc p) | inr p ↦ made_later x r p ]
  made_later x (delete z l a b r) i = elim i [ inl p ↦ absurd (cc p) | inr p ↦ made_later x r p ]

  -- the client holds an object that a request on the way destroys, or an event on the way makes it
  pub destroyed_before : {es : List Tell} {qs : List Ask} {v : Rows Row} {s : Rows Born} (n : Known)
      → MeetInMiddle test es qs v s → In (Destroy n) qs → IsHeldInRows v n ⊎ In (Made n) es
  destroyed_before n m i = held_before n m.reads (inr (asked_ending n m.tied i).ending)

  -- no object is both destroyed and deleted on the way
  pub not_destroyed_deleted : {es : List Tell} {qs : List Ask} {v : Rows Row} {s : Rows Born} (n : Known)
      → MeetInMiddle test es qs v s → In (Destroy n) qs → In (Delete n) es → ⊥
  not_destroyed_deleted n m i d = let k = (asked_ending n m.tied i).ending in let g = (deleted_held n m.reads d).1
      in cc (k, g)
