-- Where an object that the server made is, while events and requests are in flight. If it is open
-- at the server, it is made by an event on the way, open at the client, or destroyed by a request
-- on the way. Also what was counted in the server's range, and that nothing in flight is about an
-- object after the request that destroys it.
use Rattle.std.specs.Prelude.{suc}
use Rattle.std.proofs.Common.{map, true, ◌++◌, ◌∷◌, [], ◌≡◌, ℕ, ◌+◌, ◌<◌, ◌≤◌, Bool, List, ◌⊎◌, inl, inr}
use Rattle.std.proofs.Common.{refl, sym, ◌∙◌, ap, subst, arith, ◌≢◌}
use Rattle.std.specs.declared.option.Option.TheVariants.{None, Some}
use Rattle.std.proofs.lemmas.Bool.Decides.{nat_tests}
use Rattle.wl_object_map.specs.declared.object.Maker.TheVariants.{Client, Server}
use Rattle.wl_object_map.specs.Ranges.{is_of_server}
use Rattle.theory_connection.specs.Meant.{Birth, Born, Known}
use Rattle.theory_connection.specs.World.{Row, Open, Ending, Each}
use Rattle.theory_connection.specs.Flight.{Rows, at, with_told, most, Ask, Use, Make, Destroy, Tell, Name, Made}
use Rattle.theory_connection.specs.Flight.{IsHeldInRows, ReadsInFlight, done, name, made, end, delete, Tied}
use Rattle.theory_connection.specs.Flight.{drained, use_, make, destroy, give_back, MeetInMiddle}
use Rattle.theory_connection.specs.Plain.{tell_id, ask_id, In, IsMaking, IsInOrder, IsLatest, made_last, not_made}
use Rattle.theory_connection.proofs.Flight.{put_row_tells, put_row_same, put_row_other, range_apart}
use Rattle.theory_connection.proofs.Flight.{fresh_range, told_apart, held_some, held_at_client, open_of}
use Rattle.theory_connection.proofs.Plain as plain

-- the object of an id and a birth
known_is : (x y : Known) → x.id ≡ y.id → x.born ≡ y.born → x ≡ y
known_is x y p e = λ i. record { id = p i; born = e i }

-- the objects that these actions make
abbrev pub mades : List Tell → List Known
mades [] = []
mades (Made x ∷ es) = x ∷ mades es
mades (t ∷ es) = mades es

abbrev pub makes : List Ask → List Known
makes [] = []
makes (Make x ∷ qs) = x ∷ makes qs
makes (a ∷ qs) = makes qs

abbrev pub birth_known : Known → Birth
birth_known x = x.born.birth

module _ {test : Born → Bool} where
  -- ---- which objects are open

  -- an open object in the server's range stays open while the client reads
  pub open_after : {es : List Tell} {v w : Rows Row} (i : ℕ) (e : Born) → ReadsInFlight test es v w
      → is_of_server i ≡ true → v.rows i ≡ Some (Open e) → w.rows i ≡ Some (Open e)
  open_after i e done l h = h
  open_after i e (name a r) l h = open_after i e r l h
  open_after i e (made {v = v} {x = n} b g r) l h =
      open_after i e r l (put_row_other v.rows n.id _ i (told_apart v n i e g h) ∙ h)
  open_after i e (end {v = v} {x = n} b k a r) l h =
      open_after i e r l (put_row_other v.rows n.id _ i (range_apart n.id i k l) ∙ h)
  open_after i e (delete {v = v} {x = n} z k a b r) l h =
      open_after i e r l (put_row_other v.rows n.id None i (range_apart n.id i k l) ∙ h)

  -- an object that an event on the way makes will be open at the client
  pub made_open : {es : List Tell} {v w : Rows Row} (x : Known) → ReadsInFlight test es v w → In (Made x) es
      → w.rows x.id ≡ Some (Open x.born)
  made_open x done i = absurd i
  made_open x (name a r) i = elim i [ inl p ↦ absurd (cc p) | inr p ↦ made_open x r p ]
  made_open x (made {v = v} {w = w} {x = n} b g r) i = elim i [
    | inl p ↦ (let e : n ≡ x = cc p in subst (λ (k : Known). w.rows k.id ≡ Some (Open k.born)) e
        (open_after n.id n.born r g.range (put_row_same v.rows n.id (Some (Open n.born)))))
    | inr p ↦ made_open x r p
  ]
  made_open x (end b k a r) i = elim i [ inl p ↦ absurd (cc p) | inr p ↦ made_open x r p ]
  made_open x (delete z k a b r) i = elim i [ inl p ↦ absurd (cc p) | inr p ↦ made_open x r p ]

  -- an object that will be open at the client is open there, or an event on the way makes it
  pub open_before : {es : List Tell} {v w : Rows Row} (x : Known) → ReadsInFlight test es v w
      → w.rows x.id ≡ Some (Open x.born) → (v.rows x.id ≡ Some (Open x.born)) ⊎ In (Made x) es
  open_before x done h = inl h
  open_before x (name a r) h = elim (open_before x r h) [ inl p ↦ inl p | inr p ↦ inr (inr p) ]
  open_before x (made {v = v} {x = n} b g r) h = elim (open_before x r h) [
    | inl p ↦ elim (put_row_tells v.rows n.id (Some (Open n.born)) x.id) [
      | inl q ↦ (let e : x.born ≡ n.born = cc (p, q.1) in inr (inl (ap Made (known_is x n q.0 e))))
      | inr q ↦ inl (sym q.1 ∙ p)
    ]
    | inr p ↦ inr (inr p)
  ]
  open_before x (end {v = v} {x = n} b k a r) h = elim (open_before x r h) [
    | inl p ↦ elim (put_row_tells v.rows n.id (Some (Ending n.born)) x.id)
        [ inl q ↦ absurd (cc (p, q.1)) | inr q ↦ inl (sym q.1 ∙ p) ]
    | inr p ↦ inr (inr p)
  ]
  open_before x (delete {v = v} {x = n} z k a b r) h = elim (open_before x r h) [
    | inl p ↦ elim (put_row_tells v.rows n.id None x.id)
        [ inl q ↦ absurd (cc (p, q.1)) | inr q ↦ inl (sym q.1 ∙ p) ]
    | inr p ↦ inr (inr p)
  ]

  -- an object that the server has will be open at the client, or a request on the way destroys it
  pub there_or_asked : {qs : List Ask} {s : Rows Born} {m : Rows Row} (x : Known) → Tied test qs s m
      → s.rows x.id ≡ Some x.born → (m.rows x.id ≡ Some (Open x.born)) ⊎ In (Destroy x) qs
  there_or_asked x (drained {m = m} same rows u b c) h = inl (open_of (m.rows x.id) x.born (same x.id ∙ h))
  there_or_asked x (use_ a b t) h = elim (there_or_asked x t h) [ inl p ↦ inl p | inr p ↦ inr (inr p) ]
  there_or_asked x (make {s = s} {x = n} a t) h =
      let ne : n.id ≢ x.id = λ q. (let d = sym a.free ∙ ap s.rows q ∙ h in cc d) in
      elim (there_or_asked x t (put_row_other s.rows n.id _ x.id ne ∙ h)) [ inl p ↦ inl p | inr p ↦ inr (inr p) ]
  there_or_asked x (destroy {s = s} {m = m} {x = n} z l a b c t) h = elim (put_row_tells s.rows n.id None x.id) [
    | inl p ↦ (let there = ap s.rows p.0 ∙ a in let e : x.born ≡ n.born = cc (h, there) in
        inr (inl (ap Destroy (known_is x n p.0 e))))
    | inr p ↦ elim (there_or_asked x t (p.1 ∙ h)) [
      | inl q ↦ inl (sym (put_row_other m.rows n.id None x.id (λ k. p.0 (sym k))) ∙ q)
      | inr q ↦ inr (inr q)
    ]
  ]
  there_or_asked x (give_back {s = s} {x = n} l a b c t) h = elim (put_row_tells s.rows n.id None x.id) [
    | inl p ↦ (let there = ap s.rows p.0 ∙ a in let e : x.born ≡ n.born = cc (h, there) in
        inr (inl (ap Destroy (known_is x n p.0 e))))
    | inr p ↦ elim (there_or_asked x t (p.1 ∙ h)) [ inl q ↦ inl q | inr q ↦ inr (inr q) ]
  ]

  -- ---- the objects that requests on the way are about

  -- the server has the object that a request on the way is about, or an earlier request makes it
  pub destroyed_there : {qs : List Ask} {s : Rows Born} {m : Rows Row} (x : Known) → Tied test qs s m
      → In (Destroy x) qs → (s.rows x.id ≡ Some x.born) ⊎ In (Make x) qs
  destroyed_there x (drained same rows u b c) i = absurd i
  destroyed_there x (use_ a b t) i = elim i [
    | inl p ↦ absurd (cc p)
    | inr p ↦ elim (destroyed_there x t p) [ inl q ↦ inl q | inr q ↦ inr (inr q) ]
  ]
  destroyed_there x (make {s = s} {x = n} a t) i = elim i [
    | inl p ↦ absurd (cc p)
    | inr p ↦ elim (destroyed_there x t p) [
      | inl q ↦ elim (put_row_tells s.rows n.id (Some n.born) x.id) [
        | inl k ↦ (let e : x.born ≡ n.born = cc (q, k.1) in inr (inl (ap Make (known_is x n k.0 e))))
        | inr k ↦ inl (sym k.1 ∙ q)
      ]
      | inr q ↦ inr (inr q)
    ]
  ]
  destroyed_there x (destroy {s = s} {x = n} z l a b c t) i = elim i [
    | inl p ↦ (let e : n ≡ x = cc p in inl (subst (λ (k : Known). s.rows k.id ≡ Some k.born) e a))
    | inr p ↦ elim (destroyed_there x t p) [
      | inl q ↦ elim (put_row_tells s.rows n.id None x.id) [ inl k ↦ absurd (cc (q, k.1)) | inr k ↦ inl (sym k.1 ∙ q) ]
      | inr q ↦ inr (inr q)
    ]
  ]
  destroyed_there x (give_back {s = s} {x = n} l a b c t) i = elim i [
    | inl p ↦ (let e : n ≡ x = cc p in inl (subst (λ (k : Known). s.rows k.id ≡ Some k.born) e a))
    | inr p ↦ elim (destroyed_there x t p) [
      | inl q ↦ elim (put_row_tells s.rows n.id None x.id) [ inl k ↦ absurd (cc (q, k.1)) | inr k ↦ inl (sym k.1 ∙ q) ]
      | inr q ↦ inr (inr q)
    ]
  ]

  pub used_there : {qs : List Ask} {s : Rows Born} {m : Rows Row} (x : Known) → Tied test qs s m
      → In (Use x) qs → (s.rows x.id ≡ Some x.born) ⊎ In (Make x) qs
  used_there x (drained same rows u b c) i = absurd i
  used_there x (use_ {s = s} {x = n} a b t) i = elim i [
    | inl p ↦ (let e : n ≡ x = cc p in inl (subst (λ (k : Known). s.rows k.id ≡ Some k.born) e a))
    | inr p ↦ elim (used_there x t p) [ inl q ↦ inl q | inr q ↦ inr (inr q) ]
  ]
  used_there x (make {s = s} {x = n} a t) i = elim i [
    | inl p ↦ absurd (cc p)
    | inr p ↦ elim (used_there x t p) [
      | inl q ↦ elim (put_row_tells s.rows n.id (Some n.born) x.id) [
        | inl k ↦ (let e : x.born ≡ n.born = cc (q, k.1) in inr (inl (ap Make (known_is x n k.0 e))))
        | inr k ↦ inl (sym k.1 ∙ q)
      ]
      | inr q ↦ inr (inr q)
    ]
  ]
  used_there x (destroy {s = s} {x = n} z l a b c t) i = elim i [
    | inl p ↦ absurd (cc p)
    | inr p ↦ elim (used_there x t p) [
      | inl q ↦ elim (put_row_tells s.rows n.id None x.id) [ inl k ↦ absurd (cc (q, k.1)) | inr k ↦ inl (sym k.1 ∙ q) ]
      | inr q ↦ inr (inr q)
    ]
  ]
  used_there x (give_back {s = s} {x = n} l a b c t) i = elim i [
    | inl p ↦ absurd (cc p)
    | inr p ↦ elim (used_there x t p) [
      | inl q ↦ elim (put_row_tells s.rows n.id None x.id) [ inl k ↦ absurd (cc (q, k.1)) | inr k ↦ inl (sym k.1 ∙ q) ]
      | inr q ↦ inr (inr q)
    ]
  ]

  -- the client will hold an object that a request on the way names
  pub used_held : {qs : List Ask} {s : Rows Born} {m : Rows Row} (x : Known) → Tied test qs s m → In (Use x) qs
      → IsHeldInRows m x
  used_held x (drained same rows u b c) i = absurd i
  used_held x (use_ {m = m} {x = n} a b t) i = elim i [
    | inl p ↦ (let e : n ≡ x = cc p in subst (IsHeldInRows m) e (held_at_client n t a))
    | inr p ↦ used_held x t p
  ]
  used_held x (make a t) i = elim i [ inl p ↦ absurd (cc p) | inr p ↦ used_held x t p ]
  used_held x (destroy {m = m} {x = n} z l a b c t) i =
      elim i [ inl p ↦ absurd (cc p) | inr p ↦ plain.kept_delete m x n.id (used_held x t p) ]
  used_held x (give_back l a b c t) i = elim i [ inl p ↦ absurd (cc p) | inr p ↦ used_held x t p ]

  -- no request is about an id of the server's range that the server has freed
  gone_asks : {qs : List Ask} {s : Rows Born} {m : Rows Row} (i : ℕ) → Tied test qs s m → is_of_server i ≡ true
      → s.rows i ≡ None → Each (λ a. ask_id a ≢ i) qs
  gone_asks i (drained same rows u b c) l h = tt
  gone_asks i (use_ {s = s} {x = n} a b t) l h =
      ((λ q. (let d = sym a ∙ ap s.rows q ∙ h in cc d)), gone_asks i t l h)
  gone_asks i (make {s = s} {x = n} a t) l h =
      let ne = range_apart n.id i (fresh_range a) l in
      (ne, gone_asks i t l (put_row_other s.rows n.id _ i ne ∙ h))
  gone_asks i (destroy {s = s} {x = n} z k a b c t) l h =
      let ne = range_apart n.id i k l in
      (ne, gone_asks i t l (put_row_other s.rows n.id None i ne ∙ h))
  gone_asks i (give_back {s = s} {x = n} k a b c t) l h =
      let ne : n.id ≢ i = λ q. (let d = sym a ∙ ap s.rows q ∙ h in cc d) in
      (ne, gone_asks i t l (put_row_other s.rows n.id None i ne ∙ h))

  -- after the destroying request, no request on the way is about the object's id
  pub destroyed_last : (before after : List Ask) (x : Known) {s : Rows Born} {m : Rows Row}
      → Tied test (before ++ (Destroy x ∷ after)) s m → Each (λ a. ask_id a ≢ x.id) after
  destroyed_last [] after x (destroy {m = m} z l a b c t) = plain.free_asks x.id t (put_row_same m.rows x.id None)
  destroyed_last [] after x (give_back {s = s} l a b c t) = gone_asks x.id t l (put_row_same s.rows x.id None)
  destroyed_last (q ∷ qs) after x (use_ a b t) = destroyed_last qs after x t
  destroyed_last (q ∷ qs) after x (make a t) = destroyed_last qs after x t
  destroyed_last (q ∷ qs) after x (destroy z l a b c t) = destroyed_last qs after x t
  destroyed_last (q ∷ qs) after x (give_back l a b c t) = destroyed_last qs after x t

  -- an object that a request on the way destroys is ending at the client
  pub destroyed_ending : {es : List Tell} {qs : List Ask} {v : Rows Row} {s : Rows Born} (x : Known)
      → MeetInMiddle test es qs v s → In (Destroy x) qs → v.rows x.id ≡ Some (Ending x.born)
  destroyed_ending x m i = elim (plain.destroyed_before x m i) [
    | inl held ↦ elim held [ inl p ↦ absurd (plain.open_unasked x m p i) | inr p ↦ p ]
    | inr told ↦ absurd (not_made_asked x m told i)
  ]
    where
      not_made_asked : {es : List Tell} {qs : List Ask} {v : Rows Row} {s : Rows Born} (x : Known)
          → MeetInMiddle test es qs v s → In (Made x) es → In (Destroy x) qs → ⊥
      not_made_asked x m told i = let p = made_open x m.reads told in let q = (plain.asked_ending x m.tied i).ending
          in cc (p, q)

  -- ---- the objects that events on the way make first

  -- the first event that is about a free id of the server's range makes an object there
  pub first_makes : (before after : List Tell) (t : Tell) (i : ℕ) {v w : Rows Row}
      → ReadsInFlight test (before ++ (t ∷ after)) v w → is_of_server i ≡ true → v.rows i ≡ None
      → Each (λ u. tell_id u ≢ i) before → tell_id t ≡ i → IsMaking t
  first_makes [] after t i (name {v = v} {x = n} a r) l h f e = absurd (held_some v n i a h e)
  first_makes [] after t i (made b g r) l h f e = tt
  first_makes [] after t i (end {v = v} {x = n} b k a r) l h f e = absurd (held_some v n i a h e)
  first_makes [] after t i (delete {v = v} {x = n} z k a b r) l h f e = absurd (held_some v n i a h e)
  first_makes (u ∷ us) after t i (name a r) l h f e = first_makes us after t i r l h f.1 e
  first_makes (u ∷ us) after t i (made {v = v} {x = n} b g r) l h f e =
      first_makes us after t i r l (put_row_other v.rows n.id _ i f.0 ∙ h) f.1 e
  first_makes (u ∷ us) after t i (end {v = v} {x = n} b k a r) l h f e =
      first_makes us after t i r l (put_row_other v.rows n.id _ i f.0 ∙ h) f.1 e
  first_makes (u ∷ us) after t i (delete {v = v} {x = n} z k a b r) l h f e =
      first_makes us after t i r l (put_row_other v.rows n.id None i f.0 ∙ h) f.1 e

  -- if no event makes an object, nothing that comes is about a free id, and that id stays free
  pub untold : {es : List Tell} {v w : Rows Row} (i : ℕ) → ReadsInFlight test es v w
      → ((x : Known) → In (Made x) es → ⊥) → v.rows i ≡ None → Each (λ t. tell_id t ≢ i) es × (w.rows i ≡ None)
  untold i done f h = (tt, h)
  untold i (name {v = v} {x = n} a r) f h =
      let k = untold i r (λ x j. f x (inr j)) h in ((held_some v n i a h, k.0), k.1)
  untold i (made {x = n} b g r) f h = absurd (f n (inl refl))
  untold i (end {v = v} {x = n} b l a r) f h =
      let ne = held_some v n i a h in
      let k = untold i r (λ x j. f x (inr j)) (put_row_other v.rows n.id _ i ne ∙ h) in ((ne, k.0), k.1)
  untold i (delete {v = v} {x = n} z l a b r) f h =
      let ne = held_some v n i a h in
      let k = untold i r (λ x j. f x (inr j)) (put_row_other v.rows n.id None i ne ∙ h) in ((ne, k.0), k.1)

  -- If an event names an object, then an earlier event makes it, and none in between makes another
  -- at its id; or the client holds it, and no earlier event makes an object at its id.
  pub named_latest : (before after : List Tell) (x : Known) {v w : Rows Row}
      → ReadsInFlight test (before ++ (Name x ∷ after)) v w → IsLatest v x (mades before)
  named_latest [] after x (name a r) = not_made tt a
  named_latest (t ∷ ts) after x (name a r) = named_latest ts after x r
  named_latest (t ∷ ts) after x (made {v = v} {x = n} b g r) = by_later (named_latest ts after x r)
    where
      by_later : IsLatest (with_told v n.id (Open n.born)) x (mades ts) → IsLatest v x (n ∷ mades ts)
      by_later (made_last front back e f) = made_last (n ∷ front) back (λ i. n ∷ e i) f
      by_later (not_made f h) = elim (put_row_tells v.rows n.id (Some (Open n.born)) x.id) [
        | inl p ↦ (let e : x.born ≡ n.born = elim h [ inl q ↦ cc (p.1, q) | inr q ↦ absurd (cc (p.1, q)) ] in
            made_last [] (mades ts) (λ i. known_is n x (sym p.0) (sym e) i ∷ mades ts) f)
        | inr p ↦ not_made ((λ q. p.0 (sym q)), f)
            (elim h [ inl q ↦ inl (sym p.1 ∙ q) | inr q ↦ inr (sym p.1 ∙ q) ])
      ]
  named_latest (t ∷ ts) after x (end {v = v} {x = n} b l a r) = by_later (named_latest ts after x r)
    where
      by_later : IsLatest (at v n.id (Some (Ending n.born))) x (mades ts) → IsLatest v x (mades ts)
      by_later (made_last front back e f) = made_last front back e f
      by_later (not_made f h) = not_made f (plain.kept_end v x n a h)
  named_latest (t ∷ ts) after x (delete {v = v} {x = n} z l a b r) = by_later (named_latest ts after x r)
    where
      by_later : IsLatest (at v n.id None) x (mades ts) → IsLatest v x (mades ts)
      by_later (made_last front back e f) = made_last front back e f
      by_later (not_made f h) = not_made f (plain.kept_delete v x n.id h)

  -- events make the server's births in order, from the client's count on
  pub told_in_order : {es : List Tell} {v w : Rows Row} → ReadsInFlight test es v w
      → IsInOrder Server v.by_server.births w.by_server.births (map birth_known (mades es))
  told_in_order {v = v} done = (0, (omega arith, refl))
  told_in_order (name a r) = told_in_order r
  told_in_order (made {x = n} b g r) =
      let k = told_in_order r in let e = k.1.0 in
      (suc k.0, (omega (arith, e), λ i. g.birth i ∷ k.1.1 i))
  told_in_order (end b l a r) = told_in_order r
  told_in_order (delete z l a b r) = told_in_order r

  -- requests make the client's births in order, from the server's count on
  pub asked_in_order : {qs : List Ask} {s : Rows Born} {m : Rows Row} → Tied test qs s m
      → IsInOrder Client s.births m.births (map birth_known (makes qs))
  asked_in_order (drained same rows u b c) = (0, (omega (arith, b), refl))
  asked_in_order (use_ a b t) = asked_in_order t
  asked_in_order (make {x = n} a t) =
      let k = asked_in_order t in let e = k.1.0 in
      (suc k.0, (omega (arith, e), λ i. a.birth i ∷ k.1.1 i))
  asked_in_order (destroy z l a b c t) = asked_in_order t
  asked_in_order (give_back l a b c t) = asked_in_order t

  -- ---- what was counted in the server's range

  -- each birth and id that the client will have counted was counted there, or an event on the way
  -- makes it
  pub births_told : {es : List Tell} {v w : Rows Row} (b : Birth) → ReadsInFlight test es v w → b.maker ≡ Server
      → b.number < w.by_server.births
      → (b.number < v.by_server.births) ⊎ ((x : Known) × (In (Made x) es × (x.born.birth ≡ b)))
  births_told b done c h = inl h
  births_told b (name a r) c h = elim (births_told b r c h) [ inl p ↦ inl p | inr p ↦ inr (p.0, (inr p.1.0, p.1.1)) ]
  births_told b (made {v = v} {x = n} f g r) c h = elim (births_told b r c h) [
    | inl p ↦ elim (less_or b.number v.by_server.births p) [
      | inl q ↦ inl q
      | inr q ↦ inr (n, (inl refl, g.birth ∙ (λ i. record { maker = sym c i; number = sym q i })))
    ]
    | inr p ↦ inr (p.0, (inr p.1.0, p.1.1))
  ]
    where
      less_or : (a n : ℕ) → a < n + 1 → (a < n) ⊎ (a ≡ n)
      less_or a n l = grind (arith, l)
  births_told b (end f l a r) c h = elim (births_told b r c h) [ inl p ↦ inl p | inr p ↦ inr (p.0, (inr p.1.0, p.1.1)) ]
  births_told b (delete z l a f r) c h =
      elim (births_told b r c h) [ inl p ↦ inl p | inr p ↦ inr (p.0, (inr p.1.0, p.1.1)) ]

  pub ids_told : {es : List Tell} {v w : Rows Row} (id : ℕ) → ReadsInFlight test es v w → id < w.by_server.next
      → (id < v.by_server.next) ⊎ ((x : Known) × (In (Made x) es × (x.id ≡ id)))
  ids_told id done h = inl h
  ids_told id (name a r) h = elim (ids_told id r h) [ inl p ↦ inl p | inr p ↦ inr (p.0, (inr p.1.0, p.1.1)) ]
  ids_told id (made {v = v} {x = n} f g r) h = elim (ids_told id r h) [
    | inl p ↦ elim (most_or id v.by_server.next n.id p g.next) [ inl q ↦ inl q | inr q ↦ inr (n, (inl refl, sym q)) ]
    | inr p ↦ inr (p.0, (inr p.1.0, p.1.1))
  ]
    where
      most_or : (a n i : ℕ) → a < most n (i + 1) → i ≤ n → (a < n) ⊎ (a ≡ i)
      most_or a n i l k = grind (arith, nat_tests, l, k)
  ids_told id (end f l a r) h = elim (ids_told id r h) [ inl p ↦ inl p | inr p ↦ inr (p.0, (inr p.1.0, p.1.1)) ]
  ids_told id (delete z l a f r) h = elim (ids_told id r h) [ inl p ↦ inl p | inr p ↦ inr (p.0, (inr p.1.0, p.1.1)) ]

  -- the counts never fall
  pub counts_rise : {es : List Tell} {v w : Rows Row} → ReadsInFlight test es v w
      → (v.by_server.births ≤ w.by_server.births) × (v.by_server.next ≤ w.by_server.next)
  counts_rise done = (omega arith, omega arith)
  counts_rise (name a r) = counts_rise r
  counts_rise (made {v = v} {x = n} f g r) =
      let k = counts_rise r in let b = k.0 in (omega (arith, b), least v.by_server.next (n.id + 1) k.1)
    where
      least : (n i : ℕ) {u : ℕ} → most n i ≤ u → n ≤ u
      least n i {u} l = grind (arith, nat_tests, l)
  counts_rise (end f l a r) = counts_rise r
  counts_rise (delete z l a f r) = counts_rise r

  -- an object that an event on the way makes is counted once the events are read
  pub made_counted : {es : List Tell} {v w : Rows Row} (x : Known) → ReadsInFlight test es v w → In (Made x) es
      → (x.born.birth.number < w.by_server.births) × (x.id < w.by_server.next)
  made_counted x done i = absurd i
  made_counted x (name a r) i = elim i [ inl p ↦ absurd (cc p) | inr p ↦ made_counted x r p ]
  made_counted x (made {v = v} {x = n} f g r) i = elim i [
    | inl p ↦ (let e : x ≡ n = cc p in let d = ap (λ (k : Known). k.id) e in
        let b = ap (λ (k : Known). k.born.birth.number) e in let c = ap (λ (k : Birth). k.number) g.birth in
        let up = counts_rise r in let up0 = up.0 in
        (omega (arith, b, c, up0), last v.by_server.next n.id x.id up.1 d))
    | inr p ↦ made_counted x r p
  ]
    where
      last : (n i j : ℕ) {u : ℕ} → most n (i + 1) ≤ u → j ≡ i → j < u
      last n i j {u} l e = grind (arith, nat_tests, l, e)
  made_counted x (end f l a r) i = elim i [ inl p ↦ absurd (cc p) | inr p ↦ made_counted x r p ]
  made_counted x (delete z l a f r) i = elim i [ inl p ↦ absurd (cc p) | inr p ↦ made_counted x r p ]
