-- What is in flight, and how it changes when an end writes or reads one more action.
use Rattle.std.proofs.Common.{◌≡◌, ℕ, ◌+◌, Bool, true, false, List, [], ◌∷◌, ◌++◌, ◌⊎◌, inl, inr}
use Rattle.std.proofs.Common.{refl, sym, ◌∙◌, ap, subst, arith, ◌≢◌}
use Rattle.std.proofs.lemmas.Bool.Decides.{nat_tests}
use Rattle.std.specs.declared.option.Option.{Option}
use Rattle.std.specs.declared.option.Option.TheVariants.{None, Some}
use Rattle.wl_object_map.specs.Ranges.{is_of_server}
use Rattle.wl_object_map.specs.ObjectsLaws.{of_client}
use Rattle.theory_connection.specs.Meant.{client_birth, Born, Known}
use Rattle.theory_connection.specs.World.{Row, Open, Ending}
use Rattle.theory_connection.specs.Flight.{Rows, Counts, put_row, at, most, one_counted, with_made, with_told, Ask, Use}
use Rattle.theory_connection.specs.Flight.{Make, Destroy, Tell, only_open, IsHeldInRows, Fresh, NextTold}
use Rattle.theory_connection.specs.Flight.{ReadsInFlight, done, name, made, end, delete, Tied, drained, use_, make}
use Rattle.theory_connection.specs.Flight.{destroy, give_back}

module _ {X : Type 0} where
  -- the rows after a row was put
  pub put_row_tells : (f : ℕ → Option X) (i : ℕ) (o : Option X) (j : ℕ)
      → ((j ≡ i) × (put_row f i o j ≡ o)) ⊎ ((j ≢ i) × (put_row f i o j ≡ f j))
  unfolding put_row
  put_row_tells f i o j = grind (arith, nat_tests)

  -- the row that was put is there
  pub put_row_same : (f : ℕ → Option X) (i : ℕ) (o : Option X) → put_row f i o i ≡ o
  put_row_same f i o = grind (arith, put_row_tells)

  -- any other place keeps what it had
  pub put_row_other : (f : ℕ → Option X) (i : ℕ) (o : Option X) (j : ℕ) → i ≢ j → put_row f i o j ≡ f j
  put_row_other f i o j ne =
      elim (put_row_tells f i o j) [ inl p ↦ absurd (ne (sym p.0)) | inr p ↦ p.1 ]

  -- the order of two puts at different places does not matter
  pub put_row_swap : (f : ℕ → Option X) (i j : ℕ) (a b : Option X) → i ≢ j
      → put_row (put_row f i a) j b ≡ put_row (put_row f j b) i a
  put_row_swap f i j a b ne =
      let each : (q : ℕ) → put_row (put_row f i a) j b q ≡ put_row (put_row f j b) i a q =
      λ q. grind (arith, put_row_tells) in
      λ k q. each q k

  -- of two puts at a place the last one counts
  pub put_row_over : (f : ℕ → Option X) (i : ℕ) (a b : Option X) → put_row (put_row f i a) i b ≡ put_row f i b
  put_row_over f i a b =
      let each : (q : ℕ) → put_row (put_row f i a) i b q ≡ put_row f i b q = λ q. grind (arith, put_row_tells) in
      λ k q. each q k

-- ids of the two ranges differ
pub range_apart : (i j : ℕ) → is_of_server i ≡ false → is_of_server j ≡ true → i ≢ j
range_apart i j a b e = let k = ap is_of_server e in cc (a, b, k)

-- a fresh object has an id of the client's range
pub fresh_range : {X : Type 0} {r : Rows X} {x : Known} → Fresh r x → is_of_server x.id ≡ false
fresh_range {x = x} f = let low = f.low in of_client x.id (omega (arith, low))

-- an object that is held stays held when another id changes
pub held_other : (v : Rows Row) (n : Known) (i : ℕ) (o : Option Row) → IsHeldInRows v n → n.id ≢ i
    → IsHeldInRows (at v i o) n
held_other v n i o h ne = grind (arith, put_row_tells)

-- an object that is held has a row
pub held_some : (v : Rows Row) (n : Known) (i : ℕ) → IsHeldInRows v n → v.rows i ≡ None → n.id ≢ i
held_some v n i h e = grind arith

-- the next object of the server does not have the id of an open object
pub told_apart : (v : Rows Row) (n : Known) (i : ℕ) (e : Born) → NextTold v n → v.rows i ≡ Some (Open e)
    → n.id ≢ i
told_apart v n i e g h same = g.not_open e (ap v.rows same ∙ h)

-- the next object of the server stays the next when the row of another id changes
pub told_other : (v : Rows Row) (n : Known) (i : ℕ) (o : Option Row) → NextTold v n → i ≢ n.id
    → NextTold (at v i o) n
told_other v n i o g ne = record {
  range = g.range;
  not_open = λ b h. g.not_open b (sym (put_row_other v.rows i o n.id ne) ∙ h);
  next = g.next;
  birth = g.birth;
  low = g.low;
  left = g.left;
}

-- an object that is open at a client that has read everything is open at the server
pub open_at_server : (o : Option Row) (s : Option Born) (e : Born) → only_open o ≡ s → o ≡ Some (Open e) → s ≡ Some e
open_at_server o s e h k = sym h ∙ ap only_open k

none_at_server : (o : Option Row) (s : Option Born) → only_open o ≡ s → o ≡ None → s ≡ None
none_at_server o s h k = sym h ∙ ap only_open k

-- an object that the server has is open at a client that has read everything
pub open_of : (o : Option Row) (e : Born) → only_open o ≡ Some e → o ≡ Some (Open e)
open_of None e h = absurd (cc h)
open_of (Some (Open x)) e h = ap (λ (b : Born). Some (Open b)) (cc h)
open_of (Some (Ending x)) e h = absurd (cc h)

module _ {test : Born → Bool} where
  -- a live object of an interface without a destroying event is still live after the events
  pub live_after : {es : List Tell} {v w : Rows Row} (i : ℕ) (e : Born) → ReadsInFlight test es v w
      → v.rows i ≡ Some (Open e)
      → test e ≡ false → w.rows i ≡ Some (Open e)
  live_after i e done h f = h
  live_after i e (name a r) h f = live_after i e r h f
  live_after i e (made {v = v} {x = n} b g r) h f =
      live_after i e r (put_row_other v.rows n.id _ i (told_apart v n i e g h) ∙ h) f
  live_after i e (end {x = n} b l0 a r) h f = live_after i e r (grind (arith, put_row_tells)) f
  live_after i e (delete {x = n} z q a b r) h f = live_after i e r (grind (arith, put_row_tells)) f

  -- a free id of the client's range is still free after the events
  pub free_after : {es : List Tell} {v w : Rows Row} (i : ℕ) → ReadsInFlight test es v w → is_of_server i ≡ false
      → v.rows i ≡ None → w.rows i ≡ None
  free_after i done l h = h
  free_after i (name a r) l h = free_after i r l h
  free_after i (made {v = v} {x = n} b g r) l h =
      free_after i r l (put_row_other v.rows n.id _ i (λ e. range_apart i n.id l g.range (sym e)) ∙ h)
  free_after i (end b l0 a r) l h = free_after i r l (grind (arith, put_row_tells))
  free_after i (delete z q a b r) l h = free_after i r l (grind (arith, put_row_tells))

  -- no event changes the counts of the client's range
  pub counts_after : {es : List Tell} {v w : Rows Row} → ReadsInFlight test es v w
      → (w.used ≡ v.used) × (w.births ≡ v.births)
  counts_after done = (refl, refl)
  counts_after (name a r) = counts_after r
  counts_after (made b g r) = counts_after r
  counts_after (end b l0 a r) = counts_after r
  counts_after (delete z q a b r) = counts_after r

  -- equal rows are read in the same way
  pub reads_rows : {es : List Tell} {w : Rows Row} {f g : ℕ → Option Row} {u b : ℕ} {c : Counts} → f ≡ g
      → ReadsInFlight test es (record { rows = f; used = u; births = b; by_server = c }) w
      → ReadsInFlight test es (record { rows = g; used = u; births = b; by_server = c }) w
  reads_rows {es} {w} {f} {g} {u} {b} {c} e r = subst
      (λ (h : ℕ → Option Row). ReadsInFlight test es (record { rows = h; used = u; births = b; by_server = c }) w) e r

  -- the client makes an object while events are in flight
  pub make_before : {es : List Tell} {v w : Rows Row} (i : ℕ) (x : Row) → ReadsInFlight test es v w
      → is_of_server i ≡ false → v.rows i ≡ None
      → ReadsInFlight test es (with_made v i x) (with_made w i x)
  make_before i x done l h = done
  make_before i x (name {v = v} {x = n} a r) l h = name (held_other v n i (Some x) a (held_some v n i a h))
      (make_before i x r l h)
  make_before i x (made {v = v} {x = n} b g r) l h =
      let ne : i ≢ n.id = range_apart i n.id l g.range in
      made b (record {
        range = g.range;
        not_open = λ e k. g.not_open e (sym (put_row_other v.rows i (Some x) n.id ne) ∙ k);
        next = g.next;
        birth = g.birth;
        low = g.low;
        left = g.left;
      })
      (reads_rows (put_row_swap v.rows n.id i _ _ (λ e. ne (sym e)))
      (make_before i x r l (put_row_other v.rows n.id _ i (λ e. ne (sym e)) ∙ h)))
  make_before i x (end {v = v} {x = n} b l0 a r) l h =
      let ne = held_some v n i a h in
      end b l0 (held_other v n i (Some x) a ne) (reads_rows (put_row_swap _ _ _ _ _ ne)
      (make_before i x r l (grind (arith, put_row_tells))))
  make_before i x (delete {v = v} {x = n} z q a b r) l h =
      let ne = held_some v n i a h in
      delete z q (held_other v n i (Some x) a ne) (grind (arith, put_row_tells))
      (reads_rows (put_row_swap _ _ _ _ _ ne) (make_before i x r l (grind (arith, put_row_tells))))

  -- the client destroys an object while events are in flight
  pub destroy_before : {es : List Tell} {v w : Rows Row} (i : ℕ) (e : Born) → ReadsInFlight test es v w
      → v.rows i ≡ Some (Open e) → test e ≡ false
      → ReadsInFlight test es (at v i (Some (Ending e))) (at w i (Some (Ending e)))
  destroy_before i e done h f = done
  destroy_before i e (name {v = v} {x = n} a r) h f = name (grind (arith, put_row_tells)) (destroy_before i e r h f)
  destroy_before i e (made {v = v} {x = n} b g r) h f =
      let ne = told_apart v n i e g h in
      made b (told_other v n i _ g (λ k. ne (sym k)))
      (reads_rows (put_row_swap v.rows n.id i _ _ ne)
      (destroy_before i e r (put_row_other v.rows n.id _ i ne ∙ h) f))
  destroy_before i e (end {v = v} {x = n} b l0 a r) h f =
      let ne : n.id ≢ i = grind arith in
      end b l0 (held_other v n i _ a ne) (reads_rows (put_row_swap _ _ _ _ _ ne)
      (destroy_before i e r (grind (arith, put_row_tells)) f))
  destroy_before i e (delete {v = v} {x = n} z q a b r) h f =
      let ne : n.id ≢ i = grind arith in
      delete z q (held_other v n i _ a ne) (grind (arith, put_row_tells))
      (reads_rows (put_row_swap _ _ _ _ _ ne) (destroy_before i e r (grind (arith, put_row_tells)) f))

  -- more events follow these
  pub reads_more : {es fs : List Tell} {u v w : Rows Row} → ReadsInFlight test es u v → ReadsInFlight test fs v w
      → ReadsInFlight test (es ++ fs) u w
  reads_more done r = r
  reads_more (name a r) q = name a (reads_more r q)
  reads_more (made b g r) q = made b g (reads_more r q)
  reads_more (end b l0 a r) q = end b l0 a (reads_more r q)
  reads_more (delete z l a b r) q = delete z l a b (reads_more r q)

  tied_server : {qs : List Ask} {m : Rows Row} {f g : ℕ → Option Born} {u b : ℕ} {c : Counts} → f ≡ g
      → Tied test qs (record { rows = f; used = u; births = b; by_server = c }) m
      → Tied test qs (record { rows = g; used = u; births = b; by_server = c }) m
  tied_server {qs} {m} {f} {g} {u} {b} {c} e r = subst
      (λ (h : ℕ → Option Born). Tied test qs (record { rows = h; used = u; births = b; by_server = c }) m) e r

  pub tied_client : {qs : List Ask} {s : Rows Born} {f g : ℕ → Option Row} {u b : ℕ} {c : Counts} → f ≡ g
      → Tied test qs s (record { rows = f; used = u; births = b; by_server = c })
      → Tied test qs s (record { rows = g; used = u; births = b; by_server = c })
  tied_client {qs} {s} {f} {g} {u} {b} {c} e r = subst
      (λ (h : ℕ → Option Row). Tied test qs s (record { rows = h; used = u; births = b; by_server = c })) e r

  -- no request changes the counts of the server's range
  pub counts_tied : {qs : List Ask} {s : Rows Born} {m : Rows Row} → Tied test qs s m → m.by_server ≡ s.by_server
  counts_tied (drained same rows u b c) = c
  counts_tied (use_ a b t) = counts_tied t
  counts_tied (make a t) = counts_tied t
  counts_tied (destroy z l a b c t) = counts_tied t
  counts_tied (give_back l a b c t) = counts_tied t

  -- the client holds what the server has once it has read all events
  pub held_at_client : {qs : List Ask} {s : Rows Born} {m : Rows Row} (n : Known) → Tied test qs s m
      → s.rows n.id ≡ Some n.born → IsHeldInRows m n
  held_at_client n (drained {m = m} same rows u b c) h = inl (open_of (m.rows n.id) n.born (same n.id ∙ h))
  held_at_client n (use_ a b t) h = held_at_client n t h
  held_at_client n (make {x = n'} a t) h = held_at_client n t (grind (arith, put_row_tells, a.free))
  held_at_client n (destroy {s = s} {m = m} {x = n'} z l a b c t) h =
      elim (put_row_tells s.rows n'.id None n.id) [
        | inl p ↦ grind arith
        | inr p ↦ let g : IsHeldInRows (at m n'.id None) n = held_at_client n t (p.1 ∙ h)
            in grind (arith, put_row_tells)
      ]
  held_at_client n (give_back {s = s} {m = m} {x = n'} l a b c t) h =
      elim (put_row_tells s.rows n'.id None n.id) [
        | inl p ↦ grind arith
        | inr p ↦ held_at_client n t (p.1 ∙ h)
      ]

  -- an id of the server's range that the server has freed has no open object at the client
  pub freed_not_open : {qs : List Ask} {s : Rows Born} {m : Rows Row} (i : ℕ) (e : Born) → Tied test qs s m
      → is_of_server i ≡ true → s.rows i ≡ None → m.rows i ≢ Some (Open e)
  freed_not_open i e (drained {s = s} {m = m} same rows u b c) l h k =
      let q = open_at_server (m.rows i) (s.rows i) e (same i) k in cc (h, q)
  freed_not_open i e (use_ a b t) l h k = freed_not_open i e t l h k
  freed_not_open i e (make {s = s} {x = n} a t) l h k =
      freed_not_open i e t l (put_row_other s.rows n.id _ i (range_apart n.id i (fresh_range a) l) ∙ h) k
  freed_not_open i e (destroy {s = s} {m = m} {x = n} z r a b c t) l h k =
      let ne = range_apart n.id i r l in
      freed_not_open i e t l (put_row_other s.rows n.id None i ne ∙ h) (put_row_other m.rows n.id None i ne ∙ k)
  freed_not_open i e (give_back {s = s} {x = n} r a b c t) l h k =
      let ne : n.id ≢ i = λ q. (let d = sym a ∙ ap s.rows q ∙ h in cc d) in
      freed_not_open i e t l (put_row_other s.rows n.id None i ne ∙ h) k

  -- the server makes an object by an event
  pub tell_before : {qs : List Ask} {s : Rows Born} {m : Rows Row} (i : ℕ) (e : Born) → Tied test qs s m
      → is_of_server i ≡ true → s.rows i ≡ None → Tied test qs (with_told s i e) (with_told m i (Open e))
  tell_before i e (drained {s = s} {m = m} same rows u b c) l h =
      drained (λ q. grind (arith, put_row_tells, same q)) (λ q k. grind (arith, put_row_tells, rows q)) u b
      (ap (λ (n : Counts). one_counted n i) c)
  tell_before i e (use_ {s = s} {x = n} a b t) l h =
      let ne : i ≢ n.id = λ q. (let d = sym h ∙ ap s.rows q ∙ a in cc d) in
      use_ (put_row_other s.rows i (Some e) n.id ne ∙ a) b (tell_before i e t l h)
  tell_before i e (make {s = s} {x = n} a t) l h =
      let ne : n.id ≢ i = range_apart n.id i (fresh_range a) l in
      make (record {
        free = put_row_other s.rows i (Some e) n.id (λ q. ne (sym q)) ∙ a.free;
        some = a.some;
        next = a.next;
        birth = a.birth;
        low = a.low;
        left = a.left;
      })
      (tied_server (put_row_swap s.rows n.id i _ _ ne)
      (tell_before i e t l (put_row_other s.rows n.id _ i ne ∙ h)))
  tell_before i e (destroy {s = s} {m = m} {x = n} z r a b c t) l h =
      let ne : n.id ≢ i = range_apart n.id i r l in
      let en : i ≢ n.id = λ q. ne (sym q) in
      destroy z r (put_row_other s.rows i (Some e) n.id en ∙ a) b (put_row_other m.rows i _ n.id en ∙ c)
      (tied_client (put_row_swap m.rows n.id i _ _ ne) (tied_server (put_row_swap s.rows n.id i _ _ ne)
      (tell_before i e t l (put_row_other s.rows n.id None i ne ∙ h))))
  tell_before i e (give_back {s = s} {m = m} {x = n} r a b c t) l h =
      let ne : n.id ≢ i = λ q. (let d = sym a ∙ ap s.rows q ∙ h in cc d) in
      let en : i ≢ n.id = λ q. ne (sym q) in
      give_back r (put_row_other s.rows i (Some e) n.id en ∙ a) b (put_row_other m.rows i _ n.id en ∙ c)
      (tied_server (put_row_swap s.rows n.id i _ _ ne)
      (tell_before i e t l (put_row_other s.rows n.id None i ne ∙ h)))

  -- the server ends an object of the client by an event, or drops it
  pub end_before : {qs : List Ask} {s : Rows Born} {m : Rows Row} (i : ℕ) (e : Born) → Tied test qs s m
      → s.rows i ≡ Some e → test e ≡ true
      → Tied test qs (at s i None) (at m i None)
  end_before i e (drained {s = s} {m = m} same rows u b c) h f =
      drained (λ q. grind (arith, put_row_tells, same q)) (λ q k. grind (arith, put_row_tells, rows q)) u b c
  end_before i e (use_ {x = n} a b t) h f = use_ (grind (arith, put_row_tells)) b (end_before i e t h f)
  end_before i e (make {s = s} {x = n} a t) h f =
      let ne : n.id ≢ i = grind (arith, a.free) in
      make (record {
        free = grind (arith, put_row_tells, a.free);
        some = a.some;
        next = a.next;
        birth = a.birth;
        low = a.low;
        left = a.left;
      })
      (tied_server (put_row_swap _ _ _ _ _ ne) (end_before i e t (grind (arith, put_row_tells)) f))
  end_before i e (destroy {x = n} z l a b c t) h f =
      let ne : n.id ≢ i = grind arith in
      destroy z l (grind (arith, put_row_tells)) b (grind (arith, put_row_tells))
      (tied_client (put_row_swap _ _ _ _ _ ne) (tied_server (put_row_swap _ _ _ _ _ ne)
      (end_before i e t (grind (arith, put_row_tells)) f)))
  end_before i e (give_back {x = n} l a b c t) h f =
      let ne : n.id ≢ i = grind arith in
      give_back l (grind (arith, put_row_tells)) b (grind (arith, put_row_tells))
      (tied_server (put_row_swap _ _ _ _ _ ne) (end_before i e t (grind (arith, put_row_tells)) f))

  -- the client writes one more action
  pub use_more : {qs : List Ask} {s : Rows Born} {m : Rows Row} (n : Known) → Tied test qs s m
      → m.rows n.id ≡ Some (Open n.born) → test n.born ≡ false
      → Tied test (qs ++ Use n ∷ []) s m
  use_more n (drained {s = s} {m = m} same rows u b c) h f =
      use_ (open_at_server (m.rows n.id) (s.rows n.id) n.born (same n.id) h) f (drained same rows u b c)
  use_more n (use_ a b t) h f = use_ a b (use_more n t h f)
  use_more n (make a t) h f = make a (use_more n t h f)
  use_more n (destroy z l a b c t) h f = destroy z l a b c (use_more n t (grind (arith, put_row_tells)) f)
  use_more n (give_back l a b c t) h f = give_back l a b c (use_more n t h f)

  -- requests still tie if one more makes an object
  pub make_more : {qs : List Ask} {s : Rows Born} {m : Rows Row} (n : Known) → Tied test qs s m → Fresh m n
      → Tied test (qs ++ Make n ∷ []) s (with_made m n.id (Open n.born))
  make_more n (drained {s = s} {m = m} same rows u b c) g =
      make (record {
        free = none_at_server (m.rows n.id) (s.rows n.id) (same n.id) g.free;
        some = g.some;
        next = grind (arith, g.next);
        birth = g.birth ∙ ap client_birth b;
        low = g.low;
        left = grind (arith, g.left);
      })
      (drained (λ q. grind (arith, put_row_tells, same q)) (λ q k. grind (arith, put_row_tells, rows q))
      (ap (λ k. most k n.id) u) (ap (λ k. k + 1) b) c)
  make_more n (use_ a b t) g = use_ a b (make_more n t g)
  make_more n (make a t) g = make a (make_more n t g)
  make_more n (destroy {m = m} {x = n'} z l a b c t) g =
      let ne : n'.id ≢ n.id = grind (arith, g.free) in
      destroy z l a b (grind (arith, put_row_tells)) (tied_client (put_row_swap _ _ _ _ _ ne)
      (make_more n t (record {
        free = grind (arith, put_row_tells, g.free);
        some = g.some;
        next = g.next;
        birth = g.birth;
        low = g.low;
        left = g.left;
      })))
  make_more n (give_back {m = m} {x = n'} l a b c t) g =
      let ne : n.id ≢ n'.id = range_apart n.id n'.id (fresh_range g) l in
      give_back l a b (put_row_other m.rows n.id _ n'.id ne ∙ c) (make_more n t g)

  -- requests still tie if one more destroys an object of the client
  pub destroy_more : {qs : List Ask} {s : Rows Born} {m : Rows Row} (n : Known) → Tied test qs s m
      → m.rows n.id ≡ Some (Open n.born) → test n.born ≡ false → n.id ≢ 1 → is_of_server n.id ≡ false
      → Tied test (qs ++ Destroy n ∷ []) s (at m n.id (Some (Ending n.born)))
  destroy_more n (drained {s = s} {m = m} same rows u b c) h f y l =
      destroy y l (open_at_server (m.rows n.id) (s.rows n.id) n.born (same n.id) h) f (put_row_same _ _ _)
      (drained (λ q. grind (arith, put_row_tells, same q)) (λ q k. grind (arith, put_row_tells, rows q)) u b c)
  destroy_more n (use_ a b t) h f y l = use_ a b (destroy_more n t h f y l)
  destroy_more n (make a t) h f y l = make a (destroy_more n t h f y l)
  destroy_more n (destroy {m = m} {x = n'} z r a b c t) h f y l =
      let ne : n'.id ≢ n.id = grind arith in
      destroy z r a b (grind (arith, put_row_tells)) (tied_client (put_row_swap _ _ _ _ _ ne)
      (destroy_more n t (grind (arith, put_row_tells)) f y l))
  destroy_more n (give_back {m = m} {x = n'} r a b c t) h f y l =
      let ne : n.id ≢ n'.id = range_apart n.id n'.id l r in
      give_back r a b (put_row_other m.rows n.id _ n'.id ne ∙ c) (destroy_more n t h f y l)

  -- requests still tie if one more destroys an object of the server
  pub give_more : {qs : List Ask} {s : Rows Born} {m : Rows Row} (n : Known) → Tied test qs s m
      → m.rows n.id ≡ Some (Open n.born) → test n.born ≡ false → is_of_server n.id ≡ true
      → Tied test (qs ++ Destroy n ∷ []) s (at m n.id (Some (Ending n.born)))
  give_more n (drained {s = s} {m = m} same rows u b c) h f l =
      give_back l (open_at_server (m.rows n.id) (s.rows n.id) n.born (same n.id) h) f (put_row_same _ _ _)
      (drained (λ q. grind (arith, put_row_tells, same q)) (λ q k. grind (arith, put_row_tells, rows q)) u b c)
  give_more n (use_ a b t) h f l = use_ a b (give_more n t h f l)
  give_more n (make a t) h f l = make a (give_more n t h f l)
  give_more n (destroy {m = m} {x = n'} z r a b c t) h f l =
      let ne : n'.id ≢ n.id = range_apart n'.id n.id r l in
      destroy z r a b (put_row_other m.rows n.id _ n'.id (λ q. ne (sym q)) ∙ c)
      (tied_client (put_row_swap m.rows n'.id n.id _ _ ne)
      (give_more n t (put_row_other m.rows n'.id None n.id ne ∙ h) f l))
  give_more n (give_back {m = m} {x = n'} r a b c t) h f l =
      let ne : n.id ≢ n'.id = λ q. (let d = sym h ∙ ap m.rows q ∙ c in cc d) in
      give_back r a b (put_row_other m.rows n.id _ n'.id ne ∙ c) (give_more n t h f l)
