-- What one more action does, while requests are not yet recorded and events not yet read.
use Rattle.std.proofs.Common.{◌≡◌, ℕ, Bool, false, List, [], ◌∷◌, ◌++◌, ◌⊎◌, inl, inr, refl}
use Rattle.std.proofs.Common.{sym, ◌∙◌, ap, subst, arith, ◌≢◌, ◌+◌}
use Rattle.std.specs.declared.option.Option.{Option}
use Rattle.std.specs.declared.option.Option.TheVariants.{None, Some}
use Rattle.std.proofs.Common.{true, cond, ◌<◌, ◌≤◌}
use Rattle.wl_object_map.specs.Objects.{maker_of}
use Rattle.wl_object_map.specs.declared.object.Maker.{Maker}
use Rattle.wl_object_map.specs.declared.object.Maker.TheVariants.{Client, Server}
use Rattle.wl_object_map.specs.Ranges.{is_of_server}
use Rattle.wl_object_map.specs.View.{max_births}
use Rattle.theory_connection.specs.Meant.{Birth, IsAmongFirst, client_birth, server_birth, Born, Known}
use Rattle.theory_connection.specs.World.{Row, Open, Ending, Each}
use Rattle.theory_connection.specs.Flight.{Rows, Counts, births_in, put_row, at, with_made, with_told, Ask, Use, Make}
use Rattle.theory_connection.specs.Flight.{Destroy, asked_about, Tell, IsHeldInRows, Fresh, NextTold, ReadsInFlight}
use Rattle.theory_connection.specs.Flight.{done as all_read, name, made, end, delete, Tied, drained, use_ as tied_use}
use Rattle.theory_connection.specs.Flight.{make as tied_make, destroy as tied_destroy, give_back}
use Rattle.theory_connection.specs.Stands.{birth_in}
use Rattle.theory_connection.specs.Plain.{ask_id}
use Rattle.theory_connection.proofs.Flight.{put_row_tells, put_row_same, put_row_other, put_row_swap, range_apart}
use Rattle.theory_connection.proofs.Flight.{fresh_range, held_at_client}
use Rattle.theory_connection.proofs.WholeInFlight.{each_by, each_rest}
use Rattle.theory_recording.specs.Leads.{Leads, done, use_, make, destroy}

-- events in two parts
pub record Parted (test : Born → Bool) (es fs : List Tell) (v w : Rows Row) : Type 0 where
  pub between : Rows Row
  pub first : ReadsInFlight test es v between
  pub then : ReadsInFlight test fs between w

-- the id has a row, and the number of its birth is at least b
abbrev pub HasFrom : Rows Row → ℕ → ℕ → Type 0
HasFrom v i b = (r : Row) × ((v.rows i ≡ Some r) × (b ≤ (birth_in r).number))

-- if two properties hold for each element, both together hold for each
each_both : {X : Type 0} (P Q : X → Type 0) (xs : List X) → Each P xs → Each Q xs → Each (λ x. P x × Q x) xs
each_both P Q [] p q = tt
each_both P Q (x ∷ xs) p q = ((p.0, q.0), each_both P Q xs p.1 q.1)

module _ {test : Born → Bool} where
  leads_rows : {qs : List Ask} {w : Rows Row} {f g : ℕ → Option Row} {u b : ℕ} {c : Counts} → f ≡ g
      → Leads test qs (record { rows = f; used = u; births = b; by_server = c }) w
      → Leads test qs (record { rows = g; used = u; births = b; by_server = c }) w
  leads_rows {qs} {w} {f} {g} {u} {b} {c} e r = subst
      (λ (h : ℕ → Option Row). Leads test qs (record { rows = h; used = u; births = b; by_server = c }) w) e r

  -- ---- an event is recorded

  -- an object that is held after the requests is held at the recording point, if the message that
  -- makes it was recorded; that is always so for an object of the server, since requests make none
  pub held_here : {qs : List Ask} {v w : Rows Row} (x : Known) → Leads test qs v w → IsHeldInRows w x
      → (is_of_server x.id ≡ false → x.born.birth.number < v.births)
      → IsHeldInRows v x
  held_here x done h l = h
  held_here x (use_ a b r) h l = held_here x r h l
  held_here x (make {v = v} {x = n} a r) h l =
      let k = held_here x r h (λ q. (let m = l q in omega (arith, m))) in
      elim (put_row_tells v.rows n.id (Some (Open n.born)) x.id) [
        | inl p ↦ absurd (made_later v x n k p.1 a.birth (l (ap is_of_server p.0 ∙ fresh_range a)))
        | inr p ↦ grind (arith)
      ]
    where
      made_later : {o : Option Row} (v : Rows Row) (x n : Known)
          → (o ≡ Some (Open x.born)) ⊎ (o ≡ Some (Ending x.born))
          → o ≡ Some (Open n.born) → n.born.birth ≡ client_birth v.births → x.born.birth.number < v.births → ⊥
      made_later v x n (inl e) p b l = let q : Some (Open x.born) ≡ Some (Open n.born) = sym e ∙ p
          in let s : x.born ≡ n.born = cc q in
          let k = ap (λ (y : Born). y.birth.number) s in let m = ap (λ (c : Birth). c.number) b in
          absurd (omega (arith, l, k, m))
      made_later v x n (inr e) p b l = let q : Some (Ending x.born) ≡ Some (Open n.born) = sym e ∙ p in absurd (cc q)
  held_here x (destroy {v = v} {x = n} z a b r) h l =
      let k = held_here x r h l in
      elim (put_row_tells v.rows n.id (Some (Ending n.born)) x.id) [
        | inl p ↦ grind (arith)
        | inr p ↦ grind (arith)
      ]

  -- ending or deleting an object that no request is about
  pub put_elsewhere : {qs : List Ask} {v w : Rows Row} (i : ℕ) (o : Option Row) → Leads test qs v w
      → Each (λ a. ask_id a ≢ i) qs → Leads test qs (at v i o) (at w i o)
  put_elsewhere i o done e = done
  put_elsewhere i o (use_ {x = n} a b r) e = use_ (grind (arith, put_row_tells)) b (put_elsewhere i o r e.1)
  put_elsewhere i o (make {v = v} {x = n} a r) e =
      make (record {
        free = grind (arith, put_row_tells, a.free);
        some = a.some;
        next = a.next;
        birth = a.birth;
        low = a.low;
        left = a.left;
      })
      (leads_rows (put_row_swap _ _ _ _ _ e.0) (put_elsewhere i o r e.1))
  put_elsewhere i o (destroy {x = n} z a b r) e =
      destroy z (grind (arith, put_row_tells)) b (leads_rows (put_row_swap _ _ _ _ _ e.0) (put_elsewhere i o r e.1))

  -- ---- an event that makes an object is recorded

  -- requests make objects of the client, at ids of its range
  pub leads_by : {qs : List Ask} {v w : Rows Row} → Leads test qs v w
      → ((id : ℕ) (r : Row) → v.rows id ≡ Some r → (birth_in r).maker ≡ maker_of id)
      → (id : ℕ) (r : Row) → w.rows id ≡ Some r → (birth_in r).maker ≡ maker_of id
  leads_by done by = by
  leads_by (use_ a b r) by = leads_by r by
  leads_by (make {v = v} {x = n} a r) by = leads_by r (λ id q e. elim (put_row_tells v.rows n.id (Some (Open n.born)) id) [
    | inl p ↦ (let k : Open n.born ≡ q = cc (p.1, e) in
        ap (λ (y : Row). (birth_in y).maker) (sym k) ∙ ap (λ (c : Birth). c.maker) a.birth
        ∙ sym (ap (λ (b : Bool). cond b Server Client) (ap is_of_server p.0 ∙ fresh_range a)))
    | inr p ↦ by id q (sym p.1 ∙ e)
  ])
  leads_by (destroy {v = v} {x = n} z a b r) by =
      leads_by r (λ id q e. elim (put_row_tells v.rows n.id (Some (Ending n.born)) id) [
        | inl p ↦ (let k : Ending n.born ≡ q = cc (p.1, e) in
            ap (λ (y : Row). (birth_in y).maker) (sym k) ∙ by n.id (Open n.born) a ∙ ap maker_of (sym p.0))
        | inr p ↦ by id q (sym p.1 ∙ e)
      ])

  -- requests change no count of the server's range
  pub leads_counts : {qs : List Ask} {v w : Rows Row} → Leads test qs v w → w.by_server ≡ v.by_server
  leads_counts done = refl
  leads_counts (use_ a b r) = leads_counts r
  leads_counts (make a r) = leads_counts r
  leads_counts (destroy z a b r) = leads_counts r

  -- an open object stays open if no request is about its id
  pub open_leads : {qs : List Ask} {v w : Rows Row} (i : ℕ) (e : Born) → Leads test qs v w
      → Each (λ a. ask_id a ≢ i) qs → v.rows i ≡ Some (Open e) → w.rows i ≡ Some (Open e)
  open_leads i e done u h = h
  open_leads i e (use_ a b r) u h = open_leads i e r u.1 h
  open_leads i e (make {v = v} {x = n} a r) u h = open_leads i e r u.1 (put_row_other v.rows n.id _ i u.0 ∙ h)
  open_leads i e (destroy {v = v} {x = n} z a b r) u h = open_leads i e r u.1 (put_row_other v.rows n.id _ i u.0 ∙ h)

  -- an event makes an object at an id that no request is about
  pub tell_elsewhere : {qs : List Ask} {v w : Rows Row} (i : ℕ) (x : Row) → Leads test qs v w
      → Each (λ a. ask_id a ≢ i) qs → Leads test qs (with_told v i x) (with_told w i x)
  tell_elsewhere i x done e = done
  tell_elsewhere i x (use_ {v = v} {x = n} a b r) e =
      use_ (put_row_other v.rows i (Some x) n.id (λ q. e.0 (sym q)) ∙ a) b (tell_elsewhere i x r e.1)
  tell_elsewhere i x (make {v = v} {x = n} a r) e =
      make (record {
        free = put_row_other v.rows i (Some x) n.id (λ q. e.0 (sym q)) ∙ a.free;
        some = a.some;
        next = a.next;
        birth = a.birth;
        low = a.low;
        left = a.left;
      })
      (leads_rows (put_row_swap _ _ _ _ _ e.0) (tell_elsewhere i x r e.1))
  tell_elsewhere i x (destroy {v = v} {x = n} z a b r) e =
      destroy z (put_row_other v.rows i (Some x) n.id (λ q. e.0 (sym q)) ∙ a) b
      (leads_rows (put_row_swap _ _ _ _ _ e.0) (tell_elsewhere i x r e.1))

  -- The server's next object, after the requests, is also its next before them, if none of them is
  -- about its id.
  pub told_here : {qs : List Ask} {v w : Rows Row} (n : Known) → Leads test qs v w → Each (λ a. ask_id a ≢ n.id) qs
      → NextTold w n → NextTold v n
  told_here {v = v} {w = w} n l u g =
      let c = leads_counts l in
      record {
        range = g.range;
        not_open = λ b h. g.not_open b (open_leads n.id b l u h);
        next = subst (λ (k : Counts). n.id ≤ k.next) c g.next;
        birth = g.birth ∙ ap (λ (k : Counts). server_birth k.births) c;
        low = g.low;
        left = subst (λ (k : Counts). k.births < max_births) c g.left;
      }

  -- ---- no request that is not yet recorded is about an id that an event makes again

  pub rising : {es : List Tell} {v w : Rows Row} (i b : ℕ) → ReadsInFlight test es v w → is_of_server i ≡ true
      → b ≤ v.by_server.births → HasFrom v i b → HasFrom w i b
  rising i b all_read l c h = h
  rising i b (name a r) l c h = rising i b r l c h
  rising i b (made {v = v} {x = n} f g r) l c h =
      let k : b ≤ v.by_server.births + 1 = omega (arith, c) in
      rising i b r l k (elim (put_row_tells v.rows n.id (Some (Open n.born)) i) [
        | inl p ↦ (Open n.born, (p.1, let q = ap (λ (x : Birth). x.number) g.birth in omega (arith, q, c)))
        | inr p ↦ (h.0, (p.1 ∙ h.1.0, h.1.1))
      ])
  rising i b (end {v = v} {x = n} t q a r) l c h = rising i b r l c
      (h.0, (put_row_other v.rows n.id _ i (range_apart n.id i q l) ∙ h.1.0, h.1.1))
  rising i b (delete {v = v} {x = n} z q a t r) l c h = rising i b r l c
      (h.0, (put_row_other v.rows n.id None i (range_apart n.id i q l) ∙ h.1.0, h.1.1))

  -- the server now has the objects in its range that requests are about
  pub asked_there : {qs : List Ask} {s : Rows Born} {m : Rows Row} → Tied test qs s m
      → Each (λ a. is_of_server (ask_id a) ≡ true → s.rows (ask_id a) ≡ Some (asked_about a).born) qs
  asked_there (drained same rows u b c) = tt
  asked_there (tied_use h f t) = (λ l. h, asked_there t)
  asked_there {s = s} (tied_make {qs = qs} {x = n} f t) = (
    λ l. absurd (let k = fresh_range f in cc (k, l)),
    each_by (λ a. is_of_server (ask_id a) ≡ true
        → put_row s.rows n.id (Some n.born) (ask_id a) ≡ Some (asked_about a).born)
        (λ a. is_of_server (ask_id a) ≡ true → s.rows (ask_id a) ≡ Some (asked_about a).born)
        (λ a k l. sym (put_row_other s.rows n.id _ (ask_id a) (range_apart n.id (ask_id a) (fresh_range f) l)) ∙ k l)
        qs (asked_there t),
  )
  asked_there {s = s} (tied_destroy {qs = qs} {x = n} z q a b c t) = (
    λ l. a,
    each_by (λ a. is_of_server (ask_id a) ≡ true → put_row s.rows n.id None (ask_id a) ≡ Some (asked_about a).born)
        (λ a. is_of_server (ask_id a) ≡ true → s.rows (ask_id a) ≡ Some (asked_about a).born)
        (λ a k l. sym (put_row_other s.rows n.id None (ask_id a) (range_apart n.id (ask_id a) q l)) ∙ k l)
        qs (asked_there t),
  )
  asked_there {s = s} (give_back {qs = qs} {x = n} q a b c t) = (
    λ l. a,
    each_by (λ a. is_of_server (ask_id a) ≡ true → put_row s.rows n.id None (ask_id a) ≡ Some (asked_about a).born)
        (λ a. is_of_server (ask_id a) ≡ true → s.rows (ask_id a) ≡ Some (asked_about a).born)
        (λ d k l. elim (put_row_tells s.rows n.id None (ask_id d)) [
          | inl p ↦ absurd (let e = sym p.1 ∙ k l in cc e)
          | inr p ↦ sym p.1 ∙ k l
        ])
        qs (asked_there t),
  )

  -- these objects are open before the requests
  pub asked_here : {qs : List Ask} {v w : Rows Row} → Leads test qs v w
      → Each (λ a. is_of_server (ask_id a) ≡ true → v.rows (ask_id a) ≡ Some (Open (asked_about a).born)) qs
  asked_here done = tt
  asked_here (use_ a b r) = (λ l. a, asked_here r)
  asked_here {v = v} (make {qs = qs} {x = n} f r) = (
    λ l. absurd (let k = fresh_range f in cc (k, l)),
    each_by (λ a. is_of_server (ask_id a) ≡ true
        → put_row v.rows n.id (Some (Open n.born)) (ask_id a) ≡ Some (Open (asked_about a).born))
        (λ a. is_of_server (ask_id a) ≡ true → v.rows (ask_id a) ≡ Some (Open (asked_about a).born))
        (λ a k l. sym (put_row_other v.rows n.id _ (ask_id a) (range_apart n.id (ask_id a) (fresh_range f) l)) ∙ k l)
        qs (asked_here r),
  )
  asked_here {v = v} (destroy {qs = qs} {x = n} z a b r) = (
    λ l. a,
    each_by (λ a. is_of_server (ask_id a) ≡ true
        → put_row v.rows n.id (Some (Ending n.born)) (ask_id a) ≡ Some (Open (asked_about a).born))
        (λ a. is_of_server (ask_id a) ≡ true → v.rows (ask_id a) ≡ Some (Open (asked_about a).born))
        (λ d k l. elim (put_row_tells v.rows n.id (Some (Ending n.born)) (ask_id d)) [
          | inl p ↦ absurd (let e = sym p.1 ∙ k l in cc e)
          | inr p ↦ sym p.1 ∙ k l
        ])
        qs (asked_here r),
  )

  -- No request that is not yet recorded is about the id of an object that the next recorded event
  -- makes, since the objects of requests were made before.
  pub unasked : (qs rs : List Ask) {fs : List Tell} {here common middle : Rows Row} {s : Rows Born} (n : Known)
      → Leads test rs here common → Tied test (qs ++ rs) s middle
      → NextTold common n → ReadsInFlight test fs (with_told common n.id (Open n.born)) middle
      → ((id : ℕ) (r : Row) → here.rows id ≡ Some r → IsAmongFirst (births_in here) (birth_in r))
      → ((id : ℕ) (x : Born) → is_of_server id ≡ true → s.rows id ≡ Some x → x.birth.maker ≡ Server)
      → Each (λ a. ask_id a ≢ n.id) rs
  unasked qs rs {fs} {here} {common} {middle} {s} n l t g r below by =
      let number : n.born.birth.number ≡ common.by_server.births = ap (λ (x : Birth). x.number) g.birth in
      let same = ap (λ (k : Counts). k.births) (leads_counts l) in
      let last : HasFrom middle n.id n.born.birth.number =
      rising n.id n.born.birth.number r g.range (omega (arith, number))
      (Open n.born, (put_row_same common.rows n.id _, omega arith)) in
      let there = each_rest (λ a. is_of_server (ask_id a) ≡ true → s.rows (ask_id a) ≡ Some (asked_about a).born) qs rs
      (asked_there t) in
      let both = each_both (λ a. is_of_server (ask_id a) ≡ true → s.rows (ask_id a) ≡ Some (asked_about a).born)
      (λ a. is_of_server (ask_id a) ≡ true → here.rows (ask_id a) ≡ Some (Open (asked_about a).born)) rs there (asked_here l) in
      each_by (λ a. (is_of_server (ask_id a) ≡ true → s.rows (ask_id a) ≡ Some (asked_about a).born)
      × (is_of_server (ask_id a) ≡ true → here.rows (ask_id a) ≡ Some (Open (asked_about a).born)))
      (λ a. ask_id a ≢ n.id) (λ a k. not_about a k.0 k.1 last number same) rs both
    where
      id_of : (a : Ask) → (asked_about a).id ≡ ask_id a
      id_of (Use x) = refl
      id_of (Make x) = refl
      id_of (Destroy x) = refl

      not_about : (a : Ask) → (is_of_server (ask_id a) ≡ true → s.rows (ask_id a) ≡ Some (asked_about a).born)
          → (is_of_server (ask_id a) ≡ true → here.rows (ask_id a) ≡ Some (Open (asked_about a).born))
          → HasFrom middle n.id n.born.birth.number → n.born.birth.number ≡ common.by_server.births
          → common.by_server.births ≡ here.by_server.births → ask_id a ≢ n.id
      not_about a f h last number same e =
          let l : is_of_server (ask_id a) ≡ true = ap is_of_server e ∙ g.range in
          let x = asked_about a in
          let i = id_of a in
          let held : IsHeldInRows middle x = held_at_client x t (ap s.rows i ∙ f l) in
          let maker = by (ask_id a) x.born l (f l) in
          let counted : IsAmongFirst (births_in here) x.born.birth = below (ask_id a) (Open x.born) (h l) in
          let less : x.born.birth.number < here.by_server.births =
          subst (λ (k : Maker). x.born.birth.number < births_in here k) maker counted in
          let more : n.born.birth.number ≤ x.born.birth.number = of_row x last.0 last.1.1 (elim held [
            | inl p ↦ inl (some_is last.0 (Open x.born) (sym last.1.0 ∙ ap middle.rows (sym (i ∙ e)) ∙ p))
            | inr p ↦ inr (some_is last.0 (Ending x.born) (sym last.1.0 ∙ ap middle.rows (sym (i ∙ e)) ∙ p))
          ]) in
          absurd (omega (arith, less, more, number, same))
        where
          some_is : (r q : Row) → Some r ≡ Some q → r ≡ q
          some_is r q e = cc e

          of_row : (x : Known) (r : Row) → n.born.birth.number ≤ (birth_in r).number
              → (r ≡ Open x.born) ⊎ (r ≡ Ending x.born) → n.born.birth.number ≤ x.born.birth.number
          of_row x r le (inl q) = let k = ap (λ (y : Row). (birth_in y).number) q in omega (arith, le, k)
          of_row x r le (inr q) = let k = ap (λ (y : Row). (birth_in y).number) q in omega (arith, le, k)

  -- ---- the client writes one more action

  pub use_last : {qs : List Ask} {v w : Rows Row} (n : Known) → Leads test qs v w → w.rows n.id ≡ Some (Open n.born)
      → test n.born ≡ false → Leads test (qs ++ Use n ∷ []) v w
  use_last n done h f = use_ h f done
  use_last n (use_ a b r) h f = use_ a b (use_last n r h f)
  use_last n (make a r) h f = make a (use_last n r h f)
  use_last n (destroy z a b r) h f = destroy z a b (use_last n r h f)

  -- one more action makes an object
  pub make_last : {qs : List Ask} {v w : Rows Row} (n : Known) → Leads test qs v w → Fresh w n
      → Leads test (qs ++ Make n ∷ []) v (with_made w n.id (Open n.born))
  make_last n done g = make g done
  make_last n (use_ a b r) g = use_ a b (make_last n r g)
  make_last n (make a r) g = make a (make_last n r g)
  make_last n (destroy z a b r) g = destroy z a b (make_last n r g)

  -- one more action destroys an object
  pub destroy_last : {qs : List Ask} {v w : Rows Row} (n : Known) → Leads test qs v w → w.rows n.id ≡ Some (Open n.born)
      → test n.born ≡ false → n.id ≢ 1
      → Leads test (qs ++ Destroy n ∷ []) v (at w n.id (Some (Ending n.born)))
  destroy_last n done h f y = destroy y h f done
  destroy_last n (use_ a b r) h f y = use_ a b (destroy_last n r h f y)
  destroy_last n (make a r) h f y = make a (destroy_last n r h f y)
  destroy_last n (destroy z a b r) h f y = destroy z a b (destroy_last n r h f y)

  -- ---- the events in flight in two parts

  -- events are read in two parts
  pub reads_parted : (es : List Tell) {fs : List Tell} {v w : Rows Row} → ReadsInFlight test (es ++ fs) v w
      → Parted test es fs v w
  reads_parted [] {fs} {v} {w} r = record { between = v; first = all_read; then = r }
  reads_parted (e ∷ es) (name a r) = let p = reads_parted es r
      in record { between = p.between; first = name a p.first; then = p.then }
  reads_parted (e ∷ es) (made b g r) = let p = reads_parted es r
      in record { between = p.between; first = made b g p.first; then = p.then }
  reads_parted (e ∷ es) (end b l a r) = let p = reads_parted es r
      in record { between = p.between; first = end b l a p.first; then = p.then }
  reads_parted (e ∷ es) (delete z l a b r) = let p = reads_parted es r
      in record { between = p.between; first = delete z l a b p.first; then = p.then }

  -- the rows that events lead to are unique
  pub reads_one_way : {es : List Tell} {v a b : Rows Row} → ReadsInFlight test es v a → ReadsInFlight test es v b
      → a ≡ b
  reads_one_way all_read all_read = refl
  reads_one_way (name p r) (name q s) = reads_one_way r s
  reads_one_way (made p q r) (made x y s) = reads_one_way r s
  reads_one_way (end p l q r) (end x k y s) = reads_one_way r s
  reads_one_way (delete z l p q r) (delete x k y w s) = reads_one_way r s
