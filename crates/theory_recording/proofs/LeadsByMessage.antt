-- What a whole message does, while requests are not yet recorded and events not yet read.
use Rattle.std.proofs.Common.{◌≡◌, ℕ, Bool, true, false, List, [], ◌∷◌, ◌++◌, ◌⊎◌, map, ap}
use Rattle.std.proofs.Common.{inl, inr, sym, ◌∙◌, subst, arith, ◌≢◌}
use Rattle.std.proofs.lemmas.List.{append_assoc, append-nil}
use Rattle.std.specs.declared.option.Option.{Option}
use Rattle.std.specs.declared.option.Option.TheVariants.{None, Some}
use Rattle.theory_connection.specs.Meant.{client_birth, IsAmongFirst, Born, Known}
use Rattle.theory_connection.specs.World.{Row, Open, Ending, Each, IfThere}
use Rattle.theory_connection.specs.Flight.{Rows, births_in, at, with_made, Ask, Use, Tell, Name, Delete}
use Rattle.theory_connection.specs.Flight.{make_ask, make_tell, destroy_ask, ends, IsHeldInRows, Fresh, NextTold}
use Rattle.theory_connection.specs.Flight.{ReadsInFlight, done as all_read, name, made, end, delete}
use Rattle.std.proofs.Common.{◌<◌}
use Rattle.wl_object_map.specs.declared.object.Maker.TheVariants.{Server}
use Rattle.wl_object_map.specs.Ranges.{is_of_server}
use Rattle.theory_connection.specs.Flight.{Tied}
use Rattle.theory_connection.specs.Stands.{birth_in}
use Rattle.theory_connection.proofs.Flight.{fresh_range}
use Rattle.theory_connection.specs.Plain.{ask_id}
use Rattle.theory_connection.proofs.Flight.{free_after, live_after, counts_after, make_before}
use Rattle.theory_connection.proofs.Flight.{destroy_before, reads_more, held_other, held_some}
use Rattle.theory_connection.proofs.WholeInFlight.{OpenRow, client_makes, client_told, client_ends, live_made_if}
use Rattle.theory_connection.proofs.WholeInFlight.{all_live_after, reads_all}
use Rattle.theory_connection.proofs.EndedObject.{Mortal}
use Rattle.theory_recording.specs.Leads.{Joins, Leads, done, use_, make, destroy}
use Rattle.theory_recording.proofs.LeadsByAction.{held_here, put_elsewhere, tell_elsewhere, told_here, use_last}
use Rattle.theory_recording.proofs.LeadsByAction.{make_last, destroy_last, unasked}

-- what is known after a request is recorded
pub record RecordsAsk (test : Born → Bool) (qs : List Ask) (here common : Rows Row) (x : Known) (xs : List Known)
    (n o : Option Known) : Type 0 where
  pub target : OpenRow here x
  pub args : Each (OpenRow here) xs
  pub new : IfThere (Fresh here) n
  pub mortal : IfThere Mortal o
  pub rest : Leads test qs (client_ends o (client_makes here n)) common

-- what is known after an event is recorded
pub record RecordsTell (test : Born → Bool) (qs : List Ask) (es fs : List Tell) (here client w : Rows Row) (x : Known)
    (xs : List Known) (n : Option Known) (after : Rows Row) : Type 0 where
  pub target : IsHeldInRows here x
  pub args : Each (IsHeldInRows here) xs
  pub new : IfThere (NextTold here) n
  pub joins : Joins test qs es after client
  pub rest : ReadsInFlight test fs joins.common w

at_same : (v : Rows Row) {i j : ℕ} {o : Option Row} → i ≡ j → v.rows i ≡ o → v.rows j ≡ o
at_same v e h = sym (ap v.rows e) ∙ h

other_born : {o : Option Row} (test : Born → Bool) (x n : Known) → (o ≡ Some (Open x.born)) ⊎ (o ≡ Some (Ending x.born))
    → o ≡ Some (Open n.born) → test n.born ≡ false → test x.born ≡ true → ⊥
other_born {o} test x n (inl h) a b t = let q : Some (Open x.born) ≡ Some (Open n.born) = sym h ∙ a
    in let s : x.born ≡ n.born = cc q in cc (sym t ∙ ap test s ∙ b)
other_born {o} test x n (inr h) a b t = let q : Some (Ending x.born) ≡ Some (Open n.born) = sym h ∙ a in absurd (cc q)

-- if the object is in the client's range, its birth was counted in these rows
abbrev pub Counted : Rows Row → Known → Type 0
Counted v x = is_of_server x.id ≡ false → x.born.birth.number < v.births

-- the same holds after an event that makes an object
told_first_if : (v : Rows Row) (n o : Option Known) → IfThere (Counted v) o → IfThere (Counted (client_told v n)) o
told_first_if v None o l = l
told_first_if v (Some y) None l = tt
told_first_if v (Some y) (Some x) l = l

module _ {test : Born → Bool} where
  -- ---- the client writes a request

  leads_uses : {qs : List Ask} {v w : Rows Row} (xs : List Known) → Leads test qs v w → Each (OpenRow w) xs
      → Each (λ x. test x.born ≡ false) xs → Leads test (qs ++ map Use xs) v w
  leads_uses {qs} {v} {w} [] r h f = subst (λ (l : List Ask). Leads test l v w) (sym (append-nil qs)) r
  leads_uses {qs} {v} {w} (x ∷ xs) r h f = subst (λ (l : List Ask). Leads test l v w)
      (append_assoc qs (Use x ∷ []) (map Use xs)) (leads_uses xs (use_last x r h.0 f.0) h.1 f.1)

  makes_last : {qs : List Ask} {es : List Tell} {here v : Rows Row} (n : Option Known) → Joins test qs es here v
      → IfThere (Fresh v) n → Joins test (qs ++ make_ask n) es here (client_makes v n)
  makes_last {qs} {es} {here} {v} None m c = subst (λ (l : List Ask). Joins test l es here v) (sym (append-nil qs)) m
  makes_last (Some n) m c =
      let k = counts_after m.reads in
      record {
        common = with_made m.common n.id (Open n.born);
        leads = make_last n m.leads (record {
          free = free_after n.id m.reads (fresh_range c) c.free;
          some = c.some;
          next = grind (arith, c.next);
          birth = c.birth ∙ ap client_birth (sym k.1);
          low = c.low;
          left = grind (arith, c.left);
        });
        reads = make_before n.id (Open n.born) m.reads (fresh_range c) c.free;
      }

  ends_last : {qs : List Ask} {es : List Tell} {here v : Rows Row} (o : Option Known) → Joins test qs es here v
      → IfThere (OpenRow v) o → IfThere (λ x. test x.born ≡ false) o → IfThere Mortal o
      → Joins test (qs ++ destroy_ask o) es here (client_ends o v)
  ends_last {qs} {es} {here} {v} None m h f y = subst (λ (l : List Ask). Joins test l es here v) (sym (append-nil qs)) m
  ends_last (Some x) m h f y = record {
    common = at m.common x.id (Some (Ending x.born));
    leads = destroy_last x m.leads (live_after x.id x.born m.reads h f) f y;
    reads = destroy_before x.id x.born m.reads h f;
  }

  -- one more request that is not yet recorded: the rows still join
  pub asks_more : {qs : List Ask} {es : List Tell} {here v : Rows Row} (x : Known) (xs : List Known)
      (n o : Option Known)
      → Joins test qs es here v → OpenRow v x → test x.born ≡ false → Each (OpenRow v) xs
      → Each (λ o. test o.born ≡ false) xs → IfThere (Fresh v) n
      → IfThere (OpenRow v) o → IfThere (λ x. test x.born ≡ false) o → IfThere Mortal o
      → Joins test (qs ++ (Use x ∷ (map Use xs ++ (make_ask n ++ destroy_ask o)))) es here
      (client_ends o (client_makes v n))
  asks_more {qs} {es} {here} {v} x xs n o m h f hs fs c oh of y =
      let a1 = use_last x m.leads (live_after _ _ m.reads h f) f in
      let b1 = leads_uses xs a1 (all_live_after xs m.reads hs fs) fs in
      let d1 : Joins test ((qs ++ Use x ∷ []) ++ map Use xs) es here v =
      record { common = m.common; leads = b1; reads = m.reads } in
      let e1 = makes_last n d1 c in
      let f1 = ends_last o e1 (live_made_if v n o c oh) of y in
      subst (λ (l : List Ask). Joins test l es here (client_ends o (client_makes v n))) (simp append_assoc) f1

  -- ---- a request is recorded

  uses_off : {qs : List Ask} {v w : Rows Row} (xs : List Known) → Leads test (map Use xs ++ qs) v w
      → Each (OpenRow v) xs × Leads test qs v w
  uses_off [] r = (tt, r)
  uses_off (x ∷ xs) (use_ a b r) = let k = uses_off xs r in ((a, k.0), k.1)

  ends_off : {qs : List Ask} {v w : Rows Row} (o : Option Known) → Leads test (destroy_ask o ++ qs) v w
      → Leads test qs (client_ends o v) w × IfThere Mortal o
  ends_off None r = (r, tt)
  ends_off (Some x) (destroy z a b r) = (r, z)

  new_off : {qs : List Ask} {v w : Rows Row} (x : Known) (xs : List Known) (n o : Option Known) → OpenRow v x
      → Each (OpenRow v) xs → Leads test (make_ask n ++ (destroy_ask o ++ qs)) v w
      → RecordsAsk test qs v w x xs n o
  new_off x xs None o h k r = let p = ends_off o r
      in record { target = h; args = k; new = tt; mortal = p.1; rest = p.0 }
  new_off x xs (Some n) o h k (make g r) = let p = ends_off o r
      in record { target = h; args = k; new = g; mortal = p.1; rest = p.0 }

  -- the objects that the first request names are open, and the other requests lead on after it
  pub ask_recorded : {qs : List Ask} {v w : Rows Row} (x : Known) (xs : List Known) (n o : Option Known)
      → Leads test ((Use x ∷ (map Use xs ++ (make_ask n ++ destroy_ask o))) ++ qs) v w
      → RecordsAsk test qs v w x xs n o
  ask_recorded {qs} {v} {w} x xs n o (use_ h f r) =
      let u = uses_off xs (subst (λ (l : List Ask). Leads test l v w) (simp append_assoc) r) in
      new_off x xs n o h u.0 u.1

  -- ---- an event is recorded

  pub all_held_here : {qs : List Ask} {v w : Rows Row} (xs : List Known) → Leads test qs v w → Each (IsHeldInRows w) xs
      → Each (Counted v) xs → Each (IsHeldInRows v) xs
  all_held_here [] r h l = tt
  all_held_here (x ∷ xs) r h l = (held_here x r h.0 l.0, all_held_here xs r h.1 l.1)

  -- no request that is not yet recorded is about an object with a destroying event
  pub mortal_elsewhere : {qs : List Ask} {v w : Rows Row} (x : Known) → Leads test qs v w → IsHeldInRows v x
      → test x.born ≡ true → Each (λ a. ask_id a ≢ x.id) qs
  mortal_elsewhere x done h t = tt
  mortal_elsewhere x (use_ {v = v} {x = n} a b r) h t =
      ((λ e. other_born test x n h (at_same v e a) b t), mortal_elsewhere x r h t)
  mortal_elsewhere x (make {v = v} {x = n} a r) h t = let ne = held_some v x n.id h a.free
      in ((λ e. ne (sym e)), mortal_elsewhere x r (held_other v x n.id (Some (Open n.born)) h ne) t)
  mortal_elsewhere x (destroy {v = v} {x = n} z a b r) h t =
      let ne : x.id ≢ n.id = λ e. other_born test x n h (at_same v (sym e) a) b t in
      ((λ e. ne (sym e)), mortal_elsewhere x r (held_other v x n.id (Some (Ending n.born)) h ne) t)

  -- reading a name changes nothing
  names_read : {v : Rows Row} (xs : List Known) → Each (IsHeldInRows v) xs → ReadsInFlight test (map Name xs) v v
  names_read [] h = all_read
  names_read (x ∷ xs) h = name h.0 (names_read xs h.1)

  -- the part of an event that makes its new object is recorded
  makes_recorded : {qs : List Ask} {fs : List Tell} {here common w : Rows Row} (n : Option Known)
      → Leads test qs here common → IfThere (λ x. Each (λ a. ask_id a ≢ x.id) qs) n
      → ReadsInFlight test (make_tell n ++ fs) common w
      → (ReadsInFlight test (make_tell n) common (client_told common n)
      × Leads test qs (client_told here n) (client_told common n))
      × (ReadsInFlight test fs (client_told common n) w × IfThere (NextTold here) n)
  makes_recorded None l u r = ((all_read, l), (r, tt))
  makes_recorded (Some x) l u (made t g r) =
      ((made t g all_read, tell_elsewhere x.id (Open x.born) l u), (r, told_here x l u g))

  ends_recorded : {qs : List Ask} {fs : List Tell} {here common w : Rows Row} (o : Option Known)
      → Leads test qs here common → IfThere (Counted here) o
      → ReadsInFlight test (ends o ++ fs) common w
      → ReadsInFlight test (ends o) common (client_ends o common)
      × Leads test qs (client_ends o here) (client_ends o common)
      × ReadsInFlight test fs (client_ends o common) w
  ends_recorded None l b r = (all_read, l, r)
  ends_recorded (Some x) l b (end t q a r) = (
    end t q a all_read,
    put_elsewhere x.id (Some (Ending x.born)) l
        (mortal_elsewhere x l (held_here x l a b) t),
    r,
  )

  -- no request that is not yet recorded is about the id of an object that the next recorded event
  -- makes
  pub unasked_event : (qs rs : List Ask) (fs : List Tell) {here common middle : Rows Row} {s : Rows Born} (x : Known)
      (xs : List Known) (n o : Option Known)
      → Leads test rs here common → Tied test (qs ++ rs) s middle
      → ReadsInFlight test ((Name x ∷ (map Name xs ++ (make_tell n ++ ends o))) ++ fs) common middle
      → ((id : ℕ) (r : Row) → here.rows id ≡ Some r → IsAmongFirst (births_in here) (birth_in r))
      → ((id : ℕ) (x : Born) → is_of_server id ≡ true → s.rows id ≡ Some x → x.birth.maker ≡ Server)
      → IfThere (λ y. Each (λ a. ask_id a ≢ y.id) rs) n
  unasked_event qs rs fs {here} {common} {middle} {s} x xs n o l t (name a r) below by =
      let k = reads_all xs (subst (λ (l : List Tell). ReadsInFlight test l common middle) (simp append_assoc) r) in
      by_made n (ends o ++ fs) k.1
    where
      by_made : (n : Option Known) (gs : List Tell) → ReadsInFlight test (make_tell n ++ gs) common middle
          → IfThere (λ y. Each (λ a. ask_id a ≢ y.id) rs) n
      by_made None gs q = tt
      by_made (Some y) gs (made f g q) = unasked qs rs y l t g q below by

  -- an event is recorded: its objects are held there, its new object is the server's next, and the
  -- rows still join after it
  pub event_recorded : {qs : List Ask} {es fs : List Tell} {here client w : Rows Row} (x : Known) (xs : List Known)
      (n o : Option Known) (m : Joins test qs es here client)
      → ReadsInFlight test ((Name x ∷ (map Name xs ++ (make_tell n ++ ends o))) ++ fs) m.common w
      → IfThere (λ y. Each (λ a. ask_id a ≢ y.id) qs) n
      → Counted here x → Each (Counted here) xs → IfThere (Counted here) o
      → RecordsTell test qs (es ++ (Name x ∷ (map Name xs ++ (make_tell n ++ ends o)))) fs here client w x xs n
      (client_ends o (client_told here n))
  event_recorded {fs = fs} {here = here} {w = w} x xs n o m (name a r) u l ls lo =
      let k = reads_all xs (subst (λ (l : List Tell). ReadsInFlight test l m.common w) (simp append_assoc) r) in
      let h = held_here x m.leads a l in
      let c = makes_recorded n m.leads u k.1 in
      let e = ends_recorded o c.0.1 (told_first_if here n o lo) c.1.0 in
      record {
        target = h;
        args = all_held_here xs m.leads k.0 ls;
        new = c.1.1;
        joins = record {
          common = client_ends o (client_told m.common n);
          leads = e.1;
          reads = reads_more m.reads (name a (reads_more (names_read xs k.0) (reads_more c.0.0 e.0)));
        };
        rest = e.2;
      }

  -- a delete is recorded: no request that is not yet recorded is about its id
  pub delete_recorded : {qs : List Ask} {es fs : List Tell} {here client w : Rows Row} (x : Known)
      (m : Joins test qs es here client)
      → ReadsInFlight test (Delete x ∷ fs) m.common w → Counted here x
      → Each (λ a. ask_id a ≢ x.id) qs
      → RecordsTell test qs (es ++ Delete x ∷ []) fs here client w x [] None (at here x.id None)
  delete_recorded x m (delete z q a b r) l e = record {
    target = held_here x m.leads a l;
    args = tt;
    new = tt;
    joins = record {
      common = at m.common x.id None;
      leads = put_elsewhere x.id None m.leads e;
      reads = reads_more m.reads (delete z q a b all_read);
    };
    rest = r;
  }
