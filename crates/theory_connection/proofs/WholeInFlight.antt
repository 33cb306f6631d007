-- What writing or reading a whole message does to what is in flight.
use Rattle.std.proofs.Common.{◌≡◌, ℕ, Bool, true, false, List, [], ◌∷◌, ◌++◌, map, inl, inr, refl}
use Rattle.std.proofs.Common.{sym, ◌∙◌, ap, subst, arith, ◌≢◌}
use Rattle.std.proofs.lemmas.List.{append_assoc, append-nil}
use Rattle.std.specs.declared.option.Option.{Option}
use Rattle.std.specs.declared.option.Option.TheVariants.{None, Some}
use Rattle.std.specs.Prelude.{◌<◌, ◌≤◌}
use Rattle.std.proofs.lemmas.Bool.{cases_Bool}
use Rattle.wl_object_map.specs.declared.object.Maker.{Maker}
use Rattle.wl_object_map.specs.View.{max_births}
use Rattle.wl_object_map.specs.Ranges.{is_of_server, max_server_id}
use Rattle.wl_object_map.specs.Objects.{maker_of}
use Rattle.theory_connection.specs.Meant.{client_birth, server_birth, Born, Known, Message, Coming}
use Rattle.theory_connection.specs.World.{Row, Open, Ending, Each, IfThere, delete as following, answer}
use Rattle.theory_connection.specs.Flight.{put_row, Rows, Counts, at, with_made, with_told, Ask, Use, Tell, Name, Delete}
use Rattle.theory_connection.specs.Flight.{make_ask, make_tell, destroy_ask, ends, asks, tells, all_asks, all_tells}
use Rattle.theory_connection.specs.Flight.{at_client, only_open, IsHeldInRows, Fresh, NextTold, ReadsInFlight, done, name, made}
use Rattle.theory_connection.specs.Flight.{end, delete, Tied, drained, use_, make, destroy, give_back, MeetInMiddle}
use Rattle.theory_connection.proofs.EndedObject.{Mortal}
use Rattle.theory_connection.proofs.Flight.{put_row_tells, put_row_other, put_row_over, range_apart, fresh_range}
use Rattle.theory_connection.proofs.Flight.{live_after, free_after, counts_after, counts_tied, freed_not_open}
use Rattle.theory_connection.proofs.Flight.{make_before, destroy_before, reads_more, held_at_client, end_before}
use Rattle.theory_connection.proofs.Flight.{tell_before, use_more, make_more, destroy_more, give_more}

-- the object is open at the client
abbrev pub OpenRow : Rows Row → Known → Type 0
OpenRow v x = v.rows x.id ≡ Some (Open x.born)

-- the object is open at the server
abbrev pub ThereRow : Rows Born → Known → Type 0
ThereRow s x = s.rows x.id ≡ Some x.born

-- the client's rows after the client made an object
abbrev pub client_makes : Rows Row → Option Known → Rows Row
client_makes v None = v
client_makes v (Some x) = with_made v x.id (Open x.born)

-- the client's rows after an object started ending
abbrev pub client_ends : Option Known → Rows Row → Rows Row
client_ends None v = v
client_ends (Some x) v = at v x.id (Some (Ending x.born))

-- the server's rows after the client made an object
abbrev pub server_makes : Rows Born → Option Known → Rows Born
server_makes s None = s
server_makes s (Some x) = with_made s x.id x.born

-- the client's rows after the server made an object
abbrev pub client_told : Rows Row → Option Known → Rows Row
client_told v None = v
client_told v (Some x) = with_told v x.id (Open x.born)

-- the server's rows after the server made an object
abbrev pub server_told : Rows Born → Option Known → Rows Born
server_told s None = s
server_told s (Some x) = with_told s x.id x.born

-- the object has an id of the client's range
abbrev pub OfClient : Known → Type 0
OfClient x = is_of_server x.id ≡ false

-- a new object of the server fits the server's rows: its id is free or the next one, and it is the
-- server's next birth
pub record FreshTold (s : Rows Born) (x : Known) : Type 0 where
  pub range : is_of_server x.id ≡ true
  pub free : s.rows x.id ≡ None
  pub next : x.id ≤ s.by_server.next
  pub birth : x.born.birth ≡ server_birth s.by_server.births
  pub low : x.id ≤ max_server_id
  pub left : s.by_server.births < max_births

-- the maker of the objects in the range of an object's id
abbrev pub id_maker : Known → Maker
id_maker x = maker_of x.id

-- the server's rows after an object ended
abbrev pub server_ends : Option Known → Rows Born → Rows Born
server_ends None s = s
server_ends (Some x) s = at s x.id None

pub live_made : (v : Rows Row) (n : Option Known) (x : Known) → IfThere (Fresh v) n → OpenRow v x
    → OpenRow (client_makes v n) x
live_made v None x c h = h
live_made v (Some n) x c h = grind (arith, put_row_tells, c.free)

-- an open object stays open when another is made
pub live_made_if : (v : Rows Row) (n o : Option Known) → IfThere (Fresh v) n → IfThere (OpenRow v) o
    → IfThere (OpenRow (client_makes v n)) o
live_made_if v n None c h = tt
live_made_if v n (Some x) c h = live_made v n x c h

put_tells_same : (m : Rows Row) (x : Known) → put_row m.rows x.id (Some (Ending x.born)) x.id ≡ Some (Ending x.born)
put_tells_same m x = grind (arith, put_row_tells)

-- an object that is open at the server stays open when the server makes another
pub there_told : (s : Rows Born) (n : Option Known) (x : Known) → IfThere (FreshTold s) n → ThereRow s x
    → ThereRow (server_told s n) x
there_told s None x c h = h
there_told s (Some n) x c h =
    put_row_other s.rows n.id _ x.id (λ q. (let d = sym c.free ∙ ap s.rows q ∙ h in cc d)) ∙ h

-- an object that the client holds in its own range stays held when the server makes one
pub held_told : (v : Rows Row) (n : Option Known) (x : Known) → IfThere (NextTold v) n → OfClient x → IsHeldInRows v x
    → IsHeldInRows (client_told v n) x
held_told v None x g l h = h
held_told v (Some n) x g l h =
    let same = put_row_other v.rows n.id (Some (Open n.born)) x.id (λ q. range_apart x.id n.id l g.range (sym q)) in
    elim h [ inl p ↦ inl (same ∙ p) | inr p ↦ inr (same ∙ p) ]

pub held_told_if : (v : Rows Row) (n o : Option Known) → IfThere (NextTold v) n → IfThere OfClient o
    → IfThere (IsHeldInRows v) o → IfThere (IsHeldInRows (client_told v n)) o
held_told_if v n None g l h = tt
held_told_if v n (Some x) g l h = held_told v n x g l h

-- the same for an object that ends
pub there_told_if : (s : Rows Born) (n o : Option Known) → IfThere (FreshTold s) n → IfThere (ThereRow s) o
    → IfThere (ThereRow (server_told s n)) o
there_told_if s n None c h = tt
there_told_if s n (Some x) c h = there_told s n x c h

-- what the client reads next, and what is in flight after it
pub record Past (test : Born → Bool) (qs : List Ask) (s : Rows Born) (m : Rows Row) (es : List Tell) : Type 0 where
  pub middle : Rows Row
  pub reads : ReadsInFlight test es m middle
  pub tied : Tied test qs s middle

-- the first request, when the server reads it
pub record AsksAt (test : Born → Bool) (qs : List Ask) (s : Rows Born) (m : Rows Row) (x : Known) (xs : List Known)
    (n : Option Known) (o : Option Known) : Type 0 where
  pub target : ThereRow s x
  pub args : Each (ThereRow s) xs
  pub new : IfThere (Fresh s) n
  pub past : Past test qs (server_ends o (server_makes s n)) m (all_tells (answer id_maker o))
  pub mortal : IfThere Mortal o

-- the first event, when the client reads it
pub record TellsAt (test : Born → Bool) (es : List Tell) (v w : Rows Row) (x : Known) (xs : List Known)
    (n o : Option Known) : Type 0 where
  pub target : IsHeldInRows v x
  pub args : Each (IsHeldInRows v) xs
  pub new : IfThere (NextTold v) n
  pub plain : IfThere (λ x. test x.born ≡ false) n
  pub rest : ReadsInFlight test es (client_ends o (client_told v n)) w
  pub ends_it : IfThere (λ x. test x.born ≡ true) o
  pub range : IfThere OfClient o

-- the first delete, when the client reads it
pub record DeletesAt (test : Born → Bool) (es : List Tell) (v w : Rows Row) (x : Known) : Type 0 where
  pub mortal : x.id ≢ 1
  pub range : OfClient x
  pub held : IsHeldInRows v x
  pub rest : ReadsInFlight test es (at v x.id None) w

module _ {test : Born → Bool} where
  -- ---- the client writes a request

  uses_more : {qs : List Ask} {s : Rows Born} {m : Rows Row} (xs : List Known) → Tied test qs s m → Each (OpenRow m) xs
      → Each (λ x. test x.born ≡ false) xs
      → Tied test (qs ++ map Use xs) s m
  uses_more {qs} {s} {m} [] t h f = subst (λ (l : List Ask). Tied test l s m) (sym (append-nil qs)) t
  uses_more {qs} {s} {m} (x ∷ xs) t h f =
      subst (λ (l : List Ask). Tied test l s m) (append_assoc qs (Use x ∷ []) (map Use xs))
      (uses_more xs (use_more x t h.0 f.0) h.1 f.1)

  -- an open object that ends by no event is still open after the events are read
  pub all_live_after : {es : List Tell} {v m : Rows Row} (xs : List Known) → ReadsInFlight test es v m
      → Each (OpenRow v) xs
      → Each (λ x. test x.born ≡ false) xs → Each (OpenRow m) xs
  all_live_after [] r h f = tt
  all_live_after (x ∷ xs) r h f = (live_after x.id x.born r h.0 f.0, all_live_after xs r h.1 f.1)

  meets_makes : {es : List Tell} {qs : List Ask} {v : Rows Row} {s : Rows Born} (n : Option Known)
      → MeetInMiddle test es qs v s → IfThere (Fresh v) n → MeetInMiddle test es (qs ++ make_ask n) (client_makes v n) s
  meets_makes {es} {qs} {v} {s} None g c = subst (λ (l : List Ask). MeetInMiddle test es l v s) (sym (append-nil qs)) g
  meets_makes (Some n) g c =
      let k = counts_after g.reads in
      record {
        middle = with_made g.middle n.id (Open n.born);
        reads = make_before n.id (Open n.born) g.reads (fresh_range c) c.free;
        tied = make_more n g.tied (record {
          free = free_after n.id g.reads (fresh_range c) c.free;
          some = c.some;
          next = grind (arith, c.next);
          birth = c.birth ∙ ap client_birth (sym k.1);
          low = c.low;
          left = grind (arith, c.left);
        });
      }

  meets_ends : {es : List Tell} {qs : List Ask} {v : Rows Row} {s : Rows Born} (o : Option Known)
      → MeetInMiddle test es qs v s → IfThere (OpenRow v) o → IfThere (λ x. test x.born ≡ false) o → IfThere Mortal o
      → MeetInMiddle test es (qs ++ destroy_ask o) (client_ends o v) s
  meets_ends {es} {qs} {v} {s} None g h f y = subst (λ (l : List Ask). MeetInMiddle test es l v s)
      (sym (append-nil qs)) g
  meets_ends (Some x) g h f y = record {
    middle = at g.middle x.id (Some (Ending x.born));
    reads = destroy_before x.id x.born g.reads h f;
    tied = elim (cases_Bool (is_of_server x.id)) [
      | inl l ↦ give_more x g.tied (live_after x.id x.born g.reads h f) f l
      | inr l ↦ destroy_more x g.tied (live_after x.id x.born g.reads h f) f y l
    ];
  }

  -- the ends still meet after a request is written
  pub ask_meets : {es : List Tell} {qs : List Ask} {v : Rows Row} {s : Rows Born} (x : Known) (xs : List Known)
      (n : Option Known) (o : Option Known)
      → MeetInMiddle test es qs v s → OpenRow v x → test x.born ≡ false → Each (OpenRow v) xs
      → Each (λ o. test o.born ≡ false) xs → IfThere (Fresh v) n
      → IfThere (OpenRow v) o → IfThere (λ x. test x.born ≡ false) o → IfThere Mortal o
      → MeetInMiddle test es (qs ++ (Use x ∷ (map Use xs ++ (make_ask n ++ destroy_ask o))))
      (client_ends o (client_makes v n)) s
  ask_meets {es} {qs} {v} {s} x xs n o g h f hs fs c oh of y =
      let a1 = use_more x g.tied (live_after _ _ g.reads h f) f in
      let b1 = uses_more xs a1 (all_live_after xs g.reads hs fs) fs in
      let d1 : MeetInMiddle test es ((qs ++ Use x ∷ []) ++ map Use xs) v s =
      record { middle = g.middle; reads = g.reads; tied = b1 } in
      let e1 = meets_makes n d1 c in
      let f1 = meets_ends o e1 (live_made_if v n o c oh) of y in
      subst (λ (l : List Ask). MeetInMiddle test es l (client_ends o (client_makes v n)) s) (simp append_assoc) f1

  -- ---- the server reads a request

  tied_uses : {qs : List Ask} {s : Rows Born} {m : Rows Row} (xs : List Known) → Tied test (map Use xs ++ qs) s m
      → Each (ThereRow s) xs × Tied test qs s m
  tied_uses [] t = (tt, t)
  tied_uses (x ∷ xs) (use_ a b t) = let r = tied_uses xs t in ((a, r.0), r.1)

  past_ends : {qs : List Ask} {s : Rows Born} {m : Rows Row} (o : Option Known) → Tied test (destroy_ask o ++ qs) s m
      → Past test qs (server_ends o s) m (all_tells (answer id_maker o)) × IfThere Mortal o
  past_ends {m = m} None t = (record { middle = m; reads = done; tied = t }, tt)
  past_ends {m = m} (Some x) (destroy z l a b c t) =
      (rw l (record { middle = at m x.id None; reads = delete z l (inr c) (inr c) done; tied = t }), z)
  past_ends {m = m} (Some x) (give_back l a b c t) =
      (rw l (record { middle = m; reads = done; tied = t }), λ e. range_apart 1 x.id refl l (sym e))

  asks_new : {qs : List Ask} {s : Rows Born} {m : Rows Row} (x : Known) (xs : List Known) (n : Option Known)
      (b : Option Known)
      → ThereRow s x → Each (ThereRow s) xs → Tied test (make_ask n ++ (destroy_ask b ++ qs)) s m
      → AsksAt test qs s m x xs n b
  asks_new {s = s} x xs None b h k c = let p = past_ends b c
      in record { target = h; args = k; new = tt; past = p.0; mortal = p.1 }
  asks_new {s = s} x xs (Some n) b h k (make g c) = let p = past_ends b c
      in record { target = h; args = k; new = g; past = p.0; mortal = p.1 }

  -- the objects of the first request are open at the server
  pub asks_at : {qs : List Ask} {s : Rows Born} {m : Rows Row} (x : Known) (xs : List Known) (n : Option Known)
      (b : Option Known)
      → Tied test ((Use x ∷ (map Use xs ++ (make_ask n ++ destroy_ask b))) ++ qs) s m → AsksAt test qs s m x xs n b
  asks_at {qs} {s} {m} x xs n b (use_ h f t) =
      let u = tied_uses xs (subst (λ (l : List Ask). Tied test l s m) (simp append_assoc) t) in
      asks_new x xs n b h u.0 u.1

  -- ---- the server writes an event

  all_held : {qs : List Ask} {s : Rows Born} {m : Rows Row} (xs : List Known) → Tied test qs s m → Each (ThereRow s) xs
      → Each (IsHeldInRows m) xs
  all_held [] t h = tt
  all_held (x ∷ xs) t h = (held_at_client x t h.0, all_held xs t h.1)

  reads_names : {es : List Tell} {v w : Rows Row} (xs : List Known) → Each (IsHeldInRows v) xs
      → ReadsInFlight test es v w
      → ReadsInFlight test (map Name xs ++ es) v w
  reads_names [] h r = r
  reads_names (x ∷ xs) h r = name h.0 (reads_names xs h.1 r)

  reads_last : {f g : ℕ → Option Row} {u b : ℕ} {c : Counts} → f ≡ g
      → ReadsInFlight test [] (record { rows = f; used = u; births = b; by_server = c })
      (record { rows = g; used = u; births = b; by_server = c })
  reads_last {f} {g} {u} {b} {c} e = subst (λ (h : ℕ → Option Row). ReadsInFlight test []
      (record { rows = f; used = u; births = b; by_server = c })
      (record { rows = h; used = u; births = b; by_server = c })) e done

  -- the part of an event that makes its new object
  makes_meet : {es : List Tell} {qs : List Ask} {v : Rows Row} {s : Rows Born} (n : Option Known)
      → IfThere (FreshTold s) n → IfThere (λ x. test x.born ≡ false) n
      → MeetInMiddle test es qs v s → MeetInMiddle test (es ++ make_tell n) qs v (server_told s n)
  makes_meet {es} {qs} {v} {s} None c f g = subst (λ (l : List Tell). MeetInMiddle test l qs v s)
      (sym (append-nil es)) g
  makes_meet {es} {qs} {v} {s} (Some n) c f g =
      let k = counts_tied g.tied in
      record {
        middle = with_told g.middle n.id (Open n.born);
        reads = reads_more g.reads (made f (record {
          range = c.range;
          not_open = λ b. freed_not_open n.id b g.tied c.range c.free;
          next = subst (λ (a : Counts). n.id ≤ a.next) (sym k) c.next;
          birth = c.birth ∙ ap (λ (a : Counts). server_birth a.births) (sym k);
          low = c.low;
          left = subst (λ (a : Counts). a.births < max_births) (sym k) c.left;
        }) done);
        tied = tell_before n.id n.born g.tied c.range c.free;
      }

  -- the last actions of an event, and the delete that follows
  ends_meets : {es : List Tell} {qs : List Ask} {v : Rows Row} {s : Rows Born} (o : Option Known)
      → IfThere (λ x. test x.born ≡ true) o → IfThere Mortal o → IfThere OfClient o → IfThere (ThereRow s) o
      → MeetInMiddle test es qs v s → MeetInMiddle test (es ++ (ends o ++ all_tells (following o))) qs v
      (server_ends o s)
  ends_meets {es} {qs} {v} {s} None f y l h g = subst (λ (l : List Tell). MeetInMiddle test l qs v s)
      (sym (append-nil es)) g
  ends_meets {es} {qs} {v} {s} (Some x) f y l h g =
      let k = held_at_client x g.tied h in
      record {
        middle = at g.middle x.id None;
        reads = reads_more g.reads (end f l k (delete y l (inr (put_tells_same g.middle x)) (inl f)
            (reads_last (put_row_over g.middle.rows x.id _ None))));
        tied = end_before x.id x.born g.tied h f;
      }

  -- the ends still meet after an event is written
  pub tell_meets : {es : List Tell} {qs : List Ask} {v : Rows Row} {s : Rows Born} (x : Known) (xs : List Known)
      (n o : Option Known)
      → MeetInMiddle test es qs v s → ThereRow s x → Each (ThereRow s) xs → IfThere (FreshTold s) n
      → IfThere (λ x. test x.born ≡ false) n → IfThere (λ x. test x.born ≡ true) o
      → IfThere Mortal o → IfThere OfClient o → IfThere (ThereRow s) o
      → MeetInMiddle test (es ++ ((Name x ∷ (map Name xs ++ (make_tell n ++ ends o))) ++ all_tells (following o))) qs v
      (server_ends o (server_told s n))
  tell_meets {es} {qs} {v} {s} x xs n o g h hs c p f y l oh =
      let r = reads_more g.reads (reads_names (x ∷ xs) (all_held (x ∷ xs) g.tied (h, hs)) done) in
      let e : MeetInMiddle test (es ++ (map Name (x ∷ xs) ++ [])) qs v s =
      record { middle = g.middle; reads = r; tied = g.tied } in
      let k = makes_meet n c p e in
      let d = ends_meets o f y l (there_told_if s n o c oh) k in
      subst (λ (l : List Tell). MeetInMiddle test l qs v (server_ends o (server_told s n)))
      (simp (append_assoc, append-nil)) d

  -- the ends still meet after an object is dropped
  pub drop_meets : {es : List Tell} {qs : List Ask} {v : Rows Row} {s : Rows Born} (x : Known)
      → MeetInMiddle test es qs v s → x.id ≢ 1 → OfClient x → ThereRow s x → test x.born ≡ true
      → MeetInMiddle test (es ++ Delete x ∷ []) qs v (at s x.id None)
  drop_meets x g y l h f = record {
    middle = at g.middle x.id None;
    reads = reads_more g.reads (delete y l (held_at_client x g.tied h) (inl f) done);
    tied = end_before x.id x.born g.tied h f;
  }

  -- ---- the client reads what comes

  -- the objects that are named are held, and the other actions are read after them
  pub reads_all : {es : List Tell} {v w : Rows Row} (xs : List Known) → ReadsInFlight test (map Name xs ++ es) v w
      → Each (IsHeldInRows v) xs × ReadsInFlight test es v w
  reads_all [] r = (tt, r)
  reads_all (x ∷ xs) (name h r) = let k = reads_all xs r in ((h, k.0), k.1)

  rest_ends : {es : List Tell} {v w : Rows Row} (o : Option Known) → ReadsInFlight test (ends o ++ es) v w
      → ReadsInFlight test es (client_ends o v) w × (IfThere (λ x. test x.born ≡ true) o × IfThere OfClient o)
  rest_ends None r = (r, (tt, tt))
  rest_ends (Some x) (end a l b r) = (r, (a, l))

  rest_makes : {es : List Tell} {v w : Rows Row} (n : Option Known) → ReadsInFlight test (make_tell n ++ es) v w
      → ReadsInFlight test es (client_told v n) w
      × (IfThere (NextTold v) n × IfThere (λ x. test x.born ≡ false) n)
  rest_makes None r = (r, (tt, tt))
  rest_makes (Some x) (made b g r) = (r, (g, b))

  -- the client holds the objects of the first event, and its new object is the server's next
  pub tells_at : {es : List Tell} {v w : Rows Row} (x : Known) (xs : List Known) (n b : Option Known)
      → ReadsInFlight test ((Name x ∷ (map Name xs ++ (make_tell n ++ ends b))) ++ es) v w
      → TellsAt test es v w x xs n b
  tells_at {es} {v} {w} x xs n b (name h r) =
      let k = reads_all xs (subst (λ (l : List Tell). ReadsInFlight test l v w) (simp append_assoc) r) in
      let c = rest_makes n k.1 in
      let e = rest_ends b c.0 in
      record { target = h; args = k.0; new = c.1.0; plain = c.1.1; rest = e.0; ends_it = e.1.0; range = e.1.1 }

  -- the client holds the object of the first delete
  pub deletes_at : {es : List Tell} {v w : Rows Row} (x : Known) → ReadsInFlight test (Delete x ∷ es) v w
      → DeletesAt test es v w x
  deletes_at x (delete z l h c r) = record { mortal = z; range = l; held = h; rest = r }

-- ---- lists of messages

-- the actions of requests and one more
pub all_asks_more : (rs : List (Message Known)) (r : Message Known) → all_asks (rs ++ r ∷ []) ≡ all_asks rs ++ asks r
all_asks_more [] r = append-nil (asks r)
all_asks_more (x ∷ xs) r = rw (all_asks_more xs r) (sym (append_assoc (asks x) (all_asks xs) (asks r)))

-- the actions of two lists of requests
pub all_asks_both : (rs qs : List (Message Known)) → all_asks (rs ++ qs) ≡ all_asks rs ++ all_asks qs
all_asks_both [] qs = refl
all_asks_both (x ∷ xs) qs = rw (all_asks_both xs qs) (sym (append_assoc (asks x) (all_asks xs) (all_asks qs)))

-- the actions of two lists of events
pub all_tells_more : (es fs : List (Coming Known)) → all_tells (es ++ fs) ≡ all_tells es ++ all_tells fs
all_tells_more [] fs = refl
all_tells_more (x ∷ xs) fs = rw (all_tells_more xs fs) (sym (append_assoc (tells x) (all_tells xs) (all_tells fs)))

-- what holds for each in two lists holds for each in both together
pub each_more : {X : Type 0} (P : X → Type 0) (xs ys : List X) → Each P xs → Each P ys → Each P (xs ++ ys)
each_more P [] ys h p = p
each_more P (x ∷ xs) ys h p = (h.0, each_more P xs ys h.1 p)

-- what holds for each holds for each in the first part
pub each_front : {X : Type 0} (P : X → Type 0) (xs ys : List X) → Each P (xs ++ ys) → Each P xs
each_front P [] ys h = tt
each_front P (x ∷ xs) ys h = (h.0, each_front P xs ys h.1)

-- what holds for each holds for each in the rest
pub each_rest : {X : Type 0} (P : X → Type 0) (xs ys : List X) → Each P (xs ++ ys) → Each P ys
each_rest P [] ys h = h
each_rest P (x ∷ xs) ys h = each_rest P xs ys h.1

-- if each has a property, each has what the property implies
pub each_by : {X : Type 0} (P Q : X → Type 0) (f : (x : X) → P x → Q x) (xs : List X) → Each P xs → Each Q xs
each_by P Q f [] h = tt
each_by P Q f (x ∷ xs) h = (f x h.0, each_by P Q f xs h.1)

-- once both ends have read everything, the objects open at the client are those of the server, and
-- the client has no other in its range
pub record Drained (v : Rows Row) (s : Rows Born) : Type 0 where
  pub same : (id : ℕ) → only_open (v.rows id) ≡ s.rows id
  pub of_client : (id : ℕ) → is_of_server id ≡ false → v.rows id ≡ at_client (s.rows id)
  pub counts : v.by_server ≡ s.by_server

pub drained_rows : {test : Born → Bool} {v m : Rows Row} {s : Rows Born} → ReadsInFlight test [] v m
    → Tied test [] s m → Drained v s
drained_rows done (drained same rows u b c) = record { same = same; of_client = rows; counts = c }
