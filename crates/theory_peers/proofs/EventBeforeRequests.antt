-- An event is recorded while requests of the client are not yet recorded.
use Rattle.std.proofs.Common.{◌≡◌, ◌≢◌, ℕ, Bool, true, false, List, [], ◌∷◌, ◌++◌, ◌⊎◌, ◌<◌, ◌≤◌, map, inl, inr}
use Rattle.std.proofs.Common.{sym, ◌∙◌, ap, subst}
use Rattle.std.specs.declared.option.Option.{Option}
use Rattle.std.specs.declared.option.Option.TheVariants.{None, Some}
use Rattle.wl_object_map.specs.Ranges.{is_of_server}
use Rattle.wl_object_map.specs.View.{max_births}
use Rattle.theory_connection.specs.Meant.{Born, Known, server_birth}
use Rattle.theory_connection.specs.World.{Row, Open, Ending, Each, IfThere}
use Rattle.theory_connection.specs.Flight.{Rows, Counts, at, Ask, Tell, Name, Delete, make_tell, ends, IsHeldInRows}
use Rattle.theory_connection.specs.Flight.{NextTold, ReadsInFlight, done as all_read, name, made, end, delete}
use Rattle.theory_connection.specs.Plain.{ask_id}
use Rattle.theory_connection.proofs.Flight.{fresh_range, held_other, held_some, put_row_other, put_row_tells, range_apart}
use Rattle.theory_connection.proofs.Flight.{reads_more}
use Rattle.theory_connection.proofs.WholeInFlight.{OfClient, client_ends, client_told, held_told_if}
use Rattle.theory_recording.specs.Leads.{Joins, Leads, done, use_, make, destroy}
use Rattle.theory_recording.proofs.LeadsByAction.{leads_counts, put_elsewhere, tell_elsewhere}
use Rattle.theory_recording.proofs.LeadsByMessage.{mortal_elsewhere}

same_open : (v : Rows Row) (x n : Known) → IsHeldInRows v x → v.rows x.id ≡ Some (Open n.born) → n.born ≡ x.born
same_open v x n (inl h) a = let q : Some (Open n.born) ≡ Some (Open x.born) = sym a ∙ h in cc q
same_open v x n (inr h) a = let q : Some (Open n.born) ≡ Some (Ending x.born) = sym a ∙ h in absurd (cc q)

-- an object that is held stays held when a request destroys one
held_destroyed : (v : Rows Row) (x n : Known) → IsHeldInRows v x → v.rows n.id ≡ Some (Open n.born)
    → IsHeldInRows (at v n.id (Some (Ending n.born))) x
held_destroyed v x n h a = elim (put_row_tells v.rows n.id (Some (Ending n.born)) x.id) [
  | inl p ↦ inr (p.1 ∙ ap (λ (b : Born). Some (Ending b)) (same_open v x n h (ap v.rows p.0 ∙ a)))
  | inr p ↦ elim h [ inl q ↦ inl (p.1 ∙ q) | inr q ↦ inr (p.1 ∙ q) ]
]

open_apart : (v : Rows Row) (n : Known) (i : ℕ) (b : Born) → v.rows n.id ≡ Some (Open n.born)
    → v.rows i ≡ Some (Ending b) → n.id ≢ i
open_apart v n i b a h e =
    let both : Some (Open n.born) ≡ Some (Ending b) = sym a ∙ ap v.rows e ∙ h in
    absurd (cc both)

module _ {test : Born → Bool} where
  -- what is held before requests is held after them
  pub held_leads : {qs : List Ask} {v w : Rows Row} (x : Known) → Leads test qs v w → IsHeldInRows v x
      → IsHeldInRows w x
  held_leads x done h = h
  held_leads x (use_ a b r) h = held_leads x r h
  held_leads x (make {v = v} {x = n} a r) h =
      held_leads x r (held_other v x n.id (Some (Open n.born)) h (held_some v x n.id h a.free))
  held_leads x (destroy {v = v} {x = n} z a b r) h = held_leads x r (held_destroyed v x n h a)

  -- an ending object stays ending, and no request is about its id
  pub ending_leads : {qs : List Ask} {v w : Rows Row} (i : ℕ) (b : Born) → Leads test qs v w
      → v.rows i ≡ Some (Ending b) → (w.rows i ≡ Some (Ending b)) × Each (λ a. ask_id a ≢ i) qs
  ending_leads i b done h = (h, tt)
  ending_leads i b (use_ {v = v} {x = n} a f r) h =
      let k = ending_leads i b r h in
      (k.0, (open_apart v n i b a h, k.1))
  ending_leads i b (make {v = v} {x = n} a r) h =
      let ne : n.id ≢ i = λ e. (let both : None ≡ Some (Ending b) = sym a.free ∙ ap v.rows e ∙ h in absurd (cc both)) in
      let k = ending_leads i b r (put_row_other v.rows n.id (Some (Open n.born)) i ne ∙ h) in
      (k.0, (ne, k.1))
  ending_leads i b (destroy {v = v} {x = n} z a f r) h =
      let ne : n.id ≢ i = open_apart v n i b a h in
      let k = ending_leads i b r (put_row_other v.rows n.id (Some (Ending n.born)) i ne ∙ h) in
      (k.0, (ne, k.1))

  -- if no open object has an id of the server, that stays so, and no request is about the id
  pub closed_leads : {qs : List Ask} {v w : Rows Row} (i : ℕ) → Leads test qs v w → is_of_server i ≡ true
      → ((b : Born) → v.rows i ≢ Some (Open b))
      → ((b : Born) → w.rows i ≢ Some (Open b)) × Each (λ a. ask_id a ≢ i) qs
  closed_leads i done l h = (h, tt)
  closed_leads i (use_ {v = v} {x = n} a f r) l h =
      let k = closed_leads i r l h in
      (k.0, ((λ e. h n.born (sym (ap v.rows e) ∙ a)), k.1))
  closed_leads i (make {v = v} {x = n} a r) l h =
      let ne : n.id ≢ i = range_apart n.id i (fresh_range a) l in
      let k = closed_leads i r l (λ b q. h b (sym (put_row_other v.rows n.id (Some (Open n.born)) i ne) ∙ q)) in
      (k.0, (ne, k.1))
  closed_leads i (destroy {v = v} {x = n} z a f r) l h =
      let ne : n.id ≢ i = λ e. h n.born (sym (ap v.rows e) ∙ a) in
      let k = closed_leads i r l (λ b q. h b (sym (put_row_other v.rows n.id (Some (Ending n.born)) i ne) ∙ q)) in
      (k.0, (ne, k.1))

  -- the server's next object before requests is its next after them
  next_leads : {qs : List Ask} {v w : Rows Row} (n : Known) → Leads test qs v w → NextTold v n → NextTold w n
  next_leads {v = v} {w = w} n l g =
      let c = leads_counts l in
      record {
        range = g.range;
        not_open = (closed_leads n.id l g.range g.not_open).0;
        next = subst (λ (k : Counts). n.id ≤ k.next) (sym c) g.next;
        birth = g.birth ∙ ap (λ (k : Counts). server_birth k.births) (sym c);
        low = g.low;
        left = subst (λ (k : Counts). k.births < max_births) (sym c) g.left;
      }

  names_held : {qs : List Ask} {v w : Rows Row} (xs : List Known) → Leads test qs v w → Each (IsHeldInRows v) xs
      → ReadsInFlight test (map Name xs) w w
  names_held [] l h = all_read
  names_held (x ∷ xs) l h = name (held_leads x l h.0) (names_held xs l h.1)

  tell_makes : {qs : List Ask} {v w : Rows Row} (n : Option Known) → Leads test qs v w → IfThere (NextTold v) n
      → IfThere (λ x. test x.born ≡ false) n
      → ReadsInFlight test (make_tell n) w (client_told w n) × Leads test qs (client_told v n) (client_told w n)
  tell_makes None l g t = (all_read, l)
  tell_makes (Some x) l g t = (
    made t (next_leads x l g) all_read,
    tell_elsewhere x.id (Open x.born) l (closed_leads x.id l g.range g.not_open).1,
  )

  tell_ends : {qs : List Ask} {v w : Rows Row} (o : Option Known) → Leads test qs v w → IfThere (IsHeldInRows v) o
      → IfThere (λ x. test x.born ≡ true) o → IfThere OfClient o
      → ReadsInFlight test (ends o) w (client_ends o w) × Leads test qs (client_ends o v) (client_ends o w)
  tell_ends None l h t q = (all_read, l)
  tell_ends (Some x) l h t q = (
    end t q (held_leads x l h) all_read,
    put_elsewhere x.id (Some (Ending x.born)) l (mortal_elsewhere x l h t),
  )

  -- an event names what is held, and makes the server's next object: the rows still join after it is
  -- recorded
  pub event_joins : {qs : List Ask} {es : List Tell} {here client : Rows Row} (x : Known) (xs : List Known)
      (n o : Option Known) → Joins test qs es here client → IsHeldInRows here x → Each (IsHeldInRows here) xs
      → IfThere (NextTold here) n → IfThere (λ x. test x.born ≡ false) n → IfThere (IsHeldInRows here) o
      → IfThere (λ x. test x.born ≡ true) o → IfThere OfClient o
      → Joins test qs (es ++ (Name x ∷ (map Name xs ++ (make_tell n ++ ends o)))) (client_ends o (client_told here n))
      client
  event_joins {here = here} x xs n o m h hs g f k t q =
      let c = tell_makes n m.leads g f in
      let e = tell_ends o c.1 (held_told_if here n o g q k) t q in
      record {
        common = client_ends o (client_told m.common n);
        leads = e.1;
        reads = reads_more m.reads (name (held_leads x m.leads h)
            (reads_more (names_held xs m.leads hs) (reads_more c.0 e.0)));
      }

  -- a deserved delete takes back an object that is held: the rows still join after it is recorded
  pub delete_joins : {qs : List Ask} {es : List Tell} {here client : Rows Row} (x : Known)
      → Joins test qs es here client → x.id ≢ 1 → OfClient x → IsHeldInRows here x
      → (test x.born ≡ true) ⊎ (here.rows x.id ≡ Some (Ending x.born))
      → Joins test qs (es ++ Delete x ∷ []) (at here x.id None) client
  delete_joins x m z q h (inl t) = record {
    common = at m.common x.id None;
    leads = put_elsewhere x.id None m.leads (mortal_elsewhere x m.leads h t);
    reads = reads_more m.reads (delete z q (held_leads x m.leads h) (inl t) all_read);
  }
  delete_joins x m z q h (inr e) =
      let k = ending_leads x.id x.born m.leads e in
      record {
        common = at m.common x.id None;
        leads = put_elsewhere x.id None m.leads k.1;
        reads = reads_more m.reads (delete z q (held_leads x m.leads h) (inr k.0) all_read);
      }
