-- The object that a message made, as the client returns it.
use Rattle.std.proofs.Common.{◌≡◌, ◌⊎◌, inl, inr, ℕ, List, [], ◌∷◌, map, refl, sym, ap, ◌∙◌}
use Rattle.std.specs.Prelude.{option_map}
use Rattle.std.specs.declared.option.Option.{Option}
use Rattle.std.specs.declared.option.Option.TheVariants.{None, Some}
use Rattle.std.specs.declared.result.Result.TheVariants.{Ok}
use Rattle.wl_message.specs.Arrived.{in_front}
use Rattle.wl_message.specs.Cut.{Front, More, Bad, Whole}
use Rattle.wl_object_map.specs.declared.object.Entry.{Entry}
use Rattle.wl_object_map.specs.declared.object.State.{State}
use Rattle.wl_object_map.specs.declared.object.State.TheVariants as states
use Rattle.wl_object_map.specs.Objects.{Objects, look}
use Rattle.wl_client.specs.Reports.{Report, next_answer, after_next, object_made, object_replaced}
use Rattle.theory_connection.specs.Meant.{Born, Known, Message, Coming, Event, Delete, recoming}
use Rattle.theory_connection.specs.Meant.{born_of, birth_of, made_in, live_entry, born_of_entry}
use Rattle.theory_connection.specs.World.{World, IfThere}
use Rattle.theory_connection.specs.World as world
use Rattle.theory_connection.specs.Pair.{PairState}
use Rattle.theory_connection.specs.Answers.{birth_at}
use Rattle.theory_connection.specs.Flight.{NextTold, client_rows, row_of_entry}
use Rattle.theory_connection.specs.Stands.{StandsBy}
use Rattle.theory_connection.specs.Plain.{made_by_coming}
use Rattle.theory_connection.proofs.Channels.{never_bad}
use Rattle.theory_connection.proofs.ErrorRead.{last_on_way, error_answer}
use Rattle.theory_connection.proofs.RowsAfterMessage.{made_map}
use Rattle.theory_connection.proofs.ReadAsMeant.{made_of}
use Rattle.theory_connection.proofs.FoundInFront.{the_found}
use Rattle.theory_connection.proofs.EventRead.{in_event, in_delete, event_answer, delete_answer, deleting}
use Rattle.theory_connection.proofs.ClientNextMove.{answer_is, idle}

-- the object that an event makes has, at the client, the birth that was meant
made_birth : (v : Objects) (n : Option Known) → IfThere (NextTold (client_rows v)) n
    → option_map birth_at (object_made v (option_map made_of n)) ≡ option_map birth_of (option_map born_of n)
made_birth v None g = refl
made_birth v (Some x) g = ap Some (rw g.range (sym g.birth))

-- the object that an event makes replaces no live object
replaces : (v : Objects) (n : Option Known) → IfThere (NextTold (client_rows v)) n
    → object_replaced v (option_map made_of n) ≡ None
replaces v None g = refl
replaces v (Some x) g = by_row (look v x.id) refl
  where
    by_state : (e : Entry) (s : State) → e.state ≡ s → look v x.id ≡ Some e
        → object_replaced v (Some (made_of x)) ≡ None
    by_state e states.Live q h = absurd (g.not_open (born_of_entry x.id e)
        (ap (option_map (row_of_entry x.id)) h ∙ rw q refl))
    by_state e states.Zombie q h = rw (h, q) refl

    by_row : (o : Option Entry) → look v x.id ≡ o → object_replaced v (Some (made_of x)) ≡ None
    by_row None h = rw h refl
    by_row (Some e) h = by_state e e.state refl h

-- The message that is read, and what the client then returns as made and as replaced.
record SaysMade (p : PairState) (told : List (Coming Known)) : Type 0 where
  coming : Coming Known
  rest : List (Coming Known)
  first : told ≡ coming ∷ rest
  made : option_map birth_at (after_next p.client).made ≡ option_map birth_of (made_by_coming (recoming born_of coming))
  replaced : (after_next p.client).replaced ≡ None

-- the same, or the first message is the error, which makes and replaces nothing
abbrev Says : PairState → List (Coming Known) → Type 0
Says p told = SaysMade p told ⊎ ((told ≡ []) × ((after_next p.client).replaced ≡ None))

module _ (p : PairState) (w : World) (asked : List (Message Known)) where
  at_whole : (told : List (Coming Known)) → StandsBy p w asked told → (n : ℕ) → in_front p.client.core.inbox ≡ Whole n
      → Says p told
  at_whole [] s n e =
      let i = last_on_way p w asked s n e in
      let a = error_answer p n i.id i.error s.client.lives i.finds_it in
      inr (refl, ap (λ st. st.replaced) a.leaves)
  at_whole (Event m ∷ cs) s n e =
      let i = in_event p w m cs asked s n e in
      let f = s.events.fit.0.fits in
      let a = answer_is p (the_found n m i.target.entry f.signature) s.client.lives i.finds_it in
      let b = event_answer p m n i.target.entry p.server.core.tables f s.terms.valid s.terms.same_tables
      s.events.fit.0.no_delete_id i.target.same in
      let leaves = a.leaves ∙ b.leaves in
      inl (record {
        coming = Event m;
        rest = cs;
        first = refl;
        made = ap (λ st. option_map birth_at st.made) leaves
            ∙ made_birth p.client.core.view (made_in m.args) i.tells_it.new
            ∙ ap (option_map birth_of) (sym (made_map born_of m.args));
        replaced = ap (λ st. st.replaced) leaves ∙ replaces p.client.core.view (made_in m.args) i.tells_it.new;
      })
  at_whole (Delete x ∷ cs) s n e =
      let i = in_delete p w x cs asked s n e in
      let a = answer_is p (the_found n (deleting x) (live_entry world.display_born) i.signature) s.client.lives i.finds_it in
      let b = delete_answer p x n i.entry i.signature i.deletes_it.range i.deletes_it.mortal i.there i.count in
      let leaves = a.leaves ∙ b.leaves in
      inl (record {
        coming = Delete x;
        rest = cs;
        first = refl;
        made = ap (λ st. option_map birth_at st.made) leaves;
        replaced = ap (λ st. st.replaced) leaves;
      })

  at_front : (told : List (Coming Known)) → StandsBy p w asked told → (report : Report)
      → next_answer p.client ≡ Ok (Some report) → (f : Front) → in_front p.client.core.inbox ≡ f → Says p told
  at_front told s report a More e = absurd (let i = (idle p s.client.lives e).0 in cc (i, a))
  at_front told s report a (Bad n) e = absurd (never_bad p.server.core.outbox p.client.core.inbox _ n s.events.in_boxes e)
  at_front told s report a (Whole n) e = at_whole told s n e

  made_as_meant : (told : List (Coming Known)) (s : StandsBy p w asked told) (coming : Coming Born)
      (rest : List (Coming Born)) → w.events ≡ coming ∷ rest → Says p told
      → option_map birth_at (after_next p.client).made ≡ option_map birth_of (made_by_coming coming)
  made_as_meant told s coming rest e (inl k) =
      let q : map (recoming born_of) (k.coming ∷ k.rest) ≡ coming ∷ rest =
      ap (map (recoming born_of)) (sym k.first) ∙ sym s.events.in_world ∙ e in
      let same : recoming born_of k.coming ≡ coming = cc q in
      k.made ∙ ap (λ (c : Coming Born). option_map birth_of (made_by_coming c)) same
  made_as_meant told s coming rest e (inr k) =
      let none : [] ≡ coming ∷ rest = ap (map (recoming born_of)) (sym k.0) ∙ sym s.events.in_world ∙ e in
      absurd (cc none)

  -- the object that the client returns as made is the one that was meant
  pub as_meant : (told : List (Coming Known)) (s : StandsBy p w asked told) (coming : Coming Born)
      (rest : List (Coming Born)) (report : Report) → w.events ≡ coming ∷ rest
      → next_answer p.client ≡ Ok (Some report)
      → option_map birth_at (after_next p.client).made ≡ option_map birth_of (made_by_coming coming)
  as_meant told s coming rest report e a = made_as_meant told s coming rest e (at_front told s report a _ refl)

  replaces_nothing : (told : List (Coming Known)) → Says p told → (after_next p.client).replaced ≡ None
  replaces_nothing told (inl k) = k.replaced
  replaces_nothing told (inr k) = k.1

  -- that object replaces no live object
  pub replaces_none : (told : List (Coming Known)) (s : StandsBy p w asked told) (report : Report)
      → next_answer p.client ≡ Ok (Some report) → (after_next p.client).replaced ≡ None
  replaces_none told s report a = replaces_nothing told (at_front told s report a _ refl)
