-- The move in which the client reads.
use Rattle.std.proofs.Common.{◌≡◌, ℕ, Bool, true, false, List, [], ◌∷◌, ◌++◌, map, length, take, refl, sym, ap, subst, ◌∙◌}
use Rattle.std.specs.declared.option.Option.{Option}
use Rattle.std.specs.declared.option.Option.TheVariants.{None, Some}
use Rattle.std.specs.declared.result.Result.{Result}
use Rattle.std.specs.declared.result.Result.TheVariants.{Ok}
use Rattle.std.proofs.lemmas.List.{take_at}
use Rattle.wl_sigs.specs.Side.TheVariants.{Event as event_side}
use Rattle.wl_sigs.specs.Tables as sigs
use Rattle.wl_message.specs.Arrived.{in_front}
use Rattle.wl_message.specs.Cut.{Front, More, Bad, Whole, HasMessage}
use Rattle.wl_object_map.specs.declared.object.Entry.{Entry}
use Rattle.wl_object_map.specs.declared.object.State.{State}
use Rattle.wl_object_map.specs.declared.object.State.TheVariants as states
use Rattle.wl_objects.specs.declared.error.NextError.{NextError}
use Rattle.wl_connection.specs.Receiving.{Found, found, found_at, reported}
use Rattle.wl_client.specs.Reports.{Report, report, needs_memory, plain_report, next_answer, after_next, state_past}
use Rattle.wl_client.specs.Reports.{made_by_event, opens_row, event_opens}
use Rattle.wl_client.specs.Reports as reports
use Rattle.std.proofs.Common.{inl, inr, is_some}
use Rattle.std.specs.Prelude.{option_map}
use Rattle.wl_sigs.specs.Tables.{Interface, descriptors}
use Rattle.wl_objects.specs.Messages.{NewObject}
use Rattle.theory_connection.specs.Answers.{birth_at}
use Rattle.theory_connection.specs.Meant.{Known, Born, Message, Coming, Event, Delete, renamed, made_in}
use Rattle.theory_connection.specs.Meant.{recoming, rearg, born_of, birth_of, tokens, live_entry}
use Rattle.theory_connection.specs.World.{World, event_read, delete_read, reads_event, reads_delete}
use Rattle.theory_connection.specs.World as world
use Rattle.theory_connection.specs.Pair.{PairState, ClientNext, with_client, Nexts, answered, no_memory}
use Rattle.theory_connection.specs.Pair.{no_memory_to_open}
use Rattle.theory_connection.specs.Answers.{ReportsArgs, ReportsComing, NeedsMemory}
use Rattle.theory_connection.specs.Flight.{as_row}
use Rattle.theory_connection.specs.Stands.{StandsBy}
use Rattle.theory_connection.proofs.Channels.{never_bad}
use Rattle.theory_connection.proofs.EndedObject.{some_map}
use Rattle.theory_connection.proofs.RowsAfterMessage.{tokens_map, made_map}
use Rattle.theory_connection.proofs.ReadAsMeant.{AllMet, made_of, reports_right, tokens_taken}
use Rattle.theory_connection.proofs.FoundInFront.{the_found, the_message}
use Rattle.theory_connection.proofs.Moves.{Moves, goes_on, stays, reading_event, reading_delete}
use Rattle.theory_connection.proofs.EventRead.{InEvent, in_event, after_event, teaches}
use Rattle.theory_connection.proofs.EventRead.{event_answer, event_stands, event_mortal, InDelete}
use Rattle.theory_connection.proofs.EventRead.{in_delete, after_delete, delete_answer}
use Rattle.theory_connection.proofs.EventRead.{delete_stands, deleting}
use Rattle.theory_connection.specs.World.{is_over}
use Rattle.theory_connection.proofs.Errors.{client_does}
use Rattle.theory_connection.proofs.ErrorRead.{error_keeps}

-- ---- the report and the state left, if a message is found

pub record Answered (p : PairState) (f : Found) : Type 0 where
  pub answer : next_answer p.client ≡ Ok (Some (report p.client.core f))
  pub leaves : after_next p.client ≡ state_past p.client f

pub answer_is : (p : PairState) (f : Found) → p.client.core.failed ≡ false → found p.client.core event_side ≡ Ok (Some f)
    → Answered p f
answer_is p f l r = record { answer = rw (l, r) refl; leaves = rw (l, r) refl }

-- whether what is at the front opens an object at an id that was never used
abbrev opens_in : PairState → Bool
opens_in p = event_opens p.client.core (found p.client.core event_side)

-- a message that opens an object makes one
some_opens : (p : PairState) (f : Found) (o : Option NewObject) → found p.client.core event_side ≡ Ok (Some f)
    → made_by_event p.client.core f.message ≡ o → opens_in p ≡ true → is_some o ≡ true
some_opens p f o e made h = by_made o (sym (ap (event_opens p.client.core) e ∙ ap (opens_row p.client.core.view) made) ∙ h)
  where
    by_made : (n : Option NewObject) → opens_row p.client.core.view n ≡ true → is_some n ≡ true
    by_made None k = absurd (cc k)
    by_made (Some n) k = refl

opens_none : (p : PairState) (f : Found) → found p.client.core event_side ≡ Ok (Some f)
    → made_by_event p.client.core f.message ≡ None → opens_in p ≡ false
opens_none p f e none = ap (event_opens p.client.core) e ∙ ap (opens_row p.client.core.view) none

-- if it opens none, no memory is needed for one
nexts_none : (p : PairState) (reply : Result (Option Report) NextError) (p' : PairState) → opens_in p ≡ false
    → Nexts needs_memory (opens_in p) (next_answer p.client) p (with_client p (after_next p.client)) reply p'
    → Nexts needs_memory false (next_answer p.client) p (with_client p (after_next p.client)) reply p'
nexts_none p reply p' none d = subst
    (λ (b : Bool). Nexts needs_memory b (next_answer p.client) p (with_client p (after_next p.client)) reply p') none d

-- if no whole message waits
pub idle : (p : PairState) → p.client.core.failed ≡ false → in_front p.client.core.inbox ≡ More
    → (next_answer p.client ≡ Ok None) × (after_next p.client ≡ p.client) × (opens_in p ≡ false)
idle p l e =
    let r : found p.client.core event_side ≡ Ok None = ap (found_at p.client.core event_side) e in
    (rw (l, r) refl, rw (l, r) refl, ap (event_opens p.client.core) r)

-- ---- a report that needs memory

is_some_event : (w : World) (m : Message Born) (r : Report) → ReportsComing w (Event m) r → needs_memory r ≡ true
    → NeedsMemory w (Event m)
is_some_event w m (reports.Event target opcode []) t h = absurd (cc h)
is_some_event w m (reports.Event target opcode (a ∷ args)) t h = inl (t.0, λ e. cc (t.3, e))
is_some_event w m (reports.Discarded target opcode own) t h = absurd (cc h)
is_some_event w m (reports.Deleted object) t h = absurd (cc h)
is_some_event w m (reports.Stray id) t h = absurd (cc h)
is_some_event w m (reports.Error id named code text) t h = absurd t

-- ---- an event

reports_as : (p : PairState) (w : World) (m : Message Known) (more : List ℕ) (entry : Entry)
    (signature : sigs.MessageSignature)
    (s : State) → w.client m.target.born.birth ≡ Some (as_row s m.target.born)
    → birth_at (record { id = m.target.id; birth = entry.birth }) ≡ m.target.born.birth
    → p.client.core.inbox.tokens ≡ tokens m.args ++ more → descriptors signature.kinds ≡ length (tokens m.args)
    → ReportsArgs w.client (map (rearg born_of) m.args) (reported p.client.core event_side (the_message m entry signature))
    → ReportsComing w (Event (renamed born_of m))
    (plain_report p.client.core m.opcode (the_message m entry signature) s)
reports_as p w m more entry signature states.Live h b t c a = (h, b, refl, a)
reports_as p w m more entry signature states.Zombie h b t c a = (
  h,
  b,
  refl,
  (λ i. take (c i) (t i)) ∙ take_at (tokens m.args) more (length (tokens m.args)) refl
      ∙ sym (tokens_map born_of m.args),
)

reports_it : (p : PairState) (w : World) (m : Message Known) (cs : List (Coming Known)) (asked : List (Message Known))
    (s : StandsBy p w asked (Event m ∷ cs)) (n : ℕ) (i : InEvent p w m cs asked s n)
    → ReportsComing w (Event (renamed born_of m))
    (report p.client.core (the_found n m i.target.entry s.events.fit.0.fits.signature))
reports_it p w m cs asked s n i =
    let f = s.events.fit.0.fits in
    let a = event_answer p m n i.target.entry p.server.core.tables f s.terms.valid s.terms.same_tables
    s.events.fit.0.no_delete_id
    i.target.same in
    let met = subst (λ (t : List Interface). AllMet t event_side p.client.core.view w.client m.args)
    (sym s.terms.same_tables) i.met in
    let count : descriptors f.signature.kinds ≡ length (tokens m.args) =
    tokens_taken p.server.core.tables m.target.born.version f.signature.kinds m.args f.args in
    let shown = i.target.shown ∙ ap (λ (b : Born). Some (as_row i.target.entry.state b)) i.target.same in
    subst (ReportsComing w (Event (renamed born_of m))) (sym a.tells_it)
    (reports_as p w m i.more i.target.entry f.signature i.target.entry.state shown
    (ap birth_of i.target.same) i.tokens_are count
    (rw i.tokens_are (reports_right p.client.core.tables event_side p.client.core.view w.client m.args i.more met)))

keeps_event : (p : PairState) (w : World) (m : Message Known) (cs : List (Coming Known)) (asked : List (Message Known))
    (s : StandsBy p w asked (Event m ∷ cs)) (n : ℕ) → is_over w.stage ≡ false
    → in_front p.client.core.inbox ≡ Whole n → (i : InEvent p w m cs asked s n)
    → (reply : Result (Option Report) NextError) (p' : PairState)
    → (Nexts needs_memory (opens_in p) (next_answer p.client) p (with_client p (after_next p.client)) reply p')
    → Nexts needs_memory (opens_in p)
    (Ok (Some (report p.client.core (the_found n m i.target.entry s.events.fit.0.fits.signature))))
    p
    (with_client p (after_event p.client m n (teaches m i.target.entry))) reply p'
    → (opens_in p ≡ true → is_some (made_in m.args) ≡ true)
    → Moves p w asked (Event m ∷ cs) ClientNext (ClientNext reply) p'
keeps_event p w m cs asked s n z e i reply p' d answered opened = record {
  world = event_read p.client.core.tables w (renamed born_of m) (map (recoming born_of) cs);
  answers = client_does z tt d (inl (record {
    waits = subst HasMessage (sym e) tt;
    coming = Event (renamed born_of m);
    steps = reads_event (renamed born_of m) (map (recoming born_of) cs) z s.events.in_world;
    reports =
        reports_it p w m cs asked s n i;
  }));
  outcome = goes_on asked cs (event_stands p w m cs asked s n i (event_mortal p w m cs asked s n i))
      (reading_event m cs n i.target.entry refl e);
}
keeps_event p w m cs asked s n z e i reply p' d (no_memory_to_open q h) opened =
    record {
      world = w;
      answers = client_does z tt d (inl (record {
        waits = subst HasMessage (sym e) tt;
        coming = Event (renamed born_of m);
        rest = map (recoming born_of) cs;
        first = s.events.in_world;
        because = inr (ap is_some (made_map born_of m.args) ∙ some_map born_of (made_in m.args) ∙ opened h);
        same = refl;
      }));
      outcome = goes_on asked (Event m ∷ cs) s stays;
    }
keeps_event p w m cs asked s n z e i reply p' d (no_memory {report = r} q h) opened =
    let same : report p.client.core (the_found n m i.target.entry s.events.fit.0.fits.signature) ≡ r = cc q in
    let needs = is_some_event w (renamed born_of m) _ (reports_it p w m cs asked s n i) (ap needs_memory same ∙ h) in
    record {
      world = w;
      answers = client_does z tt d (inl (record {
        waits = subst HasMessage (sym e) tt;
        coming = Event (renamed born_of m);
        rest = map (recoming born_of) cs;
        first = s.events.in_world;
        because = needs;
        same = refl;
      }));
      outcome = goes_on asked (Event m ∷ cs) s stays;
    }

at_event : (p : PairState) (w : World) (m : Message Known) (cs : List (Coming Known)) (asked : List (Message Known))
    (s : StandsBy p w asked (Event m ∷ cs)) (n : ℕ) → is_over w.stage ≡ false
    → in_front p.client.core.inbox ≡ Whole n → (reply : Result (Option Report) NextError) (p' : PairState)
    → (Nexts needs_memory (opens_in p) (next_answer p.client) p (with_client p (after_next p.client)) reply p')
    → Moves p w asked (Event m ∷ cs) ClientNext (ClientNext reply) p'
at_event p w m cs asked s n z e reply p' d =
    let i = in_event p w m cs asked s n e in
    let sig = s.events.fit.0.fits.signature in
    let f = the_found n m i.target.entry sig in
    let a = answer_is p f s.client.lives i.finds_it in
    let b = event_answer p m n i.target.entry p.server.core.tables s.events.fit.0.fits s.terms.valid
    s.terms.same_tables s.events.fit.0.no_delete_id i.target.same in
    keeps_event p w m cs asked s n z e i reply p' d
    (subst (λ st. Nexts needs_memory (opens_in p) (Ok (Some (report p.client.core f))) p (with_client p st) reply p')
    (a.leaves ∙ b.leaves)
    (subst (λ x. Nexts needs_memory (opens_in p) x p (with_client p (after_next p.client)) reply p') a.answer d))
    (λ h. sym (some_map made_of (made_in m.args)) ∙ some_opens p f (option_map made_of (made_in m.args)) i.finds_it
    b.makes h)

-- ---- a delete

keeps_delete : (p : PairState) (w : World) (x : Known) (cs : List (Coming Known)) (asked : List (Message Known))
    (s : StandsBy p w asked (Delete x ∷ cs)) (n : ℕ) → is_over w.stage ≡ false
    → in_front p.client.core.inbox ≡ Whole n → (i : InDelete p x cs s.meet.middle s.behind n)
    → (reply : Result (Option Report) NextError) (p' : PairState)
    → (Nexts needs_memory (opens_in p) (next_answer p.client) p (with_client p (after_next p.client)) reply p')
    → Nexts needs_memory false (Ok (Some (reports.Deleted (record { id = x.id; birth = i.entry.birth })))) p
    (with_client p (after_delete p.client x n)) reply p'
    → Moves p w asked (Delete x ∷ cs) ClientNext (ClientNext reply) p'
keeps_delete p w x cs asked s n z e i reply p' d answered = record {
  world = delete_read w x.born (map (recoming born_of) cs);
  answers = client_does z tt d (inl (record {
    waits = subst HasMessage (sym e) tt;
    coming = Delete x.born;
    steps = reads_delete x.born (map (recoming born_of) cs) z s.events.in_world;
    reports = ap birth_of i.same;
  }));
  outcome = goes_on asked cs (delete_stands p w x cs asked s n i) (reading_delete x cs n refl e);
}
keeps_delete p w x cs asked s n z e i reply p' d (no_memory_to_open q h) = absurd (cc h)
keeps_delete p w x cs asked s n z e i reply p' d (no_memory {report = r} q h) =
    let same : reports.Deleted (record { id = x.id; birth = i.entry.birth }) ≡ r = cc q in
    absurd (cc (ap needs_memory same, h))

at_delete : (p : PairState) (w : World) (x : Known) (cs : List (Coming Known)) (asked : List (Message Known))
    (s : StandsBy p w asked (Delete x ∷ cs)) (n : ℕ) → is_over w.stage ≡ false
    → in_front p.client.core.inbox ≡ Whole n → (reply : Result (Option Report) NextError) (p' : PairState)
    → (Nexts needs_memory (opens_in p) (next_answer p.client) p (with_client p (after_next p.client)) reply p')
    → Moves p w asked (Delete x ∷ cs) ClientNext (ClientNext reply) p'
at_delete p w x cs asked s n z e reply p' d =
    let i = in_delete p w x cs asked s n e in
    let f = the_found n (deleting x) (live_entry world.display_born) i.signature in
    let a = answer_is p f s.client.lives i.finds_it in
    let b = delete_answer p x n i.entry i.signature i.deletes_it.range i.deletes_it.mortal i.there i.count in
    keeps_delete p w x cs asked s n z e i reply p' d
    (subst (λ st. Nexts needs_memory false (Ok (Some (reports.Deleted (record { id = x.id; birth = i.entry.birth })))) p
    (with_client p st) reply p') (a.leaves ∙ b.leaves)
    (subst (λ y. Nexts needs_memory false y p (with_client p (after_next p.client)) reply p')
    (a.answer ∙ ap (λ (r : Report). Ok (Some r)) b.tells_it)
    (nexts_none p reply p' (opens_none p f i.finds_it b.makes_none) d)))

-- ---- whatever is at the front

at_whole : (p : PairState) (w : World) (asked : List (Message Known)) (told : List (Coming Known))
    (s : StandsBy p w asked told) (n : ℕ) → is_over w.stage ≡ false
    → in_front p.client.core.inbox ≡ Whole n → (reply : Result (Option Report) NextError) (p' : PairState)
    → (Nexts needs_memory (opens_in p) (next_answer p.client) p (with_client p (after_next p.client)) reply p')
    → Moves p w asked told ClientNext (ClientNext reply) p'
at_whole p w asked [] s n z e reply p' d = error_keeps p w asked s n e reply p' d
at_whole p w asked (Event m ∷ cs) s n z e reply p' d = at_event p w m cs asked s n z e reply p' d
at_whole p w asked (Delete x ∷ cs) s n z e reply p' d = at_delete p w x cs asked s n z e reply p' d

keeps_idle : (p : PairState) (w : World) (asked : List (Message Known)) (told : List (Coming Known))
    (s : StandsBy p w asked told) → is_over w.stage ≡ false → in_front p.client.core.inbox ≡ More
    → (reply : Result (Option Report) NextError) (p' : PairState)
    → (Nexts needs_memory (opens_in p) (next_answer p.client) p (with_client p (after_next p.client)) reply p')
    → Nexts needs_memory false (Ok None) p p reply p' → Moves p w asked told ClientNext (ClientNext reply) p'
keeps_idle p w asked told s z e reply p' d answered =
    record { world = w; answers = client_does z tt d (λ h. subst HasMessage e h, refl); outcome = goes_on asked told s stays }
keeps_idle p w asked told s z e reply p' d (no_memory q h) = absurd (cc q)
keeps_idle p w asked told s z e reply p' d (no_memory_to_open q h) = absurd (cc h)

at_front : (p : PairState) (w : World) (asked : List (Message Known)) (told : List (Coming Known))
    (s : StandsBy p w asked told) → is_over w.stage ≡ false
    → (reply : Result (Option Report) NextError) (p' : PairState)
    → (Nexts needs_memory (opens_in p) (next_answer p.client) p (with_client p (after_next p.client)) reply p')
    → (f : Front) → in_front p.client.core.inbox ≡ f → Moves p w asked told ClientNext (ClientNext reply) p'
at_front p w asked told s z reply p' d More e =
    let i = idle p s.client.lives e in
    keeps_idle p w asked told s z e reply p' d
    (subst (λ st. Nexts needs_memory false (Ok None) p (with_client p st) reply p') i.1
    (subst (λ x. Nexts needs_memory false x p (with_client p (after_next p.client)) reply p') i.0
    (nexts_none p reply p' i.2 d)))
at_front p w asked told s z reply p' d (Bad n) e =
    absurd (never_bad p.server.core.outbox p.client.core.inbox _ n s.events.in_boxes e)
at_front p w asked told s z reply p' d (Whole n) e = at_whole p w asked told s n z e reply p' d

-- after a read by the client the pair represents the next world
pub client_next_keeps : (p : PairState) (w : World) (asked : List (Message Known)) (told : List (Coming Known))
    → StandsBy p w asked told → is_over w.stage ≡ false
    → (reply : Result (Option Report) NextError) (p' : PairState)
    → (Nexts needs_memory (opens_in p) (next_answer p.client) p (with_client p (after_next p.client)) reply p')
    → Moves p w asked told ClientNext (ClientNext reply) p'
client_next_keeps p w asked told s z reply p' d = at_front p w asked told s z reply p' d _ refl
