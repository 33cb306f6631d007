-- The move in which the server reads.
use Rattle.std.proofs.Common.{◌≡◌, ◌≢◌, ℕ, Bool, true, false, cond, List, [], ◌∷◌, ◌++◌, map, refl}
use Rattle.std.proofs.Common.{sym, ap, subst, ◌∙◌, arith}
use Rattle.std.specs.Prelude.{not, ◌&&◌}
use Rattle.std.specs.declared.option.Option.{Option}
use Rattle.std.specs.declared.option.Option.TheVariants.{None, Some}
use Rattle.std.specs.declared.result.Result.{Result}
use Rattle.std.specs.declared.result.Result.TheVariants.{Ok, Err}
use Rattle.std.proofs.lemmas.Bool.{ltb-true, ltb-false, and_parts}
use Rattle.wl_sigs.specs.Side.TheVariants.{Request as request_side}
use Rattle.wl_message.specs.Arrived.{in_front}
use Rattle.wl_message.specs.Cut.{Front, More, Bad, Whole, HasMessage}
use Rattle.wl_objects.specs.declared.error.NextError.{NextError}
use Rattle.wl_objects.specs.declared.error.NextError.TheVariants as errors
use Rattle.wl_objects.specs.Reading.{Reported}
use Rattle.wl_connection.specs.Receiving.{Found, found_at, is_empty_list}
use Rattle.wl_server.specs.Requests.{Report, unless_bad_bind, request, report, needs_memory, is_out_full}
use Rattle.wl_server.specs.Requests.{next_answer, after_next, state_past, owes_delete_id}
use Rattle.theory_connection.specs.Meant.{Known, Born, Message, Coming, renamed, born_of, birth_of}
use Rattle.std.specs.Prelude.{option_map}
use Rattle.std.proofs.Common.{cond}
use Rattle.wl_object_map.specs.declared.object.Maker.TheVariants.{Client, Server}
use Rattle.wl_object_map.specs.Ranges.{is_of_server}
use Rattle.wl_object_map.specs.Objects.{Objects}
use Rattle.theory_connection.specs.Meant.{same_maker}
use Rattle.theory_connection.specs.Answers.{is_answered}
use Rattle.theory_connection.proofs.RequestRead.{is_owed}
use Rattle.theory_connection.proofs.RowsAfterMessage.{there_row}
use Rattle.theory_connection.specs.World.{World, IfThere, request_read, reads_request, answer}
use Rattle.theory_connection.specs.Pair.{PairState, ServerNext, with_server, Nexts, answered, no_memory}
use Rattle.theory_connection.specs.Pair.{no_memory_to_open}
use Rattle.theory_connection.specs.Answers.{ReportsRequest, rows_of_server, IsOutFull}
use Rattle.theory_connection.specs.Stands.{StandsBy}
use Rattle.theory_connection.proofs.Channels.{pops, never_bad}
use Rattle.theory_connection.proofs.ReadAsMeant.{reports_right}
use Rattle.theory_connection.proofs.FoundInFront.{the_found}
use Rattle.theory_connection.proofs.EndedObject.{ends_have, if_by}
use Rattle.theory_connection.proofs.WholeInFlight.{ThereRow, id_maker}
use Rattle.theory_connection.specs.Flight.{server_rows}
use Rattle.theory_connection.proofs.RequestRead.{InRequest, in_request, left_state, left_is, owes_is}
use Rattle.theory_connection.proofs.RequestRead.{server_read_stands}
use Rattle.theory_connection.proofs.Moves.{Moves, goes_on, stays, reading_request}
use Rattle.theory_connection.specs.World.{Running}
use Rattle.theory_connection.proofs.Errors.{before, server_lives}

-- ---- nothing at the front

idle : (p : PairState) (w : World) (asked : List (Message Known)) (told : List (Coming Known))
    (s : StandsBy p w asked told) → w.stage ≡ Running → in_front p.server.core.inbox ≡ More
    → (request p.server ≡ Ok None) × (next_answer p.server ≡ Ok None) × (after_next p.server ≡ p.server)
idle p w asked told s z e =
    let r : request p.server ≡ Ok None = ap (λ (f : Front). unless_bad_bind p.server
    (found_at p.server.core request_side f)) e
    in
    (r, rw (server_lives s z, r) refl, rw (server_lives s z, r) refl)

-- ---- a request at the front

record Answered (p : PairState) (m : Message Known) (f : Found) (b : Bool) : Type 0 where
  answer : next_answer p.server ≡ cond b (Err errors.OutFull) (Ok (Some (report p.server.core f)))
  leaves : after_next p.server ≡ cond b p.server (state_past p.server f)

answer_is : (p : PairState) (m : Message Known) (f : Found) (b : Bool) → p.server.core.failed ≡ false
    → request p.server ≡ Ok (Some f) → is_out_full p.server.core f ≡ b → Answered p m f b
answer_is p m f b l r e = record { answer = rw (l, r, e) refl; leaves = rw (l, r, e) refl }

-- the report of a request needs memory only if the request has arguments
is_some_request : (w : World) (m : Message Born) (r : Report) → ReportsRequest w m r → needs_memory r ≡ true
    → m.args ≢ []
is_some_request w m r t h e = by_args r.args refl
  where
    by_args : (args : List Reported) → r.args ≡ args → ⊥
    by_args [] k = cc (ap (λ (l : List Reported). not (is_empty_list l)) k, h)
    by_args (a ∷ args) k = cc (t.args, e, k)

reports : (p : PairState) (w : World) (m : Message Known) (ms : List (Message Known)) (told : List (Coming Known))
    (s : StandsBy p w (m ∷ ms) told) (n : ℕ) (i : InRequest p w m ms told s n)
    → ReportsRequest w (renamed born_of m) (report p.server.core
    (the_found n m i.entry s.requests.fit.0.fits.signature))
reports p w m ms told s n i = record {
  is_open = s.server.sets.shown m.target.id m.target.born i.asks_it.target;
  target = ap birth_of i.same_target;
  opcode = refl;
  args = rw i.tokens_are (reports_right p.server.core.tables request_side p.server.core.view (rows_of_server w) m.args i.more i.met);
}

and_not : (a b : Bool) → (a && b) ≡ false → a ≡ true → b ≡ false
and_not true b h e = h
and_not false b h e = absurd (cc e)

keeps_out_full : (p : PairState) (w : World) (m : Message Known) (ms : List (Message Known))
    (told : List (Coming Known)) (s : StandsBy p w (m ∷ ms) told) (n : ℕ) → w.stage ≡ Running
    → in_front p.server.core.inbox ≡ Whole n → InRequest p w m ms told s n
    → (reply : Result (Option Report) NextError) (p' : PairState)
    → (Nexts needs_memory false (next_answer p.server) p (with_server p (after_next p.server)) reply p')
    → IsOutFull p (renamed born_of m)
    → Nexts needs_memory false (Err errors.OutFull) p p reply p' → Moves p w (m ∷ ms) told ServerNext (ServerNext reply) p'
keeps_out_full p w m ms told s n z e i reply p' d full answered = record {
  world = w;
  answers = before z d (record {
    waits = subst HasMessage (sym e) tt;
    message = renamed born_of m;
    rest = map (renamed born_of) ms;
    first = s.requests.in_world;
    because = full;
    same = refl;
  });
  outcome = goes_on (m ∷ ms) told s stays;
}
keeps_out_full p w m ms told s n z e i reply p' d full (no_memory q h) = absurd (cc q)
keeps_out_full p w m ms told s n z e i reply p' d full (no_memory_to_open q h) = absurd (cc h)

request_there : (p : PairState) (w : World) (m : Message Known) (ms : List (Message Known)) (told : List (Coming Known))
    (s : StandsBy p w (m ∷ ms) told) (n : ℕ) → InRequest p w m ms told s n
    → IfThere (ThereRow (server_rows p.server.core.view)) m.ends
request_there p w m ms told s n i =
    let there = ThereRow (server_rows p.server.core.view) in
    let f = s.requests.fit.0.fits in
    ends_have there p.server.core.tables request_side m f i.asks_it.target i.asks_it.args

keeps_read : (p : PairState) (w : World) (m : Message Known) (ms : List (Message Known)) (told : List (Coming Known))
    (s : StandsBy p w (m ∷ ms) told) (n : ℕ) → w.stage ≡ Running
    → in_front p.server.core.inbox ≡ Whole n → (i : InRequest p w m ms told s n)
    → (reply : Result (Option Report) NextError) (p' : PairState)
    → (Nexts needs_memory false (next_answer p.server) p (with_server p (after_next p.server)) reply p')
    → (IsOutFull p (renamed born_of m) → ⊥)
    → Nexts needs_memory false (Ok (Some (report p.server.core (the_found n m i.entry s.requests.fit.0.fits.signature)))) p
    (with_server p (left_state p.server m n)) reply p'
    → Moves p w (m ∷ ms) told ServerNext (ServerNext reply) p'
keeps_read p w m ms told s n z e i reply p' d room answered = record {
  world = request_read w (renamed born_of m) (map (renamed born_of) ms);
  answers = before z d (record {
    waits = subst HasMessage (sym e) tt;
    message = renamed born_of m;
    steps = reads_request (renamed born_of m) (map (renamed born_of) ms) z s.requests.in_world;
    reports =
        reports p w m ms told s n i;
    has_room = room;
  });
  outcome = goes_on ms (told ++ answer id_maker m.ends) (server_read_stands p w m ms told s n z i.asks_it i.up)
      (reading_request m ms n refl e (if_by (λ x h. s.server.sets.below x.id x.born h) m.ends
      (request_there p w m ms told s n i)));
}
keeps_read p w m ms told s n z e i reply p' d room (no_memory_to_open q h) = absurd (cc h)
keeps_read p w m ms told s n z e i reply p' d room (no_memory {report = r} q h) =
    let same : report p.server.core (the_found n m i.entry s.requests.fit.0.fits.signature) ≡ r = cc q in
    let needs = is_some_request w (renamed born_of m) _ (reports p w m ms told s n i) (ap needs_memory same ∙ h) in
    record {
      world = w;
      answers = before z d (record {
        waits = subst HasMessage (sym e) tt;
        message = renamed born_of m;
        rest = map (renamed born_of) ms;
        first = s.requests.in_world;
        because = (needs, room);
        same = refl;
      });
      outcome = goes_on (m ∷ ms) told s stays;
    }

is_client : (b : Bool) → same_maker (cond b Server Client) Client ≡ not b
is_client true = refl
is_client false = refl

-- a delete follows a request in the world if and only if it does at the end
owed_so : (v : Objects) (o : Option Known) → IfThere (ThereRow (server_rows v)) o
    → is_answered (option_map born_of o) ≡ is_owed o
owed_so v None h = refl
owed_so v (Some x) h =
    let r = there_row v x h in
    ap (λ (b : Born). same_maker b.birth.maker Client) (sym r.same) ∙ is_client (is_of_server x.id)

owes_in : (p : PairState) (w : World) (m : Message Known) (ms : List (Message Known)) (told : List (Coming Known))
    (s : StandsBy p w (m ∷ ms) told) (n : ℕ) (i : InRequest p w m ms told s n)
    → is_answered (option_map born_of m.ends)
    ≡ owes_delete_id p.server.core (the_found n m i.entry s.requests.fit.0.fits.signature)
owes_in p w m ms told s n i =
    owed_so p.server.core.view m.ends (request_there p w m ms told s n i)
    ∙ sym (owes_is p.server m n i.entry s.requests.fit.0.fits s.terms.valid
    i.same_target i.asks_it.target i.asks_it.args)

at_request : (p : PairState) (w : World) (m : Message Known) (ms : List (Message Known)) (told : List (Coming Known))
    (s : StandsBy p w (m ∷ ms) told) (n : ℕ) → w.stage ≡ Running
    → in_front p.server.core.inbox ≡ Whole n → (i : InRequest p w m ms told s n)
    → (reply : Result (Option Report) NextError) (p' : PairState)
    → (Nexts needs_memory false (next_answer p.server) p (with_server p (after_next p.server)) reply p')
    → (b : Bool) → is_out_full p.server.core (the_found n m i.entry s.requests.fit.0.fits.signature) ≡ b
    → Moves p w (m ∷ ms) told ServerNext (ServerNext reply) p'
at_request p w m ms told s n z e i reply p' d true h =
    let a = answer_is p m (the_found n m i.entry s.requests.fit.0.fits.signature) true (server_lives s z) i.finds_it h in
    let k = and_parts _ _ h in
    let owes = owes_in p w m ms told s n i in
    keeps_out_full p w m ms told s n z e i reply p' d (owes ∙ k.0, ltb-true _ _ k.1)
    (subst (λ st. Nexts needs_memory false (Err errors.OutFull) p (with_server p st) reply p') a.leaves
    (subst (λ x. Nexts needs_memory false x p (with_server p (after_next p.server)) reply p') a.answer d))
at_request p w m ms told s n z e i reply p' d false h =
    let f = the_found n m i.entry s.requests.fit.0.fits.signature in
    let a = answer_is p m f false (server_lives s z) i.finds_it h in
    let owes = owes_in p w m ms told s n i in
    keeps_read p w m ms told s n z e i reply p' d
    (λ full. (let no = ltb-false _ _ (and_not _ _ h (sym owes ∙ full.0)) in absurd (omega (arith, no, full.1))))
    (subst (λ st. Nexts needs_memory false (Ok (Some (report p.server.core f))) p (with_server p st) reply p')
    (a.leaves ∙ left_is p.server m n i.entry s.requests.fit.0.fits s.terms.valid i.same_target i.asks_it.target
    i.asks_it.args)
    (subst (λ x. Nexts needs_memory false x p (with_server p (after_next p.server)) reply p') a.answer d))

at_whole : (p : PairState) (w : World) (asked : List (Message Known)) (told : List (Coming Known))
    (s : StandsBy p w asked told) (n : ℕ) → w.stage ≡ Running
    → in_front p.server.core.inbox ≡ Whole n → (reply : Result (Option Report) NextError) (p' : PairState)
    → (Nexts needs_memory false (next_answer p.server) p (with_server p (after_next p.server)) reply p')
    → Moves p w asked told ServerNext (ServerNext reply) p'
at_whole p w [] told s n z e reply p' d = absurd (let q = pops p.client.core.outbox p.server.core.inbox [] n
    s.requests.in_boxes e in cc q.is)
at_whole p w (m ∷ ms) told s n z e reply p' d =
    let i = in_request p w m ms told s n e in
    at_request p w m ms told s n z e i reply p' d _ refl

keeps_idle : (p : PairState) (w : World) (asked : List (Message Known)) (told : List (Coming Known))
    (s : StandsBy p w asked told) → w.stage ≡ Running → in_front p.server.core.inbox ≡ More
    → (reply : Result (Option Report) NextError) (p' : PairState)
    → (Nexts needs_memory false (next_answer p.server) p (with_server p (after_next p.server)) reply p')
    → Nexts needs_memory false (Ok None) p p reply p' → Moves p w asked told ServerNext (ServerNext reply) p'
keeps_idle p w asked told s z e reply p' d answered =
    record { world = w; answers = before z d (λ h. subst HasMessage e h, refl); outcome = goes_on asked told s stays }
keeps_idle p w asked told s z e reply p' d (no_memory q h) = absurd (cc q)
keeps_idle p w asked told s z e reply p' d (no_memory_to_open q h) = absurd (cc h)

at_front : (p : PairState) (w : World) (asked : List (Message Known)) (told : List (Coming Known))
    (s : StandsBy p w asked told) → w.stage ≡ Running
    → (reply : Result (Option Report) NextError) (p' : PairState)
    → (Nexts needs_memory false (next_answer p.server) p (with_server p (after_next p.server)) reply p')
    → (f : Front) → in_front p.server.core.inbox ≡ f → Moves p w asked told ServerNext (ServerNext reply) p'
at_front p w asked told s z reply p' d More e =
    let i = idle p w asked told s z e in
    keeps_idle p w asked told s z e reply p' d
    (subst (λ st. Nexts needs_memory false (Ok None) p (with_server p st) reply p') i.2
    (subst (λ x. Nexts needs_memory false x p (with_server p (after_next p.server)) reply p') i.1 d))
at_front p w asked told s z reply p' d (Bad n) e =
    absurd (never_bad p.client.core.outbox p.server.core.inbox _ n s.requests.in_boxes e)
at_front p w asked told s z reply p' d (Whole n) e = at_whole p w asked told s n z e reply p' d

-- after a read by the server the pair represents the next world
pub server_next_keeps : (p : PairState) (w : World) (asked : List (Message Known)) (told : List (Coming Known))
    → StandsBy p w asked told → w.stage ≡ Running
    → (reply : Result (Option Report) NextError) (p' : PairState)
    → (Nexts needs_memory false (next_answer p.server) p (with_server p (after_next p.server)) reply p')
    → Moves p w asked told ServerNext (ServerNext reply) p'
server_next_keeps p w asked told s z reply p' d = at_front p w asked told s z reply p' d _ refl
