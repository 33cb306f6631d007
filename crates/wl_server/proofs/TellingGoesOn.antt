-- Announcing proceeds event by event and registry by registry, and comes to an end.
use Rattle.std.proofs.Common.{◌≡◌, ℕ, ◌+◌, ◌-◌, ◌<◌, ◌≤◌, Bool, true, false, List, [], ◌∷◌, ◌++◌}
use Rattle.std.proofs.Common.{length, take, drop, get_or, set, refl, sym, subst, ◌∙◌, ap, arith}
use Rattle.std.proofs.Common.{append_assoc, length-append}
use Rattle.std.specs.Bool.{MatchBool}
use Rattle.std.specs.Prelude.{◌↔◌}
use Rattle.std.proofs.Common.{inl, inr}
use Rattle.std.proofs.lemmas.Bool.{cases_lt}
use Rattle.std.proofs.lemmas.List.{drop-set-lt, take_at}
use Rattle.wl_message.specs.Outgoing.{room_of}
use Rattle.wl_object_map.specs.Objects.{Objects}
use Rattle.wl_objects.specs.Writing.{message_len}
use Rattle.wl_connection.specs.Core.{Core, IsOrdinary}
use Rattle.wl_connection.specs.Sending.{with_sent}
use Rattle.wl_server.specs.declared.announce.Announced.{Announced}
use Rattle.wl_server.specs.declared.registry.RegistrySlot.{RegistrySlot}
use Rattle.wl_server.specs.Slots.{open_in}
use Rattle.wl_server.proofs.Slots.{before, drop-closed, drop-open, open-is, open-place, open-set}
use Rattle.wl_server.specs.State.{State, Global, Registry, RiseFrom}
use Rattle.wl_server.specs.Announcing.{Due, Fitting, due_len, due_to, owed, owed_in, owed_opcode}
use Rattle.wl_server.specs.Announcing.{values_of, with_dues, marked, all_marked, after_announce}
use Rattle.wl_server.specs.Tellings.{Progress, IsBlocked, IsAnnounced}
use Rattle.wl_server.proofs.OwedEvents.{all-marked-at, all_marked-append, due_len-append}
use Rattle.wl_server.proofs.OwedEvents.{due_len-take, front-for, length-dues, marked_in-own}
use Rattle.wl_server.proofs.OwedEvents.{rising-all, room-dues, tables-dues, view-dues}
use Rattle.wl_server.proofs.OwedEvents.{with_dues-append}

pub begun : (core : Core) (rs : List Registry) (all : List Due) → Progress core rs all 0 core rs all
begun core rs all = record { done = []; whole = refl; number = refl; written = refl; marks = refl; fit = omega arith }

-- no more than 2^24 events fit
pub count-small : (core : Core) (rs : List Registry) (all : List Due) (count : ℕ) (now : Core) (ms : List Registry)
    (rest : List Due) → IsOrdinary core.outbox → Progress core rs all count now ms rest → count ≤ 16777216
count-small core rs all count now ms rest o p = omega (arith, p.number, p.fit, length-dues core.tables p.done, o.2)

-- one more event, with only its registry
pub told-one : (core : Core) (rs : List Registry) (all : List Due) (count : ℕ) (now new : Core) (r : Registry) (d : Due)
    (rest : List Due) → IsOrdinary core.outbox
    → Progress core rs all count now (r ∷ []) (d ∷ rest) → d.object ≡ r.object
    → message_len (values_of now.tables d.owing) ≤ room_of now.outbox
    → new ≡ with_sent now d.object.id (owed_opcode d.owing) (values_of now.tables d.owing) []
    → Progress core rs all (count + 1) new (marked d.owing r ∷ []) rest
told-one core rs all count now new r d rest o p own len w =
    let tables : now.tables ≡ core.tables = ap (λ (c : Core). c.tables) p.written ∙ tables-dues core p.done in
    let room : room_of now.outbox ≡ room_of core.outbox - due_len core.tables p.done =
    ap (λ (c : Core). room_of c.outbox) p.written ∙ room-dues core p.done o in
    let short : message_len (values_of core.tables d.owing) ≤ room_of now.outbox =
    subst (λ t. message_len (values_of t d.owing) ≤ room_of now.outbox) tables len in
    record {
      done = p.done ++ d ∷ [];
      whole = p.whole ∙ sym (append_assoc p.done (d ∷ []) rest);
      number = length-append p.done (d ∷ []) ∙ ap (λ n. n + 1) p.number;
      written = w ∙ ap (λ (c : Core). with_sent c d.object.id (owed_opcode d.owing) (values_of c.tables d.owing) [])
          p.written ∙ sym (with_dues-append core p.done (d ∷ []));
      marks = sym (marked_in-own d r own) ∙ ap (all_marked (d ∷ [])) p.marks
          ∙ sym (all_marked-append p.done (d ∷ []) rs);
      fit = omega (arith, due_len-append core.tables p.done (d ∷ []), p.fit, room, short);
    }

-- what was sent to one registry counts as sent among all
pub told-registry : (core : Core) (rs : List Registry) (all : List Due) (count : ℕ) (now : Core) (ms : List Registry)
    (globals : List Global) (i low high : ℕ) (r after : Registry) (k : ℕ) (new : Core) (rest more : List Due)
    → IsOrdinary core.outbox → RiseFrom low high rs → Progress core rs all count now ms (due_to globals r ++ more)
    → i < length ms → r ≡ get_or ms i r
    → Progress now (r ∷ []) (due_to globals r) k new (after ∷ []) rest
    → Progress core rs all (count + k) new (set ms i after) (rest ++ more)
told-registry core rs all count now ms globals i low high r after k new rest more o rise p l at q =
    let tables : now.tables ≡ core.tables = ap (λ (c : Core). c.tables) p.written ∙ tables-dues core p.done in
    let room : room_of now.outbox ≡ room_of core.outbox - due_len core.tables p.done =
    ap (λ (c : Core). room_of c.outbox) p.written ∙ room-dues core p.done o in
    let fit : due_len core.tables q.done ≤ room_of now.outbox =
    subst (λ t. due_len t q.done ≤ room_of now.outbox) tables q.fit in
    let rising : RiseFrom low high ms = subst (RiseFrom low high) (sym p.marks) (rising-all p.done low high rs rise) in
    let own = front-for r.object _ q.done rest q.whole in
    record {
      done = p.done ++ q.done;
      whole = p.whole ∙ (ap (λ (l : List Due). p.done ++ (l ++ more)) q.whole
          ∙ (ap (λ (l : List Due). p.done ++ l) (append_assoc q.done rest more)
          ∙ sym (append_assoc p.done q.done (rest ++ more))));
      number = omega (arith, length-append p.done q.done, p.number, q.number);
      written = q.written ∙ (ap (λ (c : Core). with_dues c q.done) p.written
          ∙ sym (with_dues-append core p.done q.done));
      marks = sym (all-marked-at q.done low high ms i r after rising l at own (sym q.marks))
          ∙ (ap (all_marked q.done) p.marks ∙ sym (all_marked-append p.done q.done rs));
      fit = omega (arith, due_len-append core.tables p.done q.done, p.fit, room, fit);
    }

pub blocked-more : (core : Core) (rest more : List Due) → IsBlocked core rest → IsBlocked core (rest ++ more)
blocked-more core [] more b = absurd b
blocked-more core (d ∷ rest) more b = b

-- if the next event does not fit, no more events fit
most : (core now : Core) (done rest : List Due) (n : ℕ) → now ≡ with_dues core done → IsOrdinary core.outbox
    → due_len core.tables done ≤ room_of core.outbox → IsBlocked now rest
    → due_len core.tables (take n (done ++ rest)) ≤ room_of core.outbox → n ≤ length done
most core now done [] n w o fit b f = absurd b
most core now done (d ∷ ds) n w o fit b f =
    let tables : now.tables ≡ core.tables = ap (λ (c : Core). c.tables) w ∙ tables-dues core done in
    let room : room_of now.outbox ≡ room_of core.outbox - due_len core.tables done =
    ap (λ (c : Core). room_of c.outbox) w ∙ room-dues core done o in
    let long : room_of now.outbox < message_len (values_of core.tables d.owing) =
    subst (λ t. room_of now.outbox < message_len (values_of t d.owing)) tables b in
    elim (cases_lt (length done) n) [
      | inl over ↦ absurd (omega (arith, due_len-take core.tables done d ds n over))
      | inr within ↦ within
    ]

-- the server after announcing
pub finished : (state : State) (told : Announced) (now : Core) (ms : List Registry) → IsOrdinary state.core.outbox
    → IsAnnounced state.core state.registries (owed state) told now ms
    → Fitting state told.count × (record state { core = now; registries = ms }
    ≡ after_announce state told.count)
finished state told now ms o t =
    let p = t.progress in
    let front : take told.count (owed state) ≡ p.done =
    ap (take told.count) p.whole ∙ take_at p.done t.rest told.count p.number in
    let len : length (owed state) ≡ length p.done + length t.rest = ap length p.whole ∙ length-append p.done t.rest in (
      record {
        there = omega (arith, len, p.number);
        fits = subst (λ (l : List Due). due_len state.core.tables l ≤ room_of state.core.outbox) (sym front) p.fit;
        most = λ n there fits. by_end told.all refl t.end n there
            (subst (λ (l : List Due). due_len state.core.tables (take n l) ≤ room_of state.core.outbox) p.whole fits);
      },
      λ i. record state {
        core = (p.written ∙ ap (with_dues state.core) (sym front)) i;
        registries = (p.marks ∙ ap (λ (l : List Due). all_marked l state.registries) (sym front)) i;
      },
    )
  where
    by_end : (b : Bool) → told.all ≡ b → MatchBool b (t.rest ≡ []) (IsBlocked now t.rest) → (n : ℕ)
        → n ≤ length (owed state)
        → due_len state.core.tables (take n (t.progress.done ++ t.rest)) ≤ room_of state.core.outbox → n ≤ told.count
    by_end true a e n there fits =
        let none : length t.rest ≡ 0 = ap length e in
        omega (arith, there, none, t.progress.number, ap length t.progress.whole, length-append t.progress.done t.rest)
    by_end false a b n there fits = omega (
      arith,
      most state.core now t.progress.done t.rest n t.progress.written o
          t.progress.fit b fits,
      t.progress.number,
    )

nothing-blocked : (now : Core) (rest : List Due) → IsBlocked now rest → length rest ≡ 0 → ⊥
nothing-blocked now [] b e = b
nothing-blocked now (d ∷ ds) b e = cc e

-- all is told if and only if as many events were written as were owed
pub all-told : (state : State) (told : Announced) (now : Core) (ms : List Registry)
    → IsAnnounced state.core state.registries (owed state) told now ms
    → (told.all ≡ true) ↔ (told.count ≡ length (owed state))
all-told state told now ms t = (λ a. counts told.all a t.end, λ n. tells told.all t.end n)
  where
    counts : (b : Bool) → b ≡ true → MatchBool b (t.rest ≡ []) (IsBlocked now t.rest) → told.count ≡ length (owed state)
    counts true a e =
        let none : length t.rest ≡ 0 = ap length e in
        omega (arith, none, t.progress.number, ap length t.progress.whole, length-append t.progress.done t.rest)
    counts false a e = absurd (cc a)

    tells : (b : Bool) → MatchBool b (t.rest ≡ []) (IsBlocked now t.rest) → told.count ≡ length (owed state) → b ≡ true
    tells true e n = refl
    tells false e n =
        absurd (nothing-blocked now t.rest e
        (omega (arith, n, t.progress.number, ap length t.progress.whole, length-append t.progress.done t.rest)))

-- ---- all registries

-- progress after announcing to the next registry
told-next : (core : Core) (rs : List Registry) (all : List Due) (count : ℕ) (now : Core) (xs : List RegistrySlot)
    (globals : List Global) (i high : ℕ) (s u : RegistrySlot) (told : Announced) (new : Core) → IsOrdinary core.outbox
    → RiseFrom 0 high rs → Progress core rs all count now (open_in xs) (owed_in globals (open_in (drop i xs)))
    → i < length xs → s ≡ get_or xs i s → s.is_open ≡ true → u.is_open ≡ true
    → (t : IsAnnounced now (s.registry ∷ []) (due_to globals s.registry) told new (u.registry ∷ []))
    → Progress core rs all (count + told.count) new (open_in (set xs i u))
    (t.rest ++ owed_in globals (open_in (drop (i + 1) xs)))
told-next core rs all count now xs globals i high s u told new o rise p l e is also t =
    let more = owed_in globals (open_in (drop (i + 1) xs)) in
    subst (λ (ms : List Registry). Progress core rs all (count + told.count) new ms (t.rest ++ more))
    (sym (open-set xs i s u l e is also))
    (told-registry core rs all count now (open_in xs) globals (before i xs) 0 high s.registry u.registry told.count new
    t.rest more o rise
    (subst (λ (ms : List Registry). Progress core rs all count now (open_in xs) (owed_in globals ms))
    (drop-open xs i s l e is) p) (open-place xs i s l e is) (open-is xs i s l e is) t.progress)

none-left : (b : Bool) (now : Core) (rest : List Due) → b ≡ true → MatchBool b (rest ≡ []) (IsBlocked now rest)
    → rest ≡ []
none-left true now rest e h = h
none-left false now rest e h = absurd (cc)

some-left : (b : Bool) (now : Core) (rest : List Due) → b ≡ false → MatchBool b (rest ≡ []) (IsBlocked now rest)
    → IsBlocked now rest
some-left true now rest e h = absurd (cc)
some-left false now rest e h = h

-- if all its events were sent, the registries after it are left
pub told-whole : (core : Core) (rs : List Registry) (all : List Due) (count : ℕ) (now : Core) (xs : List RegistrySlot)
    (globals : List Global) (i high : ℕ) (s u : RegistrySlot) (told : Announced) (new : Core) → IsOrdinary core.outbox
    → RiseFrom 0 high rs → Progress core rs all count now (open_in xs) (owed_in globals (open_in (drop i xs)))
    → i < length xs → s ≡ get_or xs i s → s.is_open ≡ true → u.is_open ≡ true
    → (t : IsAnnounced now (s.registry ∷ []) (due_to globals s.registry) told new (u.registry ∷ []))
    → told.all ≡ true
    → Progress core rs all (count + told.count) new (open_in (set xs i u))
    (owed_in globals (open_in (drop (i + 1) (set xs i u))))
told-whole core rs all count now xs globals i high s u told new o rise p l e is also t whole =
    let none : t.rest ≡ [] = none-left told.all new t.rest whole t.end in
    subst (λ (list : List RegistrySlot). Progress core rs all (count + told.count) new (open_in (set xs i u))
    (owed_in globals (open_in list))) (sym (drop-set-lt (i + 1) xs i u (omega arith)))
    (subst (λ (list : List Due). Progress core rs all (count + told.count) new (open_in (set xs i u))
    (list ++ owed_in globals (open_in (drop (i + 1) xs)))) none
    (told-next core rs all count now xs globals i high s u told new o rise p l e is also t))

-- if not, announcing ends
pub told-part : (core : Core) (rs : List Registry) (all : List Due) (count : ℕ) (now : Core) (xs : List RegistrySlot)
    (globals : List Global) (i high : ℕ) (s u : RegistrySlot) (told : Announced) (new : Core) → IsOrdinary core.outbox
    → RiseFrom 0 high rs → Progress core rs all count now (open_in xs) (owed_in globals (open_in (drop i xs)))
    → i < length xs → s ≡ get_or xs i s → s.is_open ≡ true → u.is_open ≡ true
    → (t : IsAnnounced now (s.registry ∷ []) (due_to globals s.registry) told new (u.registry ∷ []))
    → told.all ≡ false
    → IsAnnounced core rs all (record { count = count + told.count; all = false }) new (open_in (set xs i u))
told-part core rs all count now xs globals i high s u told new o rise p l e is also t part = record {
  rest = t.rest ++ owed_in globals (open_in (drop (i + 1) xs));
  progress = told-next core rs all count now xs globals i high s u told new o rise p l e is also t;
  end = blocked-more new t.rest (owed_in globals (open_in (drop (i + 1) xs)))
      (some-left told.all new t.rest part t.end);
}

-- how many events were sent
pub told-count : (core : Core) (rs : List Registry) (all : List Due) (count : ℕ) (now : Core) (xs : List RegistrySlot)
    (globals : List Global) (i high : ℕ) (s u : RegistrySlot) (told : Announced) (new : Core) → IsOrdinary core.outbox
    → RiseFrom 0 high rs → Progress core rs all count now (open_in xs) (owed_in globals (open_in (drop i xs)))
    → i < length xs → s ≡ get_or xs i s → s.is_open ≡ true → u.is_open ≡ true
    → (t : IsAnnounced now (s.registry ∷ []) (due_to globals s.registry) told new (u.registry ∷ []))
    → count + told.count ≤ 16777216
told-count core rs all count now xs globals i high s u told new o rise p l e is also t =
    count-small core rs all (count + told.count) new (open_in (set xs i u)) _ o
    (told-next core rs all count now xs globals i high s u told new o rise p l e is also t)

-- a closed slot is skipped
pub told-none : (core : Core) (rs : List Registry) (all : List Due) (count : ℕ) (now : Core) (xs : List RegistrySlot)
    (globals : List Global) (i : ℕ) (s : RegistrySlot)
    → Progress core rs all count now (open_in xs) (owed_in globals (open_in (drop i xs)))
    → i < length xs → s ≡ get_or xs i s → s.is_open ≡ false
    → Progress core rs all count now (open_in xs) (owed_in globals (open_in (drop (i + 1) xs)))
told-none core rs all count now xs globals i s p l e is =
    subst (λ (ms : List Registry). Progress core rs all count now (open_in xs) (owed_in globals ms))
    (drop-closed xs i s l e is) p

-- the registries' births still rise
pub rising-told : (core : Core) (rs : List Registry) (all : List Due) (told : Announced) (now : Core)
    (ms : List Registry) → IsAnnounced core rs all told now ms → RiseFrom 0 core.view.client.births rs
    → RiseFrom 0 now.view.client.births ms
rising-told core rs all told now ms t h =
    let view : now.view ≡ core.view = ap (λ (c : Core). c.view) t.progress.written ∙ view-dues core t.progress.done in
    subst (λ (v : Objects). RiseFrom 0 v.client.births ms) (sym view)
    (subst (RiseFrom 0 core.view.client.births) (sym t.progress.marks)
    (rising-all t.progress.done 0 core.view.client.births rs h))
