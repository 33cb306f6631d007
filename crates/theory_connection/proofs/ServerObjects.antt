-- Where the objects that the server made are, in the words of the world that the pair represents,
-- and which of them were counted. Also what holds after a request that destroys an object, whoever
-- made it.
use Rattle.std.proofs.Common.{true, false, cond, ◌++◌, ◌∷◌, [], ◌≡◌, ℕ, ◌<◌, ◌≤◌, Bool, List, map, ◌⊎◌, inl}
use Rattle.std.proofs.Common.{inr, refl, sym, ◌∙◌, ap, subst, arith, ◌≢◌}
use Rattle.std.specs.Prelude.{option_map, is_some, ◌↔◌}
use Rattle.std.proofs.lemmas.List.{append_assoc}
use Rattle.std.specs.declared.option.Option.{Option}
use Rattle.std.specs.declared.option.Option.TheVariants.{None, Some}
use Rattle.wl_object_map.specs.declared.object.Maker.{Maker}
use Rattle.wl_object_map.specs.declared.object.Maker.TheVariants.{Client, Server}
use Rattle.wl_object_map.specs.Ranges.{is_of_server, wire_id}
use Rattle.wl_object_map.specs.Objects.{maker_of}
use Rattle.theory_connection.specs.Meant.{Birth, server_birth, Born, Known, Message, Coming, Event}
use Rattle.theory_connection.specs.Meant.{Delete as delete_of, renamed, recoming, born_of, birth_of, known_id}
use Rattle.theory_connection.specs.Meant.{objects, made_in}
use Rattle.theory_connection.specs.World.{World, Row, Open, Ending, IsOpen, IsEnding, IsThere, Each}
use Rattle.theory_connection.specs.Flight.{Rows, Counts, births_in, Ask, Use, Make, Destroy, Tell, Name, Made}
use Rattle.theory_connection.specs.Flight.{Delete, IsHeldInRows, client_rows, server_rows, asks}
use Rattle.theory_connection.specs.Flight.{all_asks, all_tells, make_ask, destroy_ask}
use Rattle.theory_connection.specs.Flight.{ReadsInFlight, Tied, IsAskedBelow}
use Rattle.theory_connection.specs.Pair.{PairState}
use Rattle.theory_connection.specs.Stands.{StandsBy, by_event}
use Rattle.theory_connection.specs.Plain.{In, IsHeldAtClient, MakeComes, DestroyComes, EventMakes, NameComes}
use Rattle.theory_connection.specs.Plain.{NamesBirth, IsNamedInTurn, IsInOrder, MessageNames, BirthsAreOf}
use Rattle.theory_connection.specs.Plain.{IsLatest, made_last, not_made}
use Rattle.theory_connection.specs.Plain.{ServerBirthsAreOf, news, news_told, ask_id, IsUnasked, IsMadeFirst}
use Rattle.theory_connection.proofs.Flight.{counts_after, counts_tied, held_some, range_apart}
use Rattle.theory_connection.proofs.WholeInFlight.{all_asks_both}
use Rattle.theory_connection.proofs.RowsAfterMessage.{map_some, made_map, objects_map}
use Rattle.theory_connection.proofs.Plain as plain
use Rattle.theory_connection.proofs.OfServer.{makes, birth_known}
use Rattle.theory_connection.proofs.OfServer as flight
use Rattle.theory_connection.proofs.Worlds as worlds
use Rattle.theory_connection.proofs.Worlds.{made_maker}
use Rattle.theory_connection.proofs.MessageActions.{in_right, in_map, from_map, each_in, parted}
use Rattle.theory_connection.proofs.MessageActions.{tells_in, in_asks, asked_destroy, news_comes}
use Rattle.theory_connection.proofs.MessageActions.{told_made, use_asked, mades_told, makes_asked}
use Rattle.theory_connection.proofs.MessageActions.{births_told_world, births_asked_world, makes_in}
use Rattle.theory_connection.proofs.MessageActions.{listed_news, news_listed, named_at, mades_front}

-- ---- in the world

module _ (p : PairState) (w : World) (asked : List (Message Known)) (told : List (Coming Known))
    (s : StandsBy p w asked told) where
  abbrev v : Rows Row
  v = client_rows p.client.core.view

  abbrev o : Rows Born
  o = server_rows p.server.core.view

  event_makes : (k : Known) → In (Made k) (all_tells told) → EventMakes w k.born
  event_makes k h = let e = makes_in k told h in record {
    event = renamed born_of e.event;
    there = subst (In (Event (renamed born_of e.event))) (sym s.events.in_world)
        (in_map (recoming born_of) (Event e.event) told e.there);
    makes = made_map born_of e.event.args ∙ ap (option_map born_of) e.makes_it;
  }

  -- the object that an event on the way makes, with its id
  pub event_known : (x : Born) → EventMakes w x → (k : Known) × (In (Made k) (all_tells told) × (k.born ≡ x))
  event_known x h =
      let f = from_map (recoming born_of) (Event h.event) told (subst (In (Event h.event)) s.events.in_world h.there) in
      by_coming f.item f.there f.is
    where
      by_coming : (c : Coming Known) → In c told → recoming born_of c ≡ Event h.event
          → (k : Known) × (In (Made k) (all_tells told) × (k.born ≡ x))
      by_coming (Event m) i e =
          let same : renamed born_of m ≡ h.event = cc e in
          let n : option_map born_of (made_in m.args) ≡ Some x =
          sym (made_map born_of m.args) ∙ ap (λ (r : Message Born). made_in r.args) same ∙ h.makes in
          let k = map_some born_of (made_in m.args) x n in
          (k.0, (tells_in (Made k.0) (Event m) told i (told_made k.0 m k.1), k.2))
      by_coming (delete_of k) i e = absurd (cc e)

  server_range : (id : ℕ) → maker_of id ≡ Server → is_of_server id ≡ true
  server_range id h = by_range (is_of_server id) h
    where
      by_range : (b : Bool) → cond b Server Client ≡ Server → b ≡ true
      by_range true e = refl
      by_range false e = absurd (cc e)

  born_maker : (x y : Born) → x ≡ y → x.birth.maker ≡ y.birth.maker
  born_maker x y e = ap (λ (b : Born). b.birth.maker) e

  -- ---- who makes what

  -- an event makes objects of the server
  pub made_by_event : (x : Born) → EventMakes w x → x.birth.maker ≡ Server
  made_by_event x h = let k = event_known x h in sym (born_maker k.0.born x k.1.1) ∙ made_maker k.0 s.meet.reads k.1.0

  -- ---- where the server's objects are

  -- an object that is open at the server is made by an event, open at the client, or destroyed by a
  -- request
  pub there_where : (x : Born) → IsThere w.server x → EventMakes w x ⊎ IsOpen w.client x ⊎ DestroyComes w x
  there_where x h =
      let k = worlds.there_known p w asked told s x h in
      elim (flight.there_or_asked k.0 s.meet.tied k.1.0) [
        | inl a ↦ elim (flight.open_before k.0 s.meet.reads a) [
          | inl b ↦ inr (inl (subst (IsOpen w.client) k.1.1 (s.client.sets.shown k.0.id (Open k.0.born) b)))
          | inr b ↦ inl (subst (EventMakes w) k.1.1 (event_makes k.0 b))
        ]
        | inr a ↦ inr (inr (subst (DestroyComes w) k.1.1 (worlds.destroy_comes p w asked told s k.0 a)))
      ]

  there_now : (k : Known) (x : Born) → k.born ≡ x → o.rows k.id ≡ Some k.born → IsThere w.server x
  there_now k x e h = subst (IsThere w.server) e (s.server.sets.shown k.id k.born h)

  -- the converse, for an object that the server made
  pub where_there : (x : Born) → x.birth.maker ≡ Server → EventMakes w x ⊎ IsOpen w.client x ⊎ DestroyComes w x
      → IsThere w.server x
  where_there x c h = elim h [
    | inl a ↦ (let k = event_known x a in there_now k.0 x k.1.1
        (plain.open_given k.0 s.meet.tied (plain.made_range k.0 s.meet.reads k.1.0)
        (flight.made_open k.0 s.meet.reads k.1.0)))
    | inr a ↦ elim a [
      | inl b ↦ (let k = worlds.open_row p w asked told s x b in
          let l = server_range k.0.id (worlds.row_by p w asked told s k.0 (inl k.1.0) ∙ born_maker k.0.born x k.1.1 ∙ c) in
          there_now k.0 x k.1.1
          (plain.open_given k.0 s.meet.tied l (flight.open_after k.0.id k.0.born s.meet.reads l k.1.0)))
      | inr b ↦ (let k = worlds.destroy_known p w asked told s x b in
          elim (flight.destroyed_there k.0 s.meet.tied k.1.0) [
            | inl q ↦ there_now k.0 x k.1.1 q
            | inr q ↦ (let f = subst (MakeComes w) k.1.1 (worlds.make_comes p w asked told s k.0 q) in
                let d = worlds.made_by p w asked told s x f in absurd (cc (c, d)))
          ])
    ]
  ]

  -- the client has not counted an object that an event on the way makes
  pub told_not_counted : (x : Born) → EventMakes w x → x.birth.number < p.client.core.view.server.births → ⊥
  told_not_counted x h l =
      let k = event_known x h in
      let later = plain.made_later k.0 s.meet.reads k.1.0 in
      let e = ap (λ (b : Born). b.birth.number) k.1.1 in
      absurd (omega (arith, later, e, l))

  -- the client does not hold an object that an event on the way makes
  made_not_held : (x : Born) (j : Known) → EventMakes w x → j.born ≡ x → IsHeldInRows v j → ⊥
  made_not_held x j h e held =
      let c : j.born.birth.maker ≡ Server = born_maker j.born x e ∙ made_by_event x h in
      let below : j.born.birth.number < births_in v j.born.birth.maker = elim held [
        | inl a ↦ s.client.sets.below j.id (Open j.born) a
        | inr a ↦ s.client.sets.below j.id (Ending j.born) a
      ] in
      let counted : j.born.birth.number < p.client.core.view.server.births =
      subst (λ (m : Maker). j.born.birth.number < births_in v m) c below in
      told_not_counted x h
      (subst (λ (b : Born). b.birth.number < p.client.core.view.server.births) e counted)

  -- an object that an event makes is not open at the client
  pub made_not_open : (x : Born) → EventMakes w x → IsOpen w.client x → ⊥
  made_not_open x h i = let k = worlds.open_row p w asked told s x i in made_not_held x k.0 h k.1.1 (inl k.1.0)

  -- no request on the way destroys an object that an event makes
  pub made_not_destroyed : (x : Born) → EventMakes w x → DestroyComes w x → ⊥
  made_not_destroyed x h i =
      let k = worlds.destroy_known p w asked told s x i in
      made_not_held x k.0 h k.1.1 (inr (flight.destroyed_ending k.0 s.meet k.1.0))

  -- an object that a request on the way destroys is ending at the client
  pub destroyed_is_ending : (x : Born) → DestroyComes w x → IsEnding w.client x
  destroyed_is_ending x h =
      let k = worlds.destroy_known p w asked told s x h in
      subst (IsEnding w.client) k.1.1
      (s.client.sets.shown k.0.id (Ending k.0.born) (flight.destroyed_ending k.0 s.meet k.1.0))

  -- the client has counted an object that the server made and the client holds
  pub held_counted : (x : Born) → x.birth.maker ≡ Server → is_some (w.client x.birth) ≡ true
      → (0 < x.birth.number) × (x.birth.number < p.client.core.view.server.births)
  held_counted x c h =
      let b : server_birth x.birth.number ≡ x.birth = λ i. record { maker = sym c i; number = x.birth.number } in
      (s.client.holds_counted x.birth.number).0 (ap (λ (b : Birth). is_some (w.client b)) b ∙ h)

  -- an object that the server made and that is ending at the client is open at the server if and
  -- only if a request destroys it
  pub ending_there : (x : Born) → x.birth.maker ≡ Server → IsEnding w.client x
      → IsThere w.server x ↔ DestroyComes w x
  ending_there x c h = (
    λ i. elim (there_where x i) [
      | inl a ↦ absurd (told_not_counted x a (held_counted x c (ap is_some h)).1)
      | inr a ↦ elim a [ inl b ↦ absurd (cc (b, h)) | inr b ↦ b ]
    ],
    λ i. where_there x c (inr (inr i)),
  )

  -- ---- the objects that requests name

  named_known : (x : Born) → NameComes w x → (k : Known) × (In (Use k) (all_asks asked) × (k.born ≡ x))
  named_known x h =
      let f = from_map (renamed born_of) h.request asked (subst (In h.request) s.requests.in_world h.there) in
      by_name f.item f.there (subst (MessageNames x) (sym f.is) h.names)
    where
      by_name : (m : Message Known) → In m asked → MessageNames x (renamed born_of m)
          → (k : Known) × (In (Use k) (all_asks asked) × (k.born ≡ x))
      by_name m i n = elim n [
        | inl t ↦ (m.target, (in_asks (Use m.target) m asked i (inl refl), t))
        | inr t ↦ (let f = from_map born_of x (objects m.args) (subst (In x) (objects_map born_of m.args) t) in (
          f.item,
          (in_asks (Use f.item) m asked i (use_asked f.item m f.there), f.is),
        ))
      ]

  -- an object of the server's range that a request names is held at the client
  used_has_row : (k : Known) → In (Use k) (all_asks asked) → IsHeldInRows v k
  used_has_row k i = elim (plain.held_before k s.meet.reads (flight.used_held k s.meet.tied i)) [
    | inl h ↦ h
    | inr h ↦ (let counted = each_in (IsAskedBelow (births_in v)) (Use k) (all_asks asked) s.asks_counted i in
        let below = subst (λ (m : Maker). k.born.birth.number < births_in v m) (made_maker k s.meet.reads h) counted in
        let later = plain.made_later k s.meet.reads h in absurd (omega (arith, below, later)))
  ]

  -- an object that the server made and a request on the way names is open at the server, and the
  -- client holds it
  pub named_open : (x : Born) → x.birth.maker ≡ Server → NameComes w x → IsThere w.server x × IsHeldAtClient w x
  named_open x c h =
      let k = named_known x h in (
        elim (flight.used_there k.0 s.meet.tied k.1.0) [
          | inl q ↦ there_now k.0 x k.1.1 q
          | inr q ↦ (let d = worlds.made_by p w asked told s x
              (subst (MakeComes w) k.1.1 (worlds.make_comes p w asked told s k.0 q)) in absurd (cc (c, d)))
        ],
        subst (IsHeldAtClient w) k.1.1 (worlds.held_world p w asked told s k.0 (used_has_row k.0 k.1.0)),
      )

  -- no request on the way is about an id of the server's range without a row at the client
  pub free_unasked : (id : ℕ) → is_of_server id ≡ true → v.rows id ≡ None → IsUnasked id asked
  free_unasked id range free = each_of (all_asks asked) (λ a i e. by_action a i e)
    where
      by_action : (a : Ask) → In a (all_asks asked) → ask_id a ≡ id → ⊥
      by_action (Use k) i e = held_some v k id (used_has_row k i) free e
      by_action (Make k) i e = range_apart k.id id (plain.make_new k s.meet.tied i).1 range e
      by_action (Destroy k) i e = held_some v k id (inr (flight.destroyed_ending k s.meet i)) free e

      each_of : {P : Ask → Type 0} (qs : List Ask) → ((a : Ask) → In a qs → P a) → Each P qs
      each_of [] f = tt
      each_of (q ∷ qs) f = (f q (inl refl), each_of qs (λ a i. f a (inr i)))

  -- ---- after a destroying request

  -- no request after it is about the id
  pub last_asked_id : (k : Known) (front rest : List (Message Known)) (m : Message Known) → asked ≡ front ++ m ∷ rest
      → m.ends ≡ Some k → IsUnasked k.id rest
  last_asked_id k front rest m e d =
      let actions : asks m ≡ Use m.target ∷ (map Use (objects m.args) ++ (make_ask (made_in m.args) ++ (Destroy k ∷ []))) =
      ap (λ (b : Option Known). Use m.target ∷ (map Use (objects m.args) ++ (make_ask (made_in m.args) ++ destroy_ask b))) d in
      parts (all_asks front) (map Use (objects m.args)) (make_ask (made_in m.args))
      (ap all_asks e ∙ all_asks_both front (m ∷ rest) ∙ ap (λ (l : List Ask). all_asks front ++ (l ++ all_asks rest)) actions)
    where
      parts : (fs us ms : List Ask)
          → all_asks asked ≡ fs ++ ((Use m.target ∷ (us ++ (ms ++ (Destroy k ∷ [])))) ++ all_asks rest)
          → IsUnasked k.id rest
      parts fs us ms q =
          let last = Destroy k ∷ all_asks rest in
          let tail : (us ++ (ms ++ (Destroy k ∷ []))) ++ all_asks rest ≡ (us ++ ms) ++ last =
          append_assoc us (ms ++ (Destroy k ∷ [])) (all_asks rest)
          ∙ ap (λ (l : List Ask). us ++ l) (append_assoc ms (Destroy k ∷ []) (all_asks rest))
          ∙ sym (append_assoc us ms last) in
          let whole : all_asks asked ≡ (fs ++ (Use m.target ∷ (us ++ ms))) ++ last =
          q ∙ ap (λ (l : List Ask). fs ++ (Use m.target ∷ l)) tail
          ∙ sym (append_assoc fs (Use m.target ∷ (us ++ ms)) last) in
          flight.destroyed_last (fs ++ (Use m.target ∷ (us ++ ms))) (all_asks rest) k
          (subst (λ (l : List Ask). Tied (by_event p.server.core.tables) l o s.meet.middle) whole s.meet.tied)

  -- no request after it names the object or destroys it again
  pub last_asked : (before after : List (Message Born)) (request later : Message Born) (x : Born)
      → w.requests ≡ before ++ request ∷ after → request.ends ≡ Some x → In later after
      → MessageNames x later ⊎ (later.ends ≡ Some x) → ⊥
  last_asked before after request later x e d i n =
      let t = parted (renamed born_of) asked before request after (sym s.requests.in_world ∙ e) in
      let f = from_map (renamed born_of) later t.rest (subst (In later) (sym t.rest_is) i) in
      let known : option_map born_of t.item.ends ≡ Some x = ap (λ (r : Message Born). r.ends) t.item_is ∙ d in
      let k = map_some born_of t.item.ends x known in
      at_later t.front t.item t.rest k.0 t.whole k.1 k.2 f.item f.there
      (subst (λ (r : Message Born). MessageNames x r ⊎ (r.ends ≡ Some x)) (sym f.is) n)
    where
      -- an action about the object has its id
      at_ask : (front rest : List (Message Known)) (m : Message Known) (k : Known) → asked ≡ front ++ m ∷ rest
          → m.ends ≡ Some k → k.born ≡ x → (a : Ask) (j : Known) → (a ≡ Use j) ⊎ (a ≡ Destroy j)
          → In a (all_asks rest) → j.born ≡ x → ⊥
      at_ask front rest m k q r b a j is here same =
          let whole : all_asks asked ≡ all_asks front ++ (asks m ++ all_asks rest) =
          ap all_asks q ∙ all_asks_both front (m ∷ rest) in
          let later_on : In a (all_asks asked) = subst (In a) (sym whole)
          (in_right a (all_asks front) (asks m ++ all_asks rest) (in_right a (asks m) (all_asks rest) here)) in
          let first : In (Destroy k) (all_asks asked) = in_asks (Destroy k) m asked
          (subst (In m) (sym q) (in_right m front (m ∷ rest) (inl refl))) (asked_destroy k m r) in
          let ending : IsHeldInRows v k = inr (flight.destroyed_ending k s.meet first) in
          let held : IsHeldInRows v j = elim is [
            | inl u ↦ elim (plain.held_before j s.meet.reads
                (flight.used_held j s.meet.tied (subst (λ (z : Ask). In z (all_asks asked)) u later_on))) [
                  | inl h ↦ h
                  | inr h ↦ absurd (made_not_held x k (subst (EventMakes w) same (event_makes j h)) b ending)
                ]
            | inr u ↦ inr (flight.destroyed_ending j s.meet (subst (λ (z : Ask). In z (all_asks asked)) u later_on))
          ] in
          let one : j ≡ k = worlds.one_id p w asked told s j k held ending (same ∙ sym b) in
          let id : ask_id a ≡ j.id = elim is [ inl u ↦ ap ask_id u | inr u ↦ ap ask_id u ] in
          each_in (λ z. ask_id z ≢ k.id) a (all_asks rest) (last_asked_id k front rest m q r) here
          (id ∙ ap (λ (n : Known). n.id) one)

      at_later : (front : List (Message Known)) (m : Message Known) (rest : List (Message Known)) (k : Known)
          → asked ≡ front ++ m ∷ rest → m.ends ≡ Some k → k.born ≡ x → (l : Message Known) → In l rest
          → MessageNames x (renamed born_of l) ⊎ ((renamed born_of l).ends ≡ Some x) → ⊥
      at_later front m rest k q r b l here n = elim n [
        | inl a ↦ elim a [
          | inl t ↦ at_ask front rest m k q r b (Use l.target) l.target (inl refl)
              (in_asks (Use l.target) l rest here (inl refl)) t
          | inr t ↦ (let f = from_map born_of x (objects l.args) (subst (In x) (objects_map born_of l.args) t) in
              at_ask front rest m k q r b (Use f.item) f.item (inl refl)
              (in_asks (Use f.item) l rest here (use_asked f.item l f.there)) f.is)
        ]
        | inr a ↦ (let j = map_some born_of l.ends x a in
            at_ask front rest m k q r b (Destroy j.0) j.0 (inr refl)
            (in_asks (Destroy j.0) l rest here (asked_destroy j.0 l j.1)) j.2)
      ]

  -- ---- the objects that are made first

  -- the first event that is about an id of the server's range without a row makes an object there
  pub made_first : (id : ℕ) → is_of_server id ≡ true → v.rows id ≡ None → IsMadeFirst id told
  made_first id range free = λ before after action e unnamed about.
      flight.first_makes before after action id
      (subst (λ (l : List Tell). ReadsInFlight (by_event p.server.core.tables) l v s.meet.middle) e s.meet.reads)
      range free unnamed about

  -- an event names, by an id, the object that the client has there when it reads the event
  pub latest_named : (k : Known) (front rest : List (Coming Known)) (m : Message Known) → told ≡ front ++ Event m ∷ rest
      → MessageNames k m → IsLatest v k (news_told front)
  latest_named k front rest m q n =
      let a = named_at k front m rest told q n in
      subst (IsLatest v k) (mades_front front a.names_before)
      (flight.named_latest (all_tells front ++ map Name a.names_before) a.rest k
      (subst (λ (l : List Tell). ReadsInFlight (by_event p.server.core.tables) l v s.meet.middle) a.whole s.meet.reads))

  -- the client holds an object that an event names, or an earlier event makes it
  pub named_in_turn : (x : Born) → IsNamedInTurn w x
  named_in_turn x = λ before after event e n.
      let t = parted (recoming born_of) told before (Event event) after (sym s.events.in_world ∙ e) in
      subst (λ (l : List (Coming Born)). IsHeldAtClient w x ⊎ In x (news_told l)) t.front_is
      (by_coming t.front t.item t.rest t.whole (subst (NamesBirth x) (sym t.item_is) n))
    where
      by_latest : (front : List (Coming Known)) (k : Known) → k.born ≡ x → IsLatest v k (news_told front)
          → IsHeldAtClient w x ⊎ In x (news_told (map (recoming born_of) front))
      by_latest front k b (not_made f h) = inl (subst (IsHeldAtClient w) b (worlds.held_world p w asked told s k h))
      by_latest front k b (made_last earlier later e f) =
          let m = listed_news k front (subst (In k) (sym e) (in_right k earlier (k ∷ later) (inl refl))) in
          inr (news_listed x (renamed born_of m.event) (map (recoming born_of) front)
          (in_map (recoming born_of) (Event m.event) front m.there)
          (made_map born_of m.event.args ∙ ap (option_map born_of) m.makes_it ∙ ap Some b))

      by_coming : (front : List (Coming Known)) (c : Coming Known) (rest : List (Coming Known))
          → told ≡ front ++ c ∷ rest → NamesBirth x (recoming born_of c)
          → IsHeldAtClient w x ⊎ In x (news_told (map (recoming born_of) front))
      by_coming front (Event m) rest q n = elim n [
        | inl a ↦ by_latest front m.target a (latest_named m.target front rest m q (inl refl))
        | inr a ↦ (let f = from_map born_of x (objects m.args) (subst (In x) (objects_map born_of m.args) a) in
            by_latest front f.item f.is (latest_named f.item front rest m q (inr f.there)))
      ]
      by_coming front (delete_of k) rest q n =
          inl (subst (IsHeldAtClient w) n (worlds.held_world p w asked told s k
          (worlds.deleted_is_held p w asked told s k (tells_in (Delete k) (delete_of k) told
          (subst (In (delete_of k)) (sym q) (in_right (delete_of k) front (delete_of k ∷ rest) (inl refl))) (inl refl)))))

  -- ---- what was counted

  -- the births that events make, in order
  pub events_in_order : IsInOrder Server p.client.core.view.server.births p.server.core.view.server.births
      (map birth_of (news_told w.events))
  events_in_order =
      let k = flight.told_in_order s.meet.reads in
      let e = k.1.0 in
      let c = ap (λ (n : Counts). n.births) (counts_tied s.meet.tied) in (
        k.0,
        (
          omega (arith, e, c),
          ap (λ (l : List (Coming Born)). map birth_of (news_told l)) s.events.in_world
              ∙ sym (births_told_world told) ∙ ap (map birth_known) (sym (mades_told told)) ∙ k.1.1,
        ),
      )

  -- the births that requests make, in order
  pub requests_in_order : IsInOrder Client p.server.core.view.client.births p.client.core.view.client.births
      (map birth_of (news w.requests))
  requests_in_order =
      let k = flight.asked_in_order s.meet.tied in
      let e = k.1.0 in
      let c = (counts_after s.meet.reads).1 in (
        k.0,
        (
          omega (arith, e, c),
          ap (λ (l : List (Message Born)). map birth_of (news l)) s.requests.in_world
              ∙ sym (births_asked_world asked) ∙ ap (map birth_known) (sym (makes_asked asked)) ∙ k.1.1,
        ),
      )

  -- the ids of the server's range
  pub server_ids_counted : (id : ℕ) → (id ≤ wire_id p.server.core.view.server.used)
      ↔ ((id ≤ wire_id p.client.core.view.server.used) ⊎ In id (map known_id (news_told told)))
  server_ids_counted id =
      let c = ap (λ (n : Counts). n.next) (counts_tied s.meet.tied) in (
        λ h. elim (flight.ids_told id s.meet.reads (omega (arith, h, c))) [
          | inl a ↦ inl (omega (arith, a))
          | inr a ↦ inr (let e = makes_in a.0 told a.1.0 in
              subst (λ (n : ℕ). In n (map known_id (news_told told))) a.1.1
              (in_map known_id a.0 (news_told told) (news_listed a.0 e.event told e.there e.makes_it)))
        ],
        λ h. elim h [
          | inl a ↦ (let k = (flight.counts_rise s.meet.reads).1 in omega (arith, a, k, c))
          | inr a ↦ (let f = from_map known_id id (news_told told) a in
              let t = listed_news f.item told f.there in
              let k = (flight.made_counted f.item s.meet.reads
              (tells_in (Made f.item) (Event t.event) told t.there (told_made f.item t.event t.makes_it))).1 in
              let e = f.is in omega (arith, e, k, c))
        ],
      )

  server_births_counted : (birth : Birth) → birth.maker ≡ Server
      → (birth.number < p.server.core.view.server.births)
      ↔ ((birth.number < p.client.core.view.server.births) ⊎ In birth (map birth_of (news_told w.events)))
  server_births_counted birth m =
      let c = ap (λ (n : Counts). n.births) (counts_tied s.meet.tied) in (
        λ h. elim (flight.births_told birth s.meet.reads m (omega (arith, h, c))) [
          | inl a ↦ inl a
          | inr a ↦ inr (let e = event_makes a.0 a.1.0 in
              subst (λ (b : Birth). In b (map birth_of (news_told w.events))) a.1.1
              (in_map birth_of a.0.born (news_told w.events) (news_listed a.0.born e.event w.events e.there e.makes)))
        ],
        λ h. elim h [
          | inl a ↦ (let k = (flight.counts_rise s.meet.reads).0 in omega (arith, a, k, c))
          | inr a ↦ (let f = from_map birth_of birth (news_told w.events) a in
              let t = listed_news f.item w.events f.there in
              let k = event_known f.item (record { event = t.event; there = t.there; makes = t.makes_it }) in
              let made = (flight.made_counted k.0 s.meet.reads k.1.0).0 in
              let e = ap (λ (b : Born). b.birth.number) k.1.1 in let g = ap (λ (b : Birth). b.number) f.is in
              omega (arith, made, c, e, g))
        ],
      )

  -- the births of the client
  pub client_births_are : BirthsAreOf p w
  client_births_are = λ birth. (
    λ h. elim ((worlds.births_counted p w asked told s birth h.0).0 h.1) [ inl a ↦ inl (h.0, a) | inr a ↦ inr a ],
    λ h. elim h [
      | inl a ↦ (a.0, (worlds.births_counted p w asked told s birth a.0).1 (inl a.1))
      | inr a ↦ (let f = from_map birth_of birth (news w.requests) a in
          let c : birth.maker ≡ Client = ap (λ (b : Birth). b.maker) (sym f.is)
          ∙ worlds.made_by p w asked told s f.item (news_comes f.item f.there) in
          (c, (worlds.births_counted p w asked told s birth c).1 (inr a)))
    ],
  )

  -- the births of the server
  pub server_births_are : ServerBirthsAreOf p w
  server_births_are = λ birth. (
    λ h. elim ((server_births_counted birth h.0).0 h.1) [ inl a ↦ inl (h.0, a) | inr a ↦ inr a ],
    λ h. elim h [
      | inl a ↦ (a.0, (server_births_counted birth a.0).1 (inl a.1))
      | inr a ↦ (let f = from_map birth_of birth (news_told w.events) a in
          let t = listed_news f.item w.events f.there in
          let c : birth.maker ≡ Server = ap (λ (b : Birth). b.maker) (sym f.is)
          ∙ made_by_event f.item (record { event = t.event; there = t.there; makes = t.makes_it }) in
          (c, (server_births_counted birth c).1 (inr a)))
    ],
  )
