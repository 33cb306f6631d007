-- If no event of the tables makes an object, what is known about the client's objects and ids is
-- known about all.
use Rattle.std.proofs.Common.{◌≡◌, ℕ, ◌≤◌, false, List, ◌⊎◌, inl, inr, refl, sym, ◌∙◌, ap, subst, arith, ◌∷◌}
use Rattle.std.specs.Prelude.{is_some}
use Rattle.std.specs.declared.option.Option.TheVariants.{None}
use Rattle.wl_sigs.specs.Rules.{has_server_objects}
use Rattle.wl_object_map.specs.declared.object.Maker.{Maker}
use Rattle.wl_object_map.specs.declared.object.Maker.TheVariants.{Client, Server}
use Rattle.theory_connection.specs.Meant.{Born, Known, Message, Coming, Event, Delete as delete_of}
use Rattle.theory_connection.specs.World.{World, Row, IsThere, IsEnding}
use Rattle.theory_connection.specs.Flight.{Rows, Counts, Made, client_rows, all_tells}
use Rattle.theory_connection.specs.Pair.{PairState}
use Rattle.theory_connection.specs.Stands.{StandsBy}
use Rattle.theory_connection.specs.Plain.{In, IsHeldAtClient, IsSomewhere, DeleteComes, DestroyComes}
use Rattle.theory_connection.specs.Plain.{EventMakes, IsNowhere, IsOnTheWay, NamesBirth}
use Rattle.theory_connection.proofs.Flight.{counts_tied}
use Rattle.theory_connection.proofs.Stands.{some_births}
use Rattle.theory_connection.proofs.Plain.{made_later, free_asks}
use Rattle.theory_connection.proofs.OfServer.{counts_rise, made_counted, untold}
use Rattle.theory_connection.proofs.Worlds as worlds
use Rattle.theory_connection.proofs.ServerObjects.{event_known, held_counted, there_where}
use Rattle.theory_connection.proofs.ServerObjects.{destroyed_is_ending, named_in_turn, named_open}
use Rattle.theory_connection.proofs.MessageActions.{split_at, listed_news, in_left}

module _ (p : PairState) (w : World) (asked : List (Message Known)) (told : List (Coming Known))
    (s : StandsBy p w asked told) (none : has_server_objects p.server.core.tables ≡ false) where
  abbrev v : Rows Row
  v = client_rows p.client.core.view

  -- neither end has counted a birth of the server
  one_birth : p.server.core.view.server.births ≡ 1
  one_birth = sym s.server.births ∙ s.none_made none

  few_births : p.client.core.view.server.births ≤ 1
  few_births =
      let up = (counts_rise s.meet.reads).0 in
      let same = ap (λ (n : Counts). n.births) (counts_tied s.meet.tied) in
      let one = one_birth in
      omega (arith, up, same, one)

  -- no event on the way makes an object
  none_told : (k : Known) → In (Made k) (all_tells told) → ⊥
  none_told k i =
      let later = made_later k s.meet.reads i in
      let counted = (made_counted k s.meet.reads i).0 in
      let same = ap (λ (n : Counts). n.births) (counts_tied s.meet.tied) in
      let one = one_birth in
      let some = some_births p.client.core.view s.client.sound in
      absurd (omega (arith, later, counted, same, one, some))

  -- the client holds no object that the server made
  none_held : (x : Born) → x.birth.maker ≡ Server → IsHeldAtClient w x → ⊥
  none_held x c h =
      let k = held_counted p w asked told s x c (elim h [ inl a ↦ ap is_some a | inr a ↦ ap is_some a ]) in
      let some = k.0 in let below = k.1 in let few = few_births in
      absurd (omega (arith, some, below, few))

  -- no object that the server made is open at the server
  none_there : (x : Born) → x.birth.maker ≡ Server → IsThere w.server x → ⊥
  none_there x c h = elim (there_where p w asked told s x h) [
    | inl a ↦ (let k = event_known p w asked told s x a in none_told k.0 k.1.0)
    | inr a ↦ elim a [
      | inl b ↦ none_held x c (inl b)
      | inr b ↦ none_held x c (inr (destroyed_is_ending p w asked told s x b))
    ]
  ]

  -- no object that the server made is made, named or deleted on the way
  not_made : (x : Born) → EventMakes w x → ⊥
  not_made x h = let k = event_known p w asked told s x h in none_told k.0 k.1.0

  not_deleted : (x : Born) → x.birth.maker ≡ Server → DeleteComes w x → ⊥
  not_deleted x c h = let d = worlds.deleted_by p w asked told s x h in cc (c, d)

  not_named : (x : Born) → x.birth.maker ≡ Server → (coming : Coming Born) → In coming w.events → NamesBirth x coming
      → ⊥
  not_named x c (Event m) i n =
      let t = split_at (Event m) w.events i in
      elim (named_in_turn p w asked told s x t.front t.back m t.whole n) [
        | inl held ↦ none_held x c held
        | inr made ↦ (let k = listed_news x t.front made in
            not_made x (record {
              event = k.event;
              there = subst (In (Event k.event)) (sym t.whole) (in_left (Event k.event) t.front (Event m ∷ t.back) k.there);
              makes = k.makes_it;
            }))
      ]
  not_named x c (delete_of y) i n =
      not_deleted x c (subst (λ (z : Born). In (delete_of z) w.events) n i)

  none_comes : (x : Born) → x.birth.maker ≡ Server → IsOnTheWay w x → ⊥
  none_comes x c h = elim h [
    | inl a ↦ absurd (let d = worlds.made_by p w asked told s x a in cc (c, d))
    | inr a ↦ elim a [
      | inl b ↦ not_made x b
      | inr b ↦ elim b [
        | inl n ↦ none_there x c (named_open p w asked told s x c n).0
        | inr n ↦ not_named x c n.coming n.there n.names
      ]
    ]
  ]

  -- ---- the laws for all objects and ids

  -- an object that the server made is nowhere
  pub no_object : (x : Born) → x.birth.maker ≡ Server
      → IsHeldAtClient w x ⊎ IsThere w.server x ⊎ IsOnTheWay w x → ⊥
  no_object x c h = elim h [
    | inl a ↦ none_held x c a
    | inr a ↦ elim a [ inl b ↦ none_there x c b | inr b ↦ none_comes x c b ]
  ]

  pub nowhere_free : (id : ℕ) → v.rows id ≡ None → IsNowhere id asked told
  nowhere_free id h = let k = untold id s.meet.reads none_told h in (k.0, free_asks id s.meet.tied k.1)

  pub where_held : (x : Born) → IsHeldAtClient w x → IsSomewhere w x
  where_held x h = by_maker x.birth.maker refl
    where
      by_maker : (m : Maker) → x.birth.maker ≡ m → IsSomewhere w x
      by_maker Client c = worlds.where_held p w asked told s x c h
      by_maker Server c = absurd (none_held x c h)

  pub back_held : (x : Born) → IsSomewhere w x → IsHeldAtClient w x
  back_held x h = by_maker x.birth.maker refl
    where
      by_maker : (m : Maker) → x.birth.maker ≡ m → IsHeldAtClient w x
      by_maker Client c = worlds.back_held p w asked told s x c h
      by_maker Server c = elim h [
        | inl a ↦ absurd (not_deleted x c a)
        | inr a ↦ elim a [
          | inl b ↦ absurd (none_there x c b)
          | inr b ↦ absurd (let d = worlds.made_by p w asked told s x b in cc (c, d))
        ]
      ]

  pub where_ending : (x : Born) → IsEnding w.client x → DeleteComes w x ⊎ DestroyComes w x
  where_ending x h = by_maker x.birth.maker refl
    where
      by_maker : (m : Maker) → x.birth.maker ≡ m → DeleteComes w x ⊎ DestroyComes w x
      by_maker Client c = worlds.where_ending p w asked told s x c h
      by_maker Server c = absurd (none_held x c (inr h))
