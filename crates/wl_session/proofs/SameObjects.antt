-- The same objects at both ends.
use Rattle.std.proofs.Common.{◌≡◌, ℕ, ◌<◌, ◌≤◌, ◌+◌, ◌-◌, Bool, true, refl, sym, ap, subst, ◌∙◌, inl, inr, arith}
use Rattle.std.proofs.lemmas.Bool.{cases_lt}
use Rattle.std.specs.FinMap.{len}
use Rattle.std.specs.Prelude.{◌↔◌, IsTrue, ltb, not, ◌&&◌, is_some}
use Rattle.std.specs.declared.option.Option.{Option}
use Rattle.std.specs.declared.option.Option.TheVariants.{None, Some}
use Rattle.wl_object_map.specs.declared.object.Entry.{Entry}
use Rattle.wl_object_map.specs.declared.object.State.{State}
use Rattle.wl_object_map.specs.declared.object.State.TheVariants as states
use Rattle.wl_object_map.specs.declared.object.Maker.TheVariants.{Server}
use Rattle.wl_object_map.specs.Ranges.{first_server_id, is_of_server, table_id}
use Rattle.wl_object_map.specs.View as table
use Rattle.wl_object_map.specs.View.{View, Sound, lives_in, lives, times}
use Rattle.wl_object_map.specs.Views.{place_of_id, in_row, in_list, at_null, unused}
use Rattle.wl_object_map.specs.Sounds.{Sound-opening}
use Rattle.wl_object_map.specs.Objects.{Objects, ObjectsAreSound, IsServerRangeNew, look, ids_used, next_birth}
use Rattle.wl_object_map.specs.Objects.{no_interface, row_count}
use Rattle.wl_object_map.specs.ObjectsLaws.{in_range-server, is_from, of_server}
use Rattle.theory_connection.specs.Runs.{AgreeByServer, is_freed, is_zombie}
use Rattle.wl_session.specs.Room.{AreSameByServer, SameByServer, both_live, was_freed}
use Rattle.wl_session.specs.Room.{client_count, object_count}

-- ---- the client's range

-- an id that was not used has no row
no_row : (view : View) (id : ℕ) → Sound view → view.used < id → table.look view id ≡ None
no_row view id s h = elim (place_of_id view s id) [
  | in_row e l t a b ↦ absurd (omega (arith, h, b))
  | in_list l t a b ↦ l
  | at_null l t e ↦ l
  | unused l t a ↦ l
]

-- ---- the server's range

-- two rows are the same if a test of each case says so

pub both_are_live : (b : Bool) (c s : Option Entry) (d e : Entry) → c ≡ Some d → s ≡ Some e
    → IsTrue b ↔ ((d ≡ e) × (d.state ≡ states.Live)) → IsTrue b ↔ AreSameByServer c s
both_are_live b c s d e p q h = (
  λ t. (let r = h.0 t in both_live d p (q ∙ ap Some (sym r.0)) r.1),
  λ a. elim a [
    | both_live x k l live ↦
        (let one : d ≡ x = cc (p, k) in let other : e ≡ x = cc (q, l) in
        h.1 (one ∙ sym other, ap (λ (it : Entry). it.state) one ∙ live))
    | was_freed x k l z ↦ absurd (cc (q, l))
  ],
)

pub one_is_freed : (b : Bool) (c s : Option Entry) (d : Entry) → c ≡ Some d → s ≡ None
    → IsTrue b ↔ (d.state ≡ states.Zombie) → IsTrue b ↔ AreSameByServer c s
one_is_freed b c s d p q h = (
  λ t. was_freed d p q (h.0 t),
  λ a. elim a [
    | both_live x k l live ↦ absurd (cc (q, l))
    | was_freed x k l z ↦ (let one : d ≡ x = cc (p, k) in h.1 (ap (λ (it : Entry). it.state) one ∙ z))
  ],
)

-- what follows for two rows that are the same

same_row : (c s : Option Entry) → AreSameByServer c s
    → (e : Entry) → (s ≡ Some e) ↔ ((c ≡ Some e) × (e.state ≡ states.Live))
same_row c s h e = elim h [
  | both_live d a b l ↦ (
    λ k. (let q : d ≡ e = cc (b, k) in (a ∙ ap Some q, subst (λ (x : Entry). x.state ≡ states.Live) q l)),
    λ k. (let q : d ≡ e = cc (a, k.0) in b ∙ ap Some q),
  )
  | was_freed d a b z ↦ (
    λ k. absurd (cc (b, k)),
    λ k. (let q : d ≡ e = cc (a, k.0) in
        let no : states.Zombie ≡ states.Live = sym z ∙ ap (λ (x : Entry). x.state) q ∙ k.1 in absurd (cc no)),
  )
]

abbrev zombie_in : Option Entry → Bool
zombie_in o = is_some o && not (lives_in o)

zombie_of : (e : Entry) (s : State) → e.state ≡ s → zombie_in (Some e) ≡ not (lives s)
zombie_of e s h = ap (λ (x : State). not (lives x)) h

freed_row : (c s : Option Entry) (listed : ℕ) → AreSameByServer c s → (s ≡ None → listed ≡ 1)
    → ((e : Entry) → s ≡ Some e → listed ≡ 0) → zombie_in c ≡ ltb 0 listed
freed_row c s listed h none some = elim h [
  | both_live d a b l ↦ ap zombie_in a ∙ zombie_of d states.Live l ∙ sym (ap (λ (n : ℕ). ltb 0 n) (some d b))
  | was_freed d a b z ↦ ap zombie_in a ∙ zombie_of d states.Zombie z ∙ sym (ap (λ (n : ℕ). ltb 0 n) (none b))
]

zombie_state : (s : State) → not (lives s) ≡ true → s ≡ states.Zombie
zombie_state states.Live h = absurd (cc h)
zombie_state states.Zombie h = refl

zombie_is : (o : Option Entry) → zombie_in o ≡ true → (e : Entry) × ((o ≡ Some e) × (e.state ≡ states.Zombie))
zombie_is None h = absurd (cc h)
zombie_is (Some e) h = (e, (refl, zombie_state e.state h))

-- an id that was used is among the freed ids, once, if it has no row
listed_once : (view : View) (id : ℕ) → Sound view → 0 < id → id ≤ view.used → table.look view id ≡ None
    → times id view.freed ≡ 1
listed_once view id s low high h = elim (place_of_id view s id) [
  | in_row e l t a b ↦ absurd (cc (l, h))
  | in_list l t a b ↦ t
  | at_null l t e ↦ absurd (omega (arith, low, e))
  | unused l t a ↦ absurd (omega (arith, high, a))
]

not_listed : (view : View) (id : ℕ) (e : Entry) → Sound view → table.look view id ≡ Some e → times id view.freed ≡ 0
not_listed view id e s h = elim (place_of_id view s id) [
  | in_row d l t a b ↦ t
  | in_list l t a b ↦ absurd (cc (l, h))
  | at_null l t z ↦ t
  | unused l t a ↦ t
]

further : (view : View) (id : ℕ) → Sound view → view.used < id → times id view.freed ≡ 0
further view id s h = elim (place_of_id view s id) [
  | in_row d l t a b ↦ t
  | in_list l t a b ↦ absurd (omega (arith, h, b))
  | at_null l t z ↦ t
  | unused l t a ↦ t
]

row_in_server : (o : Objects) (id : ℕ) → is_of_server id ≡ true → look o id ≡ table.look o.server (table_id id)
row_in_server o id range = in_range-server table.look o id range

freed_in_server : (o : Objects) (id : ℕ) → is_of_server id ≡ true
    → is_freed o id ≡ ltb 0 (times (table_id id) o.server.freed)
freed_in_server o id range = in_range-server (λ view place. ltb 0 (times place view.freed)) o id range

-- if the ids that were used have the same objects, all ids of the server's range have
pub same_of_server : (client server : Objects) (used : ℕ) → ObjectsAreSound client → ObjectsAreSound server
    → used ≡ ids_used Server client → used ≡ ids_used Server server
    → next_birth Server client ≡ next_birth Server server
    → SameByServer used client server → AgreeByServer client server
same_of_server client server used c s u v births h = record {
  same = λ id e range. same id e range;
  freed = λ id range. freed id range;
  used = sym u ∙ v;
  births = births;
}
  where
    none_at : (o : Objects) (id : ℕ) → ObjectsAreSound o → used ≡ ids_used Server o → is_of_server id ≡ true
        → first_server_id + used ≤ id → look o id ≡ None
    none_at o id sound is range past =
        let low = is_from id range in
        row_in_server o id range ∙ no_row o.server (table_id id) sound.server (omega (arith, is, past, low))

    same : (id : ℕ) (e : Entry) → is_of_server id ≡ true
        → (look server id ≡ Some e) ↔ ((look client id ≡ Some e) × (e.state ≡ states.Live))
    same id e range = elim (cases_lt id (first_server_id + used)) [
      | inl within ↦ same_row (look client id) (look server id) (h id (is_from id range) within) e
      | inr past ↦ (
        λ k. absurd (cc (none_at server id s v range past, k)),
        λ k. absurd (cc (none_at client id c u range past, k.0)),
      )
    ]

    freed : (id : ℕ) → is_of_server id ≡ true → is_zombie client id ≡ is_freed server id
    freed id range = elim (cases_lt id (first_server_id + used)) [
      | inl within ↦
          (let low = is_from id range in
          let row = row_in_server server id range in
          freed_row (look client id) (look server id) (times (table_id id) server.server.freed) (h id low within)
          (λ none. listed_once server.server (table_id id) s.server (omega (arith, low)) (omega (arith, low, within, v))
          (sym row ∙ none))
          (λ e some. not_listed server.server (table_id id) e s.server (sym row ∙ some))
          ∙ sym (freed_in_server server id range))
      | inr past ↦
          (let low = is_from id range in
          ap zombie_in (none_at client id c u range past)
          ∙ sym (ap (λ (n : ℕ). ltb 0 n) (further server.server (table_id id) s.server (omega (arith, v, past, low))))
          ∙ sym (freed_in_server server id range))
    ]

pub rows_of_server : (client server : Objects) (most : ℕ) → ObjectsAreSound server → most ≡ ids_used Server client
    → AgreeByServer client server → SameByServer most client server
rows_of_server client server most s counted a id low high =
    let range = of_server id low in
    let row = row_in_server server id range in
    let used = a.used in
    elim (place_of_id server.server s.server (table_id id)) [
      | in_row e l t b d ↦
          (let here = (a.same id e range).0 (row ∙ l) in both_live e here.0 (row ∙ l) here.1)
      | in_list l t b d ↦
          (let ended = zombie_is (look client id) (a.freed id range ∙ freed_in_server server id range
          ∙ ap (λ (n : ℕ). ltb 0 n) t) in
          was_freed ended.0 ended.1.0 (row ∙ l) ended.1.1)
      | at_null l t e ↦ absurd (omega (arith, low, e))
      | unused l t d ↦ absurd (omega (arith, low, high, counted, used, d))
    ]

-- ---- if no event makes an object

-- the number of objects is the client's
pub counts_client : (client server : Objects) → IsServerRangeNew server
    → object_count client server ≡ client_count client
counts_client client server s =
    let one = (Sound-opening no_interface).count in
    let none : row_count Server server ≡ 0 = ap (λ (view : View). len view.rows - 1) s ∙ omega (arith, one) in
    ap (λ (n : ℕ). client_count client + n) none ∙ omega arith
