-- The rows of an end and the set of births that they represent.
use Rattle.std.proofs.Common.{◌≡◌, ℕ, ◌≤◌, Bool, cond, inl, inr, refl, sym, ◌∙◌, ap, subst, arith}
use Rattle.wl_object_map.specs.declared.object.Maker.{Maker}
use Rattle.wl_object_map.specs.declared.object.Maker.TheVariants.{Client, Server}
use Rattle.wl_object_map.specs.Objects.{maker_of}
use Rattle.std.specs.declared.option.Option.{Option}
use Rattle.std.specs.declared.option.Option.TheVariants.{None, Some}
use Rattle.std.specs.Prelude.{option_map, is_some, ◌<◌, ◌+◌, ◌≢◌, true}
use Rattle.theory_connection.specs.Meant.{Birth, server_birth, IsAmongFirst, Born, Known, birth_of, born_of}
use Rattle.theory_connection.specs.World.{Row, Open, Ending, put, nothing, born_into, same, ending}
use Rattle.theory_connection.specs.World.{gone, births_counted, IfThere}
use Rattle.theory_connection.specs.Flight.{Rows, put_row, at, with_made, with_told, births_in, IsHeldInRows, Fresh}
use Rattle.theory_connection.specs.Flight.{NextTold}
use Rattle.theory_connection.specs.Stands.{ShowsBirths, birth_in, IsEndingOfServer, NoneIsGone, HoldsServerObjects}
use Rattle.theory_connection.proofs.Births.{put_tells, put_same, put_other, counted_more, next_counted, next_uncounted}
use Rattle.theory_connection.proofs.Flight.{put_row_tells, put_row_other}
use Rattle.theory_connection.proofs.WholeInFlight.{ThereRow, client_makes, client_ends, server_makes, server_ends}
use Rattle.theory_connection.proofs.WholeInFlight.{client_told, server_told, FreshTold}

module _ {X : Type 0} (birth : X → Birth) (Gone : X → Type 0) where
  -- the set after the state of an object with a row changed
  pub shows_put : (rows : ℕ → Option X) (n : Maker → ℕ) (w : Birth → Option X) (i : ℕ) (x y : X)
      → ShowsBirths birth Gone rows n w
      → rows i ≡ Some x → birth y ≡ birth x
      → ShowsBirths birth Gone (put_row rows i (Some y)) n (put w (birth y) (Some y))
  shows_put rows n w i x y s h e = record {
    below = λ j z k. elim (put_row_tells rows i (Some y) j) [
      | inl p ↦ (let q : y ≡ z = cc (p.1, k) in
          subst (IsAmongFirst n) (sym e ∙ ap birth q) (s.below i x h))
      | inr p ↦ s.below j z (sym p.1 ∙ k)
    ];
    one = λ j k a b p q r. grind (arith, put_row_tells, s.one j k a b, s.one i k x b, s.one j i a x);
    shown = λ j z k. grind (arith, put_row_tells, put_tells, s.shown j z, s.one i j x z);
    only = λ b z k. elim (put_tells w (birth y) (Some y) b) [
      | inl p ↦ (grind arith, inl (i, grind (arith, put_row_tells)))
      | inr p ↦ (let o = s.only b z (sym p.1 ∙ k) in (
        o.0,
        elim o.1 [
          | inl r ↦ inl (
            r.0,
            put_row_other rows i (Some y) r.0
                (λ q. p.0 (let t : x ≡ z = cc (sym h ∙ ap rows q ∙ r.1) in sym o.0 ∙ ap birth (sym t) ∙ sym e)) ∙ r.1,
          )
          | inr g ↦ inr g
        ],
      ))
    ];
  }

  -- the set without an object that has a row
  pub shows_drop : (rows : ℕ → Option X) (n : Maker → ℕ) (w : Birth → Option X) (i : ℕ) (x : X)
      → ShowsBirths birth Gone rows n w
      → rows i ≡ Some x
      → ShowsBirths birth Gone (put_row rows i None) n (put w (birth x) None)
  shows_drop rows n w i x s h = record {
    below = λ j z k. elim (put_row_tells rows i None j) [
      | inl p ↦ absurd (cc (p.1, k))
      | inr p ↦ s.below j z (sym p.1 ∙ k)
    ];
    one = λ j k a b p q r. grind (arith, put_row_tells, s.one j k a b);
    shown = λ j z k. grind (arith, put_row_tells, put_tells, s.shown j z, s.one i j x z);
    only = λ b z k. elim (put_tells w (birth x) None b) [
      | inl p ↦ grind arith
      | inr p ↦ (let o = s.only b z (sym p.1 ∙ k) in (
        o.0,
        elim o.1 [
          | inl r ↦ inl (
            r.0,
            put_row_other rows i None r.0
                (λ q. p.0 (let t : x ≡ z = cc (sym h ∙ ap rows q ∙ r.1) in sym o.0 ∙ ap birth (sym t))) ∙ r.1,
          )
          | inr g ↦ inr g
        ],
      ))
    ];
  }

  -- The set with one more birth. Its id is free, or is that of an object that may be gone.
  pub shows_make : (rows : ℕ → Option X) (n m : Maker → ℕ) (w : Birth → Option X) (i : ℕ) (y : X)
      → ShowsBirths birth Gone rows n w
      → ((z : X) → rows i ≡ Some z → Gone z) → ((k : Maker) → n k ≤ m k) → IsAmongFirst m (birth y)
      → (IsAmongFirst n (birth y) → ⊥)
      → ShowsBirths birth Gone (put_row rows i (Some y)) m (put w (birth y) (Some y))
  shows_make rows n m w i y s free more counted new = record {
    below = λ j z k. elim (put_row_tells rows i (Some y) j) [
      | inl p ↦ (let q : y ≡ z = cc (p.1, k) in subst (IsAmongFirst m) (ap birth q) counted)
      | inr p ↦ counted_more (birth z) n m (s.below j z (sym p.1 ∙ k)) more
    ];
    one = λ j k a b p q r. elim (put_row_tells rows i (Some y) j) [
      | inl c ↦ elim (put_row_tells rows i (Some y) k) [
        | inl d ↦ c.0 ∙ sym d.0
        | inr d ↦ (let f : y ≡ a = cc (c.1, p) in
            absurd (new_birth k b (sym d.1 ∙ q) (ap birth f ∙ r)))
      ]
      | inr c ↦ elim (put_row_tells rows i (Some y) k) [
        | inl d ↦ (let f : y ≡ b = cc (d.1, q) in
            absurd (new_birth j a (sym c.1 ∙ p) (ap birth f ∙ sym r)))
        | inr d ↦ s.one j k a b (sym c.1 ∙ p) (sym d.1 ∙ q) r
      ]
    ];
    shown = λ j z k. elim (put_row_tells rows i (Some y) j) [
      | inl p ↦ (let q : y ≡ z = cc (p.1, k) in
          subst (λ (x : X). put w (birth y) (Some y) (birth x) ≡ Some x) q (put_same w (birth y) (Some y)))
      | inr p ↦ (let there = sym p.1 ∙ k in put_other w (birth y) (Some y) (birth z)
          (λ q. new_birth j z there (sym q)) ∙ s.shown j z there)
    ];
    only = λ b z k. elim (put_tells w (birth y) (Some y) b) [
      | inl p ↦ (grind arith, inl (i, grind (arith, put_row_tells)))
      | inr p ↦ (let o = s.only b z (sym p.1 ∙ k) in (
        o.0,
        elim o.1 [
          | inl r ↦ elim (put_row_tells rows i (Some y) r.0) [
            | inl c ↦ inr (free z (ap rows (sym c.0) ∙ r.1))
            | inr c ↦ inl (r.0, c.1 ∙ r.1)
          ]
          | inr g ↦ inr g
        ],
      ))
    ];
  }
    where
      new_birth : (j : ℕ) (z : X) → rows j ≡ Some z → birth y ≡ birth z → ⊥
      new_birth j z k q = new (subst (IsAmongFirst n) (sym q) (s.below j z k))

-- ---- the client's set

-- ending an object does not change the count of births
pub births_ends : (o : Option Known) (v : Rows Row) → (client_ends o v).births ≡ v.births
births_ends (Some x) v = refl
births_ends None v = refl

-- an object that is made is counted
pub births_makes : (v : Rows Row) (n : Option Known) → (client_makes v n).births ≡ births_counted n v.births
births_makes v None = refl
births_makes v (Some n) = refl

-- events do not change the count of the client's births
pub births_told : (v : Rows Row) (n : Option Known) → (client_told v n).births ≡ v.births
births_told v None = refl
births_told v (Some n) = refl

-- the count of the server's births at the server
pub server_births_ends : (o : Option Known) (s : Rows Born) → (server_ends o s).by_server.births ≡ s.by_server.births
server_births_ends None s = refl
server_births_ends (Some x) s = refl

pub server_births_makes : (s : Rows Born) (n : Option Known) → (server_makes s n).by_server.births ≡ s.by_server.births
server_births_makes s None = refl
server_births_makes s (Some n) = refl

pub server_births_told : (s : Rows Born) (n : Option Known)
    → (server_told s n).by_server.births ≡ births_counted n s.by_server.births
server_births_told s None = refl
server_births_told s (Some n) = refl

-- changing a row does not change the counts
pub at_count : {X : Type 0} (v : Rows X) (i : ℕ) (o : Option X) → births_in (at v i o) ≡ births_in v
at_count v i o = let each : (k : Maker) → births_in (at v i o) k ≡ births_in v k = by_maker in λ j k. each k j
  where
    by_maker : (k : Maker) → births_in (at v i o) k ≡ births_in v k
    by_maker Client = refl
    by_maker Server = refl

pub ends_count : (o : Option Known) (v : Rows Row) → births_in (client_ends o v) ≡ births_in v
ends_count None v = refl
ends_count (Some x) v = at_count v x.id (Some (Ending x.born))

pub gone_count : (o : Option Known) (s : Rows Born) → births_in (server_ends o s) ≡ births_in s
gone_count None s = refl
gone_count (Some x) s = at_count s x.id None

-- making an object lowers no count
pub made_counts : {X : Type 0} (v : Rows X) (i : ℕ) (x : X) (k : Maker)
    → births_in v k ≤ births_in (with_made v i x) k
made_counts v i x Client = omega arith
made_counts v i x Server = omega arith

pub told_counts : {X : Type 0} (v : Rows X) (i : ℕ) (x : X) (k : Maker)
    → births_in v k ≤ births_in (with_told v i x) k
told_counts v i x Client = omega arith
told_counts v i x Server = omega arith

-- the client's set after the client made an object
pub client_made : (v : Rows Row) (w : Birth → Option Row) (n : Option Known)
    → ShowsBirths birth_in IsEndingOfServer v.rows (births_in v) w
    → IfThere (Fresh v) n
    → ShowsBirths birth_in IsEndingOfServer (client_makes v n).rows (births_in (client_makes v n))
    (born_into Open (option_map (λ x. x.born) n) w)
client_made v w None s c = s
client_made v w (Some n) s c =
    shows_make birth_in IsEndingOfServer v.rows (births_in v) (births_in (with_made v n.id (Open n.born))) w n.id
    (Open n.born) s (λ z h. absurd (cc (c.free, h))) (made_counts v n.id (Open n.born))
    (next_counted n.born.birth Client v.births (births_in (with_made v n.id (Open n.born))) c.birth (omega arith))
    (next_uncounted n.born.birth Client (births_in v) c.birth)

-- the client's set after an event made an object, at a free id or replacing an ending object
pub client_learns : (v : Rows Row) (w : Birth → Option Row) (n : Option Known)
    → ShowsBirths birth_in IsEndingOfServer v.rows (births_in v) w
    → IfThere (NextTold v) n
    → ((id : ℕ) (r : Row) → v.rows id ≡ Some r → (birth_in r).maker ≡ maker_of id)
    → ShowsBirths birth_in IsEndingOfServer (client_told v n).rows (births_in (client_told v n))
    (born_into Open (option_map (λ x. x.born) n) w)
client_learns v w None s c by = s
client_learns v w (Some n) s c by =
    shows_make birth_in IsEndingOfServer v.rows (births_in v) (births_in (with_told v n.id (Open n.born))) w n.id
    (Open n.born) s gone (told_counts v n.id (Open n.born))
    (next_counted n.born.birth Server v.by_server.births (births_in (with_told v n.id (Open n.born))) c.birth (omega arith))
    (next_uncounted n.born.birth Server (births_in v) c.birth)
  where
    gone : (z : Row) → v.rows n.id ≡ Some z → IsEndingOfServer z
    gone (Open x) h = absurd (c.not_open x h)
    gone (Ending x) h = by n.id (Ending x) h ∙ ap (λ (b : Bool). cond b Server Client) c.range

-- the client's set after an object started ending
pub client_ended : (v : Rows Row) (w : Birth → Option Row) (o : Option Known)
    → ShowsBirths birth_in IsEndingOfServer v.rows (births_in v) w
    → IfThere (IsHeldInRows v) o
    → ShowsBirths birth_in IsEndingOfServer (client_ends o v).rows (births_in v) (ending (option_map born_of o) w)
client_ended v w None s h = s
client_ended v w (Some x) s h = elim h [
  | inl p ↦ shows_put birth_in IsEndingOfServer v.rows (births_in v) w x.id (Open x.born) (Ending x.born) s p refl
  | inr p ↦ shows_put birth_in IsEndingOfServer v.rows (births_in v) w x.id (Ending x.born) (Ending x.born) s p refl
]

-- the client's set after an object was deleted
pub client_deleted : (v : Rows Row) (w : Birth → Option Row) (x : Known)
    → ShowsBirths birth_in IsEndingOfServer v.rows (births_in v) w
    → IsHeldInRows v x
    → ShowsBirths birth_in IsEndingOfServer (at v x.id None).rows (births_in v) (put w x.born.birth None)
client_deleted v w x s h = elim h [
  | inl p ↦ shows_drop birth_in IsEndingOfServer v.rows (births_in v) w x.id (Open x.born) s p
  | inr p ↦ shows_drop birth_in IsEndingOfServer v.rows (births_in v) w x.id (Ending x.born) s p
]

-- ---- the server's objects that the client holds

-- the count of the server's births at the client
pub told_births_ends : (o : Option Known) (v : Rows Row) → (client_ends o v).by_server.births ≡ v.by_server.births
told_births_ends None v = refl
told_births_ends (Some x) v = refl

pub told_births_makes : (v : Rows Row) (n : Option Known) → (client_makes v n).by_server.births ≡ v.by_server.births
told_births_makes v None = refl
told_births_makes v (Some n) = refl

pub told_births : (v : Rows Row) (n : Option Known)
    → (client_told v n).by_server.births ≡ births_counted n v.by_server.births
told_births v None = refl
told_births v (Some n) = refl

-- an object that has a row is in the set
pub held_in : {births : Maker → ℕ} (v : Rows Row) (w : Birth → Option Row) (o : Option Known)
    → ShowsBirths birth_in IsEndingOfServer v.rows births w → IfThere (IsHeldInRows v) o
    → IfThere (λ x. is_some (w x.born.birth) ≡ true) o
held_in v w None s h = tt
held_in v w (Some x) s h = elim h [
  | inl p ↦ ap is_some (s.shown x.id (Open x.born) p)
  | inr p ↦ ap is_some (s.shown x.id (Ending x.born) p)
]

-- which of the server's objects the client holds depends only on which of the server's births are
-- in the set
holds_same : (n : ℕ) (f g : Birth → Option Row) → HoldsServerObjects n f
    → ((number : ℕ) → is_some (g (server_birth number)) ≡ is_some (f (server_birth number))) → HoldsServerObjects n g
holds_same n f g h e = λ number. ((λ k. (h number).0 (sym (e number) ∙ k)), (λ k. e number ∙ (h number).1 k))

of_maker : (b : Birth) (number : ℕ) → b.maker ≡ Client → server_birth number ≢ b
of_maker b number c e = let k = ap (λ (x : Birth). x.maker) e in cc (k, c)

-- changing an object that the client made does not change them
pub holds_other : (n : ℕ) (w : Birth → Option Row) (b : Birth) (o : Option Row) → b.maker ≡ Client → HoldsServerObjects n w
    → HoldsServerObjects n (put w b o)
holds_other n w b o c h =
    holds_same n w (put w b o) h (λ number. ap is_some (put_other w b o (server_birth number) (of_maker b number c)))

-- an object that starts ending does not change them, since it was held
pub holds_ended : (n : ℕ) (w : Birth → Option Row) (o : Option Known) → HoldsServerObjects n w
    → IfThere (λ x. is_some (w x.born.birth) ≡ true) o → HoldsServerObjects n (ending (option_map born_of o) w)
holds_ended n w None h k = h
holds_ended n w (Some x) h k = holds_same n w (put w x.born.birth (Some (Ending x.born))) h (λ number.
    elim (put_tells w x.born.birth (Some (Ending x.born)) (server_birth number)) [
      | inl p ↦ ap is_some p.1 ∙ sym (ap (λ (b : Birth). is_some (w b)) p.0 ∙ k)
      | inr p ↦ ap is_some p.1
    ])

-- an object that a request makes does not change them
pub holds_made : (n : ℕ) (w : Birth → Option Row) (v : Rows Row) (o : Option Known) → IfThere (Fresh v) o
    → HoldsServerObjects n w → HoldsServerObjects n (born_into Open (option_map born_of o) w)
holds_made n w v None f h = h
holds_made n w v (Some x) f h =
    holds_other n w x.born.birth (Some (Open x.born)) (ap (λ (b : Birth). b.maker) f.birth) h

-- an object that an event makes is added to them, and is counted
pub holds_told : (w : Birth → Option Row) (v : Rows Row) (o : Option Known) → 0 < v.by_server.births
    → IfThere (NextTold v) o → HoldsServerObjects v.by_server.births w
    → HoldsServerObjects (births_counted o v.by_server.births) (born_into Open (option_map born_of o) w)
holds_told w v None some f h = h
holds_told w v (Some x) some f h = λ number.
    elim (put_tells w x.born.birth (Some (Open x.born)) (server_birth number)) [
      | inl p ↦ (let e = ap (λ (b : Birth). b.number) (p.0 ∙ f.birth) in (
        λ k. (omega (arith, some, e), omega (arith, e)),
        λ k. ap is_some p.1,
      ))
      | inr p ↦ (
        λ k. (let c = (h number).0 (sym (ap is_some p.1) ∙ k) in let a = c.0 in let b = c.1 in (a, omega (arith, b))),
        λ k. (let ne : number ≢ v.by_server.births = λ e. p.0 (ap server_birth e ∙ sym f.birth) in
            let a = k.0 in let b = k.1 in
            ap is_some p.1 ∙ (h number).1 (a, below number v.by_server.births b ne)),
      )
    ]
  where
    below : (a n : ℕ) → a < n + 1 → a ≢ n → a < n
    below a n l ne = grind (arith, l, ne)

-- ---- the server's set

-- the server's set after a request made an object
pub server_made : (s : Rows Born) (w : Birth → Option Born) (n : Option Known)
    → ShowsBirths birth_of NoneIsGone s.rows (births_in s) w
    → IfThere (Fresh s) n
    → ShowsBirths birth_of NoneIsGone (server_makes s n).rows (births_in (server_makes s n))
    (born_into same (option_map (λ x. x.born) n) w)
server_made s w None h g = h
server_made s w (Some n) h g =
    shows_make birth_of NoneIsGone s.rows (births_in s) (births_in (with_made s n.id n.born)) w n.id n.born h
    (λ z k. absurd (cc (g.free, k))) (made_counts s n.id n.born)
    (next_counted n.born.birth Client s.births (births_in (with_made s n.id n.born)) g.birth (omega arith))
    (next_uncounted n.born.birth Client (births_in s) g.birth)

-- the server's set after an event made an object
pub server_tells : (s : Rows Born) (w : Birth → Option Born) (n : Option Known)
    → ShowsBirths birth_of NoneIsGone s.rows (births_in s) w
    → IfThere (FreshTold s) n
    → ShowsBirths birth_of NoneIsGone (server_told s n).rows (births_in (server_told s n))
    (born_into same (option_map (λ x. x.born) n) w)
server_tells s w None h g = h
server_tells s w (Some n) h g =
    shows_make birth_of NoneIsGone s.rows (births_in s) (births_in (with_told s n.id n.born)) w n.id n.born h
    (λ z k. absurd (cc (g.free, k))) (told_counts s n.id n.born)
    (next_counted n.born.birth Server s.by_server.births (births_in (with_told s n.id n.born)) g.birth (omega arith))
    (next_uncounted n.born.birth Server (births_in s) g.birth)

-- the server's set after an object ended
pub server_ended : (s : Rows Born) (w : Birth → Option Born) (o : Option Known)
    → ShowsBirths birth_of NoneIsGone s.rows (births_in s) w
    → IfThere (ThereRow s) o
    → ShowsBirths birth_of NoneIsGone (server_ends o s).rows (births_in s) (gone (option_map born_of o) w)
server_ended s w None h g = h
server_ended s w (Some x) h g = shows_drop birth_of NoneIsGone s.rows (births_in s) w x.id x.born h g

-- an open object stays open when another is made
pub there_kept : (s : Rows Born) (n : Option Known) (x : Known) → IfThere (Fresh s) n → ThereRow s x
    → ThereRow (server_makes s n) x
there_kept s None x g h = h
there_kept s (Some n) x g h = grind (arith, put_row_tells, g.free)

-- ---- at the beginning

-- no rows represent the empty set
pub no_object : {X : Type 0} (birth : X → Birth) (Gone : X → Type 0) (n : Maker → ℕ)
    → ShowsBirths birth Gone nothing n nothing
unfolding nothing
no_object birth Gone n = record { below = λ i x h. cc; one = λ i j x y h k e. cc; shown = λ i x h. cc; only = λ b x h. cc }
