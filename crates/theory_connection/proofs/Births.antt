-- Births: when two are the same, what is put at one, and which are counted.
use Rattle.std.proofs.Common.{◌≡◌, ◌≢◌, ℕ, ◌+◌, ◌<◌, ◌≤◌, Bool, true, false, cond, ◌⊎◌, inl, inr, refl, sym}
use Rattle.std.proofs.Common.{ap, subst, arith, eqb-true, eq-eqb}
use Rattle.std.proofs.lemmas.Bool.{and_parts}
use Rattle.std.specs.Prelude.{nat_eq}
use Rattle.std.specs.declared.option.Option.{Option}
use Rattle.wl_object_map.specs.declared.object.Maker.{Maker}
use Rattle.wl_object_map.specs.declared.object.Maker.TheVariants.{Client, Server}
use Rattle.theory_connection.specs.Meant.{Birth, same_maker, same_birth, IsAmongFirst}
use Rattle.theory_connection.specs.World.{put}

-- ---- the test

maker_same : (m n : Maker) → same_maker m n ≡ true → m ≡ n
maker_same Client Client h = refl
maker_same Server Server h = refl
maker_same Client Server h = absurd (cc h)
maker_same Server Client h = absurd (cc h)

-- a maker is the same as itself
pub maker_itself : (m : Maker) → same_maker m m ≡ true
maker_itself Client = refl
maker_itself Server = refl

-- births that the test calls the same are equal
pub birth_same : (b c : Birth) → same_birth b c ≡ true → b ≡ c
birth_same b c h =
    let k = and_parts (same_maker b.maker c.maker) (nat_eq b.number c.number) h in
    let m = maker_same b.maker c.maker k.0 in
    let n = eqb-true b.number c.number k.1 in
    λ i. record { maker = m i; number = n i }

-- a birth is the same as itself
pub birth_itself : (b : Birth) → same_birth b b ≡ true
birth_itself b = rw (maker_itself b.maker) (eq-eqb b.number b.number refl)

-- ---- what is put

module _ {X : Type 0} where
  -- a birth has what was put there; every other birth keeps what it had
  pub put_tells : (f : Birth → Option X) (b : Birth) (o : Option X) (c : Birth)
      → ((c ≡ b) × (put f b o c ≡ o)) ⊎ ((c ≢ b) × (put f b o c ≡ f c))
  unfolding put
  put_tells f b o c = by_test (same_birth c b) refl
    where
      by_test : (t : Bool) → same_birth c b ≡ t
          → ((c ≡ b) × (put f b o c ≡ o)) ⊎ ((c ≢ b) × (put f b o c ≡ f c))
      by_test true h = inl (birth_same c b h, ap (λ (t : Bool). cond t o (f c)) h)
      by_test false h = inr (
        λ e. (let t : same_birth c b ≡ true = subst (λ (x : Birth). same_birth c x ≡ true) e (birth_itself c)
            in cc (t, h)),
        ap (λ (t : Bool). cond t o (f c)) h,
      )

  pub put_same : (f : Birth → Option X) (b : Birth) (o : Option X) → put f b o b ≡ o
  put_same f b o = elim (put_tells f b o b) [ inl p ↦ p.1 | inr p ↦ absurd (p.0 refl) ]

  pub put_other : (f : Birth → Option X) (b : Birth) (o : Option X) (c : Birth) → c ≢ b → put f b o c ≡ f c
  put_other f b o c ne = elim (put_tells f b o c) [ inl p ↦ absurd (ne p.0) | inr p ↦ p.1 ]

-- ---- what is counted

-- what is counted is still counted if the counts are greater
pub counted_more : (b : Birth) (n m : Maker → ℕ) → IsAmongFirst n b → ((k : Maker) → n k ≤ m k) → IsAmongFirst m b
counted_more b n m c l = let k = l b.maker in omega (arith, c, k)

-- the next birth of a maker is counted if the count is one more
pub next_counted : (b : Birth) (k : Maker) (n : ℕ) (m : Maker → ℕ) → b ≡ record { maker = k; number = n } → n + 1 ≤ m k
    → IsAmongFirst m b
next_counted b k n m e l = subst (IsAmongFirst m) (sym e) (omega (arith, l))

-- the next birth is not counted before
pub next_uncounted : (b : Birth) (k : Maker) (n : Maker → ℕ) → b ≡ record { maker = k; number = n k }
    → IsAmongFirst n b → ⊥
next_uncounted b k n e c =
    let c' : n k < n k = subst (IsAmongFirst n) e c in absurd (omega (arith, c'))
