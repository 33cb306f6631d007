-- What stays so of the rows that a checker knows.
use Rattle.std.proofs.Common.{◌≡◌, ◌≢◌, ℕ, ◌≤◌, false, inl, inr, sym, ap, subst, ◌∙◌, arith, List, ◌⊎◌}
use Rattle.std.specs.declared.option.Option.{Option}
use Rattle.std.specs.declared.option.Option.TheVariants.{None, Some}
use Rattle.wl_sigs.specs.Tables.{Interface}
use Rattle.wl_object_map.specs.Ranges.{is_of_server}
use Rattle.theory_connection.specs.Meant.{Born, Known}
use Rattle.theory_connection.specs.World.{Row, Open, Ending, IfThere}
use Rattle.theory_connection.specs.Flight.{Rows, Fresh, IsHeldInRows, NextTold, at}
use Rattle.theory_connection.specs.Stands.{by_event}
use Rattle.theory_connection.proofs.Flight.{fresh_range, put_row_other, put_row_tells, range_apart}
use Rattle.theory_connection.proofs.WholeInFlight.{OfClient, client_ends, client_makes, client_told}
use Rattle.theory_peers.specs.FollowsClient.{HeldLow, HeldPlain}

-- a row of this object, open or ending
abbrev IsHeldInRow : Option Row → Known → Type 0
IsHeldInRow o x = (o ≡ Some (Open x.born)) ⊎ (o ≡ Some (Ending x.born))

-- ---- the ids of the client's range are not too great

pub made_low : (v : Rows Row) (n : Option Known) → IfThere (Fresh v) n → HeldLow v → HeldLow (client_makes v n)
made_low v None f l = l
made_low v (Some y) f l = λ id r client h. elim (put_row_tells v.rows y.id (Some (Open y.born)) id) [
  | inl q ↦ (let low = f.low in let same = q.0 in omega (arith, low, same))
  | inr q ↦ l id r client (sym q.1 ∙ h)
]

pub told_low : (v : Rows Row) (n : Option Known) → IfThere (NextTold v) n → HeldLow v → HeldLow (client_told v n)
told_low v None f l = l
told_low v (Some y) f l = λ id r client h. elim (put_row_tells v.rows y.id (Some (Open y.born)) id) [
  | inl q ↦ absurd (range_apart id y.id client f.range q.0)
  | inr q ↦ l id r client (sym q.1 ∙ h)
]

-- an object of the client's range that is held has no great id
pub held_low : (v : Rows Row) (x : Known) → HeldLow v → IsHeldInRows v x → OfClient x → x.id ≤ 1048576
held_low v x l (inl h) client = l x.id (Open x.born) client h
held_low v x l (inr h) client = l x.id (Ending x.born) client h

pub ended_low : (v : Rows Row) (o : Option Known) → IfThere (IsHeldInRows v) o → HeldLow v
    → HeldLow (client_ends o v)
ended_low v None k l = l
ended_low v (Some y) k l = λ id r client h. elim (put_row_tells v.rows y.id (Some (Ending y.born)) id) [
  | inl q ↦ (
      let same = q.0 in
      let low = held_low v y l k (ap is_of_server (sym same) ∙ client) in
      omega (arith, low, same)
      )
  | inr q ↦ l id r client (sym q.1 ∙ h)
]

pub deleted_low : (v : Rows Row) (i : ℕ) → HeldLow v → HeldLow (at v i None)
deleted_low v i l = λ id r client h. elim (put_row_tells v.rows i None id) [
  | inl q ↦ absurd (cc (q.1, h))
  | inr q ↦ l id r client (sym q.1 ∙ h)
]

-- ---- no event ends an object of the server's range

other_held : (v : Rows Row) (i : ℕ) (o : Option Row) (x : Known) → i ≢ x.id → IsHeldInRows (at v i o) x
    → IsHeldInRows v x
other_held v i o x ne (inl h) = inl (sym (put_row_other v.rows i o x.id ne) ∙ h)
other_held v i o x ne (inr h) = inr (sym (put_row_other v.rows i o x.id ne) ∙ h)

pub made_plain : (tables : List Interface) (v : Rows Row) (n : Option Known) → IfThere (Fresh v) n → HeldPlain tables v
    → HeldPlain tables (client_makes v n)
made_plain tables v None f p = p
made_plain tables v (Some y) f p = λ x server h.
    p x server (other_held v y.id (Some (Open y.born)) x (range_apart y.id x.id (fresh_range f) server) h)

new_born : (y x : Known) (o : Option Row) → o ≡ Some (Open y.born) → IsHeldInRow o x → y.born ≡ x.born
new_born y x o e (inl h) = let q : Some (Open y.born) ≡ Some (Open x.born) = sym e ∙ h in cc q
new_born y x o e (inr h) = let q : Some (Open y.born) ≡ Some (Ending x.born) = sym e ∙ h in absurd (cc q)

pub told_plain : (tables : List Interface) (v : Rows Row) (n : Option Known)
    → IfThere (λ x. by_event tables x.born ≡ false) n → HeldPlain tables v → HeldPlain tables (client_told v n)
told_plain tables v None t p = p
told_plain tables v (Some y) t p = λ x server h. elim (put_row_tells v.rows y.id (Some (Open y.born)) x.id) [
  | inl q ↦ subst (λ (b : Born). by_event tables b ≡ false) (new_born y x _ q.1 h) t
  | inr q ↦ p x server (elim h [ inl k ↦ inl (sym q.1 ∙ k) | inr k ↦ inr (sym q.1 ∙ k) ])
]

old_born : (y x : Known) (o : Option Row) → o ≡ Some (Ending y.born) → IsHeldInRow o x → y.born ≡ x.born
old_born y x o e (inl h) = let q : Some (Ending y.born) ≡ Some (Open x.born) = sym e ∙ h in absurd (cc q)
old_born y x o e (inr h) = let q : Some (Ending y.born) ≡ Some (Ending x.born) = sym e ∙ h in cc q

pub ended_plain : (tables : List Interface) (v : Rows Row) (o : Option Known) → IfThere (IsHeldInRows v) o
    → HeldPlain tables v → HeldPlain tables (client_ends o v)
ended_plain tables v None k p = p
ended_plain tables v (Some y) k p = λ x server h. elim (put_row_tells v.rows y.id (Some (Ending y.born)) x.id) [
  | inl q ↦ subst (λ (b : Born). by_event tables b ≡ false) (old_born y x _ q.1 h)
      (p y (ap is_of_server (sym q.0) ∙ server) k)
  | inr q ↦ p x server (elim h [ inl k ↦ inl (sym q.1 ∙ k) | inr k ↦ inr (sym q.1 ∙ k) ])
]

pub deleted_plain : (tables : List Interface) (v : Rows Row) (i : ℕ) → HeldPlain tables v
    → HeldPlain tables (at v i None)
deleted_plain tables v i p = λ x server h. elim (put_row_tells v.rows i None x.id) [
  | inl q ↦ absurd (none_held x q.1 h)
  | inr q ↦ p x server (elim h [ inl k ↦ inl (sym q.1 ∙ k) | inr k ↦ inr (sym q.1 ∙ k) ])
]
  where
    none_held : (x : Known) {o : Option Row} → o ≡ None → IsHeldInRow o x → ⊥
    none_held x e (inl h) = cc (e, h)
    none_held x e (inr h) = cc (e, h)
