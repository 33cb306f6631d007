-- What stays so of a server's rows.
use Rattle.std.proofs.Common.{◌≡◌, ℕ, ◌≤◌, false, inl, inr, refl, sym, ap, ◌∙◌, arith}
use Rattle.std.specs.declared.option.Option.{Option}
use Rattle.std.specs.declared.option.Option.TheVariants.{None, Some}
use Rattle.wl_object_map.specs.Ranges.{is_of_server}
use Rattle.theory_connection.specs.Meant.{Born, Known}
use Rattle.theory_connection.specs.World.{IfThere, display_born}
use Rattle.theory_connection.specs.Flight.{Rows, Fresh}
use Rattle.theory_connection.proofs.EndedObject.{Mortal}
use Rattle.theory_connection.proofs.Flight.{put_row_other, put_row_tells, range_apart}
use Rattle.theory_connection.proofs.WholeInFlight.{FreshTold, server_ends, server_makes, server_told}

-- wl_display is there
abbrev pub DisplayThere : Rows Born → Type 0
DisplayThere s = s.rows 1 ≡ Some display_born

-- the ids of the client's range are not too great
abbrev pub IsLow : Rows Born → Type 0
IsLow s = (id : ℕ) (x : Born) → is_of_server id ≡ false → s.rows id ≡ Some x → id ≤ 1048576

pub makes_display : (s : Rows Born) (n : Option Known) → IfThere (Fresh s) n → DisplayThere s
    → DisplayThere (server_makes s n)
makes_display s None f h = h
makes_display s (Some x) f h = put_row_other s.rows x.id (Some x.born) 1
    (λ e. (let no = sym f.free ∙ ap s.rows e ∙ h in cc no)) ∙ h

pub tells_display : (s : Rows Born) (n : Option Known) → IfThere (FreshTold s) n → DisplayThere s
    → DisplayThere (server_told s n)
tells_display s None f h = h
tells_display s (Some x) f h = put_row_other s.rows x.id (Some x.born) 1
    (λ e. range_apart 1 x.id refl f.range (sym e)) ∙ h

pub ends_display : (s : Rows Born) (o : Option Known) → IfThere Mortal o → DisplayThere s
    → DisplayThere (server_ends o s)
ends_display s None f h = h
ends_display s (Some x) f h = put_row_other s.rows x.id None 1 f ∙ h

pub makes_low : (s : Rows Born) (n : Option Known) → IfThere (Fresh s) n → IsLow s → IsLow (server_makes s n)
makes_low s None f l = l
makes_low s (Some y) f l = λ id x client h. elim (put_row_tells s.rows y.id (Some y.born) id) [
  | inl q ↦ (let low = f.low in let same = q.0 in omega (arith, low, same))
  | inr q ↦ l id x client (sym q.1 ∙ h)
]

pub tells_low : (s : Rows Born) (n : Option Known) → IfThere (FreshTold s) n → IsLow s → IsLow (server_told s n)
tells_low s None f l = l
tells_low s (Some y) f l = λ id x client h. elim (put_row_tells s.rows y.id (Some y.born) id) [
  | inl q ↦ absurd (range_apart id y.id client f.range q.0)
  | inr q ↦ l id x client (sym q.1 ∙ h)
]

pub ends_low : (s : Rows Born) (o : Option Known) → IsLow s → IsLow (server_ends o s)
ends_low s None l = l
ends_low s (Some y) l = λ id x client h. elim (put_row_tells s.rows y.id None id) [
  | inl q ↦ absurd (cc (q.1, h))
  | inr q ↦ l id x client (sym q.1 ∙ h)
]
