-- wl_display stays open to the checker.
use Rattle.std.proofs.Common.{◌≡◌, ◌≢◌, true, false, inl, inr, refl, sym, ap, ◌∙◌}
use Rattle.std.specs.declared.option.Option.{Option}
use Rattle.std.specs.declared.option.Option.TheVariants.{None, Some}
use Rattle.wl_sigs.specs.Tables.{Interface}
use Rattle.std.specs.Prelude.{List}
use Rattle.wl_sigs.specs.Valid.{Valid}
use Rattle.theory_connection.specs.Meant.{Known}
use Rattle.theory_connection.specs.World.{Row, Open, Ending, IfThere, display_born}
use Rattle.theory_connection.specs.Flight.{put_row, Rows, Fresh, NextTold, IsHeldInRows}
use Rattle.theory_connection.specs.Stands.{by_event}
use Rattle.theory_connection.proofs.Flight.{put_row_other, range_apart}
use Rattle.theory_connection.proofs.Rules.{display_plain}
use Rattle.theory_connection.proofs.WholeInFlight.{client_ends, client_makes, client_told, live_made}
use Rattle.theory_connection.proofs.EndedObject.{Mortal}

-- wl_display is open
abbrev pub HasDisplay : Rows Row → Type 0
HasDisplay v = v.rows 1 ≡ Some (Open display_born)

pub made_display : (v : Rows Row) (n : Option Known) → IfThere (Fresh v) n → HasDisplay v → HasDisplay (client_makes v n)
made_display v n f h = live_made v n (record { id = 1; born = display_born }) f h

pub told_display : (v : Rows Row) (n : Option Known) → IfThere (NextTold v) n → HasDisplay v → HasDisplay (client_told v n)
told_display v None f h = h
told_display v (Some x) f h = put_row_other v.rows x.id (Some (Open x.born)) 1
    (λ e. range_apart 1 x.id refl f.range (sym e)) ∙ h

pub ended_display : (v : Rows Row) (o : Option Known) → IfThere Mortal o → HasDisplay v → HasDisplay (client_ends o v)
ended_display v None f h = h
ended_display v (Some x) f h = put_row_other v.rows x.id (Some (Ending x.born)) 1 f ∙ h

pub deleted_display : (v : Rows Row) (x : Known) → x.id ≢ 1 → HasDisplay v
    → HasDisplay (record v { rows = put_row v.rows x.id None })
deleted_display v x f h = put_row_other v.rows x.id None 1 f ∙ h

-- an object that an event ends is not wl_display
held_mortal : (tables : List Interface) (v : Rows Row) (x : Known) → Valid tables → HasDisplay v → IsHeldInRows v x
    → by_event tables x.born ≡ true → Mortal x
held_mortal tables v x valid h (inl p) t one =
    let both : Some (Open x.born) ≡ Some (Open display_born) = sym p ∙ ap v.rows one ∙ h in
    let same : x.born ≡ display_born = cc both in
    let no : true ≡ false = sym t ∙ ap (by_event tables) same ∙ display_plain tables valid in
    cc no
held_mortal tables v x valid h (inr p) t one =
    let both : Some (Ending x.born) ≡ Some (Open display_born) = sym p ∙ ap v.rows one ∙ h in
    absurd (cc both)

pub ends_mortal : (tables : List Interface) (v : Rows Row) (o : Option Known) → Valid tables → HasDisplay v
    → IfThere (IsHeldInRows v) o → IfThere (λ x. by_event tables x.born ≡ true) o → IfThere Mortal o
ends_mortal tables v None valid h there t = tt
ends_mortal tables v (Some x) valid h there t = held_mortal tables v x valid h there t
