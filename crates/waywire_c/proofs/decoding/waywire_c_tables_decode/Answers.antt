use Rattle.std.proofs.Common.{◌≡◌, ◌∙◌, refl, sym, ap, not, Some, None, false}
use Rattle.std.specs.Prelude.{Option, option_map, is_some}
use Rattle.wl_sigs.specs.Tables.{Interface}
use Rattle.waywire_c.proofs.decoding.waywire_c_tables_decode.Goals as goal

none-is : (x : Option Interface) → is_some (option_map (λ i. i.version) x) ≡ false → x ≡ None
none-is None e = refl
none-is (Some i) e = absurd (cc)

pub returns-in_default : goal.returns-in_default
returns-in_default c =
    rw (← c.side_with_room.ensures, c.in_default.is) (record { status_is = refl; told_is = refl; args = refl })

pub returns-then-is_none : goal.returns-then-is_none
returns-then-is_none c =
    let none = none-is _ (sym (ap is_some c.version.ensures.answer) ∙ (c.is_none.ensures ∙ ap not c.if-is_none.true)) in
    rw (← c.side_with_room.ensures, c.in-Some.is, ← c.lent-tables.ensures, none)
    (record { status_is = refl; told_is = refl; args = refl })
