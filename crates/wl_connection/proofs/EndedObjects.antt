-- What ending the object of a message leaves.
use Rattle.std.proofs.Common.{◌≡◌, ℕ, true, refl, subst}
use Rattle.std.specs.Prelude.{Option, is_some}
use Rattle.std.specs.declared.option.Option.TheVariants.{None, Some}
use Rattle.wl_sigs.specs.Destroys.{Destroys}
use Rattle.wl_sigs.specs.Destroys.TheVariants.{Nothing, Target, Arg}
use Rattle.wl_sigs.specs.Side.{Side}
use Rattle.wl_sigs.specs.Side.TheVariants.{Event, Request}
use Rattle.wl_sigs.specs.Tables.{destroys_one}
use Rattle.wl_object_map.specs.declared.object.Entry.{Entry}
use Rattle.wl_object_map.specs.View.{lives_in}
use Rattle.wl_object_map.specs.Objects.{Objects, is_held, is_live, look}
use Rattle.wl_objects.specs.Messages.{destroyed, destroys}
use Rattle.wl_connection.specs.Core.{Core, with_view}
use Rattle.wl_connection.specs.Sending.{following, with_following}

held_row : (o : Option Entry) → lives_in o ≡ true → is_some o ≡ true
held_row None h = absurd (cc h)
held_row (Some entry) h = refl

-- a live object has a row
pub held_live : (view : Objects) (id : ℕ) → is_live view id ≡ true → is_held view id ≡ true
held_live view id h = held_row (look view id) h

-- an end after it made the object a zombie, or closed it and wrote delete_id
abbrev pub ended_as : Core → Side → ℕ → Core
ended_as core Request id = with_view core (destroyed Request core.view id)
ended_as core Event id = with_following true id (with_view core (destroyed Event core.view id))

ended : (core : Core) (side : Side) (what : Destroys) (id : ℕ) → destroys_one what ≡ true
    → ended_as core side id
    ≡ with_following (following side what) id (with_view core (destroys side what id core.view))
ended core side Nothing id one = absurd (cc one)
ended core Request Target id one = refl
ended core Request (Arg place) id one = refl
ended core Event Target id one = refl
ended core Event (Arg place) id one = refl

pub ended_by : (core : Core) (side own : Side) (what : Destroys) (id named : ℕ) → side ≡ own
    → destroys_one what ≡ true → id ≡ named
    → ended_as core side id
    ≡ with_following (following own what) named (with_view core (destroys own what named core.view))
ended_by core side own what id named same one is =
    subst (λ (s : Side). ended_as core side id
    ≡ with_following (following s what) named (with_view core (destroys s what named core.view))) same
    (subst (λ (n : ℕ). ended_as core side id
    ≡ with_following (following side what) n (with_view core (destroys side what n core.view))) is
    (ended core side what id one))
