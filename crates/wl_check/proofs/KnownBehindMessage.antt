-- What is known after a message, from what is known before it.
use Rattle.std.proofs.Common.{◌≡◌, ℕ, zero, suc, ◌<◌, ◌≤◌, Bool, true, false, cond, Some, None}
use Rattle.std.proofs.Common.{IfSome, refl, sym, ap, ◌∙◌, arith}
use Rattle.std.specs.Prelude.{Option, option_map}
use Rattle.std.proofs.Math.Path.{fun_ext}
use Rattle.std.proofs.lemmas.Bool.{lt-ltb, le-ltb}
use Rattle.wl_object_map.specs.declared.object.Entry.{Entry}
use Rattle.wl_object_map.specs.declared.object.State.TheVariants.{Live}
use Rattle.wl_check.specs.declared.changes.MessageChanges.{MessageChanges}
use Rattle.wl_check.specs.Places.{makes_id, deletes_id, destroys_id, holder, is_ending, live_or_zombie, made_entry}
use Rattle.wl_check.specs.Places.{new_or_null, entry_made_at, object_named, unless_deleted, object_after}
use Rattle.wl_check.specs.Places.{used_after, server_used_after, advertised_after, taken_after, used, server_used}
use Rattle.wl_check.specs.Places.{advertised_version, taken, KnownAtPlace, known, IsKnownBehind}

-- no message is between a place and the next
is_ending_none : (s : ℕ → MessageChanges) (m p i : ℕ) → p ≤ suc m → is_ending s m p i ≡ false
unfolding is_ending
is_ending_none s m zero i below = refl
is_ending_none s m (suc p) i below = rw (le-ltb m p (omega arith), is_ending_none s m p i (omega arith)) refl

holder_step : (p : ℕ) (made del : Bool) (o : Option ℕ) → IfSome o (λ m. m < p)
    → IfSome (cond made (Some p) (cond del None o)) (λ m. m < suc p)
holder_step p true del o h = omega arith
holder_step p false true o h = tt
holder_step p false false None h = tt
holder_step p false false (Some m) h = omega arith

pub holder_before : (s : ℕ → MessageChanges) (p i : ℕ) → IfSome (holder s p i) (λ m. m < p)
unfolding holder
holder_before s zero i = tt
holder_before s (suc p) i = holder_step p (makes_id (s p) i) (deletes_id (s p) i) (holder s p i) (holder_before s p i)

kept : (s : ℕ → MessageChanges) (p i : ℕ) (del des : Bool) (o : Option ℕ) → destroys_id (s p) i ≡ des
    → IfSome o (λ m. m < p)
    → option_map (λ m. entry_made_at s m (live_or_zombie (is_ending s m (suc p) i))) (cond del None o)
    ≡ unless_deleted del des (option_map (λ m. entry_made_at s m (live_or_zombie (is_ending s m p i))) o)
unfolding is_ending
kept s p i true des o is h = refl
kept s p i false true None is h = refl
kept s p i false false None is h = refl
kept s p i false true (Some m) is h = rw (is, lt-ltb m p h) refl
kept s p i false false (Some m) is h = rw (is, lt-ltb m p h) refl

new : (s : ℕ → MessageChanges) (p i : ℕ) → entry_made_at s p (live_or_zombie (is_ending s p (suc p) i))
    ≡ made_entry p Live (new_or_null (s p).made)
new s p i = rw (is_ending_none s p (suc p) i (omega arith)) refl

next : (s : ℕ → MessageChanges) (p i : ℕ) (made : Bool)
    → option_map (λ m. entry_made_at s m (live_or_zombie (is_ending s m (suc p) i)))
    (cond made (Some p) (cond (deletes_id (s p) i) None (holder s p i)))
    ≡ cond made (Some (made_entry p Live (new_or_null (s p).made)))
    (unless_deleted (deletes_id (s p) i) (destroys_id (s p) i) (object_named s p i))
next s p i true = ap (λ (e : Entry). Some e) (new s p i)
next s p i false = kept s p i (deletes_id (s p) i) (destroys_id (s p) i) (holder s p i) refl (holder_before s p i)

-- the object that an id names after a message
pub named_next : (s : ℕ → MessageChanges) (p i : ℕ) → object_named s (suc p) i
    ≡ object_after p (s p) i (object_named s p i)
unfolding holder
named_next s p i = next s p i (makes_id (s p) i)

-- ---- all that is known after a message

pub known_next : (s : ℕ → MessageChanges) (p : ℕ) (before after : KnownAtPlace) → before ≡ known s p
    → IsKnownBehind p (s p) before after → after ≡ known s (suc p)
unfolding used server_used advertised_version taken
known_next s p before after is n =
    let o = fun_ext (λ id. n.objects id ∙ ap (λ (k : KnownAtPlace). object_after p (s p) id (k.object id)) is
    ∙ sym (named_next s p id)) in
    let u = n.used_is ∙ ap (λ (k : KnownAtPlace). used_after (s p) k.used) is in
    let v = n.server_used_is ∙ ap (λ (k : KnownAtPlace). server_used_after (s p) k.server_used) is in
    let t = fun_ext (λ name. fun_ext (λ iface. n.advertised_is name iface
    ∙ ap (λ (k : KnownAtPlace). advertised_after (s p) name iface (k.advertised_version name iface)) is)) in
    let d = fun_ext (λ direction. n.taken_is direction
    ∙ ap (λ (k : KnownAtPlace). taken_after (s p) direction (k.taken direction)) is) in
    λ i. record { object = o i; used = u i; server_used = v i; advertised_version = t i; taken = d i }
