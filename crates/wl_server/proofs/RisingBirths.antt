-- The births of a server's registries stay in rising order.
use Rattle.std.proofs.Common.{ℕ, suc, ◌+◌, ◌≤◌, Bool, true, false, List, [], ◌∷◌, ◌++◌, arith}
use Rattle.std.specs.Prelude.{if◌then◌else◌}
use Rattle.wl_object_map.specs.declared.object.Object.{Object}
use Rattle.wl_server.specs.State.{Registry, RiseFrom, untold}
use Rattle.wl_server.specs.Registries.{same_object, without_object}

-- the upper bound can be raised
pub rise-below : (low high more : ℕ) (registries : List Registry) → high ≤ more → RiseFrom low high registries
    → RiseFrom low more registries
rise-below low high more [] h r = omega (arith, h, r)
rise-below low high more (x ∷ registries) h r = (r.0, rise-below (suc x.object.birth) high more registries h r.1)

-- the lower bound can be lowered
rise-above : (low least high : ℕ) (registries : List Registry) → least ≤ low → RiseFrom low high registries
    → RiseFrom least high registries
rise-above low least high [] h r = omega (arith, h, r)
rise-above low least high (x ∷ registries) h r = (omega (arith, h, r.0), r.1)

-- appending a registry, which has the next birth
pub rise-new : (low id high : ℕ) (registries : List Registry) → RiseFrom low high registries
    → RiseFrom low (high + 1) (registries ++ untold (record { id = id; birth = high }) ∷ [])
rise-new low id high [] r = (r, omega arith)
rise-new low id high (x ∷ registries) r = (r.0, rise-new (suc x.object.birth) id high registries r.1)

-- removing a registry
pub rise-without : (low high : ℕ) (object : Object) (registries : List Registry) → RiseFrom low high registries
    → RiseFrom low high (without_object true object registries)
rise-without low high object [] r = r
rise-without low high object (x ∷ registries) r = by_test (same_object x.object object)
    (rise-without (suc x.object.birth) high object registries r.1)
  where
    by_test : (b : Bool) → RiseFrom (suc x.object.birth) high (without_object true object registries)
        → RiseFrom low high (if b then without_object true object registries
        else x ∷ without_object true object registries)
    by_test true h = rise-above (suc x.object.birth) low high (without_object true object registries)
        (omega (arith, r.0)) h
    by_test false h = (r.0, h)
