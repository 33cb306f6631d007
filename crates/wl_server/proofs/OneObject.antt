-- Two objects are the same if and only if their ids and births are.
use Rattle.std.proofs.Common.{◌≡◌, ◌≢◌, Bool, true, false, refl, ap, subst}
use Rattle.std.specs.Prelude.{nat_eq, ◌&&◌}
use Rattle.std.proofs.lemmas.Bool.{and_parts, eqb-true, eq-eqb}
use Rattle.wl_object_map.specs.declared.object.Object.{Object}
use Rattle.wl_server.specs.Registries.{same_object}

itself : (a : Object) → same_object a a ≡ true
itself a = λ i. eq-eqb a.id a.id refl i && eq-eqb a.birth a.birth refl i

pub same-one : (a b : Object) → a ≡ b → same_object a b ≡ true
same-one a b e = subst (λ (x : Object). same_object a x ≡ true) e (itself a)

pub one-same : (a b : Object) → same_object a b ≡ true → a ≡ b
one-same a b e =
    let p = and_parts (nat_eq a.id b.id) (nat_eq a.birth b.birth) e in
    λ i. record { id = eqb-true a.id b.id p.0 i; birth = eqb-true a.birth b.birth p.1 i }

pub not-one : (a b : Object) → same_object a b ≡ false → a ≢ b
not-one a b e is = let yes = same-one a b is in cc (e, yes)

pub differ : (a b : Object) → a ≢ b → same_object a b ≡ false
differ a b n = by_test (same_object a b) (λ e. n (one-same a b e))
  where
    by_test : (t : Bool) → t ≢ true → t ≡ false
    by_test true f = absurd (f refl)
    by_test false f = refl

pub births-differ : (a b : Object) → a.birth ≢ b.birth → same_object a b ≡ false
births-differ a b n = differ a b (λ e. n (ap (λ (o : Object). o.birth) e))
