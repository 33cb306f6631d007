-- The object that a message destroys: its target, or one of its arguments.
use Rattle.std.proofs.Common.{◌≡◌, ◌≢◌, ℕ, zero, suc, ◌<◌, List, [], ◌∷◌, map, refl, sym, ap, subst, ◌∙◌}
use Rattle.std.proofs.lemmas.Bool.{eqb-true}
use Rattle.std.specs.Prelude.{option_map, is_some}
use Rattle.std.specs.declared.option.Option.{Option}
use Rattle.std.specs.declared.option.Option.TheVariants.{None, Some}
use Rattle.wl_wire.specs.Argument.{Int, Uint, Fixed, Str, Obj, New, NewNamed, Array, Fd}
use Rattle.wl_sigs.specs.Destroys.{Destroys}
use Rattle.wl_sigs.specs.Destroys.TheVariants.{Nothing, Target, Arg as ends_arg}
use Rattle.wl_sigs.specs.Side.{Side}
use Rattle.wl_sigs.specs.Tables.{Interface, MessageSignature as Signature, destroys_one}
use Rattle.wl_sigs.specs.Fixed as fixed
use Rattle.wl_sigs.specs.Fixed.{registry}
use Rattle.wl_sigs.specs.Valid.{Valid}
use Rattle.wl_object_map.specs.Objects.{Objects}
use Rattle.wl_objects.specs.Messages.{NewObject, after, opens, destroyed, ended_id}
use Rattle.wl_connection.proofs.Ends.{the_destroy, is_the_destroy}
use Rattle.theory_connection.specs.Stands.{FitsSignature, SuitKinds}
use Rattle.theory_connection.specs.Meant.{Known, Message, Arg, born_of, rearg, wire, objects, object_at, ended_by}
use Rattle.theory_connection.specs.World.{Each, IfThere}

-- the object is not wl_display
abbrev pub Mortal : Known → Type 0
Mortal x = x.id ≢ 1

-- what holds for each object among the arguments holds for the one at a place
pub at_has : {O : Type 0} (P : O → Type 0) (args : List (Arg O)) (place : ℕ) → Each P (objects args)
    → IfThere P (object_at args place)
at_has P [] place k = tt
at_has P (Obj (Some x) ∷ more) zero k = k.0
at_has P (Obj None ∷ more) zero k = tt
at_has P (Obj (Some x) ∷ more) (suc place) k = at_has P more place k.1
at_has P (Obj None ∷ more) (suc place) k = at_has P more place k
at_has P (Int z ∷ more) (suc place) k = at_has P more place k
at_has P (Uint z ∷ more) (suc place) k = at_has P more place k
at_has P (Fixed z ∷ more) (suc place) k = at_has P more place k
at_has P (Str z ∷ more) (suc place) k = at_has P more place k
at_has P (New z ∷ more) (suc place) k = at_has P more place k
at_has P (NewNamed a b z ∷ more) (suc place) k = at_has P more place k
at_has P (Array z ∷ more) (suc place) k = at_has P more place k
at_has P (Fd z ∷ more) (suc place) k = at_has P more place k
at_has P (a ∷ more) zero k = tt

pub at_map : {A B : Type 0} (f : A → B) (args : List (Arg A)) (place : ℕ)
    → object_at (map (rearg f) args) place ≡ option_map f (object_at args place)
at_map f [] place = refl
at_map f (Obj (Some x) ∷ more) zero = refl
at_map f (a ∷ more) zero = refl
at_map f (a ∷ more) (suc place) = at_map f more place

-- what holds for the target and for each object among the arguments holds for the destroyed object
pub ended_has : {O : Type 0} (P : O → Type 0) (what : Destroys) (x : O) (args : List (Arg O)) → P x
    → Each P (objects args) → IfThere P (ended_by what x args)
ended_has P Nothing x args h k = tt
ended_has P Target x args h k = h
ended_has P (ends_arg place) x args h k = at_has P args place k

pub ended_map : {A B : Type 0} (f : A → B) (what : Destroys) (x : A) (args : List (Arg A))
    → ended_by what (f x) (map (rearg f) args) ≡ option_map f (ended_by what x args)
ended_map f Nothing x args = refl
ended_map f Target x args = refl
ended_map f (ends_arg place) x args = at_map f args place

-- a property of the element, if there is one, implies another
pub if_by : {X : Type 0} {P Q : X → Type 0} (f : (x : X) → P x → Q x) (o : Option X) → IfThere P o → IfThere Q o
if_by f None h = tt
if_by f (Some x) h = f x h

-- two properties of the element, if there is one, imply a third
pub both_if : {X : Type 0} {P Q R : X → Type 0} (f : (x : X) → P x → Q x → R x) (o : Option X) → IfThere P o
    → IfThere Q o → IfThere R o
both_if f None h k = tt
both_if f (Some x) h k = f x h k

-- mapping keeps whether there is an element
pub some_map : {A B : Type 0} (f : A → B) (o : Option A) → is_some (option_map f o) ≡ is_some o
some_map f None = refl
some_map f (Some x) = refl

-- the object that a message ends, by births
pub born_ends : (m : Message Known) (what : Destroys) → m.ends ≡ ended_by what m.target m.args
    → option_map born_of m.ends ≡ ended_by what m.target.born (map (rearg born_of) m.args)
born_ends m what e = ap (option_map born_of) e ∙ sym (ended_map born_of what m.target m.args)

-- ---- the argument of a request that destroys it

pub record IsArgument (args : List (Arg Known)) : Type 0 where
  pub object : Known
  pub are : args ≡ Obj (Some object) ∷ []
  pub some : 0 < object.id
  pub registers : object.born.iface.0 ≡ 1

argument_by : (tables : List Interface) (version : ℕ) (args : List (Arg Known))
    → SuitKinds tables version (fixed.object registry ∷ []) args → IsArgument args
argument_by tables version [] a = absurd a
argument_by tables version (Obj (Some x) ∷ []) a =
    record { object = x; are = refl; some = a.0.1.0; registers = sym (eqb-true 1 x.born.iface.0 a.0.1.1) }
argument_by tables version (Obj None ∷ []) a = absurd (let no = a.0.0.1 refl in cc no)
argument_by tables version (arg ∷ []) a = absurd a.0.0
argument_by tables version (x ∷ y ∷ more) a = absurd a.1

-- an argument that a message destroys is its first and only one, and a registry
pub argument_is : (tables : List Interface) (side : Side) (m : Message Known) (f : FitsSignature tables side m) (k : ℕ)
    → Valid tables → f.signature.destroys ≡ ends_arg k → (k ≡ 0) × IsArgument m.args
argument_is tables side m f k v d =
    let same : f.signature ≡ the_destroy = is_the_destroy tables m.target.born.iface.0 side m.opcode f.signature k v
    f.there d in
    let place : ends_arg k ≡ ends_arg 0 = sym d ∙ ap (λ (s : Signature). s.destroys) same in (
      cc place,
      argument_by tables m.target.born.version m.args
          (subst (λ (s : Signature). SuitKinds tables m.target.born.version s.kinds m.args) same f.args),
    )

-- ---- the destroyed object at an end

-- The object that the signature destroys, with this id, is the one that the message means.
pub record EndsAs (what : Destroys) (id : ℕ) (o : Option Known) : Type 0 where
  pub flag : destroys_one what ≡ is_some o
  pub same : IfThere (λ x. x.id ≡ id) o

-- the objects of the end that writes this side, without what a message destroys
abbrev pub ended_view : Side → Objects → Option Known → Objects
ended_view side v None = v
ended_view side v (Some x) = destroyed side v x.id

-- the objects after a message are those with the object that it ends ended
pub after_is : (side : Side) (v : Objects) (new : Option NewObject) (what : Destroys) (id : ℕ) (o : Option Known)
    → EndsAs what id o → after side v new what id ≡ ended_view side (opens v new) o
after_is side v new Nothing id None e = refl
after_is side v new Nothing id (Some x) e = absurd (let f = e.flag in cc f)
after_is side v new Target id None e = absurd (let f = e.flag in cc f)
after_is side v new Target id (Some x) e = ap (destroyed side (opens v new)) (sym e.same)
after_is side v new (ends_arg k) id None e = absurd (let f = e.flag in cc f)
after_is side v new (ends_arg k) id (Some x) e = ap (destroyed side (opens v new)) (sym e.same)

ends_argument : (target : Known) (args : List (Arg Known)) (k : ℕ) → k ≡ 0 → (x : Known) → args ≡ Obj (Some x) ∷ []
    → EndsAs (ends_arg k) (ended_id (ends_arg k) target.id (map wire args)) (ended_by (ends_arg k) target args)
ends_argument target args k z x e =
    subst (λ (l : List (Arg Known)). EndsAs (ends_arg k) (ended_id (ends_arg k) target.id (map wire l))
    (ended_by (ends_arg k) target l)) (sym e)
    (subst (λ (n : ℕ). EndsAs (ends_arg n) (ended_id (ends_arg n) target.id (map wire (Obj (Some x) ∷ [])))
    (ended_by (ends_arg n) target (Obj (Some x) ∷ []))) (sym z) (record { flag = refl; same = refl }))

-- the object that a message ends is the one that its signature destroys
pub ends_as : (tables : List Interface) (side : Side) (m : Message Known) (f : FitsSignature tables side m)
    → Valid tables
    → EndsAs f.signature.destroys (ended_id f.signature.destroys m.target.id (map wire m.args)) m.ends
ends_as tables side m f v =
    subst (λ (o : Option Known). EndsAs f.signature.destroys
    (ended_id f.signature.destroys m.target.id (map wire m.args)) o) (sym f.ends)
    (by_what f.signature.destroys refl)
  where
    by_what : (what : Destroys) → f.signature.destroys ≡ what
        → EndsAs what (ended_id what m.target.id (map wire m.args)) (ended_by what m.target m.args)
    by_what Nothing d = record { flag = refl; same = tt }
    by_what Target d = record { flag = refl; same = refl }
    by_what (ends_arg k) d = let a = argument_is tables side m f k v d
        in ends_argument m.target m.args k a.0 a.1.object a.1.are

-- what holds for a message's target and its objects holds for the object that it ends
pub ends_have : (P : Known → Type 0) (tables : List Interface) (side : Side) (m : Message Known)
    → FitsSignature tables side m
    → P m.target → Each P (objects m.args) → IfThere P m.ends
ends_have P tables side m f x xs = subst (IfThere P) (sym f.ends)
    (ended_has P f.signature.destroys m.target m.args x xs)
