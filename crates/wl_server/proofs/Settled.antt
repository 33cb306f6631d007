-- A registry is owed nothing more once it was sent every event that it needs.
use Rattle.std.proofs.Common.{◌≡◌, ◌≢◌, ℕ, suc, ◌+◌, ◌-◌, ◌<◌, ◌≤◌, Bool, true, false, List, [], ◌∷◌, ◌++◌, length}
use Rattle.std.proofs.Common.{get_or, refl, sym, ap, ◌∙◌, ◌⊎◌, inl, inr, arith}
use Rattle.std.specs.Prelude.{not, ◌&&◌, if◌then◌else◌, map}
use Rattle.std.proofs.lemmas.List.{get_or-set_other, get_or_default}
use Rattle.std.proofs.lemmas.Option.{unwrap_or-slice_get}
use Rattle.wl_message.proofs.Steps.{side}
use Rattle.wl_server.specs.State.{Global, Registry, has_name, with_name}
use Rattle.wl_server.specs.Announcing.{Owing, Removal, Telling, due_to, owings, owes_removal}
use Rattle.wl_server.specs.Announcing.{owes_telling, marked}

-- the test fails for each of the first n globals and its name: the global at place k has name k + 1
abbrev pub NoneOf : (ℕ → Global → Bool) → List Global → ℕ → Type 0
NoneOf test globals n =
    (k : ℕ) (x : Global) → k < n → k < length globals → x ≡ get_or globals k x → test (k + 1) x ≡ false

pub none-yet : (test : ℕ → Global → Bool) (globals : List Global) → NoneOf test globals 0
none-yet test globals k x l there e = absurd (omega (arith, l))

pub same-global : (globals : List Global) (k n : ℕ) (x y : Global) → k ≡ n → n < length globals → x ≡ get_or globals n x
    → y ≡ get_or globals k y → y ≡ x
same-global globals k n x y same there e d =
    d ∙ ap (λ (i : ℕ). get_or globals i y) same ∙ get_or_default globals n y x there ∙ sym e

-- one more global, with another test that fails wherever this one does, and for the next global
pub none-next : (test other : ℕ → Global → Bool) (globals : List Global) (n : ℕ) (x : Global)
    → ((k : ℕ) (y : Global) → k < n → test (k + 1) y ≡ false → other (k + 1) y ≡ false) → NoneOf test globals n
    → n < length globals → x ≡ get_or globals n x → other (n + 1) x ≡ false → NoneOf other globals (n + 1)
none-next test other globals n x keep h here e is k y l there d = elim (side k n) [
  | inl less ↦ keep k y less (h k y less there d)
  | inr least ↦ (let same : k ≡ n = omega (arith, least, l) in
      ap (λ (i : ℕ). other (i + 1) y) same
      ∙ ap (other (n + 1)) (same-global globals k n x y same here e d) ∙ is)
]

-- the globals up to a later place, if the test fails for those between
pub none-skip : (test : ℕ → Global → Bool) (globals : List Global) (i j : ℕ) → NoneOf test globals i
    → ((k : ℕ) (x : Global) → i ≤ k → k < j → k < length globals → x ≡ get_or globals k x → test (k + 1) x ≡ false)
    → NoneOf test globals j
none-skip test globals i j h f k x l there e = elim (side k i) [
  | inl less ↦ h k x less there e
  | inr least ↦ f k x least l there e
]

-- nothing is owed if the test fails for all
owings-none : (test : ℕ → Global → Bool) (owing : ℕ → Global → Owing) (n : ℕ) (globals : List Global)
    → ((k : ℕ) (x : Global) → k < length globals → x ≡ get_or globals k x → test (n + k) x ≡ false)
    → owings test owing n globals ≡ []
owings-none test owing n [] h = refl
owings-none test owing n (x ∷ globals) h =
    let e : n + 0 ≡ n = omega arith in
    let no : test n x ≡ false = ap (λ (i : ℕ). test i x) (sym e) ∙ h 0 x (omega arith) refl in
    ap (λ (b : Bool). if b then owing n x ∷ owings test owing (suc n) globals else owings test owing (suc n) globals) no
    ∙ owings-none test owing (suc n) globals (λ k y l d. (let f : suc n + k ≡ n + suc k = omega arith in
    ap (λ (i : ℕ). test i y) f ∙ h (suc k) y (omega (arith, l)) d))

all-none : (test : ℕ → Global → Bool) (owing : ℕ → Global → Owing) (globals : List Global) (n : ℕ)
    → length globals ≤ n → NoneOf test globals n → owings test owing 1 globals ≡ []
all-none test owing globals n l h = owings-none test owing 1 globals (λ k x there e.
    (let f : 1 + k ≡ k + 1 = omega arith in
    ap (λ (i : ℕ). test i x) f ∙ h k x (omega (arith, there, l)) there e))

pub nothing-due : (globals : List Global) (r : Registry) (n m : ℕ) → length globals ≤ n → length globals ≤ m
    → NoneOf (owes_removal r) globals n → NoneOf (owes_telling r) globals m → due_to globals r ≡ []
nothing-due globals r n m l d h k =
    ap (λ (os : List Owing). map (λ (owing : Owing). record { object = r.object; owing = owing }) os)
    (λ i. all-none (owes_removal r) (λ name _. Removal name) globals n l h i
    ++ all-none (owes_telling r) Telling globals m d k i)

-- ---- a name is added

and-no : (b : Bool) → (b && false) ≡ false
and-no true = refl
and-no false = refl

first-true : (b c : Bool) → (b && c) ≡ true → b ≡ true
first-true true c e = refl
first-true false c e = e

-- adding a name to a set neither adds nor removes another
pub name-apart : (names : List Bool) (n k : ℕ) → 0 < n → 0 < k → k ≢ n → has_name (with_name names n) k ≡ has_name names k
name-apart names n k p q ne =
    let other : k - 1 ≢ n - 1 = λ e. ne (omega (arith, e, p, q)) in
    unwrap_or-slice_get (with_name names n) (k - 1) false
    ∙ (get_or-set_other names (n - 1) (k - 1) true false other ∙ sym (unwrap_or-slice_get names (k - 1) false))

removed-kept : (r : Registry) (n k : ℕ) (y : Global) → k ≢ n → owes_removal r (k + 1) y ≡ false
    → owes_removal (marked (Removal (n + 1)) r) (k + 1) y ≡ false
removed-kept r n k y ne h =
    ap (λ (b : Bool). (has_name r.told (k + 1) && not y.present) && not b)
    (name-apart r.removed (n + 1) (k + 1) (omega arith) (omega arith) (λ e. ne (omega (arith, e)))) ∙ h

-- once the next removal is sent, no removal is owed for the first n + 1 names
pub removal-settled : (r : Registry) (globals : List Global) (n : ℕ) (x : Global)
    → NoneOf (owes_removal r) globals n → n < length globals → x ≡ get_or globals n x
    → has_name (with_name r.removed (n + 1)) (n + 1) ≡ true
    → NoneOf (owes_removal (marked (Removal (n + 1)) r)) globals (n + 1)
removal-settled r globals n x h here e is =
    none-next (owes_removal r) (owes_removal (marked (Removal (n + 1)) r)) globals n x
    (λ k y l f. removed-kept r n k y (λ same. omega (arith, same, l)) f) h here e
    (ap (λ (b : Bool). (has_name r.told (n + 1) && not x.present) && not b) is
    ∙ and-no (has_name r.told (n + 1) && not x.present))

told-kept : (r : Registry) (n k : ℕ) (x y : Global) → k ≢ n → owes_telling r (k + 1) y ≡ false
    → owes_telling (marked (Telling (n + 1) x) r) (k + 1) y ≡ false
told-kept r n k x y ne h =
    ap (λ (b : Bool). y.present && not b)
    (name-apart r.told (n + 1) (k + 1) (omega arith) (omega arith) (λ e. ne (omega (arith, e)))) ∙ h

-- the same holds for announcing a global
pub telling-settled : (r : Registry) (globals : List Global) (n : ℕ) (x : Global)
    → NoneOf (owes_telling r) globals n → n < length globals → x ≡ get_or globals n x
    → has_name (with_name r.told (n + 1)) (n + 1) ≡ true
    → NoneOf (owes_telling (marked (Telling (n + 1) x) r)) globals (n + 1)
telling-settled r globals n x h here e is =
    none-next (owes_telling r) (owes_telling (marked (Telling (n + 1) x) r)) globals n x
    (λ k y l f. told-kept r n k x y (λ same. omega (arith, same, l)) f) h here e
    (ap (λ (b : Bool). x.present && not b) is ∙ and-no x.present)

same_or_apart : (k n : ℕ) → (k ≡ n) ⊎ (k ≢ n)
same_or_apart k n = elim (side k n) [
  | inl less ↦ inr (λ e. omega (arith, e, less))
  | inr least ↦ elim (side n k) [
    | inl more ↦ inr (λ e. omega (arith, e, more))
    | inr most ↦ inl (omega (arith, least, most))
  ]
]

-- announcing a global makes no removal owed
pub removals-stay : (r : Registry) (globals : List Global) (n m : ℕ) (x : Global) → NoneOf (owes_removal r) globals m
    → n < length globals → x ≡ get_or globals n x → owes_telling r (n + 1) x ≡ true
    → NoneOf (owes_removal (marked (Telling (n + 1) x) r)) globals m
removals-stay r globals n m x h here e is k y l there d = elim (same_or_apart k n) [
  | inl same ↦ (
      let present : y.present ≡ true = ap (λ (g : Global). g.present) (same-global globals k n x y same here e d)
      ∙ first-true x.present (not (has_name r.told (n + 1))) is in
      ap (λ (b : Bool). (has_name (with_name r.told (n + 1)) (k + 1) && not b) && not (has_name r.removed (k + 1)))
      present
      ∙ ap (λ (b : Bool). b && not (has_name r.removed (k + 1)))
      (and-no (has_name (with_name r.told (n + 1)) (k + 1))))
  | inr ne ↦
      ap (λ (b : Bool). (b && not y.present) && not (has_name r.removed (k + 1)))
      (name-apart r.told (n + 1) (k + 1) (omega arith) (omega arith) (λ f. ne (omega (arith, f))))
      ∙ h k y l there d
]
