-- What one registry is owed, name by name.
use Rattle.std.proofs.Common.{◌≡◌, ◌≢◌, ℕ, suc, ◌+◌, ◌-◌, ◌<◌, ◌≤◌, Bool, true, false, List, []}
use Rattle.std.proofs.Common.{◌∷◌, length, drop, get_or, refl, sym, ◌∙◌, ap, arith, add-one}
use Rattle.std.proofs.Common.{drop-cons}
use Rattle.std.specs.Prelude.{not, ◌&&◌, if◌then◌else◌}
use Rattle.std.proofs.Common.{inl, inr, zero}
use Rattle.std.proofs.lemmas.Bool.{cases_lt}
use Rattle.std.proofs.lemmas.List.{drop_all, get_or-set_other, get_or_default}
use Rattle.std.proofs.lemmas.Option.{unwrap_or-slice_get}
use Rattle.wl_server.specs.State.{Global, Registry, has_name, with_name}
use Rattle.wl_server.specs.Announcing.{Owing, Removal, Telling, owings, owes_removal, owes_telling, marked}

-- nothing is owed for the first name
pub owings-skip : (test : ℕ → Global → Bool) (owing : ℕ → Global → Owing) (i : ℕ) (globals : List Global) (x : Global)
    → i < length globals → x ≡ get_or globals i x → test (i + 1) x ≡ false
    → owings test owing (i + 1) (drop i globals) ≡ owings test owing (i + 1 + 1) (drop (i + 1) globals)
owings-skip test owing i globals x l e t = rw (drop-cons globals i x l, ← e, t) (rw (add-one, add-one) refl)

-- an event is owed for the first name
pub owings-take : (test : ℕ → Global → Bool) (owing : ℕ → Global → Owing) (i : ℕ) (globals : List Global) (x : Global)
    → i < length globals → x ≡ get_or globals i x → test (i + 1) x ≡ true
    → owings test owing (i + 1) (drop i globals) ≡ owing (i + 1) x
    ∷ owings test owing (i + 1 + 1) (drop (i + 1) globals)
owings-take test owing i globals x l e t = rw (drop-cons globals i x l, ← e, t) (rw (add-one, add-one) refl)

pub owings-end : (test : ℕ → Global → Bool) (owing : ℕ → Global → Owing) (i n : ℕ) (globals : List Global)
    → length globals ≤ i → owings test owing n (drop i globals) ≡ []
owings-end test owing i n globals l = ap (owings test owing n) (drop_all i globals l)

-- nothing is owed for the next n globals
skip-next : (test : ℕ → Global → Bool) (owing : ℕ → Global → Owing) (i n : ℕ) (globals : List Global) (any : Global)
    → ((k : ℕ) (x : Global) → i ≤ k → k < i + n → k < length globals → x ≡ get_or globals k x → test (k + 1) x ≡ false)
    → owings test owing (i + 1) (drop i globals) ≡ owings test owing (i + n + 1) (drop (i + n) globals)
skip-next test owing i zero globals any f =
    let same : i ≡ i + 0 = omega arith in ap (λ (j : ℕ). owings test owing (j + 1) (drop j globals)) same
skip-next test owing i (suc n) globals any f =
    let place = i + n in
    let next : place + 1 ≡ i + suc n = omega arith in
    let front = skip-next test owing i n globals any (λ k x l m there e. f k x l (omega (arith, m)) there e) in
    let step : owings test owing (place + 1) (drop place globals)
    ≡ owings test owing (place + 1 + 1) (drop (place + 1) globals) =
    elim (cases_lt place (length globals)) [
      | inl less ↦
          (let at : get_or globals place any ≡ get_or globals place (get_or globals place any) =
          get_or_default globals place any (get_or globals place any) less in
          owings-skip test owing place globals (get_or globals place any) less at
          (f place (get_or globals place any) (omega arith) (omega arith) less at))
      | inr behind ↦ owings-end test owing place (place + 1) globals behind
          ∙ sym (owings-end test owing (place + 1) (place + 1 + 1) globals (omega (arith, behind)))
    ] in
    front ∙ step ∙ ap (λ (j : ℕ). owings test owing (j + 1) (drop j globals)) next

-- nothing is owed for the globals up to a later place
pub owings-skip-all : (test : ℕ → Global → Bool) (owing : ℕ → Global → Owing) (i j : ℕ) (globals : List Global) → i ≤ j
    → ((k : ℕ) (x : Global) → i ≤ k → k < j → k < length globals → x ≡ get_or globals k x → test (k + 1) x ≡ false)
    → owings test owing (i + 1) (drop i globals) ≡ owings test owing (j + 1) (drop j globals)
owings-skip-all test owing i j globals m f =
    let same : i + (j - i) ≡ j = omega (arith, m) in
    skip-next test owing i (j - i) globals (record { iface = record { 0 = 0 }; version = 0; present = false })
    (λ k x least less there e. f k x least (omega (arith, less, same)) there e)
    ∙ ap (λ (n : ℕ). owings test owing (n + 1) (drop n globals)) same

-- tests that agree from this name on
owings-same : (test other : ℕ → Global → Bool) (owing : ℕ → Global → Owing) (n : ℕ) (globals : List Global)
    → ((k : ℕ) (x : Global) → n ≤ k → test k x ≡ other k x) → owings test owing n globals ≡ owings other owing n globals
owings-same test other owing n [] h = refl
owings-same test other owing n (x ∷ globals) h =
    let more : owings test owing (suc n) globals ≡ owings other owing (suc n) globals =
    owings-same test other owing (suc n) globals (λ k y l. h k y (omega (arith, l))) in
    ap (λ (b : Bool). if b then owing n x ∷ owings test owing (suc n) globals else owings test owing (suc n) globals)
    (h n x (omega arith))
    ∙ ap (λ (l : List Owing). if other n x then owing n x ∷ l else l) more

-- adding a name to a set neither adds nor removes a later one
name-other : (names : List Bool) (n k : ℕ) → 0 < n → n < k → has_name (with_name names n) k ≡ has_name names k
name-other names n k p l =
    let other : k - 1 ≢ n - 1 = λ e. omega (arith, e) in
    unwrap_or-slice_get (with_name names n) (k - 1) false
    ∙ (get_or-set_other names (n - 1) (k - 1) true false other ∙ sym (unwrap_or-slice_get names (k - 1) false))

-- sending the removal of a name changes nothing for the names after it
pub removals-behind : (r : Registry) (owing : ℕ → Global → Owing) (n m : ℕ) (globals : List Global) → 0 < n → n < m
    → owings (owes_removal r) owing m globals ≡ owings (owes_removal (marked (Removal n) r)) owing m globals
removals-behind r owing n m globals p l =
    owings-same (owes_removal r) (owes_removal (marked (Removal n) r)) owing m globals
    (λ k x h. ap (λ (b : Bool). (has_name r.told k && not x.present) && not b)
    (sym (name-other r.removed n k p (omega (arith, h)))))

pub tellings-behind : (r : Registry) (x : Global) (owing : ℕ → Global → Owing) (n m : ℕ) (globals : List Global) → 0 < n
    → n < m
    → owings (owes_telling r) owing m globals ≡ owings (owes_telling (marked (Telling n x) r)) owing m globals
tellings-behind r x owing n m globals p l =
    owings-same (owes_telling r) (owes_telling (marked (Telling n x) r)) owing m globals
    (λ k y h. ap (λ (b : Bool). y.present && not b) (sym (name-other r.told n k p (omega (arith, h)))))
