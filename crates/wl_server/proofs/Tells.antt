-- Announcing globals to one registry, name by name.
use Rattle.std.proofs.Common.{◌≡◌, ℕ, ◌+◌, ◌<◌, ◌≤◌, true, false, List, [], ◌∷◌, ◌++◌, length}
use Rattle.std.proofs.Common.{drop, get_or, sym, subst, arith}
use Rattle.wl_message.specs.Outgoing.{room_of}
use Rattle.wl_object_map.specs.declared.object.Object.{Object}
use Rattle.wl_objects.specs.Writing.{message_len}
use Rattle.wl_connection.specs.Core.{Core, IsOrdinary}
use Rattle.wl_server.specs.State.{Global, Registry}
use Rattle.wl_server.specs.Announcing.{Due, Owing, Removal, Telling, owings}
use Rattle.wl_server.specs.Announcing.{owes_removal, owes_telling, marked, values_of}
use Rattle.wl_server.specs.Tellings.{Progress, IsAnnounced, IsWritten, dues_for}
use Rattle.wl_server.proofs.OwedByRegistry.{owings-skip, owings-skip-all, owings-take, removals-behind}
use Rattle.wl_server.proofs.OwedByRegistry.{tellings-behind}
use Rattle.wl_server.proofs.TellingGoesOn.{told-one}

pub told-blocked : (core : Core) (rs : List Registry) (all : List Due) (count : ℕ) (now new : Core) (ms : List Registry)
    (d : Due) (rest : List Due) → Progress core rs all count now ms (d ∷ rest)
    → (room_of now.outbox < message_len (values_of now.tables d.owing)) × (new ≡ now)
    → IsAnnounced core rs all (record { count = count; all = false }) new ms
told-blocked core rs all count now new ms d rest p h = record {
  rest = d ∷ rest;
  progress = subst (λ (c : Core). Progress core rs all count c ms (d ∷ rest)) (sym h.1) p;
  end = subst (λ (c : Core). room_of c.outbox < message_len (values_of c.tables d.owing)) (sym h.1) h.0;
}

-- the removals from this place on are still owed, and all new globals
abbrev pub Removing : Core → List Registry → List Due → Object → List Global → ℕ → ℕ → Core → Registry → Type 0
Removing core rs all o globals i count now r =
    Progress core rs all count now (r ∷ []) (dues_for o
    (owings (owes_removal r) (λ name _. Removal name) (i + 1) (drop i globals)
    ++ owings (owes_telling r) Telling 1 globals))

-- the new globals from this place on are still owed
abbrev pub Adding : Core → List Registry → List Due → Object → List Global → ℕ → ℕ → Core → Registry → Type 0
Adding core rs all o globals i count now r = Progress core rs all count now (r ∷ [])
    (dues_for o (owings (owes_telling r) Telling (i + 1) (drop i globals)))

pub along : {A B C : Type 0} (P : A → B → C → Type 0) (a a' : A) (b b' : B) (c c' : C) → a' ≡ a → b' ≡ b → c' ≡ c
    → P a b c → P a' b' c'
along P a a' b b' c c' p q r h = subst (λ x. P x b' c') (sym p)
    (subst (λ y. P a y c') (sym q) (subst (λ z. P a b z) (sym r) h))

-- a global whose removal is not owed is skipped
pub removal-skipped : (core : Core) (rs : List Registry) (all : List Due) (count : ℕ) (now : Core) (r : Registry)
    (o : Object) (globals : List Global) (i : ℕ) (x : Global) → i < length globals → x ≡ get_or globals i x
    → owes_removal r (i + 1) x ≡ false
    → Removing core rs all o globals i count now r
    → Removing core rs all o globals (i + 1) count now r
removal-skipped core rs all count now r o globals i x l e t p =
    subst (λ (list : List Owing). Progress core rs all count now (r ∷ [])
    (dues_for o (list ++ owings (owes_telling r) Telling 1 globals)))
    (owings-skip (owes_removal r) (λ name _. Removal name) i globals x l e t) p

-- all globals up to a later place are skipped if none of their removals is owed
pub removals-passed : (core : Core) (rs : List Registry) (all : List Due) (count : ℕ) (now : Core) (r : Registry)
    (o : Object) (globals : List Global) (i j : ℕ) → i ≤ j
    → ((k : ℕ) (x : Global) → i ≤ k → k < j → k < length globals → x ≡ get_or globals k x
    → owes_removal r (k + 1) x ≡ false)
    → Removing core rs all o globals i count now r
    → Removing core rs all o globals j count now r
removals-passed core rs all count now r o globals i j m none p =
    subst (λ (list : List Owing). Progress core rs all count now (r ∷ [])
    (dues_for o (list ++ owings (owes_telling r) Telling 1 globals)))
    (owings-skip-all (owes_removal r) (λ name _. Removal name) i j globals m none) p

-- if the removal of a global is owed, it is next
pub removal-next : (core : Core) (rs : List Registry) (all : List Due) (count : ℕ) (now : Core) (r : Registry)
    (o : Object) (globals : List Global) (i : ℕ) (x : Global) → i < length globals → x ≡ get_or globals i x
    → owes_removal r (i + 1) x ≡ true
    → Removing core rs all o globals i count now r
    → Progress core rs all count now (r ∷ []) (record { object = o; owing = Removal (i + 1) }
    ∷ dues_for o (owings (owes_removal r) (λ name _. Removal name) (i + 1 + 1) (drop (i + 1) globals)
    ++ owings (owes_telling r) Telling 1 globals))
removal-next core rs all count now r o globals i x l e t p =
    subst (λ (list : List Owing). Progress core rs all count now (r ∷ [])
    (dues_for o (list ++ owings (owes_telling r) Telling 1 globals)))
    (owings-take (owes_removal r) (λ name _. Removal name) i globals x l e t) p

-- and then it is written and marked
pub removal-told : (core : Core) (rs : List Registry) (all : List Due) (count : ℕ) (now new : Core) (r : Registry)
    (o : Object) (globals : List Global) (i : ℕ) (x : Global) → IsOrdinary core.outbox → r.object ≡ o
    → i < length globals → x ≡ get_or globals i x → owes_removal r (i + 1) x ≡ true
    → Removing core rs all o globals i count now r
    → IsWritten now o.id (Removal (i + 1)) true new
    → Removing core rs all o globals (i + 1) (count + 1) new (marked (Removal (i + 1)) r)
removal-told core rs all count now new r o globals i x ord own l e t p w =
    subst (λ (list : List Owing). Progress core rs all (count + 1) new (marked (Removal (i + 1)) r ∷ [])
    (dues_for o (list ++ owings (owes_telling r) Telling 1 globals)))
    (removals-behind r (λ name _. Removal name) (i + 1) (i + 1 + 1) (drop (i + 1) globals) (omega arith) (omega arith))
    (told-one core rs all count now new r (record { object = o; owing = Removal (i + 1) })
    (dues_for o (owings (owes_removal r) (λ name _. Removal name) (i + 1 + 1) (drop (i + 1) globals)
    ++ owings (owes_telling r) Telling 1 globals)) ord
    (removal-next core rs all count now r o globals i x l e t p) (sym own) w.0 w.1)

-- a global that is not new to the registry is skipped
pub telling-skipped : (core : Core) (rs : List Registry) (all : List Due) (count : ℕ) (now : Core) (r : Registry)
    (o : Object) (globals : List Global) (i : ℕ) (x : Global) → i < length globals → x ≡ get_or globals i x
    → owes_telling r (i + 1) x ≡ false
    → Adding core rs all o globals i count now r
    → Adding core rs all o globals (i + 1) count now r
telling-skipped core rs all count now r o globals i x l e t p =
    subst (λ (list : List Owing). Progress core rs all count now (r ∷ []) (dues_for o list))
    (owings-skip (owes_telling r) Telling i globals x l e t) p

-- all globals up to a later place are skipped if none is new to the registry
pub tellings-passed : (core : Core) (rs : List Registry) (all : List Due) (count : ℕ) (now : Core) (r : Registry)
    (o : Object) (globals : List Global) (i j : ℕ) → i ≤ j
    → ((k : ℕ) (x : Global) → i ≤ k → k < j → k < length globals → x ≡ get_or globals k x
    → owes_telling r (k + 1) x ≡ false)
    → Adding core rs all o globals i count now r
    → Adding core rs all o globals j count now r
tellings-passed core rs all count now r o globals i j m none p =
    subst (λ (list : List Owing). Progress core rs all count now (r ∷ []) (dues_for o list))
    (owings-skip-all (owes_telling r) Telling i j globals m none) p

-- a global that is new to the registry is next
pub telling-next : (core : Core) (rs : List Registry) (all : List Due) (count : ℕ) (now : Core) (r : Registry)
    (o : Object) (globals : List Global) (i : ℕ) (x : Global) → i < length globals → x ≡ get_or globals i x
    → owes_telling r (i + 1) x ≡ true
    → Adding core rs all o globals i count now r
    → Progress core rs all count now (r ∷ []) (record { object = o; owing = Telling (i + 1) x }
    ∷ dues_for o (owings (owes_telling r) Telling (i + 1 + 1) (drop (i + 1) globals)))
telling-next core rs all count now r o globals i x l e t p =
    subst (λ (list : List Owing). Progress core rs all count now (r ∷ []) (dues_for o list))
    (owings-take (owes_telling r) Telling i globals x l e t) p

-- and then it is written and marked
pub telling-told : (core : Core) (rs : List Registry) (all : List Due) (count : ℕ) (now new : Core) (r : Registry)
    (o : Object) (globals : List Global) (i : ℕ) (x : Global) → IsOrdinary core.outbox → r.object ≡ o
    → i < length globals → x ≡ get_or globals i x → owes_telling r (i + 1) x ≡ true
    → Adding core rs all o globals i count now r
    → IsWritten now o.id (Telling (i + 1) x) true new
    → Adding core rs all o globals (i + 1) (count + 1) new (marked (Telling (i + 1) x) r)
telling-told core rs all count now new r o globals i x ord own l e t p w =
    subst (λ (list : List Owing). Progress core rs all (count + 1) new (marked (Telling (i + 1) x) r ∷ [])
    (dues_for o list))
    (tellings-behind r x Telling (i + 1) (i + 1 + 1) (drop (i + 1) globals) (omega arith) (omega arith))
    (told-one core rs all count now new r (record { object = o; owing = Telling (i + 1) x })
    (dues_for o (owings (owes_telling r) Telling (i + 1 + 1) (drop (i + 1) globals))) ord
    (telling-next core rs all count now r o globals i x l e t p) (sym own) w.0 w.1)
