-- An end after owed events were written, one after another, and registries after they were marked.
use Rattle.std.proofs.Common.{◌≡◌, ℕ, zero, suc, ◌+◌, ◌-◌, ◌<◌, ◌≤◌, Bool, true, false, List, []}
use Rattle.std.proofs.Common.{◌∷◌, ◌++◌, length, take, get_or, set, refl, sym, subst, ◌∙◌, ap}
use Rattle.std.proofs.Common.{arith, length-append}
use Rattle.std.specs.Prelude.{nat_eq, if◌then◌else◌}
use Rattle.std.specs.List.{AllByRecursion}
use Rattle.std.proofs.lemmas.Bool.{eq-eqb}
use Rattle.std.proofs.lemmas.Bool.Decides.{nat_tests}
use Rattle.std.proofs.lemmas.List.{get_or-set_same, length-set, set-get_or, set-set}
use Rattle.wl_sigs.specs.Tables.{Interface}
use Rattle.wl_message.specs.Outgoing.{Outgoing, all_bytes, queued, room_of, with_message}
use Rattle.wl_message.proofs.TakenInStep.{bytes_append}
use Rattle.wl_object_map.specs.declared.object.Object.{Object}
use Rattle.wl_objects.specs.Writing.{message_len, message_bytes}
use Rattle.wl_objects.proofs.Calls.{len-least}
use Rattle.wl_objects.proofs.Wholes.{length-message}
use Rattle.wl_connection.specs.Core.{Core, IsOrdinary}
use Rattle.wl_connection.specs.Sending.{with_sent}
use Rattle.wl_server.specs.State.{Registry, RiseFrom}
use Rattle.wl_server.specs.Tellings.{dues_for}
use Rattle.wl_server.specs.Announcing.{Due, Owing, Removal, Telling, due_len, owed_opcode, values_of}
use Rattle.wl_server.specs.Announcing.{with_dues, marked, marked_in, all_marked}

-- ---- an end after events were written

abbrev pub with_due : Core → Due → Core
with_due core d = with_sent core d.object.id (owed_opcode d.owing) (values_of core.tables d.owing) []

pub with_dues-append : (core : Core) (xs ys : List Due) → with_dues core (xs ++ ys) ≡ with_dues (with_dues core xs) ys
with_dues-append core [] ys = refl
with_dues-append core (x ∷ xs) ys = with_dues-append (with_due core x) xs ys

pub tables-dues : (core : Core) (xs : List Due) → (with_dues core xs).tables ≡ core.tables
tables-dues core [] = refl
tables-dues core (x ∷ xs) = tables-dues (with_due core x) xs

pub view-dues : (core : Core) (xs : List Due) → (with_dues core xs).view ≡ core.view
view-dues core [] = refl
view-dues core (x ∷ xs) = view-dues (with_due core x) xs

pub ordinary-dues : (core : Core) (xs : List Due) → IsOrdinary core.outbox → IsOrdinary (with_dues core xs).outbox
ordinary-dues core [] o = o
ordinary-dues core (x ∷ xs) o = ordinary-dues (with_due core x) xs o

room-sent : (o : Outgoing) (bytes : List ℕ) → o.error_to ≡ 0
    → room_of (with_message o bytes []) ≡ room_of o - length bytes
room-sent o bytes e =
    omega (
      arith,
      ap length (bytes_append o.messages (queued bytes [] ∷ [])),
      length-append (all_bytes o.messages) (all_bytes (queued bytes [] ∷ [])),
      length-append bytes [],
      length-append o.left (all_bytes o.messages),
      length-append o.left (all_bytes (o.messages ++ queued bytes [] ∷ [])),
    )

-- the room shrinks by the lengths of the events
pub room-dues : (core : Core) (xs : List Due) → IsOrdinary core.outbox
    → room_of (with_dues core xs).outbox ≡ room_of core.outbox - due_len core.tables xs
room-dues core [] o = omega arith
room-dues core (x ∷ xs) o =
    let more : room_of (with_dues (with_due core x) xs).outbox
    ≡ room_of (with_due core x).outbox - due_len core.tables xs = room-dues (with_due core x) xs o in
    let one : room_of (with_due core x).outbox ≡ room_of core.outbox - length
    (message_bytes x.object.id (owed_opcode x.owing) (values_of core.tables x.owing)) =
    room-sent core.outbox (message_bytes x.object.id (owed_opcode x.owing) (values_of core.tables x.owing)) o.1 in
    omega (arith, more, one, length-message x.object.id (owed_opcode x.owing) (values_of core.tables x.owing))

pub due_len-append : (tables : List Interface) (xs ys : List Due)
    → due_len tables (xs ++ ys) ≡ due_len tables xs + due_len tables ys
due_len-append tables [] ys = omega arith
due_len-append tables (x ∷ xs) ys = omega (arith, due_len-append tables xs ys)

-- every event has bytes
pub length-dues : (tables : List Interface) (xs : List Due) → length xs ≤ due_len tables xs
length-dues tables [] = omega arith
length-dues tables (x ∷ xs) = omega (arith, length-dues tables xs, len-least (values_of tables x.owing))

-- more events than the first ones include the one after these
pub due_len-take : (tables : List Interface) (xs : List Due) (d : Due) (ds : List Due) (n : ℕ) → length xs < n
    → due_len tables xs + message_len (values_of tables d.owing) ≤ due_len tables (take n (xs ++ d ∷ ds))
due_len-take tables [] d ds (suc n) h = omega arith
due_len-take tables (x ∷ xs) d ds (suc n) h = omega (arith, due_len-take tables xs d ds n (omega arith))
due_len-take tables xs d ds zero h = absurd (omega arith)

-- ---- registries after events were marked

pub all_marked-append : (xs ys : List Due) (rs : List Registry)
    → all_marked (xs ++ ys) rs ≡ all_marked ys (all_marked xs rs)
all_marked-append [] ys rs = refl
all_marked-append (x ∷ xs) ys rs = all_marked-append xs ys (marked_in x rs)

pub marked-object : (o : Owing) (r : Registry) → (marked o r).object ≡ r.object
marked-object (Removal name) r = refl
marked-object (Telling name global) r = refl

pub marked_in-own : (d : Due) (r : Registry) → d.object ≡ r.object → marked_in d (r ∷ []) ≡ marked d.owing r ∷ []
marked_in-own d r e =
    let same : nat_eq r.object.birth d.object.birth ≡ true =
    eq-eqb r.object.birth d.object.birth (ap (λ (o : Object). o.birth) (sym e)) in
    rw same refl

pub either-object : (b : Bool) (o : Owing) (r : Registry) → (if b then marked o r else r).object ≡ r.object
either-object true o r = marked-object o r
either-object false o r = refl

pub rising-marked : (d : Due) (low high : ℕ) (rs : List Registry) → RiseFrom low high rs
    → RiseFrom low high (marked_in d rs)
rising-marked d low high [] h = h
rising-marked d low high (r ∷ rs) h =
    let same : (if nat_eq r.object.birth d.object.birth then marked d.owing r else r).object.birth ≡ r.object.birth =
    ap (λ (o : Object). o.birth) (either-object (nat_eq r.object.birth d.object.birth) d.owing r) in (
      subst (λ (n : ℕ). low ≤ n) (sym same) h.0,
      subst (λ (n : ℕ). RiseFrom (suc n) high (marked_in d rs)) (sym same)
          (rising-marked d (suc r.object.birth) high rs h.1),
    )

pub rising-all : (ds : List Due) (low high : ℕ) (rs : List Registry) → RiseFrom low high rs
    → RiseFrom low high (all_marked ds rs)
rising-all [] low high rs h = h
rising-all (d ∷ ds) low high rs h = rising-all ds low high (marked_in d rs) (rising-marked d low high rs h)

-- an event for an earlier registry marks none
none-marked : (d : Due) (low high : ℕ) (rs : List Registry) → RiseFrom low high rs → d.object.birth < low
    → marked_in d rs ≡ rs
none-marked d low high [] h b = refl
none-marked d low high (r ∷ rs) h b =
    let other : nat_eq r.object.birth d.object.birth ≡ false = grind (arith, nat_tests, h.0, b) in
    rw other (ap (λ (l : List Registry). r ∷ l) (none-marked d (suc r.object.birth) high rs h.1
    (omega (arith, h.0, b))))

later : (low high : ℕ) (rs : List Registry) (i : ℕ) (r : Registry) → RiseFrom low high rs → i < length rs
    → low ≤ (get_or rs i r).object.birth
later low high [] i r h l = absurd (omega arith)
later low high (x ∷ rs) zero r h l = h.0
later low high (x ∷ rs) (suc i) r h l = let more : suc x.object.birth ≤ (get_or rs i r).object.birth =
    later (suc x.object.birth) high rs i r h.1 (omega arith) in omega (arith, more, h.0)

-- an event marks the registry that it is for, and no other
marked-at : (d : Due) (low high : ℕ) (rs : List Registry) (i : ℕ) (r : Registry) → RiseFrom low high rs → i < length rs
    → d.object ≡ (get_or rs i r).object → marked_in d rs ≡ set rs i (marked d.owing (get_or rs i r))
marked-at d low high [] i r h l e = absurd (omega arith)
marked-at d low high (x ∷ rs) zero r h l e =
    let same : nat_eq x.object.birth d.object.birth ≡ true =
    eq-eqb x.object.birth d.object.birth (ap (λ (o : Object). o.birth) (sym e)) in
    let birth : d.object.birth ≡ x.object.birth = ap (λ (o : Object). o.birth) e in
    rw same (ap (λ (l : List Registry). marked d.owing x ∷ l)
    (none-marked d (suc x.object.birth) high rs h.1 (omega (arith, birth))))
marked-at d low high (x ∷ rs) (suc i) r h l e =
    let birth : d.object.birth ≡ (get_or rs i r).object.birth = ap (λ (o : Object). o.birth) e in
    let behind : suc x.object.birth ≤ (get_or rs i r).object.birth =
    later (suc x.object.birth) high rs i r h.1 (omega arith) in
    let other : nat_eq x.object.birth d.object.birth ≡ false = grind (arith, nat_tests, birth, behind) in
    rw other (ap (λ (l : List Registry). x ∷ l) (marked-at d (suc x.object.birth) high rs i r h.1 (omega arith) e))

-- each of these events is for this object
abbrev pub AreFor : Object → List Due → Type 0
AreFor object ds = AllByRecursion (λ d. d.object ≡ object) ds

-- events for one registry mark it, and no other
pub all-marked-at : (ds : List Due) (low high : ℕ) (rs : List Registry) (i : ℕ) (r after : Registry)
    → RiseFrom low high rs → i < length rs → r ≡ get_or rs i r → AreFor r.object ds
    → all_marked ds (r ∷ []) ≡ after ∷ [] → all_marked ds rs ≡ set rs i after
all-marked-at [] low high rs i r after h l e f m =
    let same : r ≡ after = cc in
    sym (ap (set rs i) (sym same ∙ e) ∙ set-get_or rs i r)
all-marked-at (d ∷ ds) low high rs i r after h l e f m =
    let one : marked_in d rs ≡ set rs i (marked d.owing r) =
    marked-at d low high rs i r h l (f.0 ∙ ap (λ (x : Registry). x.object) e)
    ∙ ap (λ (x : Registry). set rs i (marked d.owing x)) (sym e) in
    let rising : RiseFrom low high (set rs i (marked d.owing r)) =
    subst (RiseFrom low high) one (rising-marked d low high rs h) in
    let within : i < length (set rs i (marked d.owing r)) = omega (arith, length-set rs i (marked d.owing r)) in
    let at : marked d.owing r ≡ get_or (set rs i (marked d.owing r)) i (marked d.owing r) =
    sym (get_or-set_same rs i (marked d.owing r) (marked d.owing r) l) in
    let for_it : AreFor (marked d.owing r).object ds =
    subst (λ (o : Object). AreFor o ds) (sym (marked-object d.owing r)) f.1 in
    let more : all_marked ds (marked d.owing r ∷ []) ≡ after ∷ [] =
    sym (ap (all_marked ds) (marked_in-own d r f.0)) ∙ m in
    ap (all_marked ds) one ∙ (all-marked-at ds low high (set rs i (marked d.owing r)) i
    (marked d.owing r) after rising within at for_it more ∙ set-set rs i (marked d.owing r) after)

-- the first of the events for an object are for it
pub front-for : (object : Object) (list : List Owing) (front rest : List Due) → dues_for object list ≡ front ++ rest
    → AreFor object front
front-for object list [] rest e = tt
front-for object [] (d ∷ front) rest e = absurd (cc)
front-for object (o ∷ list) (d ∷ front) rest e =
    let first : record { object = object; owing = o } ≡ d = cc in
    let more : dues_for object list ≡ front ++ rest = cc in
    (ap (λ (x : Due). x.object) (sym first), front-for object list front rest more)
