-- What tables that complete others have in common with them.
use Rattle.std.proofs.Common.{◌≡◌, ℕ, zero, suc, ◌+◌, ◌<◌, ◌≤◌, Bool, true, false, cond, ◌&&◌, ◌||◌}
use Rattle.std.proofs.Common.{nat_le, nat_lt, List, [], ◌∷◌, ◌++◌, length, slice_get, Some, None, bytes_eq, refl}
use Rattle.std.proofs.Common.{sym, ap, ◌∙◌, arith}
use Rattle.std.specs.Prelude.{Option, option_and_then, option_map, is_none}
use Rattle.std.specs.Option.{option_map_or}
use Rattle.std.specs.List.{position_or_len, list_any}
use Rattle.std.proofs.lemmas.List.Folds.{list_any-append}
use Rattle.std.proofs.lemmas.Bool.{lt-ltb}
use Rattle.std.proofs.lemmas.Bool.Decides.{nat_tests}
use Rattle.wl_wire.specs.declared.kind.Iface.{Iface}
use Rattle.wl_sigs.specs.Side.{Side}
use Rattle.wl_sigs.specs.Side.TheVariants.{Request}
use Rattle.wl_sigs.specs.Rules.{is_ended_by_request}
use Rattle.wl_sigs.specs.Tables.{MessageSignature, Interface, interface_at, messages_of, message_of, signature_at}
use Rattle.wl_sigs.specs.Tables.{place_of, destroys_target, has_destroying_request}
use Rattle.theory_completion.specs.Completion.{IsNewer, Completes, IsRaised, newer}

-- ---- interfaces

-- an interface of the tables, and the same in tables that complete them
pub record Both (other : List Interface) (place : ℕ) (old : Interface) : Type 0 where
  pub new : Interface
  pub at : interface_at other place ≡ Some new
  pub is : IsNewer old new

pub both : (tables other : List Interface) (place : ℕ) (old : Interface) → Completes tables other
    → interface_at tables place ≡ Some old → Both other place old
both [] other place old completes at = absurd (cc (at))
both (i ∷ is) other zero old (newer {new = j} one rest) at =
    let same : i ≡ old = cc in
    record { new = j; at = refl; is = rw (← same) one }
both (i ∷ is) other (suc place) old (newer {news = js} one rest) at =
    let found = both is js place old rest at in record { new = found.new; at = found.at; is = found.is }

-- ---- messages

-- the messages of two lists, one behind the other
front_stays : (old added : List MessageSignature) (opcode : ℕ) (m : MessageSignature)
    → slice_get old opcode ≡ Some m → slice_get (old ++ added) opcode ≡ Some m
front_stays [] added opcode m at = absurd (cc (at))
front_stays (x ∷ old) added zero m at = at
front_stays (x ∷ old) added (suc opcode) m at = front_stays old added opcode m at

back_is_added : (old added : List MessageSignature) (opcode : ℕ) (m : MessageSignature)
    → slice_get old opcode ≡ None → slice_get (old ++ added) opcode ≡ Some m
    → (place : ℕ) × (slice_get added place ≡ Some m)
back_is_added [] added opcode m none at = (opcode, at)
back_is_added (x ∷ old) added zero m none at = absurd (cc (none))
back_is_added (x ∷ old) added (suc opcode) m none at = back_is_added old added opcode m none at

pub message_stays : (old new : Interface) (side : Side) (opcode : ℕ) (m : MessageSignature) → IsNewer old new
    → message_of side opcode old ≡ Some m → message_of side opcode new ≡ Some m
message_stays old new side opcode m is at =
    let adds = is.messages side in
    ap (λ (ms : List MessageSignature). slice_get ms opcode) adds.are
    ∙ front_stays (messages_of side old) adds.added opcode m at

pub message_is_newer : (old new : Interface) (side : Side) (opcode : ℕ) (m : MessageSignature) → IsNewer old new
    → message_of side opcode old ≡ None → message_of side opcode new ≡ Some m → old.version < m.since
message_is_newer old new side opcode m is none at =
    let adds = is.messages side in
    let found = back_is_added (messages_of side old) adds.added opcode m none
    (sym (ap (λ (ms : List MessageSignature). slice_get ms opcode) adds.are) ∙ at) in
    adds.newer found.0 m found.1

-- a message of the tables is in tables that complete them
pub signature_stays : (tables other : List Interface) (place : ℕ) (side : Side) (opcode : ℕ) (m : MessageSignature)
    → Completes tables other → signature_at tables place side opcode ≡ Some m
    → signature_at other place side opcode ≡ Some m
signature_stays [] other place side opcode m completes at = absurd (cc (at))
signature_stays (i ∷ is) other zero side opcode m (newer {new = j} one rest) at =
    message_stays i j side opcode m one at
signature_stays (i ∷ is) other (suc place) side opcode m (newer {news = js} one rest) at =
    signature_stays is js place side opcode m rest at

-- a message that the tables lack is newer than a version that they have
pub signature_is_newer : (tables other : List Interface) (iface : Iface) (place version : ℕ) (side : Side)
    (opcode : ℕ) (m : MessageSignature)
    → Completes tables other → option_map_or (λ (i : Interface). nat_le version i.version) (interface_at tables place) false ≡ true
    → signature_at tables place side opcode ≡ None → signature_at other place side opcode ≡ Some m
    → version < m.since
signature_is_newer [] other iface place version side opcode m completes has none at = absurd (cc (has))
signature_is_newer (i ∷ is) other iface zero version side opcode m (newer {new = j} one rest) has none at =
    let later = message_is_newer i j side opcode m one none at in
    grind (arith, nat_tests, has, later)
signature_is_newer (i ∷ is) other iface (suc place) version side opcode m (newer {news = js} one rest) has none at =
    signature_is_newer is js iface place version side opcode m rest has none at

-- ---- requests that end an object

abbrev ends_at : ℕ → MessageSignature → Bool
ends_at version m = destroys_target m.destroys && nat_le m.since version

both_false : (b : Bool) → ((b && false) || false) ≡ false
both_false true = refl
both_false false = refl

-- no added request has this version or an older one
none_added : (version : ℕ) (added : List MessageSignature)
    → ((place : ℕ) (m : MessageSignature) → slice_get added place ≡ Some m → version < m.since)
    → list_any (ends_at version) added ≡ false
none_added version [] later = refl
none_added version (m ∷ added) later =
    let late : nat_le m.since version ≡ false = (let l = later zero m refl in grind (arith, nat_tests, l)) in
    let rest = none_added version added (λ place x at. later (suc place) x at) in
    rw (late, rest) (both_false (destroys_target m.destroys))

or_none : (b : Bool) → (b || false) ≡ b
or_none true = refl
or_none false = refl

-- whether a request can end an object of a version that the tables have does not change
ended_same : (old new : Interface) (version : ℕ) → IsNewer old new → version ≤ old.version
    → has_destroying_request version new ≡ has_destroying_request version old
ended_same old new version is known =
    let adds = is.messages Request in
    let none = none_added version adds.added (λ place m at. let l = adds.newer place m at in omega (arith, l, known)) in
    ap (list_any (ends_at version)) adds.are
    ∙ list_any-append (ends_at version) old.requests adds.added
    ∙ ap (λ b. list_any (ends_at version) old.requests || b) none
    ∙ or_none (list_any (ends_at version) old.requests)

-- nor if there is one
ended_still : (old new : Interface) (version : ℕ) → IsNewer old new
    → has_destroying_request version old ≡ true → has_destroying_request version new ≡ true
ended_still old new version is ended =
    let adds = is.messages Request in
    ap (list_any (ends_at version)) adds.are
    ∙ list_any-append (ends_at version) old.requests adds.added
    ∙ ap (λ b. b || list_any (ends_at version) adds.added) ended

by_settling : (i j : Interface) (version : ℕ) → IsNewer i j → (b : Bool) → nat_le version i.version ≡ b
    → (b || has_destroying_request version i) ≡ true
    → has_destroying_request version j ≡ has_destroying_request version i
by_settling i j version one true known settled = ended_same i j version one (grind (arith, nat_tests, known))
by_settling i j version one false known settled = ended_still i j version one settled ∙ sym settled

-- whether a request can end an object of this version is the same in tables that complete others, if those settle it
pub settled_same : (tables other : List Interface) (place version : ℕ) → Completes tables other
    → (option_map_or (λ (i : Interface). nat_le version i.version) (interface_at tables place) false
    || is_ended_by_request version (interface_at tables place)) ≡ true
    → is_ended_by_request version (interface_at other place) ≡ is_ended_by_request version (interface_at tables place)
settled_same [] other place version completes settled = absurd (cc (settled))
settled_same (i ∷ is) other zero version (newer {new = j} one rest) settled =
    by_settling i j version one (nat_le version i.version) refl settled
settled_same (i ∷ is) other (suc place) version (newer {news = js} one rest) settled =
    settled_same is js place version rest settled

-- ---- interfaces by name

-- the first place of a name, or how many interfaces there are
abbrev first_of_name : List ℕ → List Interface → ℕ
first_of_name name tables = position_or_len (λ i. bytes_eq i.name name) tables

record FirstStays (tables other : List Interface) (name : List ℕ) : Type 0 where
  few : length tables ≤ length other
  there : first_of_name name tables < length tables → first_of_name name other ≡ first_of_name name tables
  behind : length tables ≤ first_of_name name tables → length tables ≤ first_of_name name other

first_step : (i j : Interface) (is js : List Interface) (name : List ℕ) → IsNewer i j
    → (b : Bool) → bytes_eq i.name name ≡ b → FirstStays is js name → FirstStays (i ∷ is) (j ∷ js) name
first_step i j is js name one true here rest =
    let there : bytes_eq j.name name ≡ true = ap (λ n. bytes_eq n name) one.name ∙ here in
    let at_front : first_of_name name (i ∷ is) ≡ 0 = rw here refl in record {
      few = (let f = rest.few in omega (arith, f));
      there = λ below. rw (here, there) refl;
      behind = λ beyond. absurd (omega (arith, beyond, at_front));
    }
first_step i j is js name one false here rest =
    let there : bytes_eq j.name name ≡ false = ap (λ n. bytes_eq n name) one.name ∙ here in
    let one_more : first_of_name name (i ∷ is) ≡ 1 + first_of_name name is = rw here refl in
    let one_more_there : first_of_name name (j ∷ js) ≡ 1 + first_of_name name js = rw there refl in record {
      few = (let f = rest.few in omega (arith, f));
      there = λ below. (let r = rest.there (omega (arith, below, one_more)) in omega (arith, one_more, one_more_there, r));
      behind = λ beyond. (let r = rest.behind (omega (arith, beyond, one_more)) in omega (arith, one_more_there, r));
    }

first_stays : (tables other : List Interface) (name : List ℕ) → Completes tables other
    → FirstStays tables other name
first_stays [] other name completes =
    record { few = omega arith; there = λ below. absurd (omega (arith, below)); behind = λ _. omega arith }
first_stays (i ∷ is) other name (newer {new = j} {news = js} one rest) =
    first_step i j is js name one (bytes_eq i.name name) refl (first_stays is js name rest)

abbrev place_if : Bool → ℕ → Option Iface
place_if b place = option_map (λ p. let iface : Iface = record { 0 = p } in iface) (cond b (Some place) None)

found_there : (b : Bool) (place : ℕ) → is_none (place_if b place) ≡ false → b ≡ true
found_there true place h = refl
found_there false place h = absurd (cc (h))

found_nowhere : (b : Bool) (place : ℕ) → is_none (place_if b place) ≡ true → b ≡ false
found_nowhere true place h = absurd (cc (h))
found_nowhere false place h = refl

abbrev index_of : Option Iface → ℕ
index_of None = 0
index_of (Some iface) = iface.0

found_at : (b : Bool) (place : ℕ) (iface : Iface) → place_if b place ≡ Some iface → place ≡ iface.0
found_at true place iface h = ap index_of h
found_at false place iface h = absurd (cc (h))

-- an interface that the tables have by its name has the same index in tables that complete them
pub place_same : (tables other : List Interface) (name : List ℕ) → Completes tables other
    → is_none (place_of tables name) ≡ false → place_of other name ≡ place_of tables name
place_same tables other name completes found =
    let stays = first_stays tables other name completes in
    let is = found_there (nat_lt (first_of_name name tables) (length tables)) (first_of_name name tables) found in
    let below : first_of_name name tables < length tables = grind (arith, nat_tests, is) in
    let same = stays.there below in
    let few = stays.few in
    let is_there : nat_lt (first_of_name name other) (length other) ≡ true =
    lt-ltb (first_of_name name other) (length other) (omega (arith, same, few, below)) in
    ap (λ b. place_if b (first_of_name name other)) is_there ∙ ap (place_if true) same
    ∙ ap (λ b. place_if b (first_of_name name tables)) (sym is)

-- any other has an index behind those of the tables
pub place_beyond : (tables other : List Interface) (name : List ℕ) (iface : Iface) → Completes tables other
    → is_none (place_of tables name) ≡ true → place_of other name ≡ Some iface → length tables ≤ iface.0
place_beyond tables other name iface completes none found =
    let stays = first_stays tables other name completes in
    let is = found_nowhere (nat_lt (first_of_name name tables) (length tables)) (first_of_name name tables) none in
    let beyond : length tables ≤ first_of_name name tables = grind (arith, nat_tests, is) in
    let at = found_at (nat_lt (first_of_name name other) (length other)) (first_of_name name other) iface found in
    let behind = stays.behind beyond in
    omega (arith, behind, at)

-- ---- tables of which only versions are raised

of_messages : (side : Side) (opcode : ℕ) (o : Option Interface)
    → option_and_then (message_of side opcode) o
    ≡ option_and_then (λ (ms : List MessageSignature). slice_get ms opcode) (option_map (messages_of side) o)
of_messages side opcode None = refl
of_messages side opcode (Some i) = refl

pub signature_raised : (tables raised : List Interface) (place : ℕ) (side : Side) (opcode : ℕ) → IsRaised tables raised
    → signature_at raised place side opcode ≡ signature_at tables place side opcode
signature_raised tables raised place side opcode is =
    of_messages side opcode (interface_at raised place)
    ∙ ap (option_and_then (λ (ms : List MessageSignature). slice_get ms opcode)) (is.same place side)
    ∙ sym (of_messages side opcode (interface_at tables place))

of_requests : (version : ℕ) (o : Option Interface)
    → is_ended_by_request version o
    ≡ option_map_or (λ (ms : List MessageSignature). list_any (ends_at version) ms) (option_map (messages_of Request) o) false
of_requests version None = refl
of_requests version (Some i) = refl

pub ended_raised : (tables raised : List Interface) (place version : ℕ) → IsRaised tables raised
    → is_ended_by_request version (interface_at raised place) ≡ is_ended_by_request version (interface_at tables place)
ended_raised tables raised place version is =
    of_requests version (interface_at raised place)
    ∙ ap (λ o. option_map_or (λ (ms : List MessageSignature). list_any (ends_at version) ms) o false) (is.same place Request)
    ∙ sym (of_requests version (interface_at tables place))

place_raised_by : (tables raised : List Interface) (name : List ℕ) (b : Bool) → is_none (place_of tables name) ≡ b
    → IsRaised tables raised → place_of raised name ≡ place_of tables name
place_raised_by tables raised name false found is = place_same tables raised name is.completes found
place_raised_by tables raised name true none is =
    let stays = first_stays tables raised name is.completes in
    let missing = found_nowhere (nat_lt (first_of_name name tables) (length tables)) (first_of_name name tables) none in
    let beyond : length tables ≤ first_of_name name tables = grind (arith, nat_tests, missing) in
    let behind = stays.behind beyond in
    let as_many = is.as_many in
    let nowhere : nat_lt (first_of_name name raised) (length raised) ≡ false =
    (let far : length raised ≤ first_of_name name raised = omega (arith, behind, as_many) in grind (arith, nat_tests, far)) in
    ap (λ b. place_if b (first_of_name name raised)) nowhere
    ∙ ap (λ b. place_if b (first_of_name name tables)) (sym missing)

pub place_raised : (tables raised : List Interface) (name : List ℕ) → IsRaised tables raised
    → place_of raised name ≡ place_of tables name
place_raised tables raised name is =
    place_raised_by tables raised name (is_none (place_of tables name)) refl is

-- no version is lowered
pub version_rises : (tables other : List Interface) (place : ℕ) → Completes tables other
    → option_map_or (λ (i : Interface). i.version) (interface_at tables place) 0
    ≤ option_map_or (λ (i : Interface). i.version) (interface_at other place) 0
version_rises [] other place completes = omega arith
version_rises (i ∷ is) other zero (newer {new = j} one rest) = one.version
version_rises (i ∷ is) other (suc place) (newer {news = js} one rest) = version_rises is js place rest
