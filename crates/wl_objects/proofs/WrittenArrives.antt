-- What is written is what arrives.
use Rattle.std.proofs.Common.{◌≡◌, ◌≢◌, ℕ, suc, ◌+◌, ◌<◌, ◌^◌, Bool, true, false, List, [], ◌∷◌, ◌++◌, length, drop}
use Rattle.std.proofs.Common.{map, Some, None, refl, subst, arith, append_assoc}
use Rattle.std.specs.Prelude.{Option, if◌then◌else◌, nat_eq}
use Rattle.std.specs.List.{All, list_any}
use Rattle.std.specs.declared.result.Result.TheVariants.{Ok}
use Rattle.std.proofs.lemmas.Bool.{both_ways, and_parts, eq-eqb, ne_eqb, not-true}
use Rattle.std.proofs.lemmas.List.{drop_at}
use Rattle.std.proofs.lemmas.List.Folds.{list_any_at}
use Rattle.std.proofs.lemmas.List.Sums.{sum_by-cons}
use Rattle.std.proofs.lemmas.List.Elements.{All-tail}
use Rattle.wl_wire.specs.declared.kind.Kind.{Kind}
use Rattle.wl_wire.specs.declared.kind.Kind.TheVariants as kinds
use Rattle.wl_wire.specs.declared.kind.Iface.{Iface}
use Rattle.wl_wire.specs.Argument.{Int, Uint, Fixed, Str, Obj, New, NewNamed, Array, Fd}
use Rattle.wl_wire.specs.Spelling.{Suits, canonical, spelled_len, IsText}
use Rattle.wl_wire.proofs.Canonicals.{canonical-spells, spelled-len, reading-canonical}
use Rattle.wl_sigs.specs.Tables.{descriptors, is_descriptor_kind}
use Rattle.wl_object_map.specs.declared.object.Object.{Object}
use Rattle.wl_object_map.specs.declared.object.Entry.{Entry}
use Rattle.wl_objects.specs.Reading.{Reader, forgiving_kind, has_required_iface, iface_of, value_fault, arguments_at}
use Rattle.wl_objects.specs.Reading.{reported_argument, reports_of, head_or, tokens_after}
use Rattle.wl_objects.specs.Writing.{Given, wired, spelled, suits, has_no_nul, can_name, names_one}
use Rattle.wl_objects.specs.Writing.{wrong_place, lost_place, tokens_of}
use Rattle.wl_objects.specs.Carried.{InRange, ReaderHolds, IsExpected, AreExpected, arrived_value, Arrive}

pub no_nul : (text : List ℕ) → has_no_nul text ≡ true → All (λ b. b ≢ 0) text
no_nul text e k d h z =
    let f : list_any (λ b. nat_eq b 0) text ≡ false = not-true (list_any (λ b. nat_eq b 0) text) e in
    both_ways _ f (list_any_at (λ (b : ℕ). nat_eq b 0) text k d h (eq-eqb _ 0 z))

pub text_is : (text : List ℕ) → has_no_nul text ≡ true → length text + 1 < 2 ^ 32 → IsText text
text_is text e h = record { no_nul = no_nul text e; len = h }

-- an argument that suits the kind has a value on the wire that suits it
pub suits-wired : (n : ℕ) (kind : Kind) (x : Given) → suits kind x ≡ true → InRange x → n < 2 ^ 32
    → (object_null : (object : Object) → x ≡ Obj (Some object) → object.id ≢ 0) → Suits kind (wired n x)
suits-wired n kinds.Int (Int z) e h b o = h
suits-wired n kinds.Uint (Uint m) e h b o = h
suits-wired n kinds.Fixed (Fixed z) e h b o = h
suits-wired n (kinds.Str null) (Str None) e h b o = e
suits-wired n (kinds.Str null) (Str (Some text)) e h b o = text_is text e h
suits-wired n (kinds.Obj null iface) (Obj None) e h b o = (omega arith, λ _. e)
suits-wired n (kinds.Obj null iface) (Obj (Some object)) e h b o = (h, λ z. absurd (o object refl z))
suits-wired n (kinds.New (Some iface)) (New x) e h b o = b
suits-wired n (kinds.New None) (NewNamed iface version x) e h b o = (text_is iface e h.0, h.1, b)
suits-wired n (kinds.NewByServer iface) (New x) e h b o = b
suits-wired n kinds.Array (Array bytes) e h b o = h
suits-wired n kinds.Fd (Fd token) e h b o = tt
suits-wired n kind x e h b o = absurd (cc)

pub if-none : (b : Bool) (x : Option ℕ) (p : ℕ) → (if b then x else Some p) ≡ None → (b ≡ true) × (x ≡ None)
if-none true x p e = (refl, e)
if-none false x p e = absurd (cc)

is_of-same : (iface : Option Iface) (entry row : Entry) → row.iface ≡ entry.iface
    → has_required_iface iface entry ≡ true
    → has_required_iface iface row ≡ true
is_of-same None entry row e h = refl
is_of-same (Some iface) entry row e h = rw e h

-- a named object is live, with its row
named-row : (w : Option Entry) (iface : Option Iface) (object : Object) → names_one iface object w ≡ true
    → (entry : Entry) × (w ≡ Some entry) × (has_required_iface iface entry ≡ true)
named-row None iface object e = absurd (cc)
named-row (Some entry) iface object e = (entry, refl, (and_parts _ _ e).1)

object-right : (writer : ℕ → Option Entry) (r : Reader) (place : ℕ) (kind : Kind) (object : Object) → r.forgives ≡ false
    → ReaderHolds writer r object → names_one (iface_of kind) object (writer object.id) ≡ true
    → value_fault r place kind (Obj object.id) ≡ None
object-right writer r place kind object f held e =
    let w = named-row (writer object.id) (iface_of kind) object e in
    let same : has_required_iface (iface_of kind) held.row ≡ true =
    is_of-same (iface_of kind) w.0 held.row (held.iface w.0 w.1) w.2 in
    let some : nat_eq object.id 0 ≡ false = ne_eqb object.id 0 held.not_null in
    rw (f, some, held.held, same) refl

-- an argument that the reader expects is without fault
pub value-right : (writer : ℕ → Option Entry) (r : Reader) (n place : ℕ) (kind : Kind) (x : Given) → r.forgives ≡ false
    → suits kind x ≡ true → can_name writer kind x ≡ true → IsExpected writer r n kind x
    → value_fault r place kind (wired n x) ≡ None
value-right writer r n place kind (Int z) f s c h = refl
value-right writer r n place kind (Uint m) f s c h = refl
value-right writer r n place kind (Fixed z) f s c h = refl
value-right writer r n place kind (Str text) f s c h = refl
value-right writer r n place kind (Obj None) f s c h = rw f refl
value-right writer r n place kind (Obj (Some object)) f s c h = object-right writer r place kind object f h c
value-right writer r n place kind (New x) f s c h = rw h refl
value-right writer r n place kind (NewNamed iface version x) f s c h = rw h refl
value-right writer r n place kind (Array bytes) f s c h = refl
value-right writer r n place kind (Fd token) f s c h = refl

pub not_null : (writer : ℕ → Option Entry) (r : Reader) (n : ℕ) (kind : Kind) (x : Given)
    → IsExpected writer r n kind x → (object : Object) → x ≡ Obj (Some object) → object.id ≢ 0
not_null writer r n kind x h object e = let held : ReaderHolds writer r object =
    subst (λ (y : Given). IsExpected writer r n kind y) e h in held.not_null

kind-same : (r : Reader) (kind : Kind) → r.forgives ≡ false → forgiving_kind r.forgives kind ≡ kind
kind-same r kind f = rw f refl

pub All-first : {X : Type 0} (P : X → Type 0) (x : X) (xs : List X) → All P (x ∷ xs) → P x
All-first P x xs h = h 0 x (omega arith)

-- the arguments are read as they were written
pub arrive-read : (writer : ℕ → Option Entry) (r : Reader) (n place : ℕ) (ks : List Kind) (list : List Given)
    (rest : List ℕ) → n < 2 ^ 32 → r.forgives ≡ false
    → wrong_place place ks list ≡ None → lost_place writer place ks list ≡ None → All InRange list
    → AreExpected writer r n ks list
    → arguments_at r place ks (spelled (map (wired n) list) ++ rest) ≡ Ok (map (wired n) list, rest)
arrive-read writer r n place [] [] rest b f w l i h = refl
arrive-read writer r n place [] (x ∷ list) rest b f w l i h = absurd (cc)
arrive-read writer r n place (kind ∷ ks) [] rest b f w l i h = absurd (cc)
arrive-read writer r n place (kind ∷ ks) (x ∷ list) rest b f w l i h =
    let suit = if-none (suits kind x) (wrong_place (suc place) ks list) place w in
    let name = if-none (can_name writer kind x) (lost_place writer (suc place) ks list) place l in
    let expected : IsExpected writer r n kind x = h.0 in
    let value : Suits kind (wired n x) = suits-wired n kind x suit.0 (All-first InRange x list i) b
    (not_null writer r n kind x expected) in
    let later : List ℕ = spelled (map (wired n) list) ++ rest in
    let one = reading-canonical kind (wired n x) later value in
    let right : value_fault r place kind (wired n x) ≡ None = value-right writer r n place kind x f suit.0 name.0 expected
    in
    let len : length (canonical (wired n x)) ≡ spelled_len (wired n x) =
    spelled-len (canonical-spells kind (wired n x) value) in
    let front : drop (spelled_len (wired n x)) (canonical (wired n x) ++ later) ≡ later =
    drop_at (canonical (wired n x)) later (spelled_len (wired n x)) len in
    let more = arrive-read writer r n (suc place) ks list rest b f suit.1 name.1 (All-tail InRange x list i)
    h.1 in
    rw (append_assoc, kind-same r kind f, one, right, front, more) refl

object-reported : (writer : ℕ → Option Entry) (r : Reader) (n token : ℕ) (object : Object) → ReaderHolds writer r object
    → reported_argument r token (Obj object.id) ≡ arrived_value r n (Obj (Some object))
object-reported writer r n token object held =
    let some : nat_eq object.id 0 ≡ false = ne_eqb object.id 0 held.not_null in
    rw (some, held.held, held.birth) refl

-- an argument is reported as the writer meant it, if the token is its own
report-one : (writer : ℕ → Option Entry) (r : Reader) (n : ℕ) (kind : Kind) (x : Given) (list : List Given)
    (more : List ℕ) → IsExpected writer r n kind x
    → reported_argument r (head_or (tokens_of (x ∷ list) ++ more) 0) (wired n x) ≡ arrived_value r n x
report-one writer r n kind (Int z) list more h = refl
report-one writer r n kind (Uint m) list more h = refl
report-one writer r n kind (Fixed z) list more h = refl
report-one writer r n kind (Str text) list more h = refl
report-one writer r n kind (Obj None) list more h = refl
report-one writer r n kind (Obj (Some object)) list more h =
    object-reported writer r n (head_or (tokens_of list ++ more) 0) object h
report-one writer r n kind (New x) list more h = refl
report-one writer r n kind (NewNamed iface version x) list more h = refl
report-one writer r n kind (Array bytes) list more h = refl
report-one writer r n kind (Fd token) list more h = refl

tokens-left : (n : ℕ) (x : Given) (list : List Given) (more : List ℕ)
    → tokens_after (wired n x) (tokens_of (x ∷ list) ++ more) ≡ tokens_of list ++ more
tokens-left n (Int z) list more = refl
tokens-left n (Uint m) list more = refl
tokens-left n (Fixed z) list more = refl
tokens-left n (Str text) list more = refl
tokens-left n (Obj object) list more = refl
tokens-left n (New x) list more = refl
tokens-left n (NewNamed iface version x) list more = refl
tokens-left n (Array bytes) list more = refl
tokens-left n (Fd token) list more = refl

pub arrive-reported : (writer : ℕ → Option Entry) (r : Reader) (n place : ℕ) (ks : List Kind) (list : List Given)
    (more : List ℕ) → wrong_place place ks list ≡ None → AreExpected writer r n ks list
    → reports_of r (tokens_of list ++ more) (map (wired n) list) ≡ map (arrived_value r n) list
arrive-reported writer r n place [] [] more w h = refl
arrive-reported writer r n place [] (x ∷ list) more w h = absurd (cc)
arrive-reported writer r n place (kind ∷ ks) [] more w h = absurd (cc)
arrive-reported writer r n place (kind ∷ ks) (x ∷ list) more w h =
    let suit = if-none (suits kind x) (wrong_place (suc place) ks list) place w in
    rw (
      tokens-left n x list more,
      report-one writer r n kind x list more h.0,
      arrive-reported writer r n (suc place) ks list more suit.1 h.1,
    ) refl

-- an argument takes a token if and only if its kind does
taken-one : (kind : Kind) (x : Given) (ks : List Kind) (list : List Given) → suits kind x ≡ true
    → descriptors ks ≡ length (tokens_of list) → descriptors (kind ∷ ks) ≡ length (tokens_of (x ∷ list))
taken-one kinds.Int (Int z) ks list e h = h
taken-one kinds.Uint (Uint m) ks list e h = h
taken-one kinds.Fixed (Fixed z) ks list e h = h
taken-one (kinds.Str null) (Str text) ks list e h = h
taken-one (kinds.Obj null iface) (Obj object) ks list e h = h
taken-one (kinds.New (Some iface)) (New x) ks list e h = h
taken-one (kinds.New None) (NewNamed iface version x) ks list e h = h
taken-one (kinds.NewByServer iface) (New x) ks list e h = h
taken-one kinds.Array (Array bytes) ks list e h = h
taken-one kinds.Fd (Fd token) ks list e h =
    let count : descriptors (kinds.Fd ∷ ks) ≡ 1 + descriptors ks =
    sum_by-cons (λ (k : Kind). if is_descriptor_kind k then 1 else 0) kinds.Fd ks in
    omega (arith, count, h)
taken-one kind x ks list e h = absurd (cc)

pub arrive-taken : (place : ℕ) (ks : List Kind) (list : List Given) → wrong_place place ks list ≡ None
    → descriptors ks ≡ length (tokens_of list)
arrive-taken place [] [] w = refl
arrive-taken place [] (x ∷ list) w = absurd (cc)
arrive-taken place (kind ∷ ks) [] w = absurd (cc)
arrive-taken place (kind ∷ ks) (x ∷ list) w =
    let suit = if-none (suits kind x) (wrong_place (suc place) ks list) place w in
    taken-one kind x ks list suit.0 (arrive-taken (suc place) ks list suit.1)

pub arrive : (writer : ℕ → Option Entry) (r : Reader) (n : ℕ) (ks : List Kind) (list : List Given) → n < 2 ^ 32
    → r.forgives ≡ false
    → wrong_place 0 ks list ≡ None → lost_place writer 0 ks list ≡ None → All InRange list
    → AreExpected writer r n ks list → Arrive r ks n list
arrive writer r n ks list b f w l i h = record {
  read = λ rest. arrive-read writer r n 0 ks list rest b f w l i h;
  reported = λ more. arrive-reported writer r n 0 ks list more w h;
  taken = arrive-taken 0 ks list w;
}
