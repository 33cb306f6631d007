-- A message has as many descriptors among its values as among the kinds of its signature.
use Rattle.std.proofs.Common.{◌≡◌, ℕ, suc, ◌+◌, ◌≤◌, Bool, true, false, cond, List, [], ◌∷◌, ◌++◌}
use Rattle.std.proofs.Common.{length, drop, refl, sym, ap, ◌∙◌, arith}
use Rattle.std.specs.Prelude.{nat_lt, if◌then◌else◌, ◌==◌, ◌&&◌}
use Rattle.std.specs.declared.option.Option.{Option}
use Rattle.std.specs.declared.option.Option.TheVariants.{None, Some}
use Rattle.std.specs.declared.result.Result.{Result}
use Rattle.std.specs.declared.result.Result.TheVariants.{Ok, Err}
use Rattle.std.proofs.lemmas.List.Sums.{sum_by-cons}
use Rattle.wl_wire.specs.declared.kind.Kind.{Kind}
use Rattle.wl_wire.specs.declared.kind.Kind.TheVariants as kinds
use Rattle.wl_wire.specs.declared.kind.ArgFault.{ArgFault}
use Rattle.wl_wire.specs.declared.kind.ArgFault.TheVariants.{Short, NullNotAllowed}
use Rattle.wl_wire.specs.Argument.{Argument, Int, Uint, Fixed, Str, Obj, New, NewNamed, Array, Fd}
use Rattle.wl_wire.specs.Spelling.{padded}
use Rattle.wl_wire.specs.Reading.{reading, asked, map_found, argument_of, text_of, number_at}
use Rattle.wl_sigs.specs.Tables.{descriptors, is_descriptor_kind}
use Rattle.wl_objects.specs.declared.error.Fault.{Fault}
use Rattle.wl_objects.specs.Reading.{Reader, forgiving_kind, value_fault, value_unless, value_or_fault, value_before}
use Rattle.wl_objects.specs.Reading.{value_then_rest, arguments_at, is_descriptor}
use Rattle.wl_objects.specs.Reading.{reported_argument, reports_of}

-- how many of the values are descriptors
abbrev pub fds : List Argument → ℕ
fds [] = 0
fds (v ∷ vs) = cond (is_descriptor v) 1 0 + fds vs

-- ---- one value

abbrev OfKind : Kind → Result Argument ArgFault → Type 0
OfKind kind (Err fault) = Unit {0}
OfKind kind (Ok v) = is_descriptor v ≡ is_descriptor_kind kind

abbrev ReadAs : Kind → Result (Argument × ℕ) ArgFault → Type 0
ReadAs kind (Err fault) = Unit {0}
ReadAs kind (Ok v) = is_descriptor v.0 ≡ is_descriptor_kind kind

either_of : (kind : Kind) (b : Bool) (x y : Result Argument ArgFault) → OfKind kind x → OfKind kind y
    → OfKind kind (cond b x y)
either_of kind true x y p q = p
either_of kind false x y p q = q

text_as : (kind : Kind) (f : List ℕ → Argument) (r : Result (List ℕ) ArgFault)
    → ((text : List ℕ) → is_descriptor (f text) ≡ is_descriptor_kind kind) → OfKind kind (map_found f r)
text_as kind f (Err fault) h = tt
text_as kind f (Ok text) h = h text

argument_as : (kind : Kind) (bytes : List ℕ) → OfKind kind (argument_of kind bytes)
argument_as kinds.Int bytes = refl
argument_as kinds.Uint bytes = refl
argument_as kinds.Fixed bytes = refl
argument_as (kinds.Str null) bytes = either_of (kinds.Str null) ((number_at bytes == 0) && null) (Ok (Str None))
    (map_found (λ text. Str (Some text)) (text_of (number_at bytes) bytes)) refl
    (text_as (kinds.Str null) (λ text. Str (Some text)) (text_of (number_at bytes) bytes) (λ text. refl))
argument_as (kinds.Obj null iface) bytes = either_of (kinds.Obj null iface) (number_at bytes == 0)
    (cond null (Ok (Obj 0)) (Err NullNotAllowed)) (Ok (Obj (number_at bytes)))
    (either_of (kinds.Obj null iface) null (Ok (Obj 0)) (Err NullNotAllowed) refl tt) refl
argument_as (kinds.New (Some iface)) bytes = refl
argument_as (kinds.New None) bytes =
    text_as (kinds.New None) (λ name. NewNamed name (number_at (drop (4 + padded (number_at bytes)) bytes))
    (number_at (drop 4 (drop (4 + padded (number_at bytes)) bytes)))) (text_of (number_at bytes) bytes)
    (λ name. refl)
argument_as (kinds.NewByServer iface) bytes = refl
argument_as kinds.Array bytes = refl
argument_as kinds.Fd bytes = refl

with_len : (kind : Kind) (n : ℕ) (r : Result Argument ArgFault) → OfKind kind r
    → ReadAs kind (map_found (λ value. (value, n)) r)
with_len kind n (Err fault) h = tt
with_len kind n (Ok v) h = h

unless_short : (kind : Kind) (b : Bool) (r : Result (Argument × ℕ) ArgFault) → ReadAs kind r
    → ReadAs kind (cond b (Err Short) r)
unless_short kind true r h = tt
unless_short kind false r h = h

read_as : (kind : Kind) (bytes : List ℕ) → ReadAs kind (reading kind bytes)
read_as kind bytes =
    unless_short kind (nat_lt (length bytes) (asked kind bytes))
    (map_found (λ value. (value, asked kind bytes)) (argument_of kind bytes))
    (with_len kind (asked kind bytes) (argument_of kind bytes) (argument_as kind bytes))

kind_stays : (forgives : Bool) (kind : Kind) → is_descriptor_kind (forgiving_kind forgives kind)
    ≡ is_descriptor_kind kind
kind_stays true kinds.Int = refl
kind_stays true kinds.Uint = refl
kind_stays true kinds.Fixed = refl
kind_stays true (kinds.Str null) = refl
kind_stays true (kinds.Obj null iface) = refl
kind_stays true (kinds.New iface) = refl
kind_stays true (kinds.NewByServer iface) = refl
kind_stays true kinds.Array = refl
kind_stays true kinds.Fd = refl
kind_stays false kind = refl

-- ---- all of them

abbrev pub HasAll : List Kind → Result (List Argument × List ℕ) Fault → Type 0
HasAll ks (Err fault) = Unit {0}
HasAll ks (Ok found) = fds found.0 ≡ descriptors ks

pub count_more : (kind : Kind) (ks : List Kind) → descriptors (kind ∷ ks)
    ≡ cond (is_descriptor_kind kind) 1 0 + descriptors ks
count_more kind ks = sum_by-cons (λ (k : Kind). if is_descriptor_kind k then 1 else 0) kind ks

has_before : (kind : Kind) (ks : List Kind) (v : Argument) (x : Result (List Argument × List ℕ) Fault)
    → is_descriptor v ≡ is_descriptor_kind kind → HasAll ks x → HasAll (kind ∷ ks) (value_before v x)
has_before kind ks v (Err fault) e h = tt
has_before kind ks v (Ok found) e h = (λ i. cond (e i) 1 0 + h i) ∙ sym (count_more kind ks)

has_unless : (kind : Kind) (ks : List Kind) (v : Argument × ℕ) (bytes : List ℕ) (f : Option Fault)
    (others : List ℕ → Result (List Argument × List ℕ) Fault) → is_descriptor v.0 ≡ is_descriptor_kind kind
    → ((rest : List ℕ) → HasAll ks (others rest)) → HasAll (kind ∷ ks) (value_then_rest others bytes (value_unless f v))
has_unless kind ks v bytes (Some fault) others e h = tt
has_unless kind ks v bytes None others e h = has_before kind ks v.0 (others (drop v.1 bytes)) e (h (drop v.1 bytes))

has_judged : (r : Reader) (place : ℕ) (kind : Kind) (ks : List Kind) (bytes : List ℕ)
    (x : Result (Argument × ℕ) ArgFault) (others : List ℕ → Result (List Argument × List ℕ) Fault)
    → ReadAs (forgiving_kind r.forgives kind) x
    → ((rest : List ℕ) → HasAll ks (others rest)) → HasAll (kind ∷ ks)
    (value_then_rest others bytes (value_or_fault r place kind x))
has_judged r place kind ks bytes (Err fault) others e h = tt
has_judged r place kind ks bytes (Ok v) others e h =
    has_unless kind ks v bytes (value_fault r place kind v.0) others (e ∙ kind_stays r.forgives kind) h

pub all_read : (r : Reader) (place : ℕ) (ks : List Kind) (bytes : List ℕ) → HasAll ks (arguments_at r place ks bytes)
all_read r place [] bytes = refl
all_read r place (kind ∷ ks) bytes =
    has_judged r place kind ks bytes (reading (forgiving_kind r.forgives kind) bytes) (arguments_at r (suc place) ks)
    (read_as (forgiving_kind r.forgives kind) bytes) (λ rest. all_read r (suc place) ks rest)

-- ---- descriptors are reported with the first tokens, whatever tokens follow

pub reports_stay : (r : Reader) (tokens more : List ℕ) (vs : List Argument) → fds vs ≤ length tokens
    → reports_of r (tokens ++ more) vs ≡ reports_of r tokens vs
reports_stay r tokens more [] h = refl
reports_stay r tokens more (Int z ∷ vs) h = ap (λ l. reported_argument r 0 (Int z) ∷ l)
    (reports_stay r tokens more vs (omega arith))
reports_stay r tokens more (Uint z ∷ vs) h = ap (λ l. reported_argument r 0 (Uint z) ∷ l)
    (reports_stay r tokens more vs (omega arith))
reports_stay r tokens more (Fixed z ∷ vs) h = ap (λ l. reported_argument r 0 (Fixed z) ∷ l)
    (reports_stay r tokens more vs (omega arith))
reports_stay r tokens more (Str z ∷ vs) h = ap (λ l. reported_argument r 0 (Str z) ∷ l)
    (reports_stay r tokens more vs (omega arith))
reports_stay r tokens more (Obj z ∷ vs) h = ap (λ l. reported_argument r 0 (Obj z) ∷ l)
    (reports_stay r tokens more vs (omega arith))
reports_stay r tokens more (New z ∷ vs) h = ap (λ l. reported_argument r 0 (New z) ∷ l)
    (reports_stay r tokens more vs (omega arith))
reports_stay r tokens more (NewNamed name own z ∷ vs) h =
    ap (λ l. reported_argument r 0 (NewNamed name own z) ∷ l) (reports_stay r tokens more vs (omega arith))
reports_stay r tokens more (Array z ∷ vs) h = ap (λ l. reported_argument r 0 (Array z) ∷ l)
    (reports_stay r tokens more vs (omega arith))
reports_stay r [] more (Fd z ∷ vs) h = absurd (omega arith)
reports_stay r (t ∷ tokens) more (Fd z ∷ vs) h = ap (λ l. reported_argument r t (Fd z) ∷ l)
    (reports_stay r tokens more vs (omega arith))
