-- Parsing one argument after another.
use Rattle.std.proofs.Common.{◌≡◌, ℕ, zero, suc, ◌+◌, ◌-◌, ◌<◌, ◌≤◌, Bool, true, false, List, [], ◌∷◌}
use Rattle.std.proofs.Common.{◌++◌, length, take, drop, get_or, map, Some, None, refl, sym, ap, ◌∙◌, arith}
use Rattle.std.proofs.Common.{add-one, drop-cons, append_assoc, drop-drop}
use Rattle.std.specs.Prelude.{set, Option, if◌then◌else◌}
use Rattle.std.specs.declared.result.Result.{Result}
use Rattle.std.specs.declared.result.Result.TheVariants.{Ok, Err}
use Rattle.std.proofs.lemmas.List.{length-drop, map-append, append-nil, take_all, drop_all, take_more_set}
use Rattle.wl_wire.specs.Argument.{Argument, lent, Int, Uint, Fixed, Str, Obj, New, NewNamed, Array, Fd}
use Rattle.wl_wire.specs.declared.kind.ArgFault.{ArgFault}
use Rattle.wl_wire.specs.declared.kind.Kind.{Kind}
use Rattle.wl_wire.specs.declared.value.ValueRef.{ValueRef}
use Rattle.wl_wire.specs.declared.value.ValueRef.TheVariants as spelled_as
use Rattle.wl_wire.specs.Reading.{reading}
use Rattle.wl_objects.specs.declared.error.Fault.{Fault}
use Rattle.wl_objects.specs.declared.parsed.ParsedArg.{ParsedArg}
use Rattle.wl_objects.specs.Reading.{Reader, Reported, forgiving_kind, value_fault, value_before}
use Rattle.wl_objects.specs.Reading.{arguments_at, is_descriptor, head_or, reported_argument, reports_of}
use Rattle.wl_objects.specs.declared.argument.Got.{Got}
use Rattle.wl_objects.specs.Seen.{got, got_values}
use Rattle.wl_objects.specs.Parsed.{AreParsed, ArgumentView, argument_views, views_of_parsed, parsed_argument}
use Rattle.wl_objects.specs.Parsed.{views_prepended}
use Rattle.wl_objects.specs.Parsed.{argument_view, view_of_parsed, views_outcome, view_outcome, place_after}
use Rattle.wl_objects.specs.Parsed.{reported_in}
use Rattle.wl_objects.specs.Parsed.{is_number, reported_of, spelled_in, token_at, with_token}
use Rattle.wl_objects.specs.declared.parsed.ParsedArg.TheVariants as parsed_as

-- ---- one argument as it is read

-- the bytes from a place on
pub rest-is : (end : ℕ) (body : List ℕ) → take (length body - end) (drop end body) ≡ drop end body
rest-is end body = take_all (length body - end) (drop end body) (omega (arith, length-drop end body))

pub read-at : (k asked : Kind) (end : ℕ) (body : List ℕ) (x : Result (Argument × ℕ) ArgFault) → asked ≡ k
    → x ≡ reading asked (take (length body - end) (drop end body)) → reading k (drop end body) ≡ x
read-at k asked end body x same e = rw (← same, ← rest-is end body) (sym e)

-- a descriptor takes a token, and nothing else does
pub after-fd : (value : ValueRef) (place : ℕ) → value ≡ spelled_as.Fd → place + 1 ≡ place_after (lent value) place
after-fd value place e = rw e refl

pub after-other : (value : ValueRef) (place : ℕ) → (value ≡ spelled_as.Fd → ⊥) → place ≡ place_after (lent value) place
after-other (spelled_as.Int z) place n = refl
after-other (spelled_as.Uint x) place n = refl
after-other (spelled_as.Fixed z) place n = refl
after-other (spelled_as.Str None) place n = refl
after-other (spelled_as.Str (Some text)) place n = refl
after-other (spelled_as.Obj id) place n = refl
after-other (spelled_as.New id) place n = refl
after-other (spelled_as.NewNamed iface version id) place n = refl
after-other (spelled_as.Array bytes) place n = refl
after-other spelled_as.Fd place n = absurd (n refl)

pub after-least : (v : Argument) (place i : ℕ) → place ≤ i → place_after v place ≤ i + 1
after-least v place i h = by (is_descriptor v)
  where
    by : (b : Bool) → (if b then place + 1 else place) ≤ i + 1
    by true = omega (arith, h)
    by false = omega (arith, h)

-- ---- a number, for which nothing is looked up

pub number-kept : (r q : Reader) (place i birth : ℕ) (body : List ℕ) (k : Kind) (p : ParsedArg) → is_number p ≡ true
    → Ok (view_of_parsed body birth p)
    ≡ view_outcome r place (parsed_argument [] p) (value_fault q i k (parsed_argument [] p))
number-kept r q place i birth body k parsed_as.Null h = absurd (cc)
number-kept r q place i birth body k (parsed_as.Int z) h = refl
number-kept r q place i birth body k (parsed_as.Uint n) h = refl
number-kept r q place i birth body k (parsed_as.Fixed z) h = refl
number-kept r q place i birth body k (parsed_as.Str len start) h = absurd (cc)
number-kept r q place i birth body k (parsed_as.NoObject id) h = absurd (cc)
number-kept r q place i birth body k (parsed_as.Object id held state) h = absurd (cc)
number-kept r q place i birth body k (parsed_as.New id) h = absurd (cc)
number-kept r q place i birth body k (parsed_as.Bound len start version id) h = absurd (cc)
number-kept r q place i birth body k (parsed_as.Array len start) h = absurd (cc)
number-kept r q place i birth body k (parsed_as.Fd token) h = absurd (cc)

pub number-place : (p : ParsedArg) (place : ℕ) → is_number p ≡ true → place_after (parsed_argument [] p) place ≡ place
number-place parsed_as.Null place h = absurd (cc)
number-place (parsed_as.Int z) place h = refl
number-place (parsed_as.Uint n) place h = refl
number-place (parsed_as.Fixed z) place h = refl
number-place (parsed_as.Str len start) place h = absurd (cc)
number-place (parsed_as.NoObject id) place h = absurd (cc)
number-place (parsed_as.Object id held state) place h = absurd (cc)
number-place (parsed_as.New id) place h = absurd (cc)
number-place (parsed_as.Bound len start version id) place h = absurd (cc)
number-place (parsed_as.Array len start) place h = absurd (cc)
number-place (parsed_as.Fd token) place h = absurd (cc)

-- ---- one step

-- a value that is not at fault is reported as it is
judged : (r : Reader) (place : ℕ) (v : Argument) (f : Option Fault) (x : ArgumentView) → Ok x ≡ view_outcome r place v f
    → (f ≡ None) × (x ≡ argument_view r place v)
judged r place v None x e = let same : x ≡ argument_view r place v = cc in (refl, same)
judged r place v (Some fault) x e = absurd (cc)

refused : (r : Reader) (place : ℕ) (v : Argument) (f : Option Fault) (fault : Fault)
    → Err fault ≡ view_outcome r place v f → f ≡ Some fault
refused r place v None fault e = absurd (cc)
refused r place v (Some other) fault e = let same : other ≡ fault = cc in ap (λ (x : Fault). Some x) same

made-before : (r : Reader) (place : ℕ) (v : Argument) (y : Result (List Argument × List ℕ) Fault)
    → views_outcome r place (value_before v y)
    ≡ views_prepended (argument_view r place v ∷ []) (views_outcome r (place_after v place) y)
made-before r place v (Err fault) = refl
made-before r place v (Ok found) = refl

behind-both : (xs ys : List ArgumentView) (y : Result (List ArgumentView × List ℕ) Fault)
    → views_prepended xs (views_prepended ys y) ≡ views_prepended (xs ++ ys) y
behind-both xs ys (Err fault) = refl
behind-both xs ys (Ok found) = rw append_assoc refl

-- one more argument
pub parsed-next : (r q : Reader) (i end n place birth : ℕ) (ks : List Kind) (k : Kind) (body : List ℕ)
    (items : List ParsedArg) (p : ParsedArg) (v : Argument)
    → i < length ks → i < length items
    → reading (forgiving_kind q.forgives (get_or ks i k)) (drop end body) ≡ Ok (v, n)
    → Ok (view_of_parsed body birth p) ≡ view_outcome r place v (value_fault q i (get_or ks i k) v)
    → views_prepended (views_of_parsed body birth (take (i + 1) (set items i p)))
    (views_outcome r (place_after v place) (arguments_at q (i + 1) (drop (i + 1) ks) (drop (end + n) body)))
    ≡ views_prepended (views_of_parsed body birth (take i items))
    (views_outcome r place (arguments_at q i (drop i ks) (drop end body)))
parsed-next r q i end n place birth ks k body items p v b s e f =
    let j = judged r place v (value_fault q i (get_or ks i k) v) (view_of_parsed body birth p) f in
    let right : value_fault q i (get_or ks i k) v ≡ None = j.0 in
    let same : view_of_parsed body birth p ≡ argument_view r place v = j.1 in
    let read : arguments_at q i (drop i ks) (drop end body)
    ≡ value_before v (arguments_at q (suc i) (drop (suc i) ks) (drop (end + n) body)) =
    rw (drop-cons ks i k b, e, right, drop-drop) refl in
    let next : i + 1 ≡ suc i = add-one i in
    rw (read, made-before, behind-both, take_more_set items i p s, map-append, same, next) refl

-- an argument whose value is at fault
pub parsed-fault : (r q : Reader) (i end n place birth : ℕ) (ks : List Kind) (k : Kind) (body : List ℕ)
    (items : List ParsedArg) (v : Argument) (fault : Fault)
    → i < length ks
    → reading (forgiving_kind q.forgives (get_or ks i k)) (drop end body) ≡ Ok (v, n)
    → Err fault ≡ view_outcome r place v (value_fault q i (get_or ks i k) v)
    → Err fault ≡ views_prepended (views_of_parsed body birth (take i items))
    (views_outcome r place (arguments_at q i (drop i ks) (drop end body)))
parsed-fault r q i end n place birth ks k body items v fault b e f =
    let wrong = refused r place v (value_fault q i (get_or ks i k) v) fault f in
    rw (drop-cons ks i k b, e, wrong) refl

-- no argument is left
pub parsed-end : (r q : Reader) (i end place birth : ℕ) (ks : List Kind) (body : List ℕ) (items : List ParsedArg)
    (x : Result (List ArgumentView × List ℕ) Fault)
    → i ≡ length ks
    → views_prepended (views_of_parsed body birth (take i items))
    (views_outcome r place (arguments_at q i (drop i ks) (drop end body)))
    ≡ x
    → Ok (views_of_parsed body birth (take (length ks) items), take (length body - end) (drop end body)) ≡ x
parsed-end r q i end place birth ks body items x at e =
    let none : drop i ks ≡ [] = drop_all i ks (omega (arith, at)) in
    let front = views_of_parsed body birth (take i items) in
    let whole : Ok (front ++ [], drop end body) ≡ x = rw none at e in
    rw (← at, rest-is end body) (ap (λ (l : List ArgumentView). Ok (l, drop end body)) (sym (append-nil front)) ∙ whole)

-- ---- all of them

abbrev values_in : List ArgumentView → List Argument
values_in list = map (λ x. x.0) list

abbrev reports_in : List ℕ → List ArgumentView → List Reported
reports_in tokens list = map (λ x. with_token tokens x.1) list

values-parsed : (body : List ℕ) (birth : ℕ) (parsed : List ParsedArg)
    → values_in (views_of_parsed body birth parsed) ≡ spelled_in body parsed
values-parsed body birth [] = refl
values-parsed body birth (p ∷ parsed) = ap (λ (l : List Argument). parsed_argument body p ∷ l)
    (values-parsed body birth parsed)

reports-parsed : (body : List ℕ) (birth : ℕ) (tokens : List ℕ) (parsed : List ParsedArg)
    → reports_in tokens (views_of_parsed body birth parsed) ≡ reported_in body birth tokens parsed
reports-parsed body birth tokens [] = refl
reports-parsed body birth tokens (p ∷ parsed) = ap (λ (l : List Reported). reported_of body birth tokens p ∷ l)
    (reports-parsed body birth tokens parsed)

values-of : (r : Reader) (place : ℕ) (values : List Argument) → values_in (argument_views r place values) ≡ values
values-of r place [] = refl
values-of r place (v ∷ values) = ap (λ (l : List Argument). v ∷ l) (values-of r (place_after v place) values)

first-at : (tokens : List ℕ) (place : ℕ) → token_at tokens place ≡ head_or (drop place tokens) 0
first-at [] zero = refl
first-at [] (suc place) = refl
first-at (t ∷ tokens) zero = refl
first-at (t ∷ tokens) (suc place) = first-at tokens place

reports-of : (r : Reader) (place : ℕ) (tokens : List ℕ) (values : List Argument)
    → reports_in tokens (argument_views r place values) ≡ reports_of r (drop place tokens) values
reports-of r place tokens [] = refl
reports-of r place tokens (Int x ∷ values) = ap (λ (l : List Reported). reported_argument r 0 (Int x) ∷ l)
    (reports-of r place tokens values)
reports-of r place tokens (Uint x ∷ values) = ap (λ (l : List Reported). reported_argument r 0 (Uint x) ∷ l)
    (reports-of r place tokens values)
reports-of r place tokens (Fixed x ∷ values) = ap (λ (l : List Reported). reported_argument r 0 (Fixed x) ∷ l)
    (reports-of r place tokens values)
reports-of r place tokens (Str x ∷ values) = ap (λ (l : List Reported). reported_argument r 0 (Str x) ∷ l)
    (reports-of r place tokens values)
reports-of r place tokens (Obj x ∷ values) = ap (λ (l : List Reported). reported_argument r 0 (Obj x) ∷ l)
    (reports-of r place tokens values)
reports-of r place tokens (New x ∷ values) = ap (λ (l : List Reported). reported_argument r 0 (New x) ∷ l)
    (reports-of r place tokens values)
reports-of r place tokens (NewNamed a b x ∷ values) =
    ap (λ (l : List Reported). reported_argument r 0 (NewNamed a b x) ∷ l) (reports-of r place tokens values)
reports-of r place tokens (Array x ∷ values) = ap (λ (l : List Reported). reported_argument r 0 (Array x) ∷ l)
    (reports-of r place tokens values)
reports-of r place tokens (Fd x ∷ values) =
    let behind : drop 1 (drop place tokens) ≡ drop (place + 1) tokens = drop-drop 1 place tokens in
    rw (first-at tokens place, behind) (ap (λ (l : List Reported). Fd (head_or (drop place tokens) 0) ∷ l)
    (reports-of r (place + 1) tokens values))

are_parsed : (r : Reader) (body : List ℕ) (parsed : List ParsedArg) (values : List Argument)
    → views_of_parsed body r.birth parsed ≡ argument_views r 0 values → AreParsed r body parsed values
are_parsed r body parsed values e = record {
  spelled = sym (values-parsed body r.birth parsed) ∙ (ap values_in e ∙ values-of r 0 values);
  reported = λ tokens. sym (reports-parsed body r.birth tokens parsed)
      ∙ (ap (reports_in tokens) e ∙ reports-of r 0 tokens values);
}

-- all arguments were parsed
record AreMade (r : Reader) (list : List ArgumentView) (rest : List ℕ)
    (x : Result (List Argument × List ℕ) Fault) : Type 0 where
  values : List Argument
  found : x ≡ Ok (values, rest)
  made : list ≡ argument_views r 0 values

abbrev list_in : List ArgumentView → Result (List ArgumentView × List ℕ) Fault → List ArgumentView
list_in list (Err fault) = list
list_in list (Ok found) = found.0

abbrev rest_in : List ℕ → Result (List ArgumentView × List ℕ) Fault → List ℕ
rest_in rest (Err fault) = rest
rest_in rest (Ok found) = found.1

are-made : (r : Reader) (list : List ArgumentView) (rest : List ℕ) (x : Result (List Argument × List ℕ) Fault)
    → Ok (list, rest) ≡ views_outcome r 0 x → AreMade r list rest x
are-made r list rest (Err fault) e = absurd (cc)
are-made r list rest (Ok found) e =
    let behind : rest ≡ found.1 = ap (rest_in rest) e in
    let back : found.1 ≡ rest = sym behind in
    record { values = found.0; found = λ i. Ok (found.0, back i); made = ap (list_in list) e }

pub parsed_whole : (r q : Reader) (ks : List Kind) (body rest : List ℕ) (parsed : List ParsedArg)
    → Ok (views_of_parsed body r.birth parsed, rest) ≡ views_outcome r 0 (arguments_at q 0 ks body)
    → (Ok (spelled_in body parsed, rest) ≡ arguments_at q 0 ks body) × AreParsed r body parsed (spelled_in body parsed)
parsed_whole r q ks body rest parsed e =
    let m = are-made r (views_of_parsed body r.birth parsed) rest (arguments_at q 0 ks body) e in
    let p = are_parsed r body parsed m.values m.made in (
      (λ i. Ok (p.spelled i, rest)) ∙ sym m.found,
      record { spelled = refl; reported = λ tokens. p.reported tokens ∙ ap (reports_of r tokens) (sym p.spelled) },
    )

pub parsed_err : (r : Reader) (fault : Fault) (x : Result (List Argument × List ℕ) Fault)
    → Err fault ≡ views_outcome r 0 x
    → Err fault ≡ x
parsed_err r fault (Err other) e = let same : fault ≡ other = cc in λ i. Err (same i)
parsed_err r fault (Ok found) e = absurd (cc)

-- ---- copies

pub owned-next : {A : Type 0} (items : List (Got A)) (x : Got A) (old new : List Reported) (r : Reported)
    → old ≡ r ∷ new → got x ≡ r → got_values (items ++ x ∷ []) ++ new ≡ got_values items ++ old
owned-next items x old new r e f = rw (e, map-append, append_assoc, f) refl

pub owned-end : (list rest : List Reported) → rest ≡ [] → list ≡ list ++ rest
owned-end list rest e = rw (e, append-nil) refl
