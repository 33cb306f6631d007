-- Reading a message's arguments gives values that meet the reader's rules, or the first fault.
use Rattle.std.proofs.Common.{◌≡◌, ℕ, suc, ◌<◌, List, [], ◌∷◌, ◌++◌, length, drop, take, Some, None}
use Rattle.std.proofs.Common.{refl, sym, ap, subst, ◌∙◌}
use Rattle.std.specs.Prelude.{Option}
use Rattle.std.specs.List.{All}
use Rattle.std.specs.declared.result.Result.{Result}
use Rattle.std.specs.declared.result.Result.TheVariants.{Ok, Err}
use Rattle.std.proofs.lemmas.List.{drop_at, take-append-drop}
use Rattle.std.proofs.lemmas.List.Elements.{All-drop}
use Rattle.wl_wire.specs.declared.kind.Kind.{Kind}
use Rattle.wl_wire.specs.declared.kind.ArgFault.{ArgFault}
use Rattle.wl_wire.specs.Argument.{Argument}
use Rattle.wl_wire.specs.Spelling.{Spells}
use Rattle.wl_wire.specs.Reading.{reading}
use Rattle.wl_wire.proofs.Fronts.{reading-spelled}
use Rattle.wl_wire.proofs.Taken.{reading-found}
use Rattle.wl_wire.proofs.Refused.{fault-reading, reading-fault}
use Rattle.wl_objects.specs.declared.error.Fault.{Fault}
use Rattle.wl_objects.specs.Reading.{Reader, forgiving_kind, value_fault, value_unless, value_or_fault, value_before}
use Rattle.wl_objects.specs.Reading.{value_then_rest}
use Rattle.wl_objects.specs.Reading.{arguments_at}
use Rattle.wl_objects.specs.Spelling as spelling
use Rattle.wl_objects.specs.Spelling.{MeetsKinds, FirstFault}

abbrev Bytewise : List ℕ → Type 0
Bytewise bytes = All (λ b. b < 256) bytes

-- the meaning of a reader's result, as a relation
abbrev Says : Reader → ℕ → List Kind → List ℕ → Result (List Argument × List ℕ) Fault → Type 0
Says r place ks bytes (Ok found) = MeetsKinds r place ks bytes found.0 found.1
Says r place ks bytes (Err fault) = FirstFault r place ks bytes fault

says-before : (r : Reader) (place : ℕ) (kind : Kind) (ks : List Kind) (bytes : List ℕ) (v : Argument) (n : ℕ)
    (x : Result (List Argument × List ℕ) Fault)
    → bytes ≡ take n bytes ++ drop n bytes → Spells (forgiving_kind r.forgives kind) v (take n bytes)
    → value_fault r place kind v ≡ None
    → Says r (suc place) ks (drop n bytes) x → Says r place (kind ∷ ks) bytes (value_before v x)
says-before r place kind ks bytes v n (Ok found) e s f h = spelling.more s f h e
says-before r place kind ks bytes v n (Err fault) e s f h = spelling.later s f h e

says-unless : (r : Reader) (place : ℕ) (kind : Kind) (ks : List Kind) (bytes : List ℕ) (v : Argument) (n : ℕ)
    (f : Option Fault)
    → bytes ≡ take n bytes ++ drop n bytes → Spells (forgiving_kind r.forgives kind) v (take n bytes)
    → value_fault r place kind v ≡ f
    → Says r (suc place) ks (drop n bytes) (arguments_at r (suc place) ks (drop n bytes))
    → Says r place (kind ∷ ks) bytes (value_then_rest (arguments_at r (suc place) ks) bytes (value_unless f (v, n)))
says-unless r place kind ks bytes v n None e s f h =
    says-before r place kind ks bytes v n (arguments_at r (suc place) ks (drop n bytes)) e s f h
says-unless r place kind ks bytes v n (Some fault) e s f h = spelling.meaning (drop n bytes) s f e

says-judged : (r : Reader) (place : ℕ) (kind : Kind) (ks : List Kind) (bytes : List ℕ)
    (x : Result (Argument × ℕ) ArgFault) → Bytewise bytes
    → reading (forgiving_kind r.forgives kind) bytes ≡ x
    → ((n : ℕ) → Says r (suc place) ks (drop n bytes) (arguments_at r (suc place) ks (drop n bytes)))
    → Says r place (kind ∷ ks) bytes
    (value_then_rest (arguments_at r (suc place) ks) bytes (value_or_fault r place kind x))
says-judged r place kind ks bytes (Ok found) w e h =
    let spelled = reading-found (forgiving_kind r.forgives kind) found.0 found.1 bytes w e in
    says-unless r place kind ks bytes found.0 found.1 (value_fault r place kind found.0)
    (sym (take-append-drop found.1 bytes)) spelled.1 refl (h found.1)
says-judged r place kind ks bytes (Err fault) w e h =
    spelling.spelling ((reading-fault (forgiving_kind r.forgives kind) fault bytes w).0 e)

pub says : (r : Reader) (place : ℕ) (ks : List Kind) (bytes : List ℕ) → Bytewise bytes
    → Says r place ks bytes (arguments_at r place ks bytes)
says r place [] bytes w = spelling.none
says r place (kind ∷ ks) bytes w =
    says-judged r place kind ks bytes (reading (forgiving_kind r.forgives kind) bytes) w refl
    (λ n. says r (suc place) ks (drop n bytes) (All-drop (λ (b : ℕ). b < 256) n bytes w))

pub met : (r : Reader) (place : ℕ) (ks : List Kind) (bytes : List ℕ) (values : List Argument) (rest : List ℕ)
    → Bytewise bytes
    → arguments_at r place ks bytes ≡ Ok (values, rest) → MeetsKinds r place ks bytes values rest
met r place ks bytes values rest w e = subst (λ (x : Result (List Argument × List ℕ) Fault). Says r place ks bytes x) e
    (says r place ks bytes w)

pub faulty : (r : Reader) (place : ℕ) (ks : List Kind) (bytes : List ℕ) (fault : Fault) → Bytewise bytes
    → arguments_at r place ks bytes ≡ Err fault → FirstFault r place ks bytes fault
faulty r place ks bytes fault w e = subst (λ (x : Result (List Argument × List ℕ) Fault). Says r place ks bytes x) e
    (says r place ks bytes w)

-- reading goes on after an argument that is spelled at the front and without fault
one-right : (r : Reader) (place : ℕ) (kind : Kind) (ks : List Kind) (bytes front behind : List ℕ) (v : Argument)
    → Spells (forgiving_kind r.forgives kind) v front → value_fault r place kind v ≡ None → bytes ≡ front ++ behind
    → arguments_at r place (kind ∷ ks) bytes ≡ value_before v (arguments_at r (suc place) ks behind)
one-right r place kind ks bytes front behind v s f e =
    let one = reading-spelled behind s in
    let rest : drop (length front) (front ++ behind) ≡ behind = drop_at front behind (length front) refl in
    rw (e, one, f, rest) refl

pub meets-read : {r : Reader} {place : ℕ} {ks : List Kind} {bytes : List ℕ} {values : List Argument} {rest : List ℕ}
    → MeetsKinds r place ks bytes values rest → arguments_at r place ks bytes ≡ Ok (values, rest)
meets-read {r} spelling.none = refl
meets-read {r} (spelling.more s f m e) = one-right r _ _ _ _ _ _ _ s f e ∙ ap (value_before _) (meets-read m)

pub fault-read : {r : Reader} {place : ℕ} {ks : List Kind} {bytes : List ℕ} {fault : Fault}
    → FirstFault r place ks bytes fault → arguments_at r place ks bytes ≡ Err fault
fault-read {r} (spelling.spelling {kind = kind} {bytes = bytes} {fault = fault} f) = let one =
    fault-reading (forgiving_kind r.forgives kind) fault bytes f in rw one refl
fault-read {r} (spelling.meaning {place = place} {kind = kind} {value = value} {front = front} behind s f e) =
    let one = reading-spelled behind s in rw (e, one, f) refl
fault-read {r} (spelling.later s f m e) = one-right r _ _ _ _ _ _ _ s f e ∙ ap (value_before _) (fault-read m)
