-- The outcome of a judged message: its changes and its line, or the first rule that it breaks.
use Rattle.std.proofs.Common.{◌≡◌, ℕ, List, ◌++◌, Some, refl, sym, ap, ◌∙◌, append-nil}
use Rattle.std.specs.Prelude.{IfOk, OnOk}
use Rattle.std.specs.declared.result.Result.{Result}
use Rattle.std.specs.declared.result.Result.TheVariants.{Ok, Err}
use Rattle.wl_sigs.specs.Tables.{Interface}
use Rattle.wl_objects.specs.declared.error.Fault.{Fault}
use Rattle.wl_check.specs.declared.session_state.Output.{Output}
use Rattle.wl_check.specs.declared.session_state.Output.TheVariants.{Nothing, Lines}
use Rattle.wl_check.specs.declared.changes.MessageChanges.{MessageChanges}
use Rattle.wl_check.specs.Changes.{Call, changes}
use Rattle.wl_check.specs.Places.{KnownAtPlace}
use Rattle.wl_check.specs.Seen.{changes_in}
use Rattle.wl_check.specs.Trace.{call_line, judged_line, wanted}

pub no_changes : (tables : List Interface) (x : Result Call Fault) (fault : Fault) → Err fault ≡ x
    → Err fault ≡ changes_in tables x
no_changes tables x fault is = ap (changes_in tables) is

pub no_line : (tables : List Interface) (k : KnownAtPlace) (o : Output) (text : List ℕ) (x : Result Call Fault)
    (fault : Fault)
    → Err fault ≡ x → text ≡ text ++ wanted o (judged_line tables k (Some x))
no_line tables k Nothing text x fault is = sym (append-nil text)
no_line tables k Lines text x fault is = sym (append-nil text)
    ∙ ap (λ (y : Result Call Fault). text ++ judged_line tables k (Some y)) is

pub own_changes : (tables : List Interface) (x : Result Call Fault) (call : Call) (e : MessageChanges)
    → e ≡ changes tables call → Ok call ≡ x → Ok e ≡ changes_in tables x
own_changes tables x call e e_is is = ap Ok e_is ∙ ap (changes_in tables) is

pub own_line : (tables : List Interface) (k : KnownAtPlace) (o : Output) (old new : List ℕ) (x : Result Call Fault)
    (call : Call) → new ≡ old ++ wanted o (call_line tables k call) → Ok call ≡ x
    → new ≡ old ++ wanted o (judged_line tables k (Some x))
own_line tables k o old new x call new_is is = new_is
    ∙ ap (λ (y : Result Call Fault). old ++ wanted o (judged_line tables k (Some y))) is

pub found_fault : (tables : List Interface) (x : Result Call Fault) (fault : Fault) → Err fault ≡ changes_in tables x
    → Err fault ≡ x
found_fault tables (Err other) fault h = let same : fault ≡ other = cc h in ap Err same
found_fault tables (Ok call) fault h = absurd (cc h)

pub no_more : (tables : List Interface) (k : KnownAtPlace) (o : Output) (old new : List ℕ) (x : Result Call Fault)
    (fault : Fault) → Err fault ≡ x → new ≡ old ++ wanted o (judged_line tables k (Some x)) → new ≡ old
no_more tables k o old new x fault is new_is = new_is ∙ sym (no_line tables k o old x fault is)

pub record Found (tables : List Interface) (k : KnownAtPlace) (o : Output) (x : Result Call Fault) (e : MessageChanges)
    (old new : List ℕ) : Type 0 where
  pub call : Call
  pub is : Ok call ≡ x
  pub changes_are : e ≡ changes tables call
  pub text : new ≡ old ++ wanted o (call_line tables k call)

pub found_call : (tables : List Interface) (k : KnownAtPlace) (o : Output) (x : Result Call Fault) (e : MessageChanges)
    (old new : List ℕ) → Ok e ≡ changes_in tables x → new ≡ old ++ wanted o (judged_line tables k (Some x))
    → Found tables k o x e old new
found_call tables k o (Ok call) e old new h text = record { call = call; is = refl; changes_are = cc h; text = text }
found_call tables k o (Err fault) e old new h text = absurd (cc h)

-- the same for an equal judgement
pub changes_so : {E : Type 0} (tables : List Interface) (r : Result (Result MessageChanges Fault) E)
    (x y : Result Call Fault) → x ≡ y → IfOk r (λ o. o ≡ changes_in tables x) → IfOk r (λ o. o ≡ changes_in tables y)
changes_so tables (Ok o) x y e h = h ∙ ap (changes_in tables) e
changes_so tables (Err failure) x y e h = h

pub text_so : {E : Type 0} (tables : List Interface) (k : KnownAtPlace) (o : Output) (old new : List ℕ)
    (r : Result (Result MessageChanges Fault) E) (x y : Result Call Fault) → x ≡ y
    → OnOk r (new ≡ old ++ wanted o (judged_line tables k (Some x)))
    → OnOk r (new ≡ old ++ wanted o (judged_line tables k (Some y)))
text_so tables k o old new (Ok a) x y e h = h ∙ ap
    (λ (z : Result Call Fault). old ++ wanted o (judged_line tables k (Some z))) e
text_so tables k o old new (Err failure) x y e h = h
