-- What a call that may allocate returns and leaves.
use Rattle.std.specs.Prelude.{◌≡◌, ◌⊎◌, Bool, true, false, IsOk, Option, Some, None}
use Rattle.std.specs.declared.result.Result.{Result}
use Rattle.std.specs.declared.result.Result.TheVariants.{Ok, Err}
use Rattle.wl_object_map.specs.declared.object.Object.{Object}
use Rattle.wl_objects.specs.declared.error.NextError.{NextError}
use Rattle.wl_objects.specs.declared.error.NextError.TheVariants as errors

-- A call returns what it should; or out of memory, if it should accept and may need memory for
-- that.
abbrev pub AnswersOrMemory : {X E : Type 0} → E → Bool → Result X E → Result X E → Type 0
AnswersOrMemory memory wants answer result =
    (result ≡ answer) ⊎ ((result ≡ Err memory) × (wants ≡ true) × IsOk answer)

-- whether a read returns a report, and a report of this kind
abbrev pub answers_with : {R : Type 0} → (R → Bool) → Result (Option R) NextError → Bool
answers_with is (Ok (Some report)) = is report
answers_with is _ = false

-- what a read returned, with `seen` applied to its report
abbrev pub read_as : {X R : Type 0} → (X → R) → Result (Option X) NextError
    → Result (Option R) NextError
read_as seen (Err why) = Err why
read_as seen (Ok None) = Ok None
read_as seen (Ok (Some read)) = Ok (Some (seen read))

-- the state that a read leaves: unchanged if out of memory
abbrev pub unless_memory : {S R : Type 0} → S → S → Result R NextError → S
unless_memory before after (Err errors.Memory) = before
unless_memory before after result = after

-- the result of a call that makes an object, as that of a call that may make one
abbrev pub some_object : {E : Type 0} → Result Object E → Result (Option Object) E
some_object (Err why) = Err why
some_object (Ok object) = Ok (Some object)

-- why a call was refused, if it was
abbrev pub refusal_in : {X E : Type 0} → Result X E → Option E
refusal_in (Ok x) = None
refusal_in (Err why) = Some why
