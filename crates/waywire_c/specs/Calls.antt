-- What C learns about a call, and what the call leaves.
use Rattle.std.specs.Prelude.{◌≡◌, ◌≢◌, ℕ, List, Option, Some, None, MatchOption}
use Rattle.std.specs.declared.result.Result.{Result}
use Rattle.std.specs.declared.result.Result.TheVariants.{Ok, Err}
use Rattle.wl_sigs.specs.Side.{Side}
use Rattle.wl_object_map.specs.declared.object.Object.{Object}
use Rattle.wl_objects.specs.declared.error.SendError.{SendError}
use Rattle.wl_objects.specs.Writing.{Given, given}
use Rattle.wl_objects.specs.Messages.{checked}
use Rattle.wl_connection.specs.Core.{Core}
use Rattle.wl_connection.specs.Sending.{after_send, numbers_of, send_answer, opens_object}
use Rattle.waywire_c.specs.Statuses.{made_outcome, refused_place, OrMemory}
use Rattle.waywire_c.specs.Values.{made_object}
use Rattle.waywire_c.specs.declared.held.HeldEnd.{HeldEnd}
use Rattle.waywire_c.specs.Ends.{core_of, end_with_core, writes}

-- what is left in the output for the index of a refused argument: that index, if the refusal names
-- one
abbrev pub place_or : ℕ → Option ℕ → ℕ
place_or before None = before
place_or before (Some place) = place

abbrev pub place_left : ℕ → Result (Option Object) SendError → ℕ
place_left before (Ok new) = before
place_left before (Err why) = place_or before (refused_place why)

-- what is left in the output for a new object: the object, or one with id 0 if none is made; what
-- was there before, if the call is refused
abbrev pub made_left : Object → Result (Option Object) SendError → Object
made_left before (Ok new) = made_object new
made_left before (Err why) = before

-- What C learns about a `send` with these arguments: the status of its result and, for an
-- acceptance, the object that it made, or for a refusal, the index of the refused argument.
pub record IsSent (core : Core) (side : Side) (target : Object) (opcode : ℕ) (given : List Given)
    (status : ℕ) (before made : Object) (place_before place : ℕ) : Type 0 where
  pub answer : OrMemory
      (opens_object
      (checked core.outbox.limit.bytes core.tables side core.view target opcode given))
      (made_outcome (send_answer core side target opcode given)) status
  pub made_is : status ≢ 11 → made ≡ made_left before (send_answer core side target opcode given)
  pub not_made : status ≡ 11 → made ≡ before
  pub place_is : place ≡ place_left place_before (send_answer core side target opcode given)

-- What C learns about a `send`: only that an argument has a kind that no call takes; or what it
-- learns about a `send` with its arguments.
abbrev pub SendTells : Core → Side → Object → ℕ → Option (List Given) → ℕ → Object → Object
    → ℕ → ℕ → Type 0
SendTells core side target opcode given status before made place_before place =
    MatchOption given ((status ≡ 62) × (made ≡ before) × (place ≡ place_before))
    (λ args. IsSent core side target opcode args status before made place_before place)

-- What an end answers to a call of words, and what the call leaves: what `send` answers and leaves
-- of the numbers that the words are for the message.
abbrev pub words_answer : HeldEnd → Object → ℕ → List ℕ → Result (Option Object) SendError
words_answer end target opcode words =
    send_answer (core_of end) (writes end) target opcode
    (given (numbers_of (core_of end) (writes end) target opcode words))

abbrev pub after_words : HeldEnd → Object → ℕ → List ℕ → HeldEnd
after_words end target opcode words = end_with_core end
    (after_send (core_of end) (writes end) target opcode
    (given (numbers_of (core_of end) (writes end) target opcode words)))
