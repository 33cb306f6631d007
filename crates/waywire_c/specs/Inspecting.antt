-- What the calls of an inspector take and report.
use Rattle.std.specs.Prelude.{◌≡◌, ◌⊎◌, ℕ, Bool, true, false, nat_eq, if◌then◌else◌, List, length}
use Rattle.std.specs.Prelude.{Option, Some, None}
use Rattle.wl_sigs.specs.Tables.{Interface}
use Rattle.wl_recording.specs.declared.piece.Direction.{Direction}
use Rattle.wl_recording.specs.declared.piece.Direction.TheVariants.{ToServer, ToClient}
use Rattle.wl_check.specs.declared.verdict.Verdict.{Verdict}
use Rattle.wl_check.specs.declared.verdict.Verdict.TheVariants.{Lawful, Broken}
use Rattle.wl_check.specs.declared.deserved.UndeservedDelete.{UndeservedDelete}
use Rattle.wl_check.specs.Deserved.{TellsUndeserved}
use Rattle.wl_check.specs.Session.{Session, messages, IsVerdictOf}
use Rattle.wl_check.specs.Trace.{lasting}
use Rattle.wl_check.specs.Verdict.{verdict_line}

-- The direction of a sender's pieces: the client's (0) go to the server, and the server's (1) to
-- the client.
abbrev pub direction_of : ℕ → Option Direction
direction_of sender =
    if nat_eq sender 0 then Some ToServer else (if nat_eq sender 1 then Some ToClient else None)

-- all was done, or memory ran out
abbrev pub IsTried : ℕ → Type 0
IsTried status = (status ≡ 0) ⊎ (status ≡ 11)

-- the status of a call that passes a piece: a number that is no sender is a bad value
abbrev pub PassEnds : Option Direction → ℕ → Type 0
PassEnds None status = status ≡ 62
PassEnds (Some direction) status = IsTried status

abbrev pub is_broken : Verdict → Bool
is_broken (Lawful requests events left_to_server left_to_client) = false
is_broken (Broken direction index offset fault) = true

-- The verdict on a session is reported: its line, the line's length, and whether a rule is broken.
pub record TellsVerdict (tables : List Interface) (session : Session) (line : List ℕ) (len : ℕ)
    (broken : Bool) : Type 0 where
  pub verdict : Verdict
  pub answers : IsVerdictOf tables session verdict
  pub line_is : line ≡ verdict_line verdict
  pub length_is : len ≡ length line
  pub broken_is : broken ≡ is_broken verdict

-- the number and the id of a delete_id; zeros if there is none
abbrev pub number_or_none : Option UndeservedDelete → ℕ
number_or_none None = 0
number_or_none (Some delete) = delete.number

abbrev pub id_taken_back : Option UndeservedDelete → ℕ
id_taken_back None = 0
id_taken_back (Some delete) = delete.id

-- The first judged delete_id that is not deserved is reported: its number and the id that it takes
-- back, or two zeros if each one was deserved.
pub record ReportsUndeserved (tables : List Interface) (session : Session) (number id : ℕ) : Type 0
  where
    pub delete : Option UndeservedDelete
    pub told : TellsUndeserved tables session (lasting (messages tables session)) delete
    pub number_is : number ≡ number_or_none delete
    pub id_is : id ≡ id_taken_back delete
