-- The trace of a session.
use Rattle.std.specs.Prelude.{ℕ, zero, suc, List, [], ◌∷◌, ◌++◌, slice_get, if◌then◌else◌, Option}
use Rattle.std.specs.Prelude.{Some}
use Rattle.std.specs.declared.result.Result.TheVariants.{Ok, Err}
use Rattle.wl_sigs.specs.Tables.{Interface}
use Rattle.wl_trace_line.specs.Line.{line}
use Rattle.wl_check.specs.declared.session_state.Output.{Output}
use Rattle.wl_check.specs.declared.session_state.Output.TheVariants.{Nothing, Lines}
use Rattle.wl_check.specs.Changes.{Call, side_of}
use Rattle.wl_check.specs.Places.{KnownAtPlace, known}
use Rattle.wl_check.specs.Rules.{reader_by}
use Rattle.wl_check.specs.Session.{Session, Judged, messages, changes_at, ends_session}

-- the line of a message, given what is known at its place
abbrev pub call_line : List Interface → KnownAtPlace → Call → List ℕ
call_line tables k call =
    line tables (side_of call.direction) (reader_by tables k call.direction).object call.received
    (k.taken call.direction)

abbrev pub judged_line : List Interface → KnownAtPlace → Option Judged → List ℕ
judged_line tables k (Some (Ok call)) = call_line tables k call
judged_line tables k _ = []

-- the wanted output for a session with these lines
abbrev pub wanted : Output → List ℕ → List ℕ
wanted Nothing lines = []
wanted Lines lines = lines

-- the lines of the first messages of the merged list
unfoldable pub lines_within : List Interface → Session → ℕ → List ℕ
lines_within tables session zero = []
lines_within tables session (suc k) =
    lines_within tables session k
    ++ judged_line tables (known (changes_at tables (messages tables session)) (suc k))
    (slice_get (messages tables session) k)

-- How many messages come before the verdict's end: all before the first that breaks a rule, or up
-- to and including the first wl_display.error.
abbrev pub lasting : List Judged → ℕ
lasting [] = 0
lasting (Err fault ∷ others) = 0
lasting (Ok call ∷ others) = if ends_session (Ok call) then 1 else suc (lasting others)

-- the lines of the messages before the verdict's end
abbrev pub trace_of : List Interface → Session → List ℕ
trace_of tables session = lines_within tables session (lasting (messages tables session))
