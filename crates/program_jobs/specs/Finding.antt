-- What `check --inspect` prints, and its exit status: the verdict of waywire-inspect.
use Rattle.std.specs.Prelude.{ℕ, Bool, true, false, ◌&&◌, List, ◌++◌, codes, nat_lt}
use Rattle.std.specs.Prelude.{if◌then◌else◌, Option, Some, None}
use Rattle.std.specs.Fmt.{decimal}
use Rattle.wl_sigs.specs.Tables.{Interface}
use Rattle.wl_objects.specs.declared.error.Fault.TheVariants.{BadBind}
use Rattle.wl_recording.specs.declared.piece.Direction.TheVariants.{ToServer}
use Rattle.wl_check.specs.declared.verdict.Verdict.{Verdict}
use Rattle.wl_check.specs.declared.verdict.Verdict.TheVariants.{Lawful, Broken}
use Rattle.wl_check.specs.Verdict.{verdict_line}
use Rattle.program_jobs.specs.declared.finding.Lacking.{Lacking}
use Rattle.program_jobs.specs.declared.inspecting.Noted.{Noted}
use Rattle.program_jobs.specs.Hint.{NamedBind, bound_at, known_version, lack_words, seen_bound}
use Rattle.program_jobs.specs.Verdict.{verdict_status}

-- A bind that only the tables forbid: its number among the requests, what it names, and the version
-- that the tables have of its interface, if they have it.
pub record LackingBind : Type 0 where
  pub index : ℕ
  pub bound : NamedBind
  pub known : Option ℕ

abbrev pub seen_lacking : Lacking → LackingBind
seen_lacking lacking = record {
  index = lacking.index;
  bound = seen_bound lacking.bound;
  known = lacking.known;
}

abbrev pub is_newer : Option ℕ → ℕ → Bool
is_newer None version = true
is_newer (Some known) version = nat_lt known version

abbrev pub lacking_for : List Interface → ℕ → Bool → Option NamedBind → Option LackingBind
lacking_for tables index is_announced None = None
lacking_for tables index is_announced (Some bound) =
    if is_announced && is_newer (known_version tables bound.interface) bound.version
    then Some (record {
      index = index;
      bound = bound;
      known = known_version tables bound.interface;
    })
    else None

-- The broken message, if it is a bind (F9) of a global that was announced, and whose interface the
-- tables lack, or have only in an earlier version than the bind names.
abbrev pub lacking_of : List Interface → List ℕ → Bool → Verdict → Option LackingBind
lacking_of tables requests is_announced (Broken ToServer index offset BadBind) =
    lacking_for tables index is_announced (bound_at requests offset)
lacking_of tables requests is_announced _ = None

-- ---- in print

-- from where on nothing was judged
abbrev pub unjudged_text : ℕ → List ℕ
unjudged_text index = codes "not judged from request " ++ decimal index ++ codes " on: "

abbrev pub requests_text : ℕ → List ℕ
requests_text requests = codes "; lawful until then; " ++ decimal requests ++ codes " requests, "

abbrev pub events_text : ℕ → List ℕ
events_text events = decimal events ++ codes " events"

-- how many messages were followed
abbrev pub followed_text : ℕ → ℕ → List ℕ
followed_text requests events = requests_text requests ++ events_text events

-- whether a wl_display.error has ended the session
abbrev pub ended_text : Bool → List ℕ
ended_text true = codes "; ended by wl_display.error\n"
ended_text false = codes "\n"

abbrev pub begin_text : LackingBind → List ℕ
begin_text lacking = unjudged_text lacking.index ++ lack_words lacking.bound lacking.known

abbrev pub rest_text : Noted → List ℕ
rest_text noted = followed_text noted.requests noted.events ++ ended_text noted.has_error

abbrev pub unjudged_line : LackingBind → Noted → List ℕ
unjudged_line lacking noted = begin_text lacking ++ rest_text noted

-- a lawful session that a wl_display.error has ended
abbrev pub until_error_text : ℕ → List ℕ
until_error_text requests =
    codes "lawful up to wl_display.error: " ++ decimal requests ++ codes " requests, "

abbrev pub more_events_text : ℕ → List ℕ
more_events_text events = decimal events ++ codes " events, "

abbrev pub ended_counts_text : ℕ → ℕ → List ℕ
ended_counts_text requests events = until_error_text requests ++ more_events_text events

abbrev pub bytes_left_text : ℕ → ℕ → List ℕ
bytes_left_text to_server to_client =
    decimal to_server ++ codes " and " ++ decimal to_client ++ codes " bytes left\n"

-- the line of a verdict on a session that a wl_display.error has ended, or not
abbrev pub judged_as : Bool → Verdict → List ℕ
judged_as true (Lawful requests events left_to_server left_to_client) =
    ended_counts_text requests events ++ bytes_left_text left_to_server left_to_client
judged_as has_error verdict = verdict_line verdict

-- the whole line
abbrev pub finding_line : Option LackingBind → Verdict → Noted → List ℕ
finding_line (Some lacking) verdict noted = unjudged_line lacking noted
finding_line None verdict noted = judged_as noted.has_error verdict

-- A session that is not judged to its end does not count as broken.
abbrev pub judged_status : Option LackingBind → Verdict → ℕ
judged_status (Some lacking) verdict = 0
judged_status None verdict = verdict_status verdict

-- the exit status; 1 also for a session that a wl_display.error has ended
abbrev pub finding_status : Option LackingBind → Verdict → Noted → ℕ
finding_status lacking verdict noted =
    if noted.has_error then 1 else judged_status lacking verdict
