use Rattle.std.proofs.Common.{◌≡◌, ◌&&◌, List, None, Some, Bool, true, false, codes, sym, subst, refl, rules}
use Rattle.std.specs.Prelude.{String, Vec}
use Rattle.std.specs.declared.alloc.Global.{Global}
use Rattle.clap.specs.Words.{Row, first_of, found_of, rows_of}
use Rattle.wl_message.specs.declared.limit.Limit.{Limit}
use Rattle.program_arguments.specs.declared.job.Job.{Job}
use Rattle.program_arguments.specs.declared.job.Job.TheVariants.{Trace, Check, Stream, Demo, Socket}
use Rattle.program_arguments.specs.Asking.{IsGiven, IsLimitOf, IsReading, IsSet, NamesFiles, reading_name}
use Rattle.program_arguments.proofs.job.reading.Goals.{else-is_streamed-via-then-is_streamed+else-inspects}
use Rattle.program_arguments.proofs.job.reading.Goals.{else-is_streamed-via-else-is_streamed}
use Rattle.program_arguments.proofs.job.reading.Goals as goal

-- the other commands have other names
not_demo : (lines : Bool) → reading_name lines ≡ codes "demo" → ⊥
not_demo true e = cc
not_demo false e = cc

not_socket : (lines : Bool) → reading_name lines ≡ codes "socket" → ⊥
not_socket true e = cc
not_socket false e = cc

-- with an impossible limit there is no job
no_limit : (lines : Bool) (rows : List Row) → IsLimitOf rows None → (job : Job)
    → IsGiven (reading_name lines) rows job → ⊥
no_limit lines rows none (Trace tables limit file) g = none limit g.2
no_limit lines rows none (Check inspects tables limit file) g = none limit g.2
no_limit lines rows none (Stream other tables limit file) g = none limit g.2
no_limit lines rows none (Demo piece) g = not_demo lines g.0
no_limit lines rows none (Socket path) g = not_socket lines g.0

-- nor without a file
no_file : (lines : Bool) (rows : List Row) → first_of (codes "FILE") rows ≡ None → (job : Job)
    → IsGiven (reading_name lines) rows job → ⊥
no_file lines rows none (Trace tables limit file) g = cc (none, g.1.1)
no_file lines rows none (Check inspects tables limit file) g = cc (none, g.1.1)
no_file lines rows none (Stream other tables limit file) g = cc (none, g.1.1)
no_file lines rows none (Demo piece) g = not_demo lines g.0
no_file lines rows none (Socket path) g = not_socket lines g.0

-- the job of what was given
is_given : (lines streamed inspects : Bool) (rows : List Row) (tables : Vec (String Global) Global) (limit : Limit)
    (file : String Global) (job : Job) → IsReading lines streamed inspects tables limit file job → NamesFiles rows tables file
    → IsLimitOf rows (Some limit) → IsSet (codes "stream") rows streamed → IsSet (codes "inspect") rows inspects
    → (streamed && inspects) ≡ false → IsGiven (reading_name lines) rows job
is_given lines true true rows tables limit file job is names limited streamed inspected apart = absurd (cc apart)
is_given lines true false rows tables limit file job is names limited streamed inspected apart =
    subst (IsGiven (reading_name lines) rows) (sym is) (refl, names, limited, streamed, inspected)
is_given true false inspects rows tables limit file job is names limited streamed inspected apart =
    subst (IsGiven (reading_name true) rows) (sym is) (refl, names, limited, streamed)
is_given false false inspects rows tables limit file job is names limited streamed inspected apart =
    subst (IsGiven (reading_name false) rows) (sym is) (refl, names, limited, streamed, inspected)

unless_first : (one other : Bool) → one ≡ false → (one && other) ≡ false
unless_first false other none = refl
unless_first true other none = cc none

unless_second : (one other : Bool) → other ≡ false → (one && other) ≡ false
unless_second false other none = refl
unless_second true other none = none

-- nor with both switches
not_both : (lines streamed inspects : Bool) (rows : List Row) → streamed ≡ true → inspects ≡ true
    → IsSet (codes "stream") rows streamed → IsSet (codes "inspect") rows inspects → (job : Job)
    → IsGiven (reading_name lines) rows job → ⊥
not_both lines false inspects rows both all streams inspected job g = cc both
not_both lines true false rows both all streams inspected job g = cc all
not_both lines true true rows both all streams inspected (Trace tables limit file) g = g.3 streams
not_both lines true true rows both all streams inspected (Check inspects tables limit file) g = g.3 streams
not_both lines true true rows both all streams inspected (Stream other tables limit file) g = g.4 inspected
not_both lines true true rows both all streams inspected (Demo piece) g = not_demo lines g.0
not_both lines true true rows both all streams inspected (Socket path) g = not_socket lines g.0

pub returns-in_default : goal.returns-in_default
returns-in_default c = no_limit c.args.prints_lines (rows_of (found_of c.args.given.now)) c.in_default.ensures

pub returns-then-inspects : goal.returns-then-inspects
returns-then-inspects c = not_both c.args.prints_lines c.is_set-is_streamed.result c.is_set-inspects.result
    (rows_of (found_of c.args.given.now)) c.if-is_streamed.true c.if-inspects.true c.is_set-is_streamed.ensures
    c.is_set-inspects.ensures

pub returns : goal.returns
returns c = is_given c.args.prints_lines c.is_set-is_streamed.result c.is_set-inspects.result
    (rows_of (found_of c.args.given.now)) c.in_ok-tables.tables _ _ c.reading_job.result c.reading_job.ensures
    (search rules) (search rules) c.is_set-is_streamed.ensures c.is_set-inspects.ensures
    (elim c.else-is_streamed.branch [
      | else-is_streamed-via-then-is_streamed+else-inspects w ↦ unless_second _ _ w.if-inspects.false
      | else-is_streamed-via-else-is_streamed w ↦ unless_first _ _ w.if-is_streamed.false
    ])
