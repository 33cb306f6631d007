-- What a command prints for a verdict, and its exit status.
use Rattle.std.specs.Prelude.{ℕ, List, []}
use Rattle.wl_check.specs.declared.verdict.Verdict.{Verdict}
use Rattle.wl_check.specs.declared.verdict.Verdict.TheVariants.{Lawful, Broken}
use Rattle.wl_check.specs.Verdict.{verdict_line}

-- what follows the lines of a trace: the verdict's line if a rule is broken
abbrev pub last_line : Verdict → List ℕ
last_line (Lawful requests events left_to_server left_to_client) = []
last_line (Broken direction index offset fault) = verdict_line (Broken direction index offset fault)

-- the exit status
abbrev pub verdict_status : Verdict → ℕ
verdict_status (Lawful requests events left_to_server left_to_client) = 0
verdict_status (Broken direction index offset fault) = 1
