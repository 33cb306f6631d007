-- A verdict in print.
use Rattle.std.specs.Prelude.{ℕ, List, [], ◌∷◌, ◌++◌, codes}
use Rattle.std.specs.Fmt.{decimal}
use Rattle.wl_objects.specs.declared.error.Fault.{Fault}
use Rattle.wl_objects.specs.Texts.{fault_text}
use Rattle.wl_recording.specs.declared.piece.Direction.{Direction}
use Rattle.wl_recording.specs.Line.{sign}
use Rattle.wl_check.specs.declared.verdict.Verdict.{Verdict}
use Rattle.wl_check.specs.declared.verdict.Verdict.TheVariants.{Lawful, Broken}

-- the sign of a direction alone
abbrev pub sign_text : Direction → List ℕ
sign_text direction = sign direction ∷ []

-- how many messages a lawful session has, and how many bytes are left
abbrev pub counts_text : ℕ → ℕ → List ℕ
counts_text requests events =
    codes "lawful: " ++ decimal requests ++ codes " requests, " ++ decimal events
    ++ codes " events, "

abbrev pub left_text : ℕ → ℕ → List ℕ
left_text to_server to_client =
    decimal to_server ++ codes " and " ++ decimal to_client ++ codes " bytes left\n"

-- which message breaks a rule, where it begins, and the rule
abbrev pub message_text : Direction → ℕ → List ℕ
message_text direction index =
    codes "broken: " ++ sign_text direction ++ codes " message " ++ decimal index

abbrev pub broken_text : ℕ → Fault → List ℕ
broken_text offset fault =
    codes " at byte " ++ decimal offset ++ codes ": " ++ fault_text fault ++ codes "\n"

-- the line of a verdict, with the line feed that ends it
abbrev pub verdict_line : Verdict → List ℕ
verdict_line (Lawful requests events left_to_server left_to_client) =
    counts_text requests events ++ left_text left_to_server left_to_client
verdict_line (Broken direction index offset fault) =
    message_text direction index ++ broken_text offset fault
