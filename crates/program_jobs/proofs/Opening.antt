-- Finding and opening files, one after another.
use Rattle.std.proofs.Common.{◌≡◌, ◌∙◌, ◌+◌, ◌<◌, ℕ, List, [], ◌∷◌, ◌++◌, String, Vec, get_or, length, map, take}
use Rattle.std.proofs.Common.{ap, arith, subst, sym}
use Rattle.std.specs.Prelude.{Result, Ok, Err, string_bytes}
use Rattle.std.specs.List.{Contains}
use Rattle.std.specs.IoError.{error_kind}
use Rattle.std.specs.declared.io.Error.{Error}
use Rattle.std.proofs.lemmas.List.{get_or-map, length-map, map-append, map_more}
use Rattle.program_jobs.specs.declared.failure.Failure.{Failure}
use Rattle.program_jobs.specs.declared.failure.Failure.TheVariants.{CannotRead, TooLong, LongRecording, BadLine}
use Rattle.program_jobs.specs.declared.failure.Failure.TheVariants.{BadTablesLine, BreaksRule}
use Rattle.program_jobs.specs.declared.failure.Failure.TheVariants.{CannotWrite, SocketFailed}
use Rattle.program_jobs.specs.declared.failure.Failure.TheVariants.{Memory}
use Rattle.program_jobs.specs.declared.tables.TablesFile.{TablesFile}
use Rattle.program_jobs.specs.Running.{AreOpened, FailsForOne, Finds, IsOpenFailure, one_file, one_word}

-- the image of an element is an element of the mapped list
pub contains_mapped : {X Y : Type 0} (f : X → Y) (xs : List X) (k : ℕ) (x : X) → k < length xs → x ≡ get_or xs k x
    → Contains (map f xs) (f x)
contains_mapped f xs k x lt is =
    (k, omega (arith, length-map xs f, lt), get_or-map f xs k x (f x) lt ∙ ap f (sym is))

-- the files of one more word are found
pub found_more : {A B M : Type 0} (finds : List ℕ → Result (Vec (String A) M) Error → Type 0)
    (words : List (String B)) (names after : List (String A)) (k : ℕ) (word : String B) (found : Vec (String A) M)
    → k < length words → word ≡ get_or words k word
    → Finds finds (map string_bytes (take k words)) (map string_bytes names) → finds (string_bytes word) (Ok found)
    → after ≡ names ++ found.items
    → Finds finds (map string_bytes (take (k + 1) words)) (map string_bytes after)
found_more finds words names after k word found lt at so_far one is =
    rw (map_more string_bytes words k word lt, ← at, is, map-append string_bytes names found.items)
    (one_word (map string_bytes (take k words)) (map string_bytes names) (string_bytes word) found so_far one)

-- one more file is opened
pub opened_more : {B R : Type 0} (opens : List ℕ → Result R Error → Type 0) (names : List (String B))
    (files after : List (TablesFile R)) (k : ℕ) (word : String B) (file : TablesFile R)
    → k < length names → word ≡ get_or names k word → file.name.now ≡ string_bytes word
    → AreOpened opens (map string_bytes (take k names)) files → opens file.name.now (Ok file.file)
    → after ≡ files ++ file ∷ []
    → AreOpened opens (map string_bytes (take (k + 1) names)) after
opened_more opens names files after k word file lt at same so_far one is =
    rw (map_more string_bytes names k word lt, ← at, ← same, is)
    (one_file (map string_bytes (take k names)) files file so_far one)

-- a file cannot be found or opened
pub fails_for : {B T : Type 0} (calls : List ℕ → Result T Error → Type 0) (names : List (String B)) (k : ℕ)
    (word : String B) (name : List ℕ) (why : Error) (failure : Failure) → k < length names
    → word ≡ get_or names k word → name ≡ string_bytes word → calls name (Err why)
    → IsOpenFailure name (error_kind why) failure → FailsForOne calls (map string_bytes names) failure
fails_for calls names k word name why (CannotRead named) lt at is gives said = (
  subst (Contains (map string_bytes names)) (sym (said.1 ∙ is)) (contains_mapped string_bytes names k word lt at),
  (why, subst (λ (n : List ℕ). calls n (Err why)) (sym said.1) gives, said.0),
)
fails_for calls names k word name why Memory lt at is gives said = tt
fails_for calls names k word name why TooLong lt at is gives said = absurd said
fails_for calls names k word name why LongRecording lt at is gives said = absurd said
fails_for calls names k word name why (BadLine line) lt at is gives said = absurd said
fails_for calls names k word name why (BadTablesLine file line) lt at is gives said = absurd said
fails_for calls names k word name why (BreaksRule file line rule) lt at is gives said = absurd said
fails_for calls names k word name why CannotWrite lt at is gives said = absurd said
fails_for calls names k word name why SocketFailed lt at is gives said = absurd said
