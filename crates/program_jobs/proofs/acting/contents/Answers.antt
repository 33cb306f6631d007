use Rattle.std.proofs.Common.{◌≡◌, ◌<◌, ℕ, Option, Some, None, option_map, IfSome, List, [], ◌++◌}
use Rattle.std.proofs.Common.{length, take, ap, ◌∙◌, arith}
use Rattle.std.proofs.lemmas.Grind.{common_steps}
use Rattle.program_jobs.proofs.acting.contents.Goals as goal

-- a prefix shorter than its limit is the whole
whole_taken : (limit : ℕ) (all : List ℕ) → length (take limit all) < limit → take limit all ≡ all
whole_taken limit all short = grind (arith, common_steps)

-- if fewer bytes came than were asked for, all were read
all_read : (known : Option (List ℕ)) (limit : ℕ) (before got : List ℕ)
    → IfSome (option_map (take limit) known) (λ xs. got ≡ before ++ xs) → before ≡ [] → length got < limit
    → IfSome known (λ all. got ≡ all)
all_read None limit before got h empty short = tt
all_read (Some all) limit before got h empty short =
    let taken : got ≡ take limit all = h ∙ ap (λ b. b ++ take limit all) empty in
    taken ∙ whole_taken limit all (let len = ap length taken in omega (arith, len))

pub returns-in-Ok-clause-whole : goal.returns-in-Ok-clause-whole
returns-in-Ok-clause-whole g c =
    let inner = ap (λ file. g.R.Read.remaining file.now) c.take.ensures.inner in
    let limit = c.take.ensures.limit in
    let len = c.len.ensures in
    let read = all_read (g.R.Read.remaining c.take.result.inner.now) c.take.result.limit c.new-bytes.result.items
    c.read_to_end.new.buf.items c.in-Ok.ensures.bytes c.new-bytes.ensures.items
    (omega (arith, limit, len, c.if-len-le-MAX_FILE_BYTES.true)) in
    record { within = omega (arith, len, c.if-len-le-MAX_FILE_BYTES.true); all = rw inner at read }
