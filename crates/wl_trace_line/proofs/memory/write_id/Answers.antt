use Rattle.std.proofs.Common.{◌≡◌, ◌≤◌, ◌<◌, ◌-◌, ◌+◌, ◌∷◌, ◌++◌, ℕ, suc, List, length, take, drop, get_or, arith, ◌^◌}
use Rattle.std.proofs.Common.{◌∙◌, ap, sym, append-nil, drop-cons}
use Rattle.std.proofs.Math.ListN.{replicate}
use Rattle.std.specs.Fmt.{decimal}
use Rattle.std.proofs.lemmas.Fmt.{length-decimal-le, decimal_nonempty}
use Rattle.std.proofs.lemmas.List.{get_or-take, get_or-replicate, length-drop}
use Rattle.std.proofs.lemmas.Grind.{common_steps}
use Rattle.wl_trace_line.proofs.memory.write_id.Goals as goal

-- the sign precedes the digits
signed : (text digits : List ℕ) (start : ℕ) → 1 ≤ start → start + length digits ≡ 11 → 0 < length digits
    → drop start text ≡ digits ++ drop 11 (replicate 11 64) → take start text ≡ take start (replicate 11 64)
    → take (11 - (start - 1)) (drop (start - 1) text) ≡ 64 ∷ digits
signed text digits start some sum more wrote kept =
    let before : start - 1 < start = omega (arith, some) in
    let behind : drop start text ≡ digits = wrote ∙ append-nil digits in
    let long : length text - start ≡ length digits = sym (length-drop start text) ∙ ap length behind in
    let place : get_or text (start - 1) 0 ≡ 64 =
    sym (get_or-take start text (start - 1) 0 before) ∙ ap (λ t. get_or t (start - 1) 0) kept
    ∙ get_or-take start (replicate 11 64) (start - 1) 0 before
    ∙ get_or-replicate 11 (start - 1) 64 0 (omega (arith, some, sum)) in
    let next : suc (start - 1) ≡ start = omega (arith, some) in
    let cut : drop (start - 1) text ≡ 64 ∷ digits =
    drop-cons text (start - 1) 0 (omega (arith, long, more, some))
    ∙ rw (place, next) (ap (λ t. 64 ∷ t) behind) in
    rw cut (grind (arith, common_steps, sum, some))

few : (id : ℕ) → id < 2 ^ 32 → length (decimal id) ≤ 10
few id fits = length-decimal-le 10 id (omega arith) (omega (arith, fits)) (omega (arith, fits))

pub write_digits-digits-requires : goal.write_digits-digits-requires
write_digits-digits-requires g c =
    let short = few c.args.id c.ranges.id.fits in
    (rw c.from.ensures (omega (arith, short)), omega arith)

pub overflow_sub-digits : goal.overflow_sub-digits
overflow_sub-digits g c =
    let short = few c.args.id c.ranges.id.fits in
    let sum = rw c.from.ensures at c.write_digits-digits.ensures.start in
    omega (arith, short, sum)

pub returns : goal.returns
returns g c =
    let short = few c.args.id c.ranges.id.fits in
    let sum = rw c.from.ensures at c.write_digits-digits.ensures.start in
    let whole = signed c.write_digits-digits.new.buf (decimal c.args.id) c.write_digits-digits.result
    (omega (arith, short, sum)) sum
    (decimal_nonempty c.args.id (let fits = c.ranges.id.fits in omega (arith, fits)))
    (rw c.from.ensures at c.write_digits-digits.ensures.written) c.write_digits-digits.ensures.before in
    grind (arith, common_steps, whole)
