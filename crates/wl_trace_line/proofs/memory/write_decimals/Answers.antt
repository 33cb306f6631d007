use Rattle.std.proofs.Common.{◌≡◌, ◌≤◌, ◌<◌, ◌^◌, ◌-◌, ◌++◌, ℕ, List, length, take, drop, arith, rules}
use Rattle.std.proofs.Common.{◌∙◌, ap, refl}
use Rattle.std.proofs.Math.ListN.{replicate}
use Rattle.std.specs.Fmt.{decimal}
use Rattle.std.proofs.lemmas.Fmt.{length-decimal-le}
use Rattle.std.proofs.lemmas.List.{drop-replicate, length-replicate, take_all}
use Rattle.std.proofs.lemmas.Grind.{common_steps}
use Rattle.wl_wire.specs.Units.{decimal_to}
use Rattle.wl_trace_line.proofs.memory.write_decimals.Goals as goal

short : (n : ℕ) (digits : List ℕ) → n < 10 ^ 8 → digits ≡ decimal n → length digits ≤ 8
short n digits small is = rw is (length-decimal-le 8 n (omega arith) small (omega (arith, small)))

-- the leading zeros, and the digits
padded : (n : ℕ) (digits : List ℕ) → digits ≡ decimal n
    → take (8 - length digits) (drop (length digits) (replicate 8 48)) ++ digits ≡ decimal_to 8 n
padded n digits is =
    ap (λ zeros. take (8 - length digits) zeros ++ digits) (drop-replicate (length digits) 8 48)
    ∙ ap (λ zeros. zeros ++ digits)
    (take_all (8 - length digits) (replicate (8 - length digits) 48) (omega (arith, length-replicate {A = ℕ} (8 - length digits) 48)))
    ∙ rw is refl

pub slice_bounds-extend_from_slice-count : goal.slice_bounds-extend_from_slice-count
slice_bounds-extend_from_slice-count g c =
    short c.args.number _ c.requires (c.as_bytes-digits.ensures.value ∙ c.format.ensures.text)

pub slice_bounds-extend_from_slice-start : goal.slice_bounds-extend_from_slice-start
slice_bounds-extend_from_slice-start g c =
    let few = short c.args.number _ c.requires (c.as_bytes-digits.ensures.value ∙ c.format.ensures.text) in
    search (rules, few)

pub returns : goal.returns
returns g c =
    let whole = padded c.args.number c.as_bytes-digits.result.now
    (c.as_bytes-digits.ensures.value ∙ c.format.ensures.text) in
    grind (arith, common_steps, whole)
