use Rattle.std.proofs.Common.{◌≡◌, ◌∙◌, ℕ, List, Some, None, codes, sym, ap, subst}
use Rattle.std.specs.Prelude.{Option, IsSome, IfSome, ◌↔◌}
use Rattle.std.specs.Str.Parse.{digits_value, without_leading_plus}
use Rattle.clap.specs.Words.{Row, Text, found_of, rows_of}
use Rattle.wl_message.specs.declared.limit.Limit.{Limit}
use Rattle.wl_message.specs.Cut.{IsLimit}
use Rattle.program_arguments.specs.Asking.{IsLimitOf, IsNumber}
use Rattle.program_arguments.proofs.job.limit_of.Goals as goal

-- at most one number is given for the limit
one_number : (rows : List Row) (n m : ℕ) → IsNumber (codes "limit") rows (Some n)
    → IsNumber (codes "limit") rows (Some m) → n ≡ m
one_number rows n m a b =
    let both : Some a.0 ≡ Some b.0 = sym a.1 ∙ b.1 in
    let same : a.0 ≡ b.0 = cc both in
    a.2.1 ∙ ap (λ (d : Text). digits_value 10 (without_leading_plus d)) same ∙ sym b.2.1

limit_is : (rows : List Row) (n : ℕ) (r : Option Limit) → IsNumber (codes "limit") rows (Some n)
    → (IsSome r ↔ IsLimit n) → IfSome r (λ (l : Limit). l.bytes ≡ n) → IsLimitOf rows r
limit_is rows n (Some limit) a s b = subst (λ (k : ℕ). IsNumber (codes "limit") rows (Some k)) (sym b) a
limit_is rows n None a s b = λ limit c. let no = s.1
    (subst IsLimit (sym (one_number rows n limit.bytes a c)) limit.in_range) in cc no

limit_none : (rows : List Row) → IsNumber (codes "limit") rows None → IsLimitOf rows None
limit_none rows f = λ limit c. f c.0 limit.bytes c.1 c.2

pub returns-in-Some : goal.returns-in-Some
returns-in-Some c = limit_is (rows_of (found_of c.args.matches.now)) c.in-Some.bytes c.new.result
    (subst (IsNumber (codes "limit") (rows_of (found_of c.args.matches.now))) c.in-Some.is c.number_of.ensures)
    c.new.ensures.some c.new.ensures.bytes

pub returns-in-None : goal.returns-in-None
returns-in-None c = limit_none (rows_of (found_of c.args.matches.now))
    (subst (IsNumber (codes "limit") (rows_of (found_of c.args.matches.now))) c.in-None.is c.number_of.ensures)
