use Rattle.std.proofs.Common.{◌≡◌, ◌<◌, ◌^◌, ◌∙◌, ℕ, List, Option, Some, None, refl, sym, subst}
use Rattle.std.specs.Prelude.{Ok, Err, Result}
use Rattle.std.specs.Str.Parse.{ExplainsUnsignedError, HasUnsignedDigitsIfOk, ParsesUnsigned}
use Rattle.clap.specs.Words.{ReadsOne, Row, Text, found_of, one_of, one_text, rows_of}
use Rattle.clap.proofs.WalkLemmas.{one_text-rows}
use Rattle.program_arguments.specs.Asking.{IsNumber, SpellsU32}
use Rattle.program_arguments.proofs.job.number_of.Goals as goal

-- the number that a text is parsed as
read : (E : Type 0) (G : List ℕ → Result ℕ E → Type 0) (name : Text) (rows : List Row) (digits : Text) (r : Option ℕ)
    → one_of name rows ≡ Some digits
    → ((u : List ℕ) (x : Result ℕ E) → G u x → ParsesUnsigned 32 10 u x) → ReadsOne G digits r → IsNumber name rows r
read E G name rows digits (Some v) is only h =
    let parsed = only digits (Ok v) h in
    (digits, is, (parsed.0.0, parsed.1, subst (λ (n : ℕ). n < 2 ^ 32) (sym parsed.1) parsed.0.1))
read E G name rows digits None is only h = λ other piece given spells.
    let both = rw is at given in
    let same : digits ≡ other = cc in
    let spelled : SpellsU32 digits piece = rw same spells in
    only digits (Err h.0) h.1 (spelled.0, rw (sym spelled.1) spelled.2)

pub returns : goal.returns
returns c = go (one_text (found_of c.args.matches.now) c.args.name.now) refl
  where
    go : (o : Option Text) → one_text (found_of c.args.matches.now) c.args.name.now ≡ o
        → IsNumber c.args.name.now (rows_of (found_of c.args.matches.now)) c.get_one.result
    go None e =
        let none = c.get_one.ensures.none e in
        let is = sym (one_text-rows (found_of c.args.matches.now) c.args.name.now) ∙ e in
        subst (λ (r : Option ℕ). IsNumber c.args.name.now (rows_of (found_of c.args.matches.now)) r) (sym none)
        (λ digits piece given spells. let bad : None ≡ Some digits = rw is at given in cc)
    go (Some t) e =
        let is = sym (one_text-rows (found_of c.args.matches.now) c.args.name.now) ∙ e in
        read _ (λ bs r. ParsesUnsigned 32 10 bs r × ExplainsUnsignedError 10 bs r × HasUnsignedDigitsIfOk bs r)
        c.args.name.now (rows_of (found_of c.args.matches.now)) t c.get_one.result is (λ u x g. g.0)
        (c.get_one.ensures.value t e)
