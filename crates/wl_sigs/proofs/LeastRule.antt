-- The lowest rule that something breaks, and the first line of messages that break rules.
use Rattle.std.proofs.Common.{◌≡◌, ℕ, ◌+◌, ◌≤◌, ◌⊎◌, inl, inr, true, false, cond, List, refl, sym}
use Rattle.std.proofs.Common.{◌∙◌, Some, None, Option, Bool, slice_get, nat_lt, arith}
use Rattle.std.proofs.lemmas.Bool.{ltb-true, ltb-false}
use Rattle.wl_text.specs.Text.{WrittenMessage}
use Rattle.wl_sigs.specs.Broken.{messages_broken}
use Rattle.wl_sigs.specs.Extending.{lesser}
use Rattle.wl_sigs.proofs.FirstLine.{Tested, failing, Ascends, fails_first, some_fails}
use Rattle.wl_sigs.proofs.FirstLine.{IsLeast, InMessages, messages_least, later_not_before}
use Rattle.wl_sigs.proofs.TestedRules.{Says}

-- the rule is broken, and no lower one is
pub record IsLeastRule (P : ℕ → Type 0) (o : Option ℕ) : Type 0 where
  pub found : (rule : ℕ) → o ≡ Some rule → P rule
  pub least : (rule : ℕ) → o ≡ Some rule → (other : ℕ) → P other → rule ≤ other
  pub none : o ≡ None → (rule : ℕ) → P rule → ⊥

-- a rule is found if one is broken
pub some_rule : (P : ℕ → Type 0) (o : Option ℕ) → IsLeastRule P o → (rule : ℕ) → P rule
    → (first : ℕ) × (o ≡ Some first) × (first ≤ rule)
some_rule P None answer rule broken = absurd (answer.none refl rule broken)
some_rule P (Some first) answer rule broken = (first, refl, answer.least first refl rule broken)

-- tests in the order of their rules find the lowest rule that is broken
pub least_tested : (P : ℕ → Type 0) (tests : List Tested) → Ascends 0 tests → Says P tests
    → IsLeastRule P (failing tests)
least_tested P tests up says = record {
  found = λ rule e. says.to rule (fails_first 0 tests up rule e).breaks;
  least = λ rule e other broken. (fails_first 0 tests up rule e).least other (says.from other broken);
  none = λ e rule broken.
      let breaks = says.from rule broken in
      let some = some_fails tests rule breaks.place breaks.at in
      let no : None ≡ Some some.0 = sym e ∙ some.1 in
      cc no;
}

-- the lower of two rules is the lowest of all that are broken
pub least_lesser : (P Q : ℕ → Type 0) (a b : Option ℕ) → IsLeastRule P a → IsLeastRule Q b
    → IsLeastRule (λ rule. P rule ⊎ Q rule) (lesser a b)
least_lesser P Q None b p q = record {
  found = λ rule e. inr (q.found rule e);
  least = λ rule e other some. elim some [
    | inl this ↦ absurd (p.none refl other this)
    | inr that ↦ q.least rule e other that
  ];
  none = λ e rule some. elim some [ inl this ↦ p.none refl rule this | inr that ↦ q.none e rule that ];
}
least_lesser P Q (Some x) None p q = record {
  found = λ rule e. inl (p.found rule e);
  least = λ rule e other some. elim some [
    | inl this ↦ p.least rule e other this
    | inr that ↦ absurd (q.none refl other that)
  ];
  none = λ e rule some. cc e;
}
least_lesser P Q (Some x) (Some y) p q = by_test (nat_lt y x) refl
  where
    by_test : (t : Bool) → nat_lt y x ≡ t → IsLeastRule (λ rule. P rule ⊎ Q rule) (cond t (Some y) (Some x))
    by_test true lt = record {
      found = λ rule e. inr (q.found rule e);
      least = λ rule e other some.
          let same : y ≡ rule = cc e in
          let less = ltb-true y x lt in
          elim some [
            | inl this ↦ let le = p.least x refl other this in omega (arith, same, less, le)
            | inr that ↦ q.least rule e other that
          ];
      none = λ e rule some. cc e;
    }
    by_test false ge = record {
      found = λ rule e. inl (p.found rule e);
      least = λ rule e other some.
          let same : x ≡ rule = cc e in
          let le = ltb-false y x ge in
          elim some [
            | inl this ↦ p.least rule e other this
            | inr that ↦ let le' = q.least y refl other that in omega (arith, same, le, le')
          ];
      none = λ e rule some. cc e;
    }

-- one of these messages breaks the rule, by its opcode
pub record InMessagesBy (Q : ℕ → WrittenMessage → ℕ → Type 0) (n : ℕ) (ms : List WrittenMessage)
    (line rule : ℕ) : Type 0 where
  pub place : ℕ
  pub message : WrittenMessage
  pub at : slice_get ms place ≡ Some message
  pub line_is : line ≡ message.line
  pub breaks : Q (n + place) message rule

pub messages_by : (Q : ℕ → WrittenMessage → ℕ → Type 0) (rule_of : ℕ → WrittenMessage → Option ℕ) (n : ℕ)
    (ms : List WrittenMessage)
    → ((k : ℕ) (m : WrittenMessage) → slice_get ms k ≡ Some m → IsLeastRule (Q (n + k) m) (rule_of (n + k) m))
    → IsLeast (InMessagesBy Q n ms) (messages_broken rule_of n ms)
messages_by Q rule_of n ms each =
    let least = messages_least rule_of n ms in
    record {
      found = λ answer e.
          let here = least.found answer e in
          record {
            place = here.place;
            message = here.message;
            at = here.at;
            line_is = here.line_is;
            breaks = (each here.place here.message here.at).found answer.rule here.breaks;
          };
      below = λ answer e line rule by.
          let some = some_rule (Q (n + by.place) by.message) (rule_of (n + by.place) by.message)
          (each by.place by.message by.at) rule by.breaks in
          later_not_before answer line some.0 rule (least.below answer e line some.0 (within line rule by some.0 some.1)) some.2;
      none = λ e line rule by.
          let some = some_rule (Q (n + by.place) by.message) (rule_of (n + by.place) by.message)
          (each by.place by.message by.at) rule by.breaks in
          least.none e line some.0 (within line rule by some.0 some.1);
    }
  where
    within : (line rule : ℕ) (by : InMessagesBy Q n ms line rule) (first : ℕ)
        → rule_of (n + by.place) by.message ≡ Some first → InMessages rule_of n ms line first
    within line rule by first is = record {
      place = by.place;
      message = by.message;
      at = by.at;
      line_is = by.line_is;
      breaks = is;
    }
