use Rattle.std.proofs.Common.{◌≡◌, ◌+◌, ◌-◌, ℕ, List, Bool, ap, sym, ◌∙◌, inl, inr, arith}
use Rattle.std.specs.Prelude.{not}
use Rattle.std.proofs.lemmas.Bool.{cases_lt}
use Rattle.wl_server.specs.State.{Global, has_name, with_name}
use Rattle.wl_server.proofs.Settled.{name-apart, same-global}
use Rattle.wl_server.proofs.WordByWord.{unmarked}
use Rattle.wl_server.proofs.globals.withdrawn_names.Goals.{then-not-global, else-not-global}
use Rattle.wl_server.proofs.globals.withdrawn_names.Goals as goal

pub places-init : goal.places-init
places-init c = record {
  marked = λ k x l there e. absurd (omega (arith, l));
  rest = λ k l. ap (λ (names : List Bool). has_name names (k + 1)) c.new-withdrawn.ensures ∙ unmarked 4096 (k + 1 - 1);
}

pub places-preserved : goal.places-preserved
places-preserved c =
    let place = c.places.place in
    let names = c.places.withdrawn in
    let global = c.index-globals-place.result in
    elim c.if-not-global.branch [
      | then-not-global w ↦ (
          let now : c.if-not-global.withdrawn ≡ with_name names (place + 1) = w.withdrawn-is ∙ w.set.ensures.set in
          record {
            marked = λ k x l there e. elim (cases_lt k place) [
              | inl less ↦
                  ap (λ (m : List Bool). has_name m (k + 1)) now
                  ∙ (name-apart names (place + 1) (k + 1) (omega arith) (omega arith) (λ f. omega (arith, f, less))
                  ∙ c.places.invariant.marked k x less there e)
              | inr least ↦
                  (let same : k ≡ place = omega (arith, l, least) in
                  ap (λ (n : ℕ). has_name c.if-not-global.withdrawn (n + 1)) same
                  ∙ (ap (λ (m : List Bool). has_name m (place + 1)) w.withdrawn-is ∙ w.set.ensures.marked)
                  ∙ sym (ap (λ (y : Global). not y.present)
                  (same-global c.args.globals.now k place global x same c.places-test.true c.index-globals-place.is e
                  ∙ sym c.global.view_is) ∙ ap not w.if-not-global.true))
            ];
            rest = λ k l. ap (λ (m : List Bool). has_name m (k + 1)) now
                ∙ (name-apart names (place + 1) (k + 1) (omega arith) (omega arith) (λ f. omega (arith, f, l))
                ∙ c.places.invariant.rest k (omega (arith, l)));
          })
      | else-not-global w ↦ record {
        marked = λ k x l there e. elim (cases_lt k place) [
          | inl less ↦
              ap (λ (m : List Bool). has_name m (k + 1)) w.withdrawn-is ∙ c.places.invariant.marked k x less there e
          | inr least ↦
              (let same : k ≡ place = omega (arith, l, least) in
              ap (λ (n : ℕ). has_name c.if-not-global.withdrawn (n + 1)) same
              ∙ (ap (λ (m : List Bool). has_name m (place + 1)) w.withdrawn-is
              ∙ c.places.invariant.rest place (omega arith))
              ∙ sym (ap (λ (y : Global). not y.present)
              (same-global c.args.globals.now k place global x same c.places-test.true c.index-globals-place.is e
              ∙ sym c.global.view_is) ∙ ap not w.if-not-global.false))
        ];
        rest = λ k l. ap (λ (m : List Bool). has_name m (k + 1)) w.withdrawn-is
            ∙ c.places.invariant.rest k (omega (arith, l));
      }
    ]

pub returns : goal.returns
returns c k x l e = c.places.invariant.marked k x (omega (arith, c.places-test.false, l)) l e
