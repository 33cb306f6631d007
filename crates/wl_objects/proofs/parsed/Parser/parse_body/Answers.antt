use Rattle.std.proofs.Common.{◌≡◌, ◌∙◌, ◌+◌, ◌<◌, ℕ, List, [], length, take, drop, get_or, ap, sym, subst}
use Rattle.std.proofs.Common.{arith, rules}
use Rattle.std.specs.Prelude.{set}
use Rattle.std.specs.declared.result.Result.TheVariants.{Err}
use Rattle.std.proofs.lemmas.List.{length-set, length-drop}
use Rattle.wl_wire.specs.declared.kind.Kind.TheVariants.{Int}
use Rattle.wl_wire.specs.Argument.{lent}
use Rattle.wl_objects.specs.Reading.{arguments_at, forgiving, forgiving_kind}
use Rattle.wl_objects.specs.Parsed.{TextLiesBehind, views_of_parsed, views_prepended, views_outcome}
use Rattle.wl_objects.specs.Parsed.{parsed_argument, place_after}
use Rattle.wl_objects.proofs.ValueBytes.{read-lies}
use Rattle.wl_objects.proofs.ParsedLemmas.{rest-is, read-at, number-kept, number-place}
use Rattle.wl_objects.proofs.ParsedLemmas.{after-fd, after-other, after-least, parsed-next, parsed-fault}
use Rattle.wl_objects.proofs.ParsedLemmas.{parsed-end, parsed_whole, parsed_err}
use Rattle.wl_objects.proofs.parsed.Parser.parse_body.Goals.{in-Fd, in_default-value}
use Rattle.wl_objects.proofs.parsed.Parser.parse_body.Goals as goal

pub invariant_of-args : goal.invariant_of-args
invariant_of-args g c = c.kinds.invariant.held

pub invariant_of-args-in_err-args-inside : goal.invariant_of-args-in_err-args-inside
invariant_of-args-in_err-args-inside g c = c.kinds.invariant.held

pub resolve-requires-clause-lies : goal.resolve-requires-clause-lies
resolve-requires-clause-lies g c =
    subst (λ (b : List ℕ). TextLiesBehind b (lent c.in-Ok.found.0)) (rest-is c.kinds.end c.args.self.now.body.now)
    (read-lies c.match-kind.read_as (lent c.in-Ok.found.0) c.in-Ok.found.1 _ c.in-Ok.ensures.found.1)

pub returns-in_err-args-inside-clause-answer : goal.returns-in_err-args-inside-clause-answer
returns-in_err-args-inside-clause-answer g c =
    let r = g.L.Lookup.reader c.args.self.now.lookup.now in
    let q = forgiving c.args.self.now.forgives r in
    let body = c.args.self.now.body.now in
    let list = c.args.kinds.now in
    let kind = get_or list c.kinds.place Int in
    let same : c.match-kind.read_as ≡ forgiving_kind c.args.self.now.forgives kind = search rules in
    let fault = c.in_err-args-inside.field-0.0 in
    let result-is : c.from_residual.result ≡ Err fault = search rules in
    rw result-is (parsed_err r fault (arguments_at q 0 list body)
    (parsed-fault r q c.kinds.place c.kinds.end c.in-Ok.found.1 c.kinds.descriptors r.birth list Int body
    c.kinds.args-inside.items (lent c.in-Ok.found.0) fault c.kinds-test.true
    (read-at (forgiving_kind c.args.self.now.forgives kind) c.match-kind.read_as c.kinds.end body _ same
    c.in-Ok.ensures.computes) c.in_err-args-inside.ensures ∙ c.kinds.invariant.made))

pub kinds-preserved-in-Some : goal.kinds-preserved-in-Some
kinds-preserved-in-Some g c =
    let r = g.L.Lookup.reader c.args.self.now.lookup.now in
    let q = forgiving c.args.self.now.forgives r in
    let body = c.args.self.now.body.now in
    let list = c.args.kinds.now in
    let i = c.kinds.place in
    let kind = get_or list i Int in
    let items = c.kinds.args-inside.items in
    let number = c.in-Some.number in
    let end = c.kinds.end + c.in-Some.len in
    let same : kind ≡ forgiving_kind c.args.self.now.forgives kind =
    sym (c.in-Some.ensures.kind c.args.self.now.forgives) in
    let room : i < length items = omega (arith, c.kinds.invariant.room, c.kinds-test.true, c.requires.few) in
    record {
      made = ap (λ (d : ℕ). views_prepended (views_of_parsed body r.birth (take (i + 1) (set items i number)))
          (views_outcome r d (arguments_at q (i + 1) (drop (i + 1) list) (drop end body))))
          (sym (number-place number c.kinds.descriptors c.in-Some.ensures.number))
          ∙ parsed-next r q i c.kinds.end c.in-Some.len c.kinds.descriptors r.birth list Int body items number
          (parsed_argument [] number) c.kinds-test.true room
          (read-at (forgiving_kind c.args.self.now.forgives kind) kind c.kinds.end body _ same
          (sym c.in-Some.ensures.read))
          (number-kept r q c.kinds.descriptors i r.birth body kind number c.in-Some.ensures.number)
          ∙ c.kinds.invariant.made;
      within = omega (
        arith,
        c.in-Some.ensures.within,
        ap length (rest-is c.kinds.end body),
        length-drop c.kinds.end body,
        c.kinds.invariant.within,
      );
      room = length-set items i number ∙ c.kinds.invariant.room;
      few = omega (arith, c.kinds.invariant.few);
      held = c.kinds.invariant.held;
    }

pub kinds-preserved : goal.kinds-preserved
kinds-preserved g c =
    let r = g.L.Lookup.reader c.args.self.now.lookup.now in
    let q = forgiving c.args.self.now.forgives r in
    let body = c.args.self.now.body.now in
    let list = c.args.kinds.now in
    let i = c.kinds.place in
    let kind = get_or list i Int in
    let items = c.kinds.args-inside.items in
    let same : c.match-kind.read_as ≡ forgiving_kind c.args.self.now.forgives kind = search rules in
    let after : c.match-value.descriptors ≡ place_after (lent c.in-Ok.found.0) c.kinds.descriptors =
    elim c.match-value.branch [
      | in-Fd w ↦ w.descriptors-is ∙ after-fd c.in-Ok.found.0 c.kinds.descriptors w.in-Fd.is
      | in_default-value w ↦ w.descriptors-is
          ∙ after-other c.in-Ok.found.0 c.kinds.descriptors w.in_default-value.not-Fd
    ] in
    let room : i < length items = omega (arith, c.kinds.invariant.room, c.kinds-test.true, c.requires.few) in
    record {
      made = rw after (parsed-next r q i c.kinds.end c.in-Ok.found.1 c.kinds.descriptors r.birth list Int body items
          c.in_ok-args-inside.field-0 (lent c.in-Ok.found.0) c.kinds-test.true room
          (read-at (forgiving_kind c.args.self.now.forgives kind) c.match-kind.read_as c.kinds.end body _ same
          c.in-Ok.ensures.computes) c.in_ok-args-inside.ensures ∙ c.kinds.invariant.made);
      within = omega (
        arith,
        c.in-Ok.ensures.found.0,
        ap length (rest-is c.kinds.end body),
        length-drop c.kinds.end body,
        c.kinds.invariant.within,
      );
      room = length-set items i c.in_ok-args-inside.field-0 ∙ c.kinds.invariant.room;
      few = rw after (after-least (lent c.in-Ok.found.0) c.kinds.descriptors i c.kinds.invariant.few);
      held = c.kinds.invariant.held;
    }

pub returns-clause-answer : goal.returns-clause-answer
returns-clause-answer g c =
    let r = g.L.Lookup.reader c.args.self.now.lookup.now in
    let at : c.kinds.place ≡ length c.args.kinds.now = omega (arith, c.kinds.auto.place-end, c.kinds-test.false) in
    (parsed_whole r (forgiving c.args.self.now.forgives r) c.args.kinds.now c.args.self.now.body.now _
    (take (length c.args.kinds.now) c.kinds.args-inside.items)
    (parsed-end r (forgiving c.args.self.now.forgives r) c.kinds.place c.kinds.end c.kinds.descriptors r.birth
    c.args.kinds.now c.args.self.now.body.now c.kinds.args-inside.items _ at c.kinds.invariant.made)).0

pub returns-clause-args : goal.returns-clause-args
returns-clause-args g c =
    let r = g.L.Lookup.reader c.args.self.now.lookup.now in
    let at : c.kinds.place ≡ length c.args.kinds.now = omega (arith, c.kinds.auto.place-end, c.kinds-test.false) in
    (parsed_whole r (forgiving c.args.self.now.forgives r) c.args.kinds.now c.args.self.now.body.now _
    (take (length c.args.kinds.now) c.kinds.args-inside.items)
    (parsed-end r (forgiving c.args.self.now.forgives r) c.kinds.place c.kinds.end c.kinds.descriptors r.birth
    c.args.kinds.now c.args.self.now.body.now c.kinds.args-inside.items _ at c.kinds.invariant.made)).1
