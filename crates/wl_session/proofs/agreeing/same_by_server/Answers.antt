use Rattle.std.proofs.Common.{◌≡◌, subst, inl, inr, refl, arith}
use Rattle.std.proofs.lemmas.Bool.{cases_lt}
use Rattle.wl_object_map.specs.Objects.{look}
use Rattle.wl_session.specs.Room.{AreSameByServer}
use Rattle.wl_session.proofs.agreeing.same_by_server.Goals as goal

pub returns-then-not-are_same_by_server : goal.returns-then-not-are_same_by_server
returns-then-not-are_same_by_server g c =
    let here = c.look.ensures.entry in
    let there = c.look-in-loop-id.ensures.entry in (
      λ t. absurd (cc t),
      λ a. (let same = a c.loop-id.id (omega (arith, c.loop-id.auto.id))
          (omega (arith, c.loop-id-test.true, c.loop-id.auto.id-end)) in
          let yes = c.are_same_by_server.ensures.1 (rw (here, there) same) in
          absurd (cc (yes, c.if-not-are_same_by_server.true))),
    )

pub loop-id-preserved : goal.loop-id-preserved
loop-id-preserved g c = λ q low high. elim (cases_lt q c.loop-id.id) [
  | inl before ↦ c.loop-id.invariant q low before
  | inr from ↦
      (let here = c.look.ensures.entry in
      let there = c.look-in-loop-id.ensures.entry in
      let at : c.loop-id.id ≡ q = omega (arith, high, from) in
      subst (λ i. AreSameByServer (look c.args.client.now i) (look c.args.server.now i)) at
      (rw (here, there) at (c.are_same_by_server.ensures.0 c.if-not-are_same_by_server.false)))
]

pub returns : goal.returns
returns g c = (
  λ t id low high. c.loop-id.invariant id low (omega (arith, high, c.loop-id-test.false, c.loop-id.auto.id-end)),
  λ a. refl,
)
