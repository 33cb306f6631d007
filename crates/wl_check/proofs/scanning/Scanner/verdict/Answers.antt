use Rattle.std.proofs.Common.{inl, inr, sym, ap, ◌∙◌, arith, subst}
use Rattle.std.proofs.Math.Logic.{∥∥₁_elim}
use Rattle.std.specs.Coded.{le_prop}
use Rattle.wl_check.specs.declared.session_state.SessionStatus.{SessionStatus}
use Rattle.wl_check.specs.Session.{IsVerdictOf, session_of}
use Rattle.wl_check.proofs.SessionByMessage.{count_few, few_judged}
use Rattle.wl_check.proofs.SessionByPiece.{answers_so, ends_within, verdict_of}
use Rattle.wl_check.proofs.scanning.Scanner.verdict.Goals as goal

pub broken-requires : goal.broken-requires
broken-requires g c =
    let state = c.args.self.now.state in
    ∥∥₁_elim c.requires le_prop (λ x.
    (let few = few_judged x.1 (session_of x.0 x.2) state x.3.judged in
    let count = count_few x.1 (session_of x.0 x.2) state.count state.progress c.in-Broken.frame.direction x.3.judged.at
    in
    omega (arith, few, count)))

pub lawful-requires-clause-to_server : goal.lawful-requires-clause-to_server
lawful-requires-clause-to_server g c = ∥∥₁_elim c.requires le_prop
    (λ x. (ends_within x.0 x.1 x.2 c.args.self.now x.3).0)

pub lawful-requires-clause-to_client : goal.lawful-requires-clause-to_client
lawful-requires-clause-to_client g c = ∥∥₁_elim c.requires le_prop
    (λ x. (ends_within x.0 x.1 x.2 c.args.self.now x.3).1)

pub returns-in-Broken : goal.returns-in-Broken
returns-in-Broken g c limit tables ps h =
    subst (IsVerdictOf tables (session_of limit ps)) (sym
    (c.broken.ensures ∙ sym (ap (λ (st : SessionStatus). verdict_of st c.args.self.now) c.in-Broken.is)))
    (answers_so limit tables ps c.args.self.now h)

pub returns-in-Open : goal.returns-in-Open
returns-in-Open g c limit tables ps h =
    let so = answers_so limit tables ps c.args.self.now h in
    elim c.in-Open.is [
      | inl is ↦ subst (IsVerdictOf tables (session_of limit ps))
          (sym (c.lawful.ensures ∙ sym (ap (λ (st : SessionStatus). verdict_of st c.args.self.now) is))) so
      | inr is ↦ subst (IsVerdictOf tables (session_of limit ps))
          (sym (c.lawful.ensures ∙ sym (ap (λ (st : SessionStatus). verdict_of st c.args.self.now) is))) so
    ]
