use Rattle.std.proofs.Common.{◌≡◌, ◌≢◌, ℕ, false, true, refl, sym, subst, ap, ◌∙◌, inl, arith, rules}
use Rattle.std.specs.Prelude.{IfSome, Option, Some, is_some}
use Rattle.std.proofs.Common.{Ok, Err}
use Rattle.std.specs.declared.result.Result.{Result}
use Rattle.std.proofs.lemmas.Result.{err_from_is_err_and}
use Rattle.wl_wire.specs.declared.kind.Iface.{Iface}
use Rattle.wl_sigs.specs.Destroys.{Destroys}
use Rattle.wl_sigs.specs.Tables.{MessageSignature, destroys_one, makes}
use Rattle.wl_sigs.specs.Valid.{Valid}
use Rattle.wl_objects.specs.declared.error.SendError.{SendError}
use Rattle.wl_objects.specs.declared.error.SendError.TheVariants as refusals
use Rattle.wl_object_map.specs.declared.object.Maker.{Maker}
use Rattle.wl_object_map.specs.declared.object.Object.{Object}
use Rattle.wl_object_map.specs.Objects.{is_live, look, next_id, opened_at}
use Rattle.wl_objects.specs.Messages.{checked, opens, ended_id, maker_by}
use Rattle.wl_objects.specs.Writing.{id_of, on_wire, tokens_of, given}
use Rattle.wl_connection.specs.Core.{Core, HasDisplay, with_view}
use Rattle.wl_connection.specs.Outcomes.{AnswersOrMemory, some_object}
use Rattle.wl_connection.specs.Sending.{fits, following_len, next_object, opening_answer, with_sent}
use Rattle.wl_connection.proofs.Messages.{fits-less}
use Rattle.wl_connection.proofs.Openings.{event_sent}
use Rattle.wl_connection.proofs.CheckedSends.{answered, ended-known, fits-known, send-answered, send-leaves}
use Rattle.wl_connection.proofs.CheckedSends.{fits-behind, ended-other, ended-live, written-known}
use Rattle.wl_connection.proofs.shared.Core.send.Goals as goal
use Rattle.wl_connection.proofs.shared.Core.send.Goals.{in-Some+in_ok-open_next-in-Some, in-None}

pub returns-in_err-open_next-in-Some-clause-answer : goal.returns-in_err-open_next-in-Some-clause-answer
returns-in_err-open_next-in-Some-clause-answer g c =
    let core = c.args.self.now in
    let side = c.args.side in
    let call = c.in_ok-call.call in
    let list = c.args.args.now in
    let passes : checked core.outbox.limit.bytes core.tables side core.view c.args.target c.args.opcode (given list)
    ≡ Ok call.signature.now = search rules in
    let entry : look core.view c.args.target.id ≡ Some call.entry = search rules in
    let alive : core.failed ≡ false = search rules in
    let follows : c.match-side.following ≡ following_len side c.signature.inside.destroys = search rules in
    let fit = fits-known core.outbox list call.len c.match-side.following
    (following_len side call.signature.now.destroys) call.tokens true (c.in_ok-call.ensures.len 0)
    (follows ∙ ap (following_len side) (ap (λ (m : MessageSignature). m.destroys) c.signature.view_is)) c.in_ok-call.ensures.tokens c.if-not-fits.ensures in
    let why = c.in_err-open_next-in-Some.field-0.0 in
    let p = err_from_is_err_and c.from_residual-in_err-open_next-in-Some.result c.from_residual-in_err-open_next-in-Some.ensures.1 in
    rw (p.1, p.2)
    (send-answered core side c.args.target c.args.opcode (given list) call.signature.now (Err why) alive passes
    (answered core side c.args.target c.args.opcode list call.signature.now call.entry (Err why) passes
    entry (sym fit)
    (subst (λ (i : Option Iface). AnswersOrMemory refusals.Memory (is_some i)
    (opening_answer core (maker_by side) (next_object (maker_by side) core.view call.entry.version i)) (Err why))
    (sym c.in-Some.is ∙ c.in_ok-call.ensures.makes)
    (subst (λ (k : Maker). AnswersOrMemory refusals.Memory true
    (opening_answer core k (next_object k core.view call.entry.version (Some c.in-Some.iface))) (Err why))
    c.maker_by.ensures c.in_err-open_next-in-Some.ensures.answer))))

pub write_call-requires-clause-fits : goal.write_call-requires-clause-fits
write_call-requires-clause-fits g c =
    let fit = c.in_ok-call.ensures.fits c.map_or.result in
    record {
      opcode = omega (arith, c.ranges.opcode);
      fits = fit.0;
      len = c.in_ok-call.ensures.len c.map_or.result;
      short = omega (arith, fit.1, c.in_ok-call.ensures.len c.map_or.result, c.args.self.now.outbox.limit.in_range.1);
    }

pub write_call-requires-clause-room : goal.write_call-requires-clause-room
write_call-requires-clause-room g c =
    let core = c.args.self.now in
    let side = c.args.side in
    let call = c.in_ok-call.call in
    let opened : c.match-call.self
    ≡ with_view core (opens core.view (next_object (maker_by side) core.view call.entry.version call.makes)) =
    elim c.match-call.branch [
      | in-Some+in_ok-open_next-in-Some w ↦ w.self-is ∙ (w.in_ok-open_next-in-Some.ensures.ok
          ∙ (ap (λ (k : Maker). with_view core (opened_at core.view (next_id k core.view) w.in-Some.iface call.entry.version))
          w.maker_by.ensures
          ∙ ap (λ (o : Option Iface). with_view core
          (opens core.view (next_object (maker_by side) core.view call.entry.version o))) (sym w.in-Some.is)))
      | in-None w ↦ w.self-is ∙ ap (λ (o : Option Iface). with_view core
          (opens core.view (next_object (maker_by side) core.view call.entry.version o))) (sym w.in-None.is)
    ] in
    subst (λ (k : Core). fits k.outbox call.len call.tokens ≡ true) (sym opened)
    (fits-less core.outbox call.len c.match-side.following call.tokens (sym c.if-not-fits.ensures))

pub end_object-requires-clause-live : goal.end_object-requires-clause-live
end_object-requires-clause-live g c =
    let core = c.args.self.now in
    let side = c.args.side in
    let call = c.in_ok-call.call in
    let list = c.args.args.now in
    let passes : checked core.outbox.limit.bytes core.tables side core.view c.args.target c.args.opcode (given list)
    ≡ Ok call.signature.now = search rules in
    let valid : Valid core.tables = search rules in
    let opened : c.match-call.self
    ≡ with_view core (opens core.view (next_object (maker_by side) core.view call.entry.version call.makes)) =
    elim c.match-call.branch [
      | in-Some+in_ok-open_next-in-Some w ↦ w.self-is ∙ (w.in_ok-open_next-in-Some.ensures.ok
          ∙ (ap (λ (k : Maker). with_view core (opened_at core.view (next_id k core.view) w.in-Some.iface call.entry.version))
          w.maker_by.ensures
          ∙ ap (λ (o : Option Iface). with_view core
          (opens core.view (next_object (maker_by side) core.view call.entry.version o))) (sym w.in-Some.is)))
      | in-None w ↦ w.self-is ∙ ap (λ (o : Option Iface). with_view core
          (opens core.view (next_object (maker_by side) core.view call.entry.version o))) (sym w.in-None.is)
    ] in
    let id = ended_id c.signature.inside.destroys c.args.target.id (on_wire 0 list) in
    let same : id ≡ ended_id call.signature.now.destroys c.args.target.id (on_wire 0 list) =
    ap (λ (what : Destroys). ended_id what c.args.target.id (on_wire 0 list)) (ap (λ (m : MessageSignature). m.destroys) c.signature.view_is) in
    ap (λ (k : Core). is_live k.view id) c.write_call.ensures
    ∙ (ap (λ (k : Core). is_live k.view id) opened
    ∙ (ap (is_live (opens core.view (next_object (maker_by side) core.view call.entry.version call.makes))) same
    ∙ ended-live core side c.args.target c.args.opcode list call.signature.now call.makes call.entry.version
    valid passes))

pub end_object-requires-clause-other : goal.end_object-requires-clause-other
end_object-requires-clause-other g c =
    let core = c.args.self.now in
    let side = c.args.side in
    let call = c.in_ok-call.call in
    let list = c.args.args.now in
    let passes : checked core.outbox.limit.bytes core.tables side core.view c.args.target c.args.opcode (given list)
    ≡ Ok call.signature.now = search rules in
    let valid : Valid core.tables = search rules in
    let display : HasDisplay core.view = search rules in
    let same : ended_id c.signature.inside.destroys c.args.target.id (on_wire 0 list)
    ≡ ended_id call.signature.now.destroys c.args.target.id (on_wire 0 list) =
    ap (λ (what : Destroys). ended_id what c.args.target.id (on_wire 0 list)) (ap (λ (m : MessageSignature). m.destroys) c.signature.view_is) in
    λ one. subst (λ (n : ℕ). n ≢ 1) (sym same) (ended-other core side c.args.target c.args.opcode
    list call.signature.now valid display passes
    (ap destroys_one (sym (ap (λ (m : MessageSignature). m.destroys) c.signature.view_is)) ∙ one))

pub end_object-requires-clause-room : goal.end_object-requires-clause-room
end_object-requires-clause-room g c =
    let core = c.args.self.now in
    let side = c.args.side in
    let call = c.in_ok-call.call in
    let list = c.args.args.now in
    let opened : c.match-call.self
    ≡ with_view core (opens core.view (next_object (maker_by side) core.view call.entry.version call.makes)) =
    elim c.match-call.branch [
      | in-Some+in_ok-open_next-in-Some w ↦ w.self-is ∙ (w.in_ok-open_next-in-Some.ensures.ok
          ∙ (ap (λ (k : Maker). with_view core (opened_at core.view (next_id k core.view) w.in-Some.iface call.entry.version))
          w.maker_by.ensures
          ∙ ap (λ (o : Option Iface). with_view core
          (opens core.view (next_object (maker_by side) core.view call.entry.version o))) (sym w.in-Some.is)))
      | in-None w ↦ w.self-is ∙ ap (λ (o : Option Iface). with_view core
          (opens core.view (next_object (maker_by side) core.view call.entry.version o))) (sym w.in-None.is)
    ] in
    let follows : c.match-side.following ≡ following_len side c.signature.inside.destroys = search rules in
    let fit = fits-known core.outbox list call.len c.match-side.following
    (following_len side call.signature.now.destroys) call.tokens true (c.in_ok-call.ensures.len 0)
    (follows ∙ ap (following_len side) (ap (λ (m : MessageSignature). m.destroys) c.signature.view_is)) c.in_ok-call.ensures.tokens c.if-not-fits.ensures in
    let view = opens core.view (next_object (maker_by side) core.view call.entry.version call.makes) in
    subst (λ (what : Destroys). fits c.write_call.new.self.outbox (following_len side what) 0 ≡ true)
    (sym (ap (λ (m : MessageSignature). m.destroys) c.signature.view_is))
    (fits-behind core c.write_call.new.self view list c.args.target.id c.args.opcode c.map_or.result
    (following_len side call.signature.now.destroys) (tokens_of (given list)) (sym fit)
    (c.write_call.ensures ∙ ap (λ (k : Core). with_sent k c.args.target.id c.args.opcode
    (on_wire c.map_or.result list) (tokens_of (given list))) opened))

pub returns-clause-answer : goal.returns-clause-answer
returns-clause-answer g c =
    let core = c.args.self.now in
    let side = c.args.side in
    let call = c.in_ok-call.call in
    let list = c.args.args.now in
    let passes : checked core.outbox.limit.bytes core.tables side core.view c.args.target c.args.opcode (given list)
    ≡ Ok call.signature.now = search rules in
    let entry : look core.view c.args.target.id ≡ Some call.entry = search rules in
    let alive : core.failed ≡ false = search rules in
    let new = c.match-call.new in
    let follows : c.match-side.following ≡ following_len side c.signature.inside.destroys = search rules in
    let fit = fits-known core.outbox list call.len c.match-side.following
    (following_len side call.signature.now.destroys) call.tokens true (c.in_ok-call.ensures.len 0)
    (follows ∙ ap (following_len side) (ap (λ (m : MessageSignature). m.destroys) c.signature.view_is)) c.in_ok-call.ensures.tokens c.if-not-fits.ensures in
    let opening : AnswersOrMemory refusals.Memory (is_some call.makes)
    (opening_answer core (maker_by side) (next_object (maker_by side) core.view call.entry.version call.makes))
    (Ok new) = elim c.match-call.branch [
      | in-Some+in_ok-open_next-in-Some w ↦ (
          let same : some_object w.open_next.result ≡ Ok new = ap some_object w.in_ok-open_next-in-Some.was
          ∙ ap (λ (n : Option Object). let r : Result (Option Object) SendError = Ok n in r) (sym w.new-is) in
          subst (λ (i : Option Iface). AnswersOrMemory refusals.Memory (is_some i)
          (opening_answer core (maker_by side) (next_object (maker_by side) core.view call.entry.version i)) (Ok new))
          (sym w.in-Some.is)
          (subst (λ (r : Result (Option Object) SendError). AnswersOrMemory refusals.Memory true
          (opening_answer core (maker_by side)
          (next_object (maker_by side) core.view call.entry.version (Some w.in-Some.iface))) r) same
          (subst (λ (k : Maker). AnswersOrMemory refusals.Memory true
          (opening_answer core k (next_object k core.view call.entry.version (Some w.in-Some.iface)))
          (some_object w.open_next.result)) w.maker_by.ensures w.open_next.ensures.answer)))
      | in-None w ↦ (
          subst (λ (i : Option Iface). AnswersOrMemory refusals.Memory (is_some i)
          (opening_answer core (maker_by side) (next_object (maker_by side) core.view call.entry.version i)) (Ok new))
          (sym w.in-None.is)
          (inl (ap (λ (n : Option Object). let r : Result (Option Object) SendError = Ok n in r) w.new-is)))
    ] in
    send-answered core side c.args.target c.args.opcode (given list) call.signature.now (Ok new) alive passes
    (answered core side c.args.target c.args.opcode list call.signature.now call.entry (Ok new) passes
    entry (sym fit)
    (subst (λ (i : Option Iface). AnswersOrMemory refusals.Memory (is_some i)
    (opening_answer core (maker_by side) (next_object (maker_by side) core.view call.entry.version i)) (Ok new))
    c.in_ok-call.ensures.makes opening))

pub returns-clause-ok : goal.returns-clause-ok
returns-clause-ok g c =
    let core = c.args.self.now in
    let side = c.args.side in
    let call = c.in_ok-call.call in
    let list = c.args.args.now in
    let passes : checked core.outbox.limit.bytes core.tables side core.view c.args.target c.args.opcode (given list)
    ≡ Ok call.signature.now = search rules in
    let entry : look core.view c.args.target.id ≡ Some call.entry = search rules in
    let new = c.match-call.new in
    let opened : c.match-call.self
    ≡ with_view core (opens core.view (next_object (maker_by side) core.view call.entry.version call.makes)) =
    elim c.match-call.branch [
      | in-Some+in_ok-open_next-in-Some w ↦ w.self-is ∙ (w.in_ok-open_next-in-Some.ensures.ok
          ∙ (ap (λ (k : Maker). with_view core (opened_at core.view (next_id k core.view) w.in-Some.iface call.entry.version))
          w.maker_by.ensures
          ∙ ap (λ (o : Option Iface). with_view core
          (opens core.view (next_object (maker_by side) core.view call.entry.version o))) (sym w.in-Some.is)))
      | in-None w ↦ w.self-is ∙ ap (λ (o : Option Iface). with_view core
          (opens core.view (next_object (maker_by side) core.view call.entry.version o))) (sym w.in-None.is)
    ] in
    let at_next : IfSome call.makes (λ _. id_of new ≡ next_id (maker_by side) core.view) =
    elim c.match-call.branch [
      | in-Some+in_ok-open_next-in-Some w ↦ subst (λ (i : Option Iface). IfSome i
          (λ _. id_of new ≡ next_id (maker_by side) core.view)) (sym w.in-Some.is)
          (ap id_of w.new-is ∙ (w.in_ok-open_next-in-Some.ensures.id
          ∙ ap (λ (k : Maker). next_id k core.view) w.maker_by.ensures))
      | in-None w ↦ subst (λ (i : Option Iface). IfSome i
          (λ _. id_of new ≡ next_id (maker_by side) core.view)) (sym w.in-None.is) tt
    ] in
    let id : c.map_or.result ≡ id_of new = search rules in
    let w = written-known core c.match-call.self c.write_call.new.self side c.args.target c.args.opcode list
    call.signature.now call.entry new call.makes (tokens_of (given list)) passes entry
    c.in_ok-call.ensures.makes opened at_next
    (c.write_call.ensures ∙ ap (λ (n : ℕ). with_sent c.match-call.self c.args.target.id c.args.opcode
    (on_wire n list) (tokens_of (given list))) id) refl in
    send-leaves core c.end_object.new.self side c.args.target c.args.opcode (given list) call.signature.now passes
    (ended-known core c.write_call.new.self c.end_object.new.self side c.args.target c.args.opcode list
    call.signature.now c.signature.inside.destroys (ended_id c.signature.inside.destroys c.args.target.id (on_wire 0 list)) w
    c.end_object.ensures (ap (λ (m : MessageSignature). m.destroys) c.signature.view_is) refl)

pub returns-then-not-fits-clause-err : goal.returns-then-not-fits-clause-err
returns-then-not-fits-clause-err g c = search rules

pub returns-in_err-open_next-in-Some-clause-event : goal.returns-in_err-open_next-in-Some-clause-event
returns-in_err-open_next-in-Some-clause-event g c side none =
    let valid : Valid c.args.self.now.tables = search rules in
    event_sent c.args.self.now c.args.side c.args.target c.args.opcode (given c.args.args.now) _ side none valid
    (returns-in_err-open_next-in-Some-clause-answer g c)

pub returns-clause-event : goal.returns-clause-event
returns-clause-event g c side none =
    let valid : Valid c.args.self.now.tables = search rules in
    event_sent c.args.self.now c.args.side c.args.target c.args.opcode (given c.args.args.now) _ side none valid
    (returns-clause-answer g c)
