use Rattle.std.proofs.Common.{◌≡◌, ◌++◌, refl, sym, ap, ◌∙◌}
use Rattle.std.specs.declared.result.Result.TheVariants.{Ok}
use Rattle.wl_objects.specs.declared.error.Fault.TheVariants.{BadBind}
use Rattle.wl_objects.specs.Seen.{received_of, received_in}
use Rattle.wl_trace_line.specs.Line.{line}
use Rattle.wl_check.specs.Rules.{called, reader_by}
use Rattle.wl_check.specs.Trace.{wanted}
use Rattle.wl_check.specs.Seen.{call_of, known_in}
use Rattle.wl_check.proofs.JudgedMessages.{judged_is, called_bad, called_good}
use Rattle.wl_check.proofs.Outcomes.{no_changes, no_line, own_changes, own_line}
use Rattle.wl_check.proofs.judging.judge_message.Goals as goal

pub returns-in-Err-clause-changes : goal.returns-in-Err-clause-changes
returns-in-Err-clause-changes g c =
    let found = judged_is c.args.tables.now (known_in c.args.known.now) c.args.frame.now c.args.whole.now.header
    c.args.whole.now.body.now
    c.count-waiting.result c.saturating_sub.result _ _ c.requires.valid c.count-waiting.ensures
    (c.saturating_sub.ensures ∙ rw c.taken-taken.ensures refl)
    c.side_of-side.ensures c.receive-received.ensures.answer in
    let is = sym (found ∙ rw c.in-Err.is refl) in
    no_changes c.args.tables.now _ c.in-Err.fault is

pub returns-in-Err-clause-text : goal.returns-in-Err-clause-text
returns-in-Err-clause-text g c =
    let found = judged_is c.args.tables.now (known_in c.args.known.now) c.args.frame.now c.args.whole.now.header
    c.args.whole.now.body.now
    c.count-waiting.result c.saturating_sub.result _ _ c.requires.valid c.count-waiting.ensures
    (c.saturating_sub.ensures ∙ rw c.taken-taken.ensures refl)
    c.side_of-side.ensures c.receive-received.ensures.answer in
    let is = sym (found ∙ rw c.in-Err.is refl) in
    no_line c.args.tables.now (known_in c.args.known.now) c.args.sink.now.output c.args.sink.now.text.items _
    c.in-Err.fault is

pub returns-then-is_disallowed_bind-clause-changes : goal.returns-then-is_disallowed_bind-clause-changes
returns-then-is_disallowed_bind-clause-changes g c =
    let found = judged_is c.args.tables.now (known_in c.args.known.now) c.args.frame.now c.args.whole.now.header
    c.args.whole.now.body.now
    c.count-waiting.result c.saturating_sub.result _ _ c.requires.valid c.count-waiting.ensures
    (c.saturating_sub.ensures ∙ rw c.taken-taken.ensures refl)
    c.side_of-side.ensures c.receive-received.ensures.answer in
    let message : received_in c.receive-received.result ≡ Ok (received_of c.in-Ok.message) = rw c.in-Ok.is refl in
    let is = sym (found ∙ ap (λ r. called c.args.tables.now
    (known_in c.args.known.now) c.args.frame.now.direction c.args.whole.now.header.opcode r) message
    ∙ called_bad c.args.tables.now (known_in c.args.known.now) c.args.frame.now.direction c.args.whole.now.header.opcode
    (received_of c.in-Ok.message) (rw (← c.side_of-side.ensures) (sym c.is_disallowed_bind.ensures ∙ c.if-is_disallowed_bind.true)))
    in
    no_changes c.args.tables.now _ BadBind is

pub returns-then-is_disallowed_bind-clause-text : goal.returns-then-is_disallowed_bind-clause-text
returns-then-is_disallowed_bind-clause-text g c =
    let found = judged_is c.args.tables.now (known_in c.args.known.now) c.args.frame.now c.args.whole.now.header
    c.args.whole.now.body.now
    c.count-waiting.result c.saturating_sub.result _ _ c.requires.valid c.count-waiting.ensures
    (c.saturating_sub.ensures ∙ rw c.taken-taken.ensures refl)
    c.side_of-side.ensures c.receive-received.ensures.answer in
    let message : received_in c.receive-received.result ≡ Ok (received_of c.in-Ok.message) = rw c.in-Ok.is refl in
    let is = sym (found ∙ ap (λ r. called c.args.tables.now
    (known_in c.args.known.now) c.args.frame.now.direction c.args.whole.now.header.opcode r) message
    ∙ called_bad c.args.tables.now (known_in c.args.known.now) c.args.frame.now.direction c.args.whole.now.header.opcode
    (received_of c.in-Ok.message) (rw (← c.side_of-side.ensures) (sym c.is_disallowed_bind.ensures ∙ c.if-is_disallowed_bind.true)))
    in
    no_line c.args.tables.now (known_in c.args.known.now) c.args.sink.now.output c.args.sink.now.text.items _ BadBind is

pub returns-clause-changes : goal.returns-clause-changes
returns-clause-changes g c =
    let found = judged_is c.args.tables.now (known_in c.args.known.now) c.args.frame.now c.args.whole.now.header
    c.args.whole.now.body.now
    c.count-waiting.result c.saturating_sub.result _ _ c.requires.valid c.count-waiting.ensures
    (c.saturating_sub.ensures ∙ rw c.taken-taken.ensures refl)
    c.side_of-side.ensures c.receive-received.ensures.answer in
    let message : received_in c.receive-received.result ≡ Ok (received_of c.in-Ok.message) = rw c.in-Ok.is refl in
    let is = sym (found ∙ ap (λ r. called c.args.tables.now
    (known_in c.args.known.now) c.args.frame.now.direction c.args.whole.now.header.opcode r) message
    ∙ called_good c.args.tables.now (known_in c.args.known.now) c.args.frame.now.direction
    c.args.whole.now.header.opcode
    (received_of c.in-Ok.message) (rw (← c.side_of-side.ensures) (sym c.is_disallowed_bind.ensures ∙ c.if-is_disallowed_bind.false)))
    in
    own_changes c.args.tables.now _ (call_of c.args.frame.now.direction c.args.whole.now.header.opcode c.in-Ok.message)
    c.changes_of-changes.result c.changes_of-changes.ensures is

pub returns-clause-text : goal.returns-clause-text
returns-clause-text g c =
    let found = judged_is c.args.tables.now (known_in c.args.known.now) c.args.frame.now c.args.whole.now.header
    c.args.whole.now.body.now
    c.count-waiting.result c.saturating_sub.result _ _ c.requires.valid c.count-waiting.ensures
    (c.saturating_sub.ensures ∙ rw c.taken-taken.ensures refl)
    c.side_of-side.ensures c.receive-received.ensures.answer in
    let message : received_in c.receive-received.result ≡ Ok (received_of c.in-Ok.message) = rw c.in-Ok.is refl in
    let is = sym (found ∙ ap (λ r. called c.args.tables.now
    (known_in c.args.known.now) c.args.frame.now.direction c.args.whole.now.header.opcode r) message
    ∙ called_good c.args.tables.now (known_in c.args.known.now) c.args.frame.now.direction
    c.args.whole.now.header.opcode
    (received_of c.in-Ok.message) (rw (← c.side_of-side.ensures) (sym c.is_disallowed_bind.ensures ∙ c.if-is_disallowed_bind.false)))
    in
    own_line c.args.tables.now (known_in c.args.known.now) c.args.sink.now.output c.args.sink.now.text.items
    c.write.new.sink.text.items _
    (call_of c.args.frame.now.direction c.args.whole.now.header.opcode c.in-Ok.message) (c.in_ok-write.ensures.text
    ∙ (λ i. c.args.sink.now.text.items ++ wanted c.args.sink.now.output (line c.args.tables.now
    (c.side_of-side.ensures i) (reader_by c.args.tables.now (known_in c.args.known.now)
    c.args.frame.now.direction).object
    (received_of c.in-Ok.message) (c.taken-taken.ensures i)))) is
