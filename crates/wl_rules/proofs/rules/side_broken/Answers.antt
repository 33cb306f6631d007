use Rattle.std.proofs.Common.{◌≡◌, length, map, take, sym, ap, ◌∙◌, arith, Some}
use Rattle.std.specs.Prelude.{option_map, ◌&&◌}
use Rattle.std.proofs.lemmas.Option.{slice_get-get_or}
use Rattle.std.proofs.Math.Seq.{take-length}
use Rattle.wl_text.specs.Text.{WrittenMessage}
use Rattle.wl_rules.specs.declared.side.Side.{Side}
use Rattle.wl_rules.specs.Joined.{first_place}
use Rattle.wl_rules.specs.Rules.{is_name}
use Rattle.wl_rules.specs.Broken.{is_first, message_rule, messages_broken}
use Rattle.wl_rules.specs.Places.{place_in}
use Rattle.wl_rules.proofs.FirstBrokenLine.{messages_broken-next}
use Rattle.wl_rules.proofs.rules.side_broken.Goals as goal

pub loop-opcode-preserved : goal.loop-opcode-preserved
loop-opcode-preserved g c =
    let first = first_place (map (λ m. m.name) c.args.messages.now) in
    let rule = message_rule (place_in c.args.places.now) c.args.ended.now c.args.interface.now c.args.side first in
    let next = messages_broken-next rule c.args.messages.now c.loop-opcode.opcode c.index-messages-opcode.result
    c.loop-opcode-test.true c.index-messages-opcode.is in
    let line : c.message.inside.line ≡ c.index-messages-opcode.result.line =
    ap (λ (m : WrittenMessage). m.line) c.message.view_is in
    let name : c.message.inside.name.now ≡ c.index-messages-opcode.result.name =
    ap (λ (m : WrittenMessage). m.name) c.message.view_is in
    let place = place_in c.args.places.now in
    let owner = c.owner_of-owner.ensures in
    let here = c.message_rule-rule.ensures c.args.interface.now first owner.1
    (c.is_first_message-is_named.ensures ∙ ap (λ n. is_name n && is_first first n c.loop-opcode.opcode) name)
    ∙ ap (λ (s : Side). message_rule place c.args.ended.now c.args.interface.now s first c.loop-opcode.opcode
    c.index-messages-opcode.result) owner.0 in
    c.earlier-first.ensures ∙ rw (c.loop-opcode.invariant, c.broken_at.ensures, here, line) (sym next)

pub returns : goal.returns
returns g c =
    let messages = c.args.messages.now in
    let rule = message_rule (place_in c.args.places.now) c.args.ended.now c.args.interface.now c.args.side
    (first_place (map (λ m. m.name) messages)) in
    let all : c.loop-opcode.opcode ≡ length messages = omega arith in
    let whole : take c.loop-opcode.opcode messages ≡ messages = rw all (take-length messages) in
    c.loop-opcode.invariant ∙ ap (messages_broken rule 0) whole

pub is_first_message-is_named-requires-clause-stands : goal.is_first_message-is_named-requires-clause-stands
is_first_message-is_named-requires-clause-stands g c =
    let at = slice_get-get_or c.args.messages.now c.loop-opcode.opcode c.index-messages-opcode.result
    c.loop-opcode-test.true in
    let name : c.index-messages-opcode.result.name ≡ c.message.inside.name.now =
    sym (ap (λ (m : WrittenMessage). m.name) c.message.view_is) in
    ap (option_map (λ (m : WrittenMessage). m.name)) (at ∙ ap Some (sym c.index-messages-opcode.is)) ∙ ap Some name
