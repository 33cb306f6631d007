use Rattle.std.proofs.Common.{◌≡◌, ℕ, ◌+◌, List, Option, length, map, refl, sym, ap, ◌∙◌}
use Rattle.std.specs.Prelude.{◌&&◌}
use Rattle.std.proofs.Math.Path.{fun_ext, ap₂}
use Rattle.wl_text.specs.Text.{WrittenMessage}
use Rattle.wl_sigs.specs.Side.{Side}
use Rattle.wl_sigs.specs.Joined.{first_place}
use Rattle.wl_sigs.specs.Rules.{is_name}
use Rattle.wl_sigs.specs.Broken.{Broken, earlier, broken_at, is_first, message_rule}
use Rattle.wl_sigs.specs.Extending.{added_rule, behind_own_messages, lesser}
use Rattle.wl_sigs.specs.FirstBroken.{written_of}
use Rattle.wl_sigs.specs.Places.{place_in}
use Rattle.wl_sigs.specs.Tables.{messages_of}
use Rattle.wl_sigs.proofs.Bodies.{messages_broken-from}
use Rattle.wl_sigs.proofs.Grown.{names_behind}
use Rattle.wl_sigs.proofs.added.added_side_broken.Goals as goal

pub loop-index-preserved : goal.loop-index-preserved
loop-index-preserved g c =
    let place = place_in c.args.known.now.places.now in
    let ended = c.args.known.now.ended.now in
    let i = c.args.entry.now in
    let more = c.args.more.now in
    let side = c.args.side in
    let m = c.index-messages-index.result in
    let n = length (messages_of side i) in
    let all = behind_own_messages i more in
    let first = first_place (map (λ n. n.name) (written_of side all)) in
    let rule = added_rule c.args.known.now.interfaces.now place ended c.args.here i more side in
    let names : c.in_ok-names.names.items ≡ map (λ n. n.name) (written_of side all) =
    c.in_ok-names.ensures ∙ rw (c.messages-signatures.ensures, c.messages_of-messages.ensures)
    (sym (names_behind i more side)) in
    let opcodes : place_in c.in_ok-opcodes.opcodes ≡ first =
    fun_ext (λ name. c.in_ok-opcodes.ensures name ∙ rw (c.as_slice.ensures.value, names) refl) in
    let from : length c.messages-signatures.result.now + c.loop-index.index ≡ n + c.loop-index.index =
    ap (λ ms. length ms + c.loop-index.index) c.messages-signatures.ensures in
    let name : c.message.inside.name.now ≡ m.name = ap (λ (x : WrittenMessage). x.name) c.message.view_is in
    let one : c.message_rule-rule.result ≡ message_rule place ended all side first (n + c.loop-index.index) m =
    c.message_rule-rule.ensures all (place_in c.in_ok-opcodes.opcodes) c.owner_with-owner.ensures.1
    (c.is_first_name-is_named.ensures ∙ ap (λ n. is_name n && is_first (place_in c.in_ok-opcodes.opcodes) n
    (length c.messages-signatures.result.now + c.loop-index.index)) name)
    ∙ ap (λ (s : Side). message_rule place ended all s (place_in c.in_ok-opcodes.opcodes)
    (length c.messages-signatures.result.now + c.loop-index.index) m) c.owner_with-owner.ensures.0
    ∙ ap₂ (λ (f : List ℕ → Option ℕ) (o : ℕ). message_rule place ended all side f o m) opcodes from in
    let both : c.lesser-rule.result ≡ rule (n + c.loop-index.index) m =
    c.lesser-rule.ensures ∙ ap₂ lesser one c.clash_rule.ensures in
    let line : c.message.inside.line ≡ m.line = ap (λ (x : WrittenMessage). x.line) c.message.view_is in
    c.earlier-first.ensures
    ∙ ap₂ (λ (a b : Option Broken). earlier a b) c.loop-index.invariant
    (c.broken_at.ensures ∙ ap₂ broken_at line both)
    ∙ sym (messages_broken-from rule n c.messages_of-messages.result.now c.loop-index.index m c.loop-index-test.true
    c.index-messages-index.is)
