use Rattle.std.proofs.Common.{◌≡◌, ℕ, List, map, sym, ap, ◌∙◌, not}
use Rattle.std.specs.Prelude.{option_map, ◌&&◌}
use Rattle.std.proofs.Math.Path.{fun_ext}
use Rattle.wl_text.specs.Text.{WrittenMessage}
use Rattle.wl_rules.specs.Joined.{first_place}
use Rattle.wl_rules.specs.Broken.{is_first}
use Rattle.wl_rules.specs.Places.{place_in}
use Rattle.wl_rules.proofs.FirstPlaces.{is_first-new}
use Rattle.wl_rules.proofs.rules.is_first_message.Goals as goal

pub returns-in-Some : goal.returns-in-Some
returns-in-Some g c =
    let known : (name : List ℕ) → place_in c.in-Some.opcodes name
    ≡ first_place (map (λ m. m.name) c.args.messages.now) name =
    c.requires.first (place_in c.in-Some.opcodes) (ap (λ o. option_map place_in o) c.in-Some.is) in
    c.is_first.ensures ∙ ap (λ place. is_first place c.args.name.now c.args.opcode) (fun_ext known)
    ∙ sym (ap (λ b. b && is_first (first_place (map (λ m. m.name) c.args.messages.now)) c.args.name.now c.args.opcode)
    (sym c.is_name.ensures ∙ c.if-not-is_name.false))

pub returns-in-None : goal.returns-in-None
returns-in-None g c =
    let new = is_first-new (λ (m : WrittenMessage). m.name) c.args.messages.now c.args.name.now c.args.opcode
    c.requires.stands in
    ap not c.has_message.ensures ∙ sym new
    ∙ sym (ap (λ b. b && is_first (first_place (map (λ m. m.name) c.args.messages.now)) c.args.name.now c.args.opcode)
    (sym c.is_name.ensures ∙ c.if-not-is_name.false))
