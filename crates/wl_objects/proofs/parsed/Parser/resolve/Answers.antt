use Rattle.std.proofs.Common.{rules, ◌≡◌, refl, sym, subst, ap, ◌∙◌, drop, Some, None}
use Rattle.std.specs.Result.{result_err}
use Rattle.wl_wire.specs.Argument.{Argument, lent, Str, NewNamed, Array}
use Rattle.wl_objects.specs.Reading.{new_fault}
use Rattle.wl_objects.specs.Parsed.{TextLiesBehind}
use Rattle.wl_objects.proofs.ValueBytes.{part-lies}
use Rattle.wl_objects.proofs.parsed.Parser.resolve.Goals as goal

pub returns-in-Fixed : goal.returns-in-Fixed
returns-in-Fixed g c = search rules

pub returns-in-Str-Some : goal.returns-in-Str-Some
returns-in-Str-Some g c =
    let text = c.in-Str-Some.string.now in
    let value : lent c.args.value ≡ Str (Some text) = search rules in
    let part = part-lies c.args.self.now.body.now text c.args.start
    (subst (λ (v : Argument). TextLiesBehind (drop c.args.start c.args.self.now.body.now) v) value c.requires.lies) in
    rw (value, part) refl

pub returns-in_ok-new_fault-in-NewNamed : goal.returns-in_ok-new_fault-in-NewNamed
returns-in_ok-new_fault-in-NewNamed g c =
    let iface = c.in-NewNamed.iface.now in
    let value : lent c.args.value ≡ NewNamed iface c.in-NewNamed.version c.in-NewNamed.id = rw c.in-NewNamed.is refl in
    let part = part-lies c.args.self.now.body.now iface c.args.start
    (subst (λ (v : Argument). TextLiesBehind (drop c.args.start c.args.self.now.body.now) v) value c.requires.lies) in
    let none : new_fault c.args.place ((g.L.Lookup.reader c.args.self.now.lookup.now).new_id c.in-NewNamed.id) ≡ None =
    sym (ap (new_fault c.args.place) c.new_id.ensures)
    ∙ (sym c.new_fault-in-NewNamed.ensures ∙ ap result_err c.in_ok-new_fault-in-NewNamed.was) in
    rw (value, part, none) refl

pub returns-in-Array : goal.returns-in-Array
returns-in-Array g c =
    let bytes = c.in-Array.bytes.now in
    let value : lent c.args.value ≡ Array bytes = rw c.in-Array.is refl in
    let part = part-lies c.args.self.now.body.now bytes c.args.start
    (subst (λ (v : Argument). TextLiesBehind (drop c.args.start c.args.self.now.body.now) v) value c.requires.lies) in
    rw (value, part) refl
