use Rattle.std.proofs.Common.{◌≡◌, ℕ, true, false, refl, sym, subst, ap, ◌∙◌, arith, rules}
use Rattle.std.proofs.Common.{Ok}
use Rattle.wl_sigs.specs.Tables.{MessageSignature}
use Rattle.wl_sigs.specs.Valid.{Valid}
use Rattle.wl_object_map.specs.Objects.{look}
use Rattle.wl_objects.specs.Messages.{checked, kinds_at}
use Rattle.wl_objects.specs.Writing.{given, numbers_by}
use Rattle.wl_connection.specs.Core.{Core, HasDisplay}
use Rattle.wl_connection.specs.Sending.{fits, following_len}
use Rattle.wl_connection.proofs.WordSends.{called-kinds, words-alone, words-answered, words-behind, words-full}
use Rattle.wl_connection.proofs.WordSends.{words-leave, words-live, words-other, words-short}
use Rattle.wl_connection.proofs.shared.Core.send_words.Goals as goal

pub returns-then-not-fits-clause-answer : goal.returns-then-not-fits-clause-answer
returns-then-not-fits-clause-answer g c =
    let core = c.args.self.now in
    let side = c.args.side in
    let words = c.args.words.now in
    let ks = kinds_at core.tables side c.args.opcode (look core.view c.args.target.id) in
    let signature = c.in_ok-signature.signature.now in
    let alive : core.failed ≡ false = search rules in
    let passes : checked core.outbox.limit.bytes core.tables side core.view c.args.target c.args.opcode
    (given (numbers_by ks words)) ≡ Ok signature = search rules in
    let is = ap (λ (m : MessageSignature). m.destroys) c.signature.view_is in
    sym (words-full core side c.args.target c.args.opcode ks words signature _ _ alive passes refl
    (c.following_len.ensures ∙ ap (following_len side) is) (sym c.if-not-fits.ensures))

pub write_words-requires-clause-fits : goal.write_words-requires-clause-fits
write_words-requires-clause-fits g c =
    let core = c.args.self.now in
    let words = c.args.words.now in
    let ks = kinds_at core.tables c.args.side c.args.opcode (look core.view c.args.target.id) in
    let passes : checked core.outbox.limit.bytes core.tables c.args.side core.view c.args.target c.args.opcode
    (given (numbers_by ks words)) ≡ Ok c.in_ok-signature.signature.now = search rules in
    let short = words-short core c.args.side c.args.target c.args.opcode ks words _ passes in
    record {
      opcode = omega (arith, c.ranges.opcode);
      short = omega (arith, short, core.outbox.limit.in_range.1);
    }

pub write_words-requires-clause-short : goal.write_words-requires-clause-short
write_words-requires-clause-short g c =
    let core = c.args.self.now in
    let words = c.args.words.now in
    let ks = kinds_at core.tables c.args.side c.args.opcode (look core.view c.args.target.id) in
    let passes : checked core.outbox.limit.bytes core.tables c.args.side core.view c.args.target c.args.opcode
    (given (numbers_by ks words)) ≡ Ok c.in_ok-signature.signature.now = search rules in
    words-short core c.args.side c.args.target c.args.opcode ks words _ passes

pub write_words-requires-clause-room : goal.write_words-requires-clause-room
write_words-requires-clause-room g c =
    words-alone c.args.self.now c.args.words.now _ _ refl (sym c.if-not-fits.ensures)

pub end_object-requires-clause-live : goal.end_object-requires-clause-live
end_object-requires-clause-live g c =
    let core = c.args.self.now in
    let words = c.args.words.now in
    let ks = kinds_at core.tables c.args.side c.args.opcode (look core.view c.args.target.id) in
    let passes : checked core.outbox.limit.bytes core.tables c.args.side core.view c.args.target c.args.opcode
    (given (numbers_by ks words)) ≡ Ok c.in_ok-signature.signature.now = search rules in
    let valid : Valid core.tables = search rules in
    let is = ap (λ (m : MessageSignature). m.destroys) c.signature.view_is in
    words-live core _ c.args.side c.args.target c.args.opcode ks words _ _ valid passes c.write_words.ensures is

pub end_object-requires-clause-other : goal.end_object-requires-clause-other
end_object-requires-clause-other g c =
    let core = c.args.self.now in
    let words = c.args.words.now in
    let ks = kinds_at core.tables c.args.side c.args.opcode (look core.view c.args.target.id) in
    let passes : checked core.outbox.limit.bytes core.tables c.args.side core.view c.args.target c.args.opcode
    (given (numbers_by ks words)) ≡ Ok c.in_ok-signature.signature.now = search rules in
    let valid : Valid core.tables = search rules in
    let display : HasDisplay core.view = search rules in
    let is = ap (λ (m : MessageSignature). m.destroys) c.signature.view_is in
    words-other core c.args.side c.args.target c.args.opcode ks words _ _ valid display passes is

pub end_object-requires-clause-room : goal.end_object-requires-clause-room
end_object-requires-clause-room g c =
    let core = c.args.self.now in
    subst (λ (n : ℕ). fits c.write_words.new.self.outbox n 0 ≡ true) c.following_len.ensures
    (words-behind core _ c.args.target.id c.args.opcode _ c.following_len.result c.args.words.now refl
    c.write_words.ensures (sym c.if-not-fits.ensures))

pub returns-clause-answer : goal.returns-clause-answer
returns-clause-answer g c =
    let core = c.args.self.now in
    let side = c.args.side in
    let words = c.args.words.now in
    let ks = kinds_at core.tables side c.args.opcode (look core.view c.args.target.id) in
    let signature = c.in_ok-signature.signature.now in
    let alive : core.failed ≡ false = search rules in
    let passes : checked core.outbox.limit.bytes core.tables side core.view c.args.target c.args.opcode
    (given (numbers_by ks words)) ≡ Ok signature = search rules in
    let is = ap (λ (m : MessageSignature). m.destroys) c.signature.view_is in
    sym (words-answered core side c.args.target c.args.opcode ks words signature _ _ alive passes
    (called-kinds core side c.args.target c.args.opcode ks words signature passes) refl
    (c.following_len.ensures ∙ ap (following_len side) is) (sym c.if-not-fits.ensures))

pub returns-clause-ok : goal.returns-clause-ok
returns-clause-ok g c =
    let core = c.args.self.now in
    let side = c.args.side in
    let words = c.args.words.now in
    let ks = kinds_at core.tables side c.args.opcode (look core.view c.args.target.id) in
    let signature = c.in_ok-signature.signature.now in
    let passes : checked core.outbox.limit.bytes core.tables side core.view c.args.target c.args.opcode
    (given (numbers_by ks words)) ≡ Ok signature = search rules in
    let is = ap (λ (m : MessageSignature). m.destroys) c.signature.view_is in
    words-leave core c.write_words.new.self _ side c.args.target c.args.opcode ks words signature _ passes
    (called-kinds core side c.args.target c.args.opcode ks words signature passes) c.type_inv.words
    c.write_words.ensures c.end_object.ensures is
