use Rattle.std.proofs.Common.{sym, ◌∙◌}
use Rattle.std.proofs.lemmas.List.Sums.{AllPass-from_list_all, list_all-from_AllPass}
use Rattle.hex.specs.Hex.{is_hex_digit}
use Rattle.hex.proofs.HexLemmas.{decode_of-digits, decode_of-ok}
use Rattle.wl_recording.proofs.digits.are_digits.Goals as goal

pub returns-then-digits-eq0-clause-read : goal.returns-then-digits-eq0-clause-read
returns-then-digits-eq0-clause-read c = λ are.
    decode_of-digits c.args.digits.now c.if-digits-eq0.true
    (AllPass-from_list_all is_hex_digit c.args.digits.now (sym c.are_hex_digits.ensures ∙ are))

pub returns-then-digits-eq0-clause-whole : goal.returns-then-digits-eq0-clause-whole
returns-then-digits-eq0-clause-whole c = λ bytes is.
    c.are_hex_digits.ensures
    ∙ list_all-from_AllPass is_hex_digit c.args.digits.now (decode_of-ok c.args.digits.now bytes is).1
