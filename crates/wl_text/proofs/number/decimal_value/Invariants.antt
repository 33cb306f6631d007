use Rattle.std.proofs.Common.{◌≡◌, ◌<◌, ◌^◌, true, take}
use Rattle.std.specs.Char.{is_ascii_digit}
use Rattle.std.specs.List.{list_all}
use Rattle.std.specs.Str.Parse.{AllDigits, digits_value}
use Rattle.wl_text.proofs.number.decimal_value.Given as goal

abbrev pub invariant-loop-digit : goal.invariant-loop-digit
invariant-loop-digit l =
    AllDigits 10 (take l.digit-index l.digits) × (digits_value 10 (take l.digit-index l.digits) ≡ l.value)
    × (l.value < 10 ^ l.digit-index) × (list_all is_ascii_digit (take l.digit-index l.digits) ≡ true)
