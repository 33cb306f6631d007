-- Numbers in a text.
use Rattle.std.specs.Prelude.{ℕ, List, length, Option, Some, None, if◌then◌else◌, ◌&&◌, nat_le}
use Rattle.std.specs.Prelude.{option_and_then}
use Rattle.std.specs.Char.{is_ascii_digit}
use Rattle.std.specs.List.{list_all}
use Rattle.std.specs.Str.Parse.{digits_value}

-- the value of decimal digits; none if a byte is no digit
abbrev pub digits_number : List ℕ → Option ℕ
digits_number digits =
    if list_all is_ascii_digit digits then Some (digits_value 10 digits) else None

-- the value of 1 to 10 decimal digits, if it is at most 4,294,967,295
abbrev pub number_of : List ℕ → Option ℕ
number_of digits =
    if nat_le 1 (length digits) && nat_le (length digits) 10
    then option_and_then (λ value. if nat_le value 4294967295 then Some value else None)
    (digits_number digits)
    else None
