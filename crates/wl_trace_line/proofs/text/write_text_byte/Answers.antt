use Rattle.std.proofs.Common.{◌≡◌, false, rules}
use Rattle.wl_trace_line.specs.Text.{is_plain}
use Rattle.wl_trace_line.proofs.text.write_text_byte.Goals as goal

pub returns : goal.returns
returns g c =
    let plain : is_plain c.args.byte ≡ false = search rules in
    rw plain (rw (c.hex_digit.ensures, c.hex_digit-2.ensures) at c.write_bytes.ensures)
