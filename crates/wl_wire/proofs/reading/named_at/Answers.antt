use Rattle.std.proofs.Common.{rules, ◌≡◌, ◌+◌, ◌-◌, ℕ, List, length, take, drop, ap, ◌∙◌}
use Rattle.std.proofs.lemmas.List.{take_rest}
use Rattle.byteorder.specs.Endian.{little_number}
use Rattle.wl_wire.specs.Reading.{number_at}
use Rattle.wl_wire.proofs.Numbers.{number-read, bytes_behind}
use Rattle.wl_wire.proofs.reading.named_at.Goals as goal

pub returns : goal.returns
returns c =
    let bytes = c.args.bytes.now in
    let at : ℕ = 4 + c.padded_len-name.result in
    let wide = bytes_behind at bytes c.type_inv.bytes in
    let number : c.read_u32.result ≡ number_at bytes = c.read_u32.ensures ∙ number-read bytes c.type_inv.bytes in
    let version : c.read_u32-2.result ≡ number_at (drop at bytes) =
    c.read_u32-2.ensures ∙ ap (little_number 4) (take_rest bytes at) ∙ number-read (drop at bytes) wide in
    let id : c.read_u32-3.result ≡ number_at (drop 4 (drop at bytes)) =
    c.read_u32-3.ensures
    ∙ ap (λ (l : List ℕ). little_number 4 (take (length l - 4) (drop 4 l))) (take_rest bytes at)
    ∙ ap (little_number 4) (take_rest (drop at bytes) 4)
    ∙ number-read (drop 4 (drop at bytes)) (bytes_behind 4 (drop at bytes) wide) in
    search (rules, number, version, id)
