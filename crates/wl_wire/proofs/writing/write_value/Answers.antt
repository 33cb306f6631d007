use Rattle.std.proofs.Common.{◌≡◌, ◌+◌, ◌-◌, ◌≤◌, ◌++◌, Some, length, drop, refl, sym, ap, ◌∙◌, arith}
use Rattle.std.proofs.lemmas.List.{take_rest}
use borrow.Rule.Slice.PartMut.{put_mid}
use Rattle.wl_wire.specs.declared.value.ValueRef.{ValueRef}
use Rattle.wl_wire.specs.Argument.{lent, Str}
use Rattle.wl_wire.specs.Spelling.{canonical, padded, spelled_len, text_bytes}
use Rattle.wl_wire.specs.Word.{word}
use Rattle.wl_wire.proofs.Canonicals.{canonical-len}
use Rattle.wl_wire.proofs.Overs.{over-named, over-word}
use Rattle.wl_wire.proofs.writing.write_value.Goals as goal

pub returns-in-NewNamed-clause-bytes : goal.returns-in-NewNamed-clause-bytes
returns-in-NewNamed-clause-bytes c =
    let out = c.args.out.now in
    let iface = c.in-NewNamed.iface.now in
    let n = c.write_padded-len.result in
    let t = c.write_padded-len.new.out in
    let v = c.write_u32.new.buf in
    let j = length t - n in
    let whole = put_mid n j t v in
    let size : length (text_bytes iface) ≡ 4 + padded (length iface + 1) = canonical-len (Str (Some iface)) in
    let is : n ≡ 4 + padded (length iface + 1) = c.write_padded-len.ensures.len in
    let room : spelled_len (lent c.args.value) ≤ length out = c.requires.room in
    let fits : 12 + padded (length iface + 1) ≤ length out = rw c.in-NewNamed.is at room in
    let front : t ≡ text_bytes iface ++ drop n out =
    c.write_padded-len.ensures.bytes ∙ ap (λ m. text_bytes iface ++ drop m out) (sym is) in
    let sum : n + 8 ≡ 12 + padded (length iface + 1) = omega (arith, is) in
    over-named out (text_bytes iface) (word c.in-NewNamed.version)
    (word c.in-NewNamed.id) t v c.write_u32-in-NewNamed.new.buf n j _
    (size ∙ sym is) refl (omega (arith, is, fits)) front refl
    (over-word c.in-NewNamed.version _ _ _ c.write_u32.ensures (take_rest t n))
    refl
    (over-word c.in-NewNamed.id _ _ _ c.write_u32-in-NewNamed.ensures (take_rest whole (n + 4)))
    ∙ ap (λ m. ((text_bytes iface ++ word c.in-NewNamed.version) ++ word c.in-NewNamed.id) ++ drop m out) sum
    ∙ ap (λ (value : ValueRef). canonical (lent value) ++ drop (spelled_len (lent value)) out) (sym c.in-NewNamed.is)
