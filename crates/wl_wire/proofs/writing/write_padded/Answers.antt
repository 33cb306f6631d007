use Rattle.std.proofs.Common.{◌≡◌, ◌+◌, ◌-◌, length, refl, ap, ◌∙◌, arith}
use Rattle.std.proofs.lemmas.List.{take_rest}
use borrow.Rule.Slice.PartMut.{put_mid}
use Rattle.wl_wire.proofs.Overs.{over-padded, over-word}
use Rattle.wl_wire.proofs.writing.write_padded.Goals as goal

pub returns-clause-bytes : goal.returns-clause-bytes
returns-clause-bytes c =
    let end = 4 + c.padded_len-end.result in
    let same : 4 + length c.args.bytes.now - 4 ≡ length c.args.bytes.now = omega arith in
    let last = over-word 0 _ _ _ c.write_u32.ensures (take_rest c.args.out.now (end - 4)) in
    let whole = put_mid (end - 4) (length c.args.out.now - (end - 4)) c.args.out.now c.write_u32.new.buf in
    let first = over-word c.args.len whole _ whole c.write_u32-2.ensures refl in
    ap (λ m. put_mid 4 m c.write_u32-2.new.buf c.copy_from_slice.new.self) same
    ∙ over-padded c.args.out.now c.args.bytes.now c.write_u32.new.buf c.write_u32-2.new.buf c.copy_from_slice.new.self
    c.args.len end _
    (omega (arith, c.padded_len-end.ensures)) (omega (arith, c.padded_len-end.ensures)) c.requires.len.0
    c.requires.len.1 refl last first c.copy_from_slice.ensures.after
