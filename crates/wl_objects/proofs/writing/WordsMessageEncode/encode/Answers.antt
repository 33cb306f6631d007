use Rattle.std.proofs.Common.{◌-◌, length, drop, ◌∙◌, arith}
use Rattle.std.proofs.lemmas.List.{length-take-le, length-drop}
use Rattle.wl_objects.specs.Writing.{words_on_wire}
use Rattle.wl_objects.proofs.Wholes.{length-message}
use Rattle.wl_objects.proofs.Words.{words-few, words-len, words-written}
use Rattle.wl_objects.proofs.writing.WordsMessageEncode.encode.Goals as goal

pub write_header-requires-clause-size : goal.write_header-requires-clause-size
write_header-requires-clause-size c =
    let m = c.args.self.now in omega (arith, c.requires.len, words-len m, words-few m c.requires.fits)

pub write_u32_into-requires : goal.write_u32_into-requires
write_u32_into-requires c =
    let m = c.args.self.now in
    let out = c.write_header.new.out in
    let behind = length-drop 8 out in
    omega (
      arith,
      behind,
      c.requires.len,
      words-len m,
      c.write_header.auto.out,
      length-take-le (length out - 8) (drop 8 out) (omega (arith, behind)),
    )

pub returns : goal.returns
returns c =
    let m = c.args.self.now in
    words-written m (length c.args.out.now) _ c.write_header.new.out (drop 8 c.args.out.now) _
    c.write_header.ensures
    (c.requires.len ∙ length-message m.object m.opcode (words_on_wire m.words.now)) (omega arith)
    c.write_u32_into.ensures
