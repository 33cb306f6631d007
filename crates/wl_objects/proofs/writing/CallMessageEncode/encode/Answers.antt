use Rattle.std.proofs.Common.{◌≡◌, ◌+◌, ◌-◌, ◌≤◌, ℕ, List, ◌++◌, length, get_or, take, drop, refl, ap, ◌∙◌, arith, pos}
use Rattle.std.proofs.lemmas.List.{take_at, length-take-le, length-drop}
use borrow.Rule.Slice.PartMut.{put_mid, same_len_mid}
use Rattle.wl_wire.specs.Argument.{lent}
use Rattle.wl_wire.specs.Spelling.{spelled_len}
use Rattle.wl_wire.specs.Word.{header_bytes}
use Rattle.wl_objects.specs.declared.argument.Arg.TheVariants.{Int}
use Rattle.wl_objects.specs.Writing.{CallFits, call_message, on_wire, message_len, spelled, wired, given_of}
use Rattle.wl_objects.proofs.Calls.{len-at, len-least}
use Rattle.wl_objects.proofs.Written.{call_len, fits-next, written-more, written-all}
use Rattle.wl_objects.proofs.writing.CallMessageEncode.encode.Goals as goal

pub arguments-init : goal.arguments-init
arguments-init c =
    let call = c.args.self.now in
    let fits : CallFits call = c.requires.fits in
    let values = on_wire call.new_id call.args.now in
    let head : List ℕ = header_bytes (record { object = call.object; size = call.len; opcode = call.opcode }) in
    let least : 8 ≤ message_len values = len-least values in
    record {
      within = omega (arith, least, fits.len, call_len call fits, c.requires.len, c.write_header.auto.out);
      fits = fits.fits;
      len = omega (arith, fits.len, call_len call fits, c.requires.len, c.write_header.auto.out);
      items = ap (λ (l : List ℕ). l ++ spelled values)
          (ap (take 8) c.write_header.ensures ∙ take_at head (drop 8 c.args.out.now) 8 refl)
          ∙ ap (λ (n : ℕ). header_bytes (record { object = call.object; size = n; opcode = call.opcode })
          ++ spelled values) fits.len;
    }

pub write_value-at-requires-clause-room : goal.write_value-at-requires-clause-room
write_value-at-requires-clause-room c =
    let call = c.args.self.now in
    let i = c.arguments.arg-index in
    let out = c.arguments.out in
    let here = len-at call.new_id i call.args.now (Int (pos 0)) c.arguments-test.true in
    let least : 8 ≤ message_len (on_wire call.new_id (drop (i + 1) call.args.now)) = len-least _ in
    let value : spelled_len (lent c.wired.result)
    ≡ spelled_len (wired call.new_id (given_of (get_or call.args.now i (Int (pos 0))))) =
    ap spelled_len c.wired.ensures in
    omega (
      arith,
      here,
      least,
      value,
      c.arguments.invariant.len,
      length-drop c.arguments.at out,
      length-take-le
          (length out - c.arguments.at) (drop c.arguments.at out) (omega (arith, length-drop c.arguments.at out)),
    )

pub arguments-preserved : goal.arguments-preserved
arguments-preserved c =
    let call = c.args.self.now in
    let i = c.arguments.arg-index in
    let at = c.arguments.at in
    let out = c.arguments.out in
    let x = c.write_value-at.new.out in
    let here = len-at call.new_id i call.args.now (Int (pos 0)) c.arguments-test.true in
    let least : 8 ≤ message_len (on_wire call.new_id (drop (i + 1) call.args.now)) = len-least _ in
    let value : spelled_len (lent c.wired.result)
    ≡ spelled_len (wired call.new_id (given_of (get_or call.args.now i (Int (pos 0))))) =
    ap spelled_len c.wired.ensures in
    let same : length (put_mid at (length out - at) out x) ≡ length out =
    same_len_mid at (length out - at) out x c.write_value-at.auto.out in
    record {
      within = omega (arith, here, least, value, same, c.write_value-at.ensures.len, c.arguments.invariant.len);
      fits = fits-next call.new_id i call.args.now (Int (pos 0)) c.arguments-test.true c.arguments.invariant.fits;
      len = omega (arith, here, value, same, c.write_value-at.ensures.len, c.arguments.invariant.len);
      items = written-more call.new_id i at c.write_value-at.result _ call.args.now (Int (pos 0)) out x _
          (call_message call) (lent c.wired.result)
          c.arguments-test.true c.wired.ensures c.write_value-at.ensures.len c.write_value-at.ensures.bytes
          c.arguments.invariant.within c.arguments.invariant.items;
    }

pub returns : goal.returns
returns c =
    let call = c.args.self.now in
    written-all call.new_id c.arguments.arg-index c.arguments.at call.args.now c.arguments.out (call_message call)
    c.arguments-test.false c.arguments.invariant.len c.arguments.invariant.items
