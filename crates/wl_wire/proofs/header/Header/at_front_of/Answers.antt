use Rattle.std.proofs.Common.{◌∙◌, sym, ap}
use Rattle.wl_wire.specs.Word.{header_bytes}
use Rattle.wl_wire.proofs.Headers.{header_bytes-front, header-read}
use Rattle.wl_wire.proofs.Numbers.{bytewise_from}
use Rattle.wl_wire.proofs.header.Header.at_front_of.Goals as goal

pub returns-clause-computes : goal.returns-clause-computes
returns-clause-computes c = header-read c.args.bytes.now c.read_u32.result c.read_u16.result c.read_u16-2.result
    (bytewise_from c.args.bytes.now c.type_inv.bytes) c.requires c.read_u32.ensures c.read_u16.ensures
    c.read_u16-2.ensures

pub returns-clause-spelled : goal.returns-clause-spelled
returns-clause-spelled c = sym (header_bytes-front c.args.bytes.now
    (bytewise_from c.args.bytes.now c.type_inv.bytes) c.requires) ∙ ap header_bytes (sym (returns-clause-computes c))
