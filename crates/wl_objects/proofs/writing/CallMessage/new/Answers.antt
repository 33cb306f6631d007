use Rattle.std.proofs.Common.{arith}
use Rattle.wl_objects.proofs.writing.CallMessage.new.Goals as goal

pub returns-clause-fits : goal.returns-clause-fits
returns-clause-fits c = record {
  opcode = omega (arith, c.ranges.opcode);
  fits = c.requires.fits;
  len = c.message_len.ensures;
  short = omega (arith, c.requires.short, c.message_len.ensures);
}
