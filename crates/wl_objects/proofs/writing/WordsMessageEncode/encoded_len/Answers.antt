use Rattle.std.proofs.Common.{sym}
use Rattle.wl_objects.proofs.Words.{words-len}
use Rattle.wl_objects.proofs.writing.WordsMessageEncode.encoded_len.Goals as goal

pub returns : goal.returns
returns c = sym (words-len c.args.self.now)
