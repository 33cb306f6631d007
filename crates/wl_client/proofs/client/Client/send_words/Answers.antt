use Rattle.std.proofs.Common.{rules}
use Rattle.wl_sigs.specs.Side.TheVariants.{Request}
use Rattle.wl_connection.specs.Sending.{numbers_of}
use Rattle.wl_client.proofs.SoundClients.{sound_sent}
use Rattle.wl_client.proofs.client.Client.send_words.Goals as goal

pub invariant_of-self : goal.invariant_of-self
invariant_of-self g c =
    let core = c.self.inside.end.core in
    let e = c.send_words.ensures in
    sound_sent core c.send_words.new.self c.args.target c.args.opcode
    (numbers_of core Request c.args.target c.args.opcode c.args.words.now) c.send_words.result
    e.ok e.err e.valid e.sound c.self.invariant

pub returns-clause-answer : goal.returns-clause-answer
returns-clause-answer c = search rules
