use Rattle.std.proofs.Common.{rules}
use Rattle.wl_client.proofs.SoundClients.{sound_sent}
use Rattle.wl_client.proofs.client.Client.send.Goals as goal

pub invariant_of-self : goal.invariant_of-self
invariant_of-self g c =
    let e = c.send.ensures in
    sound_sent c.self.inside.end.core c.send.new.self c.args.target c.args.opcode c.args.args.now c.send.result
    e.ok e.err e.valid e.sound c.self.invariant

pub returns-clause-answer : goal.returns-clause-answer
returns-clause-answer c = search rules
