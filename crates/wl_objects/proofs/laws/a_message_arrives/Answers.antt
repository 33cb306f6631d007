use Rattle.wl_objects.proofs.Wholes.{message-arrives}
use Rattle.wl_objects.proofs.laws.a_message_arrives.Goals as goal

pub returns : goal.returns
returns c = λ limit tables side view reader target opcode size n waiting list signature p t f b i h w. message-arrives
    limit tables side view reader target opcode size n waiting list signature p t f b i h w
