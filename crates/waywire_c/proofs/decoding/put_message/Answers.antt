use Rattle.std.proofs.Common.{refl}
use Rattle.waywire_c.proofs.decoding.put_message.Goals as goal

pub returns-in-Some : goal.returns-in-Some
returns-in-Some c = rw (← c.message_since.ensures.found, c.in-Some.is) c.put_body.ensures

pub returns-in-None : goal.returns-in-None
returns-in-None c =
    rw (← c.message_since.ensures.found, c.in-None.is)
    (record { status_is = c.fault_status.ensures; told_is = c.of_header.ensures; args = refl })
