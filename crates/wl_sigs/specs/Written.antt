-- The value of the code's own list of interfaces.
use Rattle.std.specs.Prelude.{map}
use Rattle.wl_sigs.specs.declared.core_interfaces.CoreMessage.{CoreMessage}
use Rattle.wl_sigs.specs.declared.core_interfaces.CoreInterface.{CoreInterface}
use Rattle.wl_sigs.specs.Tables.{MessageSignature, Interface}

abbrev pub message_written : CoreMessage → MessageSignature
message_written m = record {
  name = m.name.now;
  since = m.since;
  kinds = m.kinds.now;
  destroys = m.destroys;
}

abbrev pub interface_written : CoreInterface → Interface
interface_written i = record {
  name = i.name.now;
  version = i.version;
  requests = map message_written i.requests.now;
  events = map message_written i.events.now;
}
