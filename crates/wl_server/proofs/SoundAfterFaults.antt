-- What holds for a server between calls still holds after it has written the error of a fault.
use Rattle.std.proofs.Common.{List}
use Rattle.wl_objects.specs.declared.error.NextError.{NextError}
use Rattle.wl_objects.specs.declared.error.NextError.TheVariants as errors
use Rattle.wl_connection.specs.Core.{Core}
use Rattle.wl_server.specs.State.{Global}
use Rattle.wl_server.specs.Slots.{IsSound, KeptRegistries}
use Rattle.wl_server.specs.Steps.{core_told}

pub sound_told : (core : Core) (globals : List Global) (kept : KeptRegistries) (why : NextError)
    → IsSound core globals kept → IsSound (core_told core why) globals kept
sound_told core globals kept errors.Memory s = s
sound_told core globals kept (errors.Fault fault offset) s = record {
  few = s.few;
  registries = s.registries;
  past = s.past;
  settled = s.settled;
  lasting = s.lasting;
  by_some = s.by_some;
}
sound_told core globals kept errors.Failed s = s
sound_told core globals kept errors.OutFull s = s
