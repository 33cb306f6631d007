-- How faults and errors are printed.
use Rattle.std.specs.Prelude.{ℕ, List, ◌++◌, codes}
use Rattle.std.specs.Fmt.{decimal}
use Rattle.wl_wire.specs.declared.kind.ArgFault.{ArgFault}
use Rattle.wl_wire.specs.declared.kind.ArgFault.TheVariants.{Short, NullNotAllowed, NoEndingNul}
use Rattle.wl_wire.specs.declared.kind.ArgFault.TheVariants.{InnerNul}
use Rattle.wl_objects.specs.declared.error.Fault.{Fault}
use Rattle.wl_objects.specs.declared.error.Fault.TheVariants.{BadSize, UnknownObject}
use Rattle.wl_objects.specs.declared.error.Fault.TheVariants.{UnknownMessage, BadArgument}
use Rattle.wl_objects.specs.declared.error.Fault.TheVariants.{BadObject, BadNewId, TrailingBytes}
use Rattle.wl_objects.specs.declared.error.Fault.TheVariants.{MissingDescriptor, BadBind}
use Rattle.wl_objects.specs.declared.error.Fault.TheVariants.{TooManyObjects}
use Rattle.wl_objects.specs.declared.error.SendError.{SendError}
use Rattle.wl_objects.specs.declared.error.SendError.TheVariants as sends
use Rattle.wl_objects.specs.declared.error.NextError.{NextError}
use Rattle.wl_objects.specs.declared.error.NextError.TheVariants as nexts

abbrev pub argument_fault_number : ArgFault → ℕ
argument_fault_number Short = 1
argument_fault_number NullNotAllowed = 2
argument_fault_number NoEndingNul = 3
argument_fault_number InnerNul = 4

abbrev pub fault_text : Fault → List ℕ
fault_text BadSize = codes "F1 bad message size"
fault_text UnknownObject = codes "F2 unknown object"
fault_text UnknownMessage = codes "F3 unknown message"
fault_text (BadArgument place fault) =
    codes "F4 malformed argument " ++ decimal place
    ++ codes " (A" ++ decimal (argument_fault_number fault) ++ codes ")"
fault_text (BadObject place) = codes "F5 bad object, argument " ++ decimal place
fault_text (BadNewId place) = codes "F6 bad new id, argument " ++ decimal place
fault_text TrailingBytes = codes "F7 trailing bytes"
fault_text MissingDescriptor = codes "F8 missing descriptor"
fault_text BadBind = codes "F9 bad bind"
fault_text TooManyObjects = codes "F10 too many objects"

abbrev pub send_error_text : SendError → List ℕ
send_error_text sends.Failed = codes "this end has failed"
send_error_text sends.Stale = codes "target is not live"
send_error_text sends.NoSuchMessage = codes "no such message"
send_error_text sends.TooOld = codes "message is newer than its target"
send_error_text (sends.WrongArgs place) =
    codes "argument " ++ decimal place ++ codes " does not fit the signature"
send_error_text (sends.BadObject place) =
    codes "argument " ++ decimal place ++ codes " is no live object of its interface"
send_error_text sends.BadBind = codes "no such global at this version"
send_error_text sends.TooLong = codes "message is too long"
send_error_text sends.Full = codes "outbox is full"
send_error_text sends.NoIds = codes "no more objects can be opened"
send_error_text sends.Memory = codes "out of memory"
send_error_text sends.NotDroppable = codes "object does not end by an event"

abbrev pub next_error_text : NextError → List ℕ
next_error_text (nexts.Fault fault offset) =
    fault_text fault ++ codes ", in the message at byte " ++ decimal offset
next_error_text nexts.Failed = codes "this end has failed"
next_error_text nexts.Memory = codes "out of memory"
next_error_text nexts.OutFull = codes "outbox has no room for delete_id"
