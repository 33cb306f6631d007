-- The values that the code's types represent, apart from where they lie in memory.
use Rattle.std.specs.Prelude.{List, map}
use Rattle.std.specs.declared.result.Result.{Result}
use Rattle.std.specs.declared.result.Result.TheVariants.{Ok, Err}
use Rattle.wl_wire.specs.Argument.{units, Int, Uint, Fixed, Str, Obj, New, NewNamed, Array, Fd}
use Rattle.wl_sigs.specs.Tables.{MessageSignature}
use Rattle.wl_objects.specs.declared.argument.Got.{Got}
use Rattle.wl_objects.specs.declared.argument.Got.TheVariants as values
use Rattle.wl_objects.specs.declared.calling.CheckedCall.{CheckedCall}
use Rattle.wl_objects.specs.declared.calling.Measured.{Measured}
use Rattle.wl_objects.specs.declared.error.Fault.{Fault}
use Rattle.wl_objects.specs.declared.error.SendError.{SendError}
use Rattle.wl_objects.specs.declared.reading.Received.{Received as Read}
use Rattle.wl_objects.specs.Reading.{Reported}
use Rattle.wl_objects.specs.Messages.{Received}
use Rattle.wl_objects.specs.Parsed.{spelled_in}

-- the value of an owned argument of a report
abbrev pub got : {A : Type 0} → Got A → Reported
got (values.Int z) = Int z
got (values.Uint n) = Uint n
got (values.Fixed z) = Fixed (units z)
got (values.Str text) = Str text
got (values.Obj object) = Obj object
got (values.New object) = New object
got (values.Bound iface version object) = NewNamed iface version object
got (values.Array bytes) = Array bytes
got (values.Fd token) = Fd token

abbrev pub got_values : {A : Type 0} → List (Got A) → List Reported
got_values list = map got list

-- a message that was read, apart from where it lies in memory
abbrev pub received_of : Read → Received
received_of read = record {
  target = read.target;
  entry = read.entry;
  signature = read.signature.now;
  values = spelled_in read.body.now read.args.now;
}

abbrev pub received_in : Result Read Fault → Result Received Fault
received_in (Err fault) = Err fault
received_in (Ok read) = Ok (received_of read)

-- a signature that was found
abbrev pub signature_in : Result CheckedCall SendError → Result MessageSignature SendError
signature_in (Err refusal) = Err refusal
signature_in (Ok call) = Ok call.signature.now

-- the same signature, after the arguments were measured
abbrev pub signature_of : MessageSignature → Result Measured SendError
    → Result MessageSignature SendError
signature_of signature (Err refusal) = Err refusal
signature_of signature (Ok measured) = Ok signature
