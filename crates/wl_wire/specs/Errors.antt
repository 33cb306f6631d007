-- How errors are printed.
use Rattle.std.specs.Prelude.{ℕ, List, codes}
use Rattle.wl_wire.specs.declared.kind.ArgFault.{ArgFault}
use Rattle.wl_wire.specs.declared.kind.ArgFault.TheVariants.{Short, NullNotAllowed, NoEndingNul}
use Rattle.wl_wire.specs.declared.kind.ArgFault.TheVariants.{InnerNul}
use Rattle.wl_wire.specs.declared.kind.ReadError.{ReadError}
use Rattle.wl_wire.specs.declared.kind.ReadError.TheVariants.{Arg, Memory}

abbrev pub arg_fault_text : ArgFault → List ℕ
arg_fault_text Short = codes "argument is cut short"
arg_fault_text NullNotAllowed = codes "null is not allowed"
arg_fault_text NoEndingNul = codes "string does not end with a NUL"
arg_fault_text InnerNul = codes "string has a NUL inside"

abbrev pub read_error_text : ReadError → List ℕ
read_error_text (Arg fault) = arg_fault_text fault
read_error_text Memory = codes "out of memory"
