-- How faults are printed.
use Rattle.std.specs.Prelude.{ℕ, List, ◌++◌, codes}
use Rattle.std.specs.Fmt.{decimal}
use Rattle.wl_text.specs.declared.fault.TableFault.{TableFault}
use Rattle.wl_text.specs.declared.fault.TableFault.TheVariants.{BadLine, BadTable, Memory}

abbrev pub table_fault_text : TableFault → List ℕ
table_fault_text (BadLine line) = codes "line " ++ decimal line ++ codes ": bad line"
table_fault_text (BadTable line rule) =
    codes "line " ++ decimal line ++ codes ": breaks V" ++ decimal rule
table_fault_text Memory = codes "out of memory"
