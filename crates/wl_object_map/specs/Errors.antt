-- How errors are printed.
use Rattle.std.specs.Prelude.{ℕ, List, codes}
use Rattle.wl_object_map.specs.declared.object.TableError.{TableError}
use Rattle.wl_object_map.specs.declared.object.TableError.TheVariants.{NoIds, NotNext, InUse}
use Rattle.wl_object_map.specs.declared.object.TableError.TheVariants.{Memory}

abbrev pub table_error_text : TableError → List ℕ
table_error_text NoIds = codes "no more objects can be opened"
table_error_text NotNext = codes "id is neither freed nor the next"
table_error_text InUse = codes "id is in use"
table_error_text Memory = codes "out of memory"
