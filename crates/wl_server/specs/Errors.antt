-- How errors are printed.
use Rattle.std.specs.Prelude.{ℕ, List, codes}
use Rattle.wl_server.specs.declared.globals.GlobalError.{GlobalError}
use Rattle.wl_server.specs.declared.globals.GlobalError.TheVariants.{Failed, BadGlobal, TooMany}
use Rattle.wl_server.specs.declared.globals.GlobalError.TheVariants.{Memory, NoSuchGlobal}

abbrev pub global_error_text : GlobalError → List ℕ
global_error_text Failed = codes "this end has failed"
global_error_text BadGlobal = codes "no such interface to advertise at this version"
global_error_text TooMany = codes "too many globals"
global_error_text Memory = codes "out of memory"
global_error_text NoSuchGlobal = codes "no such global"
