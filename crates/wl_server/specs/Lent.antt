-- The server's type as the logic has it, for what is borrowed from a server.
use Rattle.std.specs.Prelude.{[]}
use Rattle.std.specs.Borrow.{RattleType}
use mir.Syntax.{named}
use Rattle.std.specs.declared.alloc.Allocator as allocator
use Rattle.std.specs.declared.clone.Clone as clone
use Rattle.wl_object_map.specs.declared.table.Table as table
use Rattle.wl_server.specs.contracts.server.Server.{the_row}

-- `named 0` is the position of the server's lifetime in the signature
abbrev pub server_row : (T A : RattleType) → table.Ghosts T.Denot A.Denot → allocator.Ghosts A.Denot
    → clone.Ghosts A.Denot → RattleType
server_row T A t a c = the_row (record { mir = named 0; lft = [] }) T A t a c
