-- The two ranges of ids: the client makes ids from 1 on, the server from 0xff000000 on.
use Rattle.std.specs.Prelude.{ℕ, ◌+◌, ◌-◌, Bool, nat_le}

-- the first id of the server's range
abbrev pub first_server_id : ℕ
first_server_id = 4278190080

-- the last server id: the range has 1,048,575 ids, as many as the client's without id 1
abbrev pub max_server_id : ℕ
max_server_id = 4279238654

-- whether an id is in the server's range
abbrev pub is_of_server : ℕ → Bool
is_of_server id = nat_le first_server_id id

-- The table of the server's range counts its ids from 2 on; its row 1 has no meaning.

-- the table's id for an id on the wire
abbrev pub table_id : ℕ → ℕ
table_id id = id - 4278190078

-- the id on the wire for the table's id
abbrev pub wire_id : ℕ → ℕ
wire_id place = place + 4278190078
