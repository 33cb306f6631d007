-- Runs by bytes, worked out by hand.
use Rattle.std.specs.Prelude.{ℕ, List, [], drop, take}
use Rattle.wl_wire.specs.Word.{word}
use Rattle.wl_sigs.specs.Core.{core_tables}
use Rattle.wl_message.specs.declared.amounts.Sizes.{Sizes}
use Rattle.wl_server.specs.State.{State, new_state}
use Rattle.wl_check.specs.Samples.{spelled_message}
use Rattle.theory_peers.specs.ServerStreams.{after_feed}

-- get_registry, which makes the registry at id 2: 12 bytes
abbrev pub registry_asked : List ℕ
registry_asked = spelled_message 1 1 (word 2)

-- its first five bytes have come: its target, and a byte of its second word
abbrev pub header_begun : Sizes → State
header_begun sizes = after_feed (new_state core_tables sizes) (take 5 registry_asked) []

-- all of it has come
abbrev pub registry_heard : Sizes → State
registry_heard sizes = after_feed (header_begun sizes) (drop 5 registry_asked) []
