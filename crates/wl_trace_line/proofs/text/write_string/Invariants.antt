use Rattle.std.proofs.Common.{take}
use Rattle.std.specs.List.{flat_map}
use Rattle.wl_trace_line.specs.Text.{byte_text}
use Rattle.wl_trace_line.proofs.text.write_string.Given as goal

-- the bytes printed so far
abbrev pub invariant-bytes : goal.invariant-bytes
invariant-bytes g l = g.S.Sink.takes l.initial.out (flat_map byte_text (take l.byte-index l.text)) l.out
