use Rattle.std.proofs.Common.{◌≡◌, ◌-◌, ◌≤◌, false, length, drop}
use Rattle.wl_recording.specs.declared.piece.Direction.{Direction}
use Rattle.wl_check.specs.SessionState.{end_in, CutFollows}
use Rattle.wl_check.specs.Held.{undone_by}
use Rattle.wl_check.specs.Merged.{same_direction}
use Rattle.wl_check.specs.Printed.{PrintsOn}
use Rattle.wl_check.specs.Session.{Session}
use Rattle.wl_check.proofs.session_state.SessionState.judge_all.Given as goal

-- The remaining bytes are those of the session after the messages so far. The lines of these
-- messages were written.
abbrev pub invariant-messages : goal.invariant-messages
invariant-messages g l = record {
  within : l.place ≤ length l.bytes;
  follows : (s : Session) → CutFollows l.protocol.limit.bytes l.protocol.tables.now s l.initial.self l.direction l.tokens
      l.bytes
      → CutFollows l.protocol.limit.bytes l.protocol.tables.now s l.self l.direction l.tokens (drop l.place l.bytes);
  lines : (s : Session) → CutFollows l.protocol.limit.bytes l.protocol.tables.now s l.initial.self l.direction l.tokens
      l.bytes
      → PrintsOn l.protocol.tables.now s l.initial.journal.sink.output l.initial.self.count l.self.count
      l.initial.journal.sink.text.items l.journal.sink.text.items;
  other : (x : Direction) → same_direction l.direction x ≡ false → end_in l.self x ≡ end_in l.initial.self x;
  output : l.journal.sink.output ≡ l.initial.journal.sink.output;
  undone : undone_by l.journal.undo l.self.progress.known.held ≡ undone_by l.initial.journal.undo
      l.initial.self.progress.known.held;
}

abbrev pub decreases-messages : goal.decreases-messages
decreases-messages g l = length l.bytes - l.place
