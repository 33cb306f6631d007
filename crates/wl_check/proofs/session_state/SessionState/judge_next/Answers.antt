use Rattle.std.proofs.Common.{◌+◌, ◌*◌, ◌^◌, ◌<◌, ◌≤◌, refl, sym, ap, ◌∙◌, arith}
use Rattle.std.proofs.Math.Logic.{∥∥₁_elim}
use Rattle.std.specs.Coded.{le_prop}
use Rattle.std.specs.declared.result.Result.TheVariants.{Ok}
use Rattle.wl_message.specs.Cut.{is_size}
use Rattle.wl_recording.specs.declared.piece.Direction.TheVariants.{ToServer, ToClient}
use Rattle.wl_check.specs.Deserved.{first_with}
use Rattle.wl_check.specs.Rules.{judged_front}
use Rattle.wl_check.specs.Seen.{known_in}
use Rattle.wl_check.proofs.SessionByMessage.{count_few, few_judged, judged_broken, judged_end, judged_on}
use Rattle.wl_check.proofs.SessionByMessage.{message_within, next_is, taken_few}
use Rattle.wl_check.proofs.JudgedMessages.{size_good}
use Rattle.wl_check.proofs.Outcomes.{found_call, found_fault, no_more}
use Rattle.wl_check.proofs.PrintedSoFar.{prints_line, prints_none}
use Rattle.wl_check.proofs.session_state.SessionState.judge_next.Goals as goal

pub judge-requires-clause-header : goal.judge-requires-clause-header
judge-requires-clause-header g c = ∥∥₁_elim c.requires.comes le_prop (λ x. x.1.header)

pub judge-requires-clause-whole : goal.judge-requires-clause-whole
judge-requires-clause-whole g c good = ∥∥₁_elim c.requires.comes le_prop (λ x. x.1.whole good)

pub judge-requires-clause-taken : goal.judge-requires-clause-taken
judge-requires-clause-taken g c = ∥∥₁_elim c.requires.comes le_prop
    (λ x. taken_few c.args.protocol.now.tables.now x.0 c.args.self.now c.args.frame.now.direction x.1.judged)

pub overflow_add-place : goal.overflow_add-place
overflow_add-place g c =
    let few : c.args.self.now.count < 2 ^ 62 = ∥∥₁_elim c.requires.comes le_prop
    (λ x. few_judged c.args.protocol.now.tables.now x.0 c.args.self.now x.1.judged) in
    omega (arith, few)

pub advance-requires-clause-taken_to_server : goal.advance-requires-clause-taken_to_server
advance-requires-clause-taken_to_server g c =
    let few : c.args.self.now.count < 2 ^ 62 = ∥∥₁_elim c.requires.comes le_prop
    (λ x. few_judged c.args.protocol.now.tables.now x.0 c.args.self.now x.1.judged) in
    let taken : c.args.self.now.progress.known.taken_to_server ≤ c.args.self.now.count * 2 ^ 64 =
    ∥∥₁_elim c.requires.comes le_prop (λ x. x.1.judged.at.taken_to_server) in
    omega (arith, few, taken)

pub advance-requires-clause-taken_to_client : goal.advance-requires-clause-taken_to_client
advance-requires-clause-taken_to_client g c =
    let few : c.args.self.now.count < 2 ^ 62 = ∥∥₁_elim c.requires.comes le_prop
    (λ x. few_judged c.args.protocol.now.tables.now x.0 c.args.self.now x.1.judged) in
    let taken : c.args.self.now.progress.known.taken_to_client ≤ c.args.self.now.count * 2 ^ 64 =
    ∥∥₁_elim c.requires.comes le_prop (λ x. x.1.judged.at.taken_to_client) in
    omega (arith, few, taken)

pub advance-requires-clause-to_server : goal.advance-requires-clause-to_server
advance-requires-clause-to_server g c =
    let few : c.args.self.now.count < 2 ^ 62 = ∥∥₁_elim c.requires.comes le_prop
    (λ x. few_judged c.args.protocol.now.tables.now x.0 c.args.self.now x.1.judged) in
    let count : c.args.self.now.progress.to_server.count ≤ c.args.self.now.count =
    ∥∥₁_elim c.requires.comes le_prop (λ x. count_few c.args.protocol.now.tables.now x.0 c.args.self.now.count
    c.args.self.now.progress ToServer x.1.judged.at) in
    omega (arith, few, count)

pub advance-requires-clause-to_client : goal.advance-requires-clause-to_client
advance-requires-clause-to_client g c =
    let few : c.args.self.now.count < 2 ^ 62 = ∥∥₁_elim c.requires.comes le_prop
    (λ x. few_judged c.args.protocol.now.tables.now x.0 c.args.self.now x.1.judged) in
    let count : c.args.self.now.progress.to_client.count ≤ c.args.self.now.count =
    ∥∥₁_elim c.requires.comes le_prop (λ x. count_few c.args.protocol.now.tables.now x.0 c.args.self.now.count
    c.args.self.now.progress ToClient x.1.judged.at) in
    omega (arith, few, count)

pub advance-requires-clause-end : goal.advance-requires-clause-end
advance-requires-clause-end g c =
    let known = known_in c.args.self.now.progress.known in
    let front = judged_front c.args.protocol.now.limit.bytes c.args.protocol.now.tables.now known c.args.bytes.now
    c.args.frame.now in
    let found = found_call c.args.protocol.now.tables.now known c.args.journal.now.sink.output front c.in-Ok.changes
    c.args.journal.now.sink.text.items c.judge.new.sink.text.items
    (sym c.in-Ok.is ∙ c.in_ok-judged.ensures.changes) c.in_ok-judged.ensures.text in
    let good = size_good c.args.protocol.now.limit.bytes c.args.protocol.now.tables.now known c.args.bytes.now
    c.args.frame.now found.call (is_size c.args.protocol.now.limit.bytes c.args.frame.now.size) refl found.is in
    ∥∥₁_elim c.requires.comes le_prop (λ x. (let within = message_within c.args.protocol.now.limit.bytes
    c.args.protocol.now.tables.now x.0 c.args.self.now c.args.frame.now c.args.bytes.now x.1 good in
    let small = x.1.small in omega (arith, within, small)))

pub returns-in-Err-clause-judged : goal.returns-in-Err-clause-judged
returns-in-Err-clause-judged g c s h =
    let front = judged_front c.args.protocol.now.limit.bytes c.args.protocol.now.tables.now
    (known_in c.args.self.now.progress.known) c.args.bytes.now c.args.frame.now in
    let is = found_fault c.args.protocol.now.tables.now front c.in-Err.fault (sym c.in-Err.is ∙
    c.in_ok-judged.ensures.changes) in
    judged_broken c.args.protocol.now.limit.bytes c.args.protocol.now.tables.now s c.args.self.now _ c.args.frame.now
    c.args.bytes.now
    c.in-Err.fault h is refl

pub returns-in-Err-clause-lines : goal.returns-in-Err-clause-lines
returns-in-Err-clause-lines g c s h =
    let known = known_in c.args.self.now.progress.known in
    let front = judged_front c.args.protocol.now.limit.bytes c.args.protocol.now.tables.now known c.args.bytes.now
    c.args.frame.now in
    let is = found_fault c.args.protocol.now.tables.now front c.in-Err.fault (sym c.in-Err.is ∙
    c.in_ok-judged.ensures.changes) in
    prints_none c.args.protocol.now.tables.now s c.args.journal.now.sink.output c.args.self.now.count
    c.args.journal.now.sink.text.items c.judge.new.sink.text.items
    (no_more c.args.protocol.now.tables.now known c.args.journal.now.sink.output c.args.journal.now.sink.text.items
    c.judge.new.sink.text.items front c.in-Err.fault is
    c.in_ok-judged.ensures.text)

pub returns-then-changes-clause-judged : goal.returns-then-changes-clause-judged
returns-then-changes-clause-judged g c s h =
    let a = c.in_ok-advance.ensures in
    let known = known_in c.args.self.now.progress.known in
    let front = judged_front c.args.protocol.now.limit.bytes c.args.protocol.now.tables.now known c.args.bytes.now
    c.args.frame.now in
    let found = found_call c.args.protocol.now.tables.now known c.args.journal.now.sink.output front c.in-Ok.changes
    c.args.journal.now.sink.text.items
    c.judge.new.sink.text.items (sym c.in-Ok.is ∙ c.in_ok-judged.ensures.changes) c.in_ok-judged.ensures.text in
    let good = size_good c.args.protocol.now.limit.bytes c.args.protocol.now.tables.now known c.args.bytes.now
    c.args.frame.now found.call
    (is_size c.args.protocol.now.limit.bytes c.args.frame.now.size) refl found.is in
    judged_end c.args.protocol.now.limit.bytes c.args.protocol.now.tables.now s c.args.self.now _ c.args.frame.now
    c.args.bytes.now
    found.call c.in-Ok.changes h found.is good
    (record {
      changes_are = found.changes_are;
      known = a.known;
      to_server = a.to_server;
      to_client = a.to_client;
      few_to_server = a.few_to_server;
      few_to_client = a.few_to_client;
      count = refl;
      undeserved = c.note_undeserved.ensures
          ∙ ap (first_with c.args.self.now.undeserved (c.args.self.now.count + 1)) c.undeserved_id-taken_back.ensures;
    })
    c.if-changes.true refl

pub returns-then-changes-clause-lines : goal.returns-then-changes-clause-lines
returns-then-changes-clause-lines g c s h =
    let known = known_in c.args.self.now.progress.known in
    let front = judged_front c.args.protocol.now.limit.bytes c.args.protocol.now.tables.now known c.args.bytes.now
    c.args.frame.now in
    let found = found_call c.args.protocol.now.tables.now known c.args.journal.now.sink.output front c.in-Ok.changes
    c.args.journal.now.sink.text.items
    c.judge.new.sink.text.items (sym c.in-Ok.is ∙ c.in_ok-judged.ensures.changes) c.in_ok-judged.ensures.text in
    prints_line c.args.protocol.now.tables.now s c.args.journal.now.sink.output c.args.self.now.count found.call
    c.args.self.now.progress c.args.journal.now.sink.text.items
    c.judge.new.sink.text.items
    (next_is c.args.protocol.now.limit.bytes c.args.protocol.now.tables.now s c.args.self.now c.args.frame.now
    c.args.bytes.now
    (Ok found.call) h found.is) h.judged.at found.text

pub returns-else-changes-clause-judged : goal.returns-else-changes-clause-judged
returns-else-changes-clause-judged g c s h =
    let a = c.in_ok-advance.ensures in
    let known = known_in c.args.self.now.progress.known in
    let front = judged_front c.args.protocol.now.limit.bytes c.args.protocol.now.tables.now known c.args.bytes.now
    c.args.frame.now in
    let found = found_call c.args.protocol.now.tables.now known c.args.journal.now.sink.output front c.in-Ok.changes
    c.args.journal.now.sink.text.items
    c.judge.new.sink.text.items (sym c.in-Ok.is ∙ c.in_ok-judged.ensures.changes) c.in_ok-judged.ensures.text in
    let good = size_good c.args.protocol.now.limit.bytes c.args.protocol.now.tables.now known c.args.bytes.now
    c.args.frame.now found.call
    (is_size c.args.protocol.now.limit.bytes c.args.frame.now.size) refl found.is in
    judged_on c.args.protocol.now.limit.bytes c.args.protocol.now.tables.now s c.args.self.now _ c.args.frame.now
    c.args.bytes.now
    found.call c.in-Ok.changes h found.is good
    (record {
      changes_are = found.changes_are;
      known = a.known;
      to_server = a.to_server;
      to_client = a.to_client;
      few_to_server = a.few_to_server;
      few_to_client = a.few_to_client;
      count = refl;
      undeserved = c.note_undeserved.ensures
          ∙ ap (first_with c.args.self.now.undeserved (c.args.self.now.count + 1)) c.undeserved_id-taken_back.ensures;
    })
    c.if-changes.false refl

pub returns-else-changes-clause-lines : goal.returns-else-changes-clause-lines
returns-else-changes-clause-lines g c s h =
    let known = known_in c.args.self.now.progress.known in
    let front = judged_front c.args.protocol.now.limit.bytes c.args.protocol.now.tables.now known c.args.bytes.now
    c.args.frame.now in
    let found = found_call c.args.protocol.now.tables.now known c.args.journal.now.sink.output front c.in-Ok.changes
    c.args.journal.now.sink.text.items
    c.judge.new.sink.text.items (sym c.in-Ok.is ∙ c.in_ok-judged.ensures.changes) c.in_ok-judged.ensures.text in
    prints_line c.args.protocol.now.tables.now s c.args.journal.now.sink.output c.args.self.now.count found.call
    c.args.self.now.progress c.args.journal.now.sink.text.items
    c.judge.new.sink.text.items
    (next_is c.args.protocol.now.limit.bytes c.args.protocol.now.tables.now s c.args.self.now c.args.frame.now
    c.args.bytes.now
    (Ok found.call) h found.is) h.judged.at found.text
