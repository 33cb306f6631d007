use Rattle.std.proofs.Common.{◌≡◌, refl, true}
use Rattle.wl_message.specs.Cut.{is_size}
use Rattle.wl_check.specs.Seen.{known_in}
use Rattle.wl_check.proofs.JudgedMessages.{parts_are}
use Rattle.wl_check.proofs.Outcomes.{changes_so, text_so}
use Rattle.wl_check.proofs.judging.judge.Goals as goal

pub returns-clause-changes : goal.returns-clause-changes
returns-clause-changes g c =
    let good : is_size c.args.protocol.now.limit.bytes c.args.frame.now.size ≡ true = cc in
    changes_so c.args.protocol.now.tables.now c.judge_message.result _ _
    (parts_are c.args.protocol.now.limit.bytes c.args.protocol.now.tables.now
    (known_in c.args.known.now) c.args.bytes.now c.args.frame.now c.at_front_of.result _ _ good
    c.at_front_of.ensures.computes refl refl) c.judge_message.ensures.changes

pub returns-clause-text : goal.returns-clause-text
returns-clause-text g c =
    let good : is_size c.args.protocol.now.limit.bytes c.args.frame.now.size ≡ true = cc in
    text_so c.args.protocol.now.tables.now (known_in c.args.known.now) c.args.sink.now.output c.args.sink.now.text.items
    c.judge_message.new.sink.text.items c.judge_message.result _ _
    (parts_are c.args.protocol.now.limit.bytes c.args.protocol.now.tables.now
    (known_in c.args.known.now) c.args.bytes.now c.args.frame.now c.at_front_of.result _ _ good
    c.at_front_of.ensures.computes refl refl) c.judge_message.ensures.text
