use Rattle.std.proofs.Common.{sym}
use Rattle.wl_check.proofs.BytesBehind.{behind_good}
use Rattle.wl_check.proofs.followed_bytes.FollowedStream.go_past.Goals as goal

pub returns-then-is_good-clause-ok : goal.returns-then-is_good-clause-ok
returns-then-is_good-clause-ok g c =
    let one = c.checked_add.ensures in
    let two = c.checked_add-2.ensures in
    let three = c.checked_add-3.ensures in
    let index = rw c.in-Some.is at one in
    let end = rw c.in-Some-checked_add.is at two in
    let gone = rw c.in-Some-checked_add-2.is at three in
    let inside = c.self.inside in
    behind_good inside.bytes inside.gone inside.index inside.end c.args.size c.in-Some-checked_add-2.gone
    c.in-Some.index c.in-Some-checked_add.end inside.is_lost c.args.is_good c.args.self.now c.if-is_good.true
    (sym c.self.view_is) gone.1 index.1 end.1
