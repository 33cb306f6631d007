use Rattle.wl_connection.proofs.FirstMessages.{fault_told, pending_told}
use Rattle.wl_connection.proofs.front.first_message.Goals as goal

pub returns-in-Ok-clause-comes : goal.returns-in-Ok-clause-comes
returns-in-Ok-clause-comes g c =
    pending_told (g.R.Meaning.Means c.args.role.now) _ _ c.args.end.now.core c.read_frame.new.args c.in-Ok-Some.field-0 c.in-Ok-Some.frame
    c.in-Ok.pending c.core.view_is c.in-Ok-Some.field-0-is c.in-Ok-Some.ensures.tells c.read_frame.ensures.header
    c.in-Ok.ensures.comes

pub returns-in-Err-read_frame-clause-comes : goal.returns-in-Err-read_frame-clause-comes
returns-in-Err-read_frame-clause-comes g c =
    fault_told (g.R.Meaning.Means c.args.role.now) _ _ c.args.end.now.core c.read_frame.new.args c.in-Ok-Some.field-0 c.in-Ok-Some.frame
    c.in-Err-read_frame.fault c.core.view_is c.in-Ok-Some.field-0-is c.in-Ok-Some.ensures.tells
    c.read_frame.ensures.header c.in-Err-read_frame.ensures.comes
