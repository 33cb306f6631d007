-- The code's moves and replies, apart from where they lie in memory.
use Rattle.std.specs.Prelude.{ℕ, List, map, length, Some, None}
use Rattle.std.specs.declared.result.Result.{Result}
use Rattle.std.specs.declared.result.Result.TheVariants.{Ok, Err}
use Rattle.wl_wire.specs.Argument.{Int, Uint, Fixed, Str, Obj, New, Array, Fd, units}
use Rattle.wl_objects.specs.Writing.{Given}
use Rattle.wl_objects.specs.declared.error.SendError.{SendError}
use Rattle.wl_connection.specs.Outcomes.{some_object}
use Rattle.wl_client.specs.Seen as client
use Rattle.wl_server.specs.Seen as server
use Rattle.wl_server.specs.declared.announce.Announced.{Announced}
use Rattle.theory_connection.specs.Pair as world
use Rattle.wl_session.specs.declared.moves.SendArg.{SendArg}
use Rattle.wl_session.specs.declared.moves.SendArg.TheVariants as args
use Rattle.wl_session.specs.declared.moves.Move.{Move}
use Rattle.wl_session.specs.declared.moves.Move.TheVariants as moves
use Rattle.wl_session.specs.declared.moves.Carried.{Carried}
use Rattle.wl_session.specs.declared.moves.Carried.TheVariants as carrying
use Rattle.wl_session.specs.declared.moves.Reply.{Reply}
use Rattle.wl_session.specs.declared.moves.Reply.TheVariants as replies

-- an owned argument
abbrev pub arg_of : {A : Type 0} → SendArg A → Given
arg_of (args.Int z) = Int z
arg_of (args.Uint n) = Uint n
arg_of (args.Fixed z) = Fixed (units z)
arg_of (args.Str None) = Str None
arg_of (args.Str (Some text)) = Str (Some text.items)
arg_of (args.Obj object) = Obj object
arg_of args.New = New tt
arg_of (args.Array bytes) = Array bytes.items
arg_of (args.Fd token) = Fd token

abbrev pub args_of : {A : Type 0} → List (SendArg A) → List Given
args_of list = map arg_of list

abbrev pub move_of : {A : Type 0} → Move A → world.Move
move_of (moves.ClientSend target opcode list) = world.ClientSend target opcode (args_of list.items)
move_of (moves.ClientBind target name iface version) =
    world.ClientBind target name iface.items version
move_of (moves.ServerSend target opcode list) = world.ServerSend target opcode (args_of list.items)
move_of (moves.ServerDrop object) = world.ServerDrop object
move_of (moves.PostError object code text) = world.PostError object code text.items
move_of (moves.AddGlobal iface version) = world.AddGlobal iface version
move_of (moves.Withdraw name) = world.Withdraw name
move_of moves.Announce = world.Announce
move_of (moves.CarryToServer most) = world.CarryToServer most
move_of (moves.CarryToClient most) = world.CarryToClient most
move_of moves.ClientNext = world.ClientNext
move_of moves.ServerNext = world.ServerNext

abbrev pub moves_of : {A : Type 0} → List (Move A) → List world.Move
moves_of list = map move_of list

abbrev pub carried_of : Carried → world.CarryOutcome
carried_of (carrying.Moved fed) = world.Moved fed
carried_of carrying.Memory = world.Memory

-- what announcing answers, by the number of events alone
abbrev pub counted : Result Announced SendError → Result ℕ SendError
counted (Ok told) = Ok told.count
counted (Err why) = Err why

abbrev pub reply_of : {A : Type 0} → Reply A → world.Reply
reply_of (replies.ClientSend result) = world.ClientSend result
reply_of (replies.ClientBind result) = world.ClientBind (some_object result)
reply_of (replies.ServerSend result) = world.ServerSend result
reply_of (replies.ServerDrop result) = world.ServerDrop result
reply_of (replies.PostError result) = world.PostError result
reply_of (replies.AddGlobal result) = world.AddGlobal result
reply_of (replies.Withdraw result) = world.Withdraw result
reply_of (replies.Announce result) = world.Announce result
reply_of (replies.CarryToServer carried) = world.CarryToServer (carried_of carried)
reply_of (replies.CarryToClient carried) = world.CarryToClient (carried_of carried)
reply_of (replies.ClientNext result) = world.ClientNext (client.report_in result)
reply_of (replies.ServerNext result) = world.ServerNext (server.report_in result)

abbrev pub replies_of : {A : Type 0} → List (Reply A) → List world.Reply
replies_of list = map reply_of list

-- how many arguments a move passes to a call
abbrev pub arguments : {A : Type 0} → Move A → ℕ
arguments (moves.ClientSend target opcode list) = length list.items
arguments (moves.ServerSend target opcode list) = length list.items
arguments _ = 0
