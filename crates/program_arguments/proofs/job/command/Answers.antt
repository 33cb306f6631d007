use Rattle.std.proofs.Common.{◌≡◌, rules, refl}
use Rattle.clap.specs.Words.{app_of}
use Rattle.program_arguments.specs.Asking.{program, trace_command, check_command, demo_command, socket_command}
use Rattle.program_arguments.proofs.job.command.Goals as goal

pub returns : goal.returns
returns c =
    let top_is : app_of c.subcommand_required-program.result ≡ program = search rules in
    let one = c.in_ok-program.ensures program trace_command top_is c.trace.ensures refl in
    let two = c.in_ok-program-2.ensures _ check_command one c.check.ensures refl in
    let three = c.in_ok-program-3.ensures _ demo_command two c.demo.ensures refl in
    c.added-4.ensures _ socket_command three c.socket.ensures refl
