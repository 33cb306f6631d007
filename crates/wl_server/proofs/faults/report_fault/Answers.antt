use Rattle.std.proofs.Common.{sym, ap, ◌∙◌}
use Rattle.wl_connection.specs.Sending.{with_error_event}
use Rattle.wl_server.specs.Steps.{core_told}
use Rattle.wl_server.proofs.faults.report_fault.Goals as goal

pub returns-in-Fault : goal.returns-in-Fault
returns-in-Fault g c =
    c.write_error.ensures
    ∙ ((λ i. with_error_event c.args.core.now 1 (c.fault_code.ensures i) (c.fault_message.ensures.text i))
    ∙ ap (core_told c.args.core.now) (sym c.in-Fault.is))
