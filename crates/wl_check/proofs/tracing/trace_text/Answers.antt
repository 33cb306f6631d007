use Rattle.wl_check.proofs.OneListOfPieces.{only_so, first_so}
use Rattle.wl_check.proofs.tracing.trace_text.Goals as goal

pub returns-clause-only : goal.returns-clause-only
returns-clause-only g c = only_so c.args.text.now c.scan_text.result _ c.scan_text.ensures.told c.scan_text.ensures.bad

pub returns-clause-first : goal.returns-clause-first
returns-clause-first g c = first_so c.args.text.now c.scan_text.result _ c.scan_text.ensures.told
    c.scan_text.ensures.bad
