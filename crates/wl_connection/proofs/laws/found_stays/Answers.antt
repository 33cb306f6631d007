use Rattle.wl_connection.proofs.FoundStays.{is_found, reported_stays, past_stays, fault_stays, none_short}
use Rattle.wl_connection.proofs.laws.found_stays.Goals as goal

pub returns-clause-message : goal.returns-clause-message
returns-clause-message c core side f bytes tokens e = (is_found core side f e).stays bytes tokens

pub returns-clause-report : goal.returns-clause-report
returns-clause-report c core side f bytes tokens e = reported_stays core side f bytes tokens (is_found core side f e)

pub returns-clause-behind : goal.returns-clause-behind
returns-clause-behind c core side f bytes tokens e = past_stays core side f bytes tokens (is_found core side f e)

pub returns-clause-fault : goal.returns-clause-fault
returns-clause-fault c = fault_stays

pub returns-clause-short : goal.returns-clause-short
returns-clause-short c = none_short
