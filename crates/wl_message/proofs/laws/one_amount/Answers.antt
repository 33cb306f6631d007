use Rattle.wl_message.proofs.WhatGoes.{goes_goes, goes_one}
use Rattle.wl_message.proofs.TakenInStep.{passes}
use Rattle.wl_message.proofs.laws.one_amount.Goals as goal

pub returns-clause-exists : goal.returns-clause-exists
returns-clause-exists c = goes_goes

pub returns-clause-unique : goal.returns-clause-unique
returns-clause-unique c = goes_one

pub returns-clause-passes : goal.returns-clause-passes
returns-clause-passes c = passes
