use Rattle.theory_cuts.proofs.Taken.{taken-untaken_bytes, taken-untaken_tokens, taken_in_step}
use Rattle.theory_cuts.proofs.laws.taking_keeps_pieces.Goals as goal

pub returns-clause-bytes : goal.returns-clause-bytes
returns-clause-bytes c = taken-untaken_bytes

pub returns-clause-tokens : goal.returns-clause-tokens
returns-clause-tokens c = taken-untaken_tokens

pub returns-clause-step : goal.returns-clause-step
returns-clause-step c = taken_in_step
