use Rattle.wl_recording.proofs.TextLemmas.{only_told, first_refused}
use Rattle.wl_recording.proofs.recording.Recording.parse.Goals as goal

pub returns-clause-only : goal.returns-clause-only
returns-clause-only g c = only_told c.args.text.now _ c.read.ensures.told c.read.ensures.bad

pub returns-clause-first : goal.returns-clause-first
returns-clause-first g c = first_refused c.args.text.now _ c.read.ensures.told c.read.ensures.bad
