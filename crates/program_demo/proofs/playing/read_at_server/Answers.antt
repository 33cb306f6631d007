use Rattle.program_demo.proofs.Runs.{plays_then}
use Rattle.program_demo.proofs.playing.read_at_server.Goals as goal

pub returns : goal.returns
returns g c = plays_then c.repeat-2.result _ _ c.args.pair.now c.repeat.new.pair c.repeat-2.new.pair
    c.in_ok-repeat.ensures c.repeat-2.ensures
