use Rattle.program_demo.proofs.Shown.{shown_from}
use Rattle.program_demo.proofs.showing.shown.Goals as goal

pub returns : goal.returns
returns g c = shown_from (λ text. text.items) c.args.tables.now c.args.piece c.args.pair.now c.play.new.pair
    c.printed.result c.in_ok-play.ensures c.printed.ensures
