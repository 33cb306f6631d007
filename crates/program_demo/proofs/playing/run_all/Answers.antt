use Rattle.wl_session.specs.Meaning.{reply_of}
use Rattle.program_demo.specs.Playing as playing
use Rattle.program_demo.proofs.Runs.{any_mapped}
use Rattle.program_demo.proofs.playing.run_all.Goals as goal

pub returns : goal.returns
returns g c =
    let granted = any_mapped reply_of playing.lacks_memory c.in_ok-replies.replies.items in
    record {
      does = c.in_ok-replies.ensures.does;
      runs = c.in_ok-replies.ensures.runs;
      granted = cc (granted, c.lack_memory.ensures, c.deref.ensures.value, c.if-lack_memory.false);
    }
