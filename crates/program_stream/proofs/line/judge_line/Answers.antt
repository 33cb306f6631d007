use Rattle.std.proofs.Common.{◌∙◌, ◌++◌, ℕ, List, ap}
use Rattle.wl_recording.proofs.TextLemmas.{refused_on}
use Rattle.wl_check.specs.LinesJudged.{line_text}
use Rattle.program_stream.proofs.line.judge_line.Goals as goal

pub returns-in_err-judge-clause-bad : goal.returns-in_err-judge-clause-bad
returns-in_err-judge-clause-bad g c =
    refused_on c.from_residual.result c.in_err-judge.field-0.0 _ _ c.from_residual.ensures.1 (λ e h. cc h)
    c.in_err-judge.ensures.bad

pub returns-clause-judged : goal.returns-clause-judged
returns-clause-judged g c prints_lines limit tables pieces one is h =
    let judged = c.in_ok-judge.ensures.judged prints_lines limit tables pieces one is h in
    record {
      more = judged.more;
      told = judged.told;
      passed = judged.judged;
      shown = line_text c.judge.new.self;
      appended = c.in_ok-extend_from_slice.ensures.items
          ∙ ap (λ (l : List ℕ). c.args.text.now.items ++ l) c.lines.ensures;
      lines_are = judged.lines_are;
    }
