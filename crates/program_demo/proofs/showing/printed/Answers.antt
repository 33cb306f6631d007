use Rattle.std.proofs.Common.{sym, ◌∙◌}
use Rattle.program_demo.proofs.Shown.{whole_text}
use Rattle.program_demo.proofs.showing.printed.Goals as goal

pub returns : goal.returns
returns g c = record {
  agree = c.agree.result;
  exact = c.agree.ensures.exact;
  rows = c.agree.ensures.rows;
  of_client = λ none. sym c.len.ensures.count ∙ c.len.ensures.of_client none.at_server;
  whole = whole_text c.args.tables.now c.recording.result.now c.args.pair.now.recording c.in_ok-text.text.items
      c.write_agreement.new.out.items c.agree.result c.len.result _
      c.in_ok-text.ensures.lines c.recording.ensures.lends c.len.ensures.count c.in_ok-write_agreement.ensures;
}
