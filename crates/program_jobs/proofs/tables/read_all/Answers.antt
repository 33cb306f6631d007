use Rattle.std.proofs.Common.{List, [], length, rules, subst, sym}
use Rattle.std.proofs.lemmas.Iterator.Consumers.{YieldsList-turn}
use Rattle.std.proofs.lemmas.Iterator.Adapters.{YieldsList-from_vec}
use Rattle.wl_recording.proofs.TextLemmas.{refused_on}
use Rattle.program_jobs.specs.declared.tables.ReadText.{ReadText}
use Rattle.program_jobs.specs.Output.{IsTablesRefusal}
use Rattle.program_jobs.specs.Texts.{AreRead, named_texts, no_text, source_of, sources_of}
use Rattle.program_jobs.proofs.Opening.{contains_mapped}
use Rattle.program_jobs.proofs.Texts.{read_more, unread}
use Rattle.program_jobs.proofs.tables.read_all.Goals as goal

pub files-init : goal.files-init
files-init g c = subst (λ (texts : List (ReadText _)). AreRead [] (named_texts texts)) (sym c.new-texts.ensures.items)
    no_text

pub files-preserved : goal.files-preserved
files-preserved g c = read_more g.T.Read.remaining c.files.yielded c.files.texts.items c.push.new.self.items
    c.in-Some.file c.in_ok-read_one.field-0 c.files.invariant c.in_ok-read_one.ensures.read c.in_ok-push.ensures.items

-- the file that could not be read is one of the job's
pub returns-in_err-read_one-clause-refused : goal.returns-in_err-read_one-clause-refused
returns-in_err-read_one-clause-refused g c = λ given.
    let turn = YieldsList-turn (YieldsList-from_vec {s = c.into_iter-file-iterator.result} c.args.files.items
    (search rules) (search rules)) c.files.yielded c.files.file-iterator c.files.yielded_by c.next.result
    c.next.new.self c.in-Some.file c.in-Some.is c.next.ensures.steps in
    let one = contains_mapped (source_of g.T.Read.remaining) c.args.files.items (length c.files.yielded) c.in-Some.file
    turn.0 turn.1 in
    refused_on c.from_residual-in_err-read_one.result c.in_err-read_one.field-0.0 _
    (IsTablesRefusal given (sources_of g.T.Read.remaining c.args.files.items))
    c.from_residual-in_err-read_one.ensures.1 (λ e h. cc h)
    (unread given (sources_of g.T.Read.remaining c.args.files.items) (source_of g.T.Read.remaining c.in-Some.file)
    c.in_err-read_one.field-0.0 one c.in_err-read_one.ensures.refused)
