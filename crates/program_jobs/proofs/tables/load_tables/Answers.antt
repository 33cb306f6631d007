use Rattle.std.proofs.Common.{◌∙◌, List, ap, map, rules, subst}
use Rattle.std.specs.Prelude.{string_bytes}
use Rattle.wl_recording.proofs.TextLemmas.{refused_on}
use Rattle.program_jobs.specs.declared.tables.ReadText.{ReadText}
use Rattle.program_jobs.specs.Failing.{IsTablesFailure}
use Rattle.program_jobs.specs.Output.{IsTablesRefusal}
use Rattle.program_jobs.specs.Texts.{as_one, named_texts, sources_of}
use Rattle.program_jobs.proofs.Texts.{gives_none, loads, some_sources}
use Rattle.program_jobs.proofs.tables.load_tables.Goals as goal

pub returns-in_err-texts-clause-refused : goal.returns-in_err-texts-clause-refused
returns-in_err-texts-clause-refused g c =
    let given = map string_bytes c.args.given.now in
    refused_on c.from_residual-in_err-texts.result c.in_err-texts.field-0.0 _
    (IsTablesRefusal given (sources_of g.T.Read.remaining c.args.files.items))
    c.from_residual-in_err-texts.ensures.1 (λ e h. cc h) (c.in_err-texts.ensures.refused given)

pub returns-in-Ok-clause-loaded : goal.returns-in-Ok-clause-loaded
returns-in-Ok-clause-loaded g c =
    let text_is = c.deref-2.ensures.value ∙ c.in_ok-text.ensures
    ∙ ap (λ (texts : List (ReadText _)). as_one (named_texts texts)) c.deref.ensures.value in
    loads (sources_of g.T.Read.remaining c.args.files.items) (named_texts c.in_ok-texts.texts.items) _ _
    c.read_more.result c.in-Ok.tables
    (some_sources g.T.Read.remaining c.args.files.items _ _ c.is_empty.ensures (search rules) c.if-is_empty.false)
    c.in_ok-texts.ensures.read c.in_ok-core.ensures.holds text_is c.in-Ok.is c.read_more.ensures.exact

pub returns-clause-refused : goal.returns-clause-refused
returns-clause-refused g c =
    let given = map string_bytes c.args.given.now in
    let text_is = c.deref-2.ensures.value ∙ c.in_ok-text.ensures
    ∙ ap (λ (texts : List (ReadText _)). as_one (named_texts texts)) c.deref.ensures.value in
    let said = subst (λ (texts : List (ReadText _)). IsTablesFailure given (named_texts texts) c.in-Err.fault
    c.failure_of.result) c.deref-in-Err.ensures.value c.failure_of.ensures in
    gives_none given (sources_of g.T.Read.remaining c.args.files.items) (named_texts c.in_ok-texts.texts.items) _ _
    c.read_more.result c.in-Err.fault c.failure_of.result c.in_ok-texts.ensures.read c.in_ok-core.ensures.holds text_is
    c.in-Err.is c.read_more.ensures.exact said
