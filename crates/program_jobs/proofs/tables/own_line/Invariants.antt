use Rattle.std.proofs.Common.{◌≡◌, drop}
use Rattle.program_jobs.specs.Texts.{named_texts, own_line}
use Rattle.program_jobs.proofs.tables.own_line.Given as goal

-- the line is in one of the remaining texts
abbrev pub invariant-texts : goal.invariant-texts
invariant-texts g l = own_line (named_texts (drop l.text-index l.texts)) l.left
    ≡ own_line (named_texts l.texts) l.fn.line
