-- A reader that keeps a copy of what it reads.
use Rattle.wl_session.specs.declared.tee.Tee.{Tee}

-- t after `*t.reader() = x`
abbrev pub with_reader : {R A : Type 0} → Tee R A → R → Tee R A
with_reader t x = record { reader = x; copied = t.copied }
