use Rattle.std.proofs.Common.{rules, ◌≡◌, sym, ◌∙◌}
use Rattle.std.specs.Prelude.{Err}
use Rattle.wl_wire.specs.declared.kind.ArgFault.TheVariants.{Short}
use Rattle.wl_wire.specs.Reading.{reading}
use Rattle.wl_wire.proofs.Numbers.{bytewise_from}
use Rattle.wl_wire.proofs.Taken.{found_from, only_from, fault_from, reading-found, reading-front}
use Rattle.wl_wire.proofs.reading.read_ref.Goals as goal

-- the bytes of no word

pub returns-in-Fd-clause-computes : goal.returns-in-Fd-clause-computes
returns-in-Fd-clause-computes c = search rules

pub returns-in-Fd-clause-found : goal.returns-in-Fd-clause-found
returns-in-Fd-clause-found c = reading-found c.args.kind _ _ c.args.bytes.now
    (bytewise_from c.args.bytes.now c.type_inv.bytes)
    (sym (returns-in-Fd-clause-computes c))

pub returns-in_default : goal.returns-in_default
returns-in_default c =
    let e : Err Short ≡ reading c.args.kind c.args.bytes.now = search rules in
    record {
      found = tt;
      only = λ v n h s. e ∙ reading-front c.args.kind c.args.bytes.now v n h s;
      fault = fault_from c.args.kind c.args.bytes.now (Err Short) (bytewise_from c.args.bytes.now c.type_inv.bytes) e;
      computes = e;
    }

-- one word

pub returns-in-Int-clause-computes : goal.returns-in-Int-clause-computes
returns-in-Int-clause-computes c = search rules

pub returns-in-Int-clause-found : goal.returns-in-Int-clause-found
returns-in-Int-clause-found c = reading-found c.args.kind _ _ c.args.bytes.now
    (bytewise_from c.args.bytes.now c.type_inv.bytes)
    (sym (returns-in-Int-clause-computes c))

pub returns-in-Int-clause-only : goal.returns-in-Int-clause-only
returns-in-Int-clause-only c = λ v n h s. returns-in-Int-clause-computes c
    ∙ reading-front c.args.kind c.args.bytes.now v n h s

pub returns-in-Uint-clause-computes : goal.returns-in-Uint-clause-computes
returns-in-Uint-clause-computes c = search rules

pub returns-in-Uint-clause-found : goal.returns-in-Uint-clause-found
returns-in-Uint-clause-found c = reading-found c.args.kind _ _ c.args.bytes.now
    (bytewise_from c.args.bytes.now c.type_inv.bytes)
    (sym (returns-in-Uint-clause-computes c))

pub returns-in-Uint-clause-only : goal.returns-in-Uint-clause-only
returns-in-Uint-clause-only c = λ v n h s. returns-in-Uint-clause-computes c
    ∙ reading-front c.args.kind c.args.bytes.now v n h s

pub returns-in-Fixed-clause-computes : goal.returns-in-Fixed-clause-computes
returns-in-Fixed-clause-computes c = search rules

pub returns-in-Fixed-clause-found : goal.returns-in-Fixed-clause-found
returns-in-Fixed-clause-found c = reading-found c.args.kind _ _ c.args.bytes.now
    (bytewise_from c.args.bytes.now c.type_inv.bytes)
    (sym (returns-in-Fixed-clause-computes c))

pub returns-in-Fixed-clause-only : goal.returns-in-Fixed-clause-only
returns-in-Fixed-clause-only c = λ v n h s. returns-in-Fixed-clause-computes c
    ∙ reading-front c.args.kind c.args.bytes.now v n h s

pub returns-else-id-eq0-clause-computes : goal.returns-else-id-eq0-clause-computes
returns-else-id-eq0-clause-computes c = search rules

pub returns-else-id-eq0-clause-found : goal.returns-else-id-eq0-clause-found
returns-else-id-eq0-clause-found c = reading-found c.args.kind _ _ c.args.bytes.now
    (bytewise_from c.args.bytes.now c.type_inv.bytes)
    (sym (returns-else-id-eq0-clause-computes c))

pub returns-else-id-eq0-clause-only : goal.returns-else-id-eq0-clause-only
returns-else-id-eq0-clause-only c = λ v n h s. returns-else-id-eq0-clause-computes c
    ∙ reading-front c.args.kind c.args.bytes.now v n h s

pub returns-in-New-Some-clause-computes : goal.returns-in-New-Some-clause-computes
returns-in-New-Some-clause-computes c = search rules

pub returns-in-New-Some-clause-found : goal.returns-in-New-Some-clause-found
returns-in-New-Some-clause-found c = reading-found c.args.kind _ _ c.args.bytes.now
    (bytewise_from c.args.bytes.now c.type_inv.bytes)
    (sym (returns-in-New-Some-clause-computes c))

pub returns-in-New-Some-clause-only : goal.returns-in-New-Some-clause-only
returns-in-New-Some-clause-only c = λ v n h s. returns-in-New-Some-clause-computes c
    ∙ reading-front c.args.kind c.args.bytes.now v n h s

pub returns-then-not-null-clause-computes : goal.returns-then-not-null-clause-computes
returns-then-not-null-clause-computes c = search rules

pub returns-then-not-null-clause-only : goal.returns-then-not-null-clause-only
returns-then-not-null-clause-only c = λ v n h s. returns-then-not-null-clause-computes c
    ∙ reading-front c.args.kind c.args.bytes.now v n h s

pub returns-in-Fd-kind-clause-computes : goal.returns-in-Fd-kind-clause-computes
returns-in-Fd-kind-clause-computes c = search rules

pub returns-in-Fd-kind-clause-found : goal.returns-in-Fd-kind-clause-found
returns-in-Fd-kind-clause-found c = reading-found c.args.kind _ _ c.args.bytes.now
    (bytewise_from c.args.bytes.now c.type_inv.bytes)
    (sym (returns-in-Fd-kind-clause-computes c))

-- a function reads them

pub returns-in-Str-clause-computes : goal.returns-in-Str-clause-computes
returns-in-Str-clause-computes c = search rules

pub returns-in-Str-clause-found : goal.returns-in-Str-clause-found
returns-in-Str-clause-found c = found_from c.args.kind c.args.bytes.now c.string_at.result
    (bytewise_from c.args.bytes.now c.type_inv.bytes) (returns-in-Str-clause-computes c)

pub returns-in-Str-clause-only : goal.returns-in-Str-clause-only
returns-in-Str-clause-only c = λ v n h s. only_from c.args.kind c.args.bytes.now c.string_at.result
    (returns-in-Str-clause-computes c) v n h s

pub returns-in-Str-clause-fault : goal.returns-in-Str-clause-fault
returns-in-Str-clause-fault c = fault_from c.args.kind c.args.bytes.now c.string_at.result
    (bytewise_from c.args.bytes.now c.type_inv.bytes) (returns-in-Str-clause-computes c)

pub returns-in-New-None-clause-computes : goal.returns-in-New-None-clause-computes
returns-in-New-None-clause-computes c = search rules

pub returns-in-New-None-clause-found : goal.returns-in-New-None-clause-found
returns-in-New-None-clause-found c = found_from c.args.kind c.args.bytes.now c.named_at.result
    (bytewise_from c.args.bytes.now c.type_inv.bytes) (returns-in-New-None-clause-computes c)

pub returns-in-New-None-clause-only : goal.returns-in-New-None-clause-only
returns-in-New-None-clause-only c = λ v n h s. only_from c.args.kind c.args.bytes.now c.named_at.result
    (returns-in-New-None-clause-computes c) v n h s

pub returns-in-New-None-clause-fault : goal.returns-in-New-None-clause-fault
returns-in-New-None-clause-fault c = fault_from c.args.kind c.args.bytes.now c.named_at.result
    (bytewise_from c.args.bytes.now c.type_inv.bytes) (returns-in-New-None-clause-computes c)

pub returns-in-Array-clause-computes : goal.returns-in-Array-clause-computes
returns-in-Array-clause-computes c = search rules

pub returns-in-Array-clause-found : goal.returns-in-Array-clause-found
returns-in-Array-clause-found c = found_from c.args.kind c.args.bytes.now c.array_at.result
    (bytewise_from c.args.bytes.now c.type_inv.bytes) (returns-in-Array-clause-computes c)

pub returns-in-Array-clause-only : goal.returns-in-Array-clause-only
returns-in-Array-clause-only c = λ v n h s. only_from c.args.kind c.args.bytes.now c.array_at.result
    (returns-in-Array-clause-computes c) v n h s

pub returns-in-Array-clause-fault : goal.returns-in-Array-clause-fault
returns-in-Array-clause-fault c = fault_from c.args.kind c.args.bytes.now c.array_at.result
    (bytewise_from c.args.bytes.now c.type_inv.bytes) (returns-in-Array-clause-computes c)
