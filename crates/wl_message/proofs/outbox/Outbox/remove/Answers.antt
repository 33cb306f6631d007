use Rattle.std.proofs.Common.{◌-◌, ℕ, ap, ◌∙◌, arith}
use Rattle.wl_message.specs.Outgoing.{Outgoing, after_taking}
use Rattle.wl_message.proofs.Fronts.{keep_rest}
use Rattle.wl_message.proofs.PartedQueue.{leaves}
use Rattle.wl_message.proofs.outbox.Outbox.remove.Goals as goal

pub overflow_sub-len : goal.overflow_sub-len
overflow_sub-len g c =
    let l = leaves _ c.args.leaving c.self.invariant.kept (rw (← c.self.view_is) at c.requires) in
    omega (arith, c.len.ensures.len, l.bytes)

pub overflow_sub-len-2 : goal.overflow_sub-len-2
overflow_sub-len-2 g c =
    let l = leaves _ c.args.leaving c.self.invariant.kept (rw (← c.self.view_is) at c.requires) in
    omega (arith, c.len-2.ensures.len, l.tokens)

pub remove_first-requires : goal.remove_first-requires
remove_first-requires g c =
    (leaves _ c.args.leaving c.self.invariant.kept (rw (← c.self.view_is) at c.requires)).boundaries

pub invariant_of-self : goal.invariant_of-self
invariant_of-self g c =
    let l = leaves _ c.args.leaving c.self.invariant.kept (rw (← c.self.view_is) at c.requires) in
    let taken = c.args.leaving.taken in
    let bytes = keep_rest c.self.inside.bytes.items taken.bytes _ (ap (λ (k : ℕ). k - taken.bytes) c.len.ensures.len) l.bytes in
    let tokens = keep_rest c.self.inside.tokens.items taken.tokens _ (ap (λ (k : ℕ). k - taken.tokens) c.len-2.ensures.len) l.tokens in
    record {
      kept = rw (
        c.truncate_front.ensures,
        c.truncate_front-2.ensures,
        bytes,
        tokens,
        c.remove_first.ensures,
        c.saturating_sub-self-inside.ensures,
        c.saturating_sub-self-inside-2.ensures,
      ) l.kept;
      small = c.self.invariant.small;
      few_tokens = rw (c.truncate_front-2.ensures) c.self.invariant.few_tokens;
      reserved = rw (c.truncate_front.ensures) c.self.invariant.reserved;
      boundaries_reserved = rw (c.truncate_front.ensures, c.remove_first.ensures) c.self.invariant.boundaries_reserved;
    }

pub returns-clause-rest : goal.returns-clause-rest
returns-clause-rest g c =
    let l = leaves _ c.args.leaving c.self.invariant.kept (rw (← c.self.view_is) at c.requires) in
    let taken = c.args.leaving.taken in
    let bytes = keep_rest c.self.inside.bytes.items taken.bytes _ (ap (λ (k : ℕ). k - taken.bytes) c.len.ensures.len) l.bytes in
    let tokens = keep_rest c.self.inside.tokens.items taken.tokens _ (ap (λ (k : ℕ). k - taken.tokens) c.len-2.ensures.len) l.tokens in
    rw (
      c.truncate_front.ensures,
      c.truncate_front-2.ensures,
      bytes,
      tokens,
      c.remove_first.ensures,
      c.saturating_sub-self-inside.ensures,
      c.saturating_sub-self-inside-2.ensures,
    )
    (l.after ∙ ap (λ (o : Outgoing). after_taking o taken.bytes) c.self.view_is)
