use Rattle.std.proofs.Common.{◌≡◌, length, ap, ◌∙◌, arith}
use Rattle.std.proofs.lemmas.List.{length-map}
use Rattle.std.proofs.lemmas.List.Elements.{All-append, All-drop, All-same, All-take}
use Rattle.wl_client.proofs.NamedUpTo.{no_longer, replaced_up_to, up_to}
use Rattle.wl_client.proofs.globals.Remembered.remember.Goals as goal

pub invariant_of-self : goal.invariant_of-self
invariant_of-self g c =
    let old = c.self.inside.items.items in
    let is_up_to = up_to c.self.inside.greatest in
    let as_many : length c.replace.new.globals ≡ length old =
    ap length c.replace.ensures ∙ length-map _ _ ∙ ap length c.deref_mut.ensures.value in
    let new = All-same is_up_to _ _ c.replace.ensures (replaced_up_to c.self.inside.greatest c.args.global _
    (All-same is_up_to _ _ c.deref_mut.ensures.value c.self.invariant.named)) in
    record {
      few = omega (arith, no_longer c.self.inside.items.len c.replace.new.globals old as_many, c.self.invariant.few);
      reserved = c.self.invariant.reserved;
      named = All-take is_up_to c.self.inside.items.len _
          (All-append is_up_to c.replace.new.globals _ new
          (All-drop is_up_to (length c.replace.new.globals) old c.self.invariant.named));
    }
