use Rattle.std.proofs.Common.{◌≡◌, length, ap, ◌∙◌, subst, List, Option, Some, arith}
use Rattle.std.proofs.Math.Path.{fun_ext, ap₂}
use Rattle.wl_sigs.specs.Tables.{Interface, interface_at}
use Rattle.wl_sigs.specs.Valid.{Valid}
use Rattle.wl_sigs.specs.Broken.{Broken, earlier}
use Rattle.wl_sigs.specs.Extended.{Gathered}
use Rattle.wl_sigs.specs.Places.{place_in}
use Rattle.wl_sigs.proofs.Bodies.{others_by}
use Rattle.wl_sigs.proofs.tables.Tables.first_broken.Goals as goal

pub added_broken-requires : goal.added_broken-requires
added_broken-requires g c = λ place i side at.
    let valid : Valid c.args.self.now = rw c.self.view_is at c.self.invariant in
    let entries = c.as_slice-entries.ensures.value ∙ c.self.view_is in
    valid.small.messages side place i (subst (λ (xs : List Interface). interface_at xs place ≡ Some i) entries at)

pub interfaces_broken-requires : goal.interfaces_broken-requires
interfaces_broken-requires g c =
    let valid : Valid c.args.self.now = rw c.self.view_is at c.self.invariant in
    let few = valid.small.interfaces in
    let len = ap length (c.as_slice-entries.ensures.value ∙ c.self.view_is) in
    omega (arith, few, len)

pub returns : goal.returns
returns g c =
    let entries = c.as_slice-entries.ensures.value ∙ c.self.view_is in
    c.earlier.ensures
    ∙ ap₂ (λ (a b : Option Broken). earlier a b) c.in_ok-of_added.ensures c.in_ok-of_declared.ensures
    ∙ others_by c.args.self.now c.args.gathered.now c.as_slice-entries.result.now c.as_slice-added.result.now
    c.as_slice-declared.result.now (place_in c.args.places.now) c.as_slice-ended.result.now _ entries
    (c.as_slice-added.ensures.value ∙ ap (λ (x : Gathered). x.added) c.gathered.view_is)
    (c.as_slice-declared.ensures.value ∙ ap (λ (x : Gathered). x.declared) c.gathered.view_is)
    (fun_ext c.requires) (c.as_slice-ended.ensures.value ∙ c.in_ok-all_ended.ensures) (ap length entries)
