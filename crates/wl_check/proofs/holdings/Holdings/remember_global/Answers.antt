use Rattle.std.proofs.Common.{◌≡◌, ◌∙◌, ℕ, sym, subst, ap, Option, IsSome, arith}
use Rattle.std.proofs.Math.Nat.{max-eq_left}
use Rattle.std.specs.BTreeMap.{is_at}
use Rattle.std.specs.Map.{lookup}
use Rattle.std.specs.Option.{unwrap_or}
use Rattle.wl_check.specs.Held.{pair_cmp}
use Rattle.wl_check.proofs.Undone.{put_back_global, put_back_none}
use Rattle.wl_check.proofs.Versions.{version_more}
use Rattle.wl_check.proofs.holdings.Holdings.remember_global.Goals as goal

pub returns-in_err-insert-clause-undone : goal.returns-in_err-insert-clause-undone
returns-in_err-insert-clause-undone g c =
    let key : ℕ × ℕ = (c.args.global.now.name, c.args.global.now.iface.0) in
    let found = c.copied-version.ensures ∙ c.get.ensures.value in
    let e = c.in_err-insert.ensures in
    c.in_ok-write_down.ensures.ok c.args.self.now _
    (put_back_none key c.copied-version.result c.self.inside.objects.items c.self.inside.server_objects.items
    c.self.inside.globals.entries c.insert.new.self.entries found e.absent e.err ∙ c.self.view_is)

pub returns-clause-undone : goal.returns-clause-undone
returns-clause-undone g c =
    let key : ℕ × ℕ = (c.args.global.now.name, c.args.global.now.iface.0) in
    let found = c.copied-version.ensures ∙ c.get.ensures.value in
    let e = c.in_ok-insert.ensures in
    c.in_ok-write_down.ensures.ok c.args.self.now _
    (put_back_global key c.copied-version.result _ c.self.inside.objects.items c.self.inside.server_objects.items
    c.self.inside.globals.entries c.insert.new.self.entries found e.entries
    (λ some. e.keys_stay (subst (λ (o : Option ℕ). IsSome o) (found ∙ sym e.old) some)) ∙ c.self.view_is)

pub returns-clause-versions : goal.returns-clause-versions
returns-clause-versions g c q =
    let found = c.copied-version.ensures ∙ c.get.ensures.value in
    let known : c.unwrap_or.result ≡ unwrap_or (lookup (is_at (pair_cmp (
      c.args.global.now.name,
      c.args.global.now.iface.0,
    ))) c.self.inside.globals.entries) 0 =
    c.unwrap_or.ensures ∙ ap (λ o. unwrap_or o 0) found in
    let now = c.in_ok-insert.ensures.updates.0 q in
    rw (← c.self.view_is) (version_more c.args.global.now c.self.inside.globals.entries c.insert.new.self.entries q
    c.args.global.now.version (sym (max-eq_left (omega (arith, known)))
    ) now)
