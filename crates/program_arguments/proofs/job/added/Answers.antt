use Rattle.std.proofs.Common.{◌≡◌, ◌&&◌, ◌∙◌, Bool, true, false, not, refl, ap, ap₂}
use Rattle.std.proofs.lemmas.Result.{IfOk-weaker}
use Rattle.clap.specs.Words.{App, app_of, with_subcommand}
use Rattle.program_arguments.proofs.job.added.Goals as goal

-- a plain command has no argument that applies to all of its subcommands
is_local : (a b g r : Bool) → (a && (b && (not g && r))) ≡ true → g ≡ false
is_local true true false r plain = refl
is_local true true true r plain = cc
is_local true false g r plain = cc
is_local false b g r plain = cc

pub returns : goal.returns
returns c = λ others one those this plain.
    let same : app_of c.in_ok-command.command ≡ one = rw c.in_ok-command.was at this in
    let is_local = is_local _ _ _ _ (ap (λ (a : App). a.top.is_plain) same ∙ plain) in
    IfOk-weaker c.subcommand.result _ _ (λ r adds. adds.shape is_local
    ∙ ap₂ with_subcommand those (ap (λ (a : App). a.top) same)) c.subcommand.ensures
