use Rattle.std.proofs.Common.{ap, ◌∙◌, ◌+◌, ◌*◌, List, Bool}
use Rattle.wl_server.specs.State.{has_name}
use Rattle.wl_server.proofs.WordByWord.{word-name}
use Rattle.wl_server.proofs.name_set.NameSet.word.Goals as goal

pub returns : goal.returns
returns c k l = word-name c.self.inside.words c.args.word k c.requires l
    ∙ ap (λ (names : List Bool). has_name names (64 * c.args.word + k + 1)) c.self.view_is
