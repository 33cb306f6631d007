use Rattle.std.proofs.Common.{suc}
use Rattle.wl_check.specs.Places.{known}
use Rattle.wl_check.specs.Session.{changes_at, messages}
use Rattle.wl_check.proofs.Undeserved.{deserved_is}
use Rattle.wl_check.proofs.laws.a_delete_id_is_deserved.Goals as goal

pub returns : goal.returns
returns c = λ tables session k. (
    let all = changes_at tables (messages tables session) in
    deserved_is tables (known all (suc k)) (all (suc k)).deleted
    )
