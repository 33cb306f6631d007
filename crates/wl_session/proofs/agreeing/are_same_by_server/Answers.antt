use Rattle.wl_session.proofs.SameObjects.{both_are_live, one_is_freed}
use Rattle.wl_session.proofs.agreeing.are_same_by_server.Goals as goal

pub returns-in-Some-Some : goal.returns-in-Some-Some
returns-in-Some-Some c =
    both_are_live c.is_same_live.result c.args.client c.args.server c.in-Some-Some.client c.in-Some-Some.server
    c.in-Some-Some.is-0 c.in-Some-Some.is-1 c.is_same_live.ensures

pub returns-in-Some-None : goal.returns-in-Some-None
returns-in-Some-None c =
    one_is_freed c.is_zombie.result c.args.client c.args.server c.in-Some-None.client c.in-Some-None.is-0
    c.in-Some-None.is-1 c.is_zombie.ensures
