use Rattle.std.proofs.Common.{◌≡◌, ◌∙◌, Option, Some, inr, refl, sym, subst}
use Rattle.wl_recording.specs.declared.piece.Direction.{Direction}
use Rattle.wl_check.specs.Following.{IsFollowed}
use Rattle.waywire_c.specs.Followed.{followed_by, TellsNextFollowed}
use Rattle.waywire_c.specs.Inspecting.{direction_of}
use Rattle.waywire_c.specs.declared.held.HeldInspector.{HeldInspector}
use Rattle.waywire_c.proofs.followed.waywire_c_inspector_ahead.Goals as goal

-- the sender has this direction, and the message that is written is the next one in it
pub returns-in-Some-ahead-clause-told : goal.returns-in-Some-ahead-clause-told
returns-in-Some-ahead-clause-told c =
    let way : direction_of c.args.sender ≡ Some c.in-Some.direction = sym c.direction_of.ensures ∙ c.in-Some.is in
    subst (λ (sent : Option Direction). TellsNextFollowed sent c.args.inspector.now.held.follower 0
    (followed_by c.args.message.now) (followed_by c.of_followed.result)) (sym way)
    (inr (record {
      message = c.in-Some-ahead.found;
      is = subst (λ (held : HeldInspector). IsFollowed held.follower c.in-Some.direction c.in-Some-ahead.found)
          c.get_mut.ensures.value c.in-Some-ahead.ensures;
      status_is = refl;
      told_is = c.of_followed.ensures;
    }))
