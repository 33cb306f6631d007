use Rattle.std.proofs.Common.{◌≡◌, ◌∙◌, ℕ, List, Option, Some, IfSome, sym, subst}
use Rattle.wl_recording.specs.declared.piece.Direction.{Direction}
use Rattle.wl_sigs.specs.Tables.{Interface}
use Rattle.wl_check.specs.Inspected.{PassesPiece}
use Rattle.wl_check.specs.Printed.{piece_of}
use Rattle.waywire_c.specs.Inspecting.{direction_of}
use Rattle.waywire_c.specs.declared.held.HeldInspector.{HeldInspector}
use Rattle.waywire_c.proofs.inspector.waywire_c_inspector_pass.Goals as goal

-- the sender has this direction, and the piece passed the inspector of the handle
pub returns-in-Ok-clause-passed : goal.returns-in-Ok-clause-passed
returns-in-Ok-clause-passed c = λ done.
    let way : direction_of c.args.sender ≡ Some c.in-Some.direction = sym c.direction_of.ensures ∙ c.in-Some.is in
    subst (λ (sent : Option Direction). IfSome sent
    (λ direction. (limit : ℕ) (tables : List Interface)
    → PassesPiece limit tables (piece_of direction c.args.bytes.now c.args.tokens) c.args.inspector.now.held.inspector
    c.pass.new.self))
    (sym way)
    (λ limit tables. subst (λ (held : HeldInspector). PassesPiece limit tables
    (piece_of c.in-Some.direction c.args.bytes.now c.args.tokens) held.inspector c.pass.new.self)
    c.get_mut.ensures.value (c.in-Ok.ensures.ok limit tables))
