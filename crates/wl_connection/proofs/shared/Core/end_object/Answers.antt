use Rattle.std.proofs.Common.{◌≡◌, ◌≢◌, ℕ, true, sym, ap, subst, ◌∙◌, rules}
use Rattle.std.specs.Borrow.{Bor}
use Rattle.std.specs.Prelude.{option_map}
use Rattle.wl_sigs.specs.Destroys.{Destroys}
use Rattle.wl_sigs.specs.Side.TheVariants.{Event, Request}
use Rattle.wl_sigs.specs.Tables.{destroys_one}
use Rattle.wl_object_map.specs.Objects.{is_live}
use Rattle.wl_objects.specs.declared.argument.Arg.{Arg}
use Rattle.wl_objects.specs.Messages.{ended_id, id_named}
use Rattle.wl_objects.specs.Writing.{given_of, on_wire, wired}
use Rattle.wl_connection.proofs.Ends.{named_got}
use Rattle.wl_connection.proofs.EndedObjects.{ended_by, held_live}
use Rattle.wl_connection.proofs.shared.Core.end_object.Goals as goal
use Rattle.wl_connection.proofs.shared.Core.end_object.Goals.{in-Target, in-Arg+in-Some-Obj-Some, in-Arg+in_default}
use Rattle.wl_connection.proofs.shared.Core.end_object.Goals.{in-Arg+in_default-2, in-Arg+in_default-3}

pub make_zombie-requires-clause-live : goal.make_zombie-requires-clause-live
make_zombie-requires-clause-live g c =
    let list = c.args.args.now in
    let id : c.match-what.id ≡ ended_id c.args.what c.args.target (on_wire 0 list) = elim c.match-what.branch [
      | in-Target w ↦ w.id-is ∙ ap (λ (d : Destroys). ended_id d c.args.target (on_wire 0 list)) (sym w.in-Target.is)
      | in-Arg+in-Some-Obj-Some w ↦ (
          let named : id_named (option_map (λ (b : Bor Arg). wired 0 (given_of b.now)) w.get.result) ≡ c.match-what.id =
          search rules in
          sym (named_got list w.in-Arg.place w.get.result w.get.ensures.lookup ∙ named)
          ∙ ap (λ (d : Destroys). ended_id d c.args.target (on_wire 0 list)) (sym w.in-Arg.is))
      | in-Arg+in_default w ↦ (
          let named : id_named (option_map (λ (b : Bor Arg). wired 0 (given_of b.now)) w.get.result) ≡ c.match-what.id =
          search rules in
          sym (named_got list w.in-Arg.place w.get.result w.get.ensures.lookup ∙ named)
          ∙ ap (λ (d : Destroys). ended_id d c.args.target (on_wire 0 list)) (sym w.in-Arg.is))
      | in-Arg+in_default-2 w ↦ (
          let named : id_named (option_map (λ (b : Bor Arg). wired 0 (given_of b.now)) w.get.result) ≡ c.match-what.id =
          search rules in
          sym (named_got list w.in-Arg.place w.get.result w.get.ensures.lookup ∙ named)
          ∙ ap (λ (d : Destroys). ended_id d c.args.target (on_wire 0 list)) (sym w.in-Arg.is))
      | in-Arg+in_default-3 w ↦ (
          let named : id_named (option_map (λ (b : Bor Arg). wired 0 (given_of b.now)) w.get.result) ≡ c.match-what.id =
          search rules in
          sym (named_got list w.in-Arg.place w.get.result w.get.ensures.lookup ∙ named)
          ∙ ap (λ (d : Destroys). ended_id d c.args.target (on_wire 0 list)) (sym w.in-Arg.is))
    ] in
    ap (is_live c.args.self.now.view) id ∙ c.requires.live

pub make_zombie-requires-clause-not_display : goal.make_zombie-requires-clause-not_display
make_zombie-requires-clause-not_display g c =
    let list = c.args.args.now in
    let id : c.match-what.id ≡ ended_id c.args.what c.args.target (on_wire 0 list) = elim c.match-what.branch [
      | in-Target w ↦ w.id-is ∙ ap (λ (d : Destroys). ended_id d c.args.target (on_wire 0 list)) (sym w.in-Target.is)
      | in-Arg+in-Some-Obj-Some w ↦ (
          let named : id_named (option_map (λ (b : Bor Arg). wired 0 (given_of b.now)) w.get.result) ≡ c.match-what.id =
          search rules in
          sym (named_got list w.in-Arg.place w.get.result w.get.ensures.lookup ∙ named)
          ∙ ap (λ (d : Destroys). ended_id d c.args.target (on_wire 0 list)) (sym w.in-Arg.is))
      | in-Arg+in_default w ↦ (
          let named : id_named (option_map (λ (b : Bor Arg). wired 0 (given_of b.now)) w.get.result) ≡ c.match-what.id =
          search rules in
          sym (named_got list w.in-Arg.place w.get.result w.get.ensures.lookup ∙ named)
          ∙ ap (λ (d : Destroys). ended_id d c.args.target (on_wire 0 list)) (sym w.in-Arg.is))
      | in-Arg+in_default-2 w ↦ (
          let named : id_named (option_map (λ (b : Bor Arg). wired 0 (given_of b.now)) w.get.result) ≡ c.match-what.id =
          search rules in
          sym (named_got list w.in-Arg.place w.get.result w.get.ensures.lookup ∙ named)
          ∙ ap (λ (d : Destroys). ended_id d c.args.target (on_wire 0 list)) (sym w.in-Arg.is))
      | in-Arg+in_default-3 w ↦ (
          let named : id_named (option_map (λ (b : Bor Arg). wired 0 (given_of b.now)) w.get.result) ≡ c.match-what.id =
          search rules in
          sym (named_got list w.in-Arg.place w.get.result w.get.ensures.lookup ∙ named)
          ∙ ap (λ (d : Destroys). ended_id d c.args.target (on_wire 0 list)) (sym w.in-Arg.is))
    ] in
    let one : destroys_one c.args.what ≡ true = elim c.match-what.branch [
      | in-Target w ↦ ap destroys_one w.in-Target.is
      | in-Arg+in-Some-Obj-Some w ↦ ap destroys_one w.in-Arg.is
      | in-Arg+in_default w ↦ ap destroys_one w.in-Arg.is
      | in-Arg+in_default-2 w ↦ ap destroys_one w.in-Arg.is
      | in-Arg+in_default-3 w ↦ ap destroys_one w.in-Arg.is
    ] in
    subst (λ (n : ℕ). n ≢ 1) (sym id) (c.requires.other one)

pub delete_object-requires-clause-held : goal.delete_object-requires-clause-held
delete_object-requires-clause-held g c =
    let list = c.args.args.now in
    let id : c.match-what.id ≡ ended_id c.args.what c.args.target (on_wire 0 list) = elim c.match-what.branch [
      | in-Target w ↦ w.id-is ∙ ap (λ (d : Destroys). ended_id d c.args.target (on_wire 0 list)) (sym w.in-Target.is)
      | in-Arg+in-Some-Obj-Some w ↦ (
          let named : id_named (option_map (λ (b : Bor Arg). wired 0 (given_of b.now)) w.get.result) ≡ c.match-what.id =
          search rules in
          sym (named_got list w.in-Arg.place w.get.result w.get.ensures.lookup ∙ named)
          ∙ ap (λ (d : Destroys). ended_id d c.args.target (on_wire 0 list)) (sym w.in-Arg.is))
      | in-Arg+in_default w ↦ (
          let named : id_named (option_map (λ (b : Bor Arg). wired 0 (given_of b.now)) w.get.result) ≡ c.match-what.id =
          search rules in
          sym (named_got list w.in-Arg.place w.get.result w.get.ensures.lookup ∙ named)
          ∙ ap (λ (d : Destroys). ended_id d c.args.target (on_wire 0 list)) (sym w.in-Arg.is))
      | in-Arg+in_default-2 w ↦ (
          let named : id_named (option_map (λ (b : Bor Arg). wired 0 (given_of b.now)) w.get.result) ≡ c.match-what.id =
          search rules in
          sym (named_got list w.in-Arg.place w.get.result w.get.ensures.lookup ∙ named)
          ∙ ap (λ (d : Destroys). ended_id d c.args.target (on_wire 0 list)) (sym w.in-Arg.is))
      | in-Arg+in_default-3 w ↦ (
          let named : id_named (option_map (λ (b : Bor Arg). wired 0 (given_of b.now)) w.get.result) ≡ c.match-what.id =
          search rules in
          sym (named_got list w.in-Arg.place w.get.result w.get.ensures.lookup ∙ named)
          ∙ ap (λ (d : Destroys). ended_id d c.args.target (on_wire 0 list)) (sym w.in-Arg.is))
    ] in
    held_live c.args.self.now.view c.match-what.id (ap (is_live c.args.self.now.view) id ∙ c.requires.live)

pub delete_object-requires-clause-not_display : goal.delete_object-requires-clause-not_display
delete_object-requires-clause-not_display g c =
    let list = c.args.args.now in
    let id : c.match-what.id ≡ ended_id c.args.what c.args.target (on_wire 0 list) = elim c.match-what.branch [
      | in-Target w ↦ w.id-is ∙ ap (λ (d : Destroys). ended_id d c.args.target (on_wire 0 list)) (sym w.in-Target.is)
      | in-Arg+in-Some-Obj-Some w ↦ (
          let named : id_named (option_map (λ (b : Bor Arg). wired 0 (given_of b.now)) w.get.result) ≡ c.match-what.id =
          search rules in
          sym (named_got list w.in-Arg.place w.get.result w.get.ensures.lookup ∙ named)
          ∙ ap (λ (d : Destroys). ended_id d c.args.target (on_wire 0 list)) (sym w.in-Arg.is))
      | in-Arg+in_default w ↦ (
          let named : id_named (option_map (λ (b : Bor Arg). wired 0 (given_of b.now)) w.get.result) ≡ c.match-what.id =
          search rules in
          sym (named_got list w.in-Arg.place w.get.result w.get.ensures.lookup ∙ named)
          ∙ ap (λ (d : Destroys). ended_id d c.args.target (on_wire 0 list)) (sym w.in-Arg.is))
      | in-Arg+in_default-2 w ↦ (
          let named : id_named (option_map (λ (b : Bor Arg). wired 0 (given_of b.now)) w.get.result) ≡ c.match-what.id =
          search rules in
          sym (named_got list w.in-Arg.place w.get.result w.get.ensures.lookup ∙ named)
          ∙ ap (λ (d : Destroys). ended_id d c.args.target (on_wire 0 list)) (sym w.in-Arg.is))
      | in-Arg+in_default-3 w ↦ (
          let named : id_named (option_map (λ (b : Bor Arg). wired 0 (given_of b.now)) w.get.result) ≡ c.match-what.id =
          search rules in
          sym (named_got list w.in-Arg.place w.get.result w.get.ensures.lookup ∙ named)
          ∙ ap (λ (d : Destroys). ended_id d c.args.target (on_wire 0 list)) (sym w.in-Arg.is))
    ] in
    let one : destroys_one c.args.what ≡ true = elim c.match-what.branch [
      | in-Target w ↦ ap destroys_one w.in-Target.is
      | in-Arg+in-Some-Obj-Some w ↦ ap destroys_one w.in-Arg.is
      | in-Arg+in_default w ↦ ap destroys_one w.in-Arg.is
      | in-Arg+in_default-2 w ↦ ap destroys_one w.in-Arg.is
      | in-Arg+in_default-3 w ↦ ap destroys_one w.in-Arg.is
    ] in
    subst (λ (n : ℕ). n ≢ 1) (sym id) (c.requires.other one)

pub returns-in-Request : goal.returns-in-Request
returns-in-Request g c =
    let list = c.args.args.now in
    let id : c.match-what.id ≡ ended_id c.args.what c.args.target (on_wire 0 list) = elim c.match-what.branch [
      | in-Target w ↦ w.id-is ∙ ap (λ (d : Destroys). ended_id d c.args.target (on_wire 0 list)) (sym w.in-Target.is)
      | in-Arg+in-Some-Obj-Some w ↦ (
          let named : id_named (option_map (λ (b : Bor Arg). wired 0 (given_of b.now)) w.get.result) ≡ c.match-what.id =
          search rules in
          sym (named_got list w.in-Arg.place w.get.result w.get.ensures.lookup ∙ named)
          ∙ ap (λ (d : Destroys). ended_id d c.args.target (on_wire 0 list)) (sym w.in-Arg.is))
      | in-Arg+in_default w ↦ (
          let named : id_named (option_map (λ (b : Bor Arg). wired 0 (given_of b.now)) w.get.result) ≡ c.match-what.id =
          search rules in
          sym (named_got list w.in-Arg.place w.get.result w.get.ensures.lookup ∙ named)
          ∙ ap (λ (d : Destroys). ended_id d c.args.target (on_wire 0 list)) (sym w.in-Arg.is))
      | in-Arg+in_default-2 w ↦ (
          let named : id_named (option_map (λ (b : Bor Arg). wired 0 (given_of b.now)) w.get.result) ≡ c.match-what.id =
          search rules in
          sym (named_got list w.in-Arg.place w.get.result w.get.ensures.lookup ∙ named)
          ∙ ap (λ (d : Destroys). ended_id d c.args.target (on_wire 0 list)) (sym w.in-Arg.is))
      | in-Arg+in_default-3 w ↦ (
          let named : id_named (option_map (λ (b : Bor Arg). wired 0 (given_of b.now)) w.get.result) ≡ c.match-what.id =
          search rules in
          sym (named_got list w.in-Arg.place w.get.result w.get.ensures.lookup ∙ named)
          ∙ ap (λ (d : Destroys). ended_id d c.args.target (on_wire 0 list)) (sym w.in-Arg.is))
    ] in
    let one : destroys_one c.args.what ≡ true = elim c.match-what.branch [
      | in-Target w ↦ ap destroys_one w.in-Target.is
      | in-Arg+in-Some-Obj-Some w ↦ ap destroys_one w.in-Arg.is
      | in-Arg+in_default w ↦ ap destroys_one w.in-Arg.is
      | in-Arg+in_default-2 w ↦ ap destroys_one w.in-Arg.is
      | in-Arg+in_default-3 w ↦ ap destroys_one w.in-Arg.is
    ] in
    c.make_zombie.ensures ∙ ended_by c.args.self.now Request c.args.side c.args.what c.match-what.id
    (ended_id c.args.what c.args.target (on_wire 0 list)) (sym c.in-Request.is) one id

pub returns-in-Event : goal.returns-in-Event
returns-in-Event g c =
    let list = c.args.args.now in
    let id : c.match-what.id ≡ ended_id c.args.what c.args.target (on_wire 0 list) = elim c.match-what.branch [
      | in-Target w ↦ w.id-is ∙ ap (λ (d : Destroys). ended_id d c.args.target (on_wire 0 list)) (sym w.in-Target.is)
      | in-Arg+in-Some-Obj-Some w ↦ (
          let named : id_named (option_map (λ (b : Bor Arg). wired 0 (given_of b.now)) w.get.result) ≡ c.match-what.id =
          search rules in
          sym (named_got list w.in-Arg.place w.get.result w.get.ensures.lookup ∙ named)
          ∙ ap (λ (d : Destroys). ended_id d c.args.target (on_wire 0 list)) (sym w.in-Arg.is))
      | in-Arg+in_default w ↦ (
          let named : id_named (option_map (λ (b : Bor Arg). wired 0 (given_of b.now)) w.get.result) ≡ c.match-what.id =
          search rules in
          sym (named_got list w.in-Arg.place w.get.result w.get.ensures.lookup ∙ named)
          ∙ ap (λ (d : Destroys). ended_id d c.args.target (on_wire 0 list)) (sym w.in-Arg.is))
      | in-Arg+in_default-2 w ↦ (
          let named : id_named (option_map (λ (b : Bor Arg). wired 0 (given_of b.now)) w.get.result) ≡ c.match-what.id =
          search rules in
          sym (named_got list w.in-Arg.place w.get.result w.get.ensures.lookup ∙ named)
          ∙ ap (λ (d : Destroys). ended_id d c.args.target (on_wire 0 list)) (sym w.in-Arg.is))
      | in-Arg+in_default-3 w ↦ (
          let named : id_named (option_map (λ (b : Bor Arg). wired 0 (given_of b.now)) w.get.result) ≡ c.match-what.id =
          search rules in
          sym (named_got list w.in-Arg.place w.get.result w.get.ensures.lookup ∙ named)
          ∙ ap (λ (d : Destroys). ended_id d c.args.target (on_wire 0 list)) (sym w.in-Arg.is))
    ] in
    let one : destroys_one c.args.what ≡ true = elim c.match-what.branch [
      | in-Target w ↦ ap destroys_one w.in-Target.is
      | in-Arg+in-Some-Obj-Some w ↦ ap destroys_one w.in-Arg.is
      | in-Arg+in_default w ↦ ap destroys_one w.in-Arg.is
      | in-Arg+in_default-2 w ↦ ap destroys_one w.in-Arg.is
      | in-Arg+in_default-3 w ↦ ap destroys_one w.in-Arg.is
    ] in
    c.delete_object.ensures ∙ ended_by c.args.self.now Event c.args.side c.args.what c.match-what.id
    (ended_id c.args.what c.args.target (on_wire 0 list)) (sym c.in-Event.is) one id
