use Rattle.std.proofs.Common.{◌≡◌, ℕ, sym, ap, subst, ◌∙◌}
use Rattle.std.specs.Prelude.{◌&&◌, nat_lt}
use Rattle.std.specs.declared.result.Result.TheVariants.{Err as err}
use Rattle.wl_objects.specs.declared.error.NextError.TheVariants as errors
use Rattle.wl_connection.specs.Core.{Core, HasDisplay}
use Rattle.wl_connection.specs.Sending.{delete_id_len}
use Rattle.wl_server.specs.Steps.{needs_delete_id}
use Rattle.wl_server.proofs.Fronts.{Answers, Meant, can_apply_told, entry_told, fault_told, full_told}
use Rattle.wl_server.proofs.Fronts.{is_full_for, none_told, request_told}
use Rattle.wl_server.proofs.role.first_request.Goals as goal

pub returns-in-Ok-None-clause-answer : goal.returns-in-Ok-None-clause-answer
returns-in-Ok-None-clause-answer g c =
    let core = c.args.end.now.core in
    let globals = c.args.role.now.globals.items in
    none_told core globals
    (subst (Meant core globals c.first_message.new.end.args) c.in-Ok-None.field-0-is c.in-Ok-None.ensures.comes)

pub returns-in-Err-clause-answer : goal.returns-in-Err-clause-answer
returns-in-Err-clause-answer g c =
    let globals = c.args.role.now.globals.items in
    subst (λ (k : Core). Answers c.args.end.now.core globals (err (errors.Fault c.in-Err.fault k.read)))
    (sym (λ i. (c.end.view_is i).core))
    (fault_told c.args.end.now.core globals c.first_message.new.end.args c.in-Err.fault c.in-Err.ensures.comes)

pub returns-then-lacks_room-clause-answer : goal.returns-then-lacks_room-clause-answer
returns-then-lacks_room-clause-answer g c =
    full_told c.args.end.now.core c.args.role.now.globals.items c.first_message.new.end.args c.in-Ok-Some.request
    (subst (Meant c.args.end.now.core c.args.role.now.globals.items c.first_message.new.end.args) c.in-Ok-Some.field-0-is
    c.in-Ok-Some.ensures.comes)
    (subst (λ (k : Core). is_full_for k c.in-Ok-Some.request ≡ _) (λ i. (c.end.view_is i).core)
    (ap (λ (n : ℕ). needs_delete_id c.in-Ok-Some.request.change.ended && nat_lt n delete_id_len)
    (sym c.room-room.ensures.room)
    ∙ (sym c.lacks_room.ensures ∙ c.if-lacks_room.true)))

pub returns-clause-answer : goal.returns-clause-answer
returns-clause-answer g c =
    request_told c.args.end.now.core c.args.role.now.globals.items c.first_message.new.end.args c.in-Ok-Some.request
    (subst (Meant c.args.end.now.core c.args.role.now.globals.items c.first_message.new.end.args) c.in-Ok-Some.field-0-is
    c.in-Ok-Some.ensures.comes)
    (subst (λ (k : Core). is_full_for k c.in-Ok-Some.request ≡ _) (λ i. (c.end.view_is i).core)
    (ap (λ (n : ℕ). needs_delete_id c.in-Ok-Some.request.change.ended && nat_lt n delete_id_len)
    (sym c.room-room.ensures.room)
    ∙ (sym c.lacks_room.ensures ∙ c.if-lacks_room.false)))

pub returns-clause-can : goal.returns-clause-can
returns-clause-can g c =
    can_apply_told c.args.end.now.core c.args.role.now.globals.items c.first_message.new.end.args c.in-Ok-Some.request
    (subst (λ (k : Core). HasDisplay k.view) (λ i. (c.end.view_is i).core) c.end.invariant.display)
    (subst (Meant c.args.end.now.core c.args.role.now.globals.items c.first_message.new.end.args) c.in-Ok-Some.field-0-is
    c.in-Ok-Some.ensures.comes)
    (subst (λ (k : Core). is_full_for k c.in-Ok-Some.request ≡ _) (λ i. (c.end.view_is i).core)
    (ap (λ (n : ℕ). needs_delete_id c.in-Ok-Some.request.change.ended && nat_lt n delete_id_len)
    (sym c.room-room.ensures.room)
    ∙ (sym c.lacks_room.ensures ∙ c.if-lacks_room.false)))

pub returns-clause-entry : goal.returns-clause-entry
returns-clause-entry g c =
    entry_told c.args.end.now.core c.args.role.now.globals.items c.first_message.new.end.args c.in-Ok-Some.request
    (subst (Meant c.args.end.now.core c.args.role.now.globals.items c.first_message.new.end.args) c.in-Ok-Some.field-0-is
    c.in-Ok-Some.ensures.comes)
