use Rattle.std.proofs.Common.{◌≡◌, ℕ, List, true, false, take, Some, None, refl, sym, ap, ◌∙◌, rules}
use Rattle.std.specs.Prelude.{nat_eq}
use Rattle.wl_sigs.specs.Side.TheVariants.{Event as event_side}
use Rattle.wl_sigs.specs.Fixed.{display}
use Rattle.wl_object_map.specs.Objects.{look}
use Rattle.wl_objects.specs.Messages.{reader_of, same_iface}
use Rattle.wl_objects.specs.Seen.{received_of}
use Rattle.wl_connection.specs.FirstMessage.{headed}
use Rattle.wl_connection.proofs.ReceivedMessage.{is_received}
use Rattle.wl_client.specs.Outlines.{outline_entry, outlined}
use Rattle.wl_client.specs.Reports.{Discarded, is_delete_event, is_error_event, plain_report}
use Rattle.wl_client.specs.Steps.{end_with, made_by_found}
use Rattle.wl_client.proofs.Makings.{display_makes_none}
use Rattle.wl_client.proofs.Meanings.{of_display}
use Rattle.wl_client.proofs.PendingEvents.{delete_pending, error_pending, live_told, plain_pending}
use Rattle.wl_client.proofs.role.ClientRoleAllocMeaning.pending_of.Goals as goal
use Rattle.wl_client.proofs.role.ClientRoleAllocMeaning.pending_of.Goals.{in-DISPLAY-eq0, in-DISPLAY-eq1, in_default}
use Rattle.wl_client.proofs.role.ClientRoleAllocMeaning.pending_of.Goals.{in_default-via-in-0+in_default}
use Rattle.wl_client.proofs.role.ClientRoleAllocMeaning.pending_of.Goals.{in_default-via-in_default, in-Zombie, in-Live}

pub returns : goal.returns
returns g c =
    let tables = c.args.tables.now in
    let view = c.args.objects.now in
    let header = c.args.header in
    let m = c.args.message.now in
    let body = m.body.now in
    let args = m.args.now in
    let read = c.requires.read in
    let f = headed header (received_of m) in
    let p = is_received tables event_side (reader_of tables event_side view) header body read.waiting (received_of m)
    read.is_read in
    let none : same_iface m.entry.iface display ≡ true → made_by_found tables f ≡ None =
    λ is. display_makes_none tables m.entry header.opcode m.entry.version m.signature.now (received_of m).values
    read.valid p.signature is in
    let row : look view m.target.id ≡ Some m.entry = ap (look view) p.id ∙ p.row in
    elim c.match-message.branch [
      | in-DISPLAY-eq0 w ↦ (
          let error : is_error_event f ≡ true = search rules in
          let r = w.meaning_of_error.result in
          let e = w.meaning_of_error.ensures in
          rw w.outline-is (error_pending tables view body args f r.0 r.1 r.2 header.size m.tokens refl read.tokens e.entry
          error (none (of_display m.entry.iface (nat_eq header.opcode 0) error))
          (λ waiting. e.outline tables waiting read.parsed) e.change))
      | in-DISPLAY-eq1 w ↦ (
          let error : is_error_event f ≡ false = search rules in
          let delete : is_delete_event f ≡ true = search rules in
          let r = w.meaning_of_delete_id.result in
          let e = w.meaning_of_delete_id.ensures in
          rw w.outline-is (delete_pending tables view body args f r.0 r.1 r.2 header.size m.tokens refl read.tokens
          e.entry error delete (none (of_display m.entry.iface (nat_eq header.opcode 1) delete))
          (λ waiting. e.outline tables body waiting args) e.made e.changed e.can e.globals e.last))
      | in_default w ↦ (
          let error : is_error_event f ≡ false = elim w.in_default.branch [
            | in_default-via-in-0+in_default v ↦ search rules
            | in_default-via-in_default v ↦ search rules
          ] in
          let delete : is_delete_event f ≡ false = elim w.in_default.branch [
            | in_default-via-in-0+in_default v ↦ search rules
            | in_default-via-in_default v ↦ search rules
          ] in
          let outline = w.match-message-2.outline in
          let e = w.change_of-change.ensures in
          let told : (waiting : List ℕ) → outlined body args waiting outline
          ≡ plain_report (end_with tables view waiting) header.opcode (received_of m) m.entry.state =
          λ waiting. elim w.match-message-2.branch [
            | in-Zombie z ↦ (
                ap (outlined body args waiting) z.outline-is
                ∙ (ap (λ (n : ℕ). Discarded m.target header.opcode (take n waiting)) read.tokens
                ∙ ap (plain_report (end_with tables view waiting) header.opcode (received_of m)) (sym z.in-Zombie.is)))
            | in-Live l ↦ (
                ap (outlined body args waiting) l.outline-is
                ∙ (live_told tables view body args header.opcode l.births.result (received_of m) waiting read.parsed
                l.births.ensures
                ∙ ap (plain_report (end_with tables view waiting) header.opcode (received_of m)) (sym l.in-Live.is)))
          ] in
          let about : Some m.entry ≡ outline_entry view outline = elim w.match-message-2.branch [
            | in-Zombie z ↦ sym row ∙ ap (outline_entry view) (sym z.outline-is)
            | in-Live l ↦ sym row ∙ ap (outline_entry view) (sym l.outline-is)
          ] in
          rw w.outline-is (plain_pending tables view body args f outline w.change_of-change.result (Some m.entry)
          header.size m.tokens refl read.tokens about error delete row told e.made e.changed e.can e.globals e.last))
    ]
