-- What an end knows still holds for tables that extend its own.
use Rattle.std.proofs.Common.{◌≡◌, ℕ, List, [], true, Some, None, Option, Result, Ok, Err, refl, subst}
use Rattle.std.specs.Str.Lines.{lines}
use Rattle.std.proofs.lemmas.List.Elements.{All-contains}
use Rattle.wl_wire.specs.declared.kind.Kind.TheVariants as kinds
use Rattle.wl_wire.specs.declared.kind.Iface.{Iface}
use Rattle.wl_sigs.specs.Side.{Side}
use Rattle.wl_sigs.specs.Side.TheVariants.{Event}
use Rattle.wl_sigs.specs.Tables.{Interface, MessageSignature, interface_at, signature_at}
use Rattle.wl_sigs.specs.Rules.{has_server_objects}
use Rattle.wl_sigs.specs.Broken.{Broken}
use Rattle.wl_sigs.specs.Extended.{extended}
use Rattle.wl_sigs.specs.Extending.{first_line_broken}
use Rattle.wl_sigs.specs.Outcome.{extended_unless, outcome, outcome_of}
use Rattle.wl_sigs.specs.Valid.{Valid}
use Rattle.wl_text.specs.Text.{WrittenInterface, interfaces_from}
use Rattle.wl_sigs.proofs.Lookups.{found, signature_from}
use Rattle.wl_sigs.proofs.ServerObjectsTold.{told_by}
use Rattle.wl_object_map.specs.Objects.{Objects}
use Rattle.wl_connection.specs.MoreTables.{Extend}
use Rattle.wl_connection.specs.ServerRange.{EventsMakeMade, IsMadeBySome, NoEventEnds, NoEventEndsMade}
use Rattle.wl_connection.proofs.MadeByEvent.{MadeRightly, ended_by}

-- a message is unchanged
pub stays : (tables more : List Interface) → Extend tables more → (place : ℕ) (side : Side) (opcode : ℕ)
    (m : MessageSignature) → signature_at tables place side opcode ≡ Some m
    → signature_at more place side opcode ≡ Some m
stays tables more extend place side opcode m e =
    let at = found tables place side opcode m e in
    let there = extend place at.interface at.at in
    signature_from more place side opcode there.0 m there.1 (there.4 side opcode m at.of)

-- an interface that an event makes is still made by it
by_some_stays : (tables more : List Interface) → Extend tables more → (iface : Iface) → IsMadeBySome tables iface
    → IsMadeBySome more iface
by_some_stays tables more extend iface by = record {
  place = by.place;
  opcode = by.opcode;
  event = by.event;
  at = stays tables more extend by.place Event by.opcode by.event by.at;
  has = by.has;
}

-- no event destroys an object that an event makes
lasts : (tables : List Interface) → Valid tables → (iface : Iface) → IsMadeBySome tables iface → NoEventEnds tables iface
lasts tables v iface by =
    let rule = All-contains (MadeRightly tables) by.event.kinds (kinds.NewByServer iface)
    (v.server_makes.interfaces Event by.place by.opcode by.event by.at) by.has in
    ended_by (interface_at tables iface.0) (λ i there. (rule iface i refl there).0)

pub by_some_extended : (tables more : List Interface) → Extend tables more → (view : Objects)
    → EventsMakeMade tables view → EventsMakeMade more view
by_some_extended tables more extend view by id e of_server row =
    by_some_stays tables more extend e.iface (by id e of_server row)

pub lasting_extended : (tables more : List Interface) → Valid more → Extend tables more → (view : Objects)
    → EventsMakeMade tables view → NoEventEndsMade more view
lasting_extended tables more v extend view by id e of_server row =
    lasts more v e.iface (by_some_extended tables more extend view by id e of_server row)

-- if the server makes objects by some tables, it does by tables that extend them
pub has_more : (tables more : List Interface) → Extend tables more → has_server_objects tables ≡ true
    → has_server_objects more ≡ true
has_more tables more extend e =
    let has = (told_by tables (has_server_objects tables) refl).0 e in
    (told_by more (has_server_objects more) refl).1 (record {
      place = has.place;
      opcode = has.opcode;
      event = has.event;
      iface = has.iface;
      at = stays tables more extend has.place Event has.opcode has.event has.at;
      has = has.has;
    })

-- tables with a text added extend the tables, as places and opcodes are unchanged
pub text_extends : ((tables : List Interface) (written : List WrittenInterface) → Extend tables (extended tables written))
    → (tables more : List Interface) (text : List ℕ) → outcome tables text ≡ Ok more → Extend tables more
text_extends stay tables more text is = by_read (interfaces_from 1 (lines text) []) is
  where
    by_broken : (written : List WrittenInterface) (first : Option Broken)
        → extended_unless tables written first ≡ Ok more → Extend tables more
    by_broken written None e =
        let same : extended tables written ≡ more = cc e in subst (Extend tables) same (stay tables written)
    by_broken written (Some first) e = absurd (cc e)

    by_read : (r : Result (List WrittenInterface) ℕ) → outcome_of tables r ≡ Ok more → Extend tables more
    by_read (Err line) e = absurd (cc e)
    by_read (Ok written) e = by_broken written (first_line_broken tables written) e
