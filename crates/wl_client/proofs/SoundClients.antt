-- A client stays sound, whatever it sends and reads, and with tables that extend its own: it frees
-- no id of the server's range, no event destroys an object that the server made, and for each such
-- object some event makes objects of its interface.
use Rattle.std.proofs.Common.{◌≡◌, ℕ, List, ap, sym, subst, ◌∙◌}
use Rattle.std.specs.Prelude.{IfOk, OnErr, OnOk}
use Rattle.std.specs.declared.option.Option.{Option}
use Rattle.std.specs.declared.option.Option.TheVariants.{Some}
use Rattle.std.specs.declared.result.Result.{Result}
use Rattle.std.specs.declared.result.Result.TheVariants.{Ok, Err}
use Rattle.wl_wire.specs.declared.kind.Iface.{Iface}
use Rattle.wl_sigs.specs.Side.TheVariants.{Request}
use Rattle.wl_sigs.specs.Tables.{Interface}
use Rattle.wl_sigs.specs.Valid.{Valid}
use Rattle.wl_object_map.specs.declared.object.Object.{Object}
use Rattle.wl_object_map.specs.declared.object.Maker.TheVariants.{Client}
use Rattle.wl_object_map.specs.Objects.{Objects, ObjectsAreSound, next_id, opened_at}
use Rattle.wl_object_map.specs.ObjectsLaws.{next_of_client}
use Rattle.wl_objects.specs.declared.argument.Arg.{Arg}
use Rattle.wl_objects.specs.Writing.{given}
use Rattle.wl_objects.specs.Messages.{NewObject, opens}
use Rattle.wl_connection.specs.Core.{Core, with_view}
use Rattle.wl_connection.specs.Sending.{after_send}
use Rattle.wl_connection.specs.MoreTables.{Extend, with_tables}
use Rattle.wl_connection.specs.ServerRange.{IsMadeBySome, NoEventEnds, OpensLasting, OpensMadeBySome}
use Rattle.wl_connection.proofs.ServerRange.{freed_closed, freed_opened, freed_sent, freed_zombied}
use Rattle.wl_connection.proofs.ServerRange.{made_closed, made_opened, made_requested, made_zombied, tables_sent}
use Rattle.wl_connection.proofs.MoreTables.{by_some_extended, lasting_extended}
use Rattle.wl_client.specs.declared.changes.ObjectChange.{ObjectChange}
use Rattle.wl_client.specs.declared.changes.ObjectChange.TheVariants.{Nothing, Zombie, Close}
use Rattle.wl_client.specs.State.{IsSound}
use Rattle.wl_client.specs.Steps.{CanChange, changed}

-- soundness depends only on the tables and the objects
pub sound_by : (core now : Core) → now.tables ≡ core.tables → now.view ≡ core.view → IsSound core → IsSound now
sound_by core now tables view s = record {
  frees_none = ap (λ (v : Objects). v.server.freed) view ∙ s.frees_none;
  lasting = rw (tables, view) s.lasting;
  by_some = rw (tables, view) s.by_some;
}

-- after an opening
pub sound_opened : (core : Core) (new : Option NewObject) → OpensLasting core.tables new
    → OpensMadeBySome core.tables new → IsSound core → IsSound (with_view core (opens core.view new))
sound_opened core new lasting by_some s = record {
  frees_none = freed_opened core.view new s.frees_none;
  lasting = made_opened (NoEventEnds core.tables) core.view new lasting s.lasting;
  by_some = made_opened (IsMadeBySome core.tables) core.view new by_some s.by_some;
}

-- after a change to an existing object
pub sound_changed : (core : Core) (change : ObjectChange) → CanChange core.view change → IsSound core
    → IsSound (with_view core (changed core.view change))
sound_changed core Nothing can s =
    record { frees_none = s.frees_none; lasting = s.lasting; by_some = s.by_some }
sound_changed core (Zombie id) can s = record {
  frees_none = freed_zombied core.view id s.frees_none;
  lasting = made_zombied (NoEventEnds core.tables) core.view id s.lasting;
  by_some = made_zombied (IsMadeBySome core.tables) core.view id s.by_some;
}
sound_changed core (Close id) can s = record {
  frees_none = freed_closed core.view id can.2 s.frees_none;
  lasting = made_closed (NoEventEnds core.tables) core.view id s.lasting;
  by_some = made_closed (IsMadeBySome core.tables) core.view id s.by_some;
}

-- after a call of send
pub sound_sent : {X E : Type 0} (before now : Core) (target : Object) (opcode : ℕ) (list : List Arg)
    (result : Result X E)
    → OnOk result (now ≡ after_send before Request target opcode (given list)) → OnErr result (now ≡ before)
    → IfOk result (λ _. Valid before.tables) → IfOk result (λ _. ObjectsAreSound before.view)
    → IsSound before → IsSound now
sound_sent before now target opcode list (Ok new) ok err valid sound s =
    let tables = tables_sent before Request target opcode list in
    subst IsSound (sym ok) (record {
      frees_none = freed_sent before target opcode list s.frees_none;
      lasting = rw tables (made_requested (NoEventEnds before.tables) before target opcode list sound s.lasting);
      by_some = rw tables (made_requested (IsMadeBySome before.tables) before target opcode list sound s.by_some);
    })
sound_sent before now target opcode list (Err why) ok err valid sound s = subst IsSound (sym err) s

-- after a bind opened its object
pub sound_bound : (core : Core) (iface : Iface) (version : ℕ) → ObjectsAreSound core.view → IsSound core
    → IsSound (with_view core (opened_at core.view (next_id Client core.view) iface version))
sound_bound core iface version sound s =
    sound_opened core (Some (record { id = next_id Client core.view; iface = iface; version = version }))
    (λ of_server. absurd (cc (next_of_client core.view sound, of_server)))
    (λ of_server. absurd (cc (next_of_client core.view sound, of_server))) s

-- after a call that extends the tables, or is refused
pub sound_extended : {X E : Type 0} (before now : Core) (tables : List Interface) (result : Result X E)
    → OnOk result (now ≡ with_tables before tables) → OnErr result (now ≡ before) → Valid tables
    → Extend before.tables tables → IsSound before → IsSound now
sound_extended before now tables (Ok x) ok err valid extend s = subst IsSound (sym ok) (record {
  frees_none = s.frees_none;
  lasting = lasting_extended before.tables tables valid extend before.view s.by_some;
  by_some = by_some_extended before.tables tables extend before.view s.by_some;
})
sound_extended before now tables (Err why) ok err valid extend s = subst IsSound (sym err) s
