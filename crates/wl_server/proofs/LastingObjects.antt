-- No event destroys an object that the server made, and some event makes objects of its interface,
-- whatever the server reads and writes, and with tables that extend its own.
use Rattle.std.proofs.Common.{◌≡◌, ℕ, Bool, true, false, List, map, refl, sym, ap, subst, ◌∙◌}
use Rattle.std.specs.Prelude.{Result, IfOk, OnOk, OnErr, not}
use Rattle.std.specs.declared.option.Option.{Option}
use Rattle.std.specs.declared.option.Option.TheVariants.{None, Some}
use Rattle.std.specs.declared.result.Result.TheVariants.{Ok, Err}
use Rattle.wl_wire.specs.declared.kind.Iface.{Iface}
use Rattle.wl_sigs.specs.Valid.{Valid}
use Rattle.wl_sigs.specs.Side.TheVariants.{Event}
use Rattle.wl_sigs.specs.Destroys.{Destroys}
use Rattle.wl_sigs.specs.Destroys.TheVariants.{Nothing, Target, Arg}
use Rattle.wl_sigs.specs.Tables.{Interface, MessageSignature}
use Rattle.wl_object_map.specs.declared.object.Object.{Object}
use Rattle.wl_object_map.specs.declared.object.Maker.TheVariants.{Server}
use Rattle.wl_object_map.specs.Ranges.{is_of_server}
use Rattle.wl_object_map.specs.Objects.{Objects, ObjectsAreSound, closed, look, next_id}
use Rattle.wl_objects.specs.declared.argument.Arg.{Arg as CallArg}
use Rattle.wl_objects.specs.declared.error.SendError.{SendError}
use Rattle.wl_objects.specs.Messages.{NewObject, checked, destroys, ended_id, opens}
use Rattle.wl_objects.specs.Writing.{given, wired}
use Rattle.wl_objects.proofs.Wholes.{passes}
use Rattle.wl_connection.specs.Core.{Core, past, with_view}
use Rattle.wl_connection.specs.MoreTables.{Extend, with_tables}
use Rattle.wl_connection.specs.Sending.{after_checked, after_send, following, made_at, version_at, with_following}
use Rattle.wl_connection.specs.ServerRange.{EventsMakeMade, HoldsOfMade, IsMadeBySome, NoEventEndsMade}
use Rattle.wl_connection.specs.ServerRange.{OpensHolding, OpensMadeBySome}
use Rattle.wl_connection.proofs.MadeByEvent.{IsMadeByEvent}
use Rattle.wl_connection.proofs.MoreTables.{by_some_extended, lasting_extended}
use Rattle.wl_connection.proofs.ServerRange.{followed_view, lasting_sent, made_closed, made_opened, opens_by, opens_made}
use Rattle.wl_connection.proofs.ServerRange.{tables_sent}
use Rattle.wl_server.specs.declared.announce.Announced.{Announced}
use Rattle.wl_server.specs.State.{Registry}
use Rattle.wl_server.specs.Announcing.{Due}
use Rattle.wl_server.specs.Calls.{after_drop, after_end, is_told_end}
use Rattle.wl_server.specs.Registries.{IsFreshId}
use Rattle.wl_server.specs.Steps.{Step, core_by, core_without}
use Rattle.wl_server.specs.Tellings.{IsAnnounced}
use Rattle.wl_server.proofs.OwedEvents.{tables-dues, view-dues}

-- A property, by the tables, of the interface of each object that the server made.

module _ (P : List Interface → Iface → Type 0) where
  abbrev Holds : Core → Type 0
  Holds core = HoldsOfMade (P core.tables) core.view

  -- this depends only on the tables and the objects
  kept_by : (core now : Core) → now.tables ≡ core.tables → now.view ≡ core.view → Holds core → Holds now
  kept_by core now tables view h = rw (tables, view) h

  followed : (b : Bool) (id : ℕ) (core : Core) → Holds core → Holds (with_following b id core)
  followed true id core h = h
  followed false id core h = h

  -- after a request
  pub kept_step : (core now : Core) (step : Step) → now ≡ core_by core step → IsFreshId core.view step.made
      → Holds core → Holds now
  kept_step core now step is fresh h =
      subst Holds (sym is) (ended step.ended (past (with_view core (opens core.view step.made)) step.size step.tokens)
      (made_opened (P core.tables) core.view step.made (of_client step.made fresh) h))
    where
      of_client : (made : Option NewObject) → IsFreshId core.view made → OpensHolding (P core.tables) made
      of_client None f = tt
      of_client (Some m) f = λ of_server. absurd (let client = f.1 in cc (client, of_server))

      ended : (o : Option Object) (k : Core) → Holds k → Holds (core_without o k)
      ended None k l = l
      ended (Some object) k l = followed (not (is_of_server object.id)) object.id
          (with_view k (closed k.view object.id)) (made_closed (P k.tables) k.view object.id l)

  -- after a call of drop_object
  pub kept_drop : {X E : Type 0} (core now : Core) (object : Object) (result : Result X E)
      → OnOk result (now ≡ after_drop core object) → OnErr result (now ≡ core) → Holds core → Holds now
  kept_drop core now object (Ok x) ok err h =
      subst Holds (sym ok) (made_closed (P core.tables) core.view object.id h)
  kept_drop core now object (Err why) ok err h = subst Holds (sym err) h

  -- after a call of end_object
  pub kept_end : {X E : Type 0} (core now : Core) (object : Object) (result : Result X E)
      → OnOk result (now ≡ after_end core object) → OnErr result (now ≡ core) → Holds core → Holds now
  kept_end core now object (Ok x) ok err h =
      subst Holds (sym ok) (followed (is_told_end object) object.id (with_view core (closed core.view object.id))
      (made_closed (P core.tables) core.view object.id h))
  kept_end core now object (Err why) ok err h = subst Holds (sym err) h

  -- after a call of announce
  pub kept_told : (core : Core) (rs : List Registry) (all : List Due) (told : Announced) (now : Core)
      (ms : List Registry) → IsAnnounced core rs all told now ms → Holds core → Holds now
  kept_told core rs all told now ms t h =
      let done = t.progress.done in
      kept_by core now (ap (λ (k : Core). k.tables) t.progress.written ∙ tables-dues core done)
      (ap (λ (k : Core). k.view) t.progress.written ∙ view-dues core done) h

-- ---- after a call of send

-- what a checked event makes
made_by_some : (core : Core) (target : Object) (opcode : ℕ) (list : List CallArg) (m : MessageSignature)
    → Valid core.tables
    → checked core.outbox.limit.bytes core.tables Event core.view target opcode (given list) ≡ Ok m
    → OpensMadeBySome core.tables (made_at core Event target m (given list))
made_by_some core target opcode list m v e =
    let p = passes core.outbox.limit.bytes core.tables Event core.view target opcode (given list) m e in
    let new = made_at core Event target m (given list) in
    opens_by (IsMadeByEvent core.tables) (IsMadeBySome core.tables) (λ iface i. i.by_some) new
    (opens_made core.tables v p.entry.iface.0 opcode (version_at (look core.view target.id)) m
    (map (wired (next_id Server core.view)) (given list)) new p.exists refl)

by_some_sent : (core : Core) (target : Object) (opcode : ℕ) (list : List CallArg) → Valid core.tables
    → EventsMakeMade core.tables core.view
    → EventsMakeMade core.tables (after_send core Event target opcode (given list)).view
by_some_sent core target opcode list v h =
    by_check (checked core.outbox.limit.bytes core.tables Event core.view target opcode (given list)) refl
  where
    ended : (what : Destroys) (id : ℕ) (view : Objects) → EventsMakeMade core.tables view
        → EventsMakeMade core.tables (destroys Event what id view)
    ended Nothing id view l = l
    ended Target id view l = made_closed (IsMadeBySome core.tables) view id l
    ended (Arg place) id view l = made_closed (IsMadeBySome core.tables) view id l

    by_check : (r : Result MessageSignature SendError)
        → checked core.outbox.limit.bytes core.tables Event core.view target opcode (given list) ≡ r
        → EventsMakeMade core.tables (after_checked core Event target opcode (given list) r).view
    by_check (Err why) e = h
    by_check (Ok m) e =
        let id = ended_id m.destroys target.id (map (wired 0) (given list)) in
        let new = made_at core Event target m (given list) in
        subst (EventsMakeMade core.tables) (sym (followed_view (following Event m.destroys) id _))
        (ended m.destroys id (opens core.view new)
        (made_opened (IsMadeBySome core.tables) core.view new (made_by_some core target opcode list m v e) h))

pub lasting_send : {X E : Type 0} (core now : Core) (target : Object) (opcode : ℕ) (list : List CallArg)
    (result : Result X E)
    → OnOk result (now ≡ after_send core Event target opcode (given list)) → OnErr result (now ≡ core)
    → IfOk result (λ _. Valid core.tables) → IfOk result (λ _. ObjectsAreSound core.view)
    → NoEventEndsMade core.tables core.view → NoEventEndsMade now.tables now.view
lasting_send core now target opcode list (Ok x) ok err valid sound h =
    subst (λ (k : Core). NoEventEndsMade k.tables k.view) (sym ok)
    (rw (tables_sent core Event target opcode list) (lasting_sent core Event target opcode list valid sound h))
lasting_send core now target opcode list (Err why) ok err valid sound h =
    subst (λ (k : Core). NoEventEndsMade k.tables k.view) (sym err) h

pub by_some_send : {X E : Type 0} (core now : Core) (target : Object) (opcode : ℕ) (list : List CallArg)
    (result : Result X E)
    → OnOk result (now ≡ after_send core Event target opcode (given list)) → OnErr result (now ≡ core)
    → IfOk result (λ _. Valid core.tables) → EventsMakeMade core.tables core.view
    → EventsMakeMade now.tables now.view
by_some_send core now target opcode list (Ok x) ok err valid h =
    subst (λ (k : Core). EventsMakeMade k.tables k.view) (sym ok)
    (rw (tables_sent core Event target opcode list) (by_some_sent core target opcode list valid h))
by_some_send core now target opcode list (Err why) ok err valid h =
    subst (λ (k : Core). EventsMakeMade k.tables k.view) (sym err) h

-- ---- after a call of more_tables

pub view_more : {X E : Type 0} (core now : Core) (tables : List Interface) (result : Result X E)
    → OnOk result (now ≡ with_tables core tables) → OnErr result (now ≡ core) → now.view ≡ core.view
view_more core now tables (Ok x) ok err = ap (λ (k : Core). k.view) ok
view_more core now tables (Err why) ok err = ap (λ (k : Core). k.view) err

pub lasting_more : {X E : Type 0} (core now : Core) (tables : List Interface) (result : Result X E)
    → OnOk result (now ≡ with_tables core tables) → OnErr result (now ≡ core) → Valid tables
    → Extend core.tables tables → NoEventEndsMade core.tables core.view → EventsMakeMade core.tables core.view
    → NoEventEndsMade now.tables now.view
lasting_more core now tables (Ok x) ok err valid extend l s =
    subst (λ (k : Core). NoEventEndsMade k.tables k.view) (sym ok)
    (lasting_extended core.tables tables valid extend core.view s)
lasting_more core now tables (Err why) ok err valid extend l s =
    subst (λ (k : Core). NoEventEndsMade k.tables k.view) (sym err) l

pub by_some_more : {X E : Type 0} (core now : Core) (tables : List Interface) (result : Result X E)
    → OnOk result (now ≡ with_tables core tables) → OnErr result (now ≡ core)
    → Extend core.tables tables → EventsMakeMade core.tables core.view → EventsMakeMade now.tables now.view
by_some_more core now tables (Ok x) ok err extend s =
    subst (λ (k : Core). EventsMakeMade k.tables k.view) (sym ok)
    (by_some_extended core.tables tables extend core.view s)
by_some_more core now tables (Err why) ok err extend s =
    subst (λ (k : Core). EventsMakeMade k.tables k.view) (sym err) s
