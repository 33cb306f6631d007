-- The server's range at an end: no reading or writing changes whether it has a table of its own,
-- and no event destroys an object that the server made.
use Rattle.std.proofs.Common.{◌≡◌, ℕ, Bool, true, false, List, [], refl, sym, ap, subst, ◌∙◌, cond, eqb}
use Rattle.std.proofs.Common.{arith, inl, inr, map}
use Rattle.std.proofs.lemmas.Bool.Decides.{nat_tests}
use Rattle.std.specs.Prelude.{OnErr, OnOk}
use Rattle.std.specs.declared.option.Option.{Option}
use Rattle.std.specs.declared.option.Option.TheVariants.{None, Some}
use Rattle.std.specs.declared.result.Result.{Result}
use Rattle.std.specs.declared.result.Result.TheVariants.{Ok, Err}
use Rattle.wl_wire.specs.declared.kind.Iface.{Iface}
use Rattle.wl_wire.specs.Argument.{Argument}
use Rattle.wl_sigs.specs.Side.{Side}
use Rattle.wl_sigs.specs.Side.TheVariants.{Request, Event}
use Rattle.wl_sigs.specs.Destroys.{Destroys}
use Rattle.wl_sigs.specs.Destroys.TheVariants.{Nothing, Target, Arg}
use Rattle.wl_sigs.specs.Tables.{Interface, MessageSignature, signature_at}
use Rattle.wl_sigs.specs.Fixed.{display}
use Rattle.wl_sigs.specs.Valid.{Valid}
use Rattle.wl_object_map.specs.declared.object.Entry.{Entry}
use Rattle.wl_object_map.specs.declared.object.Object.{Object}
use Rattle.wl_object_map.specs.View as table
use Rattle.wl_object_map.specs.View.{zombie}
use Rattle.wl_object_map.specs.Ranges.{is_of_server, table_id}
use Rattle.wl_object_map.specs.declared.object.Maker.TheVariants.{Client, Server}
use Rattle.wl_object_map.specs.Objects.{Objects, ObjectsAreSound, look, opening, closed, zombied, next_id}
use Rattle.wl_object_map.specs.ObjectsLaws.{look-opening, is_from, next_of_client}
use Rattle.wl_object_map.specs.ObjectsLaws.{row-opened_at, row-closed, row-zombied}
use Rattle.wl_objects.specs.declared.argument.Arg.{Arg as CallArg}
use Rattle.wl_objects.specs.declared.error.SendError.{SendError}
use Rattle.wl_objects.specs.Writing.{given, wired, call_makes}
use Rattle.wl_objects.specs.Messages.{NewObject, made, opens, destroyed, destroys, after, checked, ended_id}
use Rattle.wl_objects.proofs.Wholes.{passes}
use Rattle.wl_connection.specs.Core.{Core}
use Rattle.wl_connection.specs.Sending.{after_send, after_checked, made_at, following, with_following}
use Rattle.wl_connection.specs.Sending.{next_object, version_at}
use Rattle.wl_connection.specs.ServerRange.{HoldsOfMade, NoEventEnds, NoEventEndsMade, OpensHolding, OpensLasting}
use Rattle.wl_connection.proofs.CheckedSends.{made-next}
use Rattle.wl_connection.proofs.MadeByEvent.{IsMadeByEvent, made_by_event}

-- an opening that may be refused does not change whether the range has a table
pub range_of : {X E : Type 0} (result : Result X E) (before now changed : Objects) → OnOk result (now ≡ changed) → OnErr result (now ≡ before)
    → changed.has_server_range ≡ before.has_server_range → now.has_server_range ≡ before.has_server_range
range_of (Ok x) before now changed ok err kept = ap (λ (o : Objects). o.has_server_range) ok ∙ kept
range_of (Err why) before now changed ok err kept = ap (λ (o : Objects). o.has_server_range) err

-- A property of the interface of each object that the server made, for instance that no event
-- destroys it.

module _ (P : Iface → Type 0) where
  -- a new end has no such object
  pub made_opening : (range : Bool) → HoldsOfMade P (opening display range)
  made_opening range id e of_server row =
      let low = is_from id of_server in
      let other : eqb id 1 ≡ false = grind (arith, nat_tests, low) in
      let none : look (opening display range) id ≡ None = look-opening display range id ∙ rw other refl in
      absurd (cc (none, row))

  pub made_closed : (view : Objects) (id : ℕ) → HoldsOfMade P view → HoldsOfMade P (closed view id)
  made_closed view id h q e of_server row = h q e of_server (row-closed view id q e row).1

  pub made_zombied : (view : Objects) (id : ℕ) → HoldsOfMade P view → HoldsOfMade P (zombied view id)
  made_zombied view id h q e of_server row =
      let d = row-zombied view id q e row in
      subst (λ (x : Entry). P x.iface) (sym d.1.1) (by_test (eqb q id) d.0 (h q d.0 of_server d.1.0))
    where
      by_test : (b : Bool) (x : Entry) → P x.iface → P (cond b (zombie x) x).iface
      by_test true x p = p
      by_test false x p = p

  pub made_opened : (view : Objects) (new : Option NewObject) → OpensHolding P new → HoldsOfMade P view
      → HoldsOfMade P (opens view new)
  made_opened view None o h = h
  made_opened view (Some m) o h = λ q e of_server row.
      elim (row-opened_at view m.id m.iface m.version q e row) [
        | inl new ↦ subst (λ (x : Entry). P x.iface) (sym new.1)
            (o (ap is_of_server (sym new.0) ∙ of_server))
        | inr old ↦ h q e of_server old.1
      ]

  made_destroyed : (side : Side) (view : Objects) (id : ℕ) → HoldsOfMade P view
      → HoldsOfMade P (destroyed side view id)
  made_destroyed Request view id h = made_zombied view id h
  made_destroyed Event view id h = made_closed view id h

  made_destroys : (side : Side) (what : Destroys) (id : ℕ) (view : Objects) → HoldsOfMade P view
      → HoldsOfMade P (destroys side what id view)
  made_destroys side Nothing id view h = h
  made_destroys side Target id view h = made_destroyed side view id h
  made_destroys side (Arg place) id view h = made_destroyed side view id h

  made_after : (side : Side) (view : Objects) (new : Option NewObject) (what : Destroys) (id : ℕ)
      → OpensHolding P new → HoldsOfMade P view → HoldsOfMade P (after side view new what id)
  made_after side view new what id o h =
      made_destroys side what id (opens view new) (made_opened view new o h)

-- what an event makes
pub opens_made : (tables : List Interface) → Valid tables → (place opcode version : ℕ) (m : MessageSignature)
    (values : List Argument) (o : Option NewObject) → signature_at tables place Event opcode ≡ Some m
    → made tables version m.kinds values ≡ o → OpensHolding (IsMadeByEvent tables) o
opens_made tables v place opcode version m values None at is = tt
opens_made tables v place opcode version m values (Some new) at is =
    λ of_server. made_by_event tables v place opcode version m values new at is

-- a weaker property
pub opens_by : (P Q : Iface → Type 0) → ((iface : Iface) → P iface → Q iface) → (o : Option NewObject)
    → OpensHolding P o → OpensHolding Q o
opens_by P Q by None h = tt
opens_by P Q by (Some new) h = λ of_server. by new.iface (h of_server)

-- a request makes no object in the server's range
opens_none : (P : Iface → Type 0) (core : Core) (target : Object) (opcode : ℕ) (list : List CallArg) (m : MessageSignature)
    → ObjectsAreSound core.view
    → checked core.outbox.limit.bytes core.tables Request core.view target opcode (given list) ≡ Ok m
    → OpensHolding P (made_at core Request target m (given list))
opens_none P core target opcode list m s e =
    let p = passes core.outbox.limit.bytes core.tables Request core.view target opcode (given list) m e in
    subst (OpensHolding P) (sym (made-next core Request target opcode list m p.entry e p.row))
    (by_iface (call_makes m.kinds) p.entry.version)
  where
    by_iface : (iface : Option Iface) (version : ℕ)
        → OpensHolding P (next_object Client core.view version iface)
    by_iface None version = tt
    by_iface (Some iface) version = λ of_server. absurd (cc (next_of_client core.view s, of_server))

-- what a checked call makes
opens_lasting : (core : Core) (side : Side) (target : Object) (opcode : ℕ) (list : List CallArg) (m : MessageSignature)
    → Valid core.tables → ObjectsAreSound core.view
    → checked core.outbox.limit.bytes core.tables side core.view target opcode (given list) ≡ Ok m
    → OpensLasting core.tables (made_at core side target m (given list))
opens_lasting core Request target opcode list m v s e =
    opens_none (NoEventEnds core.tables) core target opcode list m s e
opens_lasting core Event target opcode list m v s e =
    let p = passes core.outbox.limit.bytes core.tables Event core.view target opcode (given list) m e in
    let new = made_at core Event target m (given list) in
    opens_by (IsMadeByEvent core.tables) (NoEventEnds core.tables) (λ iface i. i.lasting) new
    (opens_made core.tables v p.entry.iface.0 opcode (version_at (look core.view target.id)) m
    (map (wired (next_id Server core.view)) (given list)) new p.exists refl)

-- an event that follows a message does not change the objects
pub followed_view : (b : Bool) (id : ℕ) (k : Core) → (with_following b id k).view ≡ k.view
followed_view true id k = refl
followed_view false id k = refl

followed_tables : (b : Bool) (id : ℕ) (k : Core) → (with_following b id k).tables ≡ k.tables
followed_tables true id k = refl
followed_tables false id k = refl

-- a call does not change the tables
pub tables_sent : (core : Core) (side : Side) (target : Object) (opcode : ℕ) (list : List CallArg)
    → (after_send core side target opcode (given list)).tables ≡ core.tables
tables_sent core side target opcode list =
    by_check (checked core.outbox.limit.bytes core.tables side core.view target opcode (given list))
  where
    by_check : (r : Result MessageSignature SendError)
        → (after_checked core side target opcode (given list) r).tables ≡ core.tables
    by_check (Err why) = refl
    by_check (Ok m) = followed_tables (following side m.destroys)
        (ended_id m.destroys target.id (map (wired 0) (given list))) _

made_sent : (P : Iface → Type 0) (core : Core) (side : Side) (target : Object) (opcode : ℕ) (list : List CallArg)
    → ((m : MessageSignature)
    → checked core.outbox.limit.bytes core.tables side core.view target opcode (given list) ≡ Ok m
    → OpensHolding P (made_at core side target m (given list))) → HoldsOfMade P core.view
    → HoldsOfMade P (after_send core side target opcode (given list)).view
made_sent P core side target opcode list opening h =
    by_check (checked core.outbox.limit.bytes core.tables side core.view target opcode (given list)) refl
  where
    by_check : (r : Result MessageSignature SendError)
        → checked core.outbox.limit.bytes core.tables side core.view target opcode (given list) ≡ r
        → HoldsOfMade P (after_checked core side target opcode (given list) r).view
    by_check (Err why) e = h
    by_check (Ok m) e =
        let id = ended_id m.destroys target.id (map (wired 0) (given list)) in
        let new = made_at core side target m (given list) in
        subst (HoldsOfMade P) (sym (followed_view (following side m.destroys) id _))
        (made_after P side core.view new m.destroys id (opening m e) h)

pub lasting_sent : (core : Core) (side : Side) (target : Object) (opcode : ℕ) (list : List CallArg)
    → Valid core.tables → ObjectsAreSound core.view → NoEventEndsMade core.tables core.view
    → NoEventEndsMade core.tables (after_send core side target opcode (given list)).view
lasting_sent core side target opcode list v s h = made_sent (NoEventEnds core.tables) core side target opcode list
    (λ m e. opens_lasting core side target opcode list m v s e) h

-- a request keeps the property
pub made_requested : (P : Iface → Type 0) (core : Core) (target : Object) (opcode : ℕ) (list : List CallArg)
    → ObjectsAreSound core.view → HoldsOfMade P core.view
    → HoldsOfMade P (after_send core Request target opcode (given list)).view
made_requested P core target opcode list s h = made_sent P core Request target opcode list
    (λ m e. opens_none P core target opcode list m s e) h

-- Ids of the server's range are freed neither by opening objects nor by making zombies. So a client
-- frees none.

abbrev FreesNone : Objects → Type 0
FreesNone view = view.server.freed ≡ []

pub freed_opened : (view : Objects) (new : Option NewObject) → FreesNone view → FreesNone (opens view new)
freed_opened view None h = h
freed_opened view (Some m) h = by_range (is_of_server m.id)
  where
    by_range : (b : Bool) → (cond b (table.opened_at view.server (table_id m.id) m.iface m.version) view.server).freed ≡ []
    by_range true = ap (table.without (table_id m.id)) h
    by_range false = h

pub freed_zombied : (view : Objects) (id : ℕ) → FreesNone view → FreesNone (zombied view id)
freed_zombied view id h = by_range (is_of_server id)
  where
    by_range : (b : Bool) → (cond b (table.zombied view.server (table_id id)) view.server).freed ≡ []
    by_range true = h
    by_range false = h

-- closing an object of the client's range keeps the server's
pub freed_closed : (view : Objects) (id : ℕ) → is_of_server id ≡ false → FreesNone view → FreesNone (closed view id)
freed_closed view id client h = rw client h

freed_destroys : (what : Destroys) (id : ℕ) (view : Objects) → FreesNone view
    → FreesNone (destroys Request what id view)
freed_destroys Nothing id view h = h
freed_destroys Target id view h = freed_zombied view id h
freed_destroys (Arg place) id view h = freed_zombied view id h

pub freed_sent : (core : Core) (target : Object) (opcode : ℕ) (list : List CallArg) → FreesNone core.view
    → FreesNone (after_send core Request target opcode (given list)).view
freed_sent core target opcode list h =
    by_check (checked core.outbox.limit.bytes core.tables Request core.view target opcode (given list))
  where
    by_check : (r : Result MessageSignature SendError)
        → FreesNone (after_checked core Request target opcode (given list) r).view
    by_check (Err why) = h
    by_check (Ok m) =
        freed_destroys m.destroys (ended_id m.destroys target.id (map (wired 0) (given list)))
        (opens core.view (made_at core Request target m (given list)))
        (freed_opened core.view (made_at core Request target m (given list)) h)
