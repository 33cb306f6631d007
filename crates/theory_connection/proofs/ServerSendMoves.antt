-- The moves in which the server writes.
use Rattle.std.proofs.Common.{◌≡◌, ℕ, Bool, true, false, cond, List, [], ◌∷◌, ◌++◌, map, length}
use Rattle.std.proofs.Common.{refl, sym, ap, subst, ◌∙◌}
use Rattle.std.proofs.lemmas.Bool.{not-false}
use Rattle.std.specs.Prelude.{option_map, not, ◌||◌}
use Rattle.std.specs.declared.option.Option.{Option}
use Rattle.std.specs.declared.option.Option.TheVariants.{None, Some}
use Rattle.std.specs.declared.result.Result.{Result}
use Rattle.std.specs.declared.result.Result.TheVariants.{Ok}
use Rattle.wl_sigs.specs.Side.TheVariants.{Event}
use Rattle.wl_sigs.specs.Tables.{Interface, interface_at, signature_at, destroys_target, destroys_one}
use Rattle.wl_sigs.specs.Valid.{Valid}
use Rattle.wl_sigs.specs.Tables as sigs
use Rattle.wl_sigs.specs.Destroys.{Destroys}
use Rattle.wl_sigs.specs.Destroys.TheVariants.{Nothing, Target, Arg as ends_arg}
use Rattle.wl_sigs.specs.Fixed.{display, registry}
use Rattle.wl_message.specs.Outgoing.{queued}
use Rattle.wl_object_map.specs.declared.object.Object.{Object}
use Rattle.wl_object_map.specs.declared.object.Entry.{Entry}
use Rattle.wl_objects.specs.declared.error.SendError.{SendError}
use Rattle.wl_objects.specs.declared.error.SendError.TheVariants as refusals
use Rattle.wl_object_map.specs.declared.object.Maker.TheVariants.{Server}
use Rattle.wl_object_map.specs.Objects.{Objects, ObjectsAreSound, look, closed, next_id, next_birth, can_open}
use Rattle.wl_objects.specs.Writing.{Given, wired, message_bytes, is_live_as}
use Rattle.wl_objects.specs.Messages.{NewObject, ended_id, after, checked, live_row, same_iface}
use Rattle.wl_connection.specs.Core.{Core}
use Rattle.wl_connection.specs.Sending.{send_answer, after_send, after_checked, made_at, opens_object, with_following}
use Rattle.wl_connection.proofs.Ends.{no_event}
use Rattle.wl_sigs.specs.Rules.{is_ended_by_event}
use Rattle.wl_server.specs.Calls.{drop_refusal, drop_at, after_drop, error_refusal}
use Rattle.theory_connection.specs.Meant.{IsAmongFirst, Known, Arg, ended_by, Message, Coming}
use Rattle.theory_connection.specs.Meant.{Event as event_of, Delete, renamed, born_of, birth_of, spelled_meant}
use Rattle.theory_connection.specs.Meant.{made_in, objects, born_of_entry}
use Rattle.theory_connection.specs.World.{World, Each, IfThere, IsThere, delete, event_written}
use Rattle.theory_connection.specs.World.{dropped, Steps, writes_event, drops, WriteEvent}
use Rattle.theory_connection.specs.Pair.{ended_mark, after_post, PairState, ServerSend, ServerDrop}
use Rattle.theory_connection.specs.Pair.{PostError, with_server_core, Writes, accepted, refused}
use Rattle.theory_connection.specs.Pair.{no_memory, Calls, done}
use Rattle.theory_connection.specs.Answers.{birth_at}
use Rattle.theory_connection.specs.Flight.{IsBelow, server_rows, tells, all_tells}
use Rattle.theory_connection.specs.Stands.{StandsBy, by_event}
use Rattle.theory_connection.specs.Runs.{FitsWords}
use Rattle.theory_connection.proofs.WholeInFlight.{ThereRow, each_by, each_more}
use Rattle.theory_connection.proofs.RowsAfterMessage.{made_map, objects_map, each_map}
use Rattle.theory_connection.proofs.ReadAsMeant.{made_of}
use Rattle.std.proofs.Common.{◌⊎◌, inl, inr, is_some, ◌≤◌, arith}
use Rattle.std.proofs.lemmas.List.{append-nil}
use Rattle.std.proofs.lemmas.Bool.Decides.{nat_tests}
use Rattle.wl_wire.specs.declared.kind.Iface.{Iface}
use Rattle.wl_object_map.specs.declared.object.Maker.{Maker}
use Rattle.wl_object_map.specs.declared.object.Maker.TheVariants.{Client}
use Rattle.wl_object_map.specs.View as table
use Rattle.wl_object_map.specs.View.{max_ids}
use Rattle.wl_object_map.specs.Views.{free_is as free_in, free_or_next-next_id}
use Rattle.wl_object_map.specs.Ranges.{is_of_server}
use Rattle.wl_object_map.specs.ObjectsLaws.{next_of_server, free-no_row, free-next}
use Rattle.wl_objects.specs.Messages.{opens as opens_view}
use Rattle.theory_connection.specs.Meant.{Born, server_birth, spelled_coming}
use Rattle.theory_connection.specs.Flight.{Rows, with_told, births_in}
use Rattle.theory_connection.proofs.WholeInFlight.{FreshTold, server_told}
use Rattle.theory_connection.proofs.Births.{counted_more, next_counted}
use Rattle.theory_connection.proofs.Sets.{gone_count}
use Rattle.theory_connection.proofs.Bridges.{by_server, server_closed}
use Rattle.theory_connection.proofs.RowsAfterMessage.{server_after_event}
use Rattle.theory_connection.proofs.EventWritten.{there_client}
use Rattle.theory_connection.proofs.ClientSendMove.{if_map, new_births}
use Rattle.theory_connection.proofs.Calls.{Checked, is_checked, LiveAt, live_as, handed_all}
use Rattle.theory_connection.proofs.Calls.{tokens_all}
use Rattle.theory_connection.proofs.TwoRanges.{row_low}
use Rattle.wl_connection.proofs.MadeByEvent.{IsMadeByEvent, made_by_event}
use Rattle.theory_connection.proofs.Rules.{ends_so}
use Rattle.theory_connection.proofs.Written.{the_made, the_new, the_args, the_call, new_id, new_birth, CallIs, call_is}
use Rattle.theory_connection.proofs.Written.{call_ends, accepted_call, opens, no_delete}
use Rattle.theory_connection.proofs.ClientSendMove.{made_same}
use Rattle.theory_connection.proofs.EndedObject.{ended_view, ends_have, after_is, if_by, born_ends}
use Rattle.theory_connection.proofs.EventWritten.{CanTell, told_core, dropped_core, tell_stands, drop_stands}
use Rattle.theory_connection.proofs.Moves.{LeadsTo, Moves, Outcome, goes_on, posts_it, stays}
use Rattle.theory_connection.proofs.Moves.{telling, event_below, delete_below}
use Rattle.std.proofs.Common.{◌<◌, ◌^◌}
use Rattle.wl_server.specs.Calls.{error_at, is_error_text}
use Rattle.wl_connection.proofs.Messages.{whole_within}
use Rattle.theory_connection.specs.World.{Posted, Running, Failing, in_stage, posts}
use Rattle.theory_connection.specs.Stands.{comes, IsErrorAbout, error_message}
use Rattle.theory_connection.proofs.Channels.{pushed}
use Rattle.theory_connection.proofs.Stands.{none_behind}
use Rattle.theory_connection.proofs.ErrorRead.{error_values, error_short}
use Rattle.theory_connection.proofs.Errors.{before, server_lives, nothing_behind, no_mark}

pub there_live : (v : Objects) (x : Known) → LiveAt v x → ThereRow (server_rows v) x
there_live v x l = ap (option_map (born_of_entry x.id)) l.there ∙ ap Some l.same

no_registry : (a b : Bool) → (a || b) ≡ false → b ≡ false
no_registry true b h = absurd (cc h)
no_registry false b h = h

event_ends : (tables : List Interface) → Valid tables
    → (x : Known) (args : List (Arg Known)) (opcode : ℕ) (m : sigs.MessageSignature)
    → signature_at tables x.born.iface.0 Event opcode ≡ Some m
    → IfThere (λ y. by_event tables y.born ≡ true) (ended_by m.destroys x args)
event_ends tables v x args opcode m h = by_what m.destroys refl
  where
    by_what : (what : Destroys) → m.destroys ≡ what
        → IfThere (λ y. by_event tables y.born ≡ true) (ended_by what x args)
    by_what Nothing d = tt
    by_what Target d = ends_so tables x.born opcode m h (ap destroys_target d)
    by_what (ends_arg k) d = absurd (no_event tables x.born.iface.0 opcode m k v h d)

-- the server's next object has a free id
pub next_told : (v : Objects) (x : Known) → ObjectsAreSound v → can_open Server v ≡ true
    → x.id ≡ next_id Server v → x.born.birth ≡ server_birth v.server.births → FreshTold (server_rows v) x
next_told v x s o e b =
    let place = table.next_id v.server in
    let f = free_in v.server place s.server (free_or_next-next_id v.server) in
    let low : place ≤ max_ids = grind (arith, nat_tests, o) in
    record {
      range = ap is_of_server e ∙ next_of_server v s;
      free = ap (λ (i : ℕ). option_map (born_of_entry i) (look v i)) e
          ∙ ap (option_map (born_of_entry (next_id Server v)))
          (free-no_row v (next_id Server v) s (free-next Server v s));
      next = omega (arith, f.at_most_next, e);
      birth = b;
      low = omega (arith, low, e);
      left = grind (arith, nat_tests, o);
    }

-- the new object of an event, if there is one, is fresh
pub told_fits : (v : Objects) (new : Known) (o : Option Known) → ObjectsAreSound v → new.id ≡ next_id Server v
    → new.born.birth ≡ server_birth v.server.births
    → (o ≡ None) ⊎ (o ≡ Some new) → IfThere (λ (x : Known). can_open Server v ≡ true) o
    → IfThere (FreshTold (server_rows v)) o
told_fits v new None s i b h c = tt
told_fits v new (Some x) s i b h c =
    let e : x ≡ new = elim h [ inl p ↦ absurd (cc p) | inr p ↦ cc ] in
    let id : x.id ≡ next_id Server v = ap (λ (k : Known). k.id) e ∙ i in
    let birth : x.born.birth ≡ server_birth v.server.births = ap (λ (k : Known). k.born.birth) e ∙ b in
    next_told v x s c id birth

-- the interface of the new object is one that the server may make
told_made : (P : Iface → Type 0) (o : Option Known) (made : Option NewObject) → made ≡ option_map made_of o
    → ((m : NewObject) → made ≡ Some m → P m.iface) → IfThere (λ x. P x.born.iface) o
told_made P None made e f = tt
told_made P (Some x) made e f = f (made_of x) e

pub server_can : (p : PairState) (w : World) (asked : List (Message Known)) (told : List (Coming Known))
    (s : StandsBy p w asked told) (target : Object) (opcode : ℕ) (given : List Given)
    (signature : sigs.MessageSignature)
    → (c : Checked p.server.core.outbox.limit.bytes p.server.core.tables Event p.server.core.view target opcode given
    signature) (k : CallIs p.server.core Event target opcode given signature c.entry)
    → IfThere (λ (x : Known). can_open Server p.server.core.view ≡ true)
    (made_in (the_args p.server.core Event c.entry given signature))
    → CanTell p (the_call p.server.core Event c.entry target opcode given signature)
server_can p w asked told s target opcode given signature c k n =
    let core = p.server.core in
    let v = core.view in
    let m = the_call core Event c.entry target opcode given signature in
    let mk = the_made core Event c.entry given signature in
    let rule = told_made (IsMadeByEvent core.tables) (made_in m.args) mk k.made_is
    (λ new e. made_by_event core.tables s.terms.valid c.entry.iface.0 opcode c.entry.version signature
    (map (wired (next_id Server v)) given) new c.signed e) in
    record {
      fitly = record {
        fits = k.fits_it;
        no_delete_id = no_delete Event c.entry.iface opcode c.hidden;
        tells = λ h. absurd (let no = no_registry (same_iface c.entry.iface display)
            (same_iface c.entry.iface registry) c.hidden in cc (h, no));
      };
      target = there_live v m.target (record { entry = c.entry; there = c.there; same = refl; live = c.live });
      args = each_by (LiveAt v) (ThereRow (server_rows v)) (there_live v) (objects m.args) k.live;
      new = told_fits v (the_new core Event c.entry given signature) (made_in m.args) s.server.sound
          (new_id Server v mk) (new_birth Server v mk) k.new n;
      new_plain = if_by (λ x r. r.lasting) (made_in m.args) rule;
      new_other = if_by (λ x r. r.other) (made_in m.args) rule;
      ends = event_ends p.server.core.tables s.terms.valid m.target m.args opcode signature c.signed;
      short = k.short;
    }

-- the delete of an object that an event ends is appended to the outbox
pub followed_event : (b : Bool) (id : ℕ) (o : Option Known) (c : Core) → b ≡ is_some o → IfThere (λ x. x.id ≡ id) o
    → with_following b id c ≡ record c {
      outbox =
          record c.outbox { messages = c.outbox.messages ++ map spelled_coming (delete o) };
    }
followed_event b id None c f h = ap (λ (k : Bool). with_following k id c) f
    ∙ (λ i. record c { outbox = record c.outbox { messages = sym (append-nil c.outbox.messages) i } })
followed_event b id (Some x) c f h = λ i. with_following (f i) (sym h i) c

pub left_by : (core : Core) (target : Object) (opcode : ℕ) (given : List Given) (signature : sigs.MessageSignature)
    → Valid core.tables → checked core.outbox.limit.bytes core.tables Event core.view target opcode given ≡ Ok signature
    → (c : Checked core.outbox.limit.bytes core.tables Event core.view target opcode given signature)
    (k : CallIs core Event target opcode given signature c.entry)
    → after_send core Event target opcode given ≡ told_core core (the_call core Event c.entry target opcode given signature)
left_by core target opcode given signature v e c k =
    let m = the_call core Event c.entry target opcode given signature in
    let new = option_map made_of (made_in m.args) in
    let mk : made_at core Event target signature given ≡ new =
    made_same core Event target given signature c.entry c.there ∙ k.made_is in
    let t = sym (tokens_all core.view (the_new core Event c.entry given signature) given) in
    let id = ended_id signature.destroys target.id (map (wired 0) given) in
    let ended = call_ends core Event target opcode given signature v c k in
    ap (after_checked core Event target opcode given) e
    ∙ (λ i. with_following (destroys_one signature.destroys) id (record core {
      view = after Event core.view (mk i) signature.destroys id;
      outbox = record core.outbox {
        messages = core.outbox.messages
            ++ queued (message_bytes target.id opcode (k.wire_is i)) (t i) ∷ [];
      };
    }))
    ∙ (λ i. with_following (destroys_one signature.destroys) id (record core {
      view = after_is Event core.view new signature.destroys id m.ends ended i;
      outbox = record core.outbox { messages = core.outbox.messages ++ spelled_meant m ∷ [] };
    }))
    ∙ followed_event (destroys_one signature.destroys) id m.ends (record core {
      view = ended_view Event (opens_view core.view new) m.ends;
      outbox = record core.outbox { messages = core.outbox.messages ++ spelled_meant m ∷ [] };
    }) ended.flag ended.same

told_births : (v : Objects) (o : Option Known) → ObjectsAreSound v → IfThere (FreshTold (server_rows v)) o
    → IfThere (λ x. x.born.birth ≡ birth_at (record { id = next_id Server v; birth = v.server.births })) o
told_births v None s h = tt
told_births v (Some x) s h = h.birth ∙ sym (by_server (next_id Server v) v.server.births (next_of_server v s))

if_born : (births : ℕ) (o : Option Known) → IfThere (λ x. x.born.birth ≡ server_birth births) o
    → IfThere (λ (x : Born). x.birth ≡ server_birth births) (option_map born_of o)
if_born births None h = tt
if_born births (Some x) h = h

-- the call is a step in the world
pub tells_world : (p : PairState) (w : World) (asked : List (Message Known)) (told : List (Coming Known))
    (s : StandsBy p w asked told) (m : Message Known) → CanTell p m → w.stage ≡ Running
    → Steps p.server.core.tables w (WriteEvent (renamed born_of m)) (event_written w (renamed born_of m))
tells_world p w asked told s m c z =
    let v = p.server.core.view in
    writes_event (renamed born_of m) z (s.server.sets.shown m.target.id m.target.born c.target)
    (rw (objects_map born_of m.args) (each_map born_of (IsThere w.server) (objects m.args)
    (each_by (ThereRow (server_rows v)) (λ (x : Known). IsThere w.server x.born)
    (λ x h. s.server.sets.shown x.id x.born h) (objects m.args) c.args)))
    (rw (made_map born_of m.args, s.server.births) (if_born v.server.births (made_in m.args)
    (if_by (λ x f. f.birth) (made_in m.args) c.new)))

told_below : (s : Rows Born) (n : Option Known) (k : Maker) → births_in s k ≤ births_in (server_told s n) k
told_below s None k = omega arith
told_below s (Some x) Client = omega arith
told_below s (Some x) Server = omega arith

told_counted : (s : Rows Born) (n : Option Known) → IfThere (FreshTold s) n
    → IfThere (λ x. IsAmongFirst (births_in (server_told s n)) x.born.birth) n
told_counted s None f = tt
told_counted s (Some x) f =
    next_counted x.born.birth Server s.by_server.births (births_in (with_told s x.id x.born)) f.birth (omega arith)

-- the reply to the call
tells_one : (p : PairState) (w : World) (asked : List (Message Known)) (told : List (Coming Known))
    → StandsBy p w asked told → (m : Message Known) (c : CanTell p m)
    → LeadsTo p asked told (with_server_core p (told_core p.server.core m)) asked (told ++ (event_of m ∷ delete m.ends))
tells_one p w asked told s m c =
    let v = p.server.core.view in
    let f = c.fitly.fits in
    let there : IfThere (ThereRow (server_rows v)) m.ends =
    ends_have (ThereRow (server_rows v)) p.server.core.tables Event m f c.target c.args in
    let news = event_of m ∷ delete m.ends in
    let now = server_told (server_rows v) (made_in m.args) in
    let same : births_in (server_rows (ended_view Event (opens_view v (option_map made_of (made_in m.args))) m.ends))
    ≡ births_in now =
    ap births_in (server_after_event v (made_in m.args) m.ends c.new) ∙ gone_count m.ends now in
    let more : (k : Maker) → births_in (server_rows v) k ≤ births_in now k = told_below (server_rows v) (made_in m.args) in
    let below : (id : ℕ) (x : Born) → (server_rows v).rows id ≡ Some x → IsAmongFirst (births_in now) x.birth =
    λ id x h. counted_more x.birth (births_in (server_rows v)) (births_in now) (s.server.sets.below id x h) more in
    let ended : IfThere (λ x. IsAmongFirst (births_in now) x.born.birth) m.ends =
    if_by (λ x h. below x.id x.born h) m.ends there in
    telling (ended_view Event (opens_view v (option_map made_of (made_in m.args))) m.ends)
    (told_core p.server.core m).outbox p.server.registries news
    (λ k. subst (λ (n : Maker → ℕ). births_in (server_rows v) k ≤ n k) (sym same) (more k))
    (subst (λ (n : Maker → ℕ). Each (IsBelow n) (all_tells news)) (sym same)
    (each_more (IsBelow (births_in now)) (tells (event_of m)) (all_tells (delete m.ends))
    (event_below (server_rows v) (births_in now) below m c.target c.args
    (told_counted (server_rows v) (made_in m.args) c.new) ended)
    (delete_below (births_in now) m.ends ended)))

-- after a call of the server the pair represents the next world
pub server_send_keeps : (p : PairState) (w : World) (asked : List (Message Known)) (told : List (Coming Known))
    → StandsBy p w asked told → w.stage ≡ Running → (target : Object) (opcode : ℕ) (given : List Given)
    → Each FitsWords given
    → (reply : Result (Option Object) SendError) (p' : PairState)
    → Writes (send_answer p.server.core Event target opcode given)
    (opens_object (checked p.server.core.outbox.limit.bytes p.server.core.tables Event p.server.core.view target opcode
    given)) p
    (with_server_core p (after_send p.server.core Event target opcode given)) reply p'
    → Moves p w asked told (ServerSend target opcode given) (ServerSend reply) p'
server_send_keeps p w asked told s z target opcode given g reply p' (accepted {new = new} h) =
    let core = p.server.core in
    let a = accepted_call core Event target opcode given new (server_lives s z) h in
    let c = is_checked core.outbox.limit.bytes core.tables Event core.view target opcode given a.signature a.checks in
    let k = call_is core Event target opcode given a.signature s.terms.valid s.server.sound g c in
    let o = opens core Server (made_at core Event target a.signature given) new a.opens_it in
    let args = the_args core Event c.entry given a.signature in
    let n = if_map (can_open Server core.view ≡ true) made_of (made_in args)
    (subst (IfThere (λ (x : NewObject). can_open Server core.view ≡ true))
    (made_same core Event target given a.signature c.entry c.there ∙ k.made_is) o.can) in
    let can = server_can p w asked told s target opcode given a.signature c k n in
    let m = the_call core Event c.entry target opcode given a.signature in
    let object : Object = record { id = next_id Server core.view; birth = next_birth Server core.view } in
    record {
      world = event_written w (renamed born_of m);
      answers = before z (accepted h) (record {
        message = renamed born_of m;
        is = record { signature = a.signature; there = c.signed; ends = born_ends m a.signature.destroys refl };
        target_is = ap (λ (n : ℕ). birth_at (record { id = target.id; birth = n })) c.birth;
        opcode_is = refl;
        args_are = handed_all core.view (the_new core Event c.entry given a.signature) (server_birth w.server_births)
            a.signature.kinds given
            (new_birth Server core.view (the_made core Event c.entry given a.signature)
            ∙ ap server_birth (sym s.server.births)) k.right;
        new_is = ap (option_map birth_of) (made_map born_of args)
            ∙ new_births (made_in args) object (told_births core.view (made_in args) s.server.sound can.new)
            ∙ ap (option_map birth_at) (ap (option_map (λ (y : NewObject). object))
            (sym (made_same core Event target given a.signature c.entry c.there ∙ k.made_is)) ∙ sym o.is);
        steps = tells_world p w asked told s m can z;
      });
      outcome = subst (λ (x : Core). Outcome p asked told (with_server_core p x) (event_written w (renamed born_of m)))
          (sym (left_by core target opcode given a.signature s.terms.valid a.checks c k))
          (goes_on asked (told ++ (event_of m ∷ delete m.ends)) (tell_stands p w asked told s m can z)
          (tells_one p w asked told s m can));
    }
server_send_keeps p w asked told s z target opcode given g reply p' (refused h) =
    record { world = w; answers = before z (refused h) refl; outcome = goes_on asked told s stays }
server_send_keeps p w asked told s z target opcode given g reply p' (no_memory h o) =
    record { world = w; answers = before z (no_memory h o) refl; outcome = goes_on asked told s stays }

-- ---- dropping

-- an object that can be dropped
pub record Droppable (core : Core) (object : Object) : Type 0 where
  pub entry : Entry
  pub there : look core.view object.id ≡ Some entry
  pub birth : entry.birth ≡ object.birth
  pub by : is_ended_by_event (interface_at core.tables entry.iface.0) ≡ true

by_row : (core : Core) (entry : Entry) (b : Bool) (why : SendError) (rest : Option SendError)
    → not (is_ended_by_event (interface_at core.tables entry.iface.0)) ≡ b → cond b (Some why) rest ≡ None
    → is_ended_by_event (interface_at core.tables entry.iface.0) ≡ true
by_row core entry true why rest e h = absurd (cc h)
by_row core entry false why rest e h = not-false _ e

live_found : (birth : ℕ) (o : Option Entry) (b : Bool) (e : Entry) → is_live_as birth o ≡ b → cond b o None ≡ Some e
    → (o ≡ Some e) × (e.birth ≡ birth)
live_found birth o true e h k =
    let l = live_as birth o h in
    let same : l.entry ≡ e = cc (l.there, k) in
    (k, ap (λ (x : Entry). x.birth) (sym same) ∙ l.birth_is)
live_found birth o false e h k = absurd (cc k)

droppable_at : (core : Core) (object : Object) (o : Option Entry) → live_row core.view object ≡ o
    → drop_at core o ≡ None → Droppable core object
droppable_at core object None e h = absurd (cc h)
droppable_at core object (Some entry) e h =
    let l = live_found object.birth (look core.view object.id) _ entry refl e in
    record { entry = entry; there = l.0; birth = l.1; by = by_row core entry _ _ _ refl h }

pub droppable : (core : Core) (object : Object) → core.failed ≡ false → drop_refusal core object ≡ None
    → Droppable core object
droppable core object l h =
    droppable_at core object (live_row core.view object) refl
    (sym (ap (λ (b : Bool). cond b (Some refusals.Failed) (drop_at core (live_row core.view object))) l) ∙ h)

-- after an object is dropped the pair represents the next world
pub server_drop_keeps : (p : PairState) (w : World) (asked : List (Message Known)) (told : List (Coming Known))
    → StandsBy p w asked told → w.stage ≡ Running → (object : Object) (reply : Result (Unit {0}) SendError) (p' : PairState)
    → Calls (drop_refusal p.server.core object) p (with_server_core p (after_drop p.server.core object)) reply p'
    → Moves p w asked told (ServerDrop object) (ServerDrop reply) p'
server_drop_keeps p w asked told s z object reply p' (done h) =
    let d = droppable p.server.core object (server_lives s z) h in
    let x : Known = record { id = object.id; born = born_of_entry object.id d.entry } in
    let there : ThereRow (server_rows p.server.core.view) x = ap (option_map (born_of_entry object.id)) d.there in
    let range = there_client p w asked told s x there d.by in
    let low = (row_low p.server.core.view object.id d.entry s.server.sound range d.there).1 in
    let same : births_in (server_rows (closed p.server.core.view x.id)) ≡ births_in (server_rows p.server.core.view) =
    ap births_in (server_closed p.server.core.view x.id) ∙ gone_count (Some x) (server_rows p.server.core.view) in
    record {
      world = dropped w x.born;
      answers = before z (done h) (record {
        object = x.born;
        is = ap (λ (n : ℕ). birth_at (record { id = object.id; birth = n })) d.birth;
        steps = drops x.born z (s.server.sets.shown x.id x.born there) d.by;
      });
      outcome = goes_on asked (told ++ Delete x ∷ []) (drop_stands p w asked told s x there d.by low z)
          (telling (closed p.server.core.view x.id) (dropped_core p.server.core x).outbox p.server.registries
          (Delete x ∷ [])
          (λ k. subst (λ (n : Maker → ℕ). births_in (server_rows p.server.core.view) k ≤ n k) (sym same) (omega arith)) (
            subst (λ (n : Maker → ℕ). IsAmongFirst n x.born.birth) (sym same)
                (s.server.sets.below x.id x.born there),
            tt,
          ));
    }
server_drop_keeps p w asked told s z object reply p' (refused h) =
    record { world = w; answers = before z (refused h) refl; outcome = goes_on asked told s stays }

-- ---- an error

-- an error about this object can be posted
record Postable (core : Core) (object : Object) (text : List ℕ) : Type 0 where
  entry : Entry
  there : look core.view object.id ≡ Some entry
  birth : entry.birth ≡ object.birth
  fits : is_error_text text ≡ true

text_fits : (text : List ℕ) (b : Bool) → is_error_text text ≡ b → cond b None (Some (refusals.WrongArgs 2)) ≡ None
    → is_error_text text ≡ true
text_fits text true e h = e
text_fits text false e h = absurd (cc h)

postable_at : (core : Core) (object : Object) (text : List ℕ) (o : Option Entry) → live_row core.view object ≡ o
    → error_at text o ≡ None → Postable core object text
postable_at core object text None e h = absurd (cc h)
postable_at core object text (Some entry) e h =
    let l = live_found object.birth (look core.view object.id) _ entry refl e in
    record { entry = entry; there = l.0; birth = l.1; fits = text_fits text _ refl h }

postable : (core : Core) (object : Object) (text : List ℕ) → core.failed ≡ false → error_refusal core object text ≡ None
    → Postable core object text
postable core object text l h =
    postable_at core object text (live_row core.view object) refl
    (sym (ap (λ (b : Bool). cond b (Some refusals.Failed) (error_at text (live_row core.view object))) l) ∙ h)

-- after an error is posted it is in flight, behind all events
post_stands : (p : PairState) (w : World) (asked : List (Message Known)) (told : List (Coming Known))
    (s : StandsBy p w asked told) (object : Object) (e : Posted) → w.stage ≡ Running
    → IsErrorAbout (server_rows p.server.core.view) object.id e
    → StandsBy (after_post p object e.code e.text) (in_stage w (Failing e)) asked told
post_stands p w asked told s object e z a =
    let error = error_message object.id e in
    let limit = p.client.core.inbox.limit in
    record {
      terms = s.terms;
      client = s.client;
      server = record {
        sets = s.server.sets;
        births = s.server.births;
        sound = s.server.sound;
        display = s.server.display;
        versions = s.server.versions;
        live = s.server.live;
        lives = refl;
      };
      plain = s.plain;
      none_made = s.none_made;
      requests = s.requests;
      behind = error ∷ [];
      events = record {
        in_world = s.events.in_world;
        in_boxes = pushed p.server.core.outbox (after_post p object e.code e.text).server.core.outbox
            p.client.core.inbox (map spelled_coming told) (error ∷ [])
            (none_behind p.server.core.outbox p.client.core.inbox (map spelled_coming told) s.behind
            s.events.in_boxes (nothing_behind s z)) refl refl (
              whole_within limit 1 0 (error_values object.id e) (omega arith)
                  (let short = error_short object.id e a.text in omega (arith, short, limit.in_range.0)),
              tt,
            );
        fit = s.events.fit;
      };
      error = comes e object.id refl
          (ap (λ (o : Option ℕ). is_some (ended_mark o (length p.recording))) (no_mark s z)) refl a;
      asks_counted = s.asks_counted;
      deletes_follow = s.deletes_follow;
      meet = s.meet;
      globals = s.globals;
      registries = s.registries;
    }

-- after an error is posted the pair represents the next world
pub post_error_keeps : (p : PairState) (w : World) (asked : List (Message Known)) (told : List (Coming Known))
    → StandsBy p w asked told → w.stage ≡ Running → (object : Object) (code : ℕ) (text : List ℕ) → code < 2 ^ 32
    → (reply : Result (Unit {0}) SendError) (p' : PairState)
    → Calls (error_refusal p.server.core object text) p (after_post p object code text) reply p'
    → Moves p w asked told (PostError object code text) (PostError reply) p'
post_error_keeps p w asked told s z object code text c reply p' (done h) =
    let d = postable p.server.core object text (server_lives s z) h in
    let born = born_of_entry object.id d.entry in
    let e : Posted = record { object = born; code = code; text = text } in
    let there = ap (option_map (born_of_entry object.id)) d.there in
    record {
      world = in_stage w (Failing e);
      answers = before z (done h) (record {
        object = born;
        is = ap (λ (n : ℕ). birth_at (record { id = object.id; birth = n })) d.birth;
        steps = posts e z (s.server.sets.shown object.id born there);
      });
      outcome = posts_it object code text refl (post_stands p w asked told s object e z
          (record { there = there; code = c; text = d.fits }));
    }
post_error_keeps p w asked told s z object code text c reply p' (refused h) =
    record { world = w; answers = before z (refused h) refl; outcome = goes_on asked told s stays }
