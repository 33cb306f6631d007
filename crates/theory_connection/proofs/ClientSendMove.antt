-- The move in which the client writes.
use Rattle.std.proofs.Common.{◌≡◌, ◌≢◌, ℕ, true, false, List, [], ◌∷◌, ◌++◌, map, ◌⊎◌, inl, inr}
use Rattle.std.proofs.Common.{refl, sym, ap, subst, ◌∙◌}
use Rattle.std.specs.Prelude.{option_map}
use Rattle.std.specs.declared.option.Option.{Option}
use Rattle.std.specs.declared.option.Option.TheVariants.{None, Some}
use Rattle.std.specs.declared.result.Result.{Result}
use Rattle.std.specs.declared.result.Result.TheVariants.{Ok}
use Rattle.wl_sigs.specs.Side.{Side}
use Rattle.wl_sigs.specs.Side.TheVariants.{Request}
use Rattle.wl_sigs.specs.Tables.{Interface, destroys_target, signature_at}
use Rattle.wl_sigs.specs.Tables as sigs
use Rattle.wl_sigs.specs.Destroys.{Destroys}
use Rattle.wl_sigs.specs.Destroys.TheVariants.{Nothing, Target, Arg as ends_arg}
use Rattle.wl_wire.specs.Argument.{Obj}
use Rattle.wl_sigs.specs.Valid.{Valid}
use Rattle.wl_message.specs.Outgoing.{queued}
use Rattle.wl_object_map.specs.declared.object.Object.{Object}
use Rattle.wl_object_map.specs.declared.object.Entry.{Entry}
use Rattle.wl_objects.specs.declared.error.SendError.{SendError}
use Rattle.wl_object_map.specs.declared.object.Maker.TheVariants.{Client}
use Rattle.wl_object_map.specs.Objects.{Objects, look, next_id, can_open}
use Rattle.wl_objects.specs.Writing.{Given, wired, message_bytes}
use Rattle.wl_objects.specs.Messages.{NewObject, made, maker_by, ended_id, after, checked}
use Rattle.wl_connection.specs.Core.{Core}
use Rattle.wl_connection.specs.Sending.{send_answer, after_send, after_checked, made_at, version_at, opens_object}
use Rattle.theory_connection.specs.Meant.{client_birth, Born, Known, Arg, object_at, ended_by, tokens, wire}
use Rattle.theory_connection.specs.Meant.{Message, Coming, renamed, born_of, birth_of, made_in, objects}
use Rattle.theory_connection.specs.Meant.{born_of_entry, live_entry}
use Rattle.theory_connection.specs.World.{World, display_born, Open, Each, IfThere, IsOpen}
use Rattle.theory_connection.specs.World.{request_written, Steps, writes_request, WriteRequest}
use Rattle.theory_connection.specs.Pair.{PairState, ClientSend, with_client_core, Writes, accepted, refused, no_memory}
use Rattle.theory_connection.specs.Answers.{WritesThat, handed, birth_at}
use Rattle.theory_connection.specs.Flight.{Fresh, client_rows, row_of_entry, as_row}
use Rattle.theory_connection.specs.Stands.{StandsBy, FitsSignature, SuitKinds}
use Rattle.theory_connection.specs.Runs.{FitsWords}
use Rattle.theory_connection.proofs.WholeInFlight.{OpenRow, each_by}
use Rattle.theory_connection.proofs.Bridges.{next_fresh, by_client}
use Rattle.wl_object_map.specs.Objects.{ObjectsAreSound}
use Rattle.wl_object_map.specs.ObjectsLaws.{next_of_client}
use Rattle.theory_connection.proofs.RowsAfterMessage.{made_map, objects_map, each_map}
use Rattle.theory_connection.proofs.ReadAsMeant.{made_of}
use Rattle.theory_connection.proofs.Calls.{Checked, is_checked, LiveAt, handed_all, tokens_all}
use Rattle.theory_connection.proofs.Rules.{target_plain, objects_plain, display_lasts}
use Rattle.theory_connection.proofs.Written.{the_made, the_new, the_call, new_id, new_birth, CallIs}
use Rattle.theory_connection.proofs.Written.{call_is, call_ends, accepted_call, Opens, opens}
use Rattle.theory_connection.proofs.RequestWritten.{CanAsk, asked_core, ask_stands}
use Rattle.theory_connection.proofs.EndedObject.{Mortal, after_is, argument_is, born_ends}
use Rattle.theory_connection.proofs.Moves.{Moves, Outcome, goes_on, stays, asking}
use Rattle.theory_connection.specs.World.{is_over}
use Rattle.theory_connection.proofs.Errors.{not_over, client_does}

-- the same with equal tables
abbrev pub moved : (t u : List Interface) (side : Side) (m : Message Known) → t ≡ u → FitsSignature t side m
    → FitsSignature u side m
moved t u side m e f = record {
  signature = f.signature;
  there = subst (λ (x : List Interface). signature_at x m.target.born.iface.0 side m.opcode ≡ Some f.signature) e
      f.there;
  old_enough = f.old_enough;
  args = subst (λ (x : List Interface). SuitKinds x m.target.born.version f.signature.kinds m.args) e f.args;
  ends = f.ends;
  len = f.len;
  word = f.word;
  opcode = f.opcode;
  new_version = f.new_version;
  new_is = f.new_is;
  no_error = f.no_error;
}

open_live : (v : Objects) (x : Known) → LiveAt v x → OpenRow (client_rows v) x
open_live v x l = ap (option_map (row_of_entry x.id)) l.there
    ∙ ap (λ s. Some (as_row s (born_of_entry x.id l.entry))) l.live
    ∙ ap (λ (b : Born). Some (Open b)) l.same

-- a fact that holds if the mapped element is there holds if the element is
pub if_map : {X Y : Type 0} (P : Type 0) (f : X → Y) (o : Option X) → IfThere (λ (y : Y). P) (option_map f o)
    → IfThere (λ (x : X). P) o
if_map P f None h = tt
if_map P f (Some x) h = h

-- the new object, if there is one, is fresh
new_fits : (v : Objects) (new : Known) (o : Option Known) → ObjectsAreSound v → new.id ≡ next_id Client v
    → new.born.birth ≡ client_birth v.client.births
    → (o ≡ None) ⊎ (o ≡ Some new) → IfThere (λ (x : Known). can_open Client v ≡ true) o
    → IfThere (Fresh (client_rows v)) o × IfThere (λ x. x.id ≡ next_id Client v) o
new_fits v new None s i b h c = (tt, tt)
new_fits v new (Some x) s i b h c =
    let e : x ≡ new = elim h [ inl p ↦ absurd (cc p) | inr p ↦ cc ] in
    let id : x.id ≡ next_id Client v = ap (λ (k : Known). k.id) e ∙ i in
    let birth : x.born.birth ≡ client_birth v.client.births = ap (λ (k : Known). k.born.birth) e ∙ b in
    (next_fresh v x s c id birth, id)

-- a call does not destroy wl_display
pub not_display : (p : PairState) (w : World) (asked : List (Message Known)) (told : List (Coming Known))
    → StandsBy p w asked told → (id opcode : ℕ) (entry : Entry) (signature : sigs.MessageSignature)
    → look p.client.core.view id ≡ Some entry
    → signature_at p.server.core.tables entry.iface.0 Request opcode ≡ Some signature
    → destroys_target signature.destroys ≡ true → id ≢ 1
not_display p w asked told s id opcode entry signature l h d one =
    let e : Some entry ≡ Some (live_entry display_born) = sym l ∙ ap (look p.client.core.view) one ∙ s.client.display in
    let same : entry ≡ live_entry display_born = cc e in
    let f : signature_at p.server.core.tables 0 Request opcode ≡ Some signature =
    ap (λ (x : Entry). signature_at p.server.core.tables x.iface.0 Request opcode) (sym same) ∙ h in
    let no : true ≡ false = sym d ∙ display_lasts p.server.core.tables s.terms.valid opcode signature f in
    cc no

pub valid_client : (p : PairState) (w : World) (asked : List (Message Known)) (told : List (Coming Known))
    → StandsBy p w asked told → Valid p.client.core.tables
valid_client p w asked told s = subst Valid (sym s.terms.same_tables) s.terms.valid

-- the object that a call makes, from the entry of its target
pub made_same : (core : Core) (side : Side) (target : Object) (given : List Given) (signature : sigs.MessageSignature)
    (entry : Entry) → look core.view target.id ≡ Some entry
    → made_at core side target signature given ≡ the_made core side entry given signature
made_same core side target given signature entry h = ap
    (λ o. made core.tables (version_at o) signature.kinds (map (wired (next_id (maker_by side) core.view)) given)) h

signed_there : (p : PairState) (w : World) (asked : List (Message Known)) (told : List (Coming Known))
    (s : StandsBy p w asked told) (target : Object) (opcode : ℕ) (given : List Given)
    (signature : sigs.MessageSignature)
    → (c : Checked p.client.core.outbox.limit.bytes p.client.core.tables Request p.client.core.view target opcode given
    signature) → signature_at p.server.core.tables c.entry.iface.0 Request opcode ≡ Some signature
signed_there p w asked told s target opcode given signature c =
    subst (λ (t : List Interface). signature_at t c.entry.iface.0 Request opcode ≡ Some signature) s.terms.same_tables
    c.signed

-- a registry is not wl_display
registry_mortal : (p : PairState) (w : World) (asked : List (Message Known)) (told : List (Coming Known))
    → StandsBy p w asked told → (x : Known) → LiveAt p.client.core.view x → x.born.iface.0 ≡ 1 → x.id ≢ 1
registry_mortal p w asked told s x l h one =
    let e : Some l.entry ≡ Some (live_entry display_born) =
    sym l.there ∙ ap (look p.client.core.view) one ∙ s.client.display in
    let same : l.entry ≡ live_entry display_born = cc e in
    let no : 1 ≡ 0 = sym h ∙ ap (λ (b : Born). b.iface.0) (sym l.same ∙ ap (born_of_entry x.id) same) in
    cc no

-- the object that a call destroys is not wl_display
call_mortal : (p : PairState) (w : World) (asked : List (Message Known)) (told : List (Coming Known))
    → StandsBy p w asked told → (target : Object) (opcode : ℕ) (given : List Given) (signature : sigs.MessageSignature)
    → (c : Checked p.client.core.outbox.limit.bytes p.client.core.tables Request p.client.core.view target opcode given
    signature) (k : CallIs p.client.core Request target opcode given signature c.entry)
    → signature_at p.server.core.tables c.entry.iface.0 Request opcode ≡ Some signature
    → IfThere Mortal (the_call p.client.core Request c.entry target opcode given signature).ends
call_mortal p w asked told s target opcode given signature c k there = by_what signature.destroys refl
  where
    m : Message Known
    m = the_call p.client.core Request c.entry target opcode given signature

    by_what : (what : Destroys) → signature.destroys ≡ what → IfThere Mortal (ended_by what m.target m.args)
    by_what Nothing d = tt
    by_what Target d = not_display p w asked told s target.id opcode c.entry signature c.there there
        (ap destroys_target d)
    by_what (ends_arg n) d =
        let signed = c.signed in
        let same : k.fits_it.signature ≡ signature = cc (k.fits_it.there, signed) in
        let a = argument_is p.client.core.tables Request m k.fits_it n (valid_client p w asked told s)
        (ap (λ (x : sigs.MessageSignature). x.destroys) same ∙ d) in
        let live : LiveAt p.client.core.view a.1.object =
        (subst (λ (l : List (Arg Known)). Each (LiveAt p.client.core.view) (objects l)) a.1.are k.live).0 in
        subst (λ (l : List (Arg Known)). IfThere Mortal (object_at l n)) (sym a.1.are)
        (subst (λ (z : ℕ). IfThere Mortal (object_at (Obj (Some a.1.object) ∷ []) z)) (sym a.0)
        (registry_mortal p w asked told s a.1.object live a.1.registers))

pub client_can : (p : PairState) (w : World) (asked : List (Message Known)) (told : List (Coming Known))
    (s : StandsBy p w asked told) (target : Object) (opcode : ℕ) (given : List Given)
    (signature : sigs.MessageSignature)
    (new : Option Object)
    → (c : Checked p.client.core.outbox.limit.bytes p.client.core.tables Request p.client.core.view target opcode given
    signature) (k : CallIs p.client.core Request target opcode given signature c.entry)
    → Opens p.client.core Client (made_at p.client.core Request target signature given) new
    → CanAsk p (the_call p.client.core Request c.entry target opcode given signature)
client_can p w asked told s target opcode given signature new c k o =
    let core = p.client.core in
    let v = core.view in
    let tables = p.server.core.tables in
    let m = the_call core Request c.entry target opcode given signature in
    let f = moved core.tables tables Request m s.terms.same_tables k.fits_it in
    let there = signed_there p w asked told s target opcode given signature c in
    let can = if_map (can_open Client v ≡ true) made_of (made_in m.args)
    (subst (IfThere (λ (x : NewObject). can_open Client v ≡ true))
    (made_same core Request target given signature c.entry c.there ∙ k.made_is) o.can) in
    let n = new_fits v (the_new core Request c.entry given signature) (made_in m.args) s.client.sound
    (new_id Client v (the_made core Request c.entry given signature))
    (new_birth Client v (the_made core Request c.entry given signature)) k.new can in
    record {
      fitly = record { fits = f; binds = λ h. absurd (cc (h, c.hidden)) };
      target = open_live v m.target (record { entry = c.entry; there = c.there; same = refl; live = c.live });
      target_plain = target_plain tables s.terms.valid (born_of_entry target.id c.entry) opcode signature there;
      args = each_by (LiveAt v) (OpenRow (client_rows v)) (open_live v) (objects m.args) k.live;
      args_plain = objects_plain tables v (the_new core Request c.entry given signature) signature.kinds given k.right
          (s.terms.valid.no_any_in_requests c.entry.iface.0 opcode signature there)
          (s.terms.valid.race_free.no_arguments c.entry.iface.0 opcode signature there);
      new = n.0;
      new_next = n.1;
      new_can = can;
      mortal = call_mortal p w asked told s target opcode given signature c k there;
      short = k.short;
    }

-- the state that the call leaves is that after the message
left_by : (core : Core) (target : Object) (opcode : ℕ) (given : List Given) (signature : sigs.MessageSignature)
    → Valid core.tables → checked core.outbox.limit.bytes core.tables Request core.view target opcode given
    ≡ Ok signature
    → (c : Checked core.outbox.limit.bytes core.tables Request core.view target opcode given signature)
    (k : CallIs core Request target opcode given signature c.entry)
    → after_send core Request target opcode given
    ≡ asked_core core (the_call core Request c.entry target opcode given signature)
left_by core target opcode given signature v e c k =
    let m = the_call core Request c.entry target opcode given signature in
    let mk = made_same core Request target given signature c.entry c.there ∙ k.made_is in
    let t = sym (tokens_all core.view (the_new core Request c.entry given signature) given) in
    let id = ended_id signature.destroys target.id (map (wired 0) given) in
    ap (after_checked core Request target opcode given) e
    ∙ ((λ i. record core {
      view = after Request core.view (mk i) signature.destroys id;
      outbox = record core.outbox {
        messages = core.outbox.messages
            ++ queued (message_bytes target.id opcode (k.wire_is i)) (t i) ∷ [];
      };
    })
    ∙ (λ i. record core {
      view = after_is Request core.view (option_map made_of (made_in m.args)) signature.destroys id m.ends
          (call_ends core Request target opcode given signature v c k) i;
      outbox = record core.outbox {
        messages = core.outbox.messages
            ++ queued (message_bytes target.id opcode (map wire m.args)) (tokens m.args) ∷ [];
      };
    }))

-- the birth of the object that a call makes
pub new_births : (o : Option Known) (object : Object)
    → IfThere (λ x. x.born.birth ≡ birth_at object) o
    → option_map birth_of (option_map born_of o) ≡ option_map birth_at
    (option_map (λ (m : NewObject). object) (option_map made_of o))
new_births None object h = refl
new_births (Some x) object h = ap Some h

next_births : (v : Objects) (o : Option Known) → ObjectsAreSound v
    → IfThere (λ x. x.born.birth ≡ client_birth v.client.births) o
    → IfThere (λ x. x.born.birth ≡ birth_at (record { id = next_id Client v; birth = v.client.births })) o
next_births v None s h = tt
next_births v (Some x) s h = h ∙ sym (by_client (next_id Client v) v.client.births (next_of_client v s))

fresh_births : (v : Objects) (o : Option Known) → IfThere (Fresh (client_rows v)) o
    → IfThere (λ x. x.born.birth ≡ client_birth v.client.births) o
fresh_births v None h = tt
fresh_births v (Some x) h = h.birth

if_born : (births : ℕ) (o : Option Known) → IfThere (λ x. x.born.birth ≡ client_birth births) o
    → IfThere (λ (x : Born). x.birth ≡ client_birth births) (option_map born_of o)
if_born births None h = tt
if_born births (Some x) h = h

-- the call is a step in the world
pub asks_world : (p : PairState) (w : World) (asked : List (Message Known)) (told : List (Coming Known))
    (s : StandsBy p w asked told) (m : Message Known) → CanAsk p m
    → Steps p.client.core.tables w (WriteRequest (renamed born_of m)) (request_written w (renamed born_of m))
asks_world p w asked told s m c =
    let v = p.client.core.view in
    let births = fresh_births v (made_in m.args) c.new in
    writes_request (renamed born_of m) (not_over s) (s.client.sets.shown m.target.id (Open m.target.born) c.target)
    (rw (objects_map born_of m.args) (each_map born_of (IsOpen w.client) (objects m.args)
    (each_by (OpenRow (client_rows v)) (λ (x : Known). IsOpen w.client x.born)
    (λ x h. s.client.sets.shown x.id (Open x.born) h) (objects m.args) c.args)))
    (rw (made_map born_of m.args, s.client.births) (if_born v.client.births (made_in m.args) births))

pub sends_that : (p : PairState) (w : World) (asked : List (Message Known)) (told : List (Coming Known))
    (s : StandsBy p w asked told) (target : Object) (opcode : ℕ) (given : List Given)
    (signature : sigs.MessageSignature)
    (new : Option Object)
    → (c : Checked p.client.core.outbox.limit.bytes p.client.core.tables Request p.client.core.view target opcode given
    signature) (k : CallIs p.client.core Request target opcode given signature c.entry)
    → (o : Opens p.client.core Client (made_at p.client.core Request target signature given) new)
    → CanAsk p (the_call p.client.core Request c.entry target opcode given signature)
    → WritesThat p.client.core.tables Request w (birth_at target) opcode (map (handed (client_birth w.births)) given) new
    (request_written w (renamed born_of (the_call p.client.core Request c.entry target opcode given signature)))
sends_that p w asked told s target opcode given signature new c k o can =
    let core = p.client.core in
    let v = core.view in
    let m = the_call core Request c.entry target opcode given signature in
    let births = fresh_births v (made_in m.args) can.new in
    record {
      message = renamed born_of m;
      is = record { signature = signature; there = c.signed; ends = born_ends m signature.destroys refl };
      target_is = ap (λ (n : ℕ). birth_at (record { id = target.id; birth = n })) c.birth;
      opcode_is = refl;
      args_are = handed_all v (the_new core Request c.entry given signature) (client_birth w.births) signature.kinds given
          (new_birth Client v (the_made core Request c.entry given signature) ∙ ap client_birth (sym s.client.births)) k.right;
      new_is = ap (option_map birth_of) (made_map born_of m.args)
          ∙ new_births (made_in m.args) (record { id = next_id Client v; birth = v.client.births })
          (next_births v (made_in m.args) s.client.sound births)
          ∙ ap (option_map birth_at) (ap (option_map (λ (y : NewObject). record { id = next_id Client v; birth = v.client.births }))
          (sym (made_same core Request target given signature c.entry c.there ∙ k.made_is)) ∙ sym o.is);
      steps = asks_world p w asked told s m can;
    }

-- after a call of the client the pair represents the next world
pub client_send_keeps : (p : PairState) (w : World) (asked : List (Message Known)) (told : List (Coming Known))
    → StandsBy p w asked told → is_over w.stage ≡ false → (target : Object) (opcode : ℕ) (given : List Given)
    → Each FitsWords given
    → (reply : Result (Option Object) SendError) (p' : PairState)
    → Writes (send_answer p.client.core Request target opcode given)
    (opens_object (checked p.client.core.outbox.limit.bytes p.client.core.tables Request p.client.core.view target
    opcode given)) p
    (with_client_core p (after_send p.client.core Request target opcode given)) reply p'
    → Moves p w asked told (ClientSend target opcode given) (ClientSend reply) p'
client_send_keeps p w asked told s z target opcode given g reply p' (accepted {new = new} h) =
    let core = p.client.core in
    let a = accepted_call core Request target opcode given new s.client.lives h in
    let c = is_checked core.outbox.limit.bytes core.tables Request core.view target opcode given a.signature a.checks in
    let k = call_is core Request target opcode given a.signature (valid_client p w asked told s)
    s.client.sound g c in
    let o = opens core Client (made_at core Request target a.signature given) new a.opens_it in
    let can = client_can p w asked told s target opcode given a.signature new c k o in
    let m = the_call core Request c.entry target opcode given a.signature in
    record {
      world = request_written w (renamed born_of m);
      answers = client_does z tt (accepted h) (sends_that p w asked told s target opcode given a.signature new c k o can);
      outcome = subst (λ (x : Core). Outcome p asked told (with_client_core p x)
          (request_written w (renamed born_of m)))
          (sym (left_by core target opcode given a.signature (valid_client p w asked told s) a.checks c k))
          (goes_on (asked ++ m ∷ []) told (ask_stands p w asked told s m can)
          (asking m can (λ h. absurd (cc (h, c.hidden)))));
    }
client_send_keeps p w asked told s z target opcode given g reply p' (refused h) =
    record { world = w; answers = client_does z tt (refused h) refl; outcome = goes_on asked told s stays }
client_send_keeps p w asked told s z target opcode given g reply p' (no_memory h o) =
    record { world = w; answers = client_does z tt (no_memory h o) refl; outcome = goes_on asked told s stays }
