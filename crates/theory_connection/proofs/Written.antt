-- The message of a call to which no refusal applies.
use Rattle.std.proofs.Common.{◌≡◌, ℕ, ◌<◌, ◌≤◌, ◌^◌, Bool, true, false, cond, List, map, ◌⊎◌, inl}
use Rattle.std.proofs.Common.{inr, refl, sym, ap, subst, ◌∙◌, arith}
use Rattle.std.proofs.lemmas.Bool.{and_left, or_parts}
use Rattle.std.specs.Prelude.{option_map, slice_get, nat_eq, if◌then◌else◌}
use Rattle.std.specs.declared.option.Option.{Option}
use Rattle.std.specs.declared.option.Option.TheVariants.{None, Some}
use Rattle.std.specs.declared.result.Result.{Result}
use Rattle.std.specs.declared.result.Result.TheVariants.{Ok, Err}
use Rattle.wl_wire.specs.declared.kind.Iface.{Iface}
use Rattle.wl_sigs.specs.Side.{Side}
use Rattle.wl_sigs.specs.Side.TheVariants.{Request, Event}
use Rattle.wl_sigs.specs.Destroys.{Destroys}
use Rattle.wl_sigs.specs.Destroys.TheVariants.{Nothing, Target, Arg as ends_arg}
use Rattle.std.proofs.lemmas.Option.{slice_get-map}
use Rattle.wl_wire.specs.Argument.{Int, Uint, Fixed, Str, Obj, New, NewNamed, Array, Fd}
use Rattle.theory_connection.proofs.EndedObject.{EndsAs, ends_as}
use Rattle.wl_sigs.specs.Tables as sigs
use Rattle.wl_sigs.specs.Valid.{Valid}
use Rattle.wl_object_map.specs.declared.object.Object.{Object}
use Rattle.wl_object_map.specs.declared.object.Entry.{Entry}
use Rattle.wl_objects.specs.declared.error.SendError.{SendError}
use Rattle.wl_objects.specs.declared.error.SendError.TheVariants as refusals
use Rattle.wl_sigs.specs.Fixed.{display, registry}
use Rattle.wl_object_map.specs.declared.object.Maker.{Maker}
use Rattle.wl_object_map.specs.declared.object.Maker.TheVariants.{Client, Server}
use Rattle.wl_object_map.specs.View as table
use Rattle.wl_object_map.specs.Objects.{Objects, ObjectsAreSound, next_id, next_birth, can_open}
use Rattle.wl_object_map.specs.Views.{free_is as free_in, free_or_next-next_id}
use Rattle.wl_objects.specs.Writing.{Given, wired, message_len}
use Rattle.wl_objects.specs.Messages.{id_named, id_at, ended_id, NewObject, made, maker_by, checked}
use Rattle.wl_objects.specs.Messages.{is_hidden, is_delete_id, same_iface}
use Rattle.wl_objects.proofs.Calls.{len-any}
use Rattle.wl_objects.proofs.Wholes.{shown-error}
use Rattle.wl_connection.specs.Core.{Core}
use Rattle.wl_connection.specs.Sending.{opening_answer, answer_of, send_answer, made_at}
use Rattle.theory_connection.specs.Meant.{Known, Message, Arg, wire, made_in, objects}
use Rattle.theory_connection.specs.Meant.{born_of_entry, ended_by}
use Rattle.theory_connection.specs.World.{Each, IfThere}
use Rattle.theory_connection.specs.Stands.{FitsSignature}
use Rattle.theory_connection.specs.Runs.{FitsWords}
use Rattle.theory_connection.proofs.ReadAsMeant.{made_of, made_read}
use Rattle.theory_connection.proofs.Calls.{Checked, AllRight, all_right, meant, new_known, wire_all}
use Rattle.theory_connection.proofs.Calls.{LiveAt, all_live, matches, fit_all, new_all}
use Rattle.theory_connection.proofs.TwoRanges.{row_word}
use Rattle.theory_connection.proofs.Calls.{one_new, made_new, version_of}
use Rattle.theory_connection.proofs.Rules.{opcode_low, few_made, unnamed_none}

-- the object that a call of this side makes
abbrev pub the_made : Core → Side → Entry → List Given → sigs.MessageSignature → Option NewObject
the_made core side entry given signature = made core.tables entry.version signature.kinds
    (map (wired (next_id (maker_by side) core.view)) given)

-- the new object of a call
abbrev pub the_new : Core → Side → Entry → List Given → sigs.MessageSignature → Known
the_new core side entry given signature =
    new_known (maker_by side) core.view (the_made core side entry given signature)

-- the arguments of a call, as they are meant
abbrev pub the_args : Core → Side → Entry → List Given → sigs.MessageSignature → List (Arg Known)
the_args core side entry given signature = map (meant core.view (the_new core side entry given signature)) given

-- the message of a call
abbrev pub the_call : Core → Side → Entry → Object → ℕ → List Given → sigs.MessageSignature → Message Known
the_call core side entry target opcode given signature = record {
  target = record { id = target.id; born = born_of_entry target.id entry };
  opcode = opcode;
  args = the_args core side entry given signature;
  ends = ended_by signature.destroys (record { id = target.id; born = born_of_entry target.id entry })
      (the_args core side entry given signature);
}

-- a new object gets the next id
pub new_id : (maker : Maker) (view : Objects) (o : Option NewObject)
    → (new_known maker view o).id ≡ next_id maker view
new_id maker view None = refl
new_id maker view (Some m) = refl

-- a new object gets the next birth
pub new_birth : (maker : Maker) (view : Objects) (o : Option NewObject)
    → (new_known maker view o).born.birth ≡ record { maker = maker; number = next_birth maker view }
new_birth maker view None = refl
new_birth maker view (Some m) = refl

-- the next id is a word
next_low : (maker : Maker) (view : Objects) → ObjectsAreSound view → next_id maker view < 2 ^ 32
next_low Client view s =
    let f = free_in view.client (table.next_id view.client) s.client (free_or_next-next_id view.client) in
    omega (arith, f.at_most_next, s.client.ids_end)
next_low Server view s =
    let f = free_in view.server (table.next_id view.server) s.server (free_or_next-next_id view.server) in
    omega (arith, f.at_most_next, s.server.ids_end)

-- a message that a call can write is no delete_id
pub no_delete : (side : Side) (iface : Iface) (opcode : ℕ) → is_hidden side iface opcode ≡ false
    → is_delete_id side iface opcode ≡ false
no_delete Request iface opcode h = refl
no_delete Event iface opcode h = and_left (same_iface iface display) (nat_eq opcode 1)
    (or_parts (same_iface iface display) (same_iface iface registry) h).0

-- facts about the message of a call
pub record CallIs (core : Core) (side : Side) (target : Object) (opcode : ℕ) (given : List Given)
    (signature : sigs.MessageSignature) (entry : Entry) : Type 0 where
  pub right : AllRight core.view signature.kinds given
  pub fits_it : FitsSignature core.tables side (the_call core side entry target opcode given signature)
  pub made_is : the_made core side entry given signature ≡ option_map made_of (made_in (the_args core side entry given signature))
  pub new : (made_in (the_args core side entry given signature) ≡ None)
      ⊎ (made_in (the_args core side entry given signature) ≡ Some (the_new core side entry given signature))
  pub wire_is : map (wired (next_id (maker_by side) core.view)) given ≡ map wire (the_args core side entry given signature)
  pub live : Each (LiveAt core.view) (objects (the_args core side entry given signature))
  pub short : message_len (map wire (the_args core side entry given signature)) ≤ core.outbox.limit.bytes

if_made : (P : Known → Type 0) (o : Option Known) (x : Known) → (o ≡ None) ⊎ (o ≡ Some x) → ((o ≡ None → ⊥) → P x)
    → IfThere P o
if_made P None x h f = tt
if_made P (Some y) x h f = elim h [ inl p ↦ absurd (cc p) | inr p ↦ subst (IfThere P) (sym p) (f (λ e. cc e)) ]

-- the message of a call to which no refusal applies is the one that is meant
pub call_is : (core : Core) (side : Side) (target : Object) (opcode : ℕ) (given : List Given)
    (signature : sigs.MessageSignature)
    → Valid core.tables → ObjectsAreSound core.view → Each FitsWords given
    → (c : Checked core.outbox.limit.bytes core.tables side core.view target opcode given signature)
    → CallIs core side target opcode given signature c.entry
call_is core side target opcode given signature v s g c =
    let r = all_right core.view 0 signature.kinds given c.suit c.found in
    let mk = the_made core side c.entry given signature in
    let new = the_new core side c.entry given signature in
    let args = the_args core side c.entry given signature in
    let id = new_id (maker_by side) core.view mk in
    let below = next_low (maker_by side) core.view s in
    let low : new.id < 2 ^ 32 = omega (arith, id, below) in
    let m = matches core.tables (maker_by side) core.view c.entry.version (next_id (maker_by side) core.view) signature.kinds given
    r
    (few_made core.tables v c.entry.iface.0 side opcode signature c.signed)
    (unnamed_none core.tables v c.entry.iface side opcode signature c.signed c.hidden) in
    let a = fit_all core.tables core.view new c.entry.version signature.kinds given s low r m g
    (omega (arith, c.len, core.outbox.limit.in_range.1)) in
    let w : map wire args ≡ map (wired (next_id (maker_by side) core.view)) given =
    wire_all core.view new given ∙ ap (λ (n : ℕ). map (wired n) given) id in
    let n = new_all core.view new given in
    let short : message_len (map wire args) ≤ core.outbox.limit.bytes = let e =
    ap message_len (wire_all core.view new given) in omega (arith, e, len-any new.id given, c.len) in
    let since = v.sinces_in_range.from_one side c.entry.iface.0 opcode signature c.signed in
    record {
      right = r;
      fits_it = record {
        signature = signature;
        there = c.signed;
        old_enough = c.old_enough;
        args = a;
        ends = refl;
        len = omega (arith, short, core.outbox.limit.in_range.1);
        word = (row_word core.view target.id c.entry s c.there).1;
        opcode = opcode_low core.tables v c.entry.iface.0 side opcode signature c.signed;
        new_version = if_made (λ x. 1 ≤ x.born.version) (made_in args) new (made_new new args n)
            (λ h. (let e = version_of core.view new c.entry.version signature.kinds given r m h
            in omega (arith, e, since, c.old_enough)));
        new_is = one_new new args n;
        no_error = shown-error side c.entry.iface opcode c.hidden;
      };
      made_is = ap (made core.tables c.entry.version signature.kinds) (sym w)
          ∙ made_read core.tables c.entry.version signature.kinds args a;
      new = made_new new args n;
      wire_is = sym w;
      live = all_live core.view new signature.kinds given r;
      short = short;
    }

-- ---- the object that a call destroys

at_wired : (n : ℕ) (given : List Given) (k : ℕ) → id_at (map (wired 0) given) k ≡ id_at (map (wired n) given) k
at_wired n given k = ap id_named (slice_get-map (wired 0) given k)
    ∙ (one (slice_get given k) ∙ sym (ap id_named (slice_get-map (wired n) given k)))
  where
    one : (o : Option Given) → id_named (option_map (wired 0) o) ≡ id_named (option_map (wired n) o)
    one None = refl
    one (Some (Int z)) = refl
    one (Some (Uint z)) = refl
    one (Some (Fixed z)) = refl
    one (Some (Str z)) = refl
    one (Some (Obj None)) = refl
    one (Some (Obj (Some z))) = refl
    one (Some (New z)) = refl
    one (Some (NewNamed name own z)) = refl
    one (Some (Array z)) = refl
    one (Some (Fd z)) = refl

ids_wired : (what : Destroys) (id n : ℕ) (given : List Given)
    → ended_id what id (map (wired 0) given) ≡ ended_id what id (map (wired n) given)
ids_wired Nothing id n given = refl
ids_wired Target id n given = refl
ids_wired (ends_arg k) id n given = at_wired n given k

-- the object that a call destroys, by its id, is the one that its message means
pub call_ends : (core : Core) (side : Side) (target : Object) (opcode : ℕ) (given : List Given)
    (signature : sigs.MessageSignature) → Valid core.tables
    → (c : Checked core.outbox.limit.bytes core.tables side core.view target opcode given signature)
    (k : CallIs core side target opcode given signature c.entry)
    → EndsAs signature.destroys (ended_id signature.destroys target.id (map (wired 0) given))
    (the_call core side c.entry target opcode given signature).ends
call_ends core side target opcode given signature v c k =
    let m = the_call core side c.entry target opcode given signature in
    let there = c.signed in
    let same : k.fits_it.signature ≡ signature = cc (k.fits_it.there, there) in
    let ids = ids_wired signature.destroys target.id (next_id (maker_by side) core.view) given
    ∙ ap (ended_id signature.destroys target.id) k.wire_is in
    subst (λ (n : ℕ). EndsAs signature.destroys n m.ends) (sym ids)
    (subst (λ (x : sigs.MessageSignature). EndsAs x.destroys (ended_id x.destroys target.id (map wire m.args)) m.ends)
    same
    (ends_as core.tables side m k.fits_it v))

-- ---- the result of an accepted call

pub record Accepted (core : Core) (side : Side) (target : Object) (opcode : ℕ) (given : List Given)
    (new : Option Object) : Type 0 where
  pub signature : sigs.MessageSignature
  pub checks : checked core.outbox.limit.bytes core.tables side core.view target opcode given ≡ Ok signature
  pub opens_it : opening_answer core (maker_by side) (made_at core side target signature given) ≡ Ok new

fitting : (b : Bool) (x : Result (Option Object) SendError) (new : Option Object) (why : SendError)
    → cond b x (Err why) ≡ Ok new → x ≡ Ok new
fitting true x new why h = h
fitting false x new why h = absurd (cc h)

accepted_by : (core : Core) (side : Side) (target : Object) (opcode : ℕ) (given : List Given) (new : Option Object)
    (r : Result sigs.MessageSignature SendError) → checked core.outbox.limit.bytes core.tables side core.view target
    opcode given
    ≡ r
    → answer_of core side target given r ≡ Ok new → Accepted core side target opcode given new
accepted_by core side target opcode given new (Err why) e h = absurd (cc h)
accepted_by core side target opcode given new (Ok signature) e h =
    record { signature = signature; checks = e; opens_it = fitting _ _ new _ h }

-- an accepted call was checked, and opens the object that it returns
pub accepted_call : (core : Core) (side : Side) (target : Object) (opcode : ℕ) (given : List Given)
    (new : Option Object) → core.failed ≡ false → send_answer core side target opcode given ≡ Ok new
    → Accepted core side target opcode given new
accepted_call core side target opcode given new l h =
    accepted_by core side target opcode given new
    (checked core.outbox.limit.bytes core.tables side core.view target opcode given) refl
    (sym (ap (λ (b : Bool). if b then Err refusals.Failed
    else answer_of core side target given (checked core.outbox.limit.bytes core.tables side core.view target opcode
    given)) l) ∙ h)

-- an opening: the object can be opened, and is the maker's next
pub record Opens (core : Core) (maker : Maker) (o : Option NewObject) (new : Option Object) : Type 0 where
  pub can : IfThere (λ (m : NewObject). can_open maker core.view ≡ true) o
  pub is : new ≡ option_map
      (λ (m : NewObject). record { id = next_id maker core.view; birth = next_birth maker core.view }) o

opens_if : (core : Core) (maker : Maker) (m : NewObject) (new : Option Object) (b : Bool) (why : SendError)
    → can_open maker core.view ≡ b
    → cond b (Ok (Some (record { id = next_id maker core.view; birth = next_birth maker core.view }))) (Err why) ≡ Ok new
    → Opens core maker (Some m) new
opens_if core maker m new true why e h = record { can = e; is = cc h }
opens_if core maker m new false why e h = absurd (cc h)

-- a call that returns this object opens it
pub opens : (core : Core) (maker : Maker) (o : Option NewObject) (new : Option Object)
    → opening_answer core maker o ≡ Ok new → Opens core maker o new
opens core maker None new h = record { can = tt; is = cc h }
opens core maker (Some m) new h = opens_if core maker m new (can_open maker core.view) _ refl h
